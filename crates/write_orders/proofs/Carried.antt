-- A list of orders that is carried out in a loop: how it begins, what a turn leaves, and how it ends, in the form in which the code meets it.
use Prim.Native.Nat.{ℕ, suc, ◌+◌, ◌≤◌}
use mathlib.Core.Bool.{Bool, true, false, cond}
use mathlib.Core.List.{List, [], ◌∷◌}
use mathlib.Core.Option.{some}
use mathlib.Core.Path.{◌≡◌, refl, sym, ap, ◌∙◌}
use native.Mathlib.Omega.{arith}
use lib.ListN.{length, drop, drop_of_length-le}
use Rattle.std.specs.Prelude as std
use Rattle.std.specs.Prelude.{Option, Some}
use Rattle.std.specs.List.{slice_get}
use Rattle.std.proofs.lemmas.Option.{slice_get_within, get_or_from_slice_get}
use lib.Seq.{drop-cons}
use Rattle.common.specs.Answers.{Answer, refused}
use Rattle.common.specs.Refusals.{first_refusal}
use Rattle.volume.specs.Attributes.{write_status}
use Rattle.volume.specs.declared.state.State.{State}
use Rattle.common.specs.declared.refusal.Refusal.{Refusal}
use Rattle.block_service.specs.Service.{lent_refusals, moved_answer, Result, result_of, step}
use Rattle.block_service.specs.declared.service.Moved.{Moved}
use Rattle.isolation.specs.Runs.{is_success}
use Rattle.write_orders.specs.Orders.{call_of, batch, writes_from, written_of, nothing_yet, most_orders, write_orders}
use Rattle.write_orders.specs.declared.Order.{Order}
use Rattle.write_orders.proofs.Lists.{within_limit}
use Rattle.write_orders.proofs.Turns.{lent_refused}

-- 111, 5 or 15 refuses the first order, where there is one
pub not_begun : (st : State) (d v : List ℕ) (os : List Order) (m : ℕ) → length os ≤ most_orders → (length os ≡ 0 → ⊥)
    → some m ≡ first_refusal (lent_refusals st (length v) write_status) → batch 0 (refused m) v ≡ write_orders st d v os
unfolding writes_from is_success
not_begun st d v [] m few some_order e = absurd (some_order refl)
not_begun st d v (o ∷ os) m few some_order e =
    rw (within_limit st d v (o ∷ os) few) (rw (sym (lent_refused st d o v m (sym e))))

module _ (st : State) (d v₀ : List ℕ) (os : List Order) where
  -- what is left after i orders that succeeded, of which the last answered a and left the volume v, is what the list is
  pub record Left (i : ℕ) (a : Answer) (v : List ℕ) : Type 0 where
    pub same : writes_from st d i a v (drop i os) ≡ write_orders st d v₀ os
    pub long : length v ≡ length v₀

  pub begins : length os ≤ most_orders → Left 0 nothing_yet v₀
  begins few = record { same = sym (within_limit st d v₀ os few); long = refl }

  -- no order is left
  pub ended : (i : ℕ) (a : Answer) (v : List ℕ) → length os ≤ i → Left i a v → batch i a v ≡ write_orders st d v₀ os
  unfolding writes_from
  ended i a v h left = rw (drop_of_length-le os h) at left.same

  -- the turn of order i: it ends the list, or what is left goes on from what it left
  module _ (i : ℕ) (o : Order) (last a : Answer) (v after : List ℕ) (found : Some o ≡ slice_get os i) (left : Left i last v) (did : result_of a st after [] ≡ step st v (call_of st d o)) where
    whole : cond (is_success a) (writes_from st d (i + 1) a after (drop (suc i) os)) (batch i a after) ≡ write_orders st d v₀ os
    unfolding writes_from
    whole =
        let here : drop i os ≡ o ∷ drop (suc i) os = drop-cons os i o (slice_get_within os i o (sym found)) ∙ ap (λ (x : Order). x ∷ drop (suc i) os) (get_or_from_slice_get os i o o (sym found)) in
        rw (ap (λ (r : Result). r.answer) did, ap (λ (r : Result). r.volume) did) (rw here at left.same)

    pub ends_here : is_success a ≡ false → batch i a after ≡ write_orders st d v₀ os
    ends_here e = rw e at whole

    pub goes_on : is_success a ≡ true → length after ≡ length v → Left (i + 1) a after
    goes_on e kept = let next : i + 1 ≡ suc i = omega arith in record { same = rw next (rw (e, next) at whole); long = kept ∙ left.long }

  -- how it ends with an answer that is not success, from what the calls of a turn say
  pub ends_shown : (i : ℕ) (last : std.Result Moved Refusal) (b : Answer) (v after : List ℕ) (order : Order) (found : Option Order) (succeeded : Bool)
      → found ≡ Some order → found ≡ slice_get os i → Left i b v → result_of (moved_answer last) st after [] ≡ step st v (call_of st d order)
      → succeeded ≡ is_success (moved_answer last) → succeeded ≡ false → written_of (record { count = i; last = last }) after ≡ write_orders st d v₀ os
  unfolding written_of
  ends_shown i last b v after order found succeeded is at left did told failed = ends_here _ _ _ _ _ _ (sym is ∙ at) left did (sym told ∙ failed)
