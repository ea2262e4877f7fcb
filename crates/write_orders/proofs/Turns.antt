-- Laws of one order's turn: it is a write, which leaves the state; and how it is refused or carried out, in the form in which the code meets it.
use Prim.Native.Nat.{ℕ, ◌+◌, ◌≤◌, ◌<◌}
use mathlib.Core.Bool.{Bool, true, false, cond}
use mathlib.Core.List.{List, [], ◌++◌, append-nil}
use mathlib.Core.Option.{none, some}
use mathlib.Core.Path.{◌≡◌, sym, ap, ◌∙◌}
use native.Mathlib.Omega.{arith}
use borrow.Author.Tests.{lt-ltb, le-ltb, le-leb}
use lib.ListN.{length, get_or, take, drop, length-take}
use lib.Seq.{drop-length}
use Rattle.std.specs.List.{slice_range}
use Rattle.std.proofs.lemmas.List.Folds.{drop_split}
use Rattle.common.specs.Answers.{Answer, refused}
use Rattle.common.specs.Refusals.{first_refusal}
use Rattle.volume.specs.Attributes.{write_status}
use Rattle.volume.specs.BlockMap.{blocks}
use Rattle.volume.specs.State.{map_of}
use Rattle.volume.specs.declared.state.State.{State}
use Rattle.block_service.specs.Access.{count_moved}
use Rattle.block_service.specs.Blocks.{place}
use Rattle.block_service.specs.Judged.{stored, judged_write}
use Rattle.block_service.specs.Service.{Call, write, lent_refusals, refusals, Result, result_of, buffer_of, step}
use Rattle.block_service.specs.Blocks.{At}
use Rattle.block_service.proofs.blocks.Places.{place_found}
use Rattle.block_service.proofs.judged.Reaches.{judged_written}
use Rattle.block_service.proofs.service.Kept.{write_outside}
use Rattle.block_service.proofs.service.Steps.{refused-step, lent_first, lent_2, write_leaves}
use Rattle.write_orders.specs.Orders.{leaves, stretch, call_of}
use Rattle.write_orders.specs.declared.Order.{Order}

-- what the data has from a byte on
pub data_rest : (d : List ℕ) (f : ℕ) → f ≤ length d → slice_range d f (length d) ≡ drop f d
data_rest d f h = sym (drop_split d f (length d) h ∙ ap (λ (l : List ℕ). slice_range d f (length d) ++ l) (drop-length d) ∙ append-nil _)

module _ (st : State) (d : List ℕ) (o : Order) where
  -- what holds of every write holds of an order's
  pub as_write : (P : Call → Type 0) → ((b offset : ℕ) (new : List ℕ) → P (write b offset new)) → P (call_of st d o)
  unfolding call_of
  as_write P each = go (leaves d o)
    where
      go : (t : Bool) → P (cond t (write (blocks (map_of st)) 0 []) (write o.block o.offset (stretch d o)))
      go true = each _ _ _
      go false = each _ _ _

  -- of an order whose stretch leaves the data, and of one whose stretch does not
  pub stretch-leaves : length d < o.first + o.len → call_of st d o ≡ write (blocks (map_of st)) 0 []
  unfolding call_of leaves
  stretch-leaves h = rw (lt-ltb _ _ h)

  pub stretch_lies : o.first + o.len ≤ length d → call_of st d o ≡ write o.block o.offset (stretch d o)
  unfolding call_of leaves
  stretch_lies h = rw (le-ltb _ _ h)

  module _ (v : List ℕ) where
    pub order_state : (step st v (call_of st d o)).state ≡ st
    order_state = as_write (λ c. (step st v c).state ≡ st) (λ b offset new. ap (λ (r : Result). r.state) (sym (write_leaves st v b offset new)))

    -- 111, 5 and 15 refuse every order
    pub lent_refused : (m : ℕ) → first_refusal (lent_refusals st (length v) write_status) ≡ some m → result_of (refused m) st v [] ≡ step st v (call_of st d o)
    unfolding refusals buffer_of
    lent_refused m e = as_write (λ c. result_of (refused m) st v [] ≡ step st v c) (λ b offset new. refused-step st v (write b offset new) m (lent_first st _ write_status _ m e))

    module _ (e : first_refusal (lent_refusals st (length v) write_status) ≡ none) where
      -- behind them, 2 where the stretch leaves the data
      pub bad_stretch : length d < o.first + o.len → result_of (refused 2) st v [] ≡ step st v (call_of st d o)
      unfolding refusals buffer_of
      bad_stretch h =
          rw (stretch-leaves h)
          (refused-step st v (write (blocks (map_of st)) 0 []) 2 (lent_2 st (length v) write_status _ _ e (le-leb (blocks (map_of st)) (blocks (map_of st)) (omega arith))))

      -- and the write where it does not, from what `write_judged` answers
      pub good_stretch : (a : Answer) (after : List ℕ) → o.first + o.len ≤ length d
          → stored a after ≡ judged_write st.attributes st.protected (map_of st) v o.block o.offset (take o.len (drop o.first d))
          → result_of a st after [] ≡ step st v (call_of st d o)
      unfolding stretch
      good_stretch a after h k = rw (stretch_lies h) (judged_written st v _ _ _ a after e k)

    -- no byte changes but those of the block that it names that its write counts
    pub order_outside : (i : ℕ) → ((e s l r : ℕ) → place (map_of st) o.block ≡ At e s l r → s + o.offset ≤ i → i < s + o.offset + count_moved l o.offset o.len → ⊥)
        → get_or (step st v (call_of st d o)).volume i 0 ≡ get_or v i 0
    unfolding call_of stretch count_moved
    order_outside i out = go (leaves d o)
      where
        go : (t : Bool) → get_or (step st v (cond t (write (blocks (map_of st)) 0 []) (write o.block o.offset (stretch d o)))).volume i 0 ≡ get_or v i 0
        go true = write_outside st v (blocks (map_of st)) 0 [] i (λ e s l r at p q. omega (arith, place_found (map_of st) (blocks (map_of st)) e s l r at))
        go false =
            write_outside st v o.block o.offset (stretch d o) i
            (λ e s l r at p q. out e s l r at p (omega (arith, length-take o.len (drop o.first d))))
