-- What listing answers for a room that is too short, and for one that is long enough.
use Prim.Native.Nat.{ℕ, ◌≤◌, ◌<◌}
use mathlib.Core.Path.{◌≡◌, refl, sym, ap, ◌∙◌}
use mathlib.Core.Bool.{Bool, true, false}
use mathlib.Core.List.{List, [], ◌∷◌, ◌++◌}
use native.Mathlib.Omega.{arith}
use borrow.Author.Tests.{lt-ltb, le-ltb, ltb-true, ltb-false}
use lib.Dec.{ltb}
use lib.ListN.{length, drop}
use Rattle.common.specs.Answers.{refused, success}
use Rattle.common.specs.Refusals.{first_refusal}
use Rattle.listing.specs.Listing.{listing, ListedRoom, listed_room, listed_answer, list_volume}
use Rattle.std.specs.Prelude.{Result, Ok, Err}
use Rattle.common.specs.Refusal.{number}
use Rattle.common.specs.declared.refusal.Refusal.{Refusal}

-- too short: 5, and the room stays
pub list_refused : (s room : List ℕ) → length room < length (listing s) → list_volume s room ≡ listed_room (refused 5) room
unfolding list_volume first_refusal
list_refused s room h = rw (lt-ltb (length room) (length (listing s)) h)

-- long enough: the text's length, the text, and what the room had behind it
pub list_done : (s room : List ℕ) → length (listing s) ≤ length room
    → list_volume s room ≡ listed_room (success (length (listing s) ∷ [])) (listing s ++ drop (length (listing s)) room)
unfolding list_volume first_refusal
list_done s room h = rw (le-ltb (length room) (length (listing s)) h)

refused_no_success : (n : ℕ) (values : List ℕ) → refused n ≡ success values → ⊥
refused_no_success n values e = let z : ◌≡◌ {A = ℕ} 0 1 = cc in omega arith

success_same : (n k : ℕ) → success (n ∷ []) ≡ success (k ∷ []) → n ≡ k
success_same n k e = cc

-- of a call that answered `r` and left `after` in the room: a text that was stored lies in the room
module _ (s room after : List ℕ) (r : Result ℕ Refusal) (call : listed_room (listed_answer r) after ≡ list_volume s room) where
  answered : listed_answer r ≡ (list_volume s room).answer
  answered = ap (λ (l : ListedRoom). l.answer) call

  pub listed_within : (k : ℕ) → r ≡ Ok k → k ≤ length room
  unfolding listed_answer
  listed_within k e = go (ltb (length room) (length (listing s))) refl
    where
      told : (list_volume s room).answer ≡ success (k ∷ [])
      told = sym answered ∙ ap listed_answer e

      go : (t : Bool) → ltb (length room) (length (listing s)) ≡ t → k ≤ length room
      go true p =
          absurd (refused_no_success 5 (k ∷ []) (sym (ap (λ (l : ListedRoom). l.answer) (list_refused s room (ltb-true _ _ p))) ∙ told))
      go false p =
          let h = ltb-false (length room) (length (listing s)) p in
          let same = success_same _ _ (sym (ap (λ (l : ListedRoom). l.answer) (list_done s room h)) ∙ told) in
          omega arith

  -- and where the room is long enough it is never refused
  pub listed_fits : (e : Refusal) → length (listing s) ≤ length room → r ≡ Err e → ⊥
  unfolding listed_answer
  listed_fits e h q =
      refused_no_success (number e) _ (sym (ap listed_answer q) ∙ answered ∙ ap (λ (l : ListedRoom). l.answer) (list_done s room h))
