-- Laws of a move: of a list that is not the longer one, of one that is as long, and in the code's form.
use Rattle.std.proofs.Common.{◌≡◌, ◌∙◌, ℕ, ◌<◌, ◌≤◌, min, ◌⊎◌, inl, inr, List, [], ◌++◌, length, take, drop, arith, drop_of_length-le, take_all}
use Rattle.std.proofs.Math.Seq.{take-length}
use mathlib.Core.List.{append-nil}
use Rattle.std.proofs.lemmas.Bool.{cases_lt}
use Rattle.moves.specs.Moved.{moved}

-- a list that is not the longer one is moved whole
pub moved_all : (s d : List ℕ) → length s ≤ length d → moved s d ≡ s ++ drop (length s) d
unfolding moved
moved_all s d h = rw (take_all (length d) s h)

-- over one that is as long it is all that is left
pub moved_same : (s d : List ℕ) → length s ≡ length d → moved s d ≡ s
moved_same s d e =
    let none : drop (length s) d ≡ [] = drop_of_length-le d {i = length s} (omega arith) in
    moved_all s d (omega arith) ∙ rw none (append-nil s)

-- as many bytes as both have are moved, and what lies behind them stays
pub moved_min : (s d : List ℕ) (n : ℕ) {part : List ℕ} → n ≡ min (length s) (length d) → part ≡ take n s → part ++ drop n d ≡ moved s d
unfolding moved
moved_min s d n e p = rw p (go (cases_lt (length s) (length d)))
  where
    go : (length s < length d) ⊎ (length d ≤ length s) → take n s ++ drop n d ≡ take (length d) s ++ drop (length s) d
    go (inl h) = let whole : n ≡ length s = omega arith in rw (whole, take-length, take_all (length d) s (omega arith))
    go (inr h) = let whole : n ≡ length d = omega arith in rw (whole, drop_of_length-le d {i = length d} (omega arith), drop_of_length-le d {i = length s} h)
