-- What the bytes of a header that came say so far: what stands behind them does not matter, 28 are always enough, and what they once say stays.
use Prim.Native.Nat.{ℕ, ◌≤◌, ◌<◌}
use mathlib.Core.Path.{◌≡◌, refl, sym, ap, ◌∙◌}
use mathlib.Core.List.{List}
use mathlib.Core.Logic.{◌⊎◌, inl, inr}
use native.Mathlib.Omega.{arith}
use native.Mathlib.Nat.{zero-add}
use lib.ListN.{get_or}
use Rattle.sections.specs.Header.{head_in}
use Rattle.sections.specs.Partial.{needed, decided, partial_of}
use Rattle.sections.specs.declared.header.Mode.{Mode}
use Rattle.sections.specs.Header.{Head, Fault, Closed, Open}
use Rattle.sections.specs.Partial.{Waiting}
use Rattle.sections.proofs.partial.Agree.{moved, agree}
use Rattle.sections.proofs.partial.Views.{needed_most, part_finds, part_is}

-- what stands no bytes later
moved_none : (x : Head) → moved 0 x ≡ x
moved_none (Fault n) = refl
moved_none (Closed t first e) = rw (zero-add first, zero-add e)
moved_none (Open t first from e) = rw (zero-add first, zero-add from, zero-add e)

-- what `part_is` tells apart: too few bytes, or enough
abbrev Cases : Mode → List ℕ → (have left : ℕ) → Type 0
Cases mode s have left =
    ((have < needed mode left s 0) × (partial_of mode s have left ≡ Waiting))
    ⊎ ((needed mode left s 0 ≤ have) × (partial_of mode s have left ≡ decided (head_in mode left s 0)))

module _ (mode : Mode) where
  -- enough bytes decide
  enough : (s : List ℕ) (have left : ℕ) → needed mode left s 0 ≤ have → partial_of mode s have left ≡ decided (head_in mode left s 0)
  enough s have left h = sym (part_finds mode left s have (refl, refl) h)

  -- of two lists that begin with the bytes that came, where they are enough of the one
  enough_alike : (s s' : List ℕ) (have left : ℕ) → ((i : ℕ) → i < have → get_or s i 0 ≡ get_or s' i 0) → needed mode left s 0 ≤ have
      → partial_of mode s have left ≡ partial_of mode s' have left
  enough_alike s s' have left same h =
      let a = agree mode left s' s 0 have (λ j less. rw (zero-add j) (sym (same j less))) h in
      enough s have left h ∙ ap decided (sym (a.0 ∙ moved_none _)) ∙ sym (enough s' have left (omega (arith, a.1)))

  -- what stands behind the bytes that came does not matter
  pub partial_alike : (s s' : List ℕ) (have left : ℕ) → ((i : ℕ) → i < have → get_or s i 0 ≡ get_or s' i 0)
      → partial_of mode s have left ≡ partial_of mode s' have left
  partial_alike s s' have left same = go (part_is mode left s have) (part_is mode left s' have)
    where
      go : Cases mode s have left → Cases mode s' have left → partial_of mode s have left ≡ partial_of mode s' have left
      go (inr (h, p)) c = enough_alike s s' have left same h
      go (inl c) (inr (h, p)) = sym (enough_alike s' s have left (λ i less. sym (same i less)) h)
      go (inl (few, p)) (inl (few', p')) = p ∙ sym p'

  -- 28 bytes decide every header
  pub partial_enough : (s : List ℕ) (have left : ℕ) → 28 ≤ have → partial_of mode s have left ≡ decided (head_in mode left s 0)
  partial_enough s have left h = let m = needed_most mode left s 0 in enough s have left (omega arith)

  -- what is once said stays
  pub partial_stays : (s : List ℕ) (have have' left : ℕ) → have ≤ have' → (partial_of mode s have left ≡ Waiting → ⊥)
      → partial_of mode s have' left ≡ partial_of mode s have left
  partial_stays s have have' left more said = go (part_is mode left s have)
    where
      go : Cases mode s have left → partial_of mode s have' left ≡ partial_of mode s have left
      go (inl (few, p)) = absurd (said p)
      go (inr (h, p)) = enough s have' left (omega arith) ∙ sym p
