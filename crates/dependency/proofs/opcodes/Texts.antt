-- The length of a text with its zero, as the loop finds it, and what it says of the bytes.
use Prim.Native.Nat.{ℕ, zero, suc, ◌+◌, ◌-◌, ◌≤◌, ◌<◌}
use mathlib.Core.Path.{◌≡◌, refl, ap, ◌∙◌}
use mathlib.Core.Bool.{Bool, true, false, cond, not}
use mathlib.Core.List.{List, [], ◌∷◌}
use native.Mathlib.Omega.{arith}
use borrow.Author.Tests.{ltb-false, eq-eqb, eqb-true, eqb-false}
use lib.Dec.{eqb}
use lib.ListN.{length, get_or}
use Rattle.std.specs.Prelude.{Some, None, nat_lt}
use Rattle.std.specs.List.{position, position_or_len}
use Rattle.dependency.specs.Opcodes.{text_width}

width_place : (s : List ℕ) → text_width s ≡ position_or_len (λ x. eqb x 0) s + 1
unfolding text_width
width_place [] = refl
width_place (x ∷ s) = go (eqb x 0) (width_place s)
  where
    go : (b : Bool) → text_width s ≡ position_or_len (λ y. eqb y 0) s + 1 → cond b 1 (text_width s + 1) ≡ cond (not b) (1 + position_or_len (λ y. eqb y 0) s) 0 + 1
    go true h = refl
    go false h = omega arith

place_within : (s : List ℕ) → position_or_len (λ x. eqb x 0) s ≤ length s
place_within [] = omega arith
place_within (x ∷ s) = go (eqb x 0) (place_within s)
  where
    go : (b : Bool) → position_or_len (λ y. eqb y 0) s ≤ length s → cond (not b) (1 + position_or_len (λ y. eqb y 0) s) 0 ≤ suc (length s)
    go true h = omega arith
    go false h = omega arith

-- by the place of the first zero
pub text_at : (s : List ℕ) (i : ℕ) → position (λ x. eqb x 0) s ≡ Some i → i + 1 ≡ text_width s
text_at s i e = go (nat_lt (position_or_len (λ x. eqb x 0) s) (length s)) e
  where
    go : (b : Bool) → cond b (Some (position_or_len (λ x. eqb x 0) s)) None ≡ Some i → i + 1 ≡ text_width s
    go true q = let z : position_or_len (λ x. eqb x 0) s ≡ i = cc in omega (arith, width_place s)
    go false q = cc

pub text_out : (s : List ℕ) → position (λ x. eqb x 0) s ≡ None → length s + 1 ≡ text_width s
text_out s e = go (nat_lt (position_or_len (λ x. eqb x 0) s) (length s)) refl e
  where
    go : (b : Bool) → nat_lt (position_or_len (λ x. eqb x 0) s) (length s) ≡ b → cond b (Some (position_or_len (λ x. eqb x 0) s)) None ≡ None → length s + 1 ≡ text_width s
    go true p q = cc
    go false p q = let l = ltb-false _ _ p in omega (arith, width_place s, place_within s)

-- ---- what the width says of the bytes

-- the width of a text that has its zero: the zero is the last byte of it, and the only one
pub text_found : (s : List ℕ) (i : ℕ) → i < length s → get_or s i 1 ≡ 0 → text_width s ≤ i + 1
unfolding text_width
text_found [] i h e = absurd (omega arith)
text_found (x ∷ s) zero h e = rw (eq-eqb x 0 e) (omega arith)
text_found (x ∷ s) (suc i) h e = go (eqb x 0) (text_found s i (omega arith) e)
  where
    go : (b : Bool) → text_width s ≤ i + 1 → cond b 1 (text_width s + 1) ≤ suc i + 1
    go true w = omega arith
    go false w = omega arith

abbrev pub Zero : ℕ → List ℕ → Type 0
Zero w s = (1 ≤ w) × (get_or s (w - 1) 1 ≡ 0) × ((i : ℕ) → i + 1 < w → get_or s i 0 ≡ 0 → ⊥)

pub text_zero : (s : List ℕ) → text_width s ≤ length s → Zero (text_width s) s
unfolding text_width
text_zero [] h = absurd (omega arith)
text_zero (x ∷ s) h = go (eqb x 0) refl (text_zero s) h
  where
    before : (w : ℕ) → (x ≡ 0 → ⊥) → ((i : ℕ) → i + 1 < w → get_or s i 0 ≡ 0 → ⊥) → (i : ℕ) → i + 1 < w + 1 → get_or (x ∷ s) i 0 ≡ 0 → ⊥
    before w other later zero l e = other e
    before w other later (suc i) l e = later i (omega arith) e

    go : (b : Bool) → eqb x 0 ≡ b → (text_width s ≤ length s → Zero (text_width s) s) → cond b 1 (text_width s + 1) ≤ suc (length s) → Zero (cond b 1 (text_width s + 1)) (x ∷ s)
    go true e ih h = (omega arith, eqb-true x 0 e, λ i l. absurd (omega arith))
    go false e ih h =
        let z = ih (omega arith) in
        let one = z.0 in
        let last : text_width s + 1 - 1 ≡ suc (text_width s - 1) = omega arith in
        (omega arith, ap (λ (k : ℕ). get_or (x ∷ s) k 1) last ∙ z.1, before (text_width s) (eqb-false x 0 e) z.2)
