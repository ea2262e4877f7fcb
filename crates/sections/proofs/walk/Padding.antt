-- Laws of padding: the test that its bytes are zero, byte by byte, the first that is not, and what follows a section by that test.
use Prim.Native.Nat.{ℕ, zero, suc, ◌+◌, ◌-◌, ◌≤◌, ◌<◌}
use mathlib.Core.Path.{◌≡◌, refl}
use mathlib.Core.Bool.{Bool, true, false, cond, ◌&&◌}
use mathlib.Core.List.{List}
use mathlib.Core.Option.{Option, none, some}
use Rattle.std.proofs.Common.{add-one}
use native.Mathlib.Omega.{arith}
use borrow.Author.Tests.{eqb-true, eqb-false, ltb-true, ltb-false}
use lib.Dec.{eqb, ltb}
use lib.ListN.{length, get_or, take, drop, get_or-eq_default, length-drop, drop_of_length-le}
use lib.Seq.{drop-cons, take-length}
use Rattle.std.specs.List.{list_all}
use Rattle.sections.specs.Walk.{Trace, fault, aligned, zeros, first_nonzero, after_padding}
use Rattle.sections.specs.Search.{first_fault}

-- the test looks at those bytes alone
pub zeros-same : (s s' : List ℕ) (at n : ℕ) → ((i : ℕ) → at ≤ i → i < at + n → get_or s i 0 ≡ get_or s' i 0) → zeros s at n ≡ zeros s' at n
unfolding zeros
zeros-same s s' at zero h = refl
zeros-same s s' at (suc n) h = rw (h at (omega arith) (omega arith), zeros-same s s' (at + 1) n (λ i a b. h i (omega arith) (omega arith)))

pub nonzero_same : (s s' : List ℕ) (at n : ℕ) → ((i : ℕ) → at ≤ i → i < at + n → get_or s i 0 ≡ get_or s' i 0)
    → first_nonzero s at n ≡ first_nonzero s' at n
unfolding first_nonzero
nonzero_same s s' at zero h = refl
nonzero_same s s' at (suc n) h = rw (h at (omega arith) (omega arith), nonzero_same s s' (at + 1) n (λ i a b. h i (omega arith) (omega arith)))

-- the first byte that is not zero: one of those bytes, and every one before it is zero
abbrev pub FirstAmong : List ℕ → (at n first : ℕ) → Type 0
FirstAmong s at n first =
    (at ≤ first) × (first < at + n) × (get_or s first 0 ≡ 0 → ⊥) × ((j : ℕ) → at ≤ j → j < first → get_or s j 0 ≡ 0)

-- a byte more that is zero, before them
first_more : (s : List ℕ) (at n first : ℕ) → get_or s at 0 ≡ 0 → FirstAmong s (at + 1) n first → FirstAmong s at (suc n) first
first_more s at n first here (low, high, nonzero, before) = (omega arith, omega arith, nonzero, λ j l h. go j l h (eqb at j) refl)
  where
    go : (j : ℕ) → at ≤ j → j < first → (b : Bool) → eqb at j ≡ b → get_or s j 0 ≡ 0
    go j l h true e = rw (← eqb-true at j e) here
    go j l h false e = let d = eqb-false at j e in before j (omega arith) h

-- where the test fails there is one
pub first_nonzero_lem : (s : List ℕ) (at n : ℕ) → zeros s at n ≡ false → FirstAmong s at n (first_nonzero s at n)
unfolding zeros first_nonzero
first_nonzero_lem s at zero z = let y : ◌≡◌ {A = ℕ} 0 1 = cc in absurd (omega arith)
first_nonzero_lem s at (suc n) z = go (eqb (get_or s at 0) 0) refl z (first_nonzero_lem s (at + 1) n)
  where
    go : (b : Bool) → eqb (get_or s at 0) 0 ≡ b → b && zeros s (at + 1) n ≡ false
        → (zeros s (at + 1) n ≡ false → FirstAmong s (at + 1) n (first_nonzero s (at + 1) n))
        → FirstAmong s at (suc n) (cond b (first_nonzero s (at + 1) n) at)
    go true e z next = first_more s at n _ (eqb-true _ _ e) (next z)
    go false e z next = (omega arith, omega arith, eqb-false _ _ e, λ j l h. omega arith)

-- bytes past the end count as 0
pub zeros_past : (s : List ℕ) (at n : ℕ) → length s ≤ at → zeros s at n ≡ true
unfolding zeros
zeros_past s at zero h = refl
zeros_past s at (suc n) h = rw (get_or-eq_default s 0 h) (zeros_past s (at + 1) n (omega arith))

-- so the test is one of the bytes that are there
pub zeros_all : (s : List ℕ) (at n : ℕ) → zeros s at n ≡ list_all (λ b. eqb b 0) (take n (drop at s))
unfolding zeros
zeros_all s at zero = refl
zeros_all s at (suc n) = go (ltb at (length s)) refl (zeros_all s (at + 1) n)
  where
    go : (b : Bool) → ltb at (length s) ≡ b → zeros s (at + 1) n ≡ list_all (λ b. eqb b 0) (take n (drop (at + 1) s))
        → eqb (get_or s at 0) 0 && zeros s (at + 1) n ≡ list_all (λ b. eqb b 0) (take (suc n) (drop at s))
    go true e ih = let h = ltb-true at (length s) e in rw (drop-cons s at 0 h, ih, add-one)
    go false e ih =
        let h = ltb-false at (length s) e in
        rw (drop_of_length-le s {i = at} h, zeros_past s (at + 1) n (omega arith), get_or-eq_default s 0 h)

pub whole_rest : (s : List ℕ) (at : ℕ) → take (length s - at) (drop at s) ≡ drop at s
whole_rest s at = let e : length s - at ≡ length (drop at s) = rw length-drop refl in rw e (take-length (drop at s))

-- after a section that ends at byte e: the walk at the next start, or 207
pub padding_zero : (s : List ℕ) (base e : ℕ) (rest : ℕ → Trace) → zeros s e (aligned e - e) ≡ true → after_padding s base e rest ≡ rest (aligned e)
unfolding after_padding
padding_zero s base e rest z = rw z

pub padding_207 : (s : List ℕ) (base e : ℕ) (rest : ℕ → Trace) → zeros s e (aligned e - e) ≡ false
    → after_padding s base e rest ≡ fault 207 (base + first_nonzero s e (aligned e - e)) (base + length s)
unfolding after_padding
padding_207 s base e rest z = rw z

-- padding that raises no fault
pub padding_none : (s : List ℕ) (base e : ℕ) (rest : ℕ → Trace) → first_fault (after_padding s base e rest) ≡ none
    → (zeros s e (aligned e - e) ≡ true) × (first_fault (rest (aligned e)) ≡ none)
unfolding first_fault
padding_none s base e rest p = go (zeros s e (aligned e - e)) refl
  where
    go : (b : Bool) → zeros s e (aligned e - e) ≡ b → (zeros s e (aligned e - e) ≡ true) × (first_fault (rest (aligned e)) ≡ none)
    go true z = (z, rw (padding_zero s base e rest z) at p)
    go false z =
        let q : ◌≡◌ {A = Option ℕ} (some 207) none = rw (padding_207 s base e rest z) at p in
        let y : ◌≡◌ {A = ℕ} 0 1 = cc in absurd (omega arith)
