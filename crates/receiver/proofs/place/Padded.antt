-- Padding as its bytes come: one test a byte, of as many bytes as the stream has there.
use Rattle.std.proofs.Common.{◌≡◌, ℕ, zero, suc, ◌+◌, ◌-◌, ◌<◌, ◌≤◌, Bool, true, false, cond, eqb, ltb, ◌⊎◌, List, length, get_or, sym, refl, ap, ◌∙◌, inl, inr, arith, ltb-false, ltb-true, le-ltb, lt-ltb}
use Rattle.sections.specs.Walk.{Trace, fault, aligned, zeros, first_nonzero, after_padding}
use Rattle.sections.specs.declared.header.Mode.{Mode}
use Rattle.sections.proofs.walk.Padding.{zeros_past}
use Rattle.sections.proofs.walk.Starts.{walk_from, walk_end}
use Rattle.receiver.specs.Place.{padding}

-- a stream that is a part of the file, from byte `base` of it on
pub record InFile (file s : List ℕ) (base : ℕ) : Type 0 where
  pub bytes : (j : ℕ) → j < length s → get_or s j 0 ≡ get_or file (base + j) 0
  pub within : base + length s ≤ length file

-- n bytes of padding from byte i of the file on, in a stream that ends at byte e, and then the rest
unfoldable pub padded : (file : List ℕ) → (n i e : ℕ) → Trace → Trace
padded file zero i e rest = rest
padded file (suc n) i e rest = cond (eqb (get_or file i 0) 0) (padded file n (i + 1) e rest) (fault 207 i e)

pub padded_zero : (file : List ℕ) (n i e : ℕ) (rest : Trace) → n ≡ 0 → padded file n i e rest ≡ rest
unfolding padded
padded_zero file n i e rest h = ap (λ (m : ℕ). padded file m i e rest) h

-- a byte that is 0, and one that is not
pub padded_more : (file : List ℕ) (n i e : ℕ) (rest : Trace) → 0 < n → get_or file i 0 ≡ 0 → padded file n i e rest ≡ padded file (n - 1) (i + 1) e rest
unfolding padded
padded_more file zero i e rest h b = absurd (omega arith)
padded_more file (suc n) i e rest h b = let q : suc n - 1 ≡ n = omega arith in rw (b, q)

pub padded_207 : (file : List ℕ) (n i e : ℕ) (rest : Trace) → 0 < n → eqb (get_or file i 0) 0 ≡ false → padded file n i e rest ≡ fault 207 i e
unfolding padded
padded_207 file zero i e rest h b = absurd (omega arith)
padded_207 file (suc n) i e rest h b = rw b

-- the smaller of two numbers
abbrev least : ℕ → ℕ → ℕ
least n m = cond (ltb m n) m n

least_suc : (n m : ℕ) → least (suc n) (suc m) ≡ suc (least n m)
least_suc n m = go (ltb m n) refl
  where
    go : (b : Bool) → ltb m n ≡ b → least (suc n) (suc m) ≡ suc (cond b m n)
    go true e = let h = ltb-true m n e in rw (lt-ltb (suc m) (suc n) (omega arith))
    go false e = let h = ltb-false m n e in rw (le-ltb (suc m) (suc n) (omega arith))

least_zero : (n : ℕ) → least n 0 ≡ 0
least_zero zero = refl
least_zero (suc n) = rw (lt-ltb 0 (suc n) (omega arith))

module _ (file s : List ℕ) (base : ℕ) (f : InFile file s base) (t : Trace) where
  tested : (n at : ℕ)
      → cond (zeros s at n) t (fault 207 (base + first_nonzero s at n) (base + length s)) ≡ padded file (least n (length s - at)) (base + at) (base + length s) t
  unfolding zeros first_nonzero padded
  tested zero at = go (ltb (length s - at) 0) refl
    where
      go : (b : Bool) → ltb (length s - at) 0 ≡ b → t ≡ padded file (cond b (length s - at) 0) (base + at) (base + length s) t
      go true e = let h = ltb-true (length s - at) 0 e in absurd (omega arith)
      go false e = refl
  tested (suc n) at = one (ltb at (length s)) refl (tested n (at + 1))
    where
      two : (b : Bool) → eqb (get_or s at 0) 0 ≡ b → at < length s
          → cond (zeros s (at + 1) n) t (fault 207 (base + first_nonzero s (at + 1) n) (base + length s))
          ≡ padded file (least n (length s - (at + 1))) (base + (at + 1)) (base + length s) t
          → cond (zeros s at (suc n)) t (fault 207 (base + first_nonzero s at (suc n)) (base + length s))
          ≡ padded file (least (suc n) (length s - at)) (base + at) (base + length s) t
      two true e here ih =
          let k : length s - at ≡ suc (length s - (at + 1)) = omega arith in
          let p : base + at + 1 ≡ base + (at + 1) = omega arith in
          rw (k, least_suc n (length s - (at + 1)), ← f.bytes at here, e, p) ih
      two false e here ih =
          let k : length s - at ≡ suc (length s - (at + 1)) = omega arith in
          rw (k, least_suc n (length s - (at + 1)), ← f.bytes at here, e)

      one : (b : Bool) → ltb at (length s) ≡ b
          → cond (zeros s (at + 1) n) t (fault 207 (base + first_nonzero s (at + 1) n) (base + length s))
          ≡ padded file (least n (length s - (at + 1))) (base + (at + 1)) (base + length s) t
          → cond (zeros s at (suc n)) t (fault 207 (base + first_nonzero s at (suc n)) (base + length s))
          ≡ padded file (least (suc n) (length s - at)) (base + at) (base + length s) t
      one true e ih = two (eqb (get_or s at 0) 0) refl (ltb-true at (length s) e) ih
      one false e ih =
          let past = ltb-false at (length s) e in
          let k : length s - at ≡ 0 = omega arith in
          rw (zeros_past s at (suc n) past, k, least_zero (suc n))

pub after_padded : (file s : List ℕ) (base e : ℕ) (rest : ℕ → Trace) → InFile file s base
    → after_padding s base e rest ≡ padded file (padding e (length s - e)) (base + e) (base + length s) (rest (aligned e))
unfolding after_padding padding
after_padded file s base e rest f = tested file s base f (rest (aligned e)) (aligned e - e) e

-- the padding ends at the next start, or at the end of the stream, where the walk is done
module _ (e n : ℕ) (inside : e ≤ n) where
  pub padding_end : (padding e (n - e) ≤ n - e) × (padding e (n - e) ≤ 3)
      × (((e + padding e (n - e) ≡ aligned e) × (aligned e ≤ n)) ⊎ ((e + padding e (n - e) ≡ n) × (n ≤ aligned e)))
  unfolding padding
  padding_end = go (ltb (n - e) (aligned e - e)) refl
    where
      go : (b : Bool) → ltb (n - e) (aligned e - e) ≡ b
          → (cond b (n - e) (aligned e - e) ≤ n - e) × (cond b (n - e) (aligned e - e) ≤ 3)
          × (((e + cond b (n - e) (aligned e - e) ≡ aligned e) × (aligned e ≤ n)) ⊎ ((e + cond b (n - e) (aligned e - e) ≡ n) × (n ≤ aligned e)))
      go true x = let h = ltb-true (n - e) (aligned e - e) x in (omega arith, omega arith, inr (omega arith, omega arith))
      go false x = let h = ltb-false (n - e) (aligned e - e) x in (omega arith, omega arith, inl (omega arith, omega arith))

pub next_start : (mode : Mode) (n : ℕ) (s : List ℕ) (base e : ℕ) → e ≤ length s
    → walk_from mode n s base (aligned e) ≡ walk_from mode n s base (e + padding e (length s - e))
next_start mode n s base e inside = go (padding_end e (length s) inside).2
  where
    go : ((e + padding e (length s - e) ≡ aligned e) × (aligned e ≤ length s)) ⊎ ((e + padding e (length s - e) ≡ length s) × (length s ≤ aligned e))
        → walk_from mode n s base (aligned e) ≡ walk_from mode n s base (e + padding e (length s - e))
    go (inl (p, q)) = ap (walk_from mode n s base) (sym p)
    go (inr (p, q)) = walk_end mode n s base (aligned e) q ∙ sym (walk_end mode n s base (e + padding e (length s - e)) (omega arith))
