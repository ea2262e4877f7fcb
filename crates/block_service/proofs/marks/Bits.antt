-- Laws of marks: a bit of a word, a word whose every bit is the same, and the marks after a store.
use Prim.Native.Nat.{ℕ, zero, suc, ◌+◌, ◌*◌, ◌/◌, ◌%◌, ◌^◌, ◌≤◌, ◌<◌}
use mathlib.Core.Path.{◌≡◌, refl, ap, ◌∙◌}
use mathlib.Core.Bool.{Bool, true, false, not, cond, ◌&&◌, ◌||◌, beq, true≢false}
use mathlib.Core.List.{List}
use native.Mathlib.Nat.{zero-div, mod-lt}
use native.Mathlib.Omega.{arith}
use borrow.Author.Tests.{lt-ltb, le-ltb, le-leb, lt-leb, ltb-true, ltb-false, eqb-true, eqb-false}
use lib.Bits.{bit_or, or_shr, or_mod}
use lib.Dec.{T, leb, ltb, eqb}
use lib.ListN.{length, get_or, set, replicate}
use lib.Seq.{get_or-set_same, get_or-set_other}
use Rattle.block_service.specs.Marks.{marked}

-- a test of every number below n, computed
below : ℕ → (ℕ → Bool) → Bool
below zero p = true
below (suc n) p = p n && below n p

at_below : (n : ℕ) (p : ℕ → Bool) → T (below n p) → (k : ℕ) → k < n → T (p k)
unfolding below
at_below zero p t k h = absurd (omega arith)
at_below (suc n) p t k h = go (eqb k n) refl (p n) refl t (λ u q. at_below n p u k q)
  where
    go : (s : Bool) → eqb k n ≡ s → (x : Bool) → p n ≡ x → T (x && below n p) → (T (below n p) → k < n → T (p k)) → T (p k)
    go true e true q u f = let z = eqb-true k n e in rw (z, q) tt
    go false e true q u f = let z = eqb-false k n e in f u (omega arith)
    go s e false q u f = absurd u

same_t : (a b : Bool) → T (beq a b) → a ≡ b
same_t true true t = refl
same_t true false t = absurd t
same_t false true t = absurd t
same_t false false t = refl

pub beq_true : (a b : Bool) → beq a b ≡ true → a ≡ b
beq_true a b e = same_t a b (rw e tt)

pub beq_false : (a b : Bool) → beq a b ≡ false → a ≡ not b
beq_false true true e = absurd (true≢false e)
beq_false true false e = refl
beq_false false true e = refl
beq_false false false e = absurd (true≢false e)

full : ℕ → Bool
full k = beq (eqb (0xFFFFFFFFFFFFFFFF / 2 ^ k % 2) 1) true

full_bit : (k : ℕ) → k < 64 → eqb (0xFFFFFFFFFFFFFFFF / 2 ^ k % 2) 1 ≡ true
unfolding below full
full_bit k h = same_t _ _ (at_below 64 full tt k h)

no_bit : (k : ℕ) → eqb (0 / 2 ^ k % 2) 1 ≡ false
no_bit k = rw (zero-div (2 ^ k))

single : ℕ → ℕ → Bool
single k j = beq (eqb (1 * 2 ^ k % 18446744073709551616 / 2 ^ j % 2) 1) (eqb j k)

singles : ℕ → Bool
singles k = below 64 (single k)

single_bit : (k j : ℕ) → k < 64 → j < 64 → eqb (1 * 2 ^ k % 18446744073709551616 / 2 ^ j % 2) 1 ≡ eqb j k
unfolding below single singles
single_bit k j h g = same_t _ _ (at_below 64 (single k) (at_below 64 singles tt k h) j g)

or_bit : (w u j : ℕ) → eqb (bit_or w u / 2 ^ j % 2) 1 ≡ (eqb (u / 2 ^ j % 2) 1 || eqb (w / 2 ^ j % 2) 1)
or_bit w u j =
    ap (λ (x : ℕ). eqb x 1) (ap (λ (x : ℕ). x % 2) (or_shr w u j) ∙ or_mod (w / 2 ^ j) (u / 2 ^ j) 1)
    ∙ go (w / 2 ^ j % 2) (u / 2 ^ j % 2) (mod-lt (w / 2 ^ j) (omega arith)) (mod-lt (u / 2 ^ j) (omega arith))
  where
    go : (x y : ℕ) → x < 2 → y < 2 → eqb (bit_or x y) 1 ≡ (eqb y 1 || eqb x 1)
    go zero zero h g = refl
    go zero (suc zero) h g = refl
    go (suc zero) zero h g = refl
    go (suc zero) (suc zero) h g = refl
    go zero (suc (suc y)) h g = absurd (omega arith)
    go (suc zero) (suc (suc y)) h g = absurd (omega arith)
    go (suc (suc x)) zero h g = absurd (omega arith)
    go (suc (suc x)) (suc zero) h g = absurd (omega arith)
    go (suc (suc x)) (suc (suc y)) h g = absurd (omega arith)

-- a word that is all the same settles the 64 blocks of it
pub whole_word : (ws : List ℕ) (i : ℕ) (want : Bool) → i % 64 ≡ 0 → get_or ws (i / 64) 0 ≡ cond want 0xFFFFFFFFFFFFFFFF 0
    → (x : ℕ) → i ≤ x → x < i + 64 → marked ws x ≡ want
unfolding marked
whole_word ws i want z e x a b =
    let q : x / 64 ≡ i / 64 = omega arith in
    rw (q, e) (go want)
  where
    go : (t : Bool) → eqb (cond t 0xFFFFFFFFFFFFFFFF 0 / 2 ^ (x % 64) % 2) 1 ≡ t
    go true = full_bit (x % 64) (omega arith)
    go false = no_bit (x % 64)

-- the marks after a store in a word
stored : (ws : List ℕ) (q w x : ℕ) → q < length ws → marked (set ws q w) x ≡ cond (eqb (x / 64) q) (eqb (w / 2 ^ (x % 64) % 2) 1) (marked ws x)
unfolding marked
stored ws q w x h = go (eqb (x / 64) q) refl
  where
    go : (t : Bool) → eqb (x / 64) q ≡ t
        → eqb (get_or (set ws q w) (x / 64) 0 / 2 ^ (x % 64) % 2) 1 ≡ cond t (eqb (w / 2 ^ (x % 64) % 2) 1) (eqb (get_or ws (x / 64) 0 / 2 ^ (x % 64) % 2) 1)
    go true e = let z = eqb-true (x / 64) q e in rw (z, get_or-set_same ws q w 0 h)
    go false e = rw (get_or-set_other ws q (x / 64) w 0 (eqb-false (x / 64) q e))

pub mark_word : (ws : List ℕ) (i : ℕ) → i % 64 ≡ 0 → i / 64 < length ws
    → (x : ℕ) → marked (set ws (i / 64) 0xFFFFFFFFFFFFFFFF) x ≡ (leb i x && ltb x (i + 64) || marked ws x)
mark_word ws i z h x = stored ws (i / 64) 0xFFFFFFFFFFFFFFFF x h ∙ go (eqb (x / 64) (i / 64)) refl
  where
    go : (t : Bool) → eqb (x / 64) (i / 64) ≡ t → cond t (eqb (0xFFFFFFFFFFFFFFFF / 2 ^ (x % 64) % 2) 1) (marked ws x) ≡ (leb i x && ltb x (i + 64) || marked ws x)
    go true e =
        let q = eqb-true (x / 64) (i / 64) e in
        rw (full_bit (x % 64) (omega arith), le-leb i x (omega arith), lt-ltb x (i + 64) (omega arith))
    go false e = let q = eqb-false (x / 64) (i / 64) e in at (ltb x i) refl
      where
        at : (t : Bool) → ltb x i ≡ t → marked ws x ≡ (leb i x && ltb x (i + 64) || marked ws x)
        at true k = let w : x < i = ltb-true _ _ k in rw (lt-leb i x w)
        at false k =
            let w : i ≤ x = ltb-false _ _ k in
            let q = eqb-false (x / 64) (i / 64) e in
            rw (le-leb i x w, le-ltb x (i + 64) (omega arith))

-- block x is block i
one_block : (i x : ℕ) → (leb i x && ltb x (i + 1)) ≡ eqb x i
one_block i x = go (ltb x i) refl (eqb x i) refl
  where
    go : (s : Bool) → ltb x i ≡ s → (t : Bool) → eqb x i ≡ t → (leb i x && ltb x (i + 1)) ≡ t
    go s q true e = let z = eqb-true x i e in rw (le-leb i x (omega arith), lt-ltb x (i + 1) (omega arith))
    go true q false e = let w : x < i = ltb-true _ _ q in rw (lt-leb i x w)
    go false q false e =
        let w : i ≤ x = ltb-false _ _ q in
        let z = eqb-false x i e in
        rw (le-leb i x w) (le-ltb x (i + 1) (omega arith))

pub mark_bit : (ws : List ℕ) (i : ℕ) → i / 64 < length ws
    → (x : ℕ) → marked (set ws (i / 64) (bit_or (get_or ws (i / 64) 0) (1 * 2 ^ (i % 64) % 18446744073709551616))) x ≡ (leb i x && ltb x (i + 1) || marked ws x)
unfolding marked
mark_bit ws i h x =
    stored ws (i / 64) (bit_or (get_or ws (i / 64) 0) (1 * 2 ^ (i % 64) % 18446744073709551616)) x h
    ∙ rw (one_block i x, or_bit (get_or ws (i / 64) 0) (1 * 2 ^ (i % 64) % 18446744073709551616) (x % 64), single_bit (i % 64) (x % 64) (omega arith) (omega arith))
    (go (eqb (x / 64) (i / 64)) refl (eqb (x % 64) (i % 64)) refl (eqb x i) refl)
  where
    go : (s : Bool) → eqb (x / 64) (i / 64) ≡ s → (t : Bool) → eqb (x % 64) (i % 64) ≡ t → (u : Bool) → eqb x i ≡ u
        → cond s (t || eqb (get_or ws (i / 64) 0 / 2 ^ (x % 64) % 2) 1) (marked ws x) ≡ (u || marked ws x)
    go true p true q true r = refl
    go true p true q false r =
        let a = eqb-true (x / 64) (i / 64) p in
        let b = eqb-true (x % 64) (i % 64) q in
        absurd (eqb-false x i r (omega arith))
    go true p false q true r = let z = eqb-true x i r in absurd (eqb-false (x % 64) (i % 64) q (rw z refl))
    go true p false q false r = let a = eqb-true (x / 64) (i / 64) p in rw a
    go false p t q true r = let z = eqb-true x i r in absurd (eqb-false (x / 64) (i / 64) p (rw z refl))
    go false p t q false r = refl

-- what holds of the blocks from b up to i, and of n more
pub alike_next : (P : ℕ → Type 0) (b i n : ℕ) → ((x : ℕ) → b ≤ x → x < i → P x) → ((x : ℕ) → i ≤ x → x < i + n → P x) → (x : ℕ) → b ≤ x → x < i + n → P x
alike_next P b i n f g x h k = go (ltb x i) refl
  where
    go : (t : Bool) → ltb x i ≡ t → P x
    go true e = f x h (ltb-true _ _ e)
    go false e = g x (ltb-false _ _ e) k

-- marks of no block
pub mark_none : (b x : ℕ) (u : Bool) → u ≡ (leb b x && ltb x b || u)
mark_none b x u = go (ltb x b) refl
  where
    go : (t : Bool) → ltb x b ≡ t → u ≡ (leb b x && t || u)
    go true e = let w : x < b = ltb-true _ _ e in rw (lt-leb b x w)
    go false e = let w : b ≤ x = ltb-false _ _ e in rw (le-leb b x w)

-- marks of blocks from b up to e, in two steps
pub mark_next : (b i n x : ℕ) (s t u : Bool) → b ≤ i → t ≡ (leb i x && ltb x (i + n) || s) → s ≡ (leb b x && ltb x i || u) → t ≡ (leb b x && ltb x (i + n) || u)
mark_next b i n x s t u h p q = p ∙ rw q (go (ltb x b) refl (ltb x i) refl)
  where
    go : (y : Bool) → ltb x b ≡ y → (z : Bool) → ltb x i ≡ z → (leb i x && ltb x (i + n) || (leb b x && ltb x i || u)) ≡ (leb b x && ltb x (i + n) || u)
    go true e z f = let w : x < b = ltb-true _ _ e in rw (lt-leb i x (omega arith), lt-leb b x w)
    go false e true f =
        let w : b ≤ x = ltb-false _ _ e in
        let y : x < i = ltb-true _ _ f in
        rw (lt-leb i x y, le-leb b x w, f, lt-ltb x (i + n) (omega arith))
    go false e false f =
        let w : b ≤ x = ltb-false _ _ e in
        let y : i ≤ x = ltb-false _ _ f in
        rw (le-leb i x y, le-leb b x w, f)

-- words of zeros mark no block
pub unmarked : (n x : ℕ) → marked (replicate n 0) x ≡ false
unfolding marked
unmarked n x = rw (zeros n (x / 64)) (no_bit (x % 64))
  where
    zeros : (n i : ℕ) → ◌≡◌ {A = ℕ} (get_or (replicate n 0) i 0) 0
    zeros zero i = refl
    zeros (suc n) zero = refl
    zeros (suc n) (suc i) = zeros n i
