-- Laws of a block map's words: one entry at a time, for the loops over them, and what breaks rule 107.
use Rattle.std.specs.Prelude.{fold}
use Rattle.std.proofs.Common.{◌≡◌, ℕ, zero, suc, ◌+◌, ◌*◌, ◌^◌, ◌<◌, ◌≤◌, min, Bool, true, false, not, ◌&&◌, ◌||◌, eqb, ltb, List, [], ◌∷◌, length, get_or, take, drop, refl, suc-mul, mul-le-mul, pos_of_ne-zero, mul-zero, zero-mul, arith, drop_of_length-le, length-drop, ltb-false, le-ltb, lt-ltb, eq-eqb, ne_eqb, eqb-true, sym, ◌∙◌, take_all, ltb-true, ◌/◌, add-one, drop-cons}
use mathlib.Core.Bool.{or-true, or-false, and-true, and_assoc}
use borrow.Author.Tests.{eqb-false, not-false}
use lib.Bits.{bit_or, or_zero_l, or_add_and, and_le_r}
use Rattle.common.specs.Refusals.{any}
use Rattle.common.proofs.Lists.{drop_two}
use Rattle.common.proofs.Refusals.{any-passed}
use Rattle.volume.specs.BlockMap.{max_entries, max_blocks, max_length, header_length, blocks, bytes, has_zero, all_zero, size_fault}

-- the entry at place i gives its count of blocks, and its count times its length of bytes
pub blocks_entry : (w : List ℕ) (i : ℕ) → 2 * i + 1 < length w → blocks (drop (2 * i) w) ≡ get_or w (2 * i) 0 + blocks (drop (2 * (i + 1)) w)
unfolding blocks
blocks_entry w i h = let e : 2 * (i + 1) ≡ 2 * i + 2 = omega arith in rw (e, drop_two w (2 * i) h)

pub bytes_entry : (w : List ℕ) (i : ℕ) → 2 * i + 1 < length w
    → bytes (drop (2 * i) w) ≡ get_or w (2 * i) 0 * get_or w (2 * i + 1) 0 + bytes (drop (2 * (i + 1)) w)
unfolding bytes
bytes_entry w i h = let e : 2 * (i + 1) ≡ 2 * i + 2 = omega arith in rw (e, drop_two w (2 * i) h)

-- past the last entry there are none; an odd word at the end is no entry
blocks_few : (w : List ℕ) → length w ≤ 1 → blocks w ≡ 0
unfolding blocks
blocks_few [] h = refl
blocks_few (x ∷ []) h = refl
blocks_few (x ∷ y ∷ w) h = absurd (omega arith)

pub blocks_end : (w : List ℕ) (i : ℕ) → length w ≤ 2 * i + 1 → blocks (drop (2 * i) w) ≡ 0
blocks_end w i h = blocks_few (drop (2 * i) w) (rw length-drop (omega arith))

pub bytes_end : (w : List ℕ) (i : ℕ) → length w ≤ 2 * i → bytes (drop (2 * i) w) ≡ 0
unfolding bytes
bytes_end w i h = rw (drop_of_length-le w {i = 2 * i} h)

-- the words of n entries of a map of 64, which has room for 32
pub words_there : (map : List ℕ) (n m : ℕ) → length map ≡ 64 → m ≡ min n max_entries → take (2 * m) map ≡ take (2 * n) map
words_there map n m h e = go (ltb max_entries n) refl
  where
    go : (t : Bool) → ltb max_entries n ≡ t → take (2 * m) map ≡ take (2 * n) map
    go true q = let p : max_entries < n = ltb-true max_entries n q in take_all (2 * m) map (omega arith) ∙ sym (take_all (2 * n) map (omega arith))
    go false q = let p : n ≤ max_entries = ltb-false max_entries n q in let same : m ≡ n = omega arith in rw same

-- a product of two 32-bit numbers fits 64 bits
pub product_fits : (a b : ℕ) → a < 2 ^ 32 → b < 2 ^ 32 → a * b < 2 ^ 64
product_fits a b ha hb = omega (arith, mul-le-mul {n₁ = a} {m₁ = b} {n₂ = 4294967295} {m₂ = 4294967295} (omega arith) (omega arith))

-- the entry at place i has a zero word exactly where its size is 0
pub zero_size : (w : List ℕ) (i : ℕ) → 2 * i + 1 < length w → get_or w (2 * i) 0 * get_or w (2 * i + 1) 0 ≡ 0 → has_zero (drop (2 * i) w) ≡ true
unfolding has_zero
zero_size w i h e = rw (drop_two w (2 * i) h) (go (get_or w (2 * i) 0) (get_or w (2 * i + 1) 0) e)
  where
    go : (a b : ℕ) → a * b ≡ 0 → (eqb a 0 || (eqb b 0 || has_zero (drop (2 * i + 2) w))) ≡ true
    go zero b e = refl
    go (suc a) zero e = or-true (eqb (suc a) 0)
    go (suc a) (suc b) e = absurd (omega (arith, e, suc-mul a (suc b)))

pub nonzero_size : (w : List ℕ) (i : ℕ) → 2 * i + 1 < length w → (get_or w (2 * i) 0 * get_or w (2 * i + 1) 0 ≡ 0 → ⊥)
    → has_zero (drop (2 * i) w) ≡ has_zero (drop (2 * (i + 1)) w)
unfolding has_zero
nonzero_size w i h e =
    let two : 2 * (i + 1) ≡ 2 * i + 2 = omega arith in
    rw (two, drop_two w (2 * i) h) (go (get_or w (2 * i) 0) (get_or w (2 * i + 1) 0) e)
  where
    go : (a b : ℕ) → (a * b ≡ 0 → ⊥) → (eqb a 0 || (eqb b 0 || has_zero (drop (2 * i + 2) w))) ≡ has_zero (drop (2 * i + 2) w)
    go zero b e = absurd (e (zero-mul b))
    go (suc a) zero e = absurd (e (mul-zero (suc a)))
    go (suc a) (suc b) e = rw (ne_eqb (suc a) 0 (λ z. omega arith), ne_eqb (suc b) 0 (λ z. omega arith))

-- a zero word, a total that breaks rule 107, or a first protected block past the blocks: the tests that are left to a walk over the entries
module _ (w : List ℕ) (len protected : ℕ) where
  abbrev Totals : Bool
  Totals = has_zero w || (ltb max_blocks (blocks w) || (not (eqb (bytes w) len) || ltb (blocks w) protected))

  pub zero_word : has_zero w ≡ true → true ≡ Totals
  zero_word h = rw h

  pub too_many : max_blocks < blocks w → true ≡ Totals
  too_many h = rw (lt-ltb max_blocks (blocks w) h, or-true)

  pub wrong_total : (bytes w ≡ len → ⊥) → true ≡ Totals
  wrong_total h = rw (ne_eqb (bytes w) len h, or-true, or-true)

  pub totals_end : (b : ℕ) → has_zero w ≡ false → blocks w ≤ max_blocks → bytes w ≡ len → blocks w ≡ b → ltb b protected ≡ Totals
  totals_end b z h e q = rw (z, le-ltb max_blocks (blocks w) h, eq-eqb (bytes w) len e, q)

-- a test of words none of which is zero, with no block protected, is rule 107's
pub size_tested : (w : List ℕ) {n : ℕ} (len : ℕ) {t : Bool} → has_zero w ≡ false → length w / 2 ≡ n
    → t ≡ (has_zero w || (size_fault (length w / 2) w len || ltb (blocks w) 0)) → t ≡ size_fault n w len
size_tested w len z e h = rw (z, e, le-ltb (blocks w) 0 (omega arith), or-false) at h

-- what a map that passes rule 107 is known to be
pub record Sized (n : ℕ) (w : List ℕ) (len : ℕ) : Type 0 where
  pub some_entry : 1 ≤ n
  pub few_entries : n ≤ max_entries
  pub few_blocks : blocks w ≤ max_blocks
  pub short : len ≤ max_length
  pub total : bytes w ≡ len
  pub holds_header : header_length n ≤ len

pub size_passed : (n : ℕ) (w : List ℕ) (len : ℕ) → size_fault n w len ≡ false → Sized n w len
unfolding size_fault
size_passed n w len e =
    let a = any-passed (eqb n 0) _ e in
    let b = any-passed (ltb max_entries n) _ a.1 in
    let d = any-passed (ltb max_blocks (blocks w)) _ b.1 in
    let f = any-passed (ltb max_length len) _ d.1 in
    let g = any-passed (not (eqb (bytes w) len)) _ f.1 in
    let h = any-passed (ltb len (header_length n)) _ g.1 in
    record {
      some_entry = pos_of_ne-zero (eqb-false n 0 a.0);
      few_entries = ltb-false max_entries n b.0;
      few_blocks = ltb-false max_blocks (blocks w) d.0;
      short = ltb-false max_length len f.0;
      total = eqb-true (bytes w) len (not-false _ g.0);
      holds_header = ltb-false len (header_length n) h.0;
    }

-- too many entries break rule 107
pub too_many_entries : (n : ℕ) (w : List ℕ) (len : ℕ) → max_entries < n → size_fault n w len ≡ true
unfolding size_fault any
too_many_entries n w len h = rw (lt-ltb max_entries n h, or-true)

-- past the end there is no zero word
pub has_zero_end : (w : List ℕ) (i : ℕ) → length w ≤ i → false ≡ has_zero (drop i w)
unfolding has_zero
has_zero_end w i h = rw (drop_of_length-le w {i = i} h)

-- words gathered by OR: nothing is gathered exactly where every word passed is zero
gathered_zero : (a b : ℕ) → eqb (bit_or a b) 0 ≡ (eqb a 0 && eqb b 0)
gathered_zero zero b = rw (or_zero_l b)
gathered_zero (suc a) b =
    rw (ne_eqb (suc a) 0 (λ z. omega arith)) (ne_eqb (bit_or (suc a) b) 0 (λ e. omega (arith, or_add_and (suc a) b, and_le_r (suc a) b)))

-- the words of a list gathered by OR, and the marks of its zeros
gathered_from : (g : ℕ) (w : List ℕ) → eqb (fold bit_or g w) 0 ≡ (eqb g 0 && all_zero w)
unfolding all_zero
gathered_from g [] = sym (and-true (eqb g 0))
gathered_from g (x ∷ w) = gathered_from (bit_or g x) w ∙ rw (gathered_zero g x, and_assoc)

pub all_gathered : (w : List ℕ) → eqb (fold bit_or 0 w) 0 ≡ all_zero w
all_gathered w = gathered_from 0 w

-- a word of zero, and the words behind it
pub zero_next : (w : List ℕ) (i : ℕ) → i < length w → has_zero (drop i w) ≡ (eqb (get_or w i 0) 0 || has_zero (drop (i + 1) w))
unfolding has_zero
zero_next w i h = rw (add-one, drop-cons w i 0 h)
