-- Laws of the word sum: a word at a time, of strings in a row, and what the 16-bit accumulator holds after each word.
use Rattle.std.proofs.Common.{◌≡◌, ℕ, zero, suc, ◌+◌, ◌-◌, ◌*◌, ◌/◌, ◌%◌, ◌<◌, ◌≤◌, Bool, true, false, ltb, List, [], ◌∷◌, ◌++◌, length, get_or, take, drop, sym, refl, ap, ◌∙◌, zero-add, arith, take-append-drop, drop_of_length-le, length-take-le, take_all, drop-cons, take-take, ltb-false, ltb-true}
use lib.ListN.{get_or-eq_default}
use Rattle.common.proofs.Lists.{drop_two}
use Rattle.numbers.specs.LittleEndian.{le, le_bytes}
use Rattle.numbers.proofs.LittleEndian.{le_past}
use Rattle.volume.specs.Header.{header_length_at, word_modulus, word_sum, running_sums_from, running_sums}

-- a word of the sum, and the rest of it
word_sum_next : (s : List ℕ) (i : ℕ) → i < length s → word_sum (drop i s) ≡ le 2 s i + word_sum (drop (i + 2) s)
unfolding word_sum le
word_sum_next s i h = go (ltb (i + 1) (length s)) refl
  where
    go : (t : Bool) → ltb (i + 1) (length s) ≡ t → word_sum (drop i s) ≡ le 2 s i + word_sum (drop (i + 2) s)
    go true e = rw (drop_two s i (ltb-true (i + 1) (length s) e)) (omega arith)
    go false e =
        let past : length s ≤ i + 1 = ltb-false (i + 1) (length s) e in
        let z : drop (suc i) s ≡ [] = drop_of_length-le s {i = suc i} (omega arith) in
        rw (drop-cons s i 0 h, z, get_or-eq_default s 0 {n = i + 1} past, drop_of_length-le s {i = i + 2} (omega arith)) (omega arith)

word_sum_end : (s : List ℕ) (i : ℕ) → length s ≤ i → word_sum (drop i s) ≡ 0
unfolding word_sum
word_sum_end s i h = rw (drop_of_length-le s {i = i} h)

-- of a string of whole words and another, the sums add up
pub word_sum-append : (p q : List ℕ) → length p % 2 ≡ 0 → word_sum (p ++ q) ≡ word_sum p + word_sum q
unfolding word_sum
word_sum-append [] q h = omega arith
word_sum-append (a ∷ []) q h = omega arith
word_sum-append (a ∷ b ∷ p) q h = rw (word_sum-append p q (omega arith)) (omega arith)

-- two bytes in front are one word
pub word_sum_two : (x : ℕ) (b : List ℕ) → word_sum (le_bytes 2 x ++ b) ≡ x % 256 + 256 * (x / 256 % 256) + word_sum b
unfolding word_sum le_bytes
word_sum_two x b = refl

-- ---- the words so far

-- the sum of the words before an even place and that of the words from there on make the whole
sum_parts : (s : List ℕ) (i : ℕ) → i % 2 ≡ 0 → i ≤ length s → word_sum s ≡ word_sum (take i s) + word_sum (drop i s)
sum_parts s i even h =
    ap word_sum (sym (take-append-drop i s)) ∙ word_sum-append (take i s) (drop i s) (rw (length-take-le i s h) even)

-- with one word more; an odd byte at the end is a word, and past the end there is none
pub sum_so_far : (s : List ℕ) (i : ℕ) → i % 2 ≡ 0 → i ≤ length s → word_sum (take (i + 2) s) ≡ word_sum (take i s) + le 2 s i
sum_so_far s i even h = go (ltb (i + 1) (length s)) (ltb i (length s)) refl refl
  where
    go : (t u : Bool) → ltb (i + 1) (length s) ≡ t → ltb i (length s) ≡ u → word_sum (take (i + 2) s) ≡ word_sum (take i s) + le 2 s i
    go true u e f =
        let there : i + 2 ≤ length s = omega (arith, ltb-true (i + 1) (length s) e) in
        omega (arith, sum_parts s i even h, sum_parts s (i + 2) (omega arith) there, word_sum_next s i (omega arith))
    go false true e f =
        let end : length s ≤ i + 1 = ltb-false (i + 1) (length s) e in
        rw (take_all (i + 2) s (omega arith))
        (omega (arith, sum_parts s i even h, word_sum_next s i (ltb-true i (length s) f), word_sum_end s (i + 2) (omega arith)))
    go false false e f =
        let past : length s ≤ i = ltb-false i (length s) f in
        rw (take_all (i + 2) s (omega arith), take_all i s past, le_past 2 s i past) (omega arith)

-- with what is left where that is one word at most
pub sum_whole : (s : List ℕ) (i : ℕ) → i % 2 ≡ 0 → i ≤ length s → length s ≤ i + 2 → word_sum s ≡ word_sum (take i s) + le 2 s i
sum_whole s i even h end = ap word_sum (sym (take_all (i + 2) s (omega arith))) ∙ sum_so_far s i even h

-- ---- the accumulator's values

-- one for each word; an odd byte at the end is a word
pub length_running : (sum : ℕ) (s : List ℕ) → length (running_sums_from sum s) ≡ (length s + 1) / 2
unfolding running_sums_from
length_running sum [] = refl
length_running sum (a ∷ []) = refl
length_running sum (a ∷ b ∷ rest) = omega (arith, length_running ((sum + (a + 256 * b)) % word_modulus) rest)

-- the k-th, from 0, is the true sum of the first k + 1 words modulo 65,536, from where the accumulator started
running_at : (sum : ℕ) (s : List ℕ) (k : ℕ) → k < length (running_sums_from sum s)
    → get_or (running_sums_from sum s) k 0 ≡ (sum + word_sum (take (2 * (k + 1)) s)) % word_modulus
unfolding running_sums_from word_sum
running_at sum [] k h = omega arith
running_at sum (a ∷ []) zero h = refl
running_at sum (a ∷ []) (suc k) h = omega arith
running_at sum (a ∷ b ∷ rest) zero h = omega arith
running_at sum (a ∷ b ∷ rest) (suc k) h =
    let e : 2 * (suc k + 1) ≡ suc (suc (2 * (k + 1))) = omega arith in
    rw e (omega (arith, running_at ((sum + (a + 256 * b)) % word_modulus) rest k (omega arith)))

-- it starts at 0
pub running_is : (s : List ℕ) (k : ℕ) → k < length (running_sums s) → get_or (running_sums s) k 0 ≡ word_sum (take (2 * (k + 1)) s) % word_modulus
running_is s k h = running_at 0 s k h ∙ rw zero-add

-- each is the one before it and the word there
pub running_next : (s : List ℕ) (k : ℕ) → k + 1 < length (running_sums s)
    → get_or (running_sums s) (k + 1) 0 ≡ (get_or (running_sums s) k 0 + le 2 s (2 * (k + 1))) % word_modulus
running_next s k h =
    let long = length_running 0 s in
    let two : 2 * (k + 1 + 1) ≡ 2 * (k + 1) + 2 = omega arith in
    rw (running_is s (k + 1) h, running_is s k (omega arith), two, sum_so_far s (2 * (k + 1)) (omega arith) (omega arith)) (omega arith)

-- the first is the first word
pub running_first : (s : List ℕ) → 0 < length s → get_or (running_sums s) 0 0 ≡ le 2 s 0 % word_modulus
unfolding word_sum
running_first s h = running_is s 0 (omega (arith, length_running 0 s)) ∙ rw (sum_so_far s 0 refl (omega arith), zero-add)

-- the last is the whole sum
pub running_last : (s : List ℕ) → get_or (running_sums s) (length (running_sums s) - 1) 0 ≡ word_sum s % word_modulus
unfolding word_sum running_sums_from
running_last [] = refl
running_last (a ∷ rest) =
    let s = a ∷ rest in
    let long = length_running 0 s in
    let k = length (running_sums s) - 1 in
    running_is s k (omega arith) ∙ rw (take_all (2 * (k + 1)) s (omega arith))

-- of a header that is lent whole, in the words of the lent bytes
pub header_running : (v : List ℕ) (k : ℕ) → header_length_at v ≤ length v → 2 * (k + 1) ≤ header_length_at v
    → get_or (running_sums (take (header_length_at v) v)) k 0 ≡ word_sum (take (2 * (k + 1)) v) % word_modulus
header_running v k lent h =
    let header = take (header_length_at v) v in
    let long = length-take-le (header_length_at v) v lent in
    running_is header k (omega (arith, length_running 0 header)) ∙ rw (take-take (2 * (k + 1)) (header_length_at v) v h)
