-- Laws of an erase list that comes as bytes: how many words it has, and which.
use Prim.Native.Nat.{ℕ, zero, suc, ◌+◌, ◌*◌, ◌/◌, ◌%◌, ◌≤◌, ◌<◌}
use mathlib.Core.List.{List, ◌∷◌, ◌++◌}
use mathlib.Core.Path.{◌≡◌, refl, sym, ap, ap₂, ◌∙◌}
use native.Mathlib.Omega.{arith}
use lib.ListN.{length, get_or, take, drop, take-append-drop, length-append, get_or-append, get_or-eq_default}
use lib.Seq.{get_or-take, length-take-le}
use Rattle.numbers.specs.LittleEndian.{le}
use Rattle.numbers.proofs.LittleEndian.{le_same, le_skip}
use Rattle.block_service.specs.Erase.{longs_at, list_words}

-- k words are k; word i of them stands 8 * i bytes behind the first; and they are those of the bytes that they take
length_longs : (k : ℕ) (s : List ℕ) (at : ℕ) → length (longs_at k s at) ≡ k
unfolding longs_at
length_longs zero s at = refl
length_longs (suc k) s at = ap suc (length_longs k s (at + 8))

long_at : (k : ℕ) (s : List ℕ) (at i : ℕ) → i < k → get_or (longs_at k s at) i 0 ≡ le 8 s (at + 8 * i)
unfolding longs_at
long_at zero s at i h = absurd (omega arith)
long_at (suc k) s at zero h = ap (λ (j : ℕ). le 8 s j) (omega arith)
long_at (suc k) s at (suc i) h = long_at k s (at + 8) i (omega arith) ∙ ap (λ (j : ℕ). le 8 s j) (omega arith)

longs_front : (k : ℕ) (s t : List ℕ) (at : ℕ) → at + 8 * k ≤ length s → longs_at k (s ++ t) at ≡ longs_at k s at
unfolding longs_at
longs_front zero s t at h = refl
longs_front (suc k) s t at h =
    ap₂ (λ (x : ℕ) (l : List ℕ). x ∷ l) (le_same 8 (s ++ t) s at (λ i p q. get_or-append s t 0 i (omega arith)))
    (longs_front k s t (at + 8) (omega arith))

-- a list of bytes has a word for each eight of them
pub word_number : (s : List ℕ) → length (list_words s) ≡ length s / 8
unfolding list_words
word_number s = length_longs (length s / 8) s 0

-- word i stands at byte 8 * i
pub byte_word : (s : List ℕ) (i : ℕ) → i < length s / 8 → get_or (list_words s) i 0 ≡ le 8 s (8 * i)
unfolding list_words
byte_word s i h = long_at (length s / 8) s 0 i h ∙ ap (λ (j : ℕ). le 8 s j) (omega arith)

-- so it is where a part is lent that has its bytes
pub part_word : (s : List ℕ) (at n k i : ℕ) → k + 8 ≤ n → at + n ≤ length s → at + k ≡ 8 * i → le 8 (take n (drop at s)) k ≡ get_or (list_words s) i 0
part_word s at n k i h g e =
    let long : length (take at s) ≡ at = length-take-le at s (omega arith) in
    let same : le 8 (take at s ++ drop at s) (length (take at s) + k) ≡ le 8 s (8 * i) = rw (take-append-drop at s, long, e) in
    le_same 8 (take n (drop at s)) (drop at s) k (λ x p q. get_or-take n (drop at s) x 0 (omega arith))
    ∙ sym (le_skip 8 (take at s) (drop at s) k)
    ∙ same
    ∙ sym (byte_word s i (omega arith))

-- past the end it is 0
pub word_past : (s : List ℕ) (i : ℕ) → length s / 8 ≤ i → 0 ≡ get_or (list_words s) i 0
word_past s i h = sym (get_or-eq_default (list_words s) 0 (omega (arith, word_number s)))

-- fewer than eight bytes behind the last whole word change nothing
pub part_ignored : (s t : List ℕ) → length s % 8 ≡ 0 → length t < 8 → list_words (s ++ t) ≡ list_words s
unfolding list_words
part_ignored s t whole part =
    let e : length (s ++ t) / 8 ≡ length s / 8 = rw length-append (omega arith) in
    rw e (longs_front (length s / 8) s t 0 (omega arith))
