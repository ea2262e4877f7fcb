-- Laws of lists that the loops of several crates share.
use Prim.Native.Nat.{ℕ, zero, suc, ◌+◌, ◌-◌, ◌≤◌, ◌<◌}
use mathlib.Core.Path.{◌≡◌, refl, sym, ap, ◌∙◌}
use mathlib.Core.List.{List, [], ◌∷◌, ◌++◌, append_assoc, append-nil}
use native.Mathlib.Numerals.{add-one, add-two}
use native.Mathlib.Omega.{arith}
use native.Mathlib.Nat.{add-zero, zero-add, sub-zero, ne_of_gt}
use lib.ListN.{length, get_or, take, drop, set, replicate, drop_of_length-le, take-append-drop, length-append}
use lib.Seq.{sets, set_out, set_comm, sets-eq, take-append_seam, drop-append-add, drop-append_seam, take-suc-set, drop-cons, drop-set-lt, drop-drop, take_all, append_snoc}

-- two elements of a list from place i on, and the rest
pub drop_two : (w : List ℕ) (i : ℕ) → i + 1 < length w → drop i w ≡ get_or w i 0 ∷ get_or w (i + 1) 0 ∷ drop (i + 2) w
drop_two w i h = rw (add-one, add-two, drop-cons w i 0 (omega arith), drop-cons w (suc i) 0 (omega arith))

-- a list filled from the front: where its first i elements and the target's others make the target, the store of the target's element
-- at i makes it so of i + 1
pub fill_next : (t l : List ℕ) (i v : ℕ) → i < length l → i < length t → get_or t i 0 ≡ v → take i l ++ drop i t ≡ t
    → take (i + 1) (set l i v) ++ drop (i + 1) t ≡ t
fill_next t l i v hl ht e h =
    rw (add-one, take-suc-set l i v hl, append_snoc (take i l) v (drop (suc i) t), ← e)
    (rw (drop-cons t i 0 ht) at h)

-- filled to its end it is the target
pub fill_done : (t l : List ℕ) (i : ℕ) → length t ≡ length l → length l ≤ i → take i l ++ drop i t ≡ t → l ≡ t
fill_done t l i e h q = sym (append-nil l) ∙ (rw (take_all i l h, drop_of_length-le t {i = i} (omega arith)) at q)

-- filled to the target's end, it is the target and then what it had beyond
pub fill_front : (t l : List ℕ) (i : ℕ) → length t ≤ i → take i l ++ drop i t ≡ t → l ≡ t ++ drop i l
fill_front t l i h q = sym (take-append-drop i l) ∙ ap (λ (x : List ℕ). x ++ drop i l) (sym (append-nil (take i l)) ∙ (rw (drop_of_length-le t {i = i} h) at q))

-- lists alike from place i on are alike from i + 1 on after a store at i
pub beyond_next : (l m : List ℕ) (i v : ℕ) → drop i l ≡ drop i m → drop (i + 1) (set l i v) ≡ drop (i + 1) m
beyond_next l m i v e = drop-set-lt (i + 1) l i v (omega arith) ∙ sym (drop-drop 1 i l) ∙ ap (λ (x : List ℕ). drop 1 x) e ∙ drop-drop 1 i m

-- zeros from place k on
pub drop-zeros : (k n : ℕ) → drop k (replicate {A = ℕ} n 0) ≡ replicate (n - k) 0
drop-zeros zero n = rw sub-zero
drop-zeros (suc k) zero = let none : 0 - suc k ≡ 0 = omega arith in rw none
drop-zeros (suc k) (suc n) = let e : suc n - suc k ≡ n - k = omega arith in rw e (drop-zeros k n)

-- ---- runs of stores: `sets l i vs` is l with vs stored from place i on

-- stores at and past the end of a list leave it
pub sets_past : (vs l : List ℕ) (at : ℕ) → length l ≤ at → sets l at vs ≡ l
sets_past [] l at h = refl
sets_past (v ∷ vs) l at h = rw (set_out l at v) (sets_past vs l (suc at) (omega arith))

-- a run made of two: the second goes on where the first ends
pub sets-append : (a b l : List ℕ) (i : ℕ) → sets l i (a ++ b) ≡ sets (sets l i a) (i + length a) b
sets-append [] b l i = rw add-zero
sets-append (x ∷ a) b l i = let e : suc i + length a ≡ i + suc (length a) = omega arith in sets-append a b (set l i x) (suc i) ∙ ap (λ (k : ℕ). sets (sets (set l i x) (suc i) a) k b) e

-- the stores of a list from its place i on: none are left, or the element there and then the rest
pub sets_none : (v l : List ℕ) (at i : ℕ) → length v ≤ i → sets l at (drop i v) ≡ l
sets_none v l at i h = rw (drop_of_length-le v {i = i} h)

pub sets_next : (v l : List ℕ) (at i : ℕ) → i < length v → sets l (at + i) (drop i v) ≡ sets (set l (at + i) (get_or v i 0)) (at + (i + 1)) (drop (i + 1) v)
sets_next v l at i h = let e : at + (i + 1) ≡ suc (at + i) = omega arith in rw (e, drop-cons v i 0 h, add-one)

-- a run that fits replaces what stood there
pub sets_over : (f x y b : List ℕ) → length x ≡ length y → sets (f ++ (x ++ b)) (length f) y ≡ f ++ (y ++ b)
sets_over f x y b e =
    let fits : length f + length y ≤ length (f ++ (x ++ b)) = simp length-append (omega arith) in
    sets-eq y (f ++ (x ++ b)) (length f) fits
    ∙ rw (take-append_seam f (x ++ b), drop-append-add f (x ++ b) (length y), ← e, drop-append_seam x b, append_assoc)

-- a run from the start that fits is the front, and the rest stays
pub sets_front : (v l : List ℕ) → length v ≤ length l → sets l 0 v ≡ v ++ drop (length v) l
sets_front v l h = sets-eq v l 0 (omega arith) ∙ rw zero-add

-- a store before a run can be made before it
pub set-sets : (v l : List ℕ) (i j a : ℕ) → j < i → set (sets l i v) j a ≡ sets (set l j a) i v
set-sets [] l i j a h = refl
set-sets (x ∷ v) l i j a h = set-sets v (set l i x) (suc i) j a (omega arith) ∙ ap (λ (m : List ℕ). sets m (suc i) v) (set_comm l i j x a (ne_of_gt h))
