-- Laws of `edit`, a list with each element changed by its number: its length and elements, two edits in a row, an edit of a part of a
-- list, and the loop that makes one.
use Prim.Native.Nat.{ℕ, zero, suc, ◌+◌, ◌-◌, ◌≤◌, ◌<◌}
use mathlib.Core.Path.{◌≡◌, refl, sym, ap, ap₂, ◌∙◌}
use mathlib.Core.Bool.{Bool, true, false, cond, ◌&&◌}
use mathlib.Core.List.{List, [], ◌∷◌, ◌++◌, append-nil}
use native.Mathlib.Nat.{add-zero, zero-add, add-sub_cancel_left}
use native.Mathlib.Numerals.{add-one}
use native.Mathlib.Omega.{arith}
use borrow.Author.Tests.{lt-ltb, le-ltb, le-leb, lt-leb, ltb-true, ltb-false}
use lib.Dec.{leb, ltb}
use lib.ListN.{length, get_or, take, drop, set, take-append-drop, length-drop, get_or-eq_default, drop_of_length-le}
use lib.Seq.{take-suc-set, drop-cons, drop-set-lt, length-take-le, append_snoc, take_all}
use Rattle.common.specs.Lists.{edit}

pub length-edit : (f : ℕ → ℕ → ℕ) (k : ℕ) (l : List ℕ) → length (edit f k l) ≡ length l
unfolding edit
length-edit f k [] = refl
length-edit f k (x ∷ l) = ap suc (length-edit f (k + 1) l)

-- the element at i is changed by its own number
pub get_or-edit : (f : ℕ → ℕ → ℕ) (k : ℕ) (l : List ℕ) (i : ℕ) → i < length l → get_or (edit f k l) i 0 ≡ f (k + i) (get_or l i 0)
unfolding edit
get_or-edit f k [] i h = absurd (omega arith)
get_or-edit f k (x ∷ l) zero h = rw (add-zero k)
get_or-edit f k (x ∷ l) (suc i) h = let e : k + suc i ≡ k + 1 + i = omega arith in rw e (get_or-edit f (k + 1) l i (omega arith))

-- an element that its change keeps, or that is not there, is as before
pub get_d_kept : (f : ℕ → ℕ → ℕ) (l : List ℕ) (i : ℕ) → f i (get_or l i 0) ≡ get_or l i 0 → get_or (edit f 0 l) i 0 ≡ get_or l i 0
get_d_kept f l i h = go (ltb i (length l)) refl
  where
    go : (t : Bool) → ltb i (length l) ≡ t → get_or (edit f 0 l) i 0 ≡ get_or l i 0
    go true e = get_or-edit f 0 l i (ltb-true _ _ e) ∙ ap (λ (k : ℕ). f k (get_or l i 0)) (zero-add i) ∙ h
    go false e =
        let w : length l ≤ i = ltb-false _ _ e in
        get_or-eq_default (edit f 0 l) 0 {n = i} (rw (length-edit f 0 l) w) ∙ sym (get_or-eq_default l 0 {n = i} w)

-- two edits agree where they do the same to each element
pub edit-same : (f g : ℕ → ℕ → ℕ) (k j : ℕ) (l : List ℕ) → ((i x : ℕ) → i < length l → f (k + i) x ≡ g (j + i) x) → edit f k l ≡ edit g j l
unfolding edit
edit-same f g k j [] h = refl
edit-same f g k j (x ∷ l) h =
    ap₂ (λ (a : ℕ) (r : List ℕ). a ∷ r)
    (rw (add-zero k, add-zero j) at (h 0 x (omega arith)))
    (edit-same f g (k + 1) (j + 1) l
    (λ i y p. let e : k + suc i ≡ k + 1 + i = omega arith in let q : j + suc i ≡ j + 1 + i = omega arith in rw (e, q) at (h (suc i) y (omega arith))))

-- an edit that keeps each element
pub edit_keep : (f : ℕ → ℕ → ℕ) (k : ℕ) (l : List ℕ) → ((i x : ℕ) → i < length l → f (k + i) x ≡ x) → edit f k l ≡ l
unfolding edit
edit_keep f k [] h = refl
edit_keep f k (x ∷ l) h =
    ap₂ (λ (a : ℕ) (r : List ℕ). a ∷ r)
    (rw (add-zero k) at (h 0 x (omega arith)))
    (edit_keep f (k + 1) l (λ i y p. let e : k + suc i ≡ k + 1 + i = omega arith in rw e at (h (suc i) y (omega arith))))

-- two edits in a row are one
pub edit-edit : (f g : ℕ → ℕ → ℕ) (k : ℕ) (l : List ℕ) → edit f k (edit g k l) ≡ edit (λ i x. f i (g i x)) k l
unfolding edit
edit-edit f g k [] = refl
edit-edit f g k (x ∷ l) = ap (λ (r : List ℕ). f k (g k x) ∷ r) (edit-edit f g (k + 1) l)

edit-append : (f : ℕ → ℕ → ℕ) (k : ℕ) (a b : List ℕ) → edit f k (a ++ b) ≡ edit f k a ++ edit f (k + length a) b
unfolding edit
edit-append f k [] b = rw (add-zero k)
edit-append f k (x ∷ a) b =
    let e : k + suc (length a) ≡ k + 1 + length a = omega arith in
    ap (λ (r : List ℕ). f k x ∷ r) (rw e (edit-append f (k + 1) a b))

-- the n elements from `at` on changed by h, each by its number in that part; the others kept
abbrev pub within : ℕ → ℕ → (ℕ → ℕ → ℕ) → ℕ → ℕ → ℕ
within at n h i x = cond (leb at i && ltb i (at + n)) (h (i - at) x) x

-- a part that was lent, edited and handed back
pub edit-part : (h : ℕ → ℕ → ℕ) (at n : ℕ) (v : List ℕ) → at + n ≤ length v
    → take at v ++ (edit h 0 (take n (drop at v)) ++ drop n (drop at v)) ≡ edit (within at n h) 0 v
edit-part h at n v fits =
    let front : length (take at v) ≡ at = length-take-le at v (omega arith) in
    let room : n ≤ length (drop at v) = rw (length-drop at v) (omega arith) in
    let mid : length (take n (drop at v)) ≡ n = length-take-le n (drop at v) room in
    let F = within at n h in
    let kept : edit F 0 (take at v) ≡ take at v =
    edit_keep F 0 (take at v) (λ i x p. rw (zero-add i, lt-leb at i (omega arith))) in
    let changed : edit F at (take n (drop at v)) ≡ edit h 0 (take n (drop at v)) =
    edit-same F h at 0 (take n (drop at v))
    (λ i x p. rw (zero-add i, le-leb at (at + i) (omega arith), lt-ltb (at + i) (at + n) (omega arith), add-sub_cancel_left at i)) in
    let after : edit F (at + n) (drop n (drop at v)) ≡ drop n (drop at v) =
    edit_keep F (at + n) (drop n (drop at v))
    (λ i x p. rw (le-leb at (at + n + i) (omega arith), le-ltb (at + n + i) (at + n) (omega arith))) in
    let whole : edit F 0 (take at v ++ (take n (drop at v) ++ drop n (drop at v)))
    ≡ edit F 0 (take at v) ++ (edit F at (take n (drop at v)) ++ edit F (at + n) (drop n (drop at v))) =
    edit-append F 0 (take at v) (take n (drop at v) ++ drop n (drop at v))
    ∙ rw (zero-add (length (take at v)), front, edit-append F at (take n (drop at v)) (drop n (drop at v)), mid) in
    let parts : take at v ++ (take n (drop at v) ++ drop n (drop at v)) ≡ v =
    rw (take-append-drop n (drop at v)) (take-append-drop at v) in
    sym (ap (λ (l : List ℕ). edit F 0 l) (sym parts) ∙ whole ∙ rw (kept, changed, after))

-- the loop that edits a list in place: the first i elements are done, the others are still to be changed
unfoldable pub edited_to : (ℕ → ℕ → ℕ) → ℕ → List ℕ → List ℕ
edited_to h i p = take i p ++ edit h i (drop i p)

pub edit_start : (h : ℕ → ℕ → ℕ) (p : List ℕ) → edited_to h 0 p ≡ edit h 0 p
unfolding edited_to
edit_start h p = refl

pub edit_next : (h : ℕ → ℕ → ℕ) (p : List ℕ) (i v : ℕ) → i < length p → v ≡ h i (get_or p i 0) → edited_to h (i + 1) (set p i v) ≡ edited_to h i p
unfolding edit edited_to
edit_next h p i v b e =
    rw (add-one, take-suc-set p i v b, drop-set-lt (suc i) p i v (omega arith), drop-cons p i 0 b, append_snoc (take i p) v (edit h (suc i) (drop (suc i) p)), e, add-one)

pub edit_done : (h : ℕ → ℕ → ℕ) (p : List ℕ) (i : ℕ) → length p ≤ i → edited_to h i p ≡ p
unfolding edit edited_to
edit_done h p i b = rw (take_all i p b, drop_of_length-le p {i = i} b) (append-nil p)
