-- Laws of the lists of which an order of erasing is made.
use Prim.Native.Nat.{ℕ, zero, suc, ◌+◌, ◌-◌, ◌≤◌, ◌<◌, min}
use mathlib.Core.Path.{◌≡◌, refl, sym, ap, ◌∙◌}
use mathlib.Core.Bool.{Bool, true, false, not, cond, ◌&&◌, ◌||◌, or_assoc, or-true}
use mathlib.Core.List.{List, [], ◌∷◌, ◌++◌}
use native.Mathlib.Nat.{add-zero, sub-zero, zero-add}
use native.Mathlib.Omega.{arith}
use borrow.Author.Tests.{lt-ltb, le-ltb, le-leb, lt-leb, leb-true, leb-false, ne_eqb, eqb-true, eqb-false}
use lib.Dec.{T, leb, ltb, eqb}
use lib.ListN.{length, get_or, take, drop, length-take, drop_of_length-le, take-append-drop}
use lib.Seq.{take-nil, drop-nil, take_all}
use Rattle.block_service.specs.Order.{up_from, member, firsts, part}

pub member-append : (x : ℕ) (a b : List ℕ) → member x (a ++ b) ≡ (member x a || member x b)
unfolding member
member-append x [] b = refl
member-append x (y ∷ a) b = rw (member-append x a b) (sym (or_assoc (eqb x y) (member x a) (member x b)))

pub member-up_from : (x s n : ℕ) → member x (up_from s n) ≡ (leb s x && ltb x (s + n))
unfolding member up_from
member-up_from x s zero = rw (add-zero s) (go (leb s x) refl)
  where
    go : (t : Bool) → leb s x ≡ t → false ≡ (t && ltb x s)
    go true e = sym (le-ltb x s (leb-true _ _ e))
    go false e = refl
member-up_from x s (suc n) = rw (member-up_from x (s + 1) n) (go (eqb x s) refl (leb (s + 1) x) refl)
  where
    go : (t : Bool) → eqb x s ≡ t → (u : Bool) → leb (s + 1) x ≡ u → (t || u && ltb x (s + 1 + n)) ≡ (leb s x && ltb x (s + suc n))
    go true e u q = let z = eqb-true x s e in rw (le-leb s x (omega arith), lt-ltb x (s + suc n) (omega arith))
    go false e true q =
        let h : s + 1 ≤ x = leb-true _ _ q in
        let z : s + 1 + n ≡ s + suc n = omega arith in
        rw (z, le-leb s x (omega arith))
    go false e false q =
        let h : x < s + 1 = leb-false _ _ q in
        let n = eqb-false x s e in
        rw (lt-leb s x (omega arith))

pub length-up_from : (s n : ℕ) → length (up_from s n) ≡ n
unfolding up_from
length-up_from s zero = refl
length-up_from s (suc n) = ap suc (length-up_from (s + 1) n)

pub get_or-up_from : (s n k : ℕ) → k < n → get_or (up_from s n) k 0 ≡ s + k
unfolding up_from
get_or-up_from s zero k h = absurd (omega arith)
get_or-up_from s (suc n) zero h = sym (add-zero s)
get_or-up_from s (suc n) (suc k) h = get_or-up_from (s + 1) n k (omega arith) ∙ omega arith

pub take-up_from : (k s n : ℕ) → take k (up_from s n) ≡ up_from s (min k n)
unfolding up_from
take-up_from zero s n = let z : min 0 n ≡ 0 = omega arith in rw z
take-up_from (suc k) s zero = let z : min (suc k) 0 ≡ 0 = omega arith in rw z
take-up_from (suc k) s (suc n) = let z : min (suc k) (suc n) ≡ suc (min k n) = omega arith in rw (z, take-up_from k (s + 1) n)

pub drop-up_from : (k s n : ℕ) → drop k (up_from s n) ≡ up_from (s + k) (n - k)
unfolding up_from
drop-up_from zero s n = rw (add-zero s, sub-zero n)
drop-up_from (suc k) s zero = let z : 0 - suc k ≡ 0 = omega arith in rw z
drop-up_from (suc k) s (suc n) =
    let z : suc n - suc k ≡ n - k = omega arith in
    let y : s + suc k ≡ s + 1 + k = omega arith in
    rw (z, y) (drop-up_from k (s + 1) n)

pub up_from-append : (s m n : ℕ) → up_from s m ++ up_from (s + m) n ≡ up_from s (m + n)
unfolding up_from
up_from-append s zero n = rw (add-zero s, zero-add n)
up_from-append s (suc m) n =
    let z : suc m + n ≡ suc (m + n) = omega arith in
    let y : s + suc m ≡ s + 1 + m = omega arith in
    rw (z, y) (ap (λ (l : List ℕ). s ∷ l) (up_from-append (s + 1) m n))

-- ---- each where it first stands

pub firsts_same : (p q : ℕ → Bool) (l : List ℕ) → ((x : ℕ) → p x ≡ q x) → firsts p l ≡ firsts q l
unfolding firsts
firsts_same p q [] h = refl
firsts_same p q (b ∷ l) h =
    rw (h b, firsts_same p q l h, firsts_same (λ x. eqb x b || p x) (λ x. eqb x b || q x) l (λ x. ap (λ (t : Bool). eqb x b || t) (h x)))

pub firsts-member : (p : ℕ → Bool) (l : List ℕ) (x : ℕ) → member x (firsts p l) ≡ (not (p x) && member x l)
unfolding firsts member
firsts-member p [] x = go (p x)
  where
    go : (t : Bool) → false ≡ (not t && false)
    go true = refl
    go false = refl
firsts-member p (b ∷ l) x = go (p b) refl (eqb x b) refl (firsts-member p l x) (firsts-member (λ y. eqb y b || p y) l x)
  where
    P : ℕ → Bool
    P = λ y. eqb y b || p y

    go : (t : Bool) → p b ≡ t → (u : Bool) → eqb x b ≡ u → member x (firsts p l) ≡ (not (p x) && member x l)
        → member x (firsts P l) ≡ (not (eqb x b || p x) && member x l)
        → member x (cond t (firsts p l) (b ∷ firsts P l)) ≡ (not (p x) && (u || member x l))
    go true e true q k m = let z = eqb-true x b q in let w : p x ≡ true = rw z e in k ∙ rw w
    go true e false q k m = k
    go false e true q k m = let z = eqb-true x b q in let w : p x ≡ false = rw z e in rw (q, w)
    go false e false q k m = rw q (m ∙ rw q)

-- a list after another: those that the first has are passed over
pub firsts-append : (p : ℕ → Bool) (a b : List ℕ) → firsts p (a ++ b) ≡ firsts p a ++ firsts (λ x. member x a || p x) b
unfolding firsts member
firsts-append p [] b = refl
firsts-append p (y ∷ a) b = go (p y) refl (firsts-append p a b) (firsts-append (λ x. eqb x y || p x) a b)
  where
    P : ℕ → Bool
    P = λ x. eqb x y || p x

    swap : (s t u : Bool) → (t || (s || u)) ≡ (s || t || u)
    swap true t u = or-true t
    swap false t u = refl

    known : (x : ℕ) → p y ≡ true → (member x a || p x) ≡ (eqb x y || member x a || p x)
    known x e = at (eqb x y) refl
      where
        at : (s : Bool) → eqb x y ≡ s → (member x a || p x) ≡ (s || member x a || p x)
        at true q = let z = eqb-true x y q in rw (z, e) (or-true (member y a))
        at false q = refl

    go : (t : Bool) → p y ≡ t → firsts p (a ++ b) ≡ firsts p a ++ firsts (λ x. member x a || p x) b
        → firsts P (a ++ b) ≡ firsts P a ++ firsts (λ x. member x a || P x) b
        → cond t (firsts p (a ++ b)) (y ∷ firsts P (a ++ b)) ≡ cond t (firsts p a) (y ∷ firsts P a) ++ firsts (λ x. eqb x y || member x a || p x) b
    go true e k m =
        k
        ∙ ap (λ (l : List ℕ). firsts p a ++ l) (firsts_same (λ x. member x a || p x) (λ x. eqb x y || member x a || p x) b (λ x. known x e))
    go false e k m =
        ap (λ (l : List ℕ). y ∷ l)
        (m
        ∙ ap (λ (l : List ℕ). firsts P a ++ l)
        (firsts_same (λ x. member x a || P x) (λ x. eqb x y || member x a || p x) b (λ x. swap (eqb x y) (member x a) (p x))))

-- a run of numbers none of which was passed, and one of which each was
pub firsts_fresh : (p : ℕ → Bool) (s n : ℕ) → ((x : ℕ) → s ≤ x → x < s + n → p x ≡ false) → firsts p (up_from s n) ≡ up_from s n
unfolding firsts up_from
firsts_fresh p s zero h = refl
firsts_fresh p s (suc n) h =
    rw (h s (omega arith) (omega arith))
    (ap (λ (l : List ℕ). s ∷ l)
    (firsts_fresh (λ x. eqb x s || p x) (s + 1) n (λ x a b. rw (ne_eqb x s (λ z. omega arith)) (h x (omega arith) (omega arith)))))

pub firsts-passed : (p : ℕ → Bool) (s n : ℕ) → ((x : ℕ) → s ≤ x → x < s + n → p x ≡ true) → firsts p (up_from s n) ≡ []
unfolding firsts up_from
firsts-passed p s zero h = refl
firsts-passed p s (suc n) h = rw (h s (omega arith) (omega arith)) (firsts-passed p (s + 1) n (λ x a b. h x (omega arith) (omega arith)))

-- ---- parts

pub part_all : (l : List ℕ) (n : ℕ) → length l ≤ n → part 0 n l ≡ l
unfolding part
part_all l n h = take_all n l h

pub part_none : (from to : ℕ) (l : List ℕ) → to ≤ from → part from to l ≡ []
unfolding part
part_none from to l h = drop_of_length-le (take to l) {i = from} (rw (length-take to l) (omega arith))

pub part_nil : (from to : ℕ) → part from to [] ≡ []
unfolding part
part_nil from to = rw (take-nil {A = ℕ} to) (drop-nil from)

-- a part and the one after it
pub part-add : (from mid to : ℕ) (l : List ℕ) → from ≤ mid → mid ≤ to → part from mid l ++ part mid to l ≡ part from to l
unfolding part
part-add zero zero to l h k = refl
part-add zero (suc mid) zero l h k = absurd (omega arith)
part-add zero (suc mid) (suc to) [] h k = refl
part-add zero (suc mid) (suc to) (x ∷ l) h k = ap (λ (r : List ℕ). x ∷ r) (part-add 0 mid to l (omega arith) (omega arith))
part-add (suc from) zero to l h k = absurd (omega arith)
part-add (suc from) (suc mid) zero l h k = absurd (omega arith)
part-add (suc from) (suc mid) (suc to) [] h k = refl
part-add (suc from) (suc mid) (suc to) (x ∷ l) h k = part-add from mid to l (omega arith) (omega arith)

-- a part of a list made of two, where the second's numbers go on from the first's
pub part-append : (from to : ℕ) (a b : List ℕ) → part from to (a ++ b) ≡ part from to a ++ part (from - length a) (to - length a) b
unfolding part
part-append from to [] b = rw (drop-take_nil from to, sub-zero from, sub-zero to)
  where
    drop-take_nil : (f t : ℕ) → drop {A = ℕ} f (take t []) ≡ []
    drop-take_nil f t = rw (take-nil {A = ℕ} t) (drop-nil f)
part-append from zero (x ∷ a) b =
    let z : 0 - suc (length a) ≡ 0 = omega arith in
    rw (z, drop-nil {A = ℕ} from) (sym (drop-nil {A = ℕ} (from - suc (length a))))
part-append zero (suc to) (x ∷ a) b =
    let z : suc to - suc (length a) ≡ to - length a = omega arith in
    let y : 0 - suc (length a) ≡ 0 = omega arith in
    let w : 0 - length a ≡ 0 = omega arith in
    rw (z, y) (ap (λ (r : List ℕ). x ∷ r) (rw w at (part-append 0 to a b)))
part-append (suc from) (suc to) (x ∷ a) b =
    let z : suc to - suc (length a) ≡ to - length a = omega arith in
    let y : suc from - suc (length a) ≡ from - length a = omega arith in
    rw (z, y) (part-append from to a b)

pub part-up_from : (from to s n : ℕ) → part from to (up_from s n) ≡ up_from (s + from) (min to n - from)
unfolding part
part-up_from from to s n = rw (take-up_from to s n) (drop-up_from from s (min to n))

-- what stands in a part stands in the list
or_second : (t u : Bool) → T u → T (t || u)
or_second true u k = tt
or_second false u k = k

drop-member : (x n : ℕ) (l : List ℕ) → T (member x (drop n l)) → T (member x l)
unfolding member
drop-member x zero l t = t
drop-member x (suc n) [] t = t
drop-member x (suc n) (y ∷ l) t = or_second (eqb x y) (member x l) (drop-member x n l t)

take-member : (x n : ℕ) (l : List ℕ) → T (member x (take n l)) → T (member x l)
unfolding member
take-member x zero l t = absurd t
take-member x (suc n) [] t = t
take-member x (suc n) (y ∷ l) t = go (eqb x y) t (take-member x n l)
  where
    go : (s : Bool) → T (s || member x (take n l)) → (T (member x (take n l)) → T (member x l)) → T (s || member x l)
    go true t f = tt
    go false t f = f t

pub part-member : (x from to : ℕ) (l : List ℕ) → T (member x (part from to l)) → T (member x l)
unfolding part
part-member x from to l t = take-member x to l (drop-member x from (take to l) t)

-- from a place on: a part, and what is after it
pub part_rest : (k n : ℕ) (l : List ℕ) → drop k l ≡ part k (k + n) l ++ drop (k + n) l
unfolding part
part_rest zero n l = rw (zero-add n) (sym (take-append-drop n l))
part_rest (suc k) n [] = let z : suc k + n ≡ suc (k + n) = omega arith in rw z
part_rest (suc k) n (x ∷ l) = let z : suc k + n ≡ suc (k + n) = omega arith in rw z (part_rest k n l)
