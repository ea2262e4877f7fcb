-- The order of a list's bytes: it holds exactly the bytes of the blocks that the list names, each once, and so at most all bytes of the map.
use Prim.Native.Nat.{ℕ, zero, suc, ◌+◌, ◌-◌, ◌≤◌, ◌<◌}
use mathlib.Core.Path.{◌≡◌, refl, sym, ap, ◌∙◌}
use mathlib.Core.Bool.{or-false, Bool, true, false, not, cond, ◌&&◌, ◌||◌, and-false, true≢false}
use mathlib.Core.List.{List, [], ◌∷◌, ◌++◌, append_assoc}
use native.Mathlib.Nat.{add-zero}
use native.Mathlib.Omega.{arith}
use borrow.Author.Tests.{ne_eqb, lt-ltb, le-ltb, le-leb, lt-leb, ltb-true, ltb-false, eq-eqb, eqb-true, eqb-false}
use lib.Dec.{T, leb, ltb, eqb}
use lib.ListN.{length, get_or}
use Rattle.volume.specs.BlockMap.{blocks, bytes}
use Rattle.block_service.specs.Blocks.{place, start_of, length_of, block_at, first_byte}
use Rattle.block_service.specs.Erase.{end_of_list, names}
use Rattle.block_service.proofs.blocks.Places.{place_there, found_start, found_end, before_same, not_before_same, before_first_byte, first_byte_end}
use Rattle.block_service.proofs.blocks.Runs.{first_byte_rises}
use Rattle.block_service.specs.Order.{up_from, member, firsts, named_blocks, bytes_of, erase_order}
use Rattle.block_service.proofs.carry.OrderLists.{length-up_from, get_or-up_from, member-append, member-up_from, firsts_same, firsts-append, firsts_fresh, firsts-member, up_from-append}

-- ---- blocks

-- the bytes of blocks and then of others
pub bytes-append : (m a b : List ℕ) → bytes_of m (a ++ b) ≡ bytes_of m a ++ bytes_of m b
unfolding bytes_of
bytes-append m [] b = refl
bytes-append m (x ∷ a) b = rw (bytes-append m a b) (sym (append_assoc (up_from (start_of (place m x)) (length_of (place m x))) (bytes_of m a) (bytes_of m b)))

-- a block's bytes are those from its first byte up to the next block's
pub block_bytes : (m : List ℕ) (b : ℕ) → b < blocks m
    → up_from (start_of (place m b)) (length_of (place m b)) ≡ up_from (first_byte m b) (first_byte m (b + 1) - first_byte m b)
unfolding start_of length_of
block_bytes m b h =
    let p = place_there m b h in
    let e = p.4 in
    let s : p.1 ≡ first_byte m b = found_start m b _ _ _ _ e in
    let t : p.1 + p.2 ≡ first_byte m (b + 1) = found_end m b _ _ _ _ e in
    let l : p.2 ≡ first_byte m (b + 1) - first_byte m b = omega arith in
    rw (e, s, l)

-- a run of blocks
pub run-bytes : (m : List ℕ) (b n : ℕ) → b + n ≤ blocks m → bytes_of m (up_from b n) ≡ up_from (first_byte m b) (first_byte m (b + n) - first_byte m b)
unfolding bytes_of up_from
run-bytes m b zero h = let z : first_byte m (b + 0) - first_byte m b ≡ 0 = rw (add-zero b) (omega arith) in rw z
run-bytes m b (suc n) h =
    let e : b + suc n ≡ b + 1 + n = omega arith in
    let r : first_byte m b ≤ first_byte m (b + 1) = first_byte_rises m b 1 in
    let q : first_byte m (b + 1) ≤ first_byte m (b + 1 + n) = first_byte_rises m (b + 1) n in
    let a : first_byte m b + (first_byte m (b + 1) - first_byte m b) ≡ first_byte m (b + 1) = omega arith in
    let w : (first_byte m (b + 1) - first_byte m b) + (first_byte m (b + 1 + n) - first_byte m (b + 1)) ≡ first_byte m (b + 1 + n) - first_byte m b = omega arith in
    rw (e, block_bytes m b (omega arith), run-bytes m (b + 1) n (omega arith))
    (ap (λ (x : ℕ). up_from (first_byte m b) (first_byte m (b + 1) - first_byte m b) ++ up_from x (first_byte m (b + 1 + n) - first_byte m (b + 1))) (sym a)
    ∙ up_from-append (first_byte m b) (first_byte m (b + 1) - first_byte m b) (first_byte m (b + 1 + n) - first_byte m (b + 1))
    ∙ ap (λ (x : ℕ). up_from (first_byte m b) x) w)

-- so byte number k of it is the k-th after its first
pub run_upward : (m : List ℕ) (b n : ℕ) → b + n ≤ blocks m → (k : ℕ) → k < length (bytes_of m (up_from b n)) → get_or (bytes_of m (up_from b n)) k 0 ≡ start_of (place m b) + k
unfolding start_of bytes_of up_from
run_upward m b zero h k q = absurd (omega arith)
run_upward m b (suc n) h k q =
    let p = place_there m b (omega arith) in
    let s : p.1 ≡ first_byte m b = found_start m b _ _ _ _ p.4 in
    let e = run-bytes m b (suc n) h in
    let l : k < first_byte m (b + suc n) - first_byte m b = rw (length-up_from (first_byte m b) (first_byte m (b + suc n) - first_byte m b)) at (rw e at q) in
    rw (e, p.4, s) (get_or-up_from (first_byte m b) (first_byte m (b + suc n) - first_byte m b) k l)

-- the same with the places that a search gave
pub run_at : (m : List ℕ) (b n s e : ℕ) → s ≡ first_byte m b → e ≡ first_byte m (b + n) → b + n ≤ blocks m → bytes_of m (up_from b n) ≡ up_from s (e - s)
run_at m b n s e p q h = rw (p, q) (run-bytes m b n h)

-- every block of a list is one of the map
abbrev Within : List ℕ → List ℕ → Type 0
Within m l = (b : ℕ) → T (member b l) → b < blocks m

in_block : (m : List ℕ) (i b : ℕ) → b < blocks m → member i (up_from (start_of (place m b)) (length_of (place m b))) ≡ eqb (block_at m i) b
in_block m i b h =
    let r : first_byte m b ≤ first_byte m (b + 1) = first_byte_rises m b 1 in
    let z : first_byte m b + (first_byte m (b + 1) - first_byte m b) ≡ first_byte m (b + 1) = omega arith in
    rw (
      block_bytes m b h,
      member-up_from i (first_byte m b) (first_byte m (b + 1) - first_byte m b),
      z,
      ← not_before_same m i b (omega arith),
      ← before_same m i (b + 1) (omega arith),
    )
    (go (eqb (block_at m i) b) refl)
  where
    go : (t : Bool) → eqb (block_at m i) b ≡ t → (leb b (block_at m i) && ltb (block_at m i) (b + 1)) ≡ t
    go true e = let q = eqb-true (block_at m i) b e in rw (le-leb b (block_at m i) (omega arith), lt-ltb (block_at m i) (b + 1) (omega arith))
    go false e = let q = eqb-false (block_at m i) b e in at (ltb (block_at m i) b) refl
      where
        at : (t : Bool) → ltb (block_at m i) b ≡ t → (leb b (block_at m i) && ltb (block_at m i) (b + 1)) ≡ false
        at true x = let w : block_at m i < b = ltb-true _ _ x in rw (lt-leb b (block_at m i) w)
        at false x =
            let w : b ≤ block_at m i = ltb-false _ _ x in
            let q = eqb-false (block_at m i) b e in
            rw (le-leb b (block_at m i) w) (le-ltb (block_at m i) (b + 1) (omega arith))

T_true : (t : Bool) → T t → t ≡ true
T_true true k = refl
T_true false k = absurd k

or_second : (t u : Bool) → T u → T (t || u)
or_second true u k = tt
or_second false u k = k

bytes-member : (m l : List ℕ) (i : ℕ) → Within m l → member i (bytes_of m l) ≡ member (block_at m i) l
unfolding bytes_of member
bytes-member m [] i h = refl
bytes-member m (b ∷ l) i h =
    rw (
      member-append i (up_from (start_of (place m b)) (length_of (place m b))) (bytes_of m l),
      in_block m i b (h b (rw (eq-eqb b b refl) tt)),
      bytes-member m l i (λ x t. h x (or_second (eqb x b) (member x l) t)),
    )

-- ---- lists

named_member : (w : List ℕ) (b : ℕ) → member b (named_blocks w) ≡ names w b
unfolding named_blocks names member
named_member [] b = refl
named_member (f ∷ []) b = refl
named_member (f ∷ c ∷ w) b = go (eqb f end_of_list) (named_member w b)
  where
    go : (t : Bool) → member b (named_blocks w) ≡ names w b
        → member b (cond t [] (up_from f c ++ named_blocks w)) ≡ (not t && (leb f b && ltb b (f + c) || names w b))
    go true e = refl
    go false e = rw (member-append b (up_from f c) (named_blocks w), member-up_from b f c, e)

-- the order has the bytes of exactly the blocks that a list names
pub order_named : (m w : List ℕ) (i : ℕ) → ((b : ℕ) → T (names w b) → b < blocks m) → member i (erase_order m w) ≡ names w (block_at m i)
unfolding erase_order
order_named m w i h =
    bytes-member m (firsts (λ b. false) (named_blocks w)) i
    (λ b t. h b (rw (firsts-member (λ b. false) (named_blocks w) b, named_member w b) at t))
    ∙ firsts-member (λ b. false) (named_blocks w) (block_at m i)
    ∙ named_member w (block_at m i)

-- ---- each once

-- no number stands twice in a list
unfoldable pub Distinct : List ℕ → Type 0
Distinct [] = Unit {0}
Distinct (x ∷ l) = (member x l ≡ false) × Distinct l

distinct_append : (k l : List ℕ) → Distinct k → Distinct l → ((x : ℕ) → T (member x k) → member x l ≡ false) → Distinct (k ++ l)
unfolding Distinct member
distinct_append [] l p q h = q
distinct_append (x ∷ k) l p q h = (
  rw (member-append x k l, p.0) (h x (rw (eq-eqb x x refl) tt)),
  distinct_append k l p.1 q (λ y t. h y (or_second (eqb y x) (member y k) t)),
)

distinct_up_from : (s n : ℕ) → Distinct (up_from s n)
unfolding Distinct up_from
distinct_up_from s zero = tt
distinct_up_from s (suc n) = (rw (member-up_from s (s + 1) n, lt-leb (s + 1) s (omega arith)), distinct_up_from (s + 1) n)

distinct_firsts : (p : ℕ → Bool) (l : List ℕ) → Distinct (firsts p l)
unfolding Distinct firsts
distinct_firsts p [] = tt
distinct_firsts p (b ∷ l) = go (p b) (distinct_firsts p l) (distinct_firsts (λ x. eqb x b || p x) l)
  where
    go : (t : Bool) → Distinct (firsts p l) → Distinct (firsts (λ x. eqb x b || p x) l) → Distinct (cond t (firsts p l) (b ∷ firsts (λ x. eqb x b || p x) l))
    go true k m = k
    go false k m = (rw (firsts-member (λ x. eqb x b || p x) l b, eq-eqb b b refl), m)

distinct_bytes : (m l : List ℕ) → Within m l → Distinct l → Distinct (bytes_of m l)
unfolding Distinct bytes_of member
distinct_bytes m [] h d = tt
distinct_bytes m (b ∷ l) h d =
    let rest : Within m l = λ x t. h x (or_second (eqb x b) (member x l) t) in
    let here : b < blocks m = h b (rw (eq-eqb b b refl) tt) in
    distinct_append (up_from (start_of (place m b)) (length_of (place m b))) (bytes_of m l) (distinct_up_from _ _) (distinct_bytes m l rest d.1)
    (λ i t. bytes-member m l i rest ∙ rw (eqb_t (block_at m i) b (rw (in_block m i b here) at t)) d.0)
  where
    eqb_t : (x y : ℕ) → T (eqb x y) → x ≡ y
    eqb_t x y t = at (eqb x y) refl t
      where
        at : (s : Bool) → eqb x y ≡ s → T s → x ≡ y
        at true e k = eqb-true x y e
        at false e k = absurd k

-- no byte stands twice in the order
pub each_once : (m w : List ℕ) → ((b : ℕ) → T (names w b) → b < blocks m) → Distinct (erase_order m w)
unfolding erase_order
each_once m w h =
    distinct_bytes m (firsts (λ b. false) (named_blocks w)) (λ b t. h b (rw (firsts-member (λ b. false) (named_blocks w) b, named_member w b) at t))
    (distinct_firsts (λ b. false) (named_blocks w))

-- ---- how many bytes an order has at most

without : ℕ → List ℕ → List ℕ
without k [] = []
without k (x ∷ l) = cond (eqb k x) (without k l) (x ∷ without k l)

without-member : (k : ℕ) (l : List ℕ) (x : ℕ) → member x (without k l) ≡ (not (eqb x k) && member x l)
unfolding without member
without-member k [] x = go (eqb x k)
  where
    go : (t : Bool) → false ≡ (not t && false)
    go true = refl
    go false = refl
without-member k (y ∷ l) x = go (eqb k y) refl (eqb x y) refl (eqb x k) refl (without-member k l x)
  where
    go : (s : Bool) → eqb k y ≡ s → (t : Bool) → eqb x y ≡ t → (u : Bool) → eqb x k ≡ u → member x (without k l) ≡ (not (eqb x k) && member x l)
        → member x (cond s (without k l) (y ∷ without k l)) ≡ (not u && (t || member x l))
    go true p t q true r ih = ih ∙ rw r
    go true p true q false r ih =
        let a = eqb-true k y p in
        let b = eqb-true x y q in
        absurd (eqb-false x k r (omega arith))
    go true p false q false r ih = ih ∙ rw r
    go false p true q true r ih =
        let a = eqb-true x k r in
        let b = eqb-true x y q in
        absurd (eqb-false k y p (omega arith))
    go false p true q false r ih = rw q
    go false p false q true r ih = rw q (ih ∙ rw r)
    go false p false q false r ih = rw q (ih ∙ rw r)

distinct_without : (k : ℕ) (l : List ℕ) → Distinct l → Distinct (without k l)
unfolding without Distinct
distinct_without k [] d = tt
distinct_without k (y ∷ l) d = go (eqb k y) (distinct_without k l d.1)
  where
    go : (s : Bool) → Distinct (without k l) → Distinct (cond s (without k l) (y ∷ without k l))
    go true h = h
    go false h = (rw (without-member k l y, d.0) (and-false (not (eqb y k))), h)

without_none : (k : ℕ) (l : List ℕ) → member k l ≡ false → without k l ≡ l
unfolding without member
without_none k [] h = refl
without_none k (y ∷ l) h = go (eqb k y) h (without_none k l)
  where
    go : (s : Bool) → (s || member k l) ≡ false → (member k l ≡ false → without k l ≡ l) → cond s (without k l) (y ∷ without k l) ≡ y ∷ l
    go true e f = absurd (true≢false e)
    go false e f = ap (λ (r : List ℕ). y ∷ r) (f e)

-- one number taken out of a list in which none stands twice
less_one : (k : ℕ) (l : List ℕ) → Distinct l → length l ≤ length (without k l) + 1
unfolding without Distinct
less_one k [] d = omega arith
less_one k (y ∷ l) d = go (eqb k y) refl (less_one k l d.1)
  where
    go : (s : Bool) → eqb k y ≡ s → length l ≤ length (without k l) + 1 → suc (length l) ≤ length (cond s (without k l) (y ∷ without k l)) + 1
    go true e h = let z = eqb-true k y e in rw (without_none k l (rw z d.0)) (omega arith)
    go false e h = omega arith

-- a list of numbers below n in which none stands twice has at most n
at_most : (n : ℕ) (l : List ℕ) → Distinct l → ((x : ℕ) → T (member x l) → x < n) → length l ≤ n
unfolding member
at_most zero [] d h = omega arith
at_most zero (x ∷ l) d h = absurd (omega (arith, h x (rw (eq-eqb x x refl) tt)))
at_most (suc n) l d h =
    omega (
      arith,
      less_one n l d,
      at_most n (without n l) (distinct_without n l d) (λ x t. inside x (eqb x n) refl (member x l) refl (rw (without-member n l x) at t)),
    )
  where
    inside : (x : ℕ) (s : Bool) → eqb x n ≡ s → (u : Bool) → member x l ≡ u → T (not s && u) → x < n
    inside x true e u q t = absurd t
    inside x false e true q t =
        let k : x < suc n = h x (rw q tt) in
        let z = eqb-false x n e in
        omega arith
    inside x false e false q t = absurd t

-- an order has at most the bytes of the map
pub order_short : (m w : List ℕ) → ((b : ℕ) → T (names w b) → b < blocks m) → length (erase_order m w) ≤ bytes m
order_short m w h =
    at_most (bytes m) (erase_order m w) (each_once m w h)
    (λ i t. rw (first_byte_end m) at (before_first_byte m i (blocks m) (omega arith) (h (block_at m i) (rw (order_named m w i h) at t))))

-- in places: two places of the order with the same byte are one
place-member : (l : List ℕ) (k : ℕ) → k < length l → T (member (get_or l k 0) l)
unfolding member
place-member [] k h = absurd (omega arith)
place-member (x ∷ l) zero h = rw (eq-eqb x x refl) tt
place-member (x ∷ l) (suc k) h = or_second (eqb (get_or l k 0) x) (member (get_or l k 0) l) (place-member l k (omega arith))

distinct_places : (l : List ℕ) → Distinct l → (j k : ℕ) → j < length l → k < length l → get_or l j 0 ≡ get_or l k 0 → j ≡ k
unfolding Distinct
distinct_places [] d j k p q e = absurd (omega arith)
distinct_places (x ∷ l) d zero zero p q e = refl
distinct_places (x ∷ l) d zero (suc k) p q e = absurd (true≢false (sym (T_true _ (place-member l k (omega arith))) ∙ ap (λ (y : ℕ). member y l) (sym e) ∙ d.0))
distinct_places (x ∷ l) d (suc j) zero p q e = absurd (true≢false (sym (T_true _ (place-member l j (omega arith))) ∙ ap (λ (y : ℕ). member y l) e ∙ d.0))
distinct_places (x ∷ l) d (suc j) (suc k) p q e = ap suc (distinct_places l d.1 j k (omega arith) (omega arith) e)

pub once_placed : (m w : List ℕ) → ((b : ℕ) → T (names w b) → b < blocks m) → (j k : ℕ) → j < length (erase_order m w) → k < length (erase_order m w)
    → get_or (erase_order m w) j 0 ≡ get_or (erase_order m w) k 0 → j ≡ k
once_placed m w h = distinct_places (erase_order m w) (each_once m w h)

-- the order of a list by its pairs: none at the terminator; otherwise the first pair's blocks, and then those that the words after it name and the pair does not
pub order_end : (m w : List ℕ) → erase_order m (end_of_list ∷ w) ≡ []
unfolding erase_order named_blocks firsts bytes_of
order_end m [] = refl
order_end m (c ∷ w) = refl

pub order_pair : (m w : List ℕ) (f c : ℕ) → (f ≡ end_of_list → ⊥)
    → erase_order m (f ∷ c ∷ w) ≡ bytes_of m (up_from f c) ++ bytes_of m (firsts (λ b. leb f b && ltb b (f + c)) (named_blocks w))
unfolding erase_order named_blocks
order_pair m w f c e =
    rw (ne_eqb f end_of_list e, firsts-append (λ b. false) (up_from f c) (named_blocks w), firsts_fresh (λ b. false) f c (λ x a b. refl))
    (bytes-append m (up_from f c) (firsts (λ x. member x (up_from f c) || false) (named_blocks w))
    ∙ ap (λ (l : List ℕ). bytes_of m (up_from f c) ++ bytes_of m l)
    (firsts_same (λ x. member x (up_from f c) || false) (λ b. leb f b && ltb b (f + c)) (named_blocks w) (λ x. or-false (member x (up_from f c)) ∙ member-up_from x f c)))
