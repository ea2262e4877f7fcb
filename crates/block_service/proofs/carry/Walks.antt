-- Walks over blocks: one after another, over a run that was not named yet, and over one that was.
use Prim.Native.Nat.{ℕ, zero, suc, ◌+◌, ◌-◌, ◌*◌, ◌≤◌, ◌<◌}
use mathlib.Core.Path.{◌≡◌, refl, sym, ap, subst, ◌∙◌}
use mathlib.Core.Bool.{Bool, true, false, cond, ◌&&◌, ◌||◌, true≢false}
use mathlib.Core.List.{List, [], ◌∷◌, ◌++◌}
use native.Mathlib.Nat.{add-zero, zero-add, sub-zero}
use native.Mathlib.Omega.{arith}
use borrow.Author.Tests.{leb-true, ltb-true, ltb-false, le-ltb, ne_eqb}
use lib.Dec.{leb, ltb, eqb}
use lib.ListN.{length, get_or, drop, length-append}
use lib.Seq.{drop-cons}
use Rattle.common.proofs.Lists.{drop_two}
use Rattle.block_service.specs.Erase.{end_of_list}
use Rattle.volume.specs.BlockMap.{blocks, bytes}
use Rattle.block_service.proofs.erase.Lists.{ended_within}
use Rattle.block_service.specs.Blocks.{place, start_of, length_of, first_byte}
use Rattle.block_service.proofs.blocks.Places.{first_byte-le}
use Rattle.block_service.specs.Carry.{filled, Carried, names_first, Rest}
use Rattle.block_service.specs.Order.{up_from, member, firsts, named_blocks, bytes_of, erase_order, part}
use Rattle.block_service.proofs.carry.OrderLists.{member-append, member-up_from, length-up_from, firsts_same, firsts-append, firsts_fresh, firsts-passed, part_nil, up_from-append}
use Rattle.block_service.proofs.carry.Fills.{filled_none, window_next}
use Rattle.block_service.proofs.carry.Orders.{bytes-append, run-bytes}

-- no more bytes than without those that were named before
fewer : (m : List ℕ) (p : ℕ → Bool) (l : List ℕ) → length (bytes_of m (firsts p l)) ≤ length (bytes_of m l)
unfolding firsts bytes_of
fewer m p [] = omega arith
fewer m p (b ∷ l) = go (p b) (fewer m p l) (fewer m (λ x. eqb x b || p x) l)
  where
    here : List ℕ
    here = up_from (start_of (place m b)) (length_of (place m b))

    go : (t : Bool) → length (bytes_of m (firsts p l)) ≤ length (bytes_of m l) → length (bytes_of m (firsts (λ x. eqb x b || p x) l)) ≤ length (bytes_of m l)
        → length (bytes_of m (cond t (firsts p l) (b ∷ firsts (λ x. eqb x b || p x) l))) ≤ length (here ++ bytes_of m l)
    go true h k = rw (length-append here (bytes_of m l)) (omega arith)
    go false h k = rw (length-append here (bytes_of m l), length-append here (bytes_of m (firsts (λ x. eqb x b || p x) l))) (omega arith)

module _ (m : List ℕ) (value from to : ℕ) where
  pub walk_none : (at : ℕ) (p : ℕ → Bool) (v : List ℕ) → Carried m value from to at p [] v at v p
  unfolding firsts bytes_of member
  walk_none at p v = record { told = sym (add-zero at); stored = sym (rw (part_nil (from - at) (to - at)) (filled_none value v)); marks = λ x. refl }

  pub walk_next : (at : ℕ) (p : ℕ → Bool) (k v : List ℕ) (r : ℕ) (u : List ℕ) (q : ℕ → Bool) (l : List ℕ) (s : ℕ) (w : List ℕ) (t : ℕ → Bool)
      → Carried m value from to at p k v r u q → Carried m value from to r q l u s w t → Carried m value from to at p (k ++ l) v s w t
  walk_next at p k v r u q l s w t a b =
      let a1 : List ℕ = bytes_of m (firsts p k) in
      let b1 : List ℕ = bytes_of m (firsts q l) in
      let whole : bytes_of m (firsts p (k ++ l)) ≡ a1 ++ b1 =
      rw (firsts-append p k l, ← firsts_same q (λ x. member x k || p x) l a.marks) (bytes-append m (firsts p k) (firsts q l)) in
      record {
        told = rw (whole, length-append a1 b1) (omega (arith, a.told, b.told));
        stored =
            b.stored
            ∙ ap (λ (j : ℕ). filled value (part (from - j) (to - j) b1) u) a.told
            ∙ window_next value from to at a1 b1 v u a.stored
            ∙ ap (λ (x : List ℕ). filled value (part (from - at) (to - at) x) v) (sym whole);
        marks = λ x. b.marks x ∙ rw (a.marks x, member-append x k l) (swap (member x k) (member x l) (p x));
      }
    where
      swap : (x y z : Bool) → (y || (x || z)) ≡ (x || y || z)
      swap true true z = refl
      swap true false z = refl
      swap false true z = refl
      swap false false z = refl

  -- over a run none of which was named before
  pub walk_fresh : (at b e : ℕ) (p : ℕ → Bool) (v : List ℕ) (r : ℕ) (u : List ℕ) (q : ℕ → Bool) → b ≤ e → ((x : ℕ) → b ≤ x → x < e → p x ≡ false)
      → r ≡ at + length (bytes_of m (up_from b (e - b))) → u ≡ filled value (part (from - at) (to - at) (bytes_of m (up_from b (e - b)))) v
      → ((x : ℕ) → q x ≡ (leb b x && ltb x e || p x))
      → Carried m value from to at p (up_from b (e - b)) v r u q
  walk_fresh at b e p v r u q o h t s k =
      let z : b + (e - b) ≡ e = omega arith in
      let f : firsts p (up_from b (e - b)) ≡ up_from b (e - b) = firsts_fresh p b (e - b) (λ x a c. h x a (omega arith)) in
      record { told = rw f t; stored = rw f s; marks = λ x. rw (member-up_from x b (e - b), z) (k x) }

  -- over one each of which was
  pub walk-passed : (at b e : ℕ) (p : ℕ → Bool) (v : List ℕ) → b ≤ e → ((x : ℕ) → b ≤ x → x < e → p x ≡ true)
      → Carried m value from to at p (up_from b (e - b)) v at v p
  unfolding bytes_of
  walk-passed at b e p v o h =
      let z : b + (e - b) ≡ e = omega arith in
      let f : firsts p (up_from b (e - b)) ≡ [] = firsts-passed p b (e - b) (λ x a c. h x a (omega arith)) in
      record {
        told = rw f (sym (add-zero at));
        stored = sym (rw (f, part_nil (from - at) (to - at)) (filled_none value v));
        marks = λ x. rw (member-up_from x b (e - b), z) (go x (leb b x) refl (ltb x e) refl);
      }
    where
      go : (x : ℕ) (s : Bool) → leb b x ≡ s → (t : Bool) → ltb x e ≡ t → p x ≡ (s && t || p x)
      go x true a true c = h x (leb-true _ _ a) (ltb-true _ _ c)
      go x true a false c = refl
      go x false a true c = refl
      go x false a false c = refl

-- a search for the end of what was named, from a block that was, moves on
pub moves : (p : ℕ → Bool) (b t e u : ℕ) → b < e → b ≤ t → t ≤ b → (t < e → p t ≡ true) → b ≤ u → (u < e → p u ≡ false) → b < u
moves p b t e u h l g s k n = go (ltb b u) refl
  where
    go : (x : Bool) → ltb b u ≡ x → b < u
    go true q = ltb-true _ _ q
    go false q =
        let w : u ≤ b = ltb-false _ _ q in
        let z : u ≡ t = omega arith in
        absurd (true≢false (sym (s (omega arith)) ∙ ap p (sym z) ∙ n (omega arith)))

-- over no block yet
pub walk_start : (m : List ℕ) (value from to at : ℕ) (p : ℕ → Bool) (b : ℕ) (v : List ℕ) → Carried m value from to at p (up_from b (b - b)) v at v p
unfolding up_from
walk_start m value from to at p b v = let z : b - b ≡ 0 = omega arith in rw z (walk_none m value from to at p v)

pub walk_sized : (m : List ℕ) (value from to at : ℕ) (p : ℕ → Bool) (b n k : ℕ) (v : List ℕ) (r : ℕ) (u : List ℕ) (q : ℕ → Bool) → n ≡ k
    → Carried m value from to at p (up_from b n) v r u q → Carried m value from to at p (up_from b k) v r u q
walk_sized m value from to at p b n k v r u q e = subst (λ (j : ℕ). Carried m value from to at p (up_from b j) v r u q) e

-- a walk over blocks of the map passes on at most all of its bytes
pub walk_bound : (m : List ℕ) (value from to at : ℕ) (p : ℕ → Bool) (b n : ℕ) (v : List ℕ) (r : ℕ) (u : List ℕ) (q : ℕ → Bool) → b + n ≤ blocks m
    → Carried m value from to at p (up_from b n) v r u q → r ≤ at + bytes m
walk_bound m value from to at p b n v r u q h c =
    let w : length (bytes_of m (up_from b n)) ≡ first_byte m (b + n) - first_byte m b = rw (run-bytes m b n h) (length-up_from (first_byte m b) (first_byte m (b + n) - first_byte m b)) in
    omega (arith, c.told, fewer m p (up_from b n), first_byte-le m (b + n))

-- one run of blocks after another
pub walk-run : (m : List ℕ) (value from to at : ℕ) (p : ℕ → Bool) (b i j : ℕ) (v : List ℕ) (r : ℕ) (u : List ℕ) (q : ℕ → Bool) (s : ℕ) (w : List ℕ) (t : ℕ → Bool)
    → b ≤ i → i ≤ j
    → Carried m value from to at p (up_from b (i - b)) v r u q → Carried m value from to r q (up_from i (j - i)) u s w t
    → Carried m value from to at p (up_from b (j - b)) v s w t
walk-run m value from to at p b i j v r u q s w t h k x y =
    let z : b + (i - b) ≡ i = omega arith in
    let n : (i - b) + (j - i) ≡ j - b = omega arith in
    subst (λ (l : List ℕ). Carried m value from to at p l v s w t)
    (ap (λ (c : ℕ). up_from b (i - b) ++ up_from c (j - i)) (sym z) ∙ up_from-append b (i - b) (j - i) ∙ ap (λ (c : ℕ). up_from b c) n)
    (walk_next m value from to at p (up_from b (i - b)) v r u q (up_from i (j - i)) s w t x y)

-- ---- a list of pairs

-- a walk over the first of the blocks that are left: what is left then
module _ (m : List ℕ) (value from to at : ℕ) (p : ℕ → Bool) (k rest v : List ℕ) (r : ℕ) (u : List ℕ) (q : ℕ → Bool) (c : Carried m value from to at p k v r u q) where
  left : List ℕ
  left = bytes_of m (firsts q rest)

  both : Carried m value from to at p (k ++ rest) v (r + length left) (filled value (part (from - r) (to - r) left) u) (λ x. member x rest || q x)
  unfolding left
  both =
      walk_next m value from to at p k v r u q rest (r + length left) (filled value (part (from - r) (to - r) left) u) (λ x. member x rest || q x) c
      (record { told = refl; stored = refl; marks = λ x. refl })

  pub left_told : r + length (bytes_of m (firsts q rest)) ≡ at + length (bytes_of m (firsts p (k ++ rest)))
  unfolding left
  left_told = both.told

  pub left_stored : filled value (part (from - r) (to - r) (bytes_of m (firsts q rest))) u ≡ filled value (part (from - at) (to - at) (bytes_of m (firsts p (k ++ rest)))) v
  unfolding left
  left_stored = both.stored

-- the blocks that a list names from a pair on, and from its terminator on
pub pair_blocks : (w : List ℕ) (i : ℕ) → i + 1 < length w → (get_or w i 0 ≡ end_of_list → ⊥)
    → named_blocks (drop i w) ≡ up_from (get_or w i 0) (get_or w (i + 1) 0) ++ named_blocks (drop (i + 2) w)
unfolding named_blocks
pair_blocks w i h e = rw (drop_two w i h, ne_eqb (get_or w i 0) end_of_list e)

pub end_blocks : (w : List ℕ) (i : ℕ) → i < length w → get_or w i 0 ≡ end_of_list → named_blocks (drop i w) ≡ []
unfolding named_blocks
end_blocks w i h e = rw (drop-cons w i 0 h, e) (go (drop (suc i) w))
  where
    go : (r : List ℕ) → named_blocks (end_of_list ∷ r) ≡ []
    go [] = refl
    go (c ∷ r) = refl

-- what is left of an order from a place of the list on, as a walk meets it
pub all_left : (m w : List ℕ) (p : ℕ → Bool) → ((x : ℕ) → p x ≡ false) → bytes_of m (firsts p (named_blocks w)) ≡ erase_order m w
unfolding erase_order
all_left m w p h = ap (λ (l : List ℕ). bytes_of m l) (firsts_same p (λ b. false) (named_blocks w) h)

module _ (m : List ℕ) (value from to at : ℕ) (p : ℕ → Bool) (w : List ℕ) (i f c : ℕ) (v : List ℕ) (r : ℕ) (u : List ℕ) (q : ℕ → Bool)
    (h : i + 1 < length w) (ef : f ≡ get_or w i 0) (ec : c ≡ get_or w (i + 1) 0) (e : f ≡ end_of_list → ⊥) (walked : Carried m value from to at p (up_from f c) v r u q) where
  blocks_left : named_blocks (drop i w) ≡ up_from f c ++ named_blocks (drop (i + 2) w)
  blocks_left = rw (ef, ec) (pair_blocks w i h (λ z. e (ef ∙ z)))

  pub pair_told : r + length (bytes_of m (firsts q (named_blocks (drop (i + 2) w)))) ≡ at + length (bytes_of m (firsts p (named_blocks (drop i w))))
  pair_told = rw blocks_left (left_told m value from to at p (up_from f c) (named_blocks (drop (i + 2) w)) v r u q walked)

  pub pair_stored : filled value (part (from - r) (to - r) (bytes_of m (firsts q (named_blocks (drop (i + 2) w))))) u
      ≡ filled value (part (from - at) (to - at) (bytes_of m (firsts p (named_blocks (drop i w))))) v
  pair_stored = rw blocks_left (left_stored m value from to at p (up_from f c) (named_blocks (drop (i + 2) w)) v r u q walked)

module _ (m : List ℕ) (value from to at : ℕ) (p : ℕ → Bool) (w : List ℕ) (i : ℕ) (h : i < length w) (e : get_or w i 0 ≡ end_of_list) where
  pub end_told : at + length (bytes_of m (firsts p (named_blocks (drop i w)))) ≡ at
  unfolding firsts bytes_of
  end_told = rw (end_blocks w i h e) (add-zero at)

  pub end_stored : (v : List ℕ) → filled value (part (from - at) (to - at) (bytes_of m (firsts p (named_blocks (drop i w))))) v ≡ v
  unfolding firsts bytes_of
  end_stored v = rw (end_blocks w i h e, part_nil (from - at) (to - at)) (filled_none value v)

-- a walk that comes to the terminator, at place j, has done what was left at place i
pub rest_done : (m : List ℕ) (value from to at : ℕ) (p : ℕ → Bool) (w : List ℕ) (i : ℕ) (v : List ℕ) (r : ℕ) (u : List ℕ) (q : ℕ → Bool) (j : ℕ) → get_or w j 0 ≡ end_of_list
    → r + length (bytes_of m (firsts q (named_blocks (drop j w)))) ≡ at + length (bytes_of m (firsts p (named_blocks (drop i w))))
    → filled value (part (from - r) (to - r) (bytes_of m (firsts q (named_blocks (drop j w))))) u ≡ filled value (part (from - at) (to - at) (bytes_of m (firsts p (named_blocks (drop i w))))) v
    → Rest m value from to at p w i v r u
rest_done m value from to at p w i v r u q j e t s =
    let h = ended_within w j e in
    record { told = sym (end_told m value from to r q w j h e) ∙ t; stored = sym (end_stored m value from to r q w j h e u) ∙ s }

-- ---- the first pairs of a list

pub first_next : (j : ℕ) (w : List ℕ) (x : ℕ) → 2 * j + 1 < length w
    → names_first (j + 1) w x ≡ (leb (get_or w (2 * j) 0) x && ltb x (get_or w (2 * j) 0 + get_or w (2 * j + 1) 0) || names_first j w x)
unfolding names_first
first_next zero [] x h = absurd (omega arith)
first_next zero (f ∷ []) x h = absurd (omega arith)
first_next zero (f ∷ c ∷ w) x h = refl
first_next (suc j) [] x h = absurd (omega arith)
first_next (suc j) (f ∷ []) x h = absurd (omega arith)
first_next (suc j) (f ∷ c ∷ w) x h =
    let z : suc j + 1 ≡ suc (j + 1) = omega arith in
    let y : 2 * suc j ≡ suc (suc (2 * j)) = omega arith in
    let d : suc (suc (2 * j)) + 1 ≡ suc (suc (2 * j + 1)) = omega arith in
    rw (z, y, d, first_next j w x (omega arith))
    (swap (leb f x && ltb x (f + c)) (leb (get_or w (2 * j) 0) x && ltb x (get_or w (2 * j) 0 + get_or w (2 * j + 1) 0)) (names_first j w x))
  where
    swap : (a b c : Bool) → (a || (b || c)) ≡ (b || (a || c))
    swap true true c = refl
    swap true false c = refl
    swap false true c = refl
    swap false false c = refl

-- a test of the first pairs taken a pair further
pub first_marks : (j : ℕ) (w : List ℕ) (x : ℕ) (s t : Bool) → 2 * j + 1 < length w → t ≡ (leb (get_or w (2 * j) 0) x && ltb x (get_or w (2 * j) 0 + get_or w (2 * j + 1) 0) || s)
    → s ≡ names_first j w x → t ≡ names_first (j + 1) w x
first_marks j w x s t h p q = p ∙ rw (first_next j w x h, q)

pub first_marks_at : (j : ℕ) (w : List ℕ) (x f c : ℕ) (s t : Bool) → 2 * j + 1 < length w → f ≡ get_or w (2 * j) 0 → c ≡ get_or w (2 * j + 1) 0 → t ≡ (leb f x && ltb x (f + c) || s)
    → s ≡ names_first j w x → t ≡ names_first (j + 1) w x
first_marks_at j w x f c s t h ef ec p q = first_marks j w x s t h (p ∙ rw (ef, ec)) q

-- over a pair that starts past every block named before it
pub front_pair : (m : List ℕ) (value from to at : ℕ) (w : List ℕ) (j high f c : ℕ) (v : List ℕ) (r : ℕ) (u : List ℕ) → 2 * j + 1 < length w → f ≡ get_or w (2 * j) 0 → c ≡ get_or w (2 * j + 1) 0
    → high ≤ f → ((x : ℕ) → high ≤ x → names_first j w x ≡ false)
    → r ≡ at + length (bytes_of m (up_from f c)) → u ≡ filled value (part (from - at) (to - at) (bytes_of m (up_from f c))) v
    → Carried m value from to at (names_first j w) (up_from f c) v r u (names_first (j + 1) w)
front_pair m value from to at w j high f c v r u h ef ec o k t s =
    let z : f + c - f ≡ c = omega arith in
    walk_sized m value from to at (names_first j w) f (f + c - f) c v r u (names_first (j + 1) w) z
    (walk_fresh m value from to at f (f + c) (names_first j w) v r u (names_first (j + 1) w) (omega arith) (λ x a b. k x (omega arith)) (rw z t) (rw z s)
    (λ x. first_next j w x h ∙ rw (ef, ec)))

-- and then every block named is before its end
pub front_high : (w : List ℕ) (j high : ℕ) → 2 * j + 1 < length w → high ≤ get_or w (2 * j) 0 → ((x : ℕ) → high ≤ x → names_first j w x ≡ false)
    → (x : ℕ) → get_or w (2 * j) 0 + get_or w (2 * j + 1) 0 ≤ x → names_first (j + 1) w x ≡ false
front_high w j high h o k x a =
    rw (first_next j w x h, le-ltb x (get_or w (2 * j) 0 + get_or w (2 * j + 1) 0) a, k x (omega arith)) (go (leb (get_or w (2 * j) 0) x))
  where
    go : (t : Bool) → (t && false || false) ≡ false
    go true = refl
    go false = refl

-- what holds below j, and at j
pub below_next : (P : ℕ → Type 0) (j : ℕ) → ((i : ℕ) → i < j → P i) → P j → (i : ℕ) → i < j + 1 → P i
below_next P j f p i h = go (ltb i j) refl
  where
    go : (t : Bool) → ltb i j ≡ t → P i
    go true e = f i (ltb-true _ _ e)
    go false e = let q : j ≤ i = ltb-false _ _ e in let z : j ≡ i = omega arith in subst P z p

-- ---- what is left to a walk

-- by another test that holds of the same
pub rest_same : (m : List ℕ) (value from to at : ℕ) (p q : ℕ → Bool) (w : List ℕ) (i : ℕ) (v : List ℕ) (r : ℕ) (u : List ℕ) → ((x : ℕ) → p x ≡ q x)
    → Rest m value from to at p w i v r u → Rest m value from to at q w i v r u
rest_same m value from to at p q w i v r u h x =
    let e = firsts_same p q (named_blocks (drop i w)) h in
    record { told = rw e at x.told; stored = rw e at x.stored }

pub left_same : (m : List ℕ) (p q : ℕ → Bool) (l : List ℕ) → ((x : ℕ) → p x ≡ q x) → length (bytes_of m (firsts p l)) ≡ length (bytes_of m (firsts q l))
left_same m p q l h = rw (firsts_same p q l h)

-- from the start of a list it is the whole order
pub rest_whole : (m : List ℕ) (value from to : ℕ) (w v : List ℕ) (r : ℕ) (u : List ℕ) → Rest m value from to 0 (names_first 0 w) w 0 v r u
    → (r ≡ length (erase_order m w)) × (u ≡ filled value (part from to (erase_order m w)) v)
unfolding names_first
rest_whole m value from to w v r u x =
    let e = all_left m w (λ y. false) (λ y. refl) in
    (x.told ∙ zero-add (length (bytes_of m (firsts (λ y. false) (named_blocks w)))) ∙ ap (λ (l : List ℕ). length l) e, rw (sub-zero from, sub-zero to, e) at x.stored)

-- at the terminator it is nothing
pub rest_end : (m : List ℕ) (value from to at : ℕ) (p : ℕ → Bool) (w : List ℕ) (i : ℕ) (v : List ℕ) → i < length w → get_or w i 0 ≡ end_of_list → Rest m value from to at p w i v at v
rest_end m value from to at p w i v h e =
    record { told = sym (end_told m value from to at p w i h e); stored = sym (end_stored m value from to at p w i h e v) }

-- where the rest of a walk makes it whole, the number and what is left are the order's length
pub rest_bound : (m : List ℕ) (value from to at : ℕ) (p : ℕ → Bool) (w : List ℕ) (i : ℕ) (v v₀ : List ℕ)
    → ((n : ℕ) (u : List ℕ) → Rest m value from to at p w i v n u → Rest m value from to 0 (names_first 0 w) w 0 v₀ n u)
    → at + length (bytes_of m (firsts p (named_blocks (drop i w)))) ≡ length (erase_order m w)
rest_bound m value from to at p w i v v₀ f =
    (rest_whole m value from to w v₀ _ _
    (f (at + length (bytes_of m (firsts p (named_blocks (drop i w))))) (filled value (part (from - at) (to - at) (bytes_of m (firsts p (named_blocks (drop i w))))) v)
    (record { told = refl; stored = refl }))).0
