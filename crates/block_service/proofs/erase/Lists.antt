-- Laws of erase lists: a list from place i on, as a walk over its pairs meets it; the blocks from a block on; and that a good list names blocks that are there.
use Prim.Native.Nat.{ℕ, suc, ◌+◌, ◌-◌, ◌*◌, ◌/◌, ◌≤◌, ◌<◌}
use mathlib.Core.Path.{◌≡◌, refl, sym, ◌∙◌}
use mathlib.Core.Bool.{Bool, true, false, not, ◌&&◌, ◌||◌, and_assoc, or-true, true≢false}
use mathlib.Core.List.{List, [], ◌∷◌}
use native.Mathlib.Omega.{arith}
use borrow.Author.Tests.{le-leb, lt-leb, lt-ltb, le-ltb, ne_eqb, leb-true, leb-false, ltb-true, ltb-false, eqb-true, eqb-false}
use lib.Dec.{T, leb, ltb, eqb}
use lib.ListN.{length, get_or, drop, length-drop, drop_of_length-le, get_or-eq_default}
use lib.Seq.{drop-cons}
use Rattle.common.proofs.Lists.{drop_two}
use Rattle.std.specs.Prelude.{Ok, Err}
use Rattle.common.specs.Refusal.{number}
use Rattle.common.specs.declared.refusal.Refusal.{Refusal}
use Rattle.common.specs.declared.refusal.Refusal.TheVariants as R
use Rattle.block_service.specs.Erase.{end_of_list, good_list, names, reaches, judged_list}

-- a pair of first block f and count c fits n blocks: tested without the sum of the two
pub fits_within : (n f c : ℕ) → 0 < c → f < n → leb c (n - f) ≡ (not (eqb c 0) && leb (f + c) n)
fits_within n f c p q = rw (ne_eqb c 0 (λ z. omega arith)) (go (leb c (n - f)) refl)
  where
    go : (t : Bool) → leb c (n - f) ≡ t → t ≡ leb (f + c) n
    go true e = let h : c ≤ n - f = leb-true _ _ e in sym (le-leb (f + c) n (omega arith))
    go false e = let h : n - f < c = leb-false _ _ e in sym (lt-leb (f + c) n (omega arith))

pub fits_past : (n f c : ℕ) → 0 < c → n ≤ f → false ≡ (not (eqb c 0) && leb (f + c) n)
fits_past n f c p q = rw (ne_eqb c 0 (λ z. omega arith), lt-leb (f + c) n (omega arith))

pub fits_none : (n f c : ℕ) → c ≤ 0 → false ≡ (not (eqb c 0) && leb (f + c) n)
fits_none n f c p = let z : c ≡ 0 = omega arith in rw z

pub fits_known : (n f c : ℕ) (t : Bool) → t ≡ (not (eqb c 0) && leb (f + c) n) → t ≡ true → (0 < c) × (f + c ≤ n)
fits_known n f c t q z = go (eqb c 0) refl (leb (f + c) n) refl (sym q ∙ z)
  where
    go : (x : Bool) → eqb c 0 ≡ x → (y : Bool) → leb (f + c) n ≡ y → (not x && y) ≡ true → (0 < c) × (f + c ≤ n)
    go true ex y ey h = absurd (true≢false (sym h))
    go false ex true ey h = let z = eqb-false c 0 ex in (omega arith, leb-true _ _ ey)
    go false ex false ey h = absurd (true≢false (sym h))

-- the list from place i on, where the terminator stands there
module _ (w : List ℕ) (i : ℕ) (h : i < length w) (e : get_or w i 0 ≡ end_of_list) where
  pub ends_good : (n : ℕ) → true ≡ good_list n (drop i w)
  unfolding good_list
  ends_good n = rw (drop-cons w i 0 h, e) (go (drop (suc i) w))
    where
      go : (r : List ℕ) → true ≡ good_list n (end_of_list ∷ r)
      go [] = refl
      go (c ∷ r) = refl

  pub ends-reaches : (m : ℕ) → reaches m (drop i w) ≡ false
  unfolding reaches
  ends-reaches m = rw (drop-cons w i 0 h, e) (go (drop (suc i) w))
    where
      go : (r : List ℕ) → reaches m (end_of_list ∷ r) ≡ false
      go [] = refl
      go (c ∷ r) = refl

-- where no word stands there, or a last one that is no terminator
pub past_list : (w : List ℕ) (i n : ℕ) → length w ≤ i → false ≡ good_list n (drop i w)
unfolding good_list
past_list w i n h = rw (drop_of_length-le w {i = i} h)

-- a word that is the terminator stands in the list
pub ended_within : (w : List ℕ) (i : ℕ) → get_or w i 0 ≡ end_of_list → i < length w
ended_within w i e = go (ltb i (length w)) refl
  where
    go : (t : Bool) → ltb i (length w) ≡ t → i < length w
    go true p = ltb-true _ _ p
    go false p =
        let q : length w ≤ i = ltb-false _ _ p in
        let z : ◌≡◌ {A = ℕ} (get_or w i 0) 0 = get_or-eq_default w 0 q in
        absurd (omega arith)

odd_list : (w : List ℕ) (i n : ℕ) → i < length w → length w - i < 2 → (get_or w i 0 ≡ end_of_list → ⊥) → false ≡ good_list n (drop i w)
unfolding good_list
odd_list w i n h s e = rw (drop-cons w i 0 h) (go (drop (suc i) w) (rw (length-drop (suc i) w) (omega arith)))
  where
    go : (r : List ℕ) → length r ≤ 0 → false ≡ good_list n (get_or w i 0 ∷ r)
    go [] p = rw (ne_eqb (get_or w i 0) end_of_list e)
    go (c ∷ r) p = absurd (omega arith)

-- a list that ends at place i, or one word after it, is bad where that word is no terminator
pub not_ended : (w : List ℕ) (i n : ℕ) → length w ≤ i + 1 → (get_or w i 0 ≡ end_of_list → ⊥) → false ≡ good_list n (drop i w)
not_ended w i n s e = go (ltb i (length w)) refl
  where
    go : (t : Bool) → ltb i (length w) ≡ t → false ≡ good_list n (drop i w)
    go true p = let q : i < length w = ltb-true _ _ p in odd_list w i n q (omega arith) e
    go false p = past_list w i n (ltb-false _ _ p)

-- so a good list that ends there ends with its terminator
pub good_end : (w : List ℕ) (i n : ℕ) → length w ≤ i + 1 → good_list n (drop i w) ≡ true → get_or w i 0 ≡ end_of_list
good_end w i n s g = go (eqb (get_or w i 0) end_of_list) refl
  where
    go : (t : Bool) → eqb (get_or w i 0) end_of_list ≡ t → get_or w i 0 ≡ end_of_list
    go true p = eqb-true _ _ p
    go false p = absurd (true≢false (sym g ∙ sym (not_ended w i n s (eqb-false _ _ p))))

-- where a pair stands there, of first block f and count c
module _ (w : List ℕ) (i f c : ℕ) (h : i + 1 < length w) (ef : f ≡ get_or w i 0) (ec : c ≡ get_or w (i + 1) 0) (e : f ≡ end_of_list → ⊥) where
  pair_words : drop i w ≡ f ∷ c ∷ drop (i + 2) w
  pair_words = rw (drop_two w i h, ef, ec)

  -- the list is good where the pair fits and the words after it are good
  pair_is : (n : ℕ) → good_list n (drop i w) ≡ ((not (eqb c 0) && leb (f + c) n) && good_list n (drop (i + 2) w))
  unfolding good_list
  pair_is n = rw (pair_words, ne_eqb f end_of_list e) (sym (and_assoc (not (eqb c 0)) (leb (f + c) n) _))

  pub bad_pair : (n : ℕ) (t : Bool) → t ≡ (not (eqb c 0) && leb (f + c) n) → t ≡ false → false ≡ good_list n (drop i w)
  bad_pair n t q z = rw (pair_is n, ← q, z)

  pub good_pair : (n : ℕ) (t : Bool) → t ≡ (not (eqb c 0) && leb (f + c) n) → t ≡ true → good_list n (drop (i + 2) w) ≡ good_list n (drop i w)
  good_pair n t q z = rw (pair_is n, ← q, z)

  -- a good list's pair is good, and so is what follows it
  pub pair_good : (n : ℕ) → good_list n (drop i w) ≡ true → (0 < c) × (f + c ≤ n) × (good_list n (drop (i + 2) w) ≡ true)
  unfolding good_list
  pair_good n g = go (eqb c 0) refl (leb (f + c) n) refl (rw (pair_words, ne_eqb f end_of_list e) at g)
    where
      go : (t : Bool) → eqb c 0 ≡ t → (u : Bool) → leb (f + c) n ≡ u → (not t && (u && good_list n (drop (i + 2) w))) ≡ true
          → (0 < c) × (f + c ≤ n) × (good_list n (drop (i + 2) w) ≡ true)
      go false p true q k = let z = eqb-false c 0 p in (omega arith, leb-true _ _ q, k)
      go true p true q k = absurd (let z : ◌≡◌ {A = ℕ} 0 1 = cc in omega arith)
      go true p false q k = absurd (let z : ◌≡◌ {A = ℕ} 0 1 = cc in omega arith)
      go false p false q k = absurd (let z : ◌≡◌ {A = ℕ} 0 1 = cc in omega arith)

  -- the list reaches block m where the pair, whose blocks are some, does, or the words after it do
  pair_reaches : (m : ℕ) → 0 < c → reaches m (drop i w) ≡ (ltb m (f + c) || reaches m (drop (i + 2) w))
  unfolding reaches
  pair_reaches m p = rw (pair_words, ne_eqb f end_of_list e, ne_eqb c 0 (λ z. omega arith))

  -- so in a walk, where r says that a pair before reaches it: this one does, or what is left decides
  module _ (m : ℕ) (p : 0 < c) (r whole : Bool) (q : (r || reaches m (drop i w)) ≡ whole) where
    pub reach_hit : m < f + c → true ≡ whole
    reach_hit h = sym (or-true r) ∙ (rw (pair_reaches m p, lt-ltb m (f + c) h) at q)

    pub reach_miss : f + c ≤ m → (r || reaches m (drop (i + 2) w)) ≡ whole
    reach_miss h = rw (pair_reaches m p, le-ltb m (f + c) h) at q

-- a good list's word that is no terminator has another after it
pub good_even : (w : List ℕ) (i n : ℕ) → i < length w → (get_or w i 0 ≡ end_of_list → ⊥) → good_list n (drop i w) ≡ true → i + 1 < length w
good_even w i n h e g = go (ltb (i + 1) (length w)) refl
  where
    go : (t : Bool) → ltb (i + 1) (length w) ≡ t → i + 1 < length w
    go true p = ltb-true _ _ p
    go false p =
        let q : length w ≤ i + 1 = ltb-false _ _ p in
        let k = odd_list w i n h (omega arith) e in
        absurd (let z : ◌≡◌ {A = ℕ} 0 1 = cc in omega arith)

-- ---- what is said of a list

pub judged_ok : (good reached t : Bool) → Ok t ≡ judged_list good reached → (good ≡ true) × (t ≡ reached)
judged_ok true reached t e = (refl, cc)
judged_ok false reached t e = absurd (cc)

pub judged_err : (good reached : Bool) (e : Refusal) → Err e ≡ judged_list good reached → (good ≡ false) × (number e ≡ 2)
judged_err true reached e h = absurd (cc)
judged_err false reached e h = (refl, let z : e ≡ R.InvalidParameter = cc in rw z)

-- a list of which a pair does not fit is bad, from what the walk says of it at the pair
pub bad_shown : (total m n j first count : ℕ) (w : List ℕ) (reached fits : Bool)
    → n ≡ length w / 2 → j < n → (first ≡ get_or w (2 * j) 0) × (count ≡ get_or w (2 * j + 1) 0) → (first ≡ end_of_list → ⊥)
    → fits ≡ (not (eqb count 0) && leb (first + count) total) → fits ≡ false
    → good_list total (drop (2 * j) w) ≡ good_list total w → Err R.InvalidParameter ≡ judged_list (good_list total w) (reaches m w)
bad_shown total m n j first count w reached fits half within pair other is unfit good =
    let none : false ≡ good_list total w = bad_pair w (2 * j) first count (omega arith) pair.0 pair.1 other total fits is unfit ∙ good in
    rw (← none)

-- ---- the blocks from block m on

-- a list reaches block m where it names one from there on
pub names-reaches : (w : List ℕ) (m b : ℕ) → m ≤ b → T (names w b) → reaches m w ≡ true
unfolding names reaches
names-reaches [] m b h t = absurd t
names-reaches (f ∷ []) m b h t = absurd t
names-reaches (f ∷ c ∷ w) m b h t = go (eqb f end_of_list) (leb f b) refl (ltb b (f + c)) refl (names-reaches w m b h) t
  where
    covers : f ≤ b → b < f + c → (not (eqb c 0) && ltb m (f + c)) ≡ true
    covers p q = rw (ne_eqb c 0 (λ z. omega arith), lt-ltb m (f + c) (omega arith))

    go : (x y : Bool) → leb f b ≡ y → (z : Bool) → ltb b (f + c) ≡ z → (T (names w b) → reaches m w ≡ true)
        → T (not x && (y && z || names w b)) → (not x && (not (eqb c 0) && ltb m (f + c) || reaches m w)) ≡ true
    go true y ey z ez ih t = absurd t
    go false true ey true ez ih t = rw (covers (leb-true _ _ ey) (ltb-true _ _ ez))
    go false true ey false ez ih t = rw (ih t) (or-true (not (eqb c 0) && ltb m (f + c)))
    go false false ey true ez ih t = rw (ih t) (or-true (not (eqb c 0) && ltb m (f + c)))
    go false false ey false ez ih t = rw (ih t) (or-true (not (eqb c 0) && ltb m (f + c)))

-- and there alone
pub reaches-names : (w : List ℕ) (m : ℕ) → reaches m w ≡ true → (b : ℕ) × (m ≤ b) × T (names w b)
unfolding names reaches
reaches-names [] m h = absurd (true≢false (sym h))
reaches-names (f ∷ []) m h = absurd (true≢false (sym h))
reaches-names (f ∷ c ∷ w) m h = go (eqb f end_of_list) refl (eqb c 0) refl (ltb m (f + c)) refl (reaches-names w m) h
  where
    -- the last block of the pair
    last : 0 < c → m < f + c → (b : ℕ) × (m ≤ b) × T (leb f b && ltb b (f + c) || names w b)
    last p q =
        let b : ℕ = f + c - 1 in
        (b, omega arith, rw (le-leb f b (omega arith), lt-ltb b (f + c) (omega arith)) tt)

    later : ((b : ℕ) × (m ≤ b) × T (names w b)) → (b : ℕ) × (m ≤ b) × T (leb f b && ltb b (f + c) || names w b)
    later r = (r.0, r.1, or_second (leb f r.0 && ltb r.0 (f + c)) (names w r.0) r.2)
      where
        or_second : (x y : Bool) → T y → T (x || y)
        or_second true y t = tt
        or_second false y t = t

    go : (x : Bool) → eqb f end_of_list ≡ x → (y : Bool) → eqb c 0 ≡ y → (z : Bool) → ltb m (f + c) ≡ z → (reaches m w ≡ true → (b : ℕ) × (m ≤ b) × T (names w b))
        → (not x && (not y && z || reaches m w)) ≡ true → (b : ℕ) × (m ≤ b) × T (not x && (leb f b && ltb b (f + c) || names w b))
    go true ex y ey z ez ih h = absurd (true≢false (sym h))
    go false ex true ey z ez ih h = later (ih h)
    go false ex false ey true ez ih h = last (let n = eqb-false c 0 ey in omega arith) (ltb-true _ _ ez)
    go false ex false ey false ez ih h = later (ih h)

-- a good list names only blocks that are there
pub names_within : (n : ℕ) (w : List ℕ) → good_list n w ≡ true → (b : ℕ) → T (names w b) → b < n
unfolding good_list names
names_within n [] g b t = absurd t
names_within n (f ∷ []) g b t = absurd t
names_within n (f ∷ c ∷ w) g b t = go (eqb f end_of_list) (eqb c 0) (leb (f + c) n) refl (leb f b) (ltb b (f + c)) refl (λ k. names_within n w k b) g t
  where
    go : (x y z : Bool) → leb (f + c) n ≡ z → (p q : Bool) → ltb b (f + c) ≡ q → (good_list n w ≡ true → T (names w b) → b < n)
        → (x || (not y && (z && good_list n w))) ≡ true → T (not x && (p && q || names w b)) → b < n
    go true y z ez p q eq ih g t = absurd t
    go false true z ez p q eq ih g t = absurd (true≢false (sym g))
    go false false false ez p q eq ih g t = absurd (true≢false (sym g))
    go false false true ez true true eq ih g t =
        let u : f + c ≤ n = leb-true _ _ ez in
        let w : b < f + c = ltb-true _ _ eq in
        omega arith
    go false false true ez true false eq ih g t = ih g t
    go false false true ez false true eq ih g t = ih g t
    go false false true ez false false eq ih g t = ih g t
