-- Runs of blocks: the blocks of one length from a block on, and where a run of blocks ends, for the walk over the entries that an erase makes.
use Prim.Native.Nat.{ℕ, zero, suc, ◌+◌, ◌-◌, ◌*◌, ◌≤◌, ◌<◌, min}
use mathlib.Core.Path.{◌≡◌, refl, sym, ap, ◌∙◌}
use mathlib.Core.Bool.{Bool, true, false, cond}
use mathlib.Core.List.{List, [], ◌∷◌}
use native.Mathlib.Nat.{zero-add, mul-le-mul_right, add-mul, sub-zero}
use native.Mathlib.Omega.{arith}
use borrow.Author.Tests.{lt-ltb, le-ltb, le-leb, lt-leb, ltb-true, ltb-false, leb-true, leb-false, eq-eqb, ne_eqb, eqb-true, eqb-false}
use lib.Dec.{eqb, leb, ltb}
use lib.ListN.{length, get_or, take, drop, length-drop}
use Rattle.common.proofs.Lists.{drop_two}
use Rattle.common.proofs.Refusals.{neither}
use Rattle.volume.specs.BlockMap.{blocks, bytes, has_zero, max_length, max_blocks}
use Rattle.block_service.specs.Blocks.{place_from, place, HasLength, equal_blocks, consecutive_blocks, outgrows, first_byte}
use Rattle.block_service.specs.Blocks.{Place}
use Rattle.block_service.specs.Blocks.{At}
use Rattle.volume.proofs.block_map.Words.{blocks_entry}
use Rattle.block_service.proofs.blocks.Places.{first_byte_zero, first_byte_here, first_byte_past, first_byte-le}

-- the search in an entry that holds the block, and in one that does not
place_here : (c l : ℕ) (rest : List ℕ) (e s b : ℕ) → b < c → place_from (c ∷ l ∷ rest) e s b ≡ At e (s + b * l) l (c - b)
unfolding place_from
place_here c l rest e s b h = rw (lt-ltb b c h)

place_past : (c l : ℕ) (rest : List ℕ) (e s b : ℕ) → c ≤ b → place_from (c ∷ l ∷ rest) e s b ≡ place_from rest (e + 1) (s + c * l) (b - c)
unfolding place_from
place_past c l rest e s b h = rw (le-ltb b c h)

-- what is known of a place's length
pub as_long : (p : Place) (l len : ℕ) → l ≡ len → HasLength p l → HasLength p len
as_long p l len q h = (h.0, h.1, h.2, h.3 ∙ ap (λ (j : ℕ). At h.0 h.1 j h.2) q)

same_place : (p q : Place) (l : ℕ) → p ≡ q → HasLength q l → HasLength p l
same_place p q l e h = (h.0, h.1, h.2, e ∙ h.3)

-- where no word is 0 an entry has blocks, and no word after it is 0
entry_nonzero : (c l : ℕ) (rest : List ℕ) → has_zero (c ∷ l ∷ rest) ≡ false → (0 < c) × (has_zero rest ≡ false)
unfolding has_zero
entry_nonzero c l rest h =
    let a = neither (eqb c 0) _ h in
    let d = eqb-false c 0 a.0 in
    (omega arith, (neither (eqb l 0) _ a.1).1)

-- a search finds block b at entry e': in its first entry, or over the entries after it
data Found (e' s' l' r' : ℕ) : (m : List ℕ) (e s b : ℕ) → Type 0 where
  here : (c l : ℕ) (rest : List ℕ) (e s b : ℕ) → b < c → e ≡ e' → s + b * l ≡ s' → l ≡ l' → c - b ≡ r' → Found e' s' l' r' (c ∷ l ∷ rest) e s b
  later : (c l : ℕ) (rest : List ℕ) (e s b : ℕ) → c ≤ b → Found e' s' l' r' rest (e + 1) (s + c * l) (b - c) → Found e' s' l' r' (c ∷ l ∷ rest) e s b

-- every place that a search answers was found so
found : (m : List ℕ) (e s b e' s' l' r' : ℕ) → place_from m e s b ≡ At e' s' l' r' → Found e' s' l' r' m e s b
unfolding place_from
found [] e s b e' s' l' r' h = absurd (let z : ◌≡◌ {A = ℕ} 0 1 = cc in omega arith)
found (c ∷ []) e s b e' s' l' r' h = absurd (let z : ◌≡◌ {A = ℕ} 0 1 = cc in omega arith)
found (c ∷ l ∷ rest) e s b e' s' l' r' h = go (ltb b c) refl (found rest (e + 1) (s + c * l) (b - c) e' s' l' r') h
  where
    go : (t : Bool) → ltb b c ≡ t → (place_from rest (e + 1) (s + c * l) (b - c) ≡ At e' s' l' r' → Found e' s' l' r' rest (e + 1) (s + c * l) (b - c))
        → cond t (At e (s + b * l) l (c - b)) (place_from rest (e + 1) (s + c * l) (b - c)) ≡ At e' s' l' r' → Found e' s' l' r' (c ∷ l ∷ rest) e s b
    go true q ih h = here c l rest e s b (ltb-true _ _ q) (cc) (cc) (cc) (cc)
    go false q ih h = later c l rest e s b (ltb-false _ _ q) (ih h)

-- an entry's number is at least that of the entry at which the search starts
entry_from : {e' s' l' r' : ℕ} {m : List ℕ} {e s b : ℕ} → Found e' s' l' r' m e s b → e ≤ e'
entry_from (here c l rest e s b w a1 a2 a3 a4) = omega arith
entry_from (later c l rest e s b w f) = let q = entry_from f in omega arith

-- the blocks of one length with which entries begin: the first entry has that length, or another
equal_here : (c l : ℕ) (rest : List ℕ) (len : ℕ) → l ≡ len → equal_blocks (c ∷ l ∷ rest) len ≡ c + equal_blocks rest len
unfolding equal_blocks
equal_here c l rest len h = rw (eq-eqb l len h)

equal_other : (c l : ℕ) (rest : List ℕ) (len : ℕ) → (l ≡ len → ⊥) → equal_blocks (c ∷ l ∷ rest) len ≡ 0
unfolding equal_blocks
equal_other c l rest len h = rw (ne_eqb l len h)

-- they are no more than all blocks
equal_le : (m : List ℕ) (len : ℕ) → equal_blocks m len ≤ blocks m
unfolding equal_blocks blocks
equal_le [] len = omega arith
equal_le (c ∷ []) len = omega arith
equal_le (c ∷ l ∷ rest) len = go (eqb l len) (equal_le rest len)
  where
    go : (t : Bool) → equal_blocks rest len ≤ blocks rest → cond t (c + equal_blocks rest len) 0 ≤ c + blocks rest
    go true ih = omega arith
    go false ih = omega arith

-- all of them have that length
equal_places : (m : List ℕ) (len e s k : ℕ) → k < equal_blocks m len → HasLength (place_from m e s k) len
unfolding equal_blocks
equal_places [] len e s k h = absurd (omega arith)
equal_places (c ∷ []) len e s k h = absurd (omega arith)
equal_places (c ∷ l ∷ rest) len e s k h = go (eqb l len) refl (ltb k c) refl (equal_places rest len (e + 1) (s + c * l) (k - c)) h
  where
    go : (t : Bool) → eqb l len ≡ t → (u : Bool) → ltb k c ≡ u
        → (k - c < equal_blocks rest len → HasLength (place_from rest (e + 1) (s + c * l) (k - c)) len)
        → k < cond t (c + equal_blocks rest len) 0 → HasLength (place_from (c ∷ l ∷ rest) e s k) len
    go true q true w ih h = as_long _ l len (eqb-true l len q) (e, s + k * l, c - k, place_here c l rest e s k (ltb-true _ _ w))
    go true q false w ih h = same_place _ _ _ (place_past c l rest e s k (ltb-false _ _ w)) (ih (omega (arith, ltb-false k c w)))
    go false q u w ih h = absurd (omega arith)

-- and where no word is 0 the block after them, if there is one, has not
equal_ends : (m : List ℕ) (len e s : ℕ) → has_zero m ≡ false → HasLength (place_from m e s (equal_blocks m len)) len → ⊥
unfolding equal_blocks place_from
equal_ends [] len e s n h = absurd (let k = h.3 in let z : ◌≡◌ {A = ℕ} 0 1 = cc in omega arith)
equal_ends (c ∷ []) len e s n h = absurd (let k = h.3 in let z : ◌≡◌ {A = ℕ} 0 1 = cc in omega arith)
equal_ends (c ∷ l ∷ rest) len e s n h = go (eqb l len) refl (equal_ends rest len (e + 1) (s + c * l) (entry_nonzero c l rest n).1) h
  where
    go : (t : Bool) → eqb l len ≡ t → (HasLength (place_from rest (e + 1) (s + c * l) (equal_blocks rest len)) len → ⊥)
        → HasLength (place_from (c ∷ l ∷ rest) e s (cond t (c + equal_blocks rest len) 0)) len → ⊥
    go true q ih h =
        let z : c + equal_blocks rest len - c ≡ equal_blocks rest len = omega arith in
        ih (rw z at (same_place _ _ _ (sym (place_past c l rest e s (c + equal_blocks rest len) (omega arith))) h))
    go false q ih h =
        let d = sym (place_here c l rest e s 0 (entry_nonzero c l rest n).0) ∙ h.3 in
        let x : l ≡ len = cc in
        eqb-false l len q x

-- a block's number of consecutive blocks, in an entry that holds it and in one that does not
number_here : (c l : ℕ) (rest : List ℕ) (b : ℕ) → b < c → consecutive_blocks (c ∷ l ∷ rest) b ≡ c - b + equal_blocks rest l
unfolding consecutive_blocks
number_here c l rest b h = rw (lt-ltb b c h)

number_past : (c l : ℕ) (rest : List ℕ) (b : ℕ) → c ≤ b → consecutive_blocks (c ∷ l ∷ rest) b ≡ consecutive_blocks rest (b - c)
unfolding consecutive_blocks
number_past c l rest b h = rw (le-ltb b c h)

-- so many blocks from b on have b's length
run-places : (m : List ℕ) (e s b e' s' l' r' k : ℕ) → place_from m e s b ≡ At e' s' l' r' → k < consecutive_blocks m b → HasLength (place_from m e s (b + k)) l'
run-places m e s b e' s' l' r' k h p = go (found m e s b e' s' l' r' h) p
  where
    go : {m : List ℕ} {e s b : ℕ} → Found e' s' l' r' m e s b → k < consecutive_blocks m b → HasLength (place_from m e s (b + k)) l'
    go (here c l rest e s b w a1 a2 a3 a4) p = near (ltb (b + k) c) refl
      where
        near : (t : Bool) → ltb (b + k) c ≡ t → HasLength (place_from (c ∷ l ∷ rest) e s (b + k)) l'
        near true q = as_long _ l l' a3 (e, s + (b + k) * l, c - (b + k), place_here c l rest e s (b + k) (ltb-true _ _ q))
        near false q =
            let n = rw (number_here c l rest b w) at p in
            as_long _ _ _ a3
            (same_place _ _ _ (place_past c l rest e s (b + k) (ltb-false _ _ q))
            (equal_places rest l (e + 1) (s + c * l) (b + k - c) (omega (arith, ltb-false (b + k) c q))))
    go (later c l rest e s b w f) p =
        let z : b + k - c ≡ b - c + k = omega arith in
        same_place _ _ _ (place_past c l rest e s (b + k) (omega arith) ∙ rw z) (go f (rw (number_past c l rest b w) at p))

-- and where no word is 0 the block after them, if there is one, has not
run_ends : (m : List ℕ) (e s b e' s' l' r' : ℕ) → has_zero m ≡ false
    → place_from m e s b ≡ At e' s' l' r' → HasLength (place_from m e s (b + consecutive_blocks m b)) l' → ⊥
run_ends m e s b e' s' l' r' n h = go (found m e s b e' s' l' r' h) n
  where
    go : {m : List ℕ} {e s b : ℕ} → Found e' s' l' r' m e s b → has_zero m ≡ false → HasLength (place_from m e s (b + consecutive_blocks m b)) l' → ⊥
    go (here c l rest e s b w a1 a2 a3 a4) n p =
        let z : b + (c - b + equal_blocks rest l) - c ≡ equal_blocks rest l = omega arith in
        let past = place_past c l rest e s (b + (c - b + equal_blocks rest l)) (omega arith) in
        equal_ends rest l (e + 1) (s + c * l) (entry_nonzero c l rest n).1
        (rw z at (same_place _ _ _ (sym past) (as_long _ _ _ (sym a3) (rw (number_here c l rest b w) at p))))
    go (later c l rest e s b w f) n p =
        let z : b + consecutive_blocks rest (b - c) - c ≡ b - c + consecutive_blocks rest (b - c) = omega arith in
        let past = place_past c l rest e s (b + consecutive_blocks rest (b - c)) (omega arith) in
        go f (entry_nonzero c l rest n).1 (rw z at (same_place _ _ _ (sym past) (rw (number_past c l rest b w) at p)))

-- the number, by the rest of the block's entry and the entries after it
walk_number : (m : List ℕ) (e s b e' s' l' r' : ℕ) → place_from m e s b ≡ At e' s' l' r'
    → consecutive_blocks m b ≡ r' + equal_blocks (drop (2 * (e' + 1 - e)) m) l'
walk_number m e s b e' s' l' r' h = go (found m e s b e' s' l' r' h)
  where
    go : {m : List ℕ} {e s b : ℕ} → Found e' s' l' r' m e s b → consecutive_blocks m b ≡ r' + equal_blocks (drop (2 * (e' + 1 - e)) m) l'
    go (here c l rest e s b w a1 a2 a3 a4) =
        let z : 2 * (e' + 1 - e) ≡ 2 = omega arith in
        rw (z, number_here c l rest b w, a4, a3)
    go (later c l rest e s b w f) =
        let o = entry_from f in
        let z : 2 * (e' + 1 - e) ≡ suc (suc (2 * (e' + 1 - (e + 1)))) = omega arith in
        rw (z, number_past c l rest b w) (go f)

-- from a block that was found, the first byte of the block n blocks on, by the rest of its entry and the entries after it
pub walk_end : (m : List ℕ) (e s b e' s' l' r' n : ℕ) → place_from m e s b ≡ At e' s' l' r'
    → s + first_byte m (b + n) ≡ s' + first_byte (r' ∷ l' ∷ drop (2 * (e' + 1 - e)) m) n
walk_end m e s b e' s' l' r' n h = go (found m e s b e' s' l' r' h) (ltb n r') refl
  where
    go : {m : List ℕ} {e s b : ℕ} → Found e' s' l' r' m e s b → (u : Bool) → ltb n r' ≡ u
        → s + first_byte m (b + n) ≡ s' + first_byte (r' ∷ l' ∷ drop (2 * (e' + 1 - e)) m) n
    go (here c l rest e s b w a1 a2 a3 a4) true k =
        let v : n < r' = ltb-true _ _ k in
        let x : n * l ≡ n * l' = ap (λ (j : ℕ). n * j) a3 in
        rw (first_byte_here c l rest (b + n) (omega arith), first_byte_here r' l' (drop (2 * (e' + 1 - e)) (c ∷ l ∷ rest)) n (omega arith), add-mul b n l)
        (omega arith)
    go (here c l rest e s b w a1 a2 a3 a4) false k =
        let v : r' ≤ n = ltb-false _ _ k in
        let z : 2 * (e' + 1 - e) ≡ 2 = omega arith in
        let y : b + n - c ≡ n - r' = omega arith in
        let x : c * l ≡ b * l + r' * l' = (let d : c ≡ b + r' = omega arith in rw (d, ← a3) (add-mul b r' l)) in
        rw (z, first_byte_past c l rest (b + n) (omega arith), first_byte_past r' l' rest n (omega arith), y) (omega arith)
    go (later c l rest e s b w f) u k =
        let o = entry_from f in
        let z : 2 * (e' + 1 - e) ≡ suc (suc (2 * (e' + 1 - (e + 1)))) = omega arith in
        let y : b + n - c ≡ b - c + n = omega arith in
        let g = go f u k in
        rw (z, first_byte_past c l rest (b + n) (omega arith), y) (omega arith)

-- the number of blocks, by those before a block that was found, the rest of its entry and the entries after it
walk-blocks : (m : List ℕ) (e s b e' s' l' r' : ℕ) → place_from m e s b ≡ At e' s' l' r'
    → blocks m ≡ b + (r' + blocks (drop (2 * (e' + 1 - e)) m))
unfolding blocks
walk-blocks m e s b e' s' l' r' h = go (found m e s b e' s' l' r' h)
  where
    go : {m : List ℕ} {e s b : ℕ} → Found e' s' l' r' m e s b → blocks m ≡ b + (r' + blocks (drop (2 * (e' + 1 - e)) m))
    go (here c l rest e s b w a1 a2 a3 a4) =
        let z : 2 * (e' + 1 - e) ≡ 2 = omega arith in
        rw z (omega arith)
    go (later c l rest e s b w f) =
        let o = entry_from f in
        let z : 2 * (e' + 1 - e) ≡ suc (suc (2 * (e' + 1 - (e + 1)))) = omega arith in
        let g = go f in
        rw z (omega arith)

-- the entry of a block that was found is one of the map's, and its length word is the block's length
walk_entry : (m : List ℕ) (e s b e' s' l' r' : ℕ) → place_from m e s b ≡ At e' s' l' r'
    → (2 * (e' - e) + 1 < length m) × (get_or m (2 * (e' - e) + 1) 0 ≡ l')
walk_entry m e s b e' s' l' r' h = go (found m e s b e' s' l' r' h)
  where
    go : {m : List ℕ} {e s b : ℕ} → Found e' s' l' r' m e s b → (2 * (e' - e) + 1 < length m) × (get_or m (2 * (e' - e) + 1) 0 ≡ l')
    go (here c l rest e s b w a1 a2 a3 a4) =
        let z : 2 * (e' - e) + 1 ≡ 1 = omega arith in
        rw z (omega arith, a3)
    go (later c l rest e s b w f) =
        let o = entry_from f in
        let z : 2 * (e' - e) + 1 ≡ suc (suc (2 * (e' - (e + 1)) + 1)) = omega arith in
        let g = go f in
        rw z (omega arith, g.1)

-- a block is past the first entry's exactly where the one so many blocks on is past the others'
pub past_count : (c k b : ℕ) → c ≤ b → leb (c + k) b ≡ leb k (b - c)
past_count c k b h = go (leb k (b - c)) refl
  where
    go : (t : Bool) → leb k (b - c) ≡ t → leb (c + k) b ≡ t
    go true e = let p : k ≤ b - c = leb-true _ _ e in le-leb (c + k) b (omega arith)
    go false e = let p : b - c < k = leb-false _ _ e in lt-leb (c + k) b (omega arith)

-- a walk's blocks: those left in its entry, and those after it
pub walk_first : (r l : ℕ) (rest : List ℕ) (n k : ℕ) → k ≡ min n r → first_byte (r ∷ l ∷ rest) n ≡ k * l + first_byte rest (n - k)
unfolding first_byte
walk_first r l rest n k e = let z : n - k ≡ n - r = omega arith in rw (z, e)

pub no_blocks : (m : List ℕ) (b : ℕ) → b ≡ 0 → first_byte m b ≡ 0
no_blocks m b e = rw (e, first_byte_zero m)

-- ---- the turns of the code over a map's words

-- where no entry i is left: it passes no lent bytes, the block is in none from it on, and no block is counted
module _ (w : List ℕ) (i : ℕ) where
  no_entry : (P : List ℕ → Type 0) → P [] → ((x : ℕ) → P (x ∷ [])) → length w ≤ 2 * i + 1 → P (drop (2 * i) w)
  no_entry P none one h = go (drop (2 * i) w) (rw (length-drop (2 * i) w) (omega arith))
    where
      go : (m : List ℕ) → length m ≤ 1 → P m
      go [] p = none
      go (x ∷ []) p = one x
      go (x ∷ y ∷ r) p = absurd (omega arith)

  pub end_outgrows : (b n : ℕ) → length w ≤ 2 * i + 1 → outgrows (drop (2 * i) w) b n ≡ false
  unfolding outgrows
  end_outgrows b n = no_entry (λ m. outgrows m b n ≡ false) refl (λ x. refl)

  pub end_there : (b : ℕ) → length w ≤ 2 * i + 1 → leb (blocks (drop (2 * i) w)) b ≡ true
  unfolding blocks
  end_there b h = no_entry (λ m. leb (blocks m) b ≡ true) (le-leb 0 b (omega arith)) (λ x. le-leb 0 b (omega arith)) h

  pub end_first : (b : ℕ) → length w ≤ 2 * i + 1 → first_byte (drop (2 * i) w) b ≡ 0
  unfolding first_byte
  end_first b = no_entry (λ m. first_byte m b ≡ 0) refl (λ x. refl)

  pub end_equal : (len : ℕ) → length w ≤ 2 * i + 1 → equal_blocks (drop (2 * i) w) len ≡ 0
  unfolding equal_blocks
  end_equal len = no_entry (λ m. equal_blocks m len ≡ 0) refl (λ x. refl)

  -- and otherwise, with its two words in hand
  abbrev count : ℕ
  count = get_or w (2 * i) 0

  abbrev size : ℕ
  size = get_or w (2 * i + 1) 0

  abbrev behind : List ℕ
  behind = drop (2 * (i + 1)) w

  entry_words_lem : 2 * i + 1 < length w → drop (2 * i) w ≡ count ∷ size ∷ behind
  entry_words_lem h = let e : 2 * (i + 1) ≡ 2 * i + 2 = omega arith in rw (e, drop_two w (2 * i) h)

  -- the entry passes the n bytes that are lent, or it holds the block, or the search goes on with the next
  pub past_outgrows : (b n : ℕ) → 2 * i + 1 < length w → n < count * size → outgrows (drop (2 * i) w) b n ≡ true
  unfolding outgrows
  past_outgrows b n h p = rw (entry_words_lem h, lt-ltb n (count * size) p)

  pub here_outgrows : (b n : ℕ) → 2 * i + 1 < length w → count * size ≤ n → b < count → outgrows (drop (2 * i) w) b n ≡ false
  unfolding outgrows
  here_outgrows b n h p q = rw (entry_words_lem h, le-ltb n (count * size) p, lt-ltb b count q)

  pub next_outgrows : (b n m k : ℕ) → 2 * i + 1 < length w → count * size ≤ n → count ≤ b → m ≡ n - count * size → k ≡ b - count
      → outgrows behind k m ≡ outgrows (drop (2 * i) w) b n
  unfolding outgrows
  next_outgrows b n m k h p q em ek = rw (em, ek, entry_words_lem h, le-ltb n (count * size) p, le-ltb b count q)

  pub here_there : (b : ℕ) → 2 * i + 1 < length w → b < count → leb (blocks (drop (2 * i) w)) b ≡ false
  here_there b h q = lt-leb _ _ (omega (arith, blocks_entry w i h))

  pub next_there : (b k : ℕ) → 2 * i + 1 < length w → count ≤ b → k ≡ b - count → leb (blocks behind) k ≡ leb (blocks (drop (2 * i) w)) b
  next_there b k h q ek = rw (ek, blocks_entry w i h) (sym (past_count count (blocks behind) b q))

  pub here_place : (b s : ℕ) → 2 * i + 1 < length w → b < count → At i (s + b * size) size (count - b) ≡ place_from (drop (2 * i) w) i s b
  here_place b s h q = rw (entry_words_lem h) (sym (place_here count size behind i s b q))

  pub next_place : (b s t k : ℕ) → 2 * i + 1 < length w → count ≤ b → t ≡ s + count * size → k ≡ b - count
      → place_from behind (i + 1) t k ≡ place_from (drop (2 * i) w) i s b
  next_place b s t k h q et ek = rw (et, ek, entry_words_lem h) (sym (place_past count size behind i s b q))

  -- of so many blocks from its first on, k are in it
  pub next_first : (b k : ℕ) → 2 * i + 1 < length w → k ≡ min b count → first_byte (drop (2 * i) w) b ≡ k * size + first_byte behind (b - k)
  next_first b k h e = rw (entry_words_lem h) (walk_first count size behind b k e)

  -- and all of them are where none is left
  pub last_first : (b k : ℕ) → 2 * i + 1 < length w → k ≡ min b count → b - k ≡ 0 → first_byte (drop (2 * i) w) b ≡ k * size
  last_first b k h e z = omega (arith, next_first b k h e, no_blocks behind (b - k) z)

  -- the entry has the length of a run of equal blocks, and the run goes on with the next; or it has another, and the run stops
  pub next_equal : (len : ℕ) → 2 * i + 1 < length w → size ≡ len → equal_blocks (drop (2 * i) w) len ≡ count + equal_blocks behind len
  next_equal len h e = rw (entry_words_lem h) (equal_here count size behind len e)

  pub other_equal : (len : ℕ) → 2 * i + 1 < length w → (size ≡ len → ⊥) → equal_blocks (drop (2 * i) w) len ≡ 0
  other_equal len h d = rw (entry_words_lem h) (equal_other count size behind len d)

-- entries that do not pass the lent bytes in all do not up to any block
pub fits : (m : List ℕ) (b n : ℕ) → bytes m ≤ n → outgrows m b n ≡ false
unfolding outgrows bytes
fits [] b n h = refl
fits (c ∷ []) b n h = refl
fits (c ∷ l ∷ rest) b n h = rw (le-ltb n (c * l) (omega arith)) (go (ltb b c) (fits rest (b - c) (n - c * l) (omega arith)))
  where
    go : (t : Bool) → outgrows rest (b - c) (n - c * l) ≡ false → cond t false (outgrows rest (b - c) (n - c * l)) ≡ false
    go true ih = refl
    go false ih = ih

-- the blocks are those of the entries before one and those of the entries from it on
blocks_split : (w : List ℕ) (i : ℕ) → blocks w ≡ blocks (take (2 * i) w) + blocks (drop (2 * i) w)
unfolding blocks
blocks_split w zero = omega arith
blocks_split w (suc i) = let z : 2 * suc i ≡ suc (suc (2 * i)) = omega arith in rw z (go w (λ v. blocks_split v i))
  where
    go : (w : List ℕ) → ((v : List ℕ) → blocks v ≡ blocks (take (2 * i) v) + blocks (drop (2 * i) v))
        → blocks w ≡ blocks (take (suc (suc (2 * i))) w) + blocks (drop (suc (suc (2 * i))) w)
    go [] ih = omega arith
    go (c ∷ []) ih = omega arith
    go (c ∷ l ∷ rest) ih = omega (arith, ih rest)

pub equal_within : (w : List ℕ) (i len : ℕ) → equal_blocks (drop (2 * i) w) len ≤ blocks w
equal_within w i len = omega (arith, equal_le (drop (2 * i) w) len, blocks_split w i)

-- what the code that searches, the code that looks for a run's end, and the code that counts equal blocks are proved by
pub ruleset search_turns = (end_outgrows, end_there, past_outgrows, here_outgrows, next_outgrows, here_there, next_there, here_place, next_place)

pub ruleset end_turns = (walk_first, next_first, last_first, end_first, no_blocks)

pub ruleset equal_turns = (next_equal, other_equal, end_equal, equal_within)

-- the same from the map's start: what a walk from a block that was found needs, and where it ends
module _ (m : List ℕ) (b e s l r : ℕ) (h : place m b ≡ At e s l r) where
  pub found_entry : (2 * e + 1 < length m) × (get_or m (2 * e + 1) 0 ≡ l)
  unfolding place
  found_entry = rw (sub-zero e) at (walk_entry m 0 0 b e s l r h)

  found_blocks : blocks m ≡ b + (r + blocks (drop (2 * (e + 1)) m))
  unfolding place
  found_blocks = rw (sub-zero (e + 1)) at (walk-blocks m 0 0 b e s l r h)

  pub entry_left : b + r ≡ blocks (take (2 * (e + 1)) m)
  entry_left = omega (arith, found_blocks, blocks_split m (e + 1))

  pub found_walk : (n : ℕ) → s + first_byte (r ∷ l ∷ drop (2 * (e + 1)) m) n ≡ first_byte m (b + n)
  unfolding place
  found_walk n = sym (rw (sub-zero (e + 1), zero-add (first_byte m (b + n))) at (walk_end m 0 0 b e s l r n h))

  pub walk_asks : (n : ℕ) → bytes m ≤ max_length → s + first_byte (r ∷ l ∷ drop (2 * (e + 1)) m) n ≤ max_length
  walk_asks n q = omega (arith, found_walk n, first_byte-le m (b + n))

  pub found_number : r + equal_blocks (drop (2 * (e + 1)) m) l ≡ consecutive_blocks m b
  unfolding place
  found_number = sym (rw (sub-zero (e + 1)) at (walk_number m 0 0 b e s l r h))

  pub number_fits : blocks m ≤ max_blocks → consecutive_blocks m b ≤ max_blocks
  number_fits p = omega (arith, found_number, found_blocks, equal_le (drop (2 * (e + 1)) m) l)

  -- each of a block's consecutive blocks has its length
  pub number_alike : (k : ℕ) → k < consecutive_blocks m b → HasLength (place m (b + k)) l
  unfolding place
  number_alike k p = run-places m 0 0 b e s l r k h p

  -- the block after them, if there is one, has not
  pub number_ends : has_zero m ≡ false → HasLength (place m (b + consecutive_blocks m b)) l → ⊥
  unfolding place
  number_ends n = run_ends m 0 0 b e s l r n h

  -- where no two neighbouring entries have the same length, they are those to the entry's end
  pub number_in_entry : ((i : ℕ) → 2 * (i + 1) + 1 < length m → get_or m (2 * i + 1) 0 ≡ get_or m (2 * (i + 1) + 1) 0 → ⊥) → consecutive_blocks m b ≡ r
  number_in_entry d = omega (arith, found_number, go (ltb (2 * (e + 1) + 1) (length m)) refl)
    where
      go : (t : Bool) → ltb (2 * (e + 1) + 1) (length m) ≡ t → equal_blocks (drop (2 * (e + 1)) m) l ≡ 0
      go true q = other_equal m (e + 1) l (ltb-true _ _ q) (λ x. d e (ltb-true _ _ q) (found_entry.1 ∙ sym x))
      go false q = end_equal m (e + 1) l (ltb-false _ _ q)

-- a later block starts later
pub first_byte_rises : (m : List ℕ) (b n : ℕ) → first_byte m b ≤ first_byte m (b + n)
unfolding first_byte
first_byte_rises [] b n = omega arith
first_byte_rises (c ∷ []) b n = omega arith
first_byte_rises (c ∷ l ∷ rest) b n = go (ltb b c) refl (first_byte_rises rest (b - c) n)
  where
    go : (t : Bool) → ltb b c ≡ t → first_byte rest (b - c) ≤ first_byte rest (b - c + n)
        → min b c * l + first_byte rest (b - c) ≤ min (b + n) c * l + first_byte rest (b + n - c)
    go true q ih =
        let p : b < c = ltb-true _ _ q in
        let z : b - c ≡ 0 = omega arith in
        rw (z, first_byte_zero rest) (omega (arith, mul-le-mul_right {m = min b c} {n = min (b + n) c} l (omega arith)))
    go false q ih =
        let p : c ≤ b = ltb-false _ _ q in
        let z : b + n - c ≡ b - c + n = omega arith in
        rw z (omega (arith, mul-le-mul_right {m = min b c} {n = min (b + n) c} l (omega arith)))
