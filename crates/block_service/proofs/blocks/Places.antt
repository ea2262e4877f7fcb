-- Laws of the blocks' places. `first_byte` gives each block's first byte, and past the last block the end of the last: a block holds
-- the bytes from its first byte up to the next block's. So every byte below the map's total lies in exactly one block.
use Prim.Native.Nat.{ℕ, zero, suc, ◌+◌, ◌-◌, ◌*◌, ◌/◌, ◌≤◌, ◌<◌, min}
use mathlib.Core.Path.{◌≡◌, refl, sym, ap, ◌∙◌}
use mathlib.Core.Bool.{Bool, true, false, cond, ◌&&◌}
use mathlib.Core.List.{List, [], ◌∷◌, ◌++◌}
use native.Mathlib.Nat.{add-zero, sub-zero, zero-add, mul-le-mul_right, div-lt_iff_lt-mul, add-mul, zero-mul, one-mul}
use native.Mathlib.Omega.{arith}
use borrow.Author.Tests.{lt-ltb, le-ltb, le-leb, lt-leb, ltb-true, ltb-false, leb-true, leb-false}
use lib.Dec.{T, leb, ltb}
use Rattle.volume.specs.BlockMap.{blocks, bytes}
use Rattle.block_service.specs.Blocks.{place_from, place, start_of, length_of, holds, in_block, block_at, first_byte}
use Rattle.block_service.specs.Blocks.{Place}
use Rattle.block_service.specs.Blocks.{At, Missing}

pub first_byte_zero : (m : List ℕ) → first_byte m 0 ≡ 0
unfolding first_byte
first_byte_zero [] = refl
first_byte_zero (c ∷ []) = refl
first_byte_zero (c ∷ l ∷ rest) =
    let z : min 0 c ≡ 0 = omega arith in
    let y : 0 - c ≡ 0 = omega arith in
    rw (z, y, first_byte_zero rest, zero-mul l)

-- a block number within the first entry, and one past it
pub first_byte_here : (c l : ℕ) (rest : List ℕ) (b : ℕ) → b ≤ c → first_byte (c ∷ l ∷ rest) b ≡ b * l
unfolding first_byte
first_byte_here c l rest b h =
    let z : min b c ≡ b = omega arith in
    let y : b - c ≡ 0 = omega arith in
    rw (z, y, first_byte_zero rest, add-zero (b * l))

pub first_byte_past : (c l : ℕ) (rest : List ℕ) (b : ℕ) → c ≤ b → first_byte (c ∷ l ∷ rest) b ≡ c * l + first_byte rest (b - c)
unfolding first_byte
first_byte_past c l rest b h = let z : min b c ≡ c = omega arith in rw z

pub first_byte_end : (m : List ℕ) → first_byte m (blocks m) ≡ bytes m
unfolding first_byte blocks bytes
first_byte_end [] = refl
first_byte_end (c ∷ []) = refl
first_byte_end (c ∷ l ∷ rest) =
    let z : min (c + blocks rest) c ≡ c = omega arith in
    let y : c + blocks rest - c ≡ blocks rest = omega arith in
    rw (z, y, first_byte_end rest)

pub first_byte-le : (m : List ℕ) (b : ℕ) → first_byte m b ≤ bytes m
unfolding first_byte bytes
first_byte-le [] b = omega arith
first_byte-le (c ∷ []) b = omega arith
first_byte-le (c ∷ l ∷ rest) b =
    omega (arith, first_byte-le rest (b - c), mul-le-mul_right {m = min b c} {n = c} l (omega arith))

-- the block of a byte within the first entry, and of one past it
block_at_here : (c l : ℕ) (rest : List ℕ) (i : ℕ) → i < c * l → block_at (c ∷ l ∷ rest) i ≡ i / l
unfolding block_at
block_at_here c l rest i h = rw (lt-ltb i (c * l) h)

block_at_past : (c l : ℕ) (rest : List ℕ) (i : ℕ) → c * l ≤ i → block_at (c ∷ l ∷ rest) i ≡ c + block_at rest (i - c * l)
unfolding block_at
block_at_past c l rest i h = rw (le-ltb i (c * l) h)

-- an entry that holds a byte has blocks that are not empty
positive : (c l i : ℕ) → i < c * l → 0 < l
positive c zero i h = absurd (omega arith)
positive c (suc l) i h = omega arith

-- the bytes before block b's first are those of the blocks before b
block_at_before : (m : List ℕ) (i b : ℕ) → i < first_byte m b → block_at m i < b
unfolding first_byte
block_at_before [] i b h = absurd (omega arith)
block_at_before (c ∷ []) i b h = absurd (omega arith)
block_at_before (c ∷ l ∷ rest) i b h = go (ltb i (c * l)) refl (ltb c b) refl (block_at_before rest (i - c * l) (b - c))
  where
    go : (t : Bool) → ltb i (c * l) ≡ t → (u : Bool) → ltb c b ≡ u
        → (i - c * l < first_byte rest (b - c) → block_at rest (i - c * l) < b - c) → block_at (c ∷ l ∷ rest) i < b
    go true e true q ih =
        let p : i < c * l = ltb-true _ _ e in
        let w : i / l < c = (div-lt_iff_lt-mul (positive c l i p)).1 p in
        rw (block_at_here c l rest i p) (omega (arith, ltb-true))
    go true e false q ih =
        let p : i < c * l = ltb-true _ _ e in
        let w : i < b * l = rw (first_byte_here c l rest b (ltb-false _ _ q)) at h in
        rw (block_at_here c l rest i p) ((div-lt_iff_lt-mul (positive c l i p)).1 w)
    go false e true q ih =
        let p : c * l ≤ i = ltb-false _ _ e in
        let r : c < b = ltb-true _ _ q in
        let w = rw (first_byte_past c l rest b (omega arith)) at h in
        rw (block_at_past c l rest i p) (omega (arith, ih (omega arith)))
    go false e false q ih =
        let p : c * l ≤ i = ltb-false _ _ e in
        let w = rw (first_byte_here c l rest b (ltb-false _ _ q)) at h in
        absurd (omega (arith, mul-le-mul_right {m = b} {n = c} l (ltb-false _ _ q)))

-- and the bytes of the blocks before b lie before block b's first byte
pub before_first_byte : (m : List ℕ) (i b : ℕ) → b ≤ blocks m → block_at m i < b → i < first_byte m b
unfolding blocks
before_first_byte [] i b g h = absurd (omega arith)
before_first_byte (c ∷ []) i b g h = absurd (omega arith)
before_first_byte (c ∷ l ∷ rest) i b g h = go (ltb i (c * l)) refl (ltb c b) refl (before_first_byte rest (i - c * l) (b - c))
  where
    go : (t : Bool) → ltb i (c * l) ≡ t → (u : Bool) → ltb c b ≡ u
        → (b - c ≤ blocks rest → block_at rest (i - c * l) < b - c → i - c * l < first_byte rest (b - c)) → i < first_byte (c ∷ l ∷ rest) b
    go true e true q ih =
        let p : i < c * l = ltb-true _ _ e in
        let r : c < b = ltb-true _ _ q in
        rw (first_byte_past c l rest b (omega arith)) (omega arith)
    go true e false q ih =
        let p : i < c * l = ltb-true _ _ e in
        let w : i / l < b = rw (block_at_here c l rest i p) at h in
        rw (first_byte_here c l rest b (ltb-false _ _ q)) ((div-lt_iff_lt-mul (positive c l i p)).0 w)
    go false e true q ih =
        let p : c * l ≤ i = ltb-false _ _ e in
        let r : c < b = ltb-true _ _ q in
        let w = rw (block_at_past c l rest i p) at h in
        rw (first_byte_past c l rest b (omega arith)) (omega (arith, ih (omega arith) (omega arith)))
    go false e false q ih =
        let p : c * l ≤ i = ltb-false _ _ e in
        let r : b ≤ c = ltb-false _ _ q in
        let w = rw (block_at_past c l rest i p) at h in
        absurd (omega arith)

not_before : (m : List ℕ) (i b : ℕ) → b ≤ blocks m → first_byte m b ≤ i → b ≤ block_at m i
not_before m i b g h = go (ltb (block_at m i) b) refl
  where
    go : (t : Bool) → ltb (block_at m i) b ≡ t → b ≤ block_at m i
    go true e = absurd (omega (arith, before_first_byte m i b g (ltb-true _ _ e)))
    go false e = ltb-false _ _ e

-- the two together, as an equation of tests
pub before_same : (m : List ℕ) (i b : ℕ) → b ≤ blocks m → ltb (block_at m i) b ≡ ltb i (first_byte m b)
before_same m i b g = go (ltb i (first_byte m b)) refl
  where
    go : (t : Bool) → ltb i (first_byte m b) ≡ t → ltb (block_at m i) b ≡ t
    go true e = lt-ltb _ _ (block_at_before m i b (ltb-true _ _ e))
    go false e = le-ltb _ _ (not_before m i b g (ltb-false _ _ e))

pub not_before_same : (m : List ℕ) (i b : ℕ) → b ≤ blocks m → leb b (block_at m i) ≡ leb (first_byte m b) i
not_before_same m i b g = go (leb (first_byte m b) i) refl
  where
    go : (t : Bool) → leb (first_byte m b) i ≡ t → leb b (block_at m i) ≡ t
    go true e = le-leb _ _ (not_before m i b g (leb-true _ _ e))
    go false e = lt-leb _ _ (block_at_before m i b (leb-false _ _ e))

-- whether the place of a block is missing
unfoldable pub missing : Place → Bool
missing (At e s l r) = false
missing Missing = true

-- a block is missing exactly where the number of blocks does not pass its number
place_missing : (m : List ℕ) (e s b : ℕ) → missing (place_from m e s b) ≡ leb (blocks m) b
unfolding place_from missing blocks
place_missing [] e s b = sym (le-leb 0 b (omega arith))
place_missing (c ∷ []) e s b = sym (le-leb 0 b (omega arith))
place_missing (c ∷ l ∷ rest) e s b = go (ltb b c) refl (place_missing rest (e + 1) (s + c * l) (b - c))
  where
    go : (t : Bool) → ltb b c ≡ t → missing (place_from rest (e + 1) (s + c * l) (b - c)) ≡ leb (blocks rest) (b - c)
        → missing (cond t (At e (s + b * l) l (c - b)) (place_from rest (e + 1) (s + c * l) (b - c))) ≡ leb (c + blocks rest) b
    go true q ih = let p : b < c = ltb-true b c q in sym (lt-leb (c + blocks rest) b (omega arith))
    go false q ih = ih ∙ go2 (leb (blocks rest) (b - c)) refl
      where
        go2 : (u : Bool) → leb (blocks rest) (b - c) ≡ u → u ≡ leb (c + blocks rest) b
        go2 true k =
            let p : c ≤ b = ltb-false b c q in
            let r : blocks rest ≤ b - c = leb-true _ _ k in
            sym (le-leb (c + blocks rest) b (omega arith))
        go2 false k =
            let p : c ≤ b = ltb-false b c q in
            let r : b - c < blocks rest = leb-false _ _ k in
            sym (lt-leb (c + blocks rest) b (omega arith))

-- a block's place starts at its first byte
place_start : (m : List ℕ) (e s b : ℕ) → b < blocks m → start_of (place_from m e s b) ≡ s + first_byte m b
unfolding place_from start_of blocks
place_start [] e s b h = absurd (omega arith)
place_start (c ∷ []) e s b h = absurd (omega arith)
place_start (c ∷ l ∷ rest) e s b h = go (ltb b c) refl (place_start rest (e + 1) (s + c * l) (b - c))
  where
    go : (t : Bool) → ltb b c ≡ t → (b - c < blocks rest → start_of (place_from rest (e + 1) (s + c * l) (b - c)) ≡ s + c * l + first_byte rest (b - c))
        → start_of (cond t (At e (s + b * l) l (c - b)) (place_from rest (e + 1) (s + c * l) (b - c))) ≡ s + first_byte (c ∷ l ∷ rest) b
    go true q ih = let p : b < c = ltb-true _ _ q in rw (first_byte_here c l rest b (omega arith))
    go false q ih =
        let p : c ≤ b = ltb-false _ _ q in
        let w = ih (omega arith) in
        rw (first_byte_past c l rest b p) (omega arith)

-- and ends at the next block's
place_end : (m : List ℕ) (e s b : ℕ) → b < blocks m
    → start_of (place_from m e s b) + length_of (place_from m e s b) ≡ s + first_byte m (b + 1)
unfolding place_from start_of length_of blocks
place_end [] e s b h = absurd (omega arith)
place_end (c ∷ []) e s b h = absurd (omega arith)
place_end (c ∷ l ∷ rest) e s b h = go (ltb b c) refl (place_end rest (e + 1) (s + c * l) (b - c))
  where
    go : (t : Bool) → ltb b c ≡ t
        → (b - c < blocks rest
        → start_of (place_from rest (e + 1) (s + c * l) (b - c)) + length_of (place_from rest (e + 1) (s + c * l) (b - c))
        ≡ s + c * l + first_byte rest (b - c + 1))
        → start_of (cond t (At e (s + b * l) l (c - b)) (place_from rest (e + 1) (s + c * l) (b - c)))
        + length_of (cond t (At e (s + b * l) l (c - b)) (place_from rest (e + 1) (s + c * l) (b - c)))
        ≡ s + first_byte (c ∷ l ∷ rest) (b + 1)
    go true q ih =
        let p : b < c = ltb-true _ _ q in
        rw (first_byte_here c l rest (b + 1) (omega arith), add-mul b 1 l, one-mul l) (omega arith)
    go false q ih =
        let p : c ≤ b = ltb-false _ _ q in
        let w = ih (omega arith) in
        let z : b + 1 - c ≡ b - c + 1 = omega arith in
        rw (first_byte_past c l rest (b + 1) (omega arith), z) (omega arith)

-- a place that is there is that of a block
pub place_found : (m : List ℕ) (b e s l r : ℕ) → place m b ≡ At e s l r → b < blocks m
unfolding place missing
place_found m b e s l r h = leb-false _ _ (sym (place_missing m 0 0 b) ∙ ap missing h)

pub place_lost : (m : List ℕ) (b : ℕ) → place m b ≡ Missing → blocks m ≤ b
unfolding place missing
place_lost m b h = leb-true _ _ (sym (place_missing m 0 0 b) ∙ ap missing h)

-- and every block has one
pub place_there : (m : List ℕ) (b : ℕ) → b < blocks m → (e : ℕ) × (s : ℕ) × (l : ℕ) × (r : ℕ) × (place m b ≡ At e s l r)
place_there m b h = go (place m b) refl
  where
    go : (p : Place) → place m b ≡ p → (e : ℕ) × (s : ℕ) × (l : ℕ) × (r : ℕ) × (place m b ≡ At e s l r)
    go (At e s l r) q = (e, s, l, r, q)
    go Missing q = absurd (omega (arith, place_lost m b q))

-- entries after the one that holds the block count for nothing
settled : (m rest : List ℕ) (e s b : ℕ) → b < blocks m → place_from (m ++ rest) e s b ≡ place_from m e s b
unfolding place_from blocks
settled [] rest e s b h = absurd (omega arith)
settled (c ∷ []) rest e s b h = absurd (omega arith)
settled (c ∷ l ∷ m) rest e s b h = go (ltb b c) refl (settled m rest (e + 1) (s + c * l) (b - c))
  where
    go : (t : Bool) → ltb b c ≡ t
        → (b - c < blocks m → place_from (m ++ rest) (e + 1) (s + c * l) (b - c) ≡ place_from m (e + 1) (s + c * l) (b - c))
        → cond t (At e (s + b * l) l (c - b)) (place_from (m ++ rest) (e + 1) (s + c * l) (b - c))
        ≡ cond t (At e (s + b * l) l (c - b)) (place_from m (e + 1) (s + c * l) (b - c))
    go true q ih = refl
    go false q ih =
        let p : c ≤ b = ltb-false _ _ q in
        ih (omega arith)

pub entry_settles : (m rest : List ℕ) (b : ℕ) → b < blocks m → place (m ++ rest) b ≡ place m b
unfolding place
entry_settles m rest b h = settled m rest 0 0 b h

-- where it lies
pub found_start : (m : List ℕ) (b e s l r : ℕ) → place m b ≡ At e s l r → s ≡ first_byte m b
unfolding place start_of
found_start m b e s l r h = sym (ap start_of h) ∙ place_start m 0 0 b (place_found m b e s l r h) ∙ zero-add (first_byte m b)

pub found_end : (m : List ℕ) (b e s l r : ℕ) → place m b ≡ At e s l r → s + l ≡ first_byte m (b + 1)
unfolding place start_of length_of
found_end m b e s l r h =
    sym (ap (λ (p : Place). start_of p + length_of p) h) ∙ place_end m 0 0 b (place_found m b e s l r h) ∙ zero-add (first_byte m (b + 1))

-- the next block starts where it ends
pub next_block : (m : List ℕ) (b e s l r e' s' l' r' : ℕ) → place m b ≡ At e s l r → place m (b + 1) ≡ At e' s' l' r' → s' ≡ s + l
next_block m b e s l r e' s' l' r' h k = found_start m (b + 1) e' s' l' r' k ∙ sym (found_end m b e s l r h)

-- block 0 starts at byte 0 and is the first of the first entry, where that has blocks
pub first_block : (c l : ℕ) (rest : List ℕ) → 0 < c → place (c ∷ l ∷ rest) 0 ≡ At 0 0 l c
unfolding place place_from
first_block c l rest h = rw (lt-ltb 0 c h, zero-mul l, add-zero 0, sub-zero c)

-- it lies within the map's total
pub found_within : (m : List ℕ) (b e s l r : ℕ) → place m b ≡ At e s l r → s + l ≤ bytes m
found_within m b e s l r h = omega (arith, found_end m b e s l r h, first_byte-le m (b + 1))

-- byte i lies in block b exactly where b is one of the blocks and i stands between its first byte and the next block's
pub in_block_bounds : (m : List ℕ) (b i : ℕ) → T (in_block m b i) → (b < blocks m) × (first_byte m b ≤ i) × (i < first_byte m (b + 1))
unfolding in_block holds
in_block_bounds m b i = go (place m b) refl
  where
    go : (p : Place) → place m b ≡ p → T (holds p i) → (b < blocks m) × (first_byte m b ≤ i) × (i < first_byte m (b + 1))
    go (At e s l r) q t = go2 (leb s i) refl (ltb i (s + l)) refl t
      where
        go2 : (x : Bool) → leb s i ≡ x → (y : Bool) → ltb i (s + l) ≡ y → T (x && y) → (b < blocks m) × (first_byte m b ≤ i) × (i < first_byte m (b + 1))
        go2 true u true w t =
            let f = found_start m b e s l r q in
            let g = found_end m b e s l r q in
            let u' : s ≤ i = leb-true _ _ u in
            let w' : i < s + l = ltb-true _ _ w in
            (place_found m b e s l r q, omega arith, omega arith)
        go2 true u false w t = absurd t
        go2 false u true w t = absurd t
        go2 false u false w t = absurd t
    go Missing q t = absurd t

pub in_block_of_bounds : (m : List ℕ) (b i : ℕ) → b < blocks m → first_byte m b ≤ i → i < first_byte m (b + 1) → T (in_block m b i)
unfolding in_block holds
in_block_of_bounds m b i h p q = go (place m b) refl
  where
    go : (x : Place) → place m b ≡ x → T (holds x i)
    go (At e s l r) k =
        let f = found_start m b e s l r k in
        let g = found_end m b e s l r k in
        rw (le-leb s i (omega arith), lt-ltb i (s + l) (omega arith)) tt
    go Missing k = absurd (omega (arith, place_lost m b k))

-- a block in which a byte lies is the one that `block_at` gives
pub in_block-block_at : (m : List ℕ) (b i : ℕ) → T (in_block m b i) → block_at m i ≡ b
in_block-block_at m b i t =
    let k = in_block_bounds m b i t in
    omega (arith, not_before m i b (omega arith) k.1, block_at_before m i (b + 1) k.2)

-- every byte below the map's total lies in exactly one block
pub in_some_block : (m : List ℕ) (i : ℕ) → i < bytes m → T (in_block m (block_at m i) i)
in_some_block m i h =
    let b : ℕ = block_at m i in
    let p : b < blocks m = block_at_before m i (blocks m) (rw (first_byte_end m) h) in
    let q : i < first_byte m (b + 1) = before_first_byte m i (b + 1) (omega arith) (omega arith) in
    in_block_of_bounds m b i p (lt_free m i) q
  where
    lt_free : (m : List ℕ) (i : ℕ) → first_byte m (block_at m i) ≤ i
    lt_free m i = go (ltb i (first_byte m (block_at m i))) refl
      where
        go : (t : Bool) → ltb i (first_byte m (block_at m i)) ≡ t → first_byte m (block_at m i) ≤ i
        go true e = absurd (omega (arith, block_at_before m i (block_at m i) (ltb-true _ _ e)))
        go false e = ltb-false _ _ e

pub in_one_block : (m : List ℕ) (a b i : ℕ) → T (in_block m a i) → T (in_block m b i) → a ≡ b
in_one_block m a b i p q = sym (in_block-block_at m a i p) ∙ in_block-block_at m b i q

-- no block reaches past the map's total
pub past_every_block : (m : List ℕ) (b i : ℕ) → bytes m ≤ i → T (in_block m b i) → ⊥
past_every_block m b i h t =
    let k = in_block_bounds m b i t in
    omega (arith, first_byte-le m (b + 1))
