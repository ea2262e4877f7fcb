-- Where blocks lie (document 01, Block service): "Blocks are numbered from 0 through the map in order. The first map entry that holds the block settles
-- its place; nothing after it is consulted." And how many blocks of one length follow one another (document 000, GetBlockSize; document 02, b). A map
-- is the list of its words, as in BlockMap.
use Rattle.std.specs.Prelude.{ℕ, ◌+◌, ◌-◌, ◌*◌, ◌/◌, min, Bool, true, false, cond, ◌&&◌, List, [], ◌∷◌, ◌≡◌, eqb, leb, ltb}
use Rattle.common.specs.Refusals.{Row, row}
use Rattle.volume.specs.BlockMap.{blocks}
use Rattle.block_service.specs.declared.blocks.BlockPlace.{BlockPlace}

-- where a block lies: its map entry, its first byte and its length, and the number of blocks from it to the end of its entry, itself included; or no entry holds it
pub data Place : Type 0 where
  At : ℕ → ℕ → ℕ → ℕ → Place
  Missing : Place

-- the place of the block b blocks on, in entries of which the first is number e and starts at byte s
unfoldable pub place_from : List ℕ → ℕ → ℕ → ℕ → Place
place_from [] e s b = Missing
place_from (count ∷ []) e s b = Missing
place_from (count ∷ len ∷ rest) e s b =
    let later = place_from rest (e + 1) (s + count * len) (b - count) in
    cond (ltb b count) (At e (s + b * len) len (count - b)) later

-- the place of block b
unfoldable pub place : List ℕ → ℕ → Place
place map b = place_from map 0 0 b

-- the place that the code answers
abbrev pub place_of : BlockPlace → Place
place_of p = At p.entry p.start p.len p.left

-- for the theorems: the place is that of a block of length l
abbrev pub HasLength : Place → ℕ → Type 0
HasLength p l = (e : ℕ) × (s : ℕ) × (r : ℕ) × (p ≡ At e s l r)

-- a place's first byte and length; 0 where there is no such block
unfoldable pub start_of : Place → ℕ
start_of (At e s l r) = s
start_of Missing = 0

unfoldable pub length_of : Place → ℕ
length_of (At e s l r) = l
length_of Missing = 0

-- the number of blocks of this length with which the entries begin: those of the entries before the first of another length
unfoldable pub equal_blocks : List ℕ → ℕ → ℕ
equal_blocks [] len = 0
equal_blocks (count ∷ []) len = 0
equal_blocks (count ∷ l ∷ rest) len =
    let later = equal_blocks rest len in
    cond (eqb l len) (count + later) 0

-- GetBlockSize's NumberOfBlocks (document 000): "the number of consecutive blocks, starting with Lba, is returned. All blocks in this range have a
-- size of BlockSize." "Let the run go on through following entries while the length stays equal" (document 02, b): the blocks from block b to the
-- end of its entry, and those of the entries after it up to the first of another length; 0 where there is no such block
unfoldable pub consecutive_blocks : List ℕ → ℕ → ℕ
consecutive_blocks [] b = 0
consecutive_blocks (count ∷ []) b = 0
consecutive_blocks (count ∷ len ∷ rest) b =
    let later = consecutive_blocks rest (b - count) in
    cond (ltb b count) (count - b + equal_blocks rest len) later

-- byte i lies in the place
unfoldable pub holds : Place → ℕ → Bool
holds (At e s l r) i = leb s i && ltb i (s + l)
holds Missing i = false

-- byte i of the volume lies in block b
unfoldable pub in_block : List ℕ → ℕ → ℕ → Bool
in_block map b i = holds (place map b) i

-- the number of the block in which byte i lies; past the last block, the number of blocks
unfoldable pub block_at : List ℕ → ℕ → ℕ
block_at [] i = 0
block_at (count ∷ []) i = 0
block_at (count ∷ len ∷ rest) i =
    let later = block_at rest (i - count * len) in
    cond (ltb i (count * len)) (i / len) (count + later)

-- a map's entries up to the one that holds block b, or all of them where none does, have more than n bytes
unfoldable pub outgrows : List ℕ → ℕ → ℕ → Bool
outgrows [] b n = false
outgrows (count ∷ []) b n = false
outgrows (count ∷ len ∷ rest) b n =
    let later = outgrows rest (b - count) (n - count * len) in
    cond (ltb n (count * len)) true (cond (ltb b count) false later)

-- private to the code's contracts: what refuses the place of block b where n bytes of the volume are lent
abbrev pub place_refusals : List ℕ → ℕ → ℕ → List Row
place_refusals map b n = row (outgrows map b n) 5 ∷ row (leb (blocks map) b) 2 ∷ []

-- private to the code's contracts (the end of an erase run): the first byte of block b; past the last block, the end of the last
unfoldable pub first_byte : List ℕ → ℕ → ℕ
first_byte [] b = 0
first_byte (count ∷ []) b = 0
first_byte (count ∷ len ∷ rest) b = min b count * len + first_byte rest (b - count)
