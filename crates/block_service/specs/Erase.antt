-- Erasing (document 01, "Erase"). The list is a list of 64-bit words: "pairs of first block and count, ended by 2^64 - 1 where a first
-- block would stand. Words after that are ignored."
use Rattle.std.specs.Prelude.{ℕ, zero, suc, ◌+◌, ◌/◌, Bool, false, not, cond, ◌&&◌, ◌||◌, List, [], ◌∷◌, eqb, leb, ltb, length, Result, Ok, Err}
use Rattle.common.specs.declared.refusal.Refusal.{Refusal}
use Rattle.common.specs.declared.refusal.Refusal.TheVariants as R
use Rattle.numbers.specs.LittleEndian.{le}
use Rattle.block_service.specs.Access.{ByteChange, keep, erase}
use Rattle.block_service.specs.Blocks.{block_at}

-- the terminator, 2^64 - 1
abbrev pub end_of_list : ℕ
end_of_list = 0xFFFFFFFFFFFFFFFF

-- the list is good for n blocks: it has its terminator, and before it no count is 0 and no pair's true sum passes n
unfoldable pub good_list : ℕ → List ℕ → Bool
good_list n [] = false
good_list n (first ∷ []) = eqb first end_of_list
good_list n (first ∷ count ∷ rest) =
    let later = good_list n rest in
    eqb first end_of_list || (not (eqb count 0) && (leb (first + count) n && later))

-- the list names block b: a pair before the terminator covers it
unfoldable pub names : List ℕ → ℕ → Bool
names [] b = false
names (first ∷ []) b = false
names (first ∷ count ∷ rest) b =
    let later = names rest b in
    not (eqb first end_of_list) && (leb first b && ltb b (first + count) || later)

-- the list names a block from block m on: a pair before the terminator covers one. In words: `reaches-names` and `names-reaches` (proofs/Theorems)
unfoldable pub reaches : ℕ → List ℕ → Bool
reaches m [] = false
reaches m (first ∷ []) = false
reaches m (first ∷ count ∷ rest) =
    let later = reaches m rest in
    not (eqb first end_of_list) && (not (eqb count 0) && ltb m (first + count) || later)

-- an erase of the blocks that the list names, in a volume with this block map
unfoldable pub erase_change : List ℕ → List ℕ → ℕ → ByteChange
erase_change map list i = cond (names list (block_at map i)) erase keep

-- k words of 64 bits, the first at byte `at`
unfoldable pub longs_at : ℕ → List ℕ → ℕ → List ℕ
longs_at zero s at = []
longs_at (suc k) s at = le 8 s at ∷ longs_at k s (at + 8)

-- an erase list that comes as bytes: "eight to a word; a part word at the end is ignored" (document 02, m)
unfoldable pub list_words : List ℕ → List ℕ
list_words s = longs_at (length s / 8) s 0

-- private to the code's contracts: what is said of a list that is good or not and that names a protected block or not
abbrev pub judged_list : Bool → Bool → Result Bool Refusal
judged_list good reached = cond good (Ok reached) (Err R.InvalidParameter)
