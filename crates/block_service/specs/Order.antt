-- The order of bytes in which an erase list is carried out, and the job (document 02, g): "Blocks go as the list first names them, bytes upward, each once."
-- An order is a list of byte numbers of the volume, and a job is a place in it: how many of its bytes have been stored. 02 does not say what a job holds, so that is
-- the program's choice; what any choice would have in common is what the theorems on runs say (isolation, PowerCut).
use Rattle.std.specs.Prelude.{ℕ, zero, suc, ◌+◌, Bool, false, cond, ◌||◌, List, [], ◌∷◌, ◌++◌, eqb, ltb, leb, length, take, drop}
use Rattle.block_service.specs.Access.{ByteChange, keep, erase}
use Rattle.block_service.specs.Blocks.{place, start_of, length_of}
use Rattle.block_service.specs.Erase.{end_of_list}

-- of lists of numbers: n numbers upward, the first of them s
unfoldable pub up_from : ℕ → ℕ → List ℕ
up_from s zero = []
up_from s (suc n) = s ∷ up_from (s + 1) n

-- of lists of numbers: x stands in the list
unfoldable pub member : ℕ → List ℕ → Bool
member x [] = false
member x (y ∷ rest) = eqb x y || member x rest

-- of lists of numbers: those that were not passed before, each only where it first stands
unfoldable pub firsts : (ℕ → Bool) → List ℕ → List ℕ
firsts passed [] = []
firsts passed (b ∷ rest) = cond (passed b) (firsts passed rest) (b ∷ firsts (λ x. eqb x b || passed x) rest)

-- of lists: the elements numbered from `from` on and below `to`, the first element having the number 0
unfoldable pub part : ℕ → ℕ → List ℕ → List ℕ
part from to l = drop from (take to l)

-- the blocks that an erase list names, as its pairs before the terminator have them; one that two pairs cover stands there twice
unfoldable pub named_blocks : List ℕ → List ℕ
named_blocks [] = []
named_blocks (first ∷ []) = []
named_blocks (first ∷ count ∷ rest) = let later = named_blocks rest in cond (eqb first end_of_list) [] (up_from first count ++ later)

-- the bytes of blocks, block after block, those of a block upward
unfoldable pub bytes_of : List ℕ → List ℕ → List ℕ
bytes_of map [] = []
bytes_of map (b ∷ rest) = up_from (start_of (place map b)) (length_of (place map b)) ++ bytes_of map rest

-- "Blocks go as the list first names them, bytes upward, each once"
unfoldable pub erase_order : List ℕ → List ℕ → List ℕ
erase_order map list = bytes_of map (firsts (λ b. false) (named_blocks list))

-- the jobs that a map and a list give: 0 at acceptance, and afterwards the number of bytes stored, as long as some are left
unfoldable pub job_given : List ℕ → List ℕ → ℕ → Bool
job_given map list job = eqb job 0 || ltb job (length (erase_order map list))

-- carrying a job on "by a given number of byte stores or, if fewer, what is left": the next bytes of the order, n of them or those that are left, are erased
unfoldable pub carry_change : List ℕ → List ℕ → ℕ → ℕ → ℕ → ByteChange
carry_change map list job n i = cond (member i (part job (job + n) (erase_order map list))) erase keep

-- "nothing is left then"
unfoldable pub finishes : List ℕ → List ℕ → ℕ → ℕ → Bool
finishes map list job n = leb (length (erase_order map list)) (job + n)
