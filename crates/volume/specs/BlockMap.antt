-- The block map (document 01, Header: bytes 56 on): a list of words, pairs of block count and block length, without the closing
-- pair of zeros. Sums and products are true ones: nothing wraps.
use Rattle.std.specs.Prelude.{ℕ, ◌+◌, ◌*◌, Bool, true, false, not, ◌&&◌, ◌||◌, List, [], ◌∷◌, ◌==◌, nat_lt}
use Rattle.common.specs.Refusals.{any}

-- our limits: 1 to 32 entries, at most 65,536 blocks, length at most 16,777,216
abbrev pub max_entries : ℕ
max_entries = 32

abbrev pub max_blocks : ℕ
max_blocks = 65536

abbrev pub max_length : ℕ
max_length = 16777216

-- "header length is 64 + 8 times the number of map entries": the fields and the closing pair, and a pair of words for each entry
abbrev pub empty_header : ℕ
empty_header = 64

abbrev pub entry_length : ℕ
entry_length = 8

abbrev pub header_length : ℕ → ℕ
header_length n = empty_header + entry_length * n

-- the number of blocks: the sum of the counts
unfoldable pub blocks : List ℕ → ℕ
blocks [] = 0
blocks (count ∷ []) = 0
blocks (count ∷ len ∷ rest) = count + blocks rest

-- the number of bytes: the sum of counts times lengths
unfoldable pub bytes : List ℕ → ℕ
bytes [] = 0
bytes (count ∷ []) = 0
bytes (count ∷ len ∷ rest) = count * len + bytes rest

-- 106: a map word is zero
unfoldable pub has_zero : List ℕ → Bool
has_zero [] = false
has_zero (w ∷ rest) = w == 0 || has_zero rest

-- every word is zero
unfoldable pub all_zero : List ℕ → Bool
all_zero [] = true
all_zero (w ∷ rest) = w == 0 && all_zero rest

-- 107, of n entries with these words and a volume of `len` bytes: counts times lengths don't total the volume length, a limit is passed,
-- or the header is longer than the volume
unfoldable pub size_fault : ℕ → List ℕ → ℕ → Bool
size_fault n words len =
    any
    ((n == 0)
    ∷ nat_lt max_entries n
    ∷ nat_lt max_blocks (blocks words)
    ∷ nat_lt max_length len
    ∷ not (bytes words == len)
    ∷ nat_lt len (header_length n)
    ∷ [])
