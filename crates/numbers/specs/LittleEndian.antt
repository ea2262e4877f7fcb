-- Little-endian numbers ("all numbers are little endian", document 01): one definition for reading and one for storing, each over
-- the width in bytes.
use Rattle.std.specs.Prelude.{ℕ, zero, suc, ◌+◌, ◌*◌, ◌/◌, ◌%◌, List, [], ◌∷◌, get_or}

-- the number in the n bytes of s from byte `at` on, the lowest first; a byte past the end of s counts as 0
unfoldable pub le : ℕ → List ℕ → ℕ → ℕ
le zero s at = 0
le (suc n) s at = get_or s at 0 + 256 * le n s (at + 1)

-- x as n bytes, the lowest first; what does not fit in them is dropped
unfoldable pub le_bytes : ℕ → ℕ → List ℕ
le_bytes zero x = []
le_bytes (suc n) x = (x % 256) ∷ le_bytes n (x / 256)
