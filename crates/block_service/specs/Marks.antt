-- Private to the code's contracts: which blocks of a volume were named, a bit a block, 64 to a word.
use Rattle.std.specs.Prelude.{ℕ, ◌/◌, ◌%◌, ◌^◌, Bool, List, eqb, get_or}

-- block x is marked: its bit is 1
unfoldable pub marked : List ℕ → ℕ → Bool
marked ws x = eqb (get_or ws (x / 64) 0 / 2 ^ (x % 64) % 2) 1
