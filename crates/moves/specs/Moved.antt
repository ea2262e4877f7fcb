-- Moving bytes from one slice to another: what the second holds afterwards.
use Rattle.std.specs.Prelude.{ℕ, List, ◌++◌, length, take, drop}

-- the first bytes of s over those of d, as many as both have; the rest of d stays
unfoldable pub moved : List ℕ → List ℕ → List ℕ
moved s d = take (length d) s ++ drop (length s) d
