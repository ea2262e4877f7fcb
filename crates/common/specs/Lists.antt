-- Functions on lists that the crates share.
use Rattle.std.specs.Prelude.{ℕ, ◌+◌, List, [], ◌∷◌}

-- a list with each element changed by its number, the first having number i
unfoldable pub edit : (ℕ → ℕ → ℕ) → ℕ → List ℕ → List ℕ
edit f i [] = []
edit f i (x ∷ rest) = f i x ∷ edit f (i + 1) rest
