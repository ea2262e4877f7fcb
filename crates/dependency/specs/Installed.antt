-- The installed firmware (document 02, k): "a table of sixteen rows, each row a GUID of sixteen bytes, held by value beside sixteen versions and a used number".
use Rattle.std.specs.Prelude.{ℕ, ◌<◌, ◌≡◌, Bool, true, false, cond, ◌&&◌, List, [], ◌∷◌, eqb, get_or, take}
use Rattle.std.proofs.Math.Option.{Option, none, some}
use Rattle.dependency.specs.Opcodes.{Installed}

-- the rows of the table
abbrev pub row_limit : ℕ
row_limit = 16

-- two byte strings are the same
unfoldable pub same : List ℕ → List ℕ → Bool
same [] [] = true
same [] (y ∷ b) = false
same (x ∷ a) [] = false
same (x ∷ a) (y ∷ b) = eqb x y && same a b

-- the version beside the first row that is this GUID
unfoldable pub first_with : (rows : List (List ℕ)) → (versions : List ℕ) → (guid : List ℕ) → Option ℕ
first_with [] versions guid = none
first_with (r ∷ rows) [] guid = none
first_with (r ∷ rows) (v ∷ versions) guid = cond (same r guid) (some v) (first_with rows versions guid)

-- "the first used row with a GUID counts"
unfoldable pub installed_in : (rows : List (List ℕ)) → (versions : List ℕ) → (used : ℕ) → Installed
installed_in rows versions used guid = first_with (take used rows) versions guid

-- for the theorems: a GUID that stands in a used row
abbrev pub InRow : (rows : List (List ℕ)) → (used : ℕ) → (guid : List ℕ) → Type 0
InRow rows used guid = (i : ℕ) × (i < used) × (get_or rows i [] ≡ guid)
