-- Refusal tables. Document 01 gives its refusals as an ordered table, "first that applies": a table here is a list of rows,
-- each a test and the number that is answered where the test holds.
use Rattle.std.specs.Prelude.{ℕ, Bool, false, cond, ◌||◌, List, [], ◌∷◌}
use Rattle.std.proofs.Math.Option.{Option, none, some}

-- a row: where `test` holds, the refusal is `number`
pub record Row : Type 0 where
  pub test : Bool
  pub number : ℕ

abbrev pub row : Bool → ℕ → Row
row t n = record { test = t; number = n }

-- the number of the first row whose test holds; none where no row applies
unfoldable pub first_refusal : List Row → Option ℕ
first_refusal [] = none
first_refusal (r ∷ rest) = let later = first_refusal rest in cond r.test (some r.number) later

-- the refusal where there is one, made of its number, and otherwise what is done
abbrev pub unless_refused : {A : Type 0} → (ℕ → A) → Option ℕ → A → A
unless_refused refuse none done = done
unless_refused refuse (some n) done = refuse n

-- some test of a list holds
unfoldable pub any : List Bool → Bool
any [] = false
any (t ∷ rest) = t || any rest
