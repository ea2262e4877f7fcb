-- What a reader wants of answers and refusal tables, in document 01's order.
use Prim.Native.Nat.{ℕ}
use mathlib.Core.Path.{◌≡◌, refl, ◌∙◌}
use mathlib.Core.Bool.{true}
use mathlib.Core.List.{List, [], ◌∷◌, ◌++◌}
use mathlib.Core.Option.{none, some}
use Rattle.common.specs.Answers.{refused, values_of}
use Rattle.common.specs.Refusals.{Row, row, first_refusal}
use Rattle.common.proofs.Refusals.{row_applies, then_passed}

-- "first that applies": where no row before it applies, a row whose test holds gives its number, whatever comes later
pub first_that_applies : (earlier later : List Row) (n : ℕ) → first_refusal earlier ≡ none → first_refusal (earlier ++ (row true n ∷ later)) ≡ some n
first_that_applies earlier later n e = then_passed earlier (row true n ∷ later) e ∙ row_applies true n later refl

-- "a refusal carries no value but its number"
pub no_value : (n : ℕ) → values_of (refused n) ≡ []
unfolding values_of
no_value n = refl
