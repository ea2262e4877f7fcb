-- `validate` meets its contract: what the test says of the bytes left, at the kinds held, is what it says of the whole.
use mathlib.Core.Path.{◌≡◌}
use mathlib.Core.List.{[]}
use lib.ListN.{length}
use Rattle.dependency.specs.Expression.{reading}
use Rattle.dependency.specs.Validation.{fault_from}
use Rattle.dependency.specs.Stack.{kinds_of}
use Rattle.dependency.proofs.validation.validate.Given as goal

abbrev pub invariant-loop-read : goal.invariant-loop-read
invariant-loop-read l = fault_from (reading l.rest) (kinds_of l.kinds.depth l.kinds.digits) ≡ fault_from (reading l.expression) []

abbrev pub decreases-loop-read : goal.decreases-loop-read
decreases-loop-read l = length l.rest
