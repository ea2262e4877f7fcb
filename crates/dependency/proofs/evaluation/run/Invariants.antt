-- `run` meets its contract: the bytes left pass the test at the kinds of the stack, and say what the whole says. So nothing is taken from an empty stack and nothing is put past
-- its end.
use lib.ListN.{length}
use Rattle.dependency.specs.Installed.{first_with}
use Rattle.dependency.specs.Stack.{stack_of}
use Rattle.dependency.proofs.evaluation.Runs.{Running}
use Rattle.dependency.proofs.evaluation.run.Given as goal

abbrev pub invariant-loop-read : goal.invariant-loop-read
invariant-loop-read l = Running (first_with l.installed.rows.now l.installed.versions.now) l.expression l.rest (stack_of l.values.depth l.values.values)

abbrev pub decreases-loop-read : goal.decreases-loop-read
decreases-loop-read l = length l.rest
