-- `run` meets its contract: the bytes left pass the test at the kinds of the stack, and say what the whole says. So nothing is taken from an empty stack and nothing is put past
-- its end.
use native.Mathlib.Omega.{arith}
use Rattle.std.proofs.Common.{rules, ◌≡◌, ◌∙◌, sym, ap, Err, Some, None}
use Rattle.dependency.specs.Opcodes.{code_of}
use Rattle.dependency.specs.Evaluation.{evaluated_answer}
use Rattle.dependency.specs.Stack.{stack_of}
use Rattle.common.specs.declared.refusal.Refusal.TheVariants.{NotFound}
use Rattle.dependency.specs.declared.opcodes.Opcode.TheVariants.{End}
use Rattle.dependency.proofs.opcodes.Rows.{code_early}
use Rattle.dependency.proofs.opcodes.Single.{reads_within}
use Rattle.dependency.proofs.validation.Turns.{fewer}
use Rattle.dependency.proofs.evaluation.Runs.{run_start, run-refused, run_one, run_ended, run_fits, run_missing, run_next}
use Rattle.dependency.proofs.evaluation.Steps.{stack_length}
use Rattle.dependency.proofs.evaluation.run.Goals as goal

pub loop-read-init : goal.loop-read-init
unfolding stack_of
loop-read-init c = run_start _ _ c.requires

pub returns-in_err-read : goal.returns-in_err-read
returns-in_err-read c = absurd (run-refused _ _ _ _ c.loop-read.invariant _ c.in_err-read.ensures)

pub pop-requires : goal.pop-requires
pop-requires c =
    let e : c.in_ok-read.read.opcode ≡ End = search rules in
    run_one _ _ _ _ c.loop-read.invariant _ _ c.in_ok-read.ensures (ap code_of e)

pub returns-then-eq : goal.returns-then-eq
returns-then-eq c =
    let e : c.in_ok-read.read.opcode ≡ End = search rules in
    run_ended _ _ _ _ c.loop-read.invariant _ _ c.in_ok-read.ensures _ _ (ap code_of e) c.pop.ensures

pub slice_bounds-operand-count : goal.slice_bounds-operand-count
slice_bounds-operand-count c = (reads_within _ _ _ (sym c.in_ok-read.ensures)).0

pub slice_bounds-operand-start : goal.slice_bounds-operand-start
slice_bounds-operand-start c = let w = reads_within _ _ _ (sym c.in_ok-read.ensures) in omega arith

pub slice_bounds-operand-end : goal.slice_bounds-operand-end
slice_bounds-operand-end c = let w = reads_within _ _ _ (sym c.in_ok-read.ensures) in omega arith

pub returns-in_err-version : goal.returns-in_err-version
returns-in_err-version c =
    let h = code_early c.in_ok-read.read.opcode (search rules) in
    let r : c.from_residual-in_err-version.result ≡ Err NotFound = search rules in
    let q : c.given_version.result ≡ None = search rules in
    ap evaluated_answer r ∙ run_missing _ _ _ _ c.loop-read.invariant _ _ c.in_ok-read.ensures (λ e. omega arith) (rw q at c.given_version.ensures)

pub step-requires : goal.step-requires
step-requires c =
    let h = code_early c.in_ok-read.read.opcode (search rules) in
    let l = stack_length c.loop-read.values.depth c.loop-read.values.values in
    let w = c.loop-read.values.within in
    run_fits _ _ _ _ c.loop-read.invariant _ _ c.in_ok-read.ensures (λ e. omega arith) (omega arith)

pub slice_bounds-rest-count : goal.slice_bounds-rest-count
slice_bounds-rest-count c = (reads_within _ _ _ (sym c.in_ok-read.ensures)).1

pub slice_bounds-rest-start : goal.slice_bounds-rest-start
slice_bounds-rest-start c = let w = reads_within _ _ _ (sym c.in_ok-read.ensures) in omega arith

pub loop-read-smaller : goal.loop-read-smaller
loop-read-smaller c = fewer _ _ _ c.in_ok-read.ensures

pub loop-read-preserved : goal.loop-read-preserved
loop-read-preserved c =
    let h = code_early c.in_ok-read.read.opcode (search rules) in
    let q : c.given_version.result ≡ Some c.in_ok-version.version = search rules in
    run_next _ _ _ _ c.loop-read.invariant _ _ c.in_ok-read.ensures (λ e. omega arith) _ _ (rw q at c.given_version.ensures) c.step.ensures
