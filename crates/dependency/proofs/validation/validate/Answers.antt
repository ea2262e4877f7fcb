-- `validate` meets its contract: what the test says of the bytes left, at the kinds held, is what it says of the whole.
use native.Mathlib.Omega.{arith}
use Rattle.std.proofs.Common.{rules, ◌≡◌, ◌∙◌, sym, ap, refl, Err}
use Rattle.dependency.specs.Opcodes.{code_of}
use Rattle.dependency.specs.Stack.{kinds_of}
use Rattle.dependency.specs.Validation.{validated_answer}
use Rattle.dependency.specs.declared.opcodes.Opcode.TheVariants.{End}
use Rattle.dependency.proofs.opcodes.Rows.{code_early}
use Rattle.dependency.proofs.opcodes.Single.{reads_within}
use Rattle.dependency.proofs.validation.Turns.{fewer, validate_refused, validate_ended, validate_stack, validate_next}
use Rattle.dependency.proofs.validation.validate.Goals as goal

pub loop-read-init : goal.loop-read-init
unfolding kinds_of
loop-read-init c = refl

pub returns-in_err-read : goal.returns-in_err-read
returns-in_err-read c =
    let r : c.from_residual.result ≡ Err c.in_err-read.field-0.0 = search rules in
    ap validated_answer r ∙ validate_refused _ _ _ c.loop-read.invariant _ c.in_err-read.ensures

pub returns-then-eq : goal.returns-then-eq
returns-then-eq c =
    let e : c.in_ok-read.read.opcode ≡ End = search rules in
    validate_ended _ _ _ c.loop-read.invariant _ _ c.in_ok-read.ensures _ (ap code_of e) c.end.ensures

pub returns-in_err-follow : goal.returns-in_err-follow
returns-in_err-follow c =
    let r : c.from_residual-in_err-follow.result ≡ Err c.in_err-follow.field-0.0 = search rules in
    let h = code_early c.in_ok-read.read.opcode (search rules) in
    ap validated_answer r ∙ validate_stack _ _ _ c.loop-read.invariant _ _ c.in_ok-read.ensures (λ e. omega arith) _ _ c.in_err-follow.ensures

pub slice_bounds-rest-count : goal.slice_bounds-rest-count
slice_bounds-rest-count c = (reads_within _ _ _ (sym c.in_ok-read.ensures)).1

pub slice_bounds-rest-start : goal.slice_bounds-rest-start
slice_bounds-rest-start c = let w = reads_within _ _ _ (sym c.in_ok-read.ensures) in omega arith

pub loop-read-smaller : goal.loop-read-smaller
loop-read-smaller c = fewer _ _ _ c.in_ok-read.ensures

pub loop-read-preserved : goal.loop-read-preserved
loop-read-preserved c =
    let h = code_early c.in_ok-read.read.opcode (search rules) in
    validate_next _ _ _ c.loop-read.invariant _ _ c.in_ok-read.ensures (λ e. omega arith) _ c.in_ok-follow.ensures
