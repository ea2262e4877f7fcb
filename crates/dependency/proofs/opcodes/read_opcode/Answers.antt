-- `read_opcode` meets its contract: each return is a row of the reader's table.
use Rattle.std.proofs.Common.{rules, ◌≡◌, ◌∙◌, ap, Err}
use Rattle.dependency.specs.Opcodes.{read_answer}
use Rattle.common.specs.declared.refusal.Refusal.TheVariants.{UnknownOpcode}
use Rattle.dependency.proofs.opcodes.Single.{read_none, read_unknown, read_cut, read_done}
use Rattle.dependency.proofs.opcodes.read_opcode.Goals as goal

pub returns-in_default : goal.returns-in_default
returns-in_default c = read_none _ c.in_default.ensures.cases

pub returns-in_err-opcode : goal.returns-in_err-opcode
returns-in_err-opcode c =
    let h = c.in_err-opcode.ensures in
    let r : c.from_residual.result ≡ Err UnknownOpcode = search rules in
    ap read_answer r ∙ read_unknown _ _ _ c.in-Some.ensures.cases.0 h.1

pub returns-then-rest-width : goal.returns-then-rest-width
returns-then-rest-width c = read_cut _ _ _ c.in-Some.ensures.cases.0 _ c.in_ok-opcode.ensures _ c.operand_width-width.ensures (search rules)

pub returns : goal.returns
returns c = read_done _ _ _ c.in-Some.ensures.cases.0 _ c.in_ok-opcode.ensures _ c.operand_width-width.ensures (search rules)
