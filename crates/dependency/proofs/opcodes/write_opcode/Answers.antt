-- `write_opcode` meets its contract: each return is a row of the writer's table.
use Rattle.std.proofs.Common.{rules, ◌≡◌, Err}
use Rattle.common.specs.declared.refusal.Refusal.TheVariants.{UnknownOpcode}
use Rattle.dependency.proofs.opcodes.Single.{write_unknown, write_cut, write_short, write_done}
use Rattle.dependency.proofs.opcodes.write_opcode.Goals as goal

pub returns-in_err-opcode : goal.returns-in_err-opcode
returns-in_err-opcode c =
    let h = c.in_err-opcode.ensures in
    let r : c.from_residual.result ≡ Err UnknownOpcode = search rules in
    rw r (write_unknown _ _ _ h.1)

pub returns-then-operand-width : goal.returns-then-operand-width
returns-then-operand-width c = write_cut _ _ _ _ c.in_ok-opcode.ensures _ c.operand_width-width.ensures (search rules)

pub returns-then-room-width : goal.returns-then-room-width
returns-then-room-width c = write_short _ _ _ _ c.in_ok-opcode.ensures _ c.operand_width-width.ensures (search rules) (search rules)

pub returns : goal.returns
returns c = write_done _ _ _ _ c.in_ok-opcode.ensures _ c.operand_width-width.ensures (search rules) _ (search rules) c.copy_from_slice.ensures.after
