-- A dependency expression (document 02, k): the opcodes that its bytes hold, up to the end.
use Rattle.std.specs.Prelude.{ℕ, zero, suc, cond, List, eqb, length, drop}
use Rattle.common.specs.Refusals.{first_refusal, unless_refused}
use Rattle.dependency.specs.Opcodes.{OpcodeRow, end_code, row_of, code_at, after, operand_of, read_refusals}

-- opcodes with their operands' bytes, up to END or up to the first that cannot be read, with its refusal
pub data Reading : Type 0 where
  fault : ℕ → Reading
  ended : Reading
  next : OpcodeRow → List ℕ → Reading → Reading

-- with a counter, `fuel`
unfoldable pub reading_from : (fuel : ℕ) → List ℕ → Reading
reading_from zero s = fault 305
reading_from (suc fuel) s =
    let later = next (row_of (code_at s)) (operand_of s) (reading_from fuel (drop (after s) s)) in
    let here = cond (eqb (code_at s) end_code) ended later in
    unless_refused fault (first_refusal (read_refusals s)) here

-- what the bytes hold. Each opcode has a byte, so that the counter never comes to its end: `reading_next` and its like (proofs/Theorems) say it without one
unfoldable pub reading : List ℕ → Reading
reading s = reading_from (suc (length s)) s

-- for the theorems: bytes that have an end, every opcode up to it being readable
unfoldable pub Ends : Reading → Type 0
Ends (fault n) = ⊥
Ends ended = Unit {0}
Ends (next o operand rest) = Ends rest
