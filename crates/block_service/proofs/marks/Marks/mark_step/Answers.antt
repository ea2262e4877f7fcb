-- A word of ones marks its 64 blocks, a bit one.
use native.Mathlib.Omega.{arith}
use borrow.Author.Rules.{rules}
use Rattle.block_service.proofs.marks.Bits.{mark_word, mark_bit}
use Rattle.block_service.proofs.marks.Marks.mark_step.Goals as goal

pub returns-then-e-i-ge64 : goal.returns-then-e-i-ge64
returns-then-e-i-ge64 c = (omega arith, omega arith, mark_word _ _ (search rules) (search rules))

pub returns : goal.returns
returns c = (omega arith, omega arith, mark_bit _ _ (search rules))
