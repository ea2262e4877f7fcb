-- A word whose every bit is as wanted has 64 blocks.
use mathlib.Core.Path.{◌∙◌}
use native.Mathlib.Omega.{arith}
use borrow.Author.Rules.{rules}
use Rattle.block_service.proofs.marks.Bits.{whole_word}
use Rattle.block_service.proofs.marks.Marks.alike_step.Goals as goal

pub returns-then-self-i : goal.returns-then-self-i
returns-then-self-i c = (search rules, whole_word _ _ _ (search rules) (c.if-self-i.true ∙ c.full_word.ensures), λ z. absurd (omega arith))
