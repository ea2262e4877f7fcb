-- `compression_contents` meets its contract: the tests of a compression section's own fields.
use mathlib.Core.Path.{◌∙◌}
use Rattle.numbers.proofs.LittleEndian.{le_four}
use Rattle.sections.proofs.header.Tests.{compression-packed, compression_204, compression_open}
use borrow.Author.Rules.{rules}
use Rattle.sections.proofs.header.Header.compression_contents.Goals as goal

pub returns-then-s-fields-ne0 : goal.returns-then-s-fields-ne0
returns-then-s-fields-ne0 c = rw c.requires.1 (compression-packed _ _ _ _ (search rules) (search rules) (search rules))

pub returns-then-unpacked-self : goal.returns-then-unpacked-self
returns-then-unpacked-self c =
    rw c.requires.1
    (compression_204 _ _ _ _ (c.u32_of-unpacked.ensures ∙ le_four _ _ _ _ _ (search rules) (search rules) (search rules)) (search rules) (search rules))

pub returns : goal.returns
returns c =
    rw c.requires.1
    (compression_open _ _ _ _ (c.u32_of-unpacked.ensures ∙ le_four _ _ _ _ _ (search rules) (search rules) (search rules)) (search rules) (search rules) (search rules)
    (search rules) (search rules))
