-- `guid_defined_contents` meets its contract: the tests of a GUID-defined section's own fields.
use mathlib.Core.Path.{◌∙◌}
use native.Mathlib.Omega.{arith}
use Rattle.numbers.proofs.LittleEndian.{le_two}
use Rattle.sections.proofs.header.Tests.{guid_204, guid_packed, guid_open}
use borrow.Author.Rules.{rules}
use Rattle.sections.proofs.header.Header.guid_defined_contents.Goals as goal

-- the data offset and the attributes, each from its two bytes
pub returns-then-offset-own : goal.returns-then-offset-own
returns-then-offset-own c =
    rw c.requires.1
    (guid_204 _ _ _ _ (c.u16_of-offset.ensures ∙ le_two c.args.s.now _ _ (omega arith)) (rw c.grown-own.ensures at c.then-offset-own.either))

pub returns-then-attributes-eq1 : goal.returns-then-attributes-eq1
returns-then-attributes-eq1 c =
    let told = c.u16_of-attributes.ensures ∙ le_two c.args.s.now _ _ (omega arith) in
    rw c.requires.1
    (guid_packed _ _ _ _ (c.u16_of-offset.ensures ∙ le_two _ _ _ (omega arith)) (search rules) (search rules) (omega arith) (search rules) (search rules))

pub returns : goal.returns
returns c =
    let told = c.u16_of-attributes.ensures ∙ le_two c.args.s.now _ _ (omega arith) in
    rw c.requires.1
    (guid_open _ _ _ _ (c.u16_of-offset.ensures ∙ le_two _ _ _ (omega arith)) (search rules) (search rules) (λ e. omega arith)
    (search rules) (search rules) (search rules))
