-- `holder_contents` meets its contract: a holder that is no compression section is a GUID-defined one.
use mathlib.Core.Path.{◌≡◌}
use borrow.Author.Rules.{rules}
use borrow.Author.Tests.{eq-eqb, ne_eqb}
use Rattle.sections.proofs.types.Rows.{least_compression, least_guid, holder_guid}
use Rattle.sections.proofs.header.Header.holder_contents.Goals as goal

pub compression_contents-requires : goal.compression_contents-requires
compression_contents-requires c =
    let e : c.args.self.now.section_type ≡ 1 = search rules in
    (rw (least_compression _ (eq-eqb _ _ e)) at c.requires.0, e)

pub guid_defined_contents-requires : goal.guid_defined_contents-requires
guid_defined_contents-requires c =
    let n : c.args.self.now.section_type ≡ 1 → ⊥ = search rules in
    let e = holder_guid _ c.requires.1 (ne_eqb _ _ n) in
    (rw (least_guid _ (eq-eqb _ _ e)) at c.requires.0, e)
