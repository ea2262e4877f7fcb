-- `contents_fields` meets its contract, type by type.
use native.Mathlib.Omega.{arith}
use borrow.Author.Rules.{rules}
use borrow.Author.Tests.{ne_eqb}
use Rattle.sections.proofs.types.Rows.{not_holder, holds-compression, holds_guid}
use Rattle.sections.proofs.partial.Views.{contents_compression, contents_guid, tested_holder, tested_leaf}
use Rattle.sections.proofs.partial.contents_fields.Goals as goal

pub returns-in-1 : goal.returns-in-1
returns-in-1 c = tested_holder _ (holds-compression _ c.in-1.is) (contents_compression _ c.in-1.is (omega arith))

pub returns-in-2 : goal.returns-in-2
returns-in-2 c = tested_holder _ (holds_guid _ c.in-2.is) (contents_guid _ (λ e. omega arith) (omega arith))

pub returns-in_default : goal.returns-in_default
returns-in_default c = tested_leaf _ (not_holder _ (ne_eqb _ _ (search rules)) (ne_eqb _ _ (search rules)))
