-- `read_section` meets its contract: by what the size reader answers.
use Rattle.std.proofs.lemmas.Result.{err_from_is_err_and}
use Rattle.sections.proofs.header.Extent.{read_within}
use Rattle.sections.proofs.header.Tests.{head_of_refused, head_of_sized, lies}
use borrow.Author.Rules.{rules}
use Rattle.sections.proofs.header.read_section.Goals as goal

pub returns-in_err-header-clause-read : goal.returns-in_err-header-clause-read
returns-in_err-header-clause-read c =
    let p = err_from_is_err_and c.from_residual.result c.from_residual.ensures.1 in rw (p.1, p.2) (head_of_refused _ _ _ c.in_err-header.ensures.sized)

pub section-requires : goal.section-requires
section-requires c = (lies _ _ _ c.in_ok-header.ensures.sized (search rules) (search rules), c.in_ok-header.ensures.classed)

pub returns-clause-read : goal.returns-clause-read
returns-clause-read c = head_of_sized _ _ _ c.in_ok-header.header c.in_ok-header.ensures.sized c.section.ensures

pub returns-clause-within : goal.returns-clause-within
returns-clause-within c =
    read_within _ _ _ c.section.result (head_of_sized _ _ _ c.in_ok-header.header c.in_ok-header.ensures.sized c.section.ensures)
