-- The two rows of a list, by what is said of it.
use mathlib.Core.Path.{sym, ap, ◌∙◌}
use mathlib.Core.Bool.{not}
use mathlib.Core.Path.{◌≡◌}
use Rattle.std.specs.Prelude.{Err}
use borrow.Author.Rules.{rules}
use Rattle.common.proofs.Refusals.{row_applies, row_passes, no_row}
use Rattle.block_service.proofs.erase.Lists.{judged_ok, judged_err}
use Rattle.block_service.proofs.erase.list_refusal.Goals as goal

pub returns-in_err-list_reaches : goal.returns-in_err-list_reaches
returns-in_err-list_reaches g c =
    let k = judged_err _ _ _ (sym c.in_err-list_reaches.was ∙ c.list_reaches.ensures) in
    let r : c.from_residual.result ≡ Err c.in_err-list_reaches.field-0.0 = search rules in
    rw (r, k.1) (sym (row_applies _ _ _ (ap not k.0)))

pub returns-then-branch : goal.returns-then-branch
returns-then-branch g c =
    let k = judged_ok _ _ _ (sym c.in_ok-list_reaches.was ∙ c.list_reaches.ensures) in
    sym (row_passes _ _ _ _ (ap not k.0) (row_applies _ _ _ (sym k.1 ∙ c.if-branch.true)))

pub returns : goal.returns
returns g c =
    let k = judged_ok _ _ _ (sym c.in_ok-list_reaches.was ∙ c.list_reaches.ensures) in
    sym (row_passes _ _ _ _ (ap not k.0) (row_passes _ _ _ _ (sym k.1 ∙ c.if-branch.false) no_row))
