-- `section` meets its contract: by the class, what a holder's own fields say, or a leaf.
use mathlib.Core.Path.{sym, ap, ◌∙◌}
use Rattle.std.proofs.lemmas.Result.{err_from_is_err_and}
use Rattle.sections.specs.Header.{is_holder}
use Rattle.sections.proofs.header.Tests.{past_holder, past_leaf}
use Rattle.sections.proofs.header.Header.section.Goals as goal
use Rattle.sections.proofs.header.Header.section.Goals.{in-OpenableHolder+in_ok-contents-in-OpenableHolder, in-GuidHeadedLeaf, in-PlainLeaf}

pub holder_contents-requires : goal.holder_contents-requires
holder_contents-requires c = (c.requires.0, ap is_holder (sym c.requires.1 ∙ c.in-OpenableHolder.is))

pub returns-in_err-contents-in-OpenableHolder : goal.returns-in_err-contents-in-OpenableHolder
returns-in_err-contents-in-OpenableHolder c =
    let p = err_from_is_err_and c.from_residual.result c.from_residual.ensures.1 in
    rw (p.1, p.2) (past_holder _ _ _ (ap is_holder (sym c.requires.1 ∙ c.in-OpenableHolder.is)) c.in_err-contents-in-OpenableHolder.ensures)

pub returns : goal.returns
returns c =
    elim c.match-self.branch [
      | in-OpenableHolder+in_ok-contents-in-OpenableHolder w ↦ rw w.contents-is (past_holder _ _ _ (ap is_holder (sym c.requires.1 ∙ w.in-OpenableHolder.is)) w.in_ok-contents-in-OpenableHolder.ensures)
      | in-GuidHeadedLeaf w ↦ rw w.contents-is (past_leaf _ _ _ (ap is_holder (sym c.requires.1 ∙ w.in-GuidHeadedLeaf.is)))
      | in-PlainLeaf w ↦ rw w.contents-is (past_leaf _ _ _ (ap is_holder (sym c.requires.1 ∙ w.in-PlainLeaf.is)))
    ]
