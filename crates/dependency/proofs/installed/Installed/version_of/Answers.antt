-- `version_of` meets its contract: the rows passed are other GUIDs.
use Rattle.std.proofs.Common.{◌∙◌, sym, inl, inr}
use Rattle.dependency.proofs.installed.Table.{no_row, no_version, row_hit, row_next}
use Rattle.dependency.proofs.installed.Installed.version_of.Goals as goal

pub returns-then-eq : goal.returns-then-eq
returns-then-eq c =
    let s = c.in-Some.ensures.steps in
    row_hit _ _ _ _ c.loop-row.invariant _ _ _ _ s.0 s.1 (rw (← c.as_slice.ensures) (sym c.eq.ensures ∙ c.if-eq.true))

pub loop-row-preserved : goal.loop-row-preserved
loop-row-preserved c =
    let s = c.in-Some.ensures.steps in
    row_next _ _ _ _ c.loop-row.invariant _ _ _ _ s.0 s.1 (rw (← c.as_slice.ensures) (sym c.eq.ensures ∙ c.if-eq.false))

pub returns : goal.returns
returns c =
    elim c.in-None.ensures.steps [
      | inl a ↦ no_row _ _ _ _ c.loop-row.invariant a.1.0
      | inr b ↦ no_version _ _ _ _ c.loop-row.invariant b.1.0
    ]
