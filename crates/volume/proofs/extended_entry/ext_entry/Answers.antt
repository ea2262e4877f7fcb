-- `volume::extended_entry::ext_entry` meets its contract: opening's refusal, no extended header, or the walk to the entry.
use Rattle.std.specs.Prelude.{Err}
use Rattle.std.proofs.Common.{◌≡◌, ◌∙◌, rules}
use Rattle.volume.specs.ExtendedEntry.{entry_answer}
use Rattle.volume.specs.Header.{opening_of}
use Rattle.volume.proofs.extended_entry.Numbered.{entry_refused, no_edition, no_entries, good_entries, entry_asked}
use Rattle.volume.proofs.extended_entry.ext_entry.Goals as goal

pub returns-in_err-state : goal.returns-in_err-state
unfolding entry_answer opening_of
returns-in_err-state c =
    let r : c.from_residual.result ≡ Err c.in_err-state.field-0.0 = search rules in
    rw r (entry_refused _ _ _ c.in_err-state.ensures)

pub returns-then-state-ne2 : goal.returns-then-state-ne2
unfolding entry_answer opening_of
returns-then-state-ne2 c = no_edition _ _ _ c.in_ok-state.ensures c.if-state-ne2.true

pub returns-then-offset-eq0 : goal.returns-then-offset-eq0
unfolding entry_answer opening_of
returns-then-offset-eq0 c = no_entries _ _ _ c.in_ok-state.ensures c.if-state-ne2.false _ (c.from-offset.ensures ∙ c.u16_at.ensures) c.if-offset-eq0.true

pub entry_from-requires : goal.entry_from-requires
unfolding opening_of
entry_from-requires c =
    good_entries _ 0 _ c.in_ok-state.ensures c.if-state-ne2.false _ (c.from-offset.ensures ∙ c.u16_at.ensures) c.if-offset-eq0.false _ c.u32_at.ensures

pub returns : goal.returns
unfolding opening_of
returns c =
    entry_asked _ _ _ c.in_ok-state.ensures c.if-state-ne2.false _ (c.from-offset.ensures ∙ c.u16_at.ensures) c.if-offset-eq0.false _ c.u32_at.ensures _ c.entry_from.ensures
