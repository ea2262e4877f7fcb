-- The rows of the lent volume refuse; they pass and the list is bad; or the list is good and `carry_good` does the rest.
use mathlib.Core.Bool.{not}
use mathlib.Core.Path.{◌≡◌, sym, ap}
use borrow.Author.Rules.{rules}
use Rattle.std.specs.Prelude.{Err}
use Rattle.volume.specs.State.{map_of}
use Rattle.volume.proofs.state.Lawful.{lent_bytes, lent_within}
use Rattle.block_service.specs.Service.{progress_answer}
use Rattle.block_service.proofs.erase.Lists.{judged_ok, judged_err}
use Rattle.block_service.proofs.service.Carrying.{carry_refused, carry_bad, progress_step, progressed_as}
use Rattle.block_service.proofs.service.Steps.{begun}
use Rattle.block_service.proofs.jobs.carry_erase.Goals as goal

pub returns-in_err-write_refusal : goal.returns-in_err-write_refusal
unfolding progress_answer
returns-in_err-write_refusal g c =
    let r : c.from_residual.result ≡ Err c.in_err-write_refusal.field-0.0 = search rules in
    rw r (carry_refused _ _ _ _ _ _ (sym c.in_err-write_refusal.ensures))

pub returns-in_err-reached : goal.returns-in_err-reached
unfolding progress_answer
returns-in_err-reached g c =
    let r : c.from_residual-in_err-reached.result ≡ Err c.in_err-reached.field-0.0 = search rules in
    let k = judged_err _ _ _ (rw c.block_count.ensures at c.in_err-reached.ensures) in
    rw (r, k.1) (carry_bad _ _ _ _ _ (sym c.in_ok-write_refusal.ensures) (ap not k.0))

pub carry_good-requires-clause-words_bound : goal.carry_good-requires-clause-words_bound
unfolding map_of
carry_good-requires-clause-words_bound g c =
    let k = (begun _ _ _ (sym c.in_ok-write_refusal.ensures)).lawful in
    rw c.map_words.ensures (lent_bytes _ k, k.blocks)

pub carry_good-requires-clause-words_in_bounds : goal.carry_good-requires-clause-words_in_bounds
unfolding map_of
carry_good-requires-clause-words_in_bounds g c =
    let b = begun _ _ _ (sym c.in_ok-write_refusal.ensures) in
    rw c.map_words.ensures (lent_within _ b.lawful _ b.long)

pub carry_good-requires-clause-list_value : goal.carry_good-requires-clause-list_value
carry_good-requires-clause-list_value g c =
    rw c.map_words.ensures (judged_ok _ _ _ (rw c.block_count.ensures at c.in_ok-reached.ensures)).0

pub returns : goal.returns
returns g c =
    let k = judged_ok _ _ _ (rw c.block_count.ensures at c.in_ok-reached.ensures) in
    progress_step _ _ _ _ _ _ _ (sym c.in_ok-write_refusal.ensures) k.0
    (progressed_as _ _ _ _ _ _ _ _ _ _ _ c.erased_byte-value.ensures k.1 (rw c.map_words.ensures at c.carry_good.ensures))
