-- The rows of the table, and then all bytes of the order, which are those of the blocks that the list names.
use mathlib.Core.Path.{◌≡◌, sym, ◌∙◌}
use native.Mathlib.Omega.{arith}
use borrow.Author.Rules.{rules}
use borrow.Author.Tests.{not-false}
use Rattle.std.specs.Prelude.{Err}
use Rattle.common.proofs.Refusals.{row-passed}
use Rattle.volume.specs.State.{map_of}
use Rattle.volume.proofs.state.Lawful.{lent_bytes, lent_within}
use Rattle.block_service.specs.Service.{erase_blocks, erased_answer, buffer_of, refusals}
use Rattle.block_service.proofs.carry.Fills.{filled_whole}
use Rattle.block_service.proofs.carry.Orders.{order_short}
use Rattle.block_service.proofs.erase.Lists.{names_within}
use Rattle.block_service.proofs.service.Steps.{refused-step, erase_step, begun, lent_first, lent_then}
use Rattle.block_service.proofs.jobs.erase_blocks.Goals as goal

pub returns-in_err-write_refusal : goal.returns-in_err-write_refusal
unfolding erased_answer buffer_of refusals
returns-in_err-write_refusal g c =
    let r : c.from_residual.result ≡ Err c.in_err-write_refusal.field-0.0 = search rules in
    rw r (refused-step _ _ (erase_blocks _) _ (lent_first _ _ _ _ _ (sym c.in_err-write_refusal.ensures)))

pub returns-in_err-list_refusal : goal.returns-in_err-list_refusal
unfolding erased_answer buffer_of refusals
returns-in_err-list_refusal g c =
    let r : c.from_residual-in_err-list_refusal.result ≡ Err c.in_err-list_refusal.field-0.0 = search rules in
    rw r (refused-step _ _ (erase_blocks _) _ (lent_then _ _ _ _ (sym c.in_ok-write_refusal.ensures) ∙ sym (rw c.block_count.ensures at c.in_err-list_refusal.ensures)))

-- the state is lawful and the volume is lent whole
pub carry_list-requires-clause-words_bound : goal.carry_list-requires-clause-words_bound
unfolding map_of
carry_list-requires-clause-words_bound g c =
    let k = (begun _ _ _ (sym c.in_ok-write_refusal.ensures)).lawful in
    rw c.map_words.ensures (lent_bytes _ k, k.blocks)

pub carry_list-requires-clause-words_in_bounds : goal.carry_list-requires-clause-words_in_bounds
unfolding map_of
carry_list-requires-clause-words_in_bounds g c =
    let b = begun _ _ _ (sym c.in_ok-write_refusal.ensures) in
    rw c.map_words.ensures (lent_within _ b.lawful _ b.long)

-- and the list is good
pub carry_list-requires-clause-list_value : goal.carry_list-requires-clause-list_value
carry_list-requires-clause-list_value g c =
    rw c.map_words.ensures (not-false _ (row-passed _ _ (sym (rw c.block_count.ensures at c.in_ok-list_refusal.ensures))).0)

pub returns : goal.returns
unfolding erased_answer buffer_of refusals
returns g c =
    let b = begun _ _ _ (sym c.in_ok-write_refusal.ensures) in
    let listed = sym (rw c.block_count.ensures at c.in_ok-list_refusal.ensures) in
    let named = names_within _ _ (not-false _ (row-passed _ _ listed).0) in
    let stored = rw c.map_words.ensures at c.carry_list.ensures.1 in
    erase_step _ _ _ _ _ (lent_then _ _ _ _ (sym c.in_ok-write_refusal.ensures) ∙ listed) c.erased_byte.ensures
    (stored ∙ filled_whole _ _ _ _ _ named (omega (arith, order_short _ _ named, lent_within _ b.lawful _ b.long)))
