-- `block_service::service::get_block_size` meets its contract.
use Rattle.std.proofs.Common.{◌≡◌, Err, sym, ◌∙◌, arith, rules}
use Rattle.common.proofs.Refusals.{row_passes, no_row}
use Rattle.volume.proofs.state.Lawful.{lawful}
use Rattle.block_service.specs.Service.{get_block_size, block_size_answer, buffer_of, refusals}
use Rattle.block_service.proofs.blocks.Runs.{found_entry, found_number, number_fits}
use Rattle.block_service.proofs.service.Steps.{tested_lawful, refused-step, size_step, place_row, place_there_lem}
use Rattle.block_service.proofs.service.get_block_size.Goals as goal

pub returns-in_err-place : goal.returns-in_err-place
unfolding block_size_answer buffer_of refusals
returns-in_err-place c v =
    let r : c.from_residual-in_err-place.result ≡ Err c.in_err-place.field-0.0 = search rules in
    let ok = tested_lawful _ c.in_ok-test_lawful.ensures in
    let lost = rw c.map_words-words.ensures at c.in_err-place.ensures.refused in
    rw r
    (refused-step _ v (get_block_size _) _
    (row_passes _ _ _ _ ok (sym (place_row _ _ _ (omega (arith, (lawful _ ok).total))) ∙ sym lost)))

pub equal_blocks-requires-clause-in_bounds : goal.equal_blocks-requires-clause-in_bounds
equal_blocks-requires-clause-in_bounds c = (found_entry _ _ _ _ _ _ (sym c.in_ok-place.ensures.found)).0

pub equal_blocks-requires-clause-words_bound : goal.equal_blocks-requires-clause-words_bound
equal_blocks-requires-clause-words_bound c = rw c.map_words-words.ensures (lawful _ (tested_lawful _ c.in_ok-test_lawful.ensures)).blocks

pub overflow_add-count : goal.overflow_add-count
overflow_add-count c =
    let at = sym c.in_ok-place.ensures.found in
    let few = rw (sym c.map_words-words.ensures) at ((lawful _ (tested_lawful _ c.in_ok-test_lawful.ensures)).blocks) in
    omega (arith, c.equal_blocks.ensures, found_number _ _ _ _ _ _ at, number_fits _ _ _ _ _ _ at few)

pub returns : goal.returns
unfolding block_size_answer refusals
returns c v =
    let ok = tested_lawful _ c.in_ok-test_lawful.ensures in
    let there = rw c.map_words-words.ensures at c.in_ok-place.ensures.refused in
    let at = rw c.map_words-words.ensures at c.in_ok-place.ensures.found in
    let count = rw c.map_words-words.ensures at c.equal_blocks.ensures in
    size_step _ v _ _ _ _ _ _
    (row_passes _ _ _ _ ok (row_passes _ _ _ _ (place_there_lem _ _ _ (omega (arith, (lawful _ ok).total)) there) no_row))
    (sym at) (omega (arith, count, found_number _ _ _ _ _ _ (sym at)))
