-- `block_service::service::read` meets its contract: the rows of the table, and then the bytes moved.
use Rattle.std.proofs.Common.{◌≡◌, Err, sym, ap, rules}
use Rattle.block_service.specs.Blocks.{start_of, length_of}
use Rattle.block_service.specs.Service.{moved_answer}
use Rattle.block_service.proofs.service.Steps.{read_lost, read_found, read_step}
use Rattle.block_service.proofs.service.read.Goals as goal

pub returns-in_err-place : goal.returns-in_err-place
unfolding moved_answer
returns-in_err-place c =
    let r : c.from_residual-in_err-place.result ≡ Err c.in_err-place.field-0.0 = search rules in
    rw r (read_lost _ _ _ _ _ _ (sym c.in_ok-test_lent.ensures) (rw c.map_words.ensures at c.in_err-place.ensures.refused))

pub returns : goal.returns
unfolding start_of length_of
returns c =
    let at = rw c.map_words.ensures at c.in_ok-place.ensures.found in
    read_step _ _ _ _ _ _ _ _ _ _
    (read_found _ _ _ _ _ (sym c.in_ok-test_lent.ensures) (rw c.map_words.ensures at c.in_ok-place.ensures.refused))
    (ap start_of at) (ap length_of at) c.count_moved-count.ensures c.move_answer.ensures c.load.ensures
