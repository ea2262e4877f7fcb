-- The three calls' contracts, one after the other.
use mathlib.Core.Path.{◌≡◌}
use borrow.Author.Rules.{rules}
use Rattle.std.specs.Prelude.{Err}
use Rattle.volume.specs.Header.{opening_of}
use Rattle.block_service.specs.Service.{erased_answer, moved_answer}
use Rattle.example.proofs.Chain.{open_refused, erase_refused, mask_written}
use Rattle.example.proofs.put_mask.Goals as goal

pub returns-in_err-state : goal.returns-in_err-state
unfolding opening_of moved_answer
returns-in_err-state c =
    let r : c.from_residual.result ≡ Err c.in_err-state.field-0.0 = search rules in
    rw r (open_refused _ _ _ _ _ c.in_err-state.ensures)

pub returns-in_err-erase_blocks : goal.returns-in_err-erase_blocks
unfolding opening_of erased_answer moved_answer
returns-in_err-erase_blocks c =
    let r : c.from_residual-in_err-erase_blocks.result ≡ Err c.in_err-erase_blocks.field-0.0 = search rules in
    rw r (erase_refused _ _ _ _ _ _ c.in_ok-state.ensures _ c.in_err-erase_blocks.ensures)

pub returns : goal.returns
unfolding opening_of erased_answer
returns c = mask_written _ _ _ _ _ _ c.in_ok-state.ensures c.in_ok-erase_blocks.ensures _ _ c.write.ensures
