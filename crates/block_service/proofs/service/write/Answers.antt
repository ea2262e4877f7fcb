-- `block_service::service::write` meets its contract: of a state that its first rows do not refuse, it is the write by the state's parts.
use Rattle.std.proofs.Common.{sym}
use Rattle.block_service.proofs.judged.Reaches.{judged_written}
use Rattle.block_service.proofs.service.write.Goals as goal

pub returns : goal.returns
returns c = judged_written _ _ _ _ _ _ _ (sym c.in_ok-write_refusal.ensures) (rw c.map_words.ensures at c.write_judged.ensures)
