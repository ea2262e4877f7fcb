-- `block_service::access::store` meets its contract: only the stretch is lent on, and the rest is handed back as it was.
use Rattle.std.proofs.Common.{arith}
use Rattle.block_service.proofs.access.Moves.{write_none, write_back}
use Rattle.block_service.proofs.access.store.Goals as goal

pub returns-then-count-eq0 : goal.returns-then-count-eq0
returns-then-count-eq0 c = write_none _ _ _ _ _ c.if-count-eq0.true

pub returns : goal.returns
returns c = write_back _ _ _ _ _ _ (c.requires.count_in_bounds_2 (omega arith)) c.requires.count_in_bounds c.write_part.ensures
