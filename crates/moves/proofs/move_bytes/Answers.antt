-- `moves::move_bytes` meets its contract.
use Rattle.moves.proofs.Moved.{moved_min}
use Rattle.moves.proofs.move_bytes.Goals as goal

pub returns : goal.returns
returns c = moved_min c.args.src.now c.args.dst.now c.min-n.result c.min-n.ensures c.copy_from_slice.ensures.after
