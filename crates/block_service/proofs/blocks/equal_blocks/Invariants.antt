-- `block_service::blocks::equal_blocks` meets its contract: the blocks counted and those that the rest of the entries begin with are all of them.
use Rattle.std.proofs.Common.{◌≡◌, ◌+◌, ◌*◌, drop}
use Rattle.block_service.specs.Blocks.{equal_blocks}
use Rattle.block_service.proofs.blocks.equal_blocks.Given as goal

abbrev pub invariant-loop-i : goal.invariant-loop-i
invariant-loop-i l = l.count + equal_blocks (drop (2 * l.i) l.words) l.place.len ≡ equal_blocks (drop (2 * (l.place.entry + 1)) l.words) l.place.len
