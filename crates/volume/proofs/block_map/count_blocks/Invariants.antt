-- `volume::block_map::count_blocks` meets its contract: the blocks counted and those of the entries left make the map's.
use Rattle.std.proofs.Common.{◌≡◌, ◌+◌, ◌*◌, ◌≤◌, drop}
use Rattle.volume.specs.BlockMap.{blocks}
use Rattle.volume.proofs.block_map.count_blocks.Given as goal

abbrev pub invariant-loop-i : goal.invariant-loop-i
invariant-loop-i l = (l.count ≤ 4294967296 * l.i) × (l.count + blocks (drop (2 * l.i) l.words) ≡ blocks l.words)
