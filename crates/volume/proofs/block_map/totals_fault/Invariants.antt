-- `volume::block_map::totals_fault` meets its contract: the totals so far and those of the entries left make the map's, and no word so far is zero.
use Rattle.std.proofs.Common.{◌≡◌, ◌+◌, ◌*◌, ◌≤◌, drop}
use Rattle.volume.specs.BlockMap.{max_length, blocks, bytes, has_zero}
use Rattle.volume.proofs.block_map.totals_fault.Given as goal

abbrev pub invariant-loop-i : goal.invariant-loop-i
invariant-loop-i l =
    (l.blocks_so_far ≤ 4294967296 * l.i) × (l.bytes_so_far ≤ max_length * l.i)
    × (l.blocks_so_far + blocks (drop (2 * l.i) l.words) ≡ blocks l.words)
    × (l.bytes_so_far + bytes (drop (2 * l.i) l.words) ≡ bytes l.words)
    × (has_zero (drop (2 * l.i) l.words) ≡ has_zero l.words)
