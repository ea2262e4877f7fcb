-- `volume::block_map::has_zero` meets its contract: a zero is found or left where the words have one.
use Rattle.std.proofs.Common.{◌≡◌, ◌||◌, drop}
use Rattle.volume.specs.BlockMap.{has_zero}
use Rattle.volume.proofs.block_map.has_zero.Given as goal

abbrev pub invariant-loop-word : goal.invariant-loop-word
invariant-loop-word l = (l.found || has_zero (drop l.word-index l.words)) ≡ has_zero l.words
