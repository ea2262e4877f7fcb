-- `volume::header::read_map` meets its contract: the words stored so far and those left make the map, and what stood beyond them stays.
use Rattle.std.proofs.Common.{◌≡◌, ◌*◌, ◌++◌, length, take, drop}
use Rattle.volume.specs.Header.{map_start, words_at}
use Rattle.volume.proofs.header.read_map.Given as goal

abbrev pub invariant-loop-i : goal.invariant-loop-i
invariant-loop-i l =
    (length l.map ≡ length l.initial.map) × (drop l.i l.map ≡ drop l.i l.initial.map) × (take l.i l.map ++ drop l.i (words_at (2 * l.n) l.s map_start) ≡ words_at (2 * l.n) l.s map_start)
