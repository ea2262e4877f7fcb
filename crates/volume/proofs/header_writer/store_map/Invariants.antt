-- `volume::header_writer::store_map` meets its contract: what is left of the map's bytes to store makes the same room as the whole.
use Rattle.std.proofs.Common.{◌≡◌, ◌+◌, ◌*◌, ◌++◌, drop, replicate}
use lib.Seq.{sets}
use Rattle.volume.specs.HeaderWriter.{words_bytes}
use Rattle.volume.proofs.header_writer.store_map.Given as goal

abbrev pub invariant-loop-i : goal.invariant-loop-i
invariant-loop-i l = sets l.initial.room 56 (words_bytes l.map ++ replicate 8 0) ≡ sets l.room (56 + 4 * l.i) (words_bytes (drop l.i l.map) ++ replicate 8 0)
