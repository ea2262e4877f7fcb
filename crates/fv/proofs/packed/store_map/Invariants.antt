-- `fv::packed::store_map` meets its contract: what is left of the map's bytes to store makes the same as the whole.
use Rattle.std.proofs.Common.{◌≡◌, ◌+◌, ◌*◌, [], ◌++◌, drop}
use Rattle.std.proofs.lemmas.List.Edits.{sets}
use Rattle.volume.specs.HeaderWriter.{words_bytes}
use Rattle.fv.proofs.packed.store_map.Given as goal

abbrev pub invariant-loop-i : goal.invariant-loop-i
invariant-loop-i l = sets l.initial.s 48 (words_bytes l.map ++ []) ≡ sets l.s (48 + 4 * l.i) (words_bytes (drop l.i l.map) ++ [])
