-- `numbers::store` meets its contract: what is left to store makes the same list as the whole.
use Rattle.std.proofs.Common.{◌≡◌, ◌+◌, ◌-◌, length}
use Rattle.std.proofs.lemmas.List.Edits.{sets}
use Rattle.numbers.specs.LittleEndian.{le_bytes}
use Rattle.numbers.proofs.store.Given as goal

abbrev pub invariant-loop-i : goal.invariant-loop-i
invariant-loop-i l =
    (length l.s ≡ length l.initial.s)
    × (sets l.initial.s l.at (le_bytes l.width l.x) ≡ sets l.s (l.at + l.i) (le_bytes (l.width - l.i) l.rest))
