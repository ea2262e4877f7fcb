-- `volume::extended_header::entries_fault` meets its contract: what is left of the entries is at fault where the whole is.
use Rattle.std.proofs.Common.{◌≡◌, ◌-◌, ◌≤◌}
use Rattle.volume.specs.ExtendedHeader.{entries_from, entries_faulty}
use Rattle.volume.proofs.extended_header.entries_fault.Given as goal

abbrev pub invariant-loop-at : goal.invariant-loop-at
invariant-loop-at l = (l.at ≤ l.end) × (entries_faulty (entries_from l.s l.from l.end) ≡ entries_faulty (entries_from l.s l.at l.end))

abbrev pub decreases-loop-at : goal.decreases-loop-at
decreases-loop-at l = l.end - l.at
