-- `volume::extended_entry::entry_from` meets its contract: the entry asked among all is the one of the number left among those left.
use Rattle.std.proofs.Common.{◌≡◌, ◌-◌, ◌≤◌, false}
use Rattle.volume.specs.ExtendedHeader.{entries_from, entries_faulty}
use Rattle.volume.specs.ExtendedEntry.{entry_of, entries_listed}
use Rattle.volume.proofs.extended_entry.entry_from.Given as goal

abbrev pub invariant-loop-at : goal.invariant-loop-at
invariant-loop-at l =
    (l.at ≤ l.end) × (entries_faulty (entries_from l.s l.at l.end) ≡ false) × (entry_of (entries_listed (entries_from l.s l.from l.end)) l.number ≡ entry_of (entries_listed (entries_from l.s l.at l.end)) l.left)

abbrev pub decreases-loop-at : goal.decreases-loop-at
decreases-loop-at l = l.end - l.at
