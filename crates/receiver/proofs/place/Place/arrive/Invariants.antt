-- `Place::arrive` meets its contract. The loop's invariant: from the stream that it came out to, what comes next is the same.
use Rattle.std.proofs.Common.{◌≡◌, ◌≤◌}
use Rattle.receiver.specs.Place.{onwards, place_of}
use Rattle.receiver.proofs.place.Place.arrive.Given as goal

abbrev pub invariant-loop-self : goal.invariant-loop-self
invariant-loop-self l = record { depth : l.self.depth ≤ 8; same : onwards (place_of l.self) ≡ onwards (place_of l.initial.self) }

abbrev pub decreases-loop-self : goal.decreases-loop-self
decreases-loop-self l = l.self.depth
