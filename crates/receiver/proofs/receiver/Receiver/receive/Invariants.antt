-- `Receiver::receive` meets its contract. The loop's invariant: with the bytes still to come the receiver comes to the same.
use Rattle.std.proofs.Common.{◌≡◌, true, length}
use Rattle.receiver.specs.Receiver.{receiver_of, fed, sound}
use Rattle.receiver.proofs.receiver.Receiver.receive.Given as goal

abbrev pub invariant-loop-rest : goal.invariant-loop-rest
invariant-loop-rest l = record {
  whole : sound (receiver_of l.self) ≡ true;
  same : fed (receiver_of l.self) l.rest ≡ fed (receiver_of l.initial.self) l.initial.rest;
}

abbrev pub decreases-loop-rest : goal.decreases-loop-rest
decreases-loop-rest l = length l.rest
