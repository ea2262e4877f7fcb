-- What is left after `i` orders that succeeded, of which the last answered `last`, is what the list is.
use Rattle.block_service.specs.Service.{moved_answer}
use Rattle.write_orders.proofs.Carried.{Left}
use Rattle.write_orders.proofs.write_orders.Given as goal

abbrev pub invariant-loop-i : goal.invariant-loop-i
invariant-loop-i g l = Left l.state l.source l.initial.volume (g.L.OrderList.orders l.orders) l.i (moved_answer l.last) l.volume
