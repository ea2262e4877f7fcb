-- A stretch that leaves the data, or the write of one that does not.
use mathlib.Core.Logic.{inl, inr}
use native.Mathlib.Omega.{arith}
use Rattle.block_service.specs.Service.{moved_answer}
use Rattle.write_orders.proofs.Turns.{bad_stretch, data_rest, good_stretch}
use Rattle.write_orders.proofs.write_order.Goals as goal

pub returns-in_default : goal.returns-in_default
unfolding moved_answer
returns-in_default c = bad_stretch _ _ c.args.order _ c.requires (elim c.in_default.ensures.lookup.0 [ inl h ↦ omega arith | inr h ↦ absurd (omega arith) ])

pub returns-then-rest-order : goal.returns-then-rest-order
unfolding moved_answer
returns-then-rest-order c = bad_stretch _ _ c.args.order _ c.requires (omega (arith, c.in-Some.ensures.lookup.0, c.if-rest-order.true))

pub returns : goal.returns
returns c =
    let rest = c.in-Some.ensures.lookup.0 in
    good_stretch _ _ c.args.order _ c.requires _ _ (omega (arith, rest, c.if-rest-order.false))
    (rw (c.map_words.ensures, rest.2, data_rest _ _ rest.0) at c.write_judged.ensures)
