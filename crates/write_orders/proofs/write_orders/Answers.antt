-- The list is carried out order by order.
use mathlib.Core.Path.{◌≡◌, sym, ◌∙◌}
use native.Mathlib.Omega.{arith}
use Rattle.std.proofs.lemmas.Grind.{common_steps}
use Rattle.std.proofs.lemmas.Option.{gets}
use Rattle.block_service.specs.Service.{moved_answer}
use Rattle.write_orders.specs.Orders.{written_of}
use Rattle.write_orders.proofs.Carried.{not_begun, begins, ended, goes_on}
use Rattle.write_orders.proofs.Lists.{too_many}
use Rattle.write_orders.proofs.write_orders.Goals as goal

pub returns-then-n-gt-MOST_ORDERS : goal.returns-then-n-gt-MOST_ORDERS
unfolding written_of moved_answer
returns-then-n-gt-MOST_ORDERS g c = sym (too_many _ _ _ (g.L.OrderList.orders c.args.orders) (omega (arith, c.len-n.ensures)))

pub returns-then-n-eq0 : goal.returns-then-n-eq0
unfolding written_of moved_answer
returns-then-n-eq0 g c =
    ended _ _ _ (g.L.OrderList.orders c.args.orders) 0 _ _ (omega (arith, c.len-n.ensures)) (begins _ _ _ _ (omega (arith, c.len-n.ensures)))

pub returns-in-Err : goal.returns-in-Err
unfolding written_of moved_answer
returns-in-Err g c =
    not_begun _ _ _ (g.L.OrderList.orders c.args.orders) _ (omega (arith, c.len-n.ensures)) (λ z. c.if-n-eq0.false (c.len-n.ensures ∙ z)) c.in-Err.ensures

pub loop-i-init : goal.loop-i-init
unfolding moved_answer
loop-i-init g c = begins _ _ _ (g.L.OrderList.orders c.args.orders) (omega (arith, c.len-n.ensures))

pub unwrap-order-requires : goal.unwrap-order-requires
unwrap-order-requires g c = grind (arith, common_steps, gets, c.order.ensures, c.len-n.ensures)

pub loop-i-preserved : goal.loop-i-preserved
loop-i-preserved g c =
    goes_on _ _ _ (g.L.OrderList.orders c.args.orders) _ _ _ _ _ _ (sym c.unwrap-order.ensures ∙ c.order.ensures) c.loop-i.invariant c.write_order-last.ensures
    (sym c.succeeded.ensures ∙ c.if-not-succeeded.false) c.write_order-last.auto.volume

pub returns : goal.returns
unfolding written_of
returns g c =
    let all : c.len-n.result ≡ c.loop-i.i = omega (arith, c.loop-i.auto.i-end) in
    rw all (ended _ _ _ (g.L.OrderList.orders c.args.orders) c.loop-i.i _ _ (omega (arith, c.len-n.ensures)) c.loop-i.invariant)
