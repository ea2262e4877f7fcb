-- Order i is that of the i-th 32 bytes, where there are so many.
use Prim.Native.Nat.{ℕ}
use mathlib.Core.List.{List}
use mathlib.Core.Path.{◌≡◌, refl, sym, ap, ◌∙◌}
use native.Mathlib.Omega.{arith}
use lib.ListN.{length}
use Rattle.std.specs.Prelude.{Option, Some}
use Rattle.std.specs.List.{slice_get}
use Rattle.std.specs.Option.{option_map}
use Rattle.std.proofs.lemmas.Option.{slice_get_past, slice_get_read}
use Rattle.write_orders.specs.Orders.{order_at, orders_in}
use Rattle.write_orders.specs.declared.Order.{Order}
use Rattle.write_orders.proofs.OrderBytes.{order_found, orders_length}
use Rattle.write_orders.proofs.ByteOrdersOrderList.order.Goals as goal

pub returns-in_err-bytes : goal.returns-in_err-bytes
returns-in_err-bytes c =
    let s = c.args.self.0.now in
    c.from_residual.ensures ∙ sym (slice_get_past (orders_in s) c.args.i (omega (arith, orders_length s, c.in_err-bytes.ensures.lookup.3, c.as_chunks.ensures.front_len)))

pub returns : goal.returns
returns c =
    let chunks = c.as_chunks.result.0.now in
    let at = c.in_ok-bytes.ensures.lookup in
    let here : slice_get chunks c.args.i ≡ Some c.in_ok-bytes.bytes.now = slice_get_read chunks (length chunks) c.args.i c.in_ok-bytes.bytes.now refl at.3.0 at.1 in
    ap (λ (o : Order). Some o) c.order_of.ensures
    ∙ sym (order_found c.args.self.0.now c.args.i ∙ ap (λ (l : List (List ℕ)). option_map (λ (b : List ℕ). order_at b 0) (slice_get l c.args.i)) (sym c.as_chunks.ensures.front) ∙ ap (λ (r : Option (List ℕ)). option_map (λ (b : List ℕ). order_at b 0) r) here)
