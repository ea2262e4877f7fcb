-- Laws of the list of writes from C, in the form in which the code meets them: bytes too few, and otherwise what the inner call came to.
use Prim.Native.Nat.{ℕ, ◌/◌, ◌≤◌, ◌<◌}
use mathlib.Core.Path.{◌≡◌, ap, ◌∙◌}
use mathlib.Core.List.{List, [], ◌∷◌}
use mathlib.Core.Bool.{true}
use mathlib.Core.Option.{none, some}
use native.Mathlib.Omega.{arith}
use lib.ListN.{length}
use Rattle.common.specs.Answers.{refused, success, number_of}
use Rattle.common.proofs.Refusals.{no_row}
use Rattle.volume.specs.State.{unlawful}
use Rattle.block_service.specs.Service.{Result}
use Rattle.write_orders.specs.Orders.{Batch, batch, order_bytes, write_orders, orders_in}
use Rattle.write_orders.specs.declared.Order.{Order}
use Rattle.write_orders.proofs.OrderBytes.{orders_length}
use Rattle.write_orders.proofs.Theorems.{too_many, empty_list, order_111, first_refused}
use Rattle.fv.specs.Answer.{answer_bytes, last_count, two_stored}
use Rattle.fv.specs.Called.{called}
use Rattle.fv.specs.OrderCalls.{write_list_call}
use Rattle.fv.specs.Packed.{unpacked, state_bytes}
use Rattle.fv.proofs.answer.Answers.{few, enough}

module _ (state volume orders source answer : List ℕ) where
  pub list_few_state : length state < state_bytes → called 5 (volume ∷ answer ∷ []) ≡ write_list_call state volume orders source answer
  unfolding write_list_call
  list_few_state h = rw (few (length state) state_bytes _ h)

  module _ (long : state_bytes ≤ length state) where
    pub list_few_answer : length answer < answer_bytes → called 5 (volume ∷ answer ∷ []) ≡ write_list_call state volume orders source answer
    unfolding write_list_call
    list_few_answer h = rw (enough (length state) state_bytes _ (some 5) long (few (length answer) answer_bytes [] h))

    -- what comes before the first order's turn, and 111 there
    module _ (room : answer_bytes ≤ length answer) where
      inner : (b : Batch) → write_orders (unpacked state) source volume (orders_in orders) ≡ b
          → write_list_call state volume orders source answer ≡ called (number_of b.last) (b.volume ∷ two_stored b.count (last_count b.last) answer ∷ [])
      unfolding write_list_call
      inner b e = rw (enough (length state) state_bytes _ none long (enough (length answer) answer_bytes [] none room no_row), e)

      pub list_many : 64 < length orders / order_bytes → write_list_call state volume orders source answer ≡ called 2 (volume ∷ two_stored 0 0 answer ∷ [])
      unfolding number_of last_count
      list_many h = inner (batch 0 (refused 2) volume) (too_many (unpacked state) source volume (orders_in orders) (rw (orders_length orders) h))

      pub list_empty : length orders < order_bytes → write_list_call state volume orders source answer ≡ called 0 (volume ∷ two_stored 0 0 answer ∷ [])
      unfolding number_of last_count
      list_empty h = inner (batch 0 (success (0 ∷ [])) volume) (none_of (orders_in orders) (let z : length orders / order_bytes ≡ 0 = omega arith in orders_length orders ∙ z))
        where
          none_of : (os : List Order) → length os ≡ 0 → write_orders (unpacked state) source volume os ≡ batch 0 (success (0 ∷ [])) volume
          none_of [] e = empty_list (unpacked state) source volume
          none_of (o ∷ os) e = absurd (omega arith)

      pub list_111 : order_bytes ≤ length orders → length orders / order_bytes ≤ 64 → unlawful (unpacked state) ≡ true
          → write_list_call state volume orders source answer ≡ called 111 (volume ∷ two_stored 0 0 answer ∷ [])
      unfolding number_of last_count
      list_111 one few e =
          let z : 0 < length orders / order_bytes = omega arith in
          inner (batch 0 (refused 111) volume) (at_first (orders_in orders) (rw (orders_length orders) z) (rw (orders_length orders) few))
        where
          at_first : (os : List Order) → 0 < length os → length os ≤ 64 → write_orders (unpacked state) source volume os ≡ batch 0 (refused 111) volume
          at_first [] h few = absurd (omega arith)
          at_first (o ∷ os) h few = first_refused (unpacked state) source volume o os few 111 (ap (λ (r : Result). r.answer) (order_111 (unpacked state) source volume o e))
