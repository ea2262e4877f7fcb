-- Many writes in one call, from C (document 02, e): the inner call over the unpacked state, after "5 for state or answer bytes too few" (02, m). The orders come as bytes, 32 to an
-- order. What the inner call refuses before 111 comes before 111 here too: 2 for more than sixty-four orders, and the empty list, which succeeds.
use Rattle.std.specs.Prelude.{List, [], ◌∷◌, ℕ}
use Rattle.common.specs.Answers.{number_of}
use Rattle.common.specs.Refusals.{first_refusal, unless_refused}
use Rattle.write_orders.specs.Orders.{write_orders, orders_in}
use Rattle.fv.specs.Answer.{few_answer, last_count, two_stored}
use Rattle.fv.specs.Called.{Called, called}
use Rattle.fv.specs.Packed.{few_state, unpacked}

-- a list of writes: "we get the number that succeeded and the last answer". The last answer's number, the volume, and how many succeeded and the last one's count
unfoldable pub write_list_call : (state volume orders source answer : List ℕ) → Called
write_list_call state volume orders source answer =
    let written = write_orders (unpacked state) source volume (orders_in orders) in
    unless_refused (λ n. called n (volume ∷ answer ∷ [])) (first_refusal (few_state state ∷ few_answer answer ∷ []))
    (called (number_of written.last) (written.volume ∷ two_stored written.count (last_count written.last) answer ∷ []))
