-- Laws of the calls on volumes, in the form in which the code meets them: bytes too few, and otherwise what the inner call came to.
use Prim.Native.Nat.{ℕ, ◌≤◌, ◌<◌}
use mathlib.Core.Path.{◌≡◌}
use mathlib.Core.List.{List, [], ◌∷◌}
use mathlib.Core.Option.{none, some}
use lib.ListN.{length}
use Rattle.common.specs.Answers.{Answer, number_of, values_of}
use Rattle.common.proofs.Refusals.{no_row}
use Rattle.volume.specs.declared.state.State.{State}
use Rattle.block_service.specs.Service.{result_of, step, read, write}
use Rattle.fv.specs.Answer.{answer_bytes, answer_stored}
use Rattle.fv.specs.Called.{called}
use Rattle.fv.specs.Packed.{unpacked, state_bytes}
use Rattle.fv.specs.VolumeCalls.{open_call, read_call, write_call, erase_call}
use Rattle.fv.proofs.answer.Answers.{few, enough}

-- ---- opening

module _ (state volume : List ℕ) (base : ℕ) where
  pub open_few : length state < state_bytes → called 5 (state ∷ []) ≡ open_call state volume base
  unfolding open_call
  open_few h = rw (few (length state) state_bytes [] h)

-- ---- reads and writes

module _ (state volume : List ℕ) (block offset : ℕ) (buffer answer : List ℕ) where
  pub read_few_state : length state < state_bytes → called 5 (buffer ∷ answer ∷ []) ≡ read_call state volume block offset buffer answer
  unfolding read_call
  read_few_state h = rw (few (length state) state_bytes _ h)

  module _ (long : state_bytes ≤ length state) where
    pub read_few_answer : length answer < answer_bytes → called 5 (buffer ∷ answer ∷ []) ≡ read_call state volume block offset buffer answer
    unfolding read_call
    read_few_answer h = rw (enough (length state) state_bytes _ (some 5) long (few (length answer) answer_bytes [] h))

    pub read_done : answer_bytes ≤ length answer
        → (a : Answer) (st : State) (number : ℕ) (buffer' answer' : List ℕ) → result_of a st volume buffer' ≡ step (unpacked state) volume (read block offset buffer)
        → (number ≡ number_of a) × (answer' ≡ answer_stored (values_of a) answer)
        → called number (buffer' ∷ answer' ∷ []) ≡ read_call state volume block offset buffer answer
    unfolding read_call
    read_done room a st number buffer' answer' is e =
        rw (enough (length state) state_bytes _ none long (enough (length answer) answer_bytes [] none room no_row), ← is, e.0, e.1)

module _ (state volume : List ℕ) (block offset : ℕ) (new answer : List ℕ) where
  pub write_few_state : length state < state_bytes → called 5 (volume ∷ answer ∷ []) ≡ write_call state volume block offset new answer
  unfolding write_call
  write_few_state h = rw (few (length state) state_bytes _ h)

  module _ (long : state_bytes ≤ length state) where
    pub write_few_answer : length answer < answer_bytes → called 5 (volume ∷ answer ∷ []) ≡ write_call state volume block offset new answer
    unfolding write_call
    write_few_answer h = rw (enough (length state) state_bytes _ (some 5) long (few (length answer) answer_bytes [] h))

    pub write_done : answer_bytes ≤ length answer
        → (a : Answer) (st : State) (number : ℕ) (volume' answer' : List ℕ) → result_of a st volume' [] ≡ step (unpacked state) volume (write block offset new)
        → (number ≡ number_of a) × (answer' ≡ answer_stored (values_of a) answer)
        → called number (volume' ∷ answer' ∷ []) ≡ write_call state volume block offset new answer
    unfolding write_call
    write_done room a st number volume' answer' is e =
        rw (enough (length state) state_bytes _ none long (enough (length answer) answer_bytes [] none room no_row), ← is, e.0, e.1)

-- ---- erases

module _ (state volume list : List ℕ) where
  pub erase_few : length state < state_bytes → called 5 (volume ∷ []) ≡ erase_call state volume list
  unfolding erase_call
  erase_few h = rw (few (length state) state_bytes [] h)
