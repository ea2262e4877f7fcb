-- Laws of accepting and of carrying on from C, in the form in which the code meets them: bytes too few, and otherwise what the inner call came to.
use Prim.Native.Nat.{ℕ, ◌≤◌, ◌<◌}
use mathlib.Core.Path.{◌≡◌, ap, ◌∙◌}
use mathlib.Core.List.{List, [], ◌∷◌, ◌++◌}
use mathlib.Core.Option.{none, some}
use native.Mathlib.Nat.{zero-add}
use native.Mathlib.Omega.{arith}
use lib.ListN.{length, drop, length-append}
use lib.Seq.{sets, sets-eq}
use Rattle.common.specs.Answers.{refused, success, number_of, values_of}
use Rattle.common.proofs.Refusals.{no_row}
use Rattle.numbers.specs.LittleEndian.{le_bytes}
use Rattle.numbers.proofs.LittleEndian.{le-le_bytes, length-le_bytes}
use Rattle.block_service.specs.Erase.{list_words}
use Rattle.block_service.specs.Service.{Result, buffer_of, result_of, step, erase_blocks, accept_erase, carry_erase}
use Rattle.block_service.proofs.Theorems.{accept_as_erase, order_within, refused_changes_nothing, two_operations}
use Rattle.fv.specs.Called.{called}
use Rattle.fv.specs.JobCalls.{job_bytes, job_in, job_stored, accept_call, carry_call}
use Rattle.fv.specs.Packed.{unpacked, state_bytes}
use Rattle.fv.specs.VolumeCalls.{erase_call}
use Rattle.fv.proofs.answer.Answers.{few, enough}

-- a number stored at the start of the job's bytes
pub job_stored_lem : (job : List ℕ) (x : ℕ) {after : List ℕ} → job_bytes ≤ length job → after ≡ sets job 0 (le_bytes job_bytes x) → after ≡ le_bytes job_bytes x ++ drop job_bytes job
job_stored_lem job x h e =
    let n = length-le_bytes job_bytes x in
    e ∙ sets-eq (le_bytes job_bytes x) job 0 (omega arith) ∙ rw (zero-add, n)

-- ---- accepting

module _ (state volume list job : List ℕ) where
  pub accept_few_state : length state < state_bytes → called 5 (job ∷ []) ≡ accept_call state volume list job
  unfolding accept_call
  accept_few_state h = rw (few (length state) state_bytes _ h)

  module _ (long : state_bytes ≤ length state) where
    pub accept_few_job : length job < job_bytes → called 5 (job ∷ []) ≡ accept_call state volume list job
    unfolding accept_call
    accept_few_job h = rw (enough (length state) state_bytes _ (some 5) long (few (length job) job_bytes [] h))

-- ---- carrying on

module _ (state volume list job : List ℕ) (stores : ℕ) where
  pub carry_few_state : length state < state_bytes → called 5 (volume ∷ job ∷ []) ≡ carry_call state volume list job stores
  unfolding carry_call
  carry_few_state h = rw (few (length state) state_bytes _ h)

  module _ (long : state_bytes ≤ length state) where
    pub carry_few_job : length job < job_bytes → called 5 (volume ∷ job ∷ []) ≡ carry_call state volume list job stores
    unfolding carry_call
    carry_few_job h = rw (enough (length state) state_bytes _ (some 5) long (few (length job) job_bytes [] h))

-- ---- both, one after the other

-- where the erase succeeds: the job 0 is stored, and carrying it on to the end leaves what the erase leaves
pub two_calls : (state v list job : List ℕ) (stores : ℕ) → state_bytes ≤ length state → job_bytes ≤ length job → length v ≤ stores
    → (step (unpacked state) v (erase_blocks (list_words list))).answer ≡ success []
    → let kept = le_bytes job_bytes 0 ++ drop job_bytes job in
    (accept_call state v list job ≡ called 0 (kept ∷ [])) × (carry_call state v list kept stores ≡ called 0 ((step (unpacked state) v (erase_blocks (list_words list))).volume ∷ kept ∷ []))
unfolding accept_call carry_call number_of values_of job_stored
two_calls state v list job stores long room enough-stores e =
    let st = unpacked state in
    let words = list_words list in
    let kept : List ℕ = le_bytes job_bytes 0 ++ drop job_bytes job in
    let accepted : step st v (accept_erase words) ≡ result_of (success (0 ∷ [])) st v [] = (accept_as_erase st v words).0 e in
    let answer : (step st v (accept_erase words)).answer ≡ success (0 ∷ []) = ap (λ (r : Result). r.answer) accepted in
    let whole = order_within st v words (0 ∷ []) answer in
    let carried = (two_operations st v words stores (omega arith)).1 0 answer in
    let same : step st v (carry_erase words 0 stores) ≡ step st v (erase_blocks words) = rw accepted at carried in
    let fits : job_bytes ≤ length kept = rw (length-append (le_bytes job_bytes 0) (drop job_bytes job)) (omega (arith, length-le_bytes job_bytes 0)) in
    let zero : job_in kept ≡ 0 = le-le_bytes 8 0 (drop job_bytes job) (omega arith) in (
      rw (enough (length state) state_bytes _ none long (enough (length job) job_bytes [] none room no_row), accepted),
      rw (enough (length state) state_bytes _ none long (enough (length kept) job_bytes [] none fits no_row), zero, same, e),
    )

-- where it is refused, so is the acceptance
pub two_refused : (state v list job : List ℕ) → state_bytes ≤ length state → job_bytes ≤ length job → (n : ℕ)
    → (step (unpacked state) v (erase_blocks (list_words list))).answer ≡ refused n → (erase_call state v list ≡ called n (v ∷ [])) × (accept_call state v list job ≡ called n (job ∷ []))
unfolding erase_call accept_call buffer_of number_of values_of job_stored
two_refused state v list job long room n e =
    let st = unpacked state in
    let words = list_words list in (
      rw (enough (length state) state_bytes [] none long no_row, refused_changes_nothing st v (erase_blocks words) n e),
      rw (enough (length state) state_bytes _ none long (enough (length job) job_bytes [] none room no_row), (accept_as_erase st v words).1 n e),
    )
