-- The erase in two operations, from C (document 02, g): each is the inner call over the unpacked state, after 5 for state or job bytes too few; the list comes as bytes,
-- as an erase's does. A job is one 64-bit number in 8 bytes that the caller lends, and may keep over a reboot.
use Rattle.std.specs.Prelude.{ℕ, List, [], ◌∷◌, ◌++◌, ltb, length, drop}
use Rattle.common.specs.Answers.{number_of, values_of}
use Rattle.common.specs.Refusals.{Row, row, first_refusal, unless_refused}
use Rattle.numbers.specs.LittleEndian.{le, le_bytes}
use Rattle.block_service.specs.Erase.{list_words}
use Rattle.block_service.specs.Service.{accept_erase, carry_erase, step}
use Rattle.fv.specs.Called.{Called, called}
use Rattle.fv.specs.Packed.{few_state, unpacked}

-- the bytes of a job
abbrev pub job_bytes : ℕ
job_bytes = 8

-- 5 for job bytes too few
abbrev pub few_job : (job : List ℕ) → Row
few_job job = row (ltb (length job) job_bytes) 5

-- the job that bytes hold
abbrev pub job_in : (job : List ℕ) → ℕ
job_in job = le job_bytes job 0

-- the job that was answered, stored at the start of the bytes; where none was (finished, or a refusal) they stay
unfoldable pub job_stored : (values job : List ℕ) → List ℕ
job_stored [] job = job
job_stored (x ∷ rest) job = le_bytes job_bytes x ++ drop job_bytes job

-- accepting a list: the number, and the job
unfoldable pub accept_call : (state volume list job : List ℕ) → Called
accept_call state volume list job =
    let result = step (unpacked state) volume (accept_erase (list_words list)) in
    unless_refused (λ n. called n (job ∷ [])) (first_refusal (few_state state ∷ few_job job ∷ []))
    (called (number_of result.answer) (job_stored (values_of result.answer) job ∷ []))

-- carrying the job on by so many byte stores: the number, 0 for finished and 4 where some are left, the volume, and the job as it now stands
unfoldable pub carry_call : (state volume list job : List ℕ) → (stores : ℕ) → Called
carry_call state volume list job stores =
    let result = step (unpacked state) volume (carry_erase (list_words list) (job_in job) stores) in
    unless_refused (λ n. called n (volume ∷ job ∷ [])) (first_refusal (few_state state ∷ few_job job ∷ []))
    (called (number_of result.answer) (result.volume ∷ job_stored (values_of result.answer) job ∷ []))
