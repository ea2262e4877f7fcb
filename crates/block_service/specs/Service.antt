-- The block service (document 01, and document 02, g and j): what each of the ten calls answers, and what it leaves in the state, in the volume and in the
-- reader's buffer. A call is decided from the state, the length of the lent volume and its arguments alone; only the effect that was
-- decided on touches bytes.
use Rattle.std.specs.Prelude.{Result as Outcome, Ok, Err, ℕ, ◌+◌, Bool, not, cond, List, [], ◌∷◌, ◌++◌, eqb, leb, ltb, length, take, drop}
use Rattle.common.specs.Answers.{Answer, refused, success, short}
use Rattle.common.specs.Lists.{edit}
use Rattle.common.specs.Refusal.{number}
use Rattle.common.specs.Refusals.{Row, row, first_refusal, unless_refused}
use Rattle.common.specs.declared.refusal.Refusal.{Refusal}
use Rattle.volume.specs.Attributes.{flag, read_status, write_status, memory_mapped}
use Rattle.volume.specs.BlockMap.{blocks}
use Rattle.volume.specs.State.{state_with, map_of, unlawful}
use Rattle.volume.specs.declared.state.State.{State}
use Rattle.block_service.specs.Access.{count_moved, ByteChange, changed_byte, write_change}
use Rattle.block_service.specs.Blocks.{place, start_of, length_of, consecutive_blocks}
use Rattle.block_service.specs.Erase.{good_list, reaches, erase_change}
use Rattle.block_service.specs.Order.{job_given, carry_change, finishes}
use Rattle.settings.specs.Settings.{setting_refusals}
use Rattle.block_service.specs.declared.service.BlockSize.{BlockSize}
use Rattle.block_service.specs.declared.service.Moved
use Rattle.block_service.specs.declared.jobs.Progress

-- the answer that each case of the calls' results stands for
unfoldable pub settings_answer : Outcome ℕ Refusal → Answer
settings_answer (Ok a) = success (a ∷ [])
settings_answer (Err e) = refused (number e)

unfoldable pub address_answer : Outcome ℕ Refusal → Answer
address_answer (Ok a) = success (a ∷ [])
address_answer (Err e) = refused (number e)

unfoldable pub block_size_answer : Outcome BlockSize Refusal → Answer
block_size_answer (Ok size) = success (size.length ∷ size.count ∷ [])
block_size_answer (Err e) = refused (number e)

unfoldable pub moved_answer : Outcome Moved.Moved Refusal → Answer
moved_answer (Ok (Moved.TheVariants.All n)) = success (n ∷ [])
moved_answer (Ok (Moved.TheVariants.Short n)) = short (n ∷ [])
moved_answer (Err e) = refused (number e)

unfoldable pub erased_answer : Outcome Unit Refusal → Answer
erased_answer (Ok done) = success []
erased_answer (Err e) = refused (number e)

unfoldable pub protection_answer : Outcome Unit Refusal → Answer
protection_answer (Ok done) = success []
protection_answer (Err e) = refused (number e)

-- 02, g: acceptance "answers a job"
unfoldable pub accepted_answer : Outcome ℕ Refusal → Answer
accepted_answer (Ok job) = success (job ∷ [])
accepted_answer (Err e) = refused (number e)

-- 02, g: carrying on "answers finished exactly when nothing is left then, otherwise the job as it now stands": success, or short with the job
unfoldable pub progress_answer : Outcome Progress.Progress Refusal → Answer
progress_answer (Ok Progress.TheVariants.Finished) = success []
progress_answer (Ok (Progress.TheVariants.Job job)) = short (job ∷ [])
progress_answer (Err e) = refused (number e)

-- the ten calls with their arguments: a read comes with its buffer, a write with its data, an erase with its list. `protect_blocks` sets the first
-- protected block (document 02, j: the mark). Document 02, g: `accept_erase` accepts an erase list, `carry_erase list job n` carries a job of that list on by n stores
pub data Call : Type 0 where
  get_attributes : Call
  set_attributes : ℕ → Call
  get_physical_address : Call
  get_block_size : ℕ → Call
  read : ℕ → ℕ → List ℕ → Call
  write : ℕ → ℕ → List ℕ → Call
  erase_blocks : List ℕ → Call
  protect_blocks : ℕ → Call
  accept_erase : List ℕ → Call
  carry_erase : List ℕ → ℕ → ℕ → Call

-- the refusals that the calls begin with to which a volume of n bytes is lent, first that applies: 111, then 5, then 15 where the
-- status (reads or writes are enabled) is off
unfoldable pub lent_refusals : State → ℕ → ℕ → List Row
lent_refusals st n status =
    row (unlawful st) 111
    ∷ row (ltb n st.length) 5
    ∷ row (not (flag st.attributes status)) 15
    ∷ []

-- the refusals of a call on a lent volume of n bytes, first that applies: 111, then 5 (calls that are lent the volume), then 15, then 2,
-- except as said for settings; the base address 111, then 3. By 02, j: "15 for a protected block written or anywhere in the erase list, after every 2";
-- setting the first protected block "gives 111, then 2 for raising it, nothing else". By 02, g: "111, 5, 15 and 2 at acceptance as before; carrying on gives
-- 111, 5, 15, then 2 for a bad list or a job that this map and list never give"; 15 for a protected block "at both steps of g) too" (j)
unfoldable pub refusals : State → ℕ → Call → List Row
refusals st n get_attributes = row (unlawful st) 111 ∷ []
refusals st n (set_attributes new) = row (unlawful st) 111 ∷ setting_refusals st.edition st.attributes new
refusals st n get_physical_address = row (unlawful st) 111 ∷ row (not (flag st.attributes memory_mapped)) 3 ∷ []
refusals st n (get_block_size block) = row (unlawful st) 111 ∷ row (leb (blocks (map_of st)) block) 2 ∷ []
refusals st n (read block offset buffer) = lent_refusals st n read_status ++ (row (leb (blocks (map_of st)) block) 2 ∷ [])
refusals st n (write block offset new) =
    lent_refusals st n write_status ++ (row (leb (blocks (map_of st)) block) 2 ∷ row (leb st.protected block) 15 ∷ [])
refusals st n (erase_blocks list) =
    lent_refusals st n write_status ++ (row (not (good_list (blocks (map_of st)) list)) 2 ∷ row (reaches st.protected list) 15 ∷ [])
refusals st n (protect_blocks first) = row (unlawful st) 111 ∷ row (ltb st.protected first) 2 ∷ []
refusals st n (accept_erase list) =
    lent_refusals st n write_status ++ (row (not (good_list (blocks (map_of st)) list)) 2 ∷ row (reaches st.protected list) 15 ∷ [])
refusals st n (carry_erase list job stores) =
    lent_refusals st n write_status
    ++ (row (not (good_list (blocks (map_of st)) list)) 2
    ∷ row (not (job_given (map_of st) list job)) 2
    ∷ row (reaches st.protected list) 15
    ∷ [])

-- what a call does: it only answers; it answers with another state; it copies `count` bytes of the volume from byte `at` on to the start of
-- the reader's buffer; or it changes bytes of the volume, each by its number
pub data Effect : Type 0 where
  reply : Answer → Effect
  set_to : State → Answer → Effect
  copy_out : ℕ → ℕ → Answer → Effect
  change : (ℕ → ByteChange) → Answer → Effect

-- the answer to a move of `count` of n bytes: "success if the count is the whole data length, otherwise 4 (short)"
unfoldable pub move_answer : ℕ → ℕ → Answer
move_answer count n = cond (eqb count n) (success (count ∷ [])) (short (count ∷ []))

-- the state with other attributes
unfoldable pub with_attributes : State → ℕ → State
with_attributes st a = state_with st.guid st.length a st.base st.edition st.protected st.entries st.map

-- the state with another first protected block
unfoldable pub with_protected : State → ℕ → State
with_protected st first = state_with st.guid st.length st.attributes st.base st.edition first st.entries st.map

-- the answer to a carrying on: finished, or the job as it now stands
unfoldable pub carry_answer : Bool → ℕ → Answer
carry_answer finished job = cond finished (success []) (short (job ∷ []))

-- what a call that is not refused does
unfoldable pub effect : State → Call → Effect
effect st get_attributes = reply (success (st.attributes ∷ []))
effect st (set_attributes new) = set_to (with_attributes st new) (success (new ∷ []))
effect st get_physical_address = reply (success (st.base ∷ []))
effect st (get_block_size block) = reply (success (length_of (place (map_of st) block) ∷ consecutive_blocks (map_of st) block ∷ []))
effect st (read block offset buffer) =
    let found = place (map_of st) block in
    let count = count_moved (length_of found) offset (length buffer) in
    copy_out (start_of found + offset) count (move_answer count (length buffer))
effect st (write block offset new) =
    let found = place (map_of st) block in
    let count = count_moved (length_of found) offset (length new) in
    change (write_change (start_of found + offset) count new) (move_answer count (length new))
effect st (erase_blocks list) = change (erase_change (map_of st) list) (success [])
effect st (protect_blocks first) = set_to (with_protected st first) (success [])
effect st (accept_erase list) = reply (success (0 ∷ []))
effect st (carry_erase list job stores) = change (carry_change (map_of st) list job stores) (carry_answer (finishes (map_of st) list job stores) (job + stores))

-- what a call does, from the state, the length of the lent volume and the arguments
unfoldable pub decide : State → ℕ → Call → Effect
decide st n call = unless_refused (λ number. reply (refused number)) (first_refusal (refusals st n call)) (effect st call)

-- the result of a call: the answer, and the state, the volume and the reader's buffer afterwards
pub record Result : Type 0 where
  pub answer : Answer
  pub state : State
  pub volume : List ℕ
  pub buffer : List ℕ

abbrev pub result_of : Answer → State → List ℕ → List ℕ → Result
result_of answer st volume buffer = record { answer = answer; state = st; volume = volume; buffer = buffer }

-- the effect carried out
unfoldable pub perform : State → List ℕ → List ℕ → Effect → Result
perform st volume buffer (reply a) = result_of a st volume buffer
perform st volume buffer (set_to next a) = result_of a next volume buffer
perform st volume buffer (copy_out at count a) = result_of a st volume (take count (drop at volume) ++ drop count buffer)
perform st volume buffer (change f a) =
    result_of a st (edit (λ i old. changed_byte st.attributes (f i) old) 0 volume) buffer

-- the reader's buffer of a call; calls other than a read have none
unfoldable pub buffer_of : Call → List ℕ
buffer_of get_attributes = []
buffer_of (set_attributes new) = []
buffer_of get_physical_address = []
buffer_of (get_block_size block) = []
buffer_of (read block offset buffer) = buffer
buffer_of (write block offset new) = []
buffer_of (erase_blocks list) = []
buffer_of (protect_blocks first) = []
buffer_of (accept_erase list) = []
buffer_of (carry_erase list job stores) = []

-- a call on a state and a volume
unfoldable pub step : State → List ℕ → Call → Result
step st volume call = perform st volume (buffer_of call) (decide st (length volume) call)
