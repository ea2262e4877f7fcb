-- Runs of block service calls (document 00, demand 3; document 01, "Demand 3's list of calls", and document 02, g and j): any number of the ten calls, in any
-- order, each taking the state and the volume bytes that the one before left. A run's step is `step`, which the calls' contracts cite.
use Rattle.std.specs.Prelude.{ℕ, ◌≡◌, Bool, true, false, not, cond, ◌&&◌, ◌||◌, List, [], ◌∷◌, ◌++◌, T, eqb, length, get_or}
use Rattle.common.specs.Answers.{Answer, refused, success, short}
use Rattle.block_service.specs.Blocks.{in_block}
use Rattle.block_service.specs.Erase.{names}
use Rattle.block_service.specs.Service.{Call, get_attributes, set_attributes, get_physical_address, get_block_size, read, write, erase_blocks, protect_blocks, accept_erase, carry_erase, Result, step}
use Rattle.volume.specs.State.{map_of}
use Rattle.volume.specs.declared.state.State.{State}

-- what is left after a run: the state and the volume
pub record After : Type 0 where
  pub state : State
  pub volume : List ℕ

unfoldable pub run : State → List ℕ → List Call → After
run st v [] = record { state = st; volume = v }
run st v (call ∷ calls) = let r = step st v call in run r.state r.volume calls

-- what is equal for both after every call: "the answer, the count, every other value answered, the state, and a read's whole buffer,
-- bytes after the count too"
pub record Seen : Type 0 where
  pub answer : Answer
  pub state : State
  pub buffer : List ℕ

-- what is seen of each call of a run, in order
unfoldable pub seen : State → List ℕ → List Call → List Seen
seen st v [] = []
seen st v (call ∷ calls) =
    let r = step st v call in
    record { answer = r.answer; state = r.state; buffer = r.buffer } ∷ seen r.state r.volume calls

-- an answer is success; an answer is success or short
unfoldable pub is_success : Answer → Bool
is_success (refused n) = false
is_success (success values) = true
is_success (short values) = false

unfoldable pub is_moved : Answer → Bool
is_moved (refused n) = false
is_moved (success values) = true
is_moved (short values) = true

-- the call is an erase that names block b ("an erase names the blocks that its pairs before the terminator cover")
unfoldable pub names_block : Call → ℕ → Bool
names_block get_attributes b = false
names_block (set_attributes new) b = false
names_block get_physical_address b = false
names_block (get_block_size block) b = false
names_block (read block offset buffer) b = false
names_block (write block offset new) b = false
names_block (erase_blocks list) b = names list b
names_block (protect_blocks first) b = false
names_block (accept_erase list) b = false
names_block (carry_erase list job n) b = false

-- ---- jobs in runs (02, g)

-- two lists of words are the same
unfoldable pub same_list : List ℕ → List ℕ → Bool
same_list [] [] = true
same_list [] (y ∷ b) = false
same_list (x ∷ a) [] = false
same_list (x ∷ a) (y ∷ b) = eqb x y && same_list a b

-- the call is a carrying on that "took the accepted list and the job last answered"
unfoldable pub carries_on : List ℕ → ℕ → Call → Bool
carries_on list job get_attributes = false
carries_on list job (set_attributes new) = false
carries_on list job get_physical_address = false
carries_on list job (get_block_size block) = false
carries_on list job (read block offset buffer) = false
carries_on list job (write block offset new) = false
carries_on list job (erase_blocks other) = false
carries_on list job (protect_blocks first) = false
carries_on list job (accept_erase other) = false
carries_on list job (carry_erase other at n) = same_list other list && eqb at job

-- the call is a carrying on that took another list or another job
unfoldable pub carries_other : List ℕ → ℕ → Call → Bool
carries_other list job get_attributes = false
carries_other list job (set_attributes new) = false
carries_other list job get_physical_address = false
carries_other list job (get_block_size block) = false
carries_other list job (read block offset buffer) = false
carries_other list job (write block offset new) = false
carries_other list job (erase_blocks other) = false
carries_other list job (protect_blocks first) = false
carries_other list job (accept_erase other) = false
carries_other list job (carry_erase other at n) = not (same_list other list && eqb at job)

-- "write to the volume": one that was not refused, also of no bytes
unfoldable pub wrote_to : Call → Answer → Bool
wrote_to get_attributes a = false
wrote_to (set_attributes new) a = false
wrote_to get_physical_address a = false
wrote_to (get_block_size block) a = false
wrote_to (read block offset buffer) a = false
wrote_to (write block offset new) a = is_moved a
wrote_to (erase_blocks other) a = false
wrote_to (protect_blocks first) a = false
wrote_to (accept_erase other) a = false
wrote_to (carry_erase other at n) a = false

-- a rule of what breaks an open job: of the accepted list, the job last answered, the state before a call, the call and its result
abbrev pub Breaks : Type 0
Breaks = List ℕ → ℕ → State → Call → Result → Bool

-- "A job is unbroken while, in one run, each carrying on took the accepted list and the job last answered, from acceptance on": broken by any other carrying on
unfoldable pub strayed : Breaks
strayed list job st call r = carries_other list job call

-- "when its unbroken job has answered finished and no write to the volume or change of settings came while it was open": broken by these too
unfoldable pub touched : Breaks
touched list job st call r = carries_other list job call || (wrote_to call r.answer || not (eqb r.state.attributes st.attributes))

-- nothing breaks a job: the widest of these rules, since what counts as erased by any of them counts by it (`erased-never`, proofs/Theorems)
unfoldable pub never : Breaks
never list job st call r = false

-- how a job stands: it is open, with the job last answered; it has answered finished; or there is none, because it was broken before that or never accepted
pub data Standing : Type 0 where
  pending : ℕ → Standing
  finished : Standing
  broken : Standing

-- what an acceptance answers
unfoldable pub accepted : Answer → Standing
accepted (refused n) = broken
accepted (success []) = broken
accepted (success (job ∷ rest)) = pending job
accepted (short values) = broken

-- what a carrying on of an open job answers: "finished .., otherwise the job as it now stands"; one that is refused answers no job
unfoldable pub answered : ℕ → Answer → Standing
answered job (refused n) = pending job
answered job (success values) = finished
answered job (short []) = broken
answered job (short (next ∷ rest)) = pending next

-- a job of this list after a call
unfoldable pub after : Breaks → List ℕ → Standing → State → Call → Result → Standing
after breaks list finished st call r = finished
after breaks list broken st call r = broken
after breaks list (pending job) st call r =
    cond (breaks list job st call r) broken (cond (carries_on list job call) (answered job r.answer) (pending job))

-- a job of this list, that stands so before a run, after it
unfoldable pub standing : Breaks → List ℕ → Standing → State → List ℕ → List Call → Standing
standing breaks list s st v [] = s
standing breaks list s st v (call ∷ calls) = let r = step st v call in standing breaks list (after breaks list s st call r) r.state r.volume calls

-- the job has answered finished
unfoldable pub is_finished : Standing → Bool
is_finished (pending job) = false
is_finished finished = true
is_finished broken = false

-- the call, with this answer, accepted a list that names block b, and its job has answered finished by the end of the calls after it
unfoldable pub job_erases : Breaks → Call → Answer → State → List ℕ → List Call → ℕ → Bool
job_erases breaks get_attributes a st v calls b = false
job_erases breaks (set_attributes new) a st v calls b = false
job_erases breaks get_physical_address a st v calls b = false
job_erases breaks (get_block_size block) a st v calls b = false
job_erases breaks (read block offset buffer) a st v calls b = false
job_erases breaks (write block offset new) a st v calls b = false
job_erases breaks (erase_blocks other) a st v calls b = false
job_erases breaks (protect_blocks first) a st v calls b = false
job_erases breaks (accept_erase other) a st v calls b = names other b && is_finished (standing breaks other (accepted a) st v calls)
job_erases breaks (carry_erase other at n) a st v calls b = false

-- "A block is successfully erased once an erase in the list that names it has answered success", or "this way": once its job has answered finished unbroken
unfoldable pub erased_by : Breaks → State → List ℕ → List Call → ℕ → Bool
erased_by breaks st v [] b = false
erased_by breaks st v (call ∷ calls) b =
    let r = step st v call in
    names_block call b && is_success r.answer
    || (job_erases breaks call r.answer r.state r.volume calls b || erased_by breaks r.state r.volume calls b)

-- ---- demand 3: each definition is by a rule of what breaks a job, and demand 3 itself by 02's, `touched`

-- two volumes are alike except inside the blocks of a set: every byte that lies in none of them is the same, bytes past the last block
-- and past the state's length included
unfoldable pub Alike : List ℕ → (ℕ → Type 0) → List ℕ → List ℕ → Type 0
Alike map D v w = (i : ℕ) → ((b : ℕ) → D b → T (in_block map b i) → ⊥) → get_or v i 0 ≡ get_or w i 0

-- "no read that starts in one of those blocks answers success or short unless an earlier erase naming that block answered success"
unfoldable pub NoEarlyReadBy : Breaks → (ℕ → Type 0) → State → List ℕ → List Call → Type 0
NoEarlyReadBy breaks D st v calls =
    (before after : List Call) (b offset : ℕ) (buffer : List ℕ) → calls ≡ before ++ (read b offset buffer ∷ after) → D b
    → T (is_moved (step (run st v before).state (run st v before).volume (read b offset buffer)).answer) → T (erased_by breaks st v before b)

-- the blocks of a set that were never successfully erased
unfoldable pub NeverErasedBy : Breaks → (ℕ → Type 0) → State → List ℕ → List Call → ℕ → Type 0
NeverErasedBy breaks D st v calls b = D b × T (not (erased_by breaks st v calls b))

-- what demand 3 claims of a run on two volumes: everything seen is the same after every call, and at the end the states, the lengths, and
-- every volume byte outside the blocks of the set that were never successfully erased
pub record IsolatedBy (breaks : Breaks) (D : ℕ → Type 0) (st : State) (v w : List ℕ) (calls : List Call) : Type 0 where
  pub all_seen : seen st v calls ≡ seen st w calls
  pub end_state : (run st v calls).state ≡ (run st w calls).state
  pub end_length : length (run st v calls).volume ≡ length (run st w calls).volume
  pub end_volume : Alike (map_of st) (NeverErasedBy breaks D st v calls) (run st v calls).volume (run st w calls).volume

-- and by 02's words: "a block counts as erased this way when its unbroken job has answered finished and no write to the volume or change of settings came
-- while it was open"
abbrev pub erased : State → List ℕ → List Call → ℕ → Bool
erased = erased_by touched

abbrev pub NoEarlyRead : (ℕ → Type 0) → State → List ℕ → List Call → Type 0
NoEarlyRead = NoEarlyReadBy touched

abbrev pub Isolated : (ℕ → Type 0) → State → List ℕ → List ℕ → List Call → Type 0
Isolated = IsolatedBy touched
