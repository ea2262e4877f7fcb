-- Demand 3, and what a reader of documents 01 and 02 may want to know of runs beside it: each theorem with the document's words. The proofs are citations.
use Prim.Native.Nat.{ℕ, ◌+◌, ◌≤◌, ◌<◌}
use mathlib.Core.Path.{◌≡◌}
use mathlib.Core.Bool.{true, false, cond}
use mathlib.Core.List.{List, [], ◌∷◌, ◌++◌}
use lib.Dec.{T}
use lib.ListN.{length, get_or, take}
use Rattle.common.specs.Answers.{refused, success}
use Rattle.volume.specs.Attributes.{flag, read_status, write_status, read_lock_status, write_lock_status}
use Rattle.volume.specs.Header.{opened, open_volume}
use Rattle.volume.specs.State.{map_of, unlawful}
use Rattle.volume.specs.declared.state.State.{State}
use Rattle.block_service.specs.Access.{erased_byte}
use Rattle.block_service.specs.Blocks.{in_block}
use Rattle.block_service.specs.Order.{member, part, erase_order, job_given}
use Rattle.block_service.specs.Service.{Call, get_attributes, set_attributes, get_physical_address, get_block_size, read, erase_blocks, protect_blocks, accept_erase, carry_erase, result_of, step}
use Rattle.isolation.specs.Bytes.{erased_in_run, Agree, Unread, IsolatedBytes}
use Rattle.isolation.specs.PowerCut.{NothingElseStored, stores_made, Fits, Interrupted, in_header}
use Rattle.isolation.specs.Runs.{run, Breaks, strayed, touched, never, pending, finished, accepted, standing, erased_by, Alike, NoEarlyReadBy, IsolatedBy, NoEarlyRead, Isolated}
use Rattle.isolation.proofs.Bytes as Bytes
use Rattle.isolation.proofs.Cuts as Cuts
use Rattle.isolation.proofs.Isolation as Isolation
use Rattle.isolation.proofs.PowerCut as PowerCut
use Rattle.isolation.proofs.Protection as Protection

-- "Take two volumes of equal lent length, opened to the same state, alike except inside certain blocks. Make on both the same list of block service
-- calls. Suppose that on the first volume no read that starts in one of those blocks answers success or short unless an earlier erase naming that
-- block answered success. Then for every such list every answer, count, setting and reader's buffer is the same for both, and at the end the volumes
-- differ nowhere but in blocks of that set never successfully erased." (00, demand 3) A block erased in two operations counts "when its unbroken job has answered
-- finished and no write to the volume or change of settings came while it was open" (02, g): `touched`
pub demand_3 : (D : ℕ → Type 0) (base : ℕ) (st : State) (v w : List ℕ) (calls : List Call)
    → open_volume v base ≡ opened st → open_volume w base ≡ opened st
    → length v ≡ length w → Alike (map_of st) D v w → NoEarlyRead D st v calls → Isolated D st v w calls
demand_3 = Isolation.demand_3

-- the same of any state, also one that no opening answered
pub isolated : (D : ℕ → Type 0) (st : State) (v w : List ℕ) (calls : List Call)
    → length v ≡ length w → Alike (map_of st) D v w → NoEarlyRead D st v calls → Isolated D st v w calls
isolated = Isolation.isolated touched

-- and by any rule of what breaks a job: "no write to the volume or change of settings came while it was open" stands in demand 3 because 02 says it; the claim needs no
-- such condition, since a write stores the same in both volumes and the erase value cannot be set
pub isolated_by : (breaks : Breaks) (D : ℕ → Type 0) (st : State) (v w : List ℕ) (calls : List Call)
    → length v ≡ length w → Alike (map_of st) D v w → NoEarlyReadBy breaks D st v calls → IsolatedBy breaks D st v w calls
isolated_by = Isolation.isolated

-- so also where nothing breaks a job: there the fewest reads are ruled out, and the volumes agree in the most blocks, since what counts as erased by any rule counts there
pub isolated-never : (D : ℕ → Type 0) (st : State) (v w : List ℕ) (calls : List Call)
    → length v ≡ length w → Alike (map_of st) D v w → NoEarlyReadBy never D st v calls → IsolatedBy never D st v w calls
isolated-never = Isolation.isolated never

pub erased-never : (breaks : Breaks) (st : State) (v : List ℕ) (calls : List Call) (b : ℕ) → T (erased_by breaks st v calls b) → T (erased_by never st v calls b)
erased-never = Isolation.erased-never

-- by bytes: two volumes that agree outside any set of bytes, in any state and from any moment on, so also after a reboot with a job that was kept. Where no byte of the
-- set is read before it was erased, everything seen is the same, and at the end the volumes differ nowhere but in bytes of the set that were never erased. A byte counts
-- as erased once a call erased it, with its block or with the portion of a job; no condition is put on jobs, writes or settings
pub isolated-bytes : (X : ℕ → Type 0) (st : State) (v w : List ℕ) (calls : List Call) → length v ≡ length w → Agree X v w → Unread X st v calls
    → IsolatedBytes X st v w calls
isolated-bytes = Bytes.isolated-bytes

-- and whatever is read, a byte once erased agrees on both
pub erased_agrees : (st : State) (v w : List ℕ) (calls : List Call) → length v ≡ length w → (i : ℕ) → T (erased_in_run st v calls i)
    → get_or (run st v calls).volume i 0 ≡ get_or (run st w calls).volume i 0
erased_agrees = Bytes.erased_agrees

-- ---- the power cut (02, g). `r` is what the acceptance of the list answered and left, and `calls` are any calls after it; those before it are of no account

-- "After a cut at any store of such a job (put as a carrying on by just the stores made before it), if nothing else stored meanwhile, the first so many bytes of that
-- order hold the erase value and all else is as it was": where the unbroken job stands at k, and no other call stored
pub power_cut : (st : State) (v list : List ℕ) (calls : List Call) (k : ℕ)
    → let r = step st v (accept_erase list) in
    standing strayed list (accepted r.answer) r.state r.volume calls ≡ pending k
    → NothingElseStored strayed list (accepted r.answer) r.state r.volume calls
    → (i : ℕ) → i < length v
    → get_or (run st v (accept_erase list ∷ calls)).volume i 0 ≡ cond (member i (take k (erase_order (map_of st) list))) (erased_byte st.attributes) (get_or v i 0)
power_cut st v list calls k q nothing = PowerCut.power_cut strayed st v list calls nothing k q

-- where it has answered finished, all of the order
pub power_cut_finished : (st : State) (v list : List ℕ) (calls : List Call)
    → let r = step st v (accept_erase list) in
    standing strayed list (accepted r.answer) r.state r.volume calls ≡ finished
    → NothingElseStored strayed list (accepted r.answer) r.state r.volume calls
    → (i : ℕ) → i < length v
    → get_or (run st v (accept_erase list ∷ calls)).volume i 0 ≡ cond (member i (erase_order (map_of st) list)) (erased_byte st.attributes) (get_or v i 0)
power_cut_finished st v list calls q nothing = PowerCut.power_cut_finished strayed st v list calls nothing q

-- "so many" is the sum of the stores that the calls made by which the job was carried on
pub power_cut_stores : (breaks : Breaks) (st : State) (v list : List ℕ) (calls : List Call)
    → let r = step st v (accept_erase list) in
    NothingElseStored breaks list (accepted r.answer) r.state r.volume calls
    → (i : ℕ) → i < length v
    → get_or (run st v (accept_erase list ∷ calls)).volume i 0
    ≡ cond (member i (take (stores_made breaks list (accepted r.answer) r.state r.volume calls) (erase_order (map_of st) list))) (erased_byte st.attributes) (get_or v i 0)
power_cut_stores = PowerCut.power_cut_stores

-- and so is the job, whatever else was stored; and where it has answered finished, the number of bytes of the order
pub stands_at : (breaks : Breaks) (st : State) (v list : List ℕ) (calls : List Call) (k : ℕ)
    → let r = step st v (accept_erase list) in
    standing breaks list (accepted r.answer) r.state r.volume calls ≡ pending k
    → k ≡ stores_made breaks list (accepted r.answer) r.state r.volume calls
stands_at = PowerCut.stands_at

pub stores_finished : (breaks : Breaks) (st : State) (v list : List ℕ) (calls : List Call)
    → let r = step st v (accept_erase list) in
    standing breaks list (accepted r.answer) r.state r.volume calls ≡ finished
    → stores_made breaks list (accepted r.answer) r.state r.volume calls ≡ length (erase_order (map_of st) list)
stores_finished = PowerCut.stores_finished

-- the calls of a run that store nothing whatever they answer, and any that is refused
pub quiet_calls : (st : State) (v : List ℕ)
    → ((step st v get_attributes).volume ≡ v)
    × ((new : ℕ) → (step st v (set_attributes new)).volume ≡ v)
    × ((step st v get_physical_address).volume ≡ v)
    × ((b : ℕ) → (step st v (get_block_size b)).volume ≡ v)
    × ((b o : ℕ) (buffer : List ℕ) → (step st v (read b o buffer)).volume ≡ v)
    × ((first : ℕ) → (step st v (protect_blocks first)).volume ≡ v)
    × ((list : List ℕ) → (step st v (accept_erase list)).volume ≡ v)
quiet_calls = PowerCut.quiet_calls

pub refused_quiet : (st : State) (v : List ℕ) (c : Call) (n : ℕ) → (step st v c).answer ≡ refused n → (step st v c).volume ≡ v
refused_quiet = PowerCut.refused_quiet

-- ---- any number of cuts and reboots (02, g: "The supply fails in thunderstorms"). `Interrupted st list v u k`: a volume that held v when the state st accepted the list
-- may hold u, after calls that carried its job on, cuts inside them and reboots, as many as there were and in any order, and the jobs up to k are safe to carry on from

-- carrying on to the end, from any safe job, with any state that has the map and the erase value, answers finished and leaves the volume that the whole erase leaves,
-- unless it is refused
pub cuts_mended : (st : State) (v list values : List ℕ) → (step st v (accept_erase list)).answer ≡ success values → {u : List ℕ} {k : ℕ} → Interrupted st list v u k
    → (next : State) → Fits st next → (job n : ℕ) → job ≤ k → length (erase_order (map_of st) list) ≤ job + n
    → ((number : ℕ) → (step next u (carry_erase list job n)).answer ≡ refused number → ⊥)
    → step next u (carry_erase list job n) ≡ result_of (success []) next (step st v (erase_blocks list)).volume []
cuts_mended = Cuts.cuts_mended

-- with the state that accepted the list it is not refused, where the job is one that this map and list give: it is the whole erase
pub cuts_mended_same : (st : State) (v list values : List ℕ) → (step st v (accept_erase list)).answer ≡ success values → {u : List ℕ} {k : ℕ} → Interrupted st list v u k
    → (job n : ℕ) → job ≤ k → length (erase_order (map_of st) list) ≤ job + n → job_given (map_of st) list job ≡ true
    → step st u (carry_erase list job n) ≡ step st v (erase_blocks list)
cuts_mended_same = Cuts.cuts_mended_same

-- and at every moment the first k bytes of the order hold the erase value, and every byte outside the order is as it was at acceptance
pub interrupted_bytes : (st : State) (v list values : List ℕ) → (step st v (accept_erase list)).answer ≡ success values → {u : List ℕ} {k : ℕ} → Interrupted st list v u k
    → (i : ℕ) → i < length v
    → (member i (take k (erase_order (map_of st) list)) ≡ true → get_or u i 0 ≡ erased_byte st.attributes)
    × (member i (erase_order (map_of st) list) ≡ false → get_or u i 0 ≡ get_or v i 0)
interrupted_bytes = Cuts.interrupted_bytes

pub interrupted_length : (st : State) (v list values : List ℕ) → (step st v (accept_erase list)).answer ≡ success values → {u : List ℕ} {k : ℕ} → Interrupted st list v u k
    → length u ≡ length v
interrupted_length = Cuts.interrupted_length

-- which states have the map and the erase value: any state of a run, and the one that it began with, each of the other, so also the state that the volume opened to
pub run_fits : (st : State) (v : List ℕ) (calls : List Call) → Fits st (run st v calls).state × Fits (run st v calls).state st
run_fits = Cuts.run_fits

-- where no byte that opening reads is in the order, opening the volume anew, after a reboot with no state kept, answers what it would have answered at acceptance
pub opens_anew : (st : State) (v list values : List ℕ) → (step st v (accept_erase list)).answer ≡ success values → {u : List ℕ} {k : ℕ} → Interrupted st list v u k
    → ((i : ℕ) → in_header v i ≡ true → member i (erase_order (map_of st) list) ≡ false) → (base : ℕ) → open_volume u base ≡ open_volume v base
opens_anew = Cuts.opens_anew

-- calls of a run are such: where a safe job was carried on, after acceptance or a reboot, with a state that has the map and the erase value, and no other call stored, the
-- job last answered is safe; where it has answered finished, every job is that the map and the list give
pub run_on : (st : State) (v list : List ℕ) {u : List ℕ} {k : ℕ} → Interrupted st list v u k → (next : State) → Fits st next → (job : ℕ) → job ≤ k → (calls : List Call)
    → NothingElseStored strayed list (pending job) next u calls
    → ((j : ℕ) → standing strayed list (pending job) next u calls ≡ pending j → Interrupted st list v (run next u calls).volume j)
    × (standing strayed list (pending job) next u calls ≡ finished → Interrupted st list v (run next u calls).volume (length (erase_order (map_of st) list)))
run_on st v list = Cuts.run_on st v list strayed

-- so after a run from acceptance on, carrying on to the end, from the last job answered or any earlier one, answers finished and leaves the volume that the whole erase
-- leaves, unless it is refused
pub carried_through : (st : State) (v list : List ℕ) (calls : List Call)
    → let r = step st v (accept_erase list) in
    NothingElseStored strayed list (accepted r.answer) r.state r.volume calls
    → (k : ℕ) → standing strayed list (accepted r.answer) r.state r.volume calls ≡ pending k
    → (job n : ℕ) → job ≤ k → length (erase_order (map_of st) list) ≤ job + n
    → let e = run st v (accept_erase list ∷ calls) in
    ((number : ℕ) → (step e.state e.volume (carry_erase list job n)).answer ≡ refused number → ⊥)
    → step e.state e.volume (carry_erase list job n) ≡ result_of (success []) e.state (step st v (erase_blocks list)).volume []
carried_through = Cuts.carried_through strayed

-- so it does after a reboot, with any state that has the map and the erase value, as a state that was kept has; and after a cut inside a call that carried the job on
-- from its place k by m, which may have left the bytes of that portion in any mix: u is the volume then
pub carried_through_cut : (st : State) (v list : List ℕ) (calls : List Call)
    → let r = step st v (accept_erase list) in
    NothingElseStored strayed list (accepted r.answer) r.state r.volume calls
    → (k : ℕ) → standing strayed list (accepted r.answer) r.state r.volume calls ≡ pending k
    → (u : List ℕ) (m : ℕ) → length u ≡ length v
    → ((i : ℕ) → member i (part k (k + m) (erase_order (map_of st) list)) ≡ false → get_or u i 0 ≡ get_or (run st v (accept_erase list ∷ calls)).volume i 0)
    → (next : State) → Fits st next → (job n : ℕ) → job ≤ k → length (erase_order (map_of st) list) ≤ job + n
    → ((number : ℕ) → (step next u (carry_erase list job n)).answer ≡ refused number → ⊥)
    → step next u (carry_erase list job n) ≡ result_of (success []) next (step st v (erase_blocks list)).volume []
carried_through_cut = Cuts.carried_through_cut strayed

-- and where the job has answered finished, of which the loader may not know, carrying on to the end from any job (one that is not given is refused) does so too
pub carried_through_finished : (st : State) (v list : List ℕ) (calls : List Call)
    → let r = step st v (accept_erase list) in
    NothingElseStored strayed list (accepted r.answer) r.state r.volume calls
    → standing strayed list (accepted r.answer) r.state r.volume calls ≡ finished
    → let u = (run st v (accept_erase list ∷ calls)).volume in
    (next : State) → Fits st next → (job n : ℕ) → length (erase_order (map_of st) list) ≤ job + n
    → ((number : ℕ) → (step next u (carry_erase list job n)).answer ≡ refused number → ⊥)
    → step next u (carry_erase list job n) ≡ result_of (success []) next (step st v (erase_blocks list)).volume []
carried_through_finished = Cuts.carried_through_finished strayed

-- ---- runs from opening, locks and protected blocks

-- from opening on every call of a run meets a lawful state
pub opened-run_lawful : (base : ℕ) (st : State) (v : List ℕ) (before : List Call) → open_volume v base ≡ opened st → unlawful (run st v before).state ≡ false
opened-run_lawful = Isolation.opened-run_lawful

-- "The new lock bits may be raised .. and never lowered", "15 where a status already locked would change" (02, a): from any point of a run of edition 2 at which
-- the lock of the read status stands, whatever is called afterwards, at the end the lock stands and the status has the value that it had at that point
pub read_locked_run : (st : State) (v : List ℕ) (before after : List Call) → st.edition ≡ 2 → flag (run st v before).state.attributes read_lock_status ≡ true
    → (flag (run st v (before ++ after)).state.attributes read_lock_status ≡ true)
    × (flag (run st v (before ++ after)).state.attributes read_status ≡ flag (run st v before).state.attributes read_status)
read_locked_run = Isolation.read_locked_run

-- and so of the write status
pub write_locked_run : (st : State) (v : List ℕ) (before after : List Call) → st.edition ≡ 2 → flag (run st v before).state.attributes write_lock_status ≡ true
    → (flag (run st v (before ++ after)).state.attributes write_lock_status ≡ true)
    × (flag (run st v (before ++ after)).state.attributes write_status ≡ flag (run st v before).state.attributes write_status)
write_locked_run = Isolation.write_locked_run

-- no run changes the edition
pub run_edition : (st : State) (v : List ℕ) (calls : List Call) → (run st v calls).state.edition ≡ st.edition
run_edition = Isolation.run_edition

-- "It may be lowered, never raised" (02, j): from any moment of a run on, whatever is called, the first protected block is never above what it was
pub protected_falls_run : (st : State) (v : List ℕ) (before after : List Call) → (run st v (before ++ after)).state.protected ≤ (run st v before).state.protected
protected_falls_run = Protection.protected_falls_run

-- "A tool erased the boot blocks and the camera came down off its pole": a block b that is protected at some moment of a run, after the calls `before`,
-- keeps every byte i of it to the end, whatever calls come after. This is of every state, every volume and every list of calls, each of which gets the
-- state that the one before left; opening the volume anew starts another run, with no block protected
pub protected_run : (st : State) (v : List ℕ) (before after : List Call) (b i : ℕ) → (run st v before).state.protected ≤ b → T (in_block (map_of st) b i)
    → get_or (run st v (before ++ after)).volume i 0 ≡ get_or (run st v before).volume i 0
protected_run = Protection.protected_run

-- in other words: once the call that protects the blocks from `first` on has answered success, every byte of each of these blocks stays as it was then
pub protect_run : (st : State) (v : List ℕ) (before after : List Call) (first : ℕ)
    → (step (run st v before).state (run st v before).volume (protect_blocks first)).answer ≡ success []
    → (b i : ℕ) → first ≤ b → T (in_block (map_of st) b i)
    → get_or (run st v (before ++ (protect_blocks first ∷ after))).volume i 0 ≡ get_or (run st v before).volume i 0
protect_run = Protection.protect_run
