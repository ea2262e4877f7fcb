-- The power cut over runs of calls (document 02, g): "After a cut at any store of such a job (put as a carrying on by just the stores made before it), if nothing
-- else stored meanwhile, the first so many bytes of that order hold the erase value and all else is as it was."
use Rattle.std.specs.Prelude.{ℕ, ◌+◌, ◌-◌, ◌≤◌, min, max, ◌≡◌, Bool, false, not, cond, ◌&&◌, ◌||◌, List, [], ◌∷◌, T, eqb, leb, ltb, length, get_or}
use Rattle.common.specs.Answers.{Answer, refused}
use Rattle.block_service.specs.Access.{erased_byte}
use Rattle.block_service.specs.Order.{member, part, erase_order}
use Rattle.block_service.specs.Service.{Call, get_attributes, set_attributes, get_physical_address, get_block_size, read, write, erase_blocks, protect_blocks, accept_erase, carry_erase, step}
use Rattle.volume.specs.ExtendedHeader.{min_ext_header, ext_offset, ext_size_at}
use Rattle.volume.specs.Header.{revision_at, header_length_at}
use Rattle.volume.specs.State.{map_of}
use Rattle.volume.specs.declared.state.State.{State}
use Rattle.isolation.specs.Runs.{is_moved, carries_on, Breaks, Standing, pending, finished, broken, after}

-- the call carries on a job of this list that stands so
unfoldable pub carries_job : List ℕ → Standing → Call → Bool
carries_job list (pending job) call = carries_on list job call
carries_job list finished call = false
carries_job list broken call = false

-- "if nothing else stored meanwhile": each call of a run but those that carry the job on leaves the volume as it was. Which calls do so in any case:
-- `quiet_calls` and `refused_quiet` (proofs/Theorems)
unfoldable pub NothingElseStored : Breaks → List ℕ → Standing → State → List ℕ → List Call → Type 0
NothingElseStored breaks list s st v [] = Unit {0}
NothingElseStored breaks list s st v (call ∷ calls) =
    let r = step st v call in
    (T (not (carries_job list s call)) → r.volume ≡ v) × NothingElseStored breaks list (after breaks list s st call r) r.state r.volume calls

-- the stores of a call: those by which it carries a job on, "a given number of byte stores or, if fewer, what is left"; none where it is refused
unfoldable pub stores_of : State → Call → Answer → ℕ
stores_of st get_attributes a = 0
stores_of st (set_attributes new) a = 0
stores_of st get_physical_address a = 0
stores_of st (get_block_size block) a = 0
stores_of st (read block offset buffer) a = 0
stores_of st (write block offset new) a = 0
stores_of st (erase_blocks list) a = 0
stores_of st (protect_blocks first) a = 0
stores_of st (accept_erase list) a = 0
stores_of st (carry_erase list job n) a = cond (is_moved a) (min n (length (erase_order (map_of st) list) - job)) 0

-- "the stores made before it": the sum of the stores by which the calls of a run carry the job on
unfoldable pub stores_made : Breaks → List ℕ → Standing → State → List ℕ → List Call → ℕ
stores_made breaks list s st v [] = 0
stores_made breaks list s st v (call ∷ calls) =
    let r = step st v call in
    cond (carries_job list s call) (stores_of st call r.answer) 0 + stores_made breaks list (after breaks list s st call r) r.state r.volume calls

-- ---- any number of cuts and reboots

-- a state with the map and the erase value of another, as a state that was kept has: nothing else of a state makes a difference to what carrying on stores
pub record Fits (st next : State) : Type 0 where
  pub map : map_of next ≡ map_of st
  pub value : erased_byte next.attributes ≡ erased_byte st.attributes

-- u is what a volume may hold, that held v when the state st accepted the list, after any number of calls that carry its job on, cuts inside such calls, and reboots;
-- and k is how far it is safe to carry on from: from k, or from any place before it
pub data Interrupted (st : State) (list v : List ℕ) : (u : List ℕ) → (k : ℕ) → Type 0 where
  -- acceptance stores nothing, and its job is 0
  start : Interrupted st list v v 0
  -- a call, with any state that fits, carried on from a job up to k by n and was not refused: the place that it reached is safe too
  whole : {u : List ℕ} {k : ℕ} → Interrupted st list v u k → (next : State) → Fits st next → (job n : ℕ) → job ≤ k
      → ((number : ℕ) → (step next u (carry_erase list job n)).answer ≡ refused number → ⊥)
      → Interrupted st list v (step next u (carry_erase list job n)).volume (max k (job + n))
  -- such a call was cut inside, and left the bytes of its portion in any mix, whatever they hold, and all else as it was: its job is safe still, and no later one is known to be
  cut : {u : List ℕ} {k : ℕ} → Interrupted st list v u k → (job n : ℕ) → job ≤ k → (w : List ℕ) → length w ≡ length u
      → ((i : ℕ) → member i (part job (job + n) (erase_order (map_of st) list)) ≡ false → get_or w i 0 ≡ get_or u i 0) → Interrupted st list v w job

-- byte i of a volume is one of those that opening reads: of the header, which has 72 bytes or more, or of the extended header, which edition 2 may have and which has 20
-- bytes or more
unfoldable pub in_header : List ℕ → ℕ → Bool
in_header v i =
    let o = ext_offset (revision_at v) v in
    ltb i (max 72 (header_length_at v)) || (not (eqb o 0) && (leb o i && ltb i (o + max min_ext_header (ext_size_at v o))))
