-- Demand 3 by bytes (document 00, demand 3; document 02, g): nothing here knows of blocks, of jobs, or of where a run began.
use Rattle.std.specs.Prelude.{ℕ, ◌+◌, ◌≡◌, Bool, true, false, not, ◌&&◌, ◌||◌, List, [], ◌∷◌, T, leb, ltb, length, get_or}
use Rattle.block_service.specs.Access.{ByteChange, keep, store, erase}
use Rattle.block_service.specs.Service.{Call, Effect, reply, set_to, copy_out, change, decide, step}
use Rattle.volume.specs.declared.state.State.{State}
use Rattle.isolation.specs.Runs.{run, seen}

-- what is done to a byte is an erase of it
unfoldable pub is_erase : ByteChange → Bool
is_erase keep = false
is_erase (store x) = false
is_erase erase = true

-- a call's effect erases byte i: the byte lies in a block that an erase names, or in the portion by which a job is carried on
unfoldable pub erases_byte : Effect → ℕ → Bool
erases_byte (reply a) i = false
erases_byte (set_to next a) i = false
erases_byte (copy_out at count a) i = false
erases_byte (change f a) i = is_erase (f i)

-- a call's effect copies byte i to the reader's buffer
unfoldable pub copies_byte : Effect → ℕ → Bool
copies_byte (reply a) i = false
copies_byte (set_to next a) i = false
copies_byte (copy_out at count a) i = leb at i && ltb i (at + count)
copies_byte (change f a) i = false

-- byte i was erased in a run, by a call that was not refused (`decide` is what a call does, and one that is refused only answers)
unfoldable pub erased_in_run : State → List ℕ → List Call → ℕ → Bool
erased_in_run st v [] i = false
erased_in_run st v (call ∷ calls) i =
    erases_byte (decide st (length v) call) i || erased_in_run (step st v call).state (step st v call).volume calls i

-- two volumes agree outside a set of bytes
abbrev pub Agree : (ℕ → Type 0) → List ℕ → List ℕ → Type 0
Agree X v w = (i : ℕ) → (X i → ⊥) → get_or v i 0 ≡ get_or w i 0

-- a set of bytes without those that an effect erases
abbrev pub Without : (ℕ → Type 0) → Effect → ℕ → Type 0
Without X e i = X i × T (not (erases_byte e i))

-- no call of a run on v copies out a byte of the set that was not erased before
unfoldable pub Unread : (ℕ → Type 0) → State → List ℕ → List Call → Type 0
Unread X st v [] = Unit {0}
Unread X st v (call ∷ calls) =
    let e = decide st (length v) call in
    ((i : ℕ) → T (copies_byte e i) → X i → ⊥) × Unread (Without X e) (step st v call).state (step st v call).volume calls

-- what is claimed of a run on two volumes: everything seen is the same after every call, and at the end the states, the lengths, and every volume byte outside the set,
-- and of the set every byte that was erased
pub record IsolatedBytes (X : ℕ → Type 0) (st : State) (v w : List ℕ) (calls : List Call) : Type 0 where
  pub all_seen : seen st v calls ≡ seen st w calls
  pub end_state : (run st v calls).state ≡ (run st w calls).state
  pub end_length : length (run st v calls).volume ≡ length (run st w calls).volume
  pub end_bytes : Agree (λ i. X i × T (not (erased_in_run st v calls i))) (run st v calls).volume (run st w calls).volume
