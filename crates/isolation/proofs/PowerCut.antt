-- The power cut over runs of calls (02, g): the stores of a job, wherever a run stops, are the first so many bytes of its order.
use Prim.Native.Nat.{ℕ, ◌+◌, ◌-◌, ◌≤◌, ◌<◌, min}
use mathlib.Core.Path.{◌≡◌, refl, sym, ap, ap₂, subst, ◌∙◌}
use mathlib.Core.Bool.{Bool, true, false, not, cond}
use mathlib.Core.List.{List, [], ◌∷◌}
use mathlib.Core.Option.{Option, none, some}
use native.Mathlib.Nat.{zero-add, add-zero}
use native.Mathlib.Omega.{arith}
use borrow.Author.Tests.{leb-true, leb-false}
use lib.Dec.{T, leb}
use lib.ListN.{length, get_or, take, drop}
use lib.Seq.{take_all, take-length}
use Rattle.common.specs.Answers.{Answer, refused, success}
use Rattle.common.specs.Refusals.{first_refusal}
use Rattle.volume.specs.State.{map_of}
use Rattle.volume.specs.declared.state.State.{State}
use Rattle.block_service.specs.Access.{erased_byte}
use Rattle.block_service.specs.Carry.{filled}
use Rattle.block_service.specs.Order.{member, part, erase_order, finishes}
use Rattle.block_service.specs.Service.{Call, get_attributes, set_attributes, get_physical_address, get_block_size, read, protect_blocks, accept_erase, carry_erase, refusals, effect, carry_answer, Result, result_of, perform, buffer_of, step}
use Rattle.block_service.proofs.carry.Fills.{filled_none, filled-append}
use Rattle.block_service.proofs.carry.OrderLists.{part_none, part-add}
use Rattle.block_service.proofs.carry.Portions.{carried-filled, filled_byte}
use Rattle.block_service.proofs.service.Jobs.{carries}
use Rattle.block_service.proofs.service.Kept.{map_kept, length_kept, erase_value_kept}
use Rattle.block_service.proofs.service.Steps.{refused-step, allowed_step, quiet_step, refused_changes_nothing}
use Rattle.isolation.specs.PowerCut.{carries_job, NothingElseStored, stores_of, stores_made}
use Rattle.isolation.specs.Runs.{run, is_moved, carries_on, Breaks, Standing, pending, finished, broken, accepted, answered, after, standing}
use Rattle.isolation.proofs.Isolation.{carries_on_lem}

-- ---- one call

-- the place p of an order that a job has reached which stands so: an open job is that place, and one that has answered finished has reached the order's end
Reached : List ℕ → ℕ → Standing → Type 0
Reached O p (pending k) = (k ≡ p) × (p ≤ length O)
Reached O p finished = p ≡ length O
Reached O p broken = Unit {0}

-- a portion by n stores or, if fewer, what is left
part_left : (l : List ℕ) (job n : ℕ) → part job (job + min n (length l - job)) l ≡ part job (job + n) l
unfolding part
part_left l job n = go (leb (job + n) (length l)) refl
  where
    go : (t : Bool) → leb (job + n) (length l) ≡ t → drop job (take (job + min n (length l - job)) l) ≡ drop job (take (job + n) l)
    go true e = let h : job + n ≤ length l = leb-true _ _ e in let z : min n (length l - job) ≡ n = omega arith in rw z
    go false e = let h : length l < job + n = leb-false _ _ e in rw (take_all (job + n) l (omega arith), take_all (job + min n (length l - job)) l (omega arith))

module _ (st : State) (v list : List ℕ) where
  abbrev O : List ℕ
  O = erase_order (map_of st) list

  abbrev x : ℕ
  x = erased_byte st.attributes

  -- the stores of a call that a job makes which stands so
  abbrev made : Standing → Call → ℕ
  made s c = cond (carries_job list s c) (stores_of st c (step st v c).answer) 0

  -- no store
  none_stored : (p : ℕ) → v ≡ filled x (part p (p + 0) O) v
  none_stored p = sym (rw (part_none p (p + 0) O (omega arith)) (filled_none x v))

  -- a call that carries the job on reaches as many places more as it made stores
  carry_reached : (job n : ℕ) → job ≤ length O
      → let a = (step st v (carry_erase list job n)).answer in Reached O (job + stores_of st (carry_erase list job n) a) (answered job a)
  unfolding Reached stores_of finishes carry_answer is_moved answered
  carry_reached job n b = go (first_refusal (refusals st (length v) (carry_erase list job n))) refl
    where
      R : Answer → Type 0
      R a = Reached O (job + stores_of st (carry_erase list job n) a) (answered job a)

      by : (t : Bool) → finishes (map_of st) list job n ≡ t → R (carry_answer t (job + n))
      by true e = let h : length O ≤ job + n = leb-true _ _ e in omega arith
      by false e = let h : job + n < length O = leb-false _ _ e in (omega arith, omega arith)

      go : (o : Option ℕ) → first_refusal (refusals st (length v) (carry_erase list job n)) ≡ o → R (step st v (carry_erase list job n)).answer
      go none e = subst R (sym (ap (λ (r : Result). r.answer) (carries st v list job n e))) (by (finishes (map_of st) list job n) refl)
      go (some k) e = subst (λ (r : Result). R r.answer) (refused-step st v (carry_erase list job n) k e) (omega arith, omega arith)

  -- and stores the erase value in the bytes between
  carry_stored : (job n : ℕ)
      → let r = step st v (carry_erase list job n) in r.volume ≡ filled x (part job (job + stores_of st (carry_erase list job n) r.answer) O) v
  unfolding stores_of carry_answer is_moved
  carry_stored job n = go (first_refusal (refusals st (length v) (carry_erase list job n))) refl
    where
      F : Result → Type 0
      F r = r.volume ≡ filled x (part job (job + stores_of st (carry_erase list job n) r.answer) O) v

      by : (t : Bool) (w : List ℕ) → w ≡ filled x (part job (job + n) O) v → F (result_of (carry_answer t (job + n)) st w [])
      by true w e = e ∙ rw (part_left O job n)
      by false w e = e ∙ rw (part_left O job n)

      go : (o : Option ℕ) → first_refusal (refusals st (length v) (carry_erase list job n)) ≡ o → F (step st v (carry_erase list job n))
      go none e =
          subst F (sym (carries st v list job n e)) (by (finishes (map_of st) list job n) _ (carried-filled st.attributes (map_of st) list job n v))
      go (some k) e = subst F (refused-step st v (carry_erase list job n) k e) (none_stored job)

  -- any call
  call_reached : (breaks : Breaks) (s : Standing) (c : Call) (p : ℕ) → Reached O p s → Reached O (p + made s c) (after breaks list s st c (step st v c))
  unfolding Reached after carries_job
  call_reached breaks finished c p h = omega arith
  call_reached breaks broken c p h = tt
  call_reached breaks (pending job) c p h =
      breaking (breaks list job st c (step st v c)) (cond (carries_on list job c) (answered job (step st v c).answer) (pending job)) (carrying (carries_on list job c) refl)
    where
      breaking : (t : Bool) (s : Standing) → Reached O (p + made (pending job) c) s → Reached O (p + made (pending job) c) (cond t broken s)
      breaking false s m = m
      breaking true s m = tt

      carrying : (t : Bool) → carries_on list job c ≡ t
          → Reached O (p + cond t (stores_of st c (step st v c).answer) 0) (cond t (answered job (step st v c).answer) (pending job))
      carrying false e = (omega (arith, h.0), omega (arith, h.1))
      carrying true e =
          let w = carries_on_lem list job c (rw e tt) in
          subst (λ (d : Call). Reached O (p + stores_of st d (step st v d).answer) (answered job (step st v d).answer)) (sym w.1)
          (subst (λ (y : ℕ). Reached O (y + stores_of st (carry_erase list job w.0) (step st v (carry_erase list job w.0)).answer) (answered job (step st v (carry_erase list job w.0)).answer))
          h.0 (carry_reached job w.0 (omega (arith, h.0, h.1))))

  call_stored : (s : Standing) (c : Call) (p : ℕ) → Reached O p s → (T (not (carries_job list s c)) → (step st v c).volume ≡ v)
      → (step st v c).volume ≡ filled x (part p (p + made s c) O) v
  unfolding Reached carries_job
  call_stored finished c p h q = q tt ∙ none_stored p
  call_stored broken c p h q = q tt ∙ none_stored p
  call_stored (pending job) c p h q = carrying (carries_on list job c) refl
    where
      carrying : (t : Bool) → carries_on list job c ≡ t → (step st v c).volume ≡ filled x (part p (p + cond t (stores_of st c (step st v c).answer) 0) O) v
      carrying false e = q (rw e tt) ∙ none_stored p
      carrying true e =
          let w = carries_on_lem list job c (rw e tt) in
          subst (λ (d : Call). (step st v d).volume ≡ filled x (part p (p + stores_of st d (step st v d).answer) O) v) (sym w.1)
          (subst (λ (y : ℕ). (step st v (carry_erase list job w.0)).volume ≡ filled x (part y (y + stores_of st (carry_erase list job w.0) (step st v (carry_erase list job w.0)).answer) O) v)
          h.0 (carry_stored job w.0))

-- ---- calls that store nothing, whatever they answer

pub quiet_calls : (st : State) (v : List ℕ)
    → ((step st v get_attributes).volume ≡ v)
    × ((new : ℕ) → (step st v (set_attributes new)).volume ≡ v)
    × ((step st v get_physical_address).volume ≡ v)
    × ((b : ℕ) → (step st v (get_block_size b)).volume ≡ v)
    × ((b o : ℕ) (buffer : List ℕ) → (step st v (read b o buffer)).volume ≡ v)
    × ((first : ℕ) → (step st v (protect_blocks first)).volume ≡ v)
    × ((list : List ℕ) → (step st v (accept_erase list)).volume ≡ v)
unfolding perform effect
quiet_calls st v = (
  quiet_step st v get_attributes refl,
  (λ new. quiet_step st v (set_attributes new) refl),
  quiet_step st v get_physical_address refl,
  (λ b. quiet_step st v (get_block_size b) refl),
  (λ b o buffer. quiet_step st v (read b o buffer) refl),
  (λ first. quiet_step st v (protect_blocks first) refl),
  λ list. quiet_step st v (accept_erase list) refl,
)

pub refused_quiet : (st : State) (v : List ℕ) (c : Call) (n : ℕ) → (step st v c).answer ≡ refused n → (step st v c).volume ≡ v
refused_quiet st v c n h = ap (λ (r : Result). r.volume) (refused_changes_nothing st v c n h)

-- ---- a run

-- a portion, and the one after it
portion_next : (x : ℕ) (l v : List ℕ) (p d n : ℕ) → filled x (part (p + d) (p + d + n) l) (filled x (part p (p + d) l) v) ≡ filled x (part p (p + (d + n)) l) v
portion_next x l v p d n =
    let f : p + d + n ≡ p + (d + n) = omega arith in
    rw f (filled-append x (part p (p + d) l) (part (p + d) (p + (d + n)) l) v ∙ rw (part-add p (p + d) (p + (d + n)) l (omega arith) (omega arith)))

module _ (breaks : Breaks) (list : List ℕ) where
  order_kept : (st : State) (v : List ℕ) (c : Call) → erase_order (map_of (step st v c).state) list ≡ erase_order (map_of st) list
  order_kept st v c = ap (λ (m : List ℕ). erase_order m list) (map_kept st v c)

  -- a job reaches as many places more as its calls made stores
  run_reached : (s : Standing) (st : State) (v : List ℕ) (cs : List Call) (p : ℕ) → Reached (erase_order (map_of st) list) p s
      → Reached (erase_order (map_of st) list) (p + stores_made breaks list s st v cs) (standing breaks list s st v cs)
  unfolding stores_made standing
  run_reached s st v [] p h = rw (add-zero p) h
  run_reached s st v (c ∷ cs) p h =
      let d = made st v list s c in
      let t = after breaks list s st c (step st v c) in
      let n = stores_made breaks list t (step st v c).state (step st v c).volume cs in
      let f : p + d + n ≡ p + (d + n) = omega arith in
      rw (← f, ← order_kept st v c)
      (run_reached t (step st v c).state (step st v c).volume cs (p + d) (rw (order_kept st v c) (call_reached st v list breaks s c p h)))

  -- and where nothing else stored these bytes of its order are stored
  run-stored : (s : Standing) (st : State) (v : List ℕ) (cs : List Call) (p : ℕ) → Reached (erase_order (map_of st) list) p s → NothingElseStored breaks list s st v cs
      → (run st v cs).volume ≡ filled (erased_byte st.attributes) (part p (p + stores_made breaks list s st v cs) (erase_order (map_of st) list)) v
  unfolding NothingElseStored run stores_made
  run-stored s st v [] p h q = none_stored st v list p
  run-stored s st v (c ∷ cs) p h q =
      let d = made st v list s c in
      let t = after breaks list s st c (step st v c) in
      let n = stores_made breaks list t (step st v c).state (step st v c).volume cs in
      run-stored t (step st v c).state (step st v c).volume cs (p + d) (rw (order_kept st v c) (call_reached st v list breaks s c p h)) q.1
      ∙ ap₂ (λ (y : ℕ) (l : List ℕ). filled y (part (p + d) (p + d + n) l) (step st v c).volume) (erase_value_kept st v c) (order_kept st v c)
      ∙ ap (λ (w : List ℕ). filled (erased_byte st.attributes) (part (p + d) (p + d + n) (erase_order (map_of st) list)) w) (call_stored st v list s c p h q.0)
      ∙ portion_next (erased_byte st.attributes) (erase_order (map_of st) list) v p d n

-- ---- from acceptance on

-- a run keeps the erase value and the length of the volume
pub run_value : (st : State) (v : List ℕ) (cs : List Call) → erased_byte (run st v cs).state.attributes ≡ erased_byte st.attributes
unfolding run
run_value st v [] = refl
run_value st v (c ∷ cs) = run_value (step st v c).state (step st v c).volume cs ∙ erase_value_kept st v c

pub run_length : (st : State) (v : List ℕ) (cs : List Call) → length (run st v cs).volume ≡ length v
unfolding run
run_length st v [] = refl
run_length st v (c ∷ cs) = run_length (step st v c).state (step st v c).volume cs ∙ length_kept st v c

-- an acceptance answers the job 0 and leaves all as it was, or is refused
pub accept_cases : (P : Result → Type 0) (st : State) (v list : List ℕ) → (first_refusal (refusals st (length v) (accept_erase list)) ≡ none → P (result_of (success (0 ∷ [])) st v []))
    → ((n : ℕ) → P (result_of (refused n) st v [])) → P (step st v (accept_erase list))
unfolding perform effect buffer_of
accept_cases P st v list answers refuses = go (first_refusal (refusals st (length v) (accept_erase list))) refl
  where
    go : (o : Option ℕ) → first_refusal (refusals st (length v) (accept_erase list)) ≡ o → P (step st v (accept_erase list))
    go none e = subst P (allowed_step st v (accept_erase list) e) (answers e)
    go (some n) e = subst P (refused-step st v (accept_erase list) n e) (refuses n)

module _ (breaks : Breaks) (st : State) (v list : List ℕ) (calls : List Call) where
  abbrev r : Result
  r = step st v (accept_erase list)

  begun : Reached (erase_order (map_of r.state) list) 0 (accepted r.answer)
  unfolding Reached accepted
  begun = accept_cases (λ (y : Result). Reached (erase_order (map_of y.state) list) 0 (accepted y.answer)) st v list (λ e. (refl, omega arith)) (λ n. tt)

  reached : Reached (erase_order (map_of st) list) (stores_made breaks list (accepted r.answer) r.state r.volume calls)
      (standing breaks list (accepted r.answer) r.state r.volume calls)
  reached =
      rw (zero-add (stores_made breaks list (accepted r.answer) r.state r.volume calls), order_kept breaks list st v (accept_erase list))
      at (run_reached breaks list (accepted r.answer) r.state r.volume calls 0 begun)

  -- where the job stands
  pub stands_at : (k : ℕ) → standing breaks list (accepted r.answer) r.state r.volume calls ≡ pending k
      → k ≡ stores_made breaks list (accepted r.answer) r.state r.volume calls
  unfolding Reached
  stands_at k q = (subst (λ (s : Standing). Reached (erase_order (map_of st) list) (stores_made breaks list (accepted r.answer) r.state r.volume calls) s) q reached).0

  pub stores_finished : standing breaks list (accepted r.answer) r.state r.volume calls ≡ finished
      → stores_made breaks list (accepted r.answer) r.state r.volume calls ≡ length (erase_order (map_of st) list)
  unfolding Reached
  stores_finished q = subst (λ (s : Standing). Reached (erase_order (map_of st) list) (stores_made breaks list (accepted r.answer) r.state r.volume calls) s) q reached

  module _ (nothing : NothingElseStored breaks list (accepted r.answer) r.state r.volume calls) where
    -- each byte, by the stores made
    pub power_cut_stores : (i : ℕ) → i < length v
        → get_or (run st v (accept_erase list ∷ calls)).volume i 0
        ≡ cond (member i (take (stores_made breaks list (accepted r.answer) r.state r.volume calls) (erase_order (map_of st) list))) (erased_byte st.attributes) (get_or v i 0)
    unfolding run part
    power_cut_stores i h =
        let n = stores_made breaks list (accepted r.answer) r.state r.volume calls in
        ap (λ (w : List ℕ). get_or w i 0)
        (run-stored breaks list (accepted r.answer) r.state r.volume calls 0 begun nothing
        ∙ ap₂ (λ (y : ℕ) (l : List ℕ). filled y (take (0 + n) l) r.volume) (erase_value_kept st v (accept_erase list)) (order_kept breaks list st v (accept_erase list))
        ∙ ap₂ (λ (m : ℕ) (w : List ℕ). filled (erased_byte st.attributes) (take m (erase_order (map_of st) list)) w) (zero-add n) ((quiet_calls st v).6 list))
        ∙ filled_byte (erased_byte st.attributes) _ v i h

    -- by where the job stands
    pub power_cut : (k : ℕ) → standing breaks list (accepted r.answer) r.state r.volume calls ≡ pending k → (i : ℕ) → i < length v
        → get_or (run st v (accept_erase list ∷ calls)).volume i 0 ≡ cond (member i (take k (erase_order (map_of st) list))) (erased_byte st.attributes) (get_or v i 0)
    power_cut k q i h = rw (stands_at k q) (power_cut_stores i h)

    -- all of it where it is finished
    pub power_cut_finished : standing breaks list (accepted r.answer) r.state r.volume calls ≡ finished → (i : ℕ) → i < length v
        → get_or (run st v (accept_erase list ∷ calls)).volume i 0 ≡ cond (member i (erase_order (map_of st) list)) (erased_byte st.attributes) (get_or v i 0)
    power_cut_finished q i h = rw (stores_finished q, take-length (erase_order (map_of st) list)) at (power_cut_stores i h)
