-- Any number of cuts and reboots (02, g): whatever calls that carry a job on, cuts inside them and reboots left, all outside the order is as it was at acceptance, the
-- bytes before the safe place hold the erase value, and carrying on from there or from any earlier job to the end leaves what the whole erase leaves.
use Prim.Native.Nat.{ℕ, zero, suc, ◌+◌, ◌≤◌, ◌<◌, max}
use mathlib.Core.Path.{◌≡◌, refl, sym, ap, subst, ◌∙◌}
use mathlib.Core.Bool.{Bool, true, false, not, cond, ◌||◌, or-true}
use mathlib.Core.List.{List, [], ◌∷◌}
use mathlib.Core.Option.{Option, none, some}
use native.Mathlib.Nat.{zero-add}
use native.Mathlib.Omega.{arith}
use borrow.Author.Tests.{not-false, eqb-true, ne_eqb, lt-ltb, le-leb, leb-true, leb-false, ltb-true}
use lib.Dec.{T, eqb, leb, ltb}
use lib.ListN.{length, get_or, take}
use lib.Seq.{ext_get_or, take_all}
use Rattle.common.specs.Answers.{Answer, refused, success}
use Rattle.common.specs.Refusals.{first_refusal}
use Rattle.volume.specs.ExtendedHeader.{min_ext_header, ext_offset, ext_size_at}
use Rattle.volume.specs.Header.{revision_at, header_length_at, open_volume}
use Rattle.volume.specs.State.{map_of}
use Rattle.volume.specs.declared.state.State.{State}
use Rattle.block_service.specs.Access.{erased_byte}
use Rattle.block_service.specs.Carry.{filled}
use Rattle.block_service.specs.Order.{member, part, erase_order, job_given, finishes}
use Rattle.block_service.specs.Service.{Call, erase_blocks, accept_erase, carry_erase, refusals, carry_answer, Result, result_of, step}
use Rattle.volume.proofs.header.Reading.{header_only}
use Rattle.block_service.proofs.carry.Fills.{length-filled}
use Rattle.block_service.proofs.carry.OrderLists.{member-append, part_all, part-add, part-member}
use Rattle.block_service.proofs.carry.Orders.{Distinct, each_once}
use Rattle.block_service.proofs.carry.Portions.{carried-filled, filled_byte, filled_other}
use Rattle.block_service.proofs.erase.Lists.{names_within}
use Rattle.block_service.proofs.service.Jobs.{carries, carried_out}
use Rattle.block_service.proofs.service.Kept.{map_kept, erase_value_kept}
use Rattle.block_service.proofs.service.Steps.{refused-step, refused_exactly, passed, passed_success, passed_erase, carry_passed, carry_passes}
use Rattle.isolation.specs.PowerCut.{carries_job, NothingElseStored, Fits, Interrupted, start, whole, cut, in_header}
use Rattle.isolation.specs.Runs.{After, run, carries_on, Breaks, Standing, pending, finished, broken, accepted, answered, after, standing}
use Rattle.isolation.proofs.Isolation.{run-map, carries_on_lem}
use Rattle.isolation.proofs.PowerCut.{run_value, run_length, accept_cases}

-- ---- places of an order

-- what does not stand in a list does not stand in a part of it
outside_part : (i from to : ℕ) (l : List ℕ) → member i l ≡ false → member i (part from to l) ≡ false
outside_part i from to l h = go (member i (part from to l)) refl
  where
    go : (t : Bool) → member i (part from to l) ≡ t → t ≡ false
    go false e = refl
    go true e = absurd (rw h at (part-member i from to l (rw e tt)))

-- the first elements of a list, to a place and on from there
take_further : (i a b : ℕ) (l : List ℕ) → a ≤ b → member i (take b l) ≡ (member i (take a l) || member i (part a b l))
unfolding part
take_further i a b l h = ap (λ (y : List ℕ). member i y) (sym (part-add 0 a b l (omega arith) h)) ∙ member-append i (take a l) (part a b l)

take_wider : (i a b : ℕ) (l : List ℕ) → a ≤ b → T (member i (take a l)) → T (member i (take b l))
take_wider i a b l h t = rw (take_further i a b l h) (go (member i (take a l)) t)
  where
    go : (s : Bool) → T s → T (s || member i (part a b l))
    go true q = tt
    go false q = absurd q

-- what stands before a place of a list in which nothing stands twice does not stand after it
before_apart : (l : List ℕ) → Distinct l → (i a b : ℕ) → T (member i (take a l)) → member i (part a b l) ≡ false
unfolding Distinct member part
before_apart l d i zero b t = absurd t
before_apart [] d i (suc a) b t = absurd t
before_apart (x ∷ l) d i (suc a) zero t = refl
before_apart (x ∷ l) d i (suc a) (suc b) t = go (eqb i x) refl t (before_apart l d.1 i a b)
  where
    go : (s : Bool) → eqb i x ≡ s → T (s || member i (take a l)) → (T (member i (take a l)) → member i (part a b l) ≡ false) → member i (part a b l) ≡ false
    go true e t f = outside_part i a b l (rw (eqb-true i x e) d.0)
    go false e t f = f t

-- ---- what was left

module _ (st : State) (v list values : List ℕ) (accepted : (step st v (accept_erase list)).answer ≡ success values) where
  abbrev O : List ℕ
  O = erase_order (map_of st) list

  abbrev x : ℕ
  x = erased_byte st.attributes

  rows : first_refusal (refusals st (length v) (erase_blocks list)) ≡ none
  unfolding refusals
  rows = passed_success st v (accept_erase list) values accepted

  once : Distinct O
  once = each_once (map_of st) list (names_within _ list (not-false _ (passed_erase st (length v) list rows).last))

  -- of a volume that was left: its length, the bytes outside the order, and those before the safe place
  record Held (u : List ℕ) (k : ℕ) : Type 0 where
    pub long : length u ≡ length v
    pub outside : (i : ℕ) → member i O ≡ false → get_or u i 0 ≡ get_or v i 0
    pub before : (i : ℕ) → i < length v → T (member i (take k O)) → get_or u i 0 ≡ x

  -- a call that carries on and is not refused
  carried_on : (u : List ℕ) (next : State) → Fits st next → (job n : ℕ) → first_refusal (refusals next (length u) (carry_erase list job n)) ≡ none
      → step next u (carry_erase list job n) ≡ result_of (carry_answer (finishes (map_of st) list job n) (job + n)) next (filled x (part job (job + n) O) u) []
  carried_on u next fits job n e =
      carries next u list job n e ∙ rw (carried-filled next.attributes (map_of next) list job n u, fits.map, fits.value)

  whole_held : (u : List ℕ) (k job n : ℕ) → job ≤ k → Held u k → Held (filled x (part job (job + n) O) u) (max k (job + n))
  whole_held u k job n jk h =
      record {
        long = length-filled x (part job (job + n) O) u ∙ h.long;
        outside = λ i p. filled_other x (part job (job + n) O) u i (outside_part i job (job + n) O p) ∙ h.outside i p;
        before = λ i p t. filled_byte x (part job (job + n) O) u i (omega (arith, h.long)) ∙ at i p t (member i (part job (job + n) O)) refl;
      }
    where
      or_left : (s t : Bool) → t ≡ false → T (s || t) → T s
      or_left true t e q = tt
      or_left false t e q = rw e at q

      earlier : (i : ℕ) → member i (part job (job + n) O) ≡ false → (s : Bool) → leb (job + n) k ≡ s → T (member i (take (max k (job + n)) O)) → T (member i (take k O))
      earlier i e true q t = let m : job + n ≤ k = leb-true _ _ q in let z : max k (job + n) ≡ k = omega arith in rw z at t
      earlier i e false q t =
          let m : k < job + n = leb-false _ _ q in
          let z : max k (job + n) ≡ job + n = omega arith in
          take_wider i job k O jk
          (or_left (member i (take job O)) (member i (part job (job + n) O)) e (rw (z, take_further i job (job + n) O (omega arith)) at t))

      at : (i : ℕ) → i < length v → T (member i (take (max k (job + n)) O)) → (s : Bool) → member i (part job (job + n) O) ≡ s → cond s x (get_or u i 0) ≡ x
      at i p t true e = refl
      at i p t false e = h.before i p (earlier i e (leb (job + n) k) refl t)

  held : {u : List ℕ} {k : ℕ} → Interrupted st list v u k → Held u k
  unfolding member
  held start = record { long = refl; outside = λ i p. refl; before = λ i p t. absurd t }
  held (whole {u = u} {k = k} r next fits job n jk free) =
      subst (λ (y : Result). Held y.volume (max k (job + n))) (sym (carried_on u next fits job n (passed next u (carry_erase list job n) free)))
      (whole_held u k job n jk (held r))
  held (cut {k = k} r job n jk w long same) =
      let h = held r in
      record {
        long = long ∙ h.long;
        outside = λ i p. same i (outside_part i job (job + n) O p) ∙ h.outside i p;
        before = λ i p t. same i (before_apart O once i job (job + n) t) ∙ h.before i p (take_wider i job k O jk t);
      }

  -- each byte
  pub interrupted_bytes : {u : List ℕ} {k : ℕ} → Interrupted st list v u k → (i : ℕ) → i < length v
      → (member i (take k (erase_order (map_of st) list)) ≡ true → get_or u i 0 ≡ erased_byte st.attributes)
      × (member i (erase_order (map_of st) list) ≡ false → get_or u i 0 ≡ get_or v i 0)
  interrupted_bytes r i p = ((λ e. (held r).before i p (rw e tt)), λ e. (held r).outside i e)

  pub interrupted_length : {u : List ℕ} {k : ℕ} → Interrupted st list v u k → length u ≡ length v
  interrupted_length r = (held r).long

  -- where no byte that opening reads is in the order, opening anew answers the same
  pub opens_anew : {u : List ℕ} {k : ℕ} → Interrupted st list v u k → ((i : ℕ) → in_header v i ≡ true → member i (erase_order (map_of st) list) ≡ false)
      → (base : ℕ) → open_volume u base ≡ open_volume v base
  unfolding in_header
  opens_anew {u} r apart base =
      sym (header_only v u base (sym (held r).long) (λ i p q. first i (omega arith)) (λ i p q. first i (omega arith))
      (λ nz. ((λ i p q. second nz i p (omega arith)), λ i p q. second nz i p (omega arith))))
    where
      o : ℕ
      o = ext_offset (revision_at v) v

      first : (i : ℕ) → i < max 72 (header_length_at v) → get_or v i 0 ≡ get_or u i 0
      first i h = sym ((held r).outside i (apart i (rw (lt-ltb i (max 72 (header_length_at v)) h))))

      second : (o ≡ 0 → ⊥) → (i : ℕ) → o ≤ i → i < o + max min_ext_header (ext_size_at v o) → get_or v i 0 ≡ get_or u i 0
      second nz i p q =
          sym ((held r).outside i
          (apart i (rw (ne_eqb o 0 nz, le-leb o i p, lt-ltb i (o + max min_ext_header (ext_size_at v o)) q) (or-true (ltb i (max 72 (header_length_at v)))))))

  -- ---- carried on to the end

  -- what the whole erase leaves
  erase_left : step st v (erase_blocks list) ≡ result_of (success []) st (filled x O v) []
  unfolding job_given finishes carry_answer
  erase_left =
      sym (carried_out st v list values accepted (length O) (omega arith))
      ∙ carries st v list 0 (length O) (carry_passes st (length v) list 0 (length O) rows refl)
      ∙ rw (carried-filled st.attributes (map_of st) list 0 (length O) v, zero-add (length O), part_all O (length O) (omega arith), le-leb (length O) (length O) (omega arith))

  stored_out : (u : List ℕ) (k job n : ℕ) → Held u k → job ≤ k → length O ≤ job + n → filled x (part job (job + n) O) u ≡ filled x O v
  stored_out u k job n h jk out =
      ext_get_or 0 (filled x (part job (job + n) O) u) (filled x O v) (length-filled x (part job (job + n) O) u ∙ h.long ∙ sym (length-filled x O v))
      (λ i p.
      let q : i < length u = rw (length-filled x (part job (job + n) O) u) at p in
      let r : i < length v = omega (arith, h.long) in
      filled_byte x (part job (job + n) O) u i q
      ∙ at i r (member i (part job (job + n) O)) refl (member i (take job O)) refl
      ∙ ap (λ (t : Bool). cond t x (get_or v i 0)) (sym (all i))
      ∙ sym (filled_byte x O v i r))
    where
      all : (i : ℕ) → member i O ≡ (member i (take job O) || member i (part job (job + n) O))
      all i = ap (λ (l : List ℕ). member i l) (sym (take_all (job + n) O out)) ∙ take_further i job (job + n) O (omega arith)

      at : (i : ℕ) → i < length v → (s : Bool) → member i (part job (job + n) O) ≡ s → (t : Bool) → member i (take job O) ≡ t → cond s x (get_or u i 0) ≡ cond (t || s) x (get_or v i 0)
      at i p true e t f = sym (rw (or-true t))
      at i p false e true f = h.before i p (take_wider i job k O jk (rw f tt))
      at i p false e false f = h.outside i (all i ∙ rw (e, f))

  to_the_end : (u : List ℕ) (k : ℕ) → Held u k → (next : State) → Fits st next → (job n : ℕ) → job ≤ k → length O ≤ job + n
      → first_refusal (refusals next (length u) (carry_erase list job n)) ≡ none
      → step next u (carry_erase list job n) ≡ result_of (success []) next (filled x O v) []
  unfolding finishes carry_answer
  to_the_end u k h next fits job n jk out e = carried_on u next fits job n e ∙ rw (le-leb (length O) (job + n) out, stored_out u k job n h jk out)

  pub cuts_mended : {u : List ℕ} {k : ℕ} → Interrupted st list v u k → (next : State) → Fits st next → (job n : ℕ) → job ≤ k
      → length (erase_order (map_of st) list) ≤ job + n → ((number : ℕ) → (step next u (carry_erase list job n)).answer ≡ refused number → ⊥)
      → step next u (carry_erase list job n) ≡ result_of (success []) next (step st v (erase_blocks list)).volume []
  cuts_mended {u} {k} r next fits job n jk out free =
      to_the_end u k (held r) next fits job n jk out (passed next u (carry_erase list job n) free)
      ∙ ap (λ (y : Result). result_of (success []) next y.volume []) (sym erase_left)

  -- with the state that accepted the list no job that is given is refused
  pub cuts_mended_same : {u : List ℕ} {k : ℕ} → Interrupted st list v u k → (job n : ℕ) → job ≤ k → length (erase_order (map_of st) list) ≤ job + n
      → job_given (map_of st) list job ≡ true → step st u (carry_erase list job n) ≡ step st v (erase_blocks list)
  cuts_mended_same {u} {k} r job n jk out given =
      to_the_end u k (held r) st (record { map = refl; value = refl }) job n jk out (carry_passes st (length u) list job n (rw (held r).long rows) given)
      ∙ sym erase_left

-- ---- runs of calls

module _ (st : State) (v list : List ℕ) where
  -- how a job stands, and the volume then: the job last answered is safe, or all of the order
  Left : Standing → List ℕ → Type 0
  Left (pending k) u = Interrupted st list v u k
  Left finished u = Interrupted st list v u (length (erase_order (map_of st) list))
  Left broken u = Unit {0}

  -- an earlier job is safe too
  less_safe : {u : List ℕ} {k : ℕ} → Interrupted st list v u k → (job : ℕ) → job ≤ k → Interrupted st list v u job
  less_safe {u} r job h = cut r job 0 h u refl (λ i e. refl)

  fits_after : (next : State) (u : List ℕ) (c : Call) → Fits st next → Fits st (step next u c).state
  fits_after next u c f = record { map = map_kept next u c ∙ f.map; value = erase_value_kept next u c ∙ f.value }

  -- a call that carries the job on
  carry_left : (next : State) (u : List ℕ) (job n : ℕ) → Fits st next → Interrupted st list v u job
      → Left (answered job (step next u (carry_erase list job n)).answer) (step next u (carry_erase list job n)).volume
  unfolding Left answered carry_answer finishes
  carry_left next u job n f h = go (first_refusal (refusals next (length u) (carry_erase list job n))) refl
    where
      on : first_refusal (refusals next (length u) (carry_erase list job n)) ≡ none → (k : ℕ) → k ≤ job + n → Interrupted st list v (step next u (carry_erase list job n)).volume k
      on e k p =
          less_safe
          (whole h next f job n (omega arith) (λ m q. let z : ◌≡◌ {A = ℕ} 0 1 = cc ((refused_exactly next u (carry_erase list job n) m).0 q) in omega arith)) k
          (omega arith)

      by : first_refusal (refusals next (length u) (carry_erase list job n)) ≡ none → (t : Bool) → finishes (map_of next) list job n ≡ t
          → Left (answered job (carry_answer t (job + n))) (step next u (carry_erase list job n)).volume
      by e true q = on e (length (erase_order (map_of st) list)) (rw (← f.map) (leb-true _ _ q))
      by e false q = on e (job + n) (omega arith)

      go : (o : Option ℕ) → first_refusal (refusals next (length u) (carry_erase list job n)) ≡ o
          → Left (answered job (step next u (carry_erase list job n)).answer) (step next u (carry_erase list job n)).volume
      go none e =
          subst (λ (a : Answer). Left (answered job a) (step next u (carry_erase list job n)).volume) (sym (ap (λ (r : Result). r.answer) (carries next u list job n e)))
          (by e (finishes (map_of next) list job n) refl)
      go (some k) e = subst (λ (r : Result). Left (answered job r.answer) r.volume) (refused-step next u (carry_erase list job n) k e) h

  -- any call, where it leaves the volume unless it carries the job on
  call_left : (breaks : Breaks) (s : Standing) (next : State) (u : List ℕ) (c : Call) → Fits st next → (T (not (carries_job list s c)) → (step next u c).volume ≡ u) → Left s u
      → Left (after breaks list s next c (step next u c)) (step next u c).volume
  unfolding Left after carries_job
  call_left breaks finished next u c f q h = rw (q tt) h
  call_left breaks broken next u c f q h = tt
  call_left breaks (pending job) next u c f q h =
      breaking (breaks list job next c (step next u c)) (cond (carries_on list job c) (answered job (step next u c).answer) (pending job)) (carrying (carries_on list job c) refl)
    where
      breaking : (t : Bool) (s : Standing) → Left s (step next u c).volume → Left (cond t broken s) (step next u c).volume
      breaking true s m = tt
      breaking false s m = m

      carrying : (t : Bool) → carries_on list job c ≡ t → Left (cond t (answered job (step next u c).answer) (pending job)) (step next u c).volume
      carrying false e = rw (q (rw e tt)) h
      carrying true e =
          let p = carries_on_lem list job c (rw e tt) in
          subst (λ (d : Call). Left (answered job (step next u d).answer) (step next u d).volume) (sym p.1) (carry_left next u job p.0 f h)

  -- a run
  run_left : (breaks : Breaks) (s : Standing) (next : State) (u : List ℕ) (cs : List Call) → Fits st next → NothingElseStored breaks list s next u cs → Left s u
      → Left (standing breaks list s next u cs) (run next u cs).volume
  unfolding NothingElseStored run standing
  run_left breaks s next u [] f q h = h
  run_left breaks s next u (c ∷ cs) f q h =
      run_left breaks (after breaks list s next c (step next u c)) (step next u c).state (step next u c).volume cs (fits_after next u c f) q.1
      (call_left breaks s next u c f q.0 h)

  -- after a reboot with a job that was kept: any calls that carry it on
  pub run_on : (breaks : Breaks) {u : List ℕ} {k : ℕ} → Interrupted st list v u k → (next : State) → Fits st next → (job : ℕ) → job ≤ k → (calls : List Call)
      → NothingElseStored breaks list (pending job) next u calls
      → ((j : ℕ) → standing breaks list (pending job) next u calls ≡ pending j → Interrupted st list v (run next u calls).volume j)
      × (standing breaks list (pending job) next u calls ≡ finished → Interrupted st list v (run next u calls).volume (length (erase_order (map_of st) list)))
  unfolding Left
  run_on breaks {u} r next f job jk calls nothing =
      let l = run_left breaks (pending job) next u calls f nothing (less_safe r job jk) in
      ((λ j q. subst (λ (s : Standing). Left s (run next u calls).volume) q l), λ q. subst (λ (s : Standing). Left s (run next u calls).volume) q l)

-- no call changes the map or the erase value
pub run_fits : (st : State) (v : List ℕ) (calls : List Call) → Fits st (run st v calls).state × Fits (run st v calls).state st
run_fits st v calls = (record { map = run-map st v calls; value = run_value st v calls }, record { map = sym (run-map st v calls); value = sym (run_value st v calls) })

-- a broken job stays so
stays_broken : (breaks : Breaks) (list : List ℕ) (st : State) (v : List ℕ) (cs : List Call) → standing breaks list broken st v cs ≡ broken
unfolding standing after
stays_broken breaks list st v [] = refl
stays_broken breaks list st v (c ∷ cs) = stays_broken breaks list (step st v c).state (step st v c).volume cs

-- a job that is given is not past the end of the order
given_within : (m list : List ℕ) (job : ℕ) → job_given m list job ≡ true → job ≤ length (erase_order m list)
unfolding job_given
given_within m list job e = go (eqb job 0) refl e
  where
    go : (t : Bool) → eqb job 0 ≡ t → (t || ltb job (length (erase_order m list))) ≡ true → job ≤ length (erase_order m list)
    go true q h = let z : job ≡ 0 = eqb-true _ _ q in omega arith
    go false q h = let z : job < length (erase_order m list) = ltb-true _ _ h in omega arith

-- a run from acceptance on
module _ (breaks : Breaks) (st : State) (v list : List ℕ) (calls : List Call) where
  abbrev r : Result
  r = step st v (accept_erase list)

  abbrev e : After
  e = run st v (accept_erase list ∷ calls)

  was_accepted : (s : Standing) → (s ≡ broken → ⊥) → standing breaks list (accepted r.answer) r.state r.volume calls ≡ s → r.answer ≡ success (0 ∷ [])
  unfolding accepted
  was_accepted s live q =
      accept_cases (λ (y : Result). standing breaks list (accepted y.answer) y.state y.volume calls ≡ s → y.answer ≡ success (0 ∷ [])) st v list (λ p h. refl)
      (λ n h. absurd (live (sym h ∙ stays_broken breaks list st v calls))) q

  module _ (nothing : NothingElseStored breaks list (accepted r.answer) r.state r.volume calls) where
    left : Left st v list (standing breaks list (accepted r.answer) r.state r.volume calls) e.volume
    unfolding Left accepted run
    left =
        run_left st v list breaks (accepted r.answer) r.state r.volume calls (fits_after st v list st v (accept_erase list) (record { map = refl; value = refl })) nothing
        (accept_cases (λ (y : Result). Left st v list (accepted y.answer) y.volume) st v list (λ p. start) (λ n. tt))

    -- the volume that it leaves, with the job last answered, or all of the order where it has answered finished
    pub interrupted_run : ((k : ℕ) → standing breaks list (accepted r.answer) r.state r.volume calls ≡ pending k → Interrupted st list v e.volume k)
        × (standing breaks list (accepted r.answer) r.state r.volume calls ≡ finished → Interrupted st list v e.volume (length (erase_order (map_of st) list)))
    unfolding Left
    interrupted_run = ((λ k q. subst (λ (s : Standing). Left st v list s e.volume) q left), λ q. subst (λ (s : Standing). Left st v list s e.volume) q left)

    -- after a cut inside a call that carried the job on from its place k by m
    pub carried_through_cut : (k : ℕ) → standing breaks list (accepted r.answer) r.state r.volume calls ≡ pending k → (u : List ℕ) (m : ℕ) → length u ≡ length v
        → ((i : ℕ) → member i (part k (k + m) (erase_order (map_of st) list)) ≡ false → get_or u i 0 ≡ get_or e.volume i 0)
        → (next : State) → Fits st next → (job n : ℕ) → job ≤ k → length (erase_order (map_of st) list) ≤ job + n
        → ((number : ℕ) → (step next u (carry_erase list job n)).answer ≡ refused number → ⊥)
        → step next u (carry_erase list job n) ≡ result_of (success []) next (step st v (erase_blocks list)).volume []
    carried_through_cut k q u m long same =
        cuts_mended st v list (0 ∷ []) (was_accepted (pending k) (λ h. let z : ◌≡◌ {A = ℕ} 0 1 = cc in omega arith) q)
        (cut (interrupted_run.0 k q) k m (omega arith) u (long ∙ sym (run_length st v (accept_erase list ∷ calls))) same)

    -- the same with the state and the volume that the run left
    pub carried_through : (k : ℕ) → standing breaks list (accepted r.answer) r.state r.volume calls ≡ pending k
        → (job n : ℕ) → job ≤ k → length (erase_order (map_of st) list) ≤ job + n
        → ((number : ℕ) → (step e.state e.volume (carry_erase list job n)).answer ≡ refused number → ⊥)
        → step e.state e.volume (carry_erase list job n) ≡ result_of (success []) e.state (step st v (erase_blocks list)).volume []
    carried_through k q =
        let c = accept_erase list ∷ calls in
        carried_through_cut k q e.volume 0 (run_length st v c) (λ i h. refl) e.state (run_fits st v c).0

    -- and where it has answered finished, from any job that is given
    pub carried_through_finished : standing breaks list (accepted r.answer) r.state r.volume calls ≡ finished
        → (next : State) → Fits st next → (job n : ℕ) → length (erase_order (map_of st) list) ≤ job + n
        → ((number : ℕ) → (step next e.volume (carry_erase list job n)).answer ≡ refused number → ⊥)
        → step next e.volume (carry_erase list job n) ≡ result_of (success []) next (step st v (erase_blocks list)).volume []
    carried_through_finished q next f job n out free =
        let given = (carry_passed next (length e.volume) list job n (passed next e.volume (carry_erase list job n) free)).1 in
        cuts_mended st v list (0 ∷ []) (was_accepted finished (λ h. let z : ◌≡◌ {A = ℕ} 0 1 = cc in omega arith) q) (interrupted_run.1 q) next f job n
        (given_within (map_of st) list job (rw f.map at given)) out free
