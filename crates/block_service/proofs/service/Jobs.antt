-- Accepting an erase list and carrying its job on, call after call: what is answered and left, that portions add up, that the two operations are the erase, and
-- what carrying on again after a cut leaves.
use Prim.Native.Nat.{ℕ, ◌+◌, ◌≤◌, ◌<◌}
use mathlib.Core.Bool.{Bool, true, false, not, cond, ◌||◌, or-true, true≢false}
use mathlib.Core.List.{List, [], ◌∷◌}
use mathlib.Core.Option.{Option, none, some}
use mathlib.Core.Path.{◌≡◌, refl, sym, ap, ◌∙◌}
use native.Mathlib.Nat.{zero-add}
use native.Mathlib.Omega.{arith}
use borrow.Author.Tests.{not-false, le-leb, lt-ltb, leb-true, leb-false, eqb-true, ltb-true}
use lib.Dec.{T, eqb, leb, ltb}
use lib.ListN.{length, get_or}
use Rattle.common.specs.Answers.{Answer, refused, success, short}
use Rattle.common.specs.Refusals.{first_refusal}
use Rattle.common.proofs.Edit.{length-edit}
use Rattle.common.proofs.Refusals.{row_applies, row_passes}
use Rattle.volume.specs.Attributes.{flag, write_status}
use Rattle.volume.specs.BlockMap.{blocks}
use Rattle.volume.specs.State.{map_of, unlawful}
use Rattle.volume.specs.declared.state.State.{State}
use Rattle.volume.proofs.state.Lawful.{lent_within}
use Rattle.block_service.specs.Access.{erased_byte, changed_byte}
use Rattle.block_service.specs.Erase.{good_list, names}
use Rattle.block_service.specs.Order.{member, part, erase_order, job_given, carry_change, finishes}
use Rattle.block_service.specs.Service.{erase_blocks, accept_erase, carry_erase, refusals, effect, carry_answer, Result, result_of, perform, buffer_of, step}
use Rattle.block_service.proofs.carry.Orders.{order_short}
use Rattle.block_service.proofs.carry.Portions as Portions
use Rattle.block_service.proofs.carry.Portions.{carried, carried-filled, filled_byte, portions, by_none, to_the_end, torn}
use Rattle.block_service.proofs.erase.Lists.{names_within, names-reaches}
use Rattle.block_service.proofs.service.Carrying.{carry_refused, carry_bad}
use Rattle.block_service.proofs.service.Erasing.{erase_allowed}
use Rattle.block_service.proofs.service.Kept.{length_kept}
use Rattle.block_service.proofs.service.Steps.{refused-step, allowed_step, passed, passed_success, passed_erase, carry_passed, carry_passes, lent_last}
use Rattle.block_service.proofs.service.Steps.{refused_exactly, lent_passes, lent_5, lent_15, order_5, order_15_write, order_2_write, order_15_protected}

-- ---- acceptance

-- stores nothing
pub accept_stores_nothing : (st : State) (v list : List ℕ) → (step st v (accept_erase list)).volume ≡ v
unfolding perform effect buffer_of
accept_stores_nothing st v list = go (first_refusal (refusals st (length v) (accept_erase list))) refl
  where
    go : (o : Option ℕ) → first_refusal (refusals st (length v) (accept_erase list)) ≡ o → (step st v (accept_erase list)).volume ≡ v
    go none e = sym (ap (λ (r : Result). r.volume) (allowed_step st v (accept_erase list) e))
    go (some n) e = sym (ap (λ (r : Result). r.volume) (refused-step st v (accept_erase list) n e))

-- where the erase of the list passes its rows, the job 0 is answered; where it is refused, so is the acceptance
pub accepts : (st : State) (v list : List ℕ) → first_refusal (refusals st (length v) (erase_blocks list)) ≡ none
    → step st v (accept_erase list) ≡ result_of (success (0 ∷ [])) st v []
unfolding refusals perform effect buffer_of
accepts st v list e = sym (allowed_step st v (accept_erase list) e)

accept_refuses : (st : State) (v list : List ℕ) (n : ℕ) → first_refusal (refusals st (length v) (erase_blocks list)) ≡ some n
    → step st v (accept_erase list) ≡ result_of (refused n) st v []
unfolding refusals buffer_of
accept_refuses st v list n e = sym (refused-step st v (accept_erase list) n e)

-- so it is accepted exactly where the erase succeeds, and refused with the same number
pub accept_as_erase : (st : State) (v list : List ℕ)
    → ((step st v (erase_blocks list)).answer ≡ success [] → step st v (accept_erase list) ≡ result_of (success (0 ∷ [])) st v [])
    × ((n : ℕ) → (step st v (erase_blocks list)).answer ≡ refused n → step st v (accept_erase list) ≡ result_of (refused n) st v [])
accept_as_erase st v list = (
  (λ h. accepts st v list (passed_success st v (erase_blocks list) [] h)),
  λ n h. accept_refuses st v list n ((refused_exactly st v (erase_blocks list) n).0 h),
)

-- where a job is answered, the erase passes its rows
accepted_passes : (st : State) (v list values : List ℕ) → (step st v (accept_erase list)).answer ≡ success values → first_refusal (refusals st (length v) (erase_blocks list)) ≡ none
unfolding refusals
accepted_passes st v list values h = passed_success st v (accept_erase list) values h

-- and the volume has room for the order
pub order_within : (st : State) (v list values : List ℕ) → (step st v (accept_erase list)).answer ≡ success values → length (erase_order (map_of st) list) ≤ length v
order_within st v list values h =
    let p = passed_erase st (length v) list (accepted_passes st v list values h) in
    omega (arith, order_short (map_of st) list (names_within _ list (not-false _ p.last)), lent_within st p.lawful (length v) p.long)

-- ---- carrying on

-- a carrying on that no row refuses
pub carries : (st : State) (v list : List ℕ) (job n : ℕ) → first_refusal (refusals st (length v) (carry_erase list job n)) ≡ none
    → step st v (carry_erase list job n) ≡ result_of (carry_answer (finishes (map_of st) list job n) (job + n)) st (carried st.attributes (map_of st) list job n v) []
unfolding perform effect buffer_of
carries st v list job n e = sym (allowed_step st v (carry_erase list job n) e)

-- what its answers say
carry_success : (t : Bool) (j : ℕ) (values : List ℕ) → carry_answer t j ≡ success values → t ≡ true
unfolding carry_answer
carry_success true j values e = refl
carry_success false j values e = absurd (let z : ◌≡◌ {A = ℕ} 0 1 = cc in omega arith)

carry_short : (t : Bool) (j k : ℕ) → carry_answer t j ≡ short (k ∷ []) → (t ≡ false) × (k ≡ j)
unfolding carry_answer
carry_short true j k e = absurd (let z : ◌≡◌ {A = ℕ} 0 1 = cc in omega arith)
carry_short false j k e = (refl, cc)

-- of a good list and a job that is given
pub carry_allowed : (st : State) (v list : List ℕ) → unlawful st ≡ false → st.length ≤ length v → flag st.attributes write_status ≡ true
    → good_list (blocks (map_of st)) list ≡ true → ((b : ℕ) → T (names list b) → b < st.protected) → (job n : ℕ) → job_given (map_of st) list job ≡ true
    → step st v (carry_erase list job n) ≡ result_of (carry_answer (finishes (map_of st) list job n) (job + n)) st (carried st.attributes (map_of st) list job n v) []
carry_allowed st v list ok long on good free job n given =
    carries st v list job n
    (carry_passes st (length v) list job n
    (passed_success st v (erase_blocks list) [] (ap (λ (r : Result). r.answer) (erase_allowed st v list ok long on good free))) given)

module _ (st : State) (v list : List ℕ) (job n : ℕ) where
  abbrev order : List ℕ
  order = erase_order (map_of st) list

  carry_told : (a : Answer) → (step st v (carry_erase list job n)).answer ≡ a → first_refusal (refusals st (length v) (carry_erase list job n)) ≡ none
      → carry_answer (finishes (map_of st) list job n) (job + n) ≡ a
  carry_told a h e = sym (ap (λ (r : Result). r.answer) (carries st v list job n e)) ∙ h

  unrefused_short : (k : ℕ) → (step st v (carry_erase list job n)).answer ≡ short (k ∷ []) → first_refusal (refusals st (length v) (carry_erase list job n)) ≡ none
  unrefused_short k h = passed st v (carry_erase list job n) (λ m e. let z : ◌≡◌ {A = ℕ} 0 1 = cc in omega arith)

  -- finished: nothing is left
  pub carry_finished : (step st v (carry_erase list job n)).answer ≡ success [] → length (erase_order (map_of st) list) ≤ job + n
  unfolding finishes
  carry_finished h = leb-true _ _ (carry_success _ _ [] (carry_told (success []) h (passed_success st v (carry_erase list job n) [] h)))

  -- or the job as it now stands, of which something is left
  pub carry_unfinished : (k : ℕ) → (step st v (carry_erase list job n)).answer ≡ short (k ∷ []) → (k ≡ job + n) × (k < length (erase_order (map_of st) list))
  unfolding finishes
  carry_unfinished k h =
      let p = carry_short _ _ k (carry_told (short (k ∷ [])) h (unrefused_short k h)) in
      let q : job + n < length (erase_order (map_of st) list) = leb-false _ _ p.0 in
      (p.1, omega (arith, p.1))

  -- which the map and the list give
  pub answered-given : (k : ℕ) → (step st v (carry_erase list job n)).answer ≡ short (k ∷ []) → job_given (map_of st) list k ≡ true
  unfolding job_given
  answered-given k h = rw (lt-ltb k (length (erase_order (map_of st) list)) (carry_unfinished k h).1) (or-true (eqb k 0))

  -- each byte after it
  pub carry_byte : ((k : ℕ) → (step st v (carry_erase list job n)).answer ≡ refused k → ⊥) → (i : ℕ) → i < length v
      → get_or (step st v (carry_erase list job n)).volume i 0
      ≡ cond (member i (part job (job + n) (erase_order (map_of st) list))) (erased_byte st.attributes) (get_or v i 0)
  carry_byte h i k =
      rw (carries st v list job n (passed st v (carry_erase list job n) h), carried-filled st.attributes (map_of st) list job n v)
      (filled_byte (erased_byte st.attributes) (part job (job + n) (erase_order (map_of st) list)) v i k)

  -- a portion and then another are one
  pub portions_add : (j k : ℕ) → (step st v (carry_erase list job n)).answer ≡ short (j ∷ [])
      → step (step st v (carry_erase list job n)).state (step st v (carry_erase list job n)).volume (carry_erase list j k) ≡ step st v (carry_erase list job (n + k))
  unfolding finishes
  portions_add j k h =
      let e = unrefused_short j h in
      let u : List ℕ = carried st.attributes (map_of st) list job n v in
      let rows = (carry_passed st (length v) list job n e).0 in
      let long : length u ≡ length v = length-edit (λ i old. changed_byte st.attributes (carry_change (map_of st) list job n i) old) 0 v in
      let z : j ≡ job + n = (carry_unfinished j h).0 in
      let s : job + n + k ≡ job + (n + k) = omega arith in
      ap (λ (r : Result). step r.state r.volume (carry_erase list j k)) (carries st v list job n e)
      ∙ carries st u list j k (carry_passes st (length u) list j k (rw long rows) (answered-given j h))
      ∙ rw (z, portions st.attributes (map_of st) list v job n k, s)
      (sym (carries st v list job (n + k) (carry_passes st (length v) list job (n + k) rows (carry_passed st (length v) list job n e).1)))

-- by 0 nothing changes, refused or not
pub carry_none : (st : State) (v list : List ℕ) (job : ℕ) → (step st v (carry_erase list job 0)).volume ≡ v
carry_none st v list job = go (first_refusal (refusals st (length v) (carry_erase list job 0))) refl
  where
    go : (o : Option ℕ) → first_refusal (refusals st (length v) (carry_erase list job 0)) ≡ o → (step st v (carry_erase list job 0)).volume ≡ v
    go none e = ap (λ (r : Result). r.volume) (carries st v list job 0 e) ∙ by_none st.attributes (map_of st) list v job
    go (some n) e = sym (ap (λ (r : Result). r.volume) (refused-step st v (carry_erase list job 0) n e))

-- ---- of an accepted list

module _ (st : State) (v list values : List ℕ) (accepted : (step st v (accept_erase list)).answer ≡ success values) where
  passes : first_refusal (refusals st (length v) (erase_blocks list)) ≡ none
  passes = accepted_passes st v list values accepted

  zero_given : job_given (map_of st) list 0 ≡ true
  unfolding job_given
  zero_given = refl

  -- a job is carried on, in any volume of that length
  job_carries : (u : List ℕ) → length u ≡ length v → (job n : ℕ) → job_given (map_of st) list job ≡ true
      → step st u (carry_erase list job n) ≡ result_of (carry_answer (finishes (map_of st) list job n) (job + n)) st (carried st.attributes (map_of st) list job n u) []
  job_carries u e job n given = carries st u list job n (carry_passes st (length u) list job n (rw e passes) given)

  -- every job that is given but 0 is what carrying on by so many stores answers
  pub given-answered : (job : ℕ) → job_given (map_of st) list job ≡ true → 0 < job → (step st v (carry_erase list 0 job)).answer ≡ short (job ∷ [])
  unfolding job_given finishes carry_answer
  given-answered job given some' =
      rw (job_carries v refl 0 job zero_given, zero-add job) (go (leb (length (erase_order (map_of st) list)) job) refl)
    where
      below : (s t : Bool) → eqb job 0 ≡ s → ltb job (length (erase_order (map_of st) list)) ≡ t → (s || t) ≡ true → job < length (erase_order (map_of st) list)
      below true t p q h = let z = eqb-true job 0 p in absurd (omega arith)
      below false true p q h = ltb-true _ _ q
      below false false p q h = absurd (true≢false (sym h))

      go : (t : Bool) → leb (length (erase_order (map_of st) list)) job ≡ t → cond t (success []) (short (job ∷ [])) ≡ short (job ∷ [])
      go true e = let k : length (erase_order (map_of st) list) ≤ job = leb-true _ _ e in absurd (omega (arith, below _ _ refl refl given))
      go false e = refl

  -- by as many stores as the order has bytes, or more, it is the erase
  pub carried_out : (n : ℕ) → length (erase_order (map_of st) list) ≤ n → step st v (carry_erase list 0 n) ≡ step st v (erase_blocks list)
  unfolding perform effect buffer_of finishes carry_answer
  carried_out n h =
      let good = names_within _ list (not-false _ (passed_erase st (length v) list passes).last) in
      job_carries v refl 0 n zero_given
      ∙ rw (zero-add n, le-leb _ _ h, to_the_end st.attributes (map_of st) list v n good h) (allowed_step st v (erase_blocks list) passes)

  -- after a cut: two volumes that differ in bytes of the order from `from` on and below `to` become the same by carrying on from there or earlier, to there or past it
  pub mended : (u w : List ℕ) (job n from to : ℕ) → length u ≡ length v → length w ≡ length v → job ≤ from → to ≤ job + n → job_given (map_of st) list job ≡ true
      → ((i : ℕ) → member i (part from to (erase_order (map_of st) list)) ≡ false → get_or u i 0 ≡ get_or w i 0)
      → step st u (carry_erase list job n) ≡ step st w (carry_erase list job n)
  mended u w job n from to eu ew p q given h =
      job_carries u eu job n given
      ∙ ap (λ (x : List ℕ). result_of (carry_answer (finishes (map_of st) list job n) (job + n)) st x []) (torn st.attributes (map_of st) list job n from to u w p q (eu ∙ sym ew) h)
      ∙ sym (job_carries w ew job n given)

  -- so carrying on again from an earlier job, to the cut or past it, ends as without a cut
  pub again : (made job n : ℕ) → job ≤ made → made ≤ job + n → job_given (map_of st) list job ≡ true
      → step st (step st v (carry_erase list 0 made)).volume (carry_erase list job n) ≡ step st v (carry_erase list 0 (job + n))
  unfolding finishes
  again made job n p q given =
      let u : List ℕ = carried st.attributes (map_of st) list 0 made v in
      let eu : length u ≡ length v = length-edit (λ i old. changed_byte st.attributes (carry_change (map_of st) list 0 made i) old) 0 v in
      ap (λ (r : Result). step st r.volume (carry_erase list job n)) (job_carries v refl 0 made zero_given)
      ∙ job_carries u eu job n given
      ∙ rw (Portions.again st.attributes (map_of st) list v made job n p q) (sym (rw (zero-add (job + n)) at (job_carries v refl 0 (job + n) zero_given)))

  -- and a cut inside a portion, whatever bytes of the portion it left, ends in the erase
  pub cut_inside : (u : List ℕ) (job n from to : ℕ) → length u ≡ length v → job ≤ from → from ≤ to → to ≤ job + n → length (erase_order (map_of st) list) ≤ job + n
      → job_given (map_of st) list job ≡ true
      → ((i : ℕ) → member i (part from to (erase_order (map_of st) list)) ≡ false → get_or u i 0 ≡ get_or (step st v (carry_erase list 0 from)).volume i 0)
      → step st u (carry_erase list job n) ≡ step st v (erase_blocks list)
  cut_inside u job n from to eu p q r whole given h =
      mended u (step st v (carry_erase list 0 from)).volume job n from to eu (length_kept st v (carry_erase list 0 from)) p r given h
      ∙ again from job n p (omega arith) given
      ∙ carried_out (job + n) whole

-- the erase is an acceptance and then a carrying on to the end, refusals included
pub two_operations : (st : State) (v list : List ℕ) (n : ℕ) → length (erase_order (map_of st) list) ≤ n
    → ((k : ℕ) → (step st v (accept_erase list)).answer ≡ refused k → step st v (erase_blocks list) ≡ result_of (refused k) st v [])
    × ((job : ℕ) → (step st v (accept_erase list)).answer ≡ success (job ∷ [])
    → step (step st v (accept_erase list)).state (step st v (accept_erase list)).volume (carry_erase list job n) ≡ step st v (erase_blocks list))
unfolding refusals buffer_of
two_operations st v list n h = (
  (λ k e. sym (refused-step st v (erase_blocks list) k ((refused_exactly st v (accept_erase list) k).0 e))),
  λ job e.
      let a = accepts st v list (accepted_passes st v list (job ∷ []) e) in
      let z : job ≡ 0 = let q : success (job ∷ []) ≡ success (0 ∷ []) = sym e ∙ ap (λ (r : Result). r.answer) a in cc in
      ap (λ (r : Result). step r.state r.volume (carry_erase list job n)) a ∙ rw z (carried_out st v list (job ∷ []) e n h),
)

-- ---- the order of their refusals

pub jobs_5 : (st : State) (v list : List ℕ) → unlawful st ≡ false → length v < st.length
    → (step st v (accept_erase list) ≡ result_of (refused 5) st v []) × ((job n : ℕ) → step st v (carry_erase list job n) ≡ result_of (refused 5) st v [])
jobs_5 st v list ok h = (
  (accept_as_erase st v list).1 5 (ap (λ (r : Result). r.answer) ((order_5 st v ok h).2 list)),
  λ job n. sym (carry_refused st v list job n 5 (lent_5 st (length v) write_status ok h)),
)

module _ (st : State) (v list : List ℕ) (ok : unlawful st ≡ false) (long : st.length ≤ length v) where
  pub jobs_15 : flag st.attributes write_status ≡ false
      → (step st v (accept_erase list) ≡ result_of (refused 15) st v []) × ((job n : ℕ) → step st v (carry_erase list job n) ≡ result_of (refused 15) st v [])
  jobs_15 off = (
    (accept_as_erase st v list).1 15 (ap (λ (r : Result). r.answer) ((order_15_write st v ok long off).1 list)),
    λ job n. sym (carry_refused st v list job n 15 (lent_15 st (length v) write_status ok long off)),
  )

  module _ (on : flag st.attributes write_status ≡ true) where
    -- a bad list
    pub jobs_2 : good_list (blocks (map_of st)) list ≡ false
        → (step st v (accept_erase list) ≡ result_of (refused 2) st v []) × ((job n : ℕ) → step st v (carry_erase list job n) ≡ result_of (refused 2) st v [])
    jobs_2 bad = (
      (accept_as_erase st v list).1 2 (ap (λ (r : Result). r.answer) ((order_2_write st v ok long on).1 list bad)),
      λ job n. sym (carry_bad st v list job n (lent_passes st (length v) write_status ok long on) (ap not bad)),
    )

    -- a good list, and a job that is not given: whether blocks of the list are protected or not
    pub jobs_2_job : good_list (blocks (map_of st)) list ≡ true → (job n : ℕ) → job_given (map_of st) list job ≡ false
        → step st v (carry_erase list job n) ≡ result_of (refused 2) st v []
    unfolding refusals buffer_of
    jobs_2_job good job n e =
        sym (refused-step st v (carry_erase list job n) 2
        (lent_last st (length v) write_status _ _ (lent_passes st (length v) write_status ok long on) (ap not good) ∙ row_applies _ _ _ (ap not e)))

    -- a block of the list is protected
    pub jobs_15_protected : good_list (blocks (map_of st)) list ≡ true → (b : ℕ) → T (names list b) → st.protected ≤ b
        → (step st v (accept_erase list) ≡ result_of (refused 15) st v [])
        × ((job n : ℕ) → job_given (map_of st) list job ≡ true → step st v (carry_erase list job n) ≡ result_of (refused 15) st v [])
    unfolding refusals buffer_of
    jobs_15_protected good b t p = (
      (accept_as_erase st v list).1 15 (ap (λ (r : Result). r.answer) ((order_15_protected st v ok long on).1 list good b t p)),
      λ job n given.
          sym (refused-step st v (carry_erase list job n) 15
          (lent_last st (length v) write_status _ _ (lent_passes st (length v) write_status ok long on) (ap not good)
          ∙ row_passes _ _ _ _ (ap not given) (row_applies _ _ _ (names-reaches list st.protected b p t)))),
    )
