-- What a carrying on leaves in each byte, and what it answers.
use Prim.Native.Nat.{ℕ, ◌+◌, ◌≤◌, ◌<◌}
use mathlib.Core.Bool.{Bool, true, false, not, cond, ◌||◌, true≢false}
use mathlib.Core.List.{List, [], ◌∷◌}
use mathlib.Core.Option.{Option, none, some}
use mathlib.Core.Path.{◌≡◌, refl, sym, ap, ap₂, subst, ◌∙◌}
use native.Mathlib.Omega.{arith}
use borrow.Author.Tests.{not-false, le-leb, lt-leb, eqb-true, ltb-true}
use lib.Dec.{T, eqb, ltb}
use lib.ListN.{length, get_or, take}
use lib.Seq.{take_all}
use Rattle.common.specs.Answers.{Answer, refused}
use Rattle.common.specs.Refusals.{Row, row, first_refusal, unless_refused}
use Rattle.volume.specs.Attributes.{write_status}
use Rattle.common.proofs.Edit.{get_d_kept}
use Rattle.volume.specs.BlockMap.{blocks, bytes}
use Rattle.volume.specs.State.{map_of}
use Rattle.volume.specs.declared.state.State.{State}
use Rattle.block_service.specs.Access.{keep, erase, erased_byte, changed_byte}
use Rattle.block_service.specs.Blocks.{in_block, block_at}
use Rattle.block_service.specs.Erase.{good_list, names, reaches}
use Rattle.block_service.specs.Carry.{filled, Progressed}
use Rattle.block_service.specs.Order.{member, part, erase_order, job_given, carry_change, finishes}
use Rattle.block_service.specs.Service.{carry_erase, lent_refusals, refusals, effect, Result, result_of, perform, buffer_of, step, progress_answer, carry_answer}
use Rattle.std.specs.Prelude.{Result as Outcome, Ok, Err}
use Rattle.common.specs.declared.refusal.Refusal.{Refusal}
use Rattle.block_service.specs.declared.jobs.Progress.{Progress}
use Rattle.block_service.proofs.blocks.Places.{in_some_block, before_first_byte, first_byte_end}
use Rattle.block_service.proofs.carry.OrderLists.{part-member, part_none}
use Rattle.block_service.proofs.carry.Fills.{filled_none}
use Rattle.block_service.proofs.carry.Orders.{order_named}
use Rattle.block_service.proofs.carry.Portions.{carried-filled}
use Rattle.block_service.proofs.erase.Lists.{names_within}
use Rattle.block_service.proofs.service.Steps.{refused-step, allowed_step, lent_first, lent_2, lent_last, carry_passed, passed_erase}

-- a byte in no block that the list names stays
pub carry_other : (st : State) (v list : List ℕ) (job n : ℕ) → first_refusal (refusals st (length v) (carry_erase list job n)) ≡ none
    → (i : ℕ) → ((b : ℕ) → T (names list b) → T (in_block (map_of st) b i) → ⊥) → get_or (step st v (carry_erase list job n)).volume i 0 ≡ get_or v i 0
unfolding perform effect changed_byte carry_change
carry_other st v list job n e i k =
    sym (ap (λ (r : Result). get_or r.volume i 0) (allowed_step st v (carry_erase list job n) e))
    ∙ get_d_kept (λ i old. changed_byte st.attributes (carry_change (map_of st) list job n i) old) v i
    (pick (member i (part job (job + n) (erase_order (map_of st) list))) refl)
  where
    within : (b : ℕ) → T (names list b) → b < blocks (map_of st)
    within = names_within _ list (not-false _ (passed_erase st (length v) list (carry_passed st (length v) list job n e).0).last)

    pick : (t : Bool) → member i (part job (job + n) (erase_order (map_of st) list)) ≡ t → changed_byte st.attributes (cond t erase keep) (get_or v i 0) ≡ get_or v i 0
    pick true q =
        let m : T (member i (erase_order (map_of st) list)) = part-member i job (job + n) (erase_order (map_of st) list) (rw q tt) in
        let t : T (names list (block_at (map_of st) i)) = rw (order_named (map_of st) list i within) at m in
        let w : i < bytes (map_of st) = rw (first_byte_end (map_of st)) at (before_first_byte (map_of st) i (blocks (map_of st)) (omega arith) (within (block_at (map_of st) i) t)) in
        absurd (k (block_at (map_of st) i) t (in_some_block (map_of st) i w))
    pick false q = refl

-- ---- what is answered of a good list

module _ (m w : List ℕ) (value job stores all : ℕ) (v u : List ℕ) (t : Bool) (et : t ≡ (eqb job 0 || ltb job all)) (ea : all ≡ length (erase_order m w))
    (eu : u ≡ filled value (part 0 0 (erase_order m w)) v) where
  kept : u ≡ v
  kept = eu ∙ rw (part_none 0 0 (erase_order m w) (omega arith)) (filled_none value v)

  given : job_given m w job ≡ t
  unfolding job_given
  given = rw (et, ea)

  pub progress_2 : t ≡ false → (reached : Bool) → Progressed m w value reached job stores v (Err Refusal.InvalidParameter) u
  unfolding first_refusal progress_answer
  progress_2 z reached = record { told = rw (given, z); left = rw (given, z) kept }

  pub progress_15 : t ≡ true → (reached : Bool) → reached ≡ true → Progressed m w value reached job stores v (Err Refusal.AccessDenied) u
  unfolding first_refusal progress_answer
  progress_15 z reached r = record { told = rw (given, z, r); left = rw (given, z, r) kept }

  pub progress_done : t ≡ true → (reached : Bool) → reached ≡ false → all ≤ job + stores → (x : List ℕ) → x ≡ filled value (part job all (erase_order m w)) u
      → Progressed m w value reached job stores v (Ok Progress.Finished) x
  unfolding first_refusal progress_answer carry_answer finishes part
  progress_done z reached r h x ex =
      let long : length (erase_order m w) ≤ job + stores = omega arith in
      let same : take all (erase_order m w) ≡ take (job + stores) (erase_order m w) = take_all all (erase_order m w) (omega arith) ∙ sym (take_all (job + stores) (erase_order m w) long) in
      record { told = rw (given, z, r, le-leb _ _ long); left = rw (given, z, r) (ex ∙ rw (same, kept)) }

  pub progress_job : t ≡ true → (reached : Bool) → reached ≡ false → job + stores < all → (x : List ℕ) → x ≡ filled value (part job (job + stores) (erase_order m w)) u
      → Progressed m w value reached job stores v (Ok (Progress.Job (job + stores))) x
  unfolding first_refusal progress_answer carry_answer finishes
  progress_job z reached r h x ex =
      let short : job + stores < length (erase_order m w) = omega arith in
      record { told = rw (given, z, r, lt-leb _ _ short); left = rw (given, z, r) (ex ∙ rw kept) }

-- the rows that are left of a good list
carry_rows : (st : State) (n : ℕ) (w : List ℕ) (job k : ℕ) → first_refusal (lent_refusals st n write_status) ≡ none → good_list (blocks (map_of st)) w ≡ true
    → first_refusal (refusals st n (carry_erase w job k)) ≡ first_refusal (row (not (job_given (map_of st) w job)) 2 ∷ row (reaches st.protected w) 15 ∷ [])
unfolding refusals
carry_rows st n w job k lent good = lent_last st n write_status _ _ lent (ap not good)

-- by what the rows say, a refusal or the portion
finish : (st : State) (v w : List ℕ) (job n : ℕ) (r : Outcome Progress Refusal) (u : List ℕ) (o : Option ℕ) → first_refusal (refusals st (length v) (carry_erase w job n)) ≡ o
    → progress_answer r ≡ unless_refused (λ k. refused k) o (carry_answer (finishes (map_of st) w job n) (job + n))
    → u ≡ unless_refused (λ k. v) o (filled (erased_byte st.attributes) (part job (job + n) (erase_order (map_of st) w)) v)
    → result_of (progress_answer r) st u [] ≡ step st v (carry_erase w job n)
unfolding perform effect buffer_of
finish st v w job n r u none e a b =
    ap₂ (λ (x : Answer) (y : List ℕ). result_of x st y []) a (b ∙ sym (carried-filled st.attributes (map_of st) w job n v)) ∙ allowed_step st v (carry_erase w job n) e
finish st v w job n r u (some k) e a b = ap₂ (λ (x : Answer) (y : List ℕ). result_of x st y []) a b ∙ refused-step st v (carry_erase w job n) k e

-- a refusal by the rows of the lent volume is the call's, and so is 2 for a bad list where they pass
pub carry_refused : (st : State) (v w : List ℕ) (job n k : ℕ) → first_refusal (lent_refusals st (length v) write_status) ≡ some k
    → result_of (refused k) st v [] ≡ step st v (carry_erase w job n)
unfolding refusals buffer_of
carry_refused st v w job n k e = refused-step st v (carry_erase w job n) k (lent_first st (length v) write_status _ k e)

pub carry_bad : (st : State) (v w : List ℕ) (job n : ℕ) → first_refusal (lent_refusals st (length v) write_status) ≡ none → not (good_list (blocks (map_of st)) w) ≡ true
    → result_of (refused 2) st v [] ≡ step st v (carry_erase w job n)
unfolding refusals buffer_of
carry_bad st v w job n e bad = refused-step st v (carry_erase w job n) 2 (lent_2 st (length v) write_status _ _ e bad)

-- so a carrying on whose first rows pass does what is said of a good list
pub progress_step : (st : State) (v w : List ℕ) (job n : ℕ) (r : Outcome Progress Refusal) (u : List ℕ) → first_refusal (lent_refusals st (length v) write_status) ≡ none
    → good_list (blocks (map_of st)) w ≡ true → Progressed (map_of st) w (erased_byte st.attributes) (reaches st.protected w) job n v r u
    → result_of (progress_answer r) st u [] ≡ step st v (carry_erase w job n)
progress_step st v w job n r u lent good p = go (first_refusal rest) refl
  where
    rest : List Row
    rest = row (not (job_given (map_of st) w job)) 2 ∷ row (reaches st.protected w) 15 ∷ []

    rows : first_refusal (refusals st (length v) (carry_erase w job n)) ≡ first_refusal rest
    rows = carry_rows st (length v) w job n lent good

    go : (o : Option ℕ) → first_refusal rest ≡ o → result_of (progress_answer r) st u [] ≡ step st v (carry_erase w job n)
    go o e = finish st v w job n r u o (rows ∙ e) (subst (λ (x : Option ℕ). progress_answer r ≡ unless_refused (λ k. refused k) x (carry_answer (finishes (map_of st) w job n) (job + n))) e p.told)
        (subst (λ (x : Option ℕ). u ≡ unless_refused (λ k. v) x (filled (erased_byte st.attributes) (part job (job + n) (erase_order (map_of st) w)) v)) e p.left)

-- a job that is given is at most the number of bytes of the order
pub given-le : (job all : ℕ) (t : Bool) → t ≡ (eqb job 0 || ltb job all) → t ≡ true → job ≤ all
given-le job all t e z = go (eqb job 0) refl (ltb job all) refl (sym e ∙ z)
  where
    go : (x : Bool) → eqb job 0 ≡ x → (y : Bool) → ltb job all ≡ y → (x || y) ≡ true → job ≤ all
    go true p y q h = let k = eqb-true job 0 p in omega arith
    go false p true q h = let k : job < all = ltb-true _ _ q in omega arith
    go false p false q h = absurd (true≢false (sym h))

-- the same of an equal value and an equal test
pub progressed_as : (m w : List ℕ) (value x : ℕ) (reached y : Bool) (job n : ℕ) (v : List ℕ) (r : Outcome Progress Refusal) (u : List ℕ) → value ≡ x → reached ≡ y
    → Progressed m w value reached job n v r u → Progressed m w x y job n v r u
progressed_as m w value x reached y job n v r u p q h =
    subst (λ (z : Bool). Progressed m w x z job n v r u) q (subst (λ (z : ℕ). Progressed m w z reached job n v r u) p h)
