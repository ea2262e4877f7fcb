-- Demand 3: the core over bytes, put in terms of blocks, and then from opening on.
use Prim.Native.Nat.{ℕ, ◌+◌, ◌≤◌, ◌<◌}
use mathlib.Core.Path.{◌≡◌, refl, sym, ap, ap₂, subst, ◌∙◌}
use mathlib.Core.Bool.{Bool, true, false, not, cond, ◌&&◌, ◌||◌}
use mathlib.Core.List.{List, [], ◌∷◌, ◌++◌}
use mathlib.Core.Option.{Option, none, some}
use native.Mathlib.Omega.{arith}
use borrow.Author.Tests.{leb-true, ltb-true, leb-false}
use lib.Dec.{T, leb, ltb, eqb, eqb→eq}
use lib.ListN.{length, drop, drop_of_length-le}
use Rattle.common.specs.Answers.{Answer, refused, success, short}
use Rattle.common.specs.Refusals.{first_refusal, unless_refused}
use Rattle.block_service.specs.Access.{count_moved, keep, erase}
use Rattle.volume.specs.Attributes.{flag, read_status, write_status, read_lock_status, write_lock_status}
use Rattle.volume.specs.BlockMap.{blocks}
use Rattle.block_service.specs.Blocks.{place, in_block, start_of, length_of}
use Rattle.block_service.specs.Erase.{names, erase_change}
use Rattle.block_service.specs.Order.{member, part, erase_order, carry_change, finishes}
use Rattle.block_service.proofs.carry.OrderLists.{member-append, part_rest}
use Rattle.block_service.proofs.carry.Orders.{order_named}
use Rattle.block_service.proofs.erase.Lists.{names_within}
use Rattle.volume.specs.Header.{Opens, opened, open_volume}
use Rattle.block_service.specs.Service.{Call, get_attributes, set_attributes, get_physical_address, get_block_size, read, write, erase_blocks, protect_blocks, accept_erase, carry_erase}
use Rattle.block_service.specs.Service.{reply, refusals, effect, decide, move_answer, carry_answer, Result, perform, step}
use Rattle.volume.specs.State.{map_of, unlawful}
use Rattle.block_service.specs.Blocks.{Place, At, Missing}
use Rattle.volume.specs.declared.state.State.{State}
use Rattle.isolation.specs.Runs.{run, is_success, is_moved, names_block, same_list, carries_on, Breaks, touched, never, Standing, pending, finished, broken, answered, after, standing, is_finished, accepted, job_erases, erased_by, Alike, NoEarlyReadBy, NeverErasedBy, IsolatedBy, NoEarlyRead, Isolated}
use Rattle.block_service.proofs.blocks.Places.{in_block-block_at, in_block_of_bounds, in_one_block, found_start, found_end, place_lost}
use Rattle.block_service.proofs.service.Kept.{map_kept, edition_kept, lawful_kept, read_lock_kept, write_lock_kept}
use Rattle.volume.proofs.header.Reading.{opened_lawful}
use Rattle.block_service.proofs.service.Steps.{refused-step, allowed_step, passed_success, passed_read, accept_good}
use Rattle.isolation.specs.Bytes.{is_erase, erases_byte, copies_byte, erased_in_run, Without, Unread}
use Rattle.isolation.proofs.Bytes.{isolated-bytes}

-- ---- Booleans

both : (a b : Bool) → T (a && b) → T a × T b
both true true t = (tt, tt)
both true false t = absurd t
both false true t = absurd t
both false false t = absurd t

and_both : (a b : Bool) → T a → T b → T (a && b)
and_both true b t u = u
and_both false b t u = absurd t

either : (R : Type 0) (a b : Bool) → T (a || b) → (T a → R) → (T b → R) → R
either R true b t f g = f tt
either R false b t f g = g t

or_first : (a b : Bool) → T a → T (a || b)
or_first true b t = tt
or_first false b t = absurd t

or_second : (a b : Bool) → T b → T (a || b)
or_second true b t = tt
or_second false b t = t

-- from what follows where a test holds: it does not hold
refute : (a b : Bool) → (T a → T b) → T (not b) → T (not a)
refute true true f n = absurd n
refute true false f n = absurd (f tt)
refute false b f n = tt

-- ---- erases and reads, by block and by byte

-- an answer that is success
success_of : (R : Type 0) (a : Answer) → T (is_success a) → ((values : List ℕ) → a ≡ success values → R) → R
unfolding is_success
success_of R (refused n) t f = absurd t
success_of R (success values) t f = f values refl
success_of R (short values) t f = absurd t

-- a call that was not refused does its effect
allowed_effect : (st : State) (n : ℕ) (c : Call) → first_refusal (refusals st n c) ≡ none → decide st n c ≡ effect st c
unfolding decide
allowed_effect st n c e = rw e

-- the erase of a list erases every byte of every block that it names
named_erased : (st : State) (list : List ℕ) (b i : ℕ) → T (names list b) → T (in_block (map_of st) b i) → T (erases_byte (effect st (erase_blocks list)) i)
unfolding effect erases_byte is_erase erase_change
named_erased st list b i t k = rw (in_block-block_at (map_of st) b i k) (go (names list b) t)
  where
    go : (x : Bool) → T x → T (is_erase (cond x erase keep))
    go true y = tt
    go false y = absurd y

-- an erase that answers success erases every byte of every block that it names
erase_reaches : (st : State) (v : List ℕ) (c : Call) (b i : ℕ) → T (names_block c b && is_success (step st v c).answer) → T (in_block (map_of st) b i)
    → T (erases_byte (decide st (length v) c) i)
unfolding names_block
erase_reaches st v get_attributes b i t k = absurd t
erase_reaches st v (set_attributes new) b i t k = absurd t
erase_reaches st v get_physical_address b i t k = absurd t
erase_reaches st v (get_block_size x) b i t k = absurd t
erase_reaches st v (read x o buffer) b i t k = absurd t
erase_reaches st v (write x o new) b i t k = absurd t
erase_reaches st v (erase_blocks list) b i t k =
    let p = both (names list b) (is_success (step st v (erase_blocks list)).answer) t in
    success_of (T (erases_byte (decide st (length v) (erase_blocks list)) i)) (step st v (erase_blocks list)).answer p.1
    (λ values e. rw (allowed_effect st (length v) (erase_blocks list) (passed_success st v (erase_blocks list) values e)) (named_erased st list b i p.0 k))
erase_reaches st v (protect_blocks first) b i t k = absurd t
erase_reaches st v (accept_erase list) b i t k = absurd t
erase_reaches st v (carry_erase list job n) b i t k = absurd t

-- ---- jobs

same_list_lem : (a b : List ℕ) → T (same_list a b) → a ≡ b
unfolding same_list
same_list_lem [] [] t = refl
same_list_lem [] (y ∷ b) t = absurd t
same_list_lem (x ∷ a) [] t = absurd t
same_list_lem (x ∷ a) (y ∷ b) t =
    let p = both (eqb x y) (same_list a b) t in
    ap₂ (λ (h : ℕ) (r : List ℕ). h ∷ r) (eqb→eq x y p.0) (same_list_lem a b p.1)

-- a carrying on of an open job erases the bytes from its place on up to the place that it answers, or to the end where it answers finished
carry_reaches : (R : Type 0) (st : State) (v : List ℕ) (list : List ℕ) (job n i : ℕ) → T (member i (drop job (erase_order (map_of st) list)))
    → (T (erases_byte (decide st (length v) (carry_erase list job n)) i) → R)
    → ((next : ℕ) → answered job (step st v (carry_erase list job n)).answer ≡ pending next → T (member i (drop next (erase_order (map_of st) list))) → R)
    → R
unfolding erases_byte is_erase carry_change perform effect finishes carry_answer answered member
carry_reaches R st v list job n i m here later = go (first_refusal (refusals st (length v) (carry_erase list job n))) refl
  where
    O : List ℕ
    O = erase_order (map_of st) list

    split : T (member i (part job (job + n) O) || member i (drop (job + n) O))
    split = rw (part_rest job n O, member-append i (part job (job + n) O) (drop (job + n) O)) at m

    erases : first_refusal (refusals st (length v) (carry_erase list job n)) ≡ none → T (member i (part job (job + n) O)) → T (erases_byte (decide st (length v) (carry_erase list job n)) i)
    erases e t = rw (allowed_effect st (length v) (carry_erase list job n) e) (at (member i (part job (job + n) O)) t)
      where
        at : (x : Bool) → T x → T (is_erase (cond x erase keep))
        at true y = tt
        at false y = absurd y

    allowed : first_refusal (refusals st (length v) (carry_erase list job n)) ≡ none → (t : Bool) → finishes (map_of st) list job n ≡ t → R
    allowed e true f =
        either R (member i (part job (job + n) O)) (member i (drop (job + n) O)) split (λ t. here (erases e t))
        (λ t. absurd (rw (drop_of_length-le O {i = job + n} (leb-true _ _ f)) at t))
    allowed e false f =
        either R (member i (part job (job + n) O)) (member i (drop (job + n) O)) split (λ t. here (erases e t))
        (λ t. later (job + n) (rw f at (ap (answered job) (sym (ap (λ (r : Result). r.answer) (allowed_step st v (carry_erase list job n) e))))) t)

    go : (o : Option ℕ) → first_refusal (refusals st (length v) (carry_erase list job n)) ≡ o → R
    go none e = allowed e (finishes (map_of st) list job n) refl
    go (some k) e = later job (ap (answered job) (sym (ap (λ (r : Result). r.answer) (refused-step st v (carry_erase list job n) k e)))) m

-- a call that carries a job on is a carrying on with that list and job
pub carries_on_lem : (list : List ℕ) (job : ℕ) (c : Call) → T (carries_on list job c) → (n : ℕ) × (c ≡ carry_erase list job n)
unfolding carries_on
carries_on_lem list job get_attributes t = absurd t
carries_on_lem list job (set_attributes new) t = absurd t
carries_on_lem list job get_physical_address t = absurd t
carries_on_lem list job (get_block_size b) t = absurd t
carries_on_lem list job (read b o buffer) t = absurd t
carries_on_lem list job (write b o new) t = absurd t
carries_on_lem list job (erase_blocks other) t = absurd t
carries_on_lem list job (protect_blocks first) t = absurd t
carries_on_lem list job (accept_erase other) t = absurd t
carries_on_lem list job (carry_erase other at n) t =
    let p = both (same_list other list) (eqb at job) t in
    (n, ap₂ (λ (l : List ℕ) (j : ℕ). carry_erase l j n) (same_list_lem other list p.0) (eqb→eq at job p.1))

-- a broken job does not finish
stays_broken : (breaks : Breaks) (list : List ℕ) (st : State) (v : List ℕ) (cs : List Call) → T (is_finished (standing breaks list broken st v cs)) → ⊥
unfolding standing after is_finished
stays_broken breaks list st v [] t = t
stays_broken breaks list st v (c ∷ cs) t = stays_broken breaks list (step st v c).state (step st v c).volume cs t

-- a job that finishes in a run erases, in it, every byte from its place on
job_bytes_lem : (breaks : Breaks) (list : List ℕ) (job : ℕ) (st : State) (v : List ℕ) (cs : List Call) (i : ℕ) → T (is_finished (standing breaks list (pending job) st v cs))
    → T (member i (drop job (erase_order (map_of st) list))) → T (erased_in_run st v cs i)
unfolding standing after is_finished erased_in_run
job_bytes_lem breaks list job st v [] i t m = absurd t
job_bytes_lem breaks list job st v (c ∷ cs) i t m =
    onward (breaks list job st c (step st v c)) (carries_on list job c) refl (λ j. job_bytes_lem breaks list j (step st v c).state (step st v c).volume cs i) t
  where
    R : Type 0
    R = T (erases_byte (decide st (length v) c) i || erased_in_run (step st v c).state (step st v c).volume cs i)

    A : Answer
    A = (step st v c).answer

    F : Standing → Bool
    F s = is_finished (standing breaks list s (step st v c).state (step st v c).volume cs)

    Later : Type 0
    Later = (j : ℕ) → T (F (pending j)) → T (member i (drop j (erase_order (map_of (step st v c).state) list))) → T (erased_in_run (step st v c).state (step st v c).volume cs i)

    -- the byte is erased in a later call
    later : Later → (j : ℕ) → T (F (pending j)) → T (member i (drop j (erase_order (map_of st) list))) → R
    later ih j u k = or_second (erases_byte (decide st (length v) c) i) _ (ih j u (rw (map_kept st v c) k))

    onward : (x y : Bool) → carries_on list job c ≡ y → Later → T (F (cond x broken (cond y (answered job A) (pending job)))) → R
    onward true y q ih u = absurd (stays_broken breaks list (step st v c).state (step st v c).volume cs u)
    onward false false q ih u = later ih job u m
    onward false true q ih u =
        let p = carries_on_lem list job c (rw q tt) in
        let n = p.0 in
        carry_reaches R st v list job n i m
        (λ t. or_first (erases_byte (decide st (length v) c) i) _ (subst (λ (d : Call). T (erases_byte (decide st (length v) d) i)) (sym p.1) t))
        (λ next a k. later ih next (subst (λ (y : Standing). T (F y)) (ap (λ (d : Call). answered job (step st v d).answer) p.1 ∙ a) u) k)

-- a block that a list names, whose acceptance answered a job that finishes, has every byte erased
job_erased : (breaks : Breaks) (st : State) (v : List ℕ) (c : Call) (cs : List Call) (b i : ℕ)
    → T (job_erases breaks c (step st v c).answer (step st v c).state (step st v c).volume cs b) → T (in_block (map_of st) b i)
    → T (erased_in_run (step st v c).state (step st v c).volume cs i)
unfolding job_erases accepted perform effect
job_erased breaks st v get_attributes cs b i t k = absurd t
job_erased breaks st v (set_attributes new) cs b i t k = absurd t
job_erased breaks st v get_physical_address cs b i t k = absurd t
job_erased breaks st v (get_block_size x) cs b i t k = absurd t
job_erased breaks st v (read x o buffer) cs b i t k = absurd t
job_erased breaks st v (write x o new) cs b i t k = absurd t
job_erased breaks st v (erase_blocks list) cs b i t k = absurd t
job_erased breaks st v (protect_blocks first) cs b i t k = absurd t
job_erased breaks st v (accept_erase list) cs b i t k = go (first_refusal (refusals st (length v) (accept_erase list))) refl
  where
    s' : State
    s' = (step st v (accept_erase list)).state

    v' : List ℕ
    v' = (step st v (accept_erase list)).volume

    F : Answer → Bool
    F a = is_finished (standing breaks list (accepted a) s' v' cs)

    p : T (names list b) × T (F (step st v (accept_erase list)).answer)
    p = both (names list b) (F (step st v (accept_erase list)).answer) t

    go : (o : Option ℕ) → first_refusal (refusals st (length v) (accept_erase list)) ≡ o → T (erased_in_run s' v' cs i)
    go none e =
        let f = subst (λ (a : Answer). T (F a)) (sym (ap (λ (r : Result). r.answer) (allowed_step st v (accept_erase list) e))) p.1 in
        let good = names_within _ list (accept_good st (length v) list e) in
        job_bytes_lem breaks list 0 s' v' cs i f
        (rw (map_kept st v (accept_erase list), order_named (map_of st) list i good, in_block-block_at (map_of st) b i k) p.0)
    go (some n) e =
        absurd (stays_broken breaks list s' v' cs (subst (λ (a : Answer). T (F a)) (sym (ap (λ (r : Result). r.answer) (refused-step st v (accept_erase list) n e))) p.1))
job_erased breaks st v (carry_erase list job n) cs b i t k = absurd t

-- ---- what counts as erased by any rule counts where nothing breaks a job

finishes-never : (breaks : Breaks) (list : List ℕ) (s : Standing) (st : State) (v : List ℕ) (cs : List Call) → T (is_finished (standing breaks list s st v cs))
    → T (is_finished (standing never list s st v cs))
unfolding standing after never
finishes-never breaks list s st v [] t = t
finishes-never breaks list s st v (c ∷ cs) t = go s (λ y. finishes-never breaks list y (step st v c).state (step st v c).volume cs) t
  where
    F : Breaks → Standing → Type 0
    F rule y = T (is_finished (standing rule list y (step st v c).state (step st v c).volume cs))

    unless : (x : Bool) (y : Standing) → ((y : Standing) → F breaks y → F never y) → F breaks (cond x broken y) → F never y
    unless true y ih u = absurd (stays_broken breaks list (step st v c).state (step st v c).volume cs u)
    unless false y ih u = ih y u

    go : (y : Standing) → ((y : Standing) → F breaks y → F never y) → F breaks (after breaks list y st c (step st v c)) → F never (after never list y st c (step st v c))
    go (pending job) ih u = unless (breaks list job st c (step st v c)) (cond (carries_on list job c) (answered job (step st v c).answer) (pending job)) ih u
    go finished ih u = ih finished u
    go broken ih u = ih broken u

job_never : (breaks : Breaks) (c : Call) (a : Answer) (st : State) (v : List ℕ) (cs : List Call) (b : ℕ) → T (job_erases breaks c a st v cs b) → T (job_erases never c a st v cs b)
unfolding job_erases
job_never breaks get_attributes a st v cs b t = absurd t
job_never breaks (set_attributes new) a st v cs b t = absurd t
job_never breaks get_physical_address a st v cs b t = absurd t
job_never breaks (get_block_size x) a st v cs b t = absurd t
job_never breaks (read x o buffer) a st v cs b t = absurd t
job_never breaks (write x o new) a st v cs b t = absurd t
job_never breaks (erase_blocks list) a st v cs b t = absurd t
job_never breaks (protect_blocks first) a st v cs b t = absurd t
job_never breaks (accept_erase list) a st v cs b t =
    let p = both (names list b) (is_finished (standing breaks list (accepted a) st v cs)) t in
    and_both (names list b) (is_finished (standing never list (accepted a) st v cs)) p.0 (finishes-never breaks list (accepted a) st v cs p.1)
job_never breaks (carry_erase list job n) a st v cs b t = absurd t

pub erased-never : (breaks : Breaks) (st : State) (v : List ℕ) (cs : List Call) (b : ℕ) → T (erased_by breaks st v cs b) → T (erased_by never st v cs b)
unfolding erased_by
erased-never breaks st v [] b t = t
erased-never breaks st v (c ∷ cs) b t =
    either R (names_block c b && is_success (step st v c).answer) _ t (λ p. or_first (names_block c b && is_success (step st v c).answer) _ p)
    (λ q.
    or_second (names_block c b && is_success (step st v c).answer) _
    (either L (J breaks) _ q (λ p. or_first (J never) _ (job_never breaks c (step st v c).answer (step st v c).state (step st v c).volume cs b p))
    (λ p. or_second (J never) _ (erased-never breaks (step st v c).state (step st v c).volume cs b p))))
  where
    J : Breaks → Bool
    J rule = job_erases rule c (step st v c).answer (step st v c).state (step st v c).volume cs b

    L : Type 0
    L = T (J never || erased_by never (step st v c).state (step st v c).volume cs b)

    R : Type 0
    R = T (names_block c b && is_success (step st v c).answer || (J never || erased_by never (step st v c).state (step st v c).volume cs b))

-- ---- blocks and bytes of a run

-- a block that a run erased had every byte erased in it
erased-bytes : (breaks : Breaks) (st : State) (v : List ℕ) (cs : List Call) (b i : ℕ) → T (erased_by breaks st v cs b) → T (in_block (map_of st) b i) → T (erased_in_run st v cs i)
unfolding erased_by erased_in_run
erased-bytes breaks st v [] b i t k = absurd t
erased-bytes breaks st v (c ∷ cs) b i t k =
    either R (names_block c b && is_success (step st v c).answer) _ t
    (λ p. or_first (erases_byte (decide st (length v) c) i) _ (erase_reaches st v c b i p k))
    (λ q.
    either R (job_erases breaks c (step st v c).answer (step st v c).state (step st v c).volume cs b) _ q
    (λ p. or_second (erases_byte (decide st (length v) c) i) _ (job_erased breaks st v c cs b i p k))
    (λ p.
    or_second (erases_byte (decide st (length v) c) i) _
    (erased-bytes breaks (step st v c).state (step st v c).volume cs b i p (rw (map_kept st v c) k))))
  where
    R : Type 0
    R = T (erases_byte (decide st (length v) c) i || erased_in_run (step st v c).state (step st v c).volume cs i)

-- a move's answer is success or short
move_moved : (k n : ℕ) → T (is_moved (move_answer k n))
unfolding is_moved move_answer
move_moved k n = go (eqb k n)
  where
    go : (t : Bool) → T (is_moved (cond t (success (k ∷ [])) (short (k ∷ []))))
    go true = tt
    go false = tt

-- a read copies out bytes of its block alone, and then answers success or short
read_effect : (st : State) (v : List ℕ) (b o : ℕ) (buffer : List ℕ) (i : ℕ) → first_refusal (refusals st (length v) (read b o buffer)) ≡ none
    → T (copies_byte (effect st (read b o buffer)) i) → (T (in_block (map_of st) b i)) × T (is_moved (step st v (read b o buffer)).answer)
unfolding effect copies_byte start_of length_of perform count_moved
read_effect st v b o buffer i e t = (
  place_cases (place (map_of st) b) refl (leb-false _ _ (passed_read st (length v) b o buffer e).last) t,
  subst (λ (a : Answer). T (is_moved a)) (ap (λ (r : Result). r.answer) (allowed_step st v (read b o buffer) e)) (move_moved _ _),
)
  where
    bounds : (x y : Bool) (s k : ℕ) → leb s i ≡ x → ltb i (s + k) ≡ y → T (x && y) → (s ≤ i) × (i < s + k)
    bounds true true s k p q t = (leb-true _ _ p, ltb-true _ _ q)
    bounds true false s k p q t = absurd t
    bounds false true s k p q t = absurd t
    bounds false false s k p q t = absurd t

    place_cases : (x : Place) → place (map_of st) b ≡ x → b < blocks (map_of st)
        → T (leb (start_of (place (map_of st) b) + o) i && ltb i (start_of (place (map_of st) b) + o + count_moved (length_of (place (map_of st) b)) o (length buffer)))
        → T (in_block (map_of st) b i)
    place_cases (At e' s l r) at k t =
        let c : ℕ = count_moved l o (length buffer) in
        let w = bounds (leb (s + o) i) (ltb i (s + o + c)) (s + o) c refl refl (rw at at t) in
        in_block_of_bounds (map_of st) b i k (omega (arith, found_start (map_of st) b e' s l r at)) (omega (arith, found_end (map_of st) b e' s l r at))
    place_cases Missing at k t = absurd (omega (arith, place_lost (map_of st) b at))

read_copies : (st : State) (v : List ℕ) (b o : ℕ) (buffer : List ℕ) (i : ℕ) → T (copies_byte (decide st (length v) (read b o buffer)) i)
    → (T (in_block (map_of st) b i)) × T (is_moved (step st v (read b o buffer)).answer)
unfolding decide copies_byte
read_copies st v b o buffer i t = go (first_refusal (refusals st (length v) (read b o buffer))) refl t
  where
    go : (x : Option ℕ) → first_refusal (refusals st (length v) (read b o buffer)) ≡ x → T (copies_byte (unless_refused (λ n. reply (refused n)) x (effect st (read b o buffer))) i)
        → (T (in_block (map_of st) b i)) × T (is_moved (step st v (read b o buffer)).answer)
    go none e t = read_effect st v b o buffer i e t
    go (some n) e t = absurd t

-- and no other call copies out any
quiet : (st : State) (n : ℕ) (c : Call) (i : ℕ) → (T (copies_byte (effect st c) i) → ⊥) → T (copies_byte (decide st n c) i) → ⊥
unfolding decide copies_byte
quiet st n c i h = go (first_refusal (refusals st n c))
  where
    go : (o : Option ℕ) → T (copies_byte (unless_refused (λ m. reply (refused m)) o (effect st c)) i) → ⊥
    go none t = h t
    go (some m) t = t

-- a byte of a set of blocks
abbrev InBlocks : List ℕ → (ℕ → Type 0) → ℕ → Type 0
InBlocks map D i = (b : ℕ) × D b × T (in_block map b i)

-- a call that copies out a byte is a read that starts in the byte's block and answers success or short
call_copies : (R : Type 0) (st : State) (v : List ℕ) (c : Call) (i : ℕ) → T (copies_byte (decide st (length v) c) i)
    → ((b o : ℕ) (buffer : List ℕ) → c ≡ read b o buffer → T (in_block (map_of st) b i) → T (is_moved (step st v (read b o buffer)).answer) → R) → R
unfolding effect copies_byte
call_copies R st v get_attributes i t f = absurd (quiet st (length v) get_attributes i (λ z. z) t)
call_copies R st v (set_attributes new) i t f = absurd (quiet st (length v) (set_attributes new) i (λ z. z) t)
call_copies R st v get_physical_address i t f = absurd (quiet st (length v) get_physical_address i (λ z. z) t)
call_copies R st v (get_block_size b) i t f = absurd (quiet st (length v) (get_block_size b) i (λ z. z) t)
call_copies R st v (read b o buffer) i t f = let p = read_copies st v b o buffer i t in f b o buffer refl p.0 p.1
call_copies R st v (write b o new) i t f = absurd (quiet st (length v) (write b o new) i (λ z. z) t)
call_copies R st v (erase_blocks list) i t f = absurd (quiet st (length v) (erase_blocks list) i (λ z. z) t)
call_copies R st v (protect_blocks first) i t f = absurd (quiet st (length v) (protect_blocks first) i (λ z. z) t)
call_copies R st v (accept_erase list) i t f = absurd (quiet st (length v) (accept_erase list) i (λ z. z) t)
call_copies R st v (carry_erase list job n) i t f = absurd (quiet st (length v) (carry_erase list job n) i (λ z. z) t)

-- no call copies out a byte of the set that was not erased before, where every byte of the set that a call copies out was erased in the calls before it
unread : (X : ℕ → Type 0) (st : State) (v : List ℕ) (cs : List Call)
    → ((before after : List Call) (c : Call) → cs ≡ before ++ (c ∷ after) → (i : ℕ)
    → T (copies_byte (decide (run st v before).state (length (run st v before).volume) c) i) → X i → T (erased_in_run st v before i))
    → Unread X st v cs
unfolding Unread run erased_in_run
unread X st v [] h = tt
unread X st v (c ∷ cs) h = (
  (λ i t x. h [] cs c refl i t x),
  unread (Without X (decide st (length v) c)) (step st v c).state (step st v c).volume cs
      (λ before after d e i t x.
      second (erases_byte (decide st (length v) c) i) (erased_in_run (step st v c).state (step st v c).volume before i)
      (h (c ∷ before) after d (ap (λ (l : List Call). c ∷ l) e) i t x.0) x.1),
)
  where
    second : (a b : Bool) → T (a || b) → T (not a) → T b
    second true b t n = absurd n
    second false b t n = t

-- the map is the same after every run
pub run-map : (st : State) (v : List ℕ) (cs : List Call) → map_of (run st v cs).state ≡ map_of st
unfolding run
run-map st v [] = refl
run-map st v (c ∷ cs) = run-map (step st v c).state (step st v c).volume cs ∙ map_kept st v c

-- ---- demand 3

-- for any state, and for every rule of what breaks a job
pub isolated : (breaks : Breaks) (D : ℕ → Type 0) (st : State) (v w : List ℕ) (cs : List Call) → length v ≡ length w → Alike (map_of st) D v w → NoEarlyReadBy breaks D st v cs
    → IsolatedBy breaks D st v w cs
unfolding Alike NeverErasedBy NoEarlyReadBy
isolated breaks D st v w cs h alike early =
    let X : ℕ → Type 0 = InBlocks (map_of st) D in
    let r = isolated-bytes X st v w cs h (λ i n. alike i (λ b d t. n (b, d, t)))
    (unread X st v cs
    (λ before after c e i t x.
    call_copies (T (erased_in_run st v before i)) (run st v before).state (run st v before).volume c i t
    (λ b o buffer q k moved.
    let k' : T (in_block (map_of st) b i) = rw (run-map st v before) at k in
    erased-bytes breaks st v before b i
    (early before after b o buffer (e ∙ ap (λ (d : Call). before ++ (d ∷ after)) q) (subst D (in_one_block (map_of st) x.0 b i x.2 k') x.1) moved) k'))) in
    record {
      all_seen = r.all_seen;
      end_state = r.end_state;
      end_length = r.end_length;
      end_volume =
          λ i n.
          r.end_bytes i
          (λ x.
          n x.0.0
          (x.0.1, refute (erased_by breaks st v cs x.0.0) (erased_in_run st v cs i) (λ t. erased-bytes breaks st v cs x.0.0 i t x.0.2) x.1)
          x.0.2);
    }

-- DEMAND 3, from opening on: two volumes of equal lent length, opened to the same state, alike except inside the blocks of a set
pub demand_3 : (D : ℕ → Type 0) (base : ℕ) (st : State) (v w : List ℕ) (calls : List Call)
    → open_volume v base ≡ opened st
    → open_volume w base ≡ opened st
    → length v ≡ length w → Alike (map_of st) D v w → NoEarlyRead D st v calls → Isolated D st v w calls
demand_3 D base st v w calls opened-v opened-w h alike early = isolated touched D st v w calls h alike early

-- ---- runs from opening

-- a run keeps a state lawful
run_lawful : (st : State) (v : List ℕ) (cs : List Call) → unlawful st ≡ false → unlawful (run st v cs).state ≡ false
unfolding run
run_lawful st v [] ok = ok
run_lawful st v (c ∷ cs) ok = run_lawful (step st v c).state (step st v c).volume cs (lawful_kept st v c ok)

-- so from opening on every call of a run meets a lawful state: none is refused with 111
pub opened-run_lawful : (base : ℕ) (st : State) (v : List ℕ) (before : List Call) → open_volume v base ≡ opened st
    → unlawful (run st v before).state ≡ false
opened-run_lawful base st v before opening =
    run_lawful st v before
    (subst (λ (o : Opens). unlawful o.state ≡ false) opening (opened_lawful v base (ap (λ (o : Opens). o.answer) opening)).0)

-- ---- locks in runs (02, a)

-- a run is its first calls and then the others
pub run-append : (st : State) (v : List ℕ) (before after : List Call) → run st v (before ++ after) ≡ run (run st v before).state (run st v before).volume after
unfolding run
run-append st v [] after = refl
run-append st v (c ∷ before) after = run-append (step st v c).state (step st v c).volume before after

-- no run changes the edition
pub run_edition : (st : State) (v : List ℕ) (cs : List Call) → (run st v cs).state.edition ≡ st.edition
unfolding run
run_edition st v [] = refl
run_edition st v (c ∷ cs) = run_edition (step st v c).state (step st v c).volume cs ∙ edition_kept st v c

-- a lock and the status that it keeps, where every call of edition 2 keeps them, in a run
module _ (lock status : ℕ)
    (kept : (st : State) (v : List ℕ) (c : Call) → st.edition ≡ 2 → flag st.attributes lock ≡ true
    → (flag (step st v c).state.attributes lock ≡ true) × (flag (step st v c).state.attributes status ≡ flag st.attributes status)) where
  run_kept : (st : State) (v : List ℕ) (cs : List Call) → st.edition ≡ 2 → flag st.attributes lock ≡ true
      → (flag (run st v cs).state.attributes lock ≡ true) × (flag (run st v cs).state.attributes status ≡ flag st.attributes status)
  unfolding run
  run_kept st v [] two on = (on, refl)
  run_kept st v (c ∷ cs) two on =
      let k = kept st v c two on in
      let r = run_kept (step st v c).state (step st v c).volume cs (edition_kept st v c ∙ two) k.0 in
      (r.0, r.1 ∙ k.1)

  locked_run : (st : State) (v : List ℕ) (before after : List Call) → st.edition ≡ 2 → flag (run st v before).state.attributes lock ≡ true
      → (flag (run st v (before ++ after)).state.attributes lock ≡ true)
      × (flag (run st v (before ++ after)).state.attributes status ≡ flag (run st v before).state.attributes status)
  locked_run st v before after two on =
      rw (run-append st v before after) (run_kept (run st v before).state (run st v before).volume after (run_edition st v before ∙ two) on)

-- from the call on that raised a lock, its status keeps its value to the end
pub read_locked_run : (st : State) (v : List ℕ) (before after : List Call) → st.edition ≡ 2 → flag (run st v before).state.attributes read_lock_status ≡ true
    → (flag (run st v (before ++ after)).state.attributes read_lock_status ≡ true)
    × (flag (run st v (before ++ after)).state.attributes read_status ≡ flag (run st v before).state.attributes read_status)
read_locked_run = locked_run read_lock_status read_status read_lock_kept

pub write_locked_run : (st : State) (v : List ℕ) (before after : List Call) → st.edition ≡ 2 → flag (run st v before).state.attributes write_lock_status ≡ true
    → (flag (run st v (before ++ after)).state.attributes write_lock_status ≡ true)
    × (flag (run st v (before ++ after)).state.attributes write_status ≡ flag (run st v before).state.attributes write_status)
write_locked_run = locked_run write_lock_status write_status write_lock_kept
