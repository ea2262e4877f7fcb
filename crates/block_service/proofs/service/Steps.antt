-- Laws of a step of the block service: what a call leaves that is refused, what one leaves that is not, and what a table that was passed says.
use Prim.Native.Nat.{ℕ, ◌+◌, ◌≤◌, ◌<◌}
use mathlib.Core.Bool.{Bool, true, false, not, cond}
use mathlib.Core.List.{List, [], ◌∷◌, ◌++◌}
use mathlib.Core.Option.{Option, none, some}
use mathlib.Core.Path.{◌≡◌, refl, sym, ap, ◌∙◌}
use native.Mathlib.Omega.{arith}
use borrow.Author.Tests.{lt-ltb, le-ltb, le-leb, lt-leb, ltb-false, leb-false, not-false}
use lib.Dec.{T, leb, ltb, eqb}
use lib.ListN.{length, take, drop}
use Rattle.common.specs.Answers.{refused, success, short, Answer}
use Rattle.common.specs.Lists.{edit}
use Rattle.common.specs.Refusals.{row, first_refusal, unless_refused, Row}
use Rattle.common.proofs.Edit.{edit-same}
use Rattle.common.proofs.Refusals.{row-passed, front_passed, then_passed, then_refused, row_applies, row_passes, no_row}
use Rattle.volume.specs.Attributes.{flag, read_status, write_status, memory_mapped}
use Rattle.volume.specs.BlockMap.{blocks, bytes}
use Rattle.volume.specs.State.{map_of, unlawful}
use Rattle.volume.specs.declared.state.State.{State}
use Rattle.volume.proofs.state.Lawful.{Lawful, lawful}
use Rattle.block_service.specs.Access.{count_moved, erased_byte, keep, erase, write_change, changed_byte}
use Rattle.block_service.specs.Blocks.{place, start_of, length_of, block_at, consecutive_blocks, place_refusals}
use Rattle.block_service.specs.Erase.{good_list, names, reaches, erase_change}
use Rattle.block_service.specs.Service.{Call, get_attributes, set_attributes, get_physical_address, get_block_size, read, write, erase_blocks, protect_blocks, accept_erase, carry_erase, lent_refusals, refusals}
use Rattle.block_service.specs.Service.{reply, effect, move_answer, carry_answer, Result, result_of, perform, buffer_of, step, decide}
use Rattle.block_service.specs.Order.{job_given}
use Rattle.block_service.specs.Blocks.{At}
use Rattle.block_service.proofs.blocks.Runs.{fits}
use Rattle.block_service.proofs.erase.Lists.{names-reaches}

-- a refused call answers its number and leaves everything as it was
pub refused-step : (st : State) (v : List ℕ) (c : Call) (n : ℕ) → first_refusal (refusals st (length v) c) ≡ some n
    → result_of (refused n) st v (buffer_of c) ≡ step st v c
unfolding step decide perform
refused-step st v c n e = rw e

-- a call that is not refused does what its effect says
pub allowed_step : (st : State) (v : List ℕ) (c : Call) → first_refusal (refusals st (length v) c) ≡ none
    → perform st v (buffer_of c) (effect st c) ≡ step st v c
unfolding step decide
allowed_step st v c e = rw e

-- a call whose effect stores nothing leaves the volume as it was, refused or not
pub quiet_step : (st : State) (v : List ℕ) (c : Call) → (perform st v (buffer_of c) (effect st c)).volume ≡ v → (step st v c).volume ≡ v
quiet_step st v c h = go (first_refusal (refusals st (length v) c)) refl
  where
    go : (o : Option ℕ) → first_refusal (refusals st (length v) c) ≡ o → (step st v c).volume ≡ v
    go (some n) e = ap (λ (r : Result). r.volume) (sym (refused-step st v c n e))
    go none e = ap (λ (r : Result). r.volume) (sym (allowed_step st v c e)) ∙ h

-- 111 comes first at every call
pub unlawful-step : (st : State) (v : List ℕ) (c : Call) → unlawful st ≡ true → result_of (refused 111) st v (buffer_of c) ≡ step st v c
unfolding refusals lent_refusals
unlawful-step st v get_attributes e = refused-step st v _ 111 (row_applies _ _ _ e)
unlawful-step st v (set_attributes new) e = refused-step st v _ 111 (row_applies _ _ _ e)
unlawful-step st v get_physical_address e = refused-step st v _ 111 (row_applies _ _ _ e)
unlawful-step st v (get_block_size b) e = refused-step st v _ 111 (row_applies _ _ _ e)
unlawful-step st v (read b o buffer) e = refused-step st v _ 111 (row_applies _ _ _ e)
unlawful-step st v (write b o new) e = refused-step st v _ 111 (row_applies _ _ _ e)
unlawful-step st v (erase_blocks list) e = refused-step st v _ 111 (row_applies _ _ _ e)
unlawful-step st v (protect_blocks first) e = refused-step st v _ 111 (row_applies _ _ _ e)
unlawful-step st v (accept_erase list) e = refused-step st v _ 111 (row_applies _ _ _ e)
unlawful-step st v (carry_erase list job n) e = refused-step st v _ 111 (row_applies _ _ _ e)

-- what the rows say that a read, a write and an erase begin with, where they pass
pub record Begun (st : State) (n status : ℕ) : Type 0 where
  pub lawful : Lawful st
  pub long : st.length ≤ n
  pub on : flag st.attributes status ≡ true

pub begun : (st : State) (n status : ℕ) → first_refusal (lent_refusals st n status) ≡ none → Begun st n status
unfolding lent_refusals
begun st n status e =
    let a = row-passed (row (unlawful st) 111) _ e in
    let b = row-passed (row (ltb n st.length) 5) _ a.1 in
    let c = row-passed (row (not (flag st.attributes status)) 15) _ b.1 in
    record { lawful = lawful st a.0; long = ltb-false n st.length b.0; on = not-false _ c.0 }

-- and where they pass
pub lent_passes : (st : State) (n status : ℕ) → unlawful st ≡ false → st.length ≤ n → flag st.attributes status ≡ true
    → first_refusal (lent_refusals st n status) ≡ none
unfolding lent_refusals
lent_passes st n status ok long on = row_passes _ _ _ _ ok (row_passes _ _ _ _ (le-ltb _ _ long) (row_passes _ _ _ _ (ap not on) no_row))

-- where they do not: 111 of an unlawful state, 5 of a lawful one, and 15 where the volume is lent whole
pub lent_111 : (st : State) (n status : ℕ) → unlawful st ≡ true → first_refusal (lent_refusals st n status) ≡ some 111
unfolding lent_refusals
lent_111 st n status e = row_applies _ _ _ e

pub lent_5 : (st : State) (n status : ℕ) → unlawful st ≡ false → n < st.length → first_refusal (lent_refusals st n status) ≡ some 5
unfolding lent_refusals
lent_5 st n status ok h = row_passes _ _ _ _ ok (row_applies _ _ _ (lt-ltb _ _ h))

pub lent_15 : (st : State) (n status : ℕ) → unlawful st ≡ false → st.length ≤ n → flag st.attributes status ≡ false
    → first_refusal (lent_refusals st n status) ≡ some 15
unfolding lent_refusals
lent_15 st n status ok long off = row_passes _ _ _ _ ok (row_passes _ _ _ _ (le-ltb _ _ long) (row_applies _ _ _ (ap not off)))

-- the whole table of such a call, with the test of 2 and the rows behind it: the first three refuse; they pass and 2 refuses; or the rows behind it decide
module _ (st : State) (n status : ℕ) (rows : List Row) where
  pub lent_first : (m : ℕ) → first_refusal (lent_refusals st n status) ≡ some m → first_refusal (lent_refusals st n status ++ rows) ≡ some m
  lent_first m e = then_refused (lent_refusals st n status) _ m e

  pub lent_then : first_refusal (lent_refusals st n status) ≡ none → first_refusal (lent_refusals st n status ++ rows) ≡ first_refusal rows
  lent_then e = then_passed (lent_refusals st n status) _ e

module _ (st : State) (n status : ℕ) (t : Bool) (rest : List Row) (e : first_refusal (lent_refusals st n status) ≡ none) where
  pub lent_2 : t ≡ true → first_refusal (lent_refusals st n status ++ (row t 2 ∷ rest)) ≡ some 2
  lent_2 h = lent_then st n status _ e ∙ row_applies _ _ _ h

  pub lent_last : t ≡ false → first_refusal (lent_refusals st n status ++ (row t 2 ∷ rest)) ≡ first_refusal rest
  lent_last h = lent_then st n status _ e ∙ row_passes _ _ _ _ h refl

-- where the code's test of 111 passes, the state is lawful
pub tested_lawful : (st : State) → none ≡ first_refusal (row (unlawful st) 111 ∷ []) → unlawful st ≡ false
tested_lawful st e = (row-passed (row (unlawful st) 111) [] (sym e)).0

-- what the code's search for a block says where the map's entries do not pass the n lent bytes: there is no such block, or it was found
module _ (map : List ℕ) (n b : ℕ) (h : bytes map ≤ n) where
  pub place_row : first_refusal (place_refusals map b n) ≡ first_refusal (row (leb (blocks map) b) 2 ∷ [])
  place_row = row_passes _ _ _ _ (fits map b n h) refl

  pub place_there_lem : none ≡ first_refusal (place_refusals map b n) → leb (blocks map) b ≡ false
  place_there_lem e = (row-passed _ _ (row-passed _ _ (sym e)).1).0

-- the bytes of a lawful state's map are those of the volume, which is lent whole where a call that is lent it goes on
pub lent_fits : (st : State) (n status : ℕ) → first_refusal (lent_refusals st n status) ≡ none → bytes (map_of st) ≤ n
lent_fits st n status e = let p = begun st n status e in omega (arith, p.lawful.total, p.long)

-- a read that the search for its block refuses, and one that it does not
pub read_lost : (st : State) (v : List ℕ) (b o : ℕ) (buffer : List ℕ) (m : ℕ) → first_refusal (lent_refusals st (length v) read_status) ≡ none
    → some m ≡ first_refusal (place_refusals (map_of st) b (length v)) → result_of (refused m) st v buffer ≡ step st v (read b o buffer)
unfolding refusals buffer_of
read_lost st v b o buffer m e h =
    refused-step st v (read b o buffer) m (lent_then st (length v) read_status _ e ∙ sym (place_row (map_of st) (length v) b (lent_fits st _ _ e)) ∙ sym h)

pub read_found : (st : State) (n b o : ℕ) (buffer : List ℕ) → first_refusal (lent_refusals st n read_status) ≡ none
    → none ≡ first_refusal (place_refusals (map_of st) b n) → first_refusal (refusals st n (read b o buffer)) ≡ none
unfolding refusals
read_found st n b o buffer e h = lent_then st n read_status _ e ∙ row_passes _ _ _ _ (place_there_lem (map_of st) n b (lent_fits st _ _ e) h) no_row

-- a read, a write, an erase and a block size that are not refused, from what the code has in hand
pub read_step : (st : State) (v : List ℕ) (b o : ℕ) (buffer : List ℕ) (s l k : ℕ) (a : Answer) (after : List ℕ)
    → first_refusal (refusals st (length v) (read b o buffer)) ≡ none → s ≡ start_of (place (map_of st) b) → l ≡ length_of (place (map_of st) b)
    → k ≡ count_moved l o (length buffer) → a ≡ move_answer k (length buffer) → after ≡ take k (drop (s + o) v) ++ drop k buffer
    → result_of a st v after ≡ step st v (read b o buffer)
unfolding perform effect buffer_of
read_step st v b o buffer s l k a after n es el ek ea eb = rw (eb, ea, ek, es, el) (allowed_step st v (read b o buffer) n)

pub write_step : (st : State) (v : List ℕ) (b o : ℕ) (new : List ℕ) (s l k : ℕ) (a : Answer) (after : List ℕ)
    → first_refusal (refusals st (length v) (write b o new)) ≡ none → s ≡ start_of (place (map_of st) b) → l ≡ length_of (place (map_of st) b)
    → k ≡ count_moved l o (length new) → a ≡ move_answer k (length new)
    → after ≡ edit (λ i old. changed_byte st.attributes (write_change (s + o) k new i) old) 0 v
    → result_of a st after [] ≡ step st v (write b o new)
unfolding perform effect buffer_of
write_step st v b o new s l k a after n es el ek ea eb = rw (eb, ea, ek, es, el) (allowed_step st v (write b o new) n)

pub size_step : (st : State) (v : List ℕ) (b e s l r n : ℕ)
    → first_refusal (refusals st (length v) (get_block_size b)) ≡ none → place (map_of st) b ≡ At e s l r → n ≡ consecutive_blocks (map_of st) b
    → result_of (success (l ∷ n ∷ [])) st v [] ≡ step st v (get_block_size b)
unfolding perform effect buffer_of length_of
size_step st v b e s l r n p h k = rw k (rw h at (allowed_step st v (get_block_size b) p))

pub erase_step : (st : State) (v : List ℕ) (list : List ℕ) (x : ℕ) (after : List ℕ)
    → first_refusal (refusals st (length v) (erase_blocks list)) ≡ none → x ≡ erased_byte st.attributes
    → after ≡ edit (λ i old. cond (names list (block_at (map_of st) i)) x old) 0 v
    → result_of (success []) st after [] ≡ step st v (erase_blocks list)
unfolding perform effect buffer_of changed_byte erase_change
erase_step st v list x after n ex ea =
    rw (ea, ex)
    (ap (λ (l : List ℕ). result_of (success []) st l [])
    (edit-same (λ i old. cond (names list (block_at (map_of st) i)) (erased_byte st.attributes) old)
    (λ i old. changed_byte st.attributes (erase_change (map_of st) list i) old) 0 0 v (λ i old h. each (0 + i) old))
    ∙ allowed_step st v (erase_blocks list) n)
  where
    each : (i old : ℕ) → cond (names list (block_at (map_of st) i)) (erased_byte st.attributes) old ≡ changed_byte st.attributes (erase_change (map_of st) list i) old
    each i old = pick (names list (block_at (map_of st) i))
      where
        pick : (t : Bool) → cond t (erased_byte st.attributes) old ≡ changed_byte st.attributes (cond t erase keep) old
        pick true = refl
        pick false = refl

-- a write leaves the state, and has no buffer
pub write_leaves : (st : State) (v : List ℕ) (b o : ℕ) (new : List ℕ) → (let r = step st v (write b o new) in result_of r.answer st r.volume [] ≡ r)
unfolding step decide perform effect buffer_of
write_leaves st v b o new = go (first_refusal (refusals st (length v) (write b o new)))
  where
    go : (x : Option ℕ)
        → (let r = perform st v [] (unless_refused (λ n. reply (refused n)) x (effect st (write b o new))) in result_of r.answer st r.volume [] ≡ r)
    go none = refl
    go (some n) = refl

-- a move answers success or short
pub move_answers : (k n m : ℕ) → move_answer k n ≡ refused m → ⊥
unfolding move_answer
move_answers k n m = go (eqb k n)
  where
    go : (t : Bool) → cond t (success (k ∷ [])) (short (k ∷ [])) ≡ refused m → ⊥
    go true e = let z : ◌≡◌ {A = ℕ} 0 1 = cc in omega arith
    go false e = let z : ◌≡◌ {A = ℕ} 0 1 = cc in omega arith

-- so does a carrying on
carry_answers : (t : Bool) (j m : ℕ) → carry_answer t j ≡ refused m → ⊥
unfolding carry_answer
carry_answers true j m e = let z : ◌≡◌ {A = ℕ} 0 1 = cc in omega arith
carry_answers false j m e = let z : ◌≡◌ {A = ℕ} 0 1 = cc in omega arith

-- a call's effect refuses nothing
effect_answers : (st : State) (v buffer : List ℕ) (c : Call) (n : ℕ) → (perform st v buffer (effect st c)).answer ≡ refused n → ⊥
unfolding perform effect
effect_answers st v buffer get_attributes n e = let z : ◌≡◌ {A = ℕ} 0 1 = cc in omega arith
effect_answers st v buffer (set_attributes new) n e = let z : ◌≡◌ {A = ℕ} 0 1 = cc in omega arith
effect_answers st v buffer get_physical_address n e = let z : ◌≡◌ {A = ℕ} 0 1 = cc in omega arith
effect_answers st v buffer (get_block_size b) n e = let z : ◌≡◌ {A = ℕ} 0 1 = cc in omega arith
effect_answers st v buffer (read b o data') n e = move_answers _ _ n e
effect_answers st v buffer (write b o new) n e = move_answers _ _ n e
effect_answers st v buffer (erase_blocks list) n e = let z : ◌≡◌ {A = ℕ} 0 1 = cc in omega arith
effect_answers st v buffer (protect_blocks first) n e = let z : ◌≡◌ {A = ℕ} 0 1 = cc in omega arith
effect_answers st v buffer (accept_erase list) n e = let z : ◌≡◌ {A = ℕ} 0 1 = cc in omega arith
effect_answers st v buffer (carry_erase list job k) n e = carry_answers _ _ n e

-- so a call whose table passes is not refused
pub allowed_answers : (st : State) (v : List ℕ) (c : Call) → first_refusal (refusals st (length v) c) ≡ none
    → (n : ℕ) → (step st v c).answer ≡ refused n → ⊥
allowed_answers st v c e n h = effect_answers st v (buffer_of c) c n (ap (λ (r : Result). r.answer) (allowed_step st v c e) ∙ h)

-- and a call is refused with a number exactly where that is the number of the first row that applies
pub refused_exactly : (st : State) (v : List ℕ) (c : Call) (n : ℕ)
    → ((step st v c).answer ≡ refused n → first_refusal (refusals st (length v) c) ≡ some n)
    × (first_refusal (refusals st (length v) c) ≡ some n → (step st v c).answer ≡ refused n)
refused_exactly st v c n =
    ((λ h. go h (first_refusal (refusals st (length v) c)) refl), λ e. sym (ap (λ (r : Result). r.answer) (refused-step st v c n e)))
  where
    go : (step st v c).answer ≡ refused n → (o : Option ℕ) → first_refusal (refusals st (length v) c) ≡ o → o ≡ some n
    go h none e = absurd (allowed_answers st v c e n h)
    go h (some m) e =
        let q : refused m ≡ refused n = ap (λ (r : Result). r.answer) (refused-step st v c m e) ∙ h in
        let k : m ≡ n = cc in
        ap (λ (x : ℕ). some x) k

-- a refused call changes nothing: the state, the volume and the buffer are as before
pub refused_changes_nothing : (st : State) (v : List ℕ) (c : Call) (n : ℕ) → (step st v c).answer ≡ refused n
    → step st v c ≡ result_of (refused n) st v (buffer_of c)
refused_changes_nothing st v c n h = sym (refused-step st v c n ((refused_exactly st v c n).0 h))

-- a call that is not refused passed its whole table
pub passed : (st : State) (v : List ℕ) (c : Call) → ((n : ℕ) → (step st v c).answer ≡ refused n → ⊥)
    → first_refusal (refusals st (length v) c) ≡ none
passed st v c h = go (first_refusal (refusals st (length v) c)) refl
  where
    go : (o : Option ℕ) → first_refusal (refusals st (length v) c) ≡ o → o ≡ none
    go none e = refl
    go (some m) e = absurd (h m (sym (ap (λ (r : Result). r.answer) (refused-step st v c m e))))

pub passed_success : (st : State) (v : List ℕ) (c : Call) (values : List ℕ) → (step st v c).answer ≡ success values
    → first_refusal (refusals st (length v) c) ≡ none
passed_success st v c values h = passed st v c (λ n e. let z : ◌≡◌ {A = ℕ} 0 1 = cc in omega arith)

-- what a passed table says of a call that is lent the volume
pub record Passed (st : State) (n : ℕ) (t : Bool) : Type 0 where
  pub lawful : Lawful st
  pub long : st.length ≤ n
  pub last : t ≡ false

pub passed_rows : (st : State) (n status : ℕ) (t : Bool) (rest : List Row) → first_refusal (lent_refusals st n status ++ (row t 2 ∷ rest)) ≡ none
    → Passed st n t × (first_refusal rest ≡ none)
passed_rows st n status t rest e =
    let f = front_passed (lent_refusals st n status) _ e in
    let b = begun st n status f in
    let d = row-passed (row t 2) rest (sym (then_passed (lent_refusals st n status) _ f) ∙ e) in
    (record { lawful = b.lawful; long = b.long; last = d.0 }, d.1)

pub passed_read : (st : State) (n b o : ℕ) (buffer : List ℕ) → first_refusal (refusals st n (read b o buffer)) ≡ none
    → Passed st n (leb (blocks (map_of st)) b)
unfolding refusals
passed_read st n b o buffer e = (passed_rows st n read_status _ _ e).0

pub passed_write : (st : State) (n b o : ℕ) (new : List ℕ) → first_refusal (refusals st n (write b o new)) ≡ none
    → Passed st n (leb (blocks (map_of st)) b)
unfolding refusals
passed_write st n b o new e = (passed_rows st n write_status _ _ e).0

-- and that a block written is not protected
pub write_unprotected : (st : State) (n b o : ℕ) (new : List ℕ) → first_refusal (refusals st n (write b o new)) ≡ none → b < st.protected
unfolding refusals
write_unprotected st n b o new e = leb-false _ _ (row-passed (row (leb st.protected b) 15) [] (passed_rows st n write_status _ _ e).1).0

pub passed_erase : (st : State) (n : ℕ) (list : List ℕ) → first_refusal (refusals st n (erase_blocks list)) ≡ none
    → Passed st n (not (good_list (blocks (map_of st)) list))
unfolding refusals
passed_erase st n list e = (passed_rows st n write_status _ _ e).0

-- nor any that an erase names
pub erase_unprotected : (st : State) (n : ℕ) (list : List ℕ) → first_refusal (refusals st n (erase_blocks list)) ≡ none → reaches st.protected list ≡ false
unfolding refusals
erase_unprotected st n list e = (row-passed (row (reaches st.protected list) 15) [] (passed_rows st n write_status _ _ e).1).0

-- where a carrying on passes its table, so does the erase of its list, and the job is one that the map and the list give
pub carry_passed : (st : State) (n : ℕ) (list : List ℕ) (job k : ℕ) → first_refusal (refusals st n (carry_erase list job k)) ≡ none
    → (first_refusal (refusals st n (erase_blocks list)) ≡ none) × (job_given (map_of st) list job ≡ true)
unfolding refusals
carry_passed st n list job k e =
    let f = front_passed (lent_refusals st n write_status) _ e in
    let rows = sym (then_passed (lent_refusals st n write_status) _ f) ∙ e in
    let good = row-passed _ _ rows in
    let given = row-passed _ _ good.1 in
    (then_passed (lent_refusals st n write_status) _ f ∙ row_passes _ _ _ _ good.0 given.1, not-false _ given.0)

-- and where the erase of a list passes, so does carrying on a job that the map and the list give
pub carry_passes : (st : State) (n : ℕ) (list : List ℕ) (job k : ℕ) → first_refusal (refusals st n (erase_blocks list)) ≡ none → job_given (map_of st) list job ≡ true
    → first_refusal (refusals st n (carry_erase list job k)) ≡ none
unfolding refusals
carry_passes st n list job k e given =
    let f = front_passed (lent_refusals st n write_status) _ e in
    let good = row-passed _ _ (sym (then_passed (lent_refusals st n write_status) _ f) ∙ e) in
    then_passed (lent_refusals st n write_status) _ f ∙ row_passes _ _ _ _ good.0 (row_passes _ _ _ _ (ap not given) good.1)

-- where an acceptance passes, the list is good
pub accept_good : (st : State) (n : ℕ) (list : List ℕ) → first_refusal (refusals st n (accept_erase list)) ≡ none → good_list (blocks (map_of st)) list ≡ true
unfolding refusals
accept_good st n list e = not-false _ (passed_rows st n write_status _ _ e).0.last

-- ---- the order of the refusals of the calls that are lent the volume

-- 5 after 111
pub order_5 : (st : State) (v : List ℕ) → unlawful st ≡ false → length v < st.length
    → ((b o : ℕ) (buffer : List ℕ) → step st v (read b o buffer) ≡ result_of (refused 5) st v buffer)
    × ((b o : ℕ) (new : List ℕ) → step st v (write b o new) ≡ result_of (refused 5) st v [])
    × ((list : List ℕ) → step st v (erase_blocks list) ≡ result_of (refused 5) st v [])
unfolding refusals buffer_of
order_5 st v ok h = (
  (λ b o buffer. sym (refused-step st v (read b o buffer) 5 (lent_first st _ read_status _ 5 (lent_5 st _ read_status ok h)))),
  (λ b o new. sym (refused-step st v (write b o new) 5 (lent_first st _ write_status _ 5 (lent_5 st _ write_status ok h)))),
  λ list. sym (refused-step st v (erase_blocks list) 5 (lent_first st _ write_status _ 5 (lent_5 st _ write_status ok h))),
)

-- 15 after 5
module _ (st : State) (v : List ℕ) (ok : unlawful st ≡ false) (long : st.length ≤ length v) where
  pub order_15_read : flag st.attributes read_status ≡ false
      → (b o : ℕ) (buffer : List ℕ) → step st v (read b o buffer) ≡ result_of (refused 15) st v buffer
  unfolding refusals buffer_of
  order_15_read off b o buffer =
      sym (refused-step st v (read b o buffer) 15 (lent_first st _ read_status _ 15 (lent_15 st _ read_status ok long off)))

  pub order_15_write : flag st.attributes write_status ≡ false
      → ((b o : ℕ) (new : List ℕ) → step st v (write b o new) ≡ result_of (refused 15) st v [])
      × ((list : List ℕ) → step st v (erase_blocks list) ≡ result_of (refused 15) st v [])
  unfolding refusals buffer_of
  order_15_write off = (
    (λ b o new. sym (refused-step st v (write b o new) 15 (lent_first st _ write_status _ 15 (lent_15 st _ write_status ok long off)))),
    λ list. sym (refused-step st v (erase_blocks list) 15 (lent_first st _ write_status _ 15 (lent_15 st _ write_status ok long off))),
  )

  -- 2 after 15
  pub order_2_read : flag st.attributes read_status ≡ true
      → (b o : ℕ) (buffer : List ℕ) → blocks (map_of st) ≤ b → step st v (read b o buffer) ≡ result_of (refused 2) st v buffer
  unfolding refusals buffer_of
  order_2_read on b o buffer h =
      sym (refused-step st v (read b o buffer) 2 (lent_2 st _ read_status _ _ (lent_passes st _ read_status ok long on) (le-leb _ _ h)))

  pub order_2_write : flag st.attributes write_status ≡ true
      → ((b o : ℕ) (new : List ℕ) → blocks (map_of st) ≤ b → step st v (write b o new) ≡ result_of (refused 2) st v [])
      × ((list : List ℕ) → good_list (blocks (map_of st)) list ≡ false → step st v (erase_blocks list) ≡ result_of (refused 2) st v [])
  unfolding refusals buffer_of
  order_2_write on = (
    (λ b o new h. sym (refused-step st v (write b o new) 2 (lent_2 st _ write_status _ _ (lent_passes st _ write_status ok long on) (le-leb _ _ h)))),
    λ list h. sym (refused-step st v (erase_blocks list) 2 (lent_2 st _ write_status _ _ (lent_passes st _ write_status ok long on) (ap not h))),
  )

  -- 15 after 2: a block that is there and protected, and a good list that names one
  pub order_15_protected : flag st.attributes write_status ≡ true
      → ((b o : ℕ) (new : List ℕ) → b < blocks (map_of st) → st.protected ≤ b → step st v (write b o new) ≡ result_of (refused 15) st v [])
      × ((list : List ℕ) → good_list (blocks (map_of st)) list ≡ true → (b : ℕ) → T (names list b) → st.protected ≤ b
      → step st v (erase_blocks list) ≡ result_of (refused 15) st v [])
  unfolding refusals buffer_of
  order_15_protected on = (
    (λ b o new h p. sym (refused-step st v (write b o new) 15 (lent_last st _ write_status _ _ (lent_passes st _ write_status ok long on) (lt-leb _ _ h) ∙ row_applies _ _ _ (le-leb _ _ p)))),
    λ list h b t p. sym (refused-step st v (erase_blocks list) 15 (lent_last st _ write_status _ _ (lent_passes st _ write_status ok long on) (ap not h) ∙ row_applies _ _ _ (names-reaches list st.protected b p t))),
  )

-- ---- the other calls' refusals after 111

-- 3: the base address of a volume that is not memory mapped
pub order_3 : (st : State) (v : List ℕ) → unlawful st ≡ false → flag st.attributes memory_mapped ≡ false
    → step st v get_physical_address ≡ result_of (refused 3) st v []
unfolding refusals buffer_of
order_3 st v ok off = sym (refused-step st v get_physical_address 3 (row_passes _ _ _ _ ok (row_applies _ _ _ (ap not off))))

-- 2: the size of no such block
pub order_2_size : (st : State) (v : List ℕ) (b : ℕ) → unlawful st ≡ false → blocks (map_of st) ≤ b
    → step st v (get_block_size b) ≡ result_of (refused 2) st v []
unfolding refusals buffer_of
order_2_size st v b ok h = sym (refused-step st v (get_block_size b) 2 (row_passes _ _ _ _ ok (row_applies _ _ _ (le-leb _ _ h))))

-- ---- the answers of the calls that no row refuses and that are not lent the volume

-- the settings, of a lawful state
pub settings_read : (st : State) (v : List ℕ) → unlawful st ≡ false → step st v get_attributes ≡ result_of (success (st.attributes ∷ [])) st v []
unfolding refusals buffer_of perform effect
settings_read st v ok = sym (allowed_step st v get_attributes (row_passes _ _ _ _ ok no_row))

-- the base address, of one that is memory mapped
pub address_read : (st : State) (v : List ℕ) → unlawful st ≡ false → flag st.attributes memory_mapped ≡ true
    → step st v get_physical_address ≡ result_of (success (st.base ∷ [])) st v []
unfolding refusals buffer_of perform effect
address_read st v ok on = sym (allowed_step st v get_physical_address (row_passes _ _ _ _ ok (row_passes _ _ _ _ (ap not on) no_row)))
