-- What holds of all the calls: which things none of them changes, that a lawful state stays lawful, what locks keep, and what protection keeps.
use Prim.Native.Nat.{ℕ, ◌+◌, ◌/◌, ◌%◌, ◌≤◌, ◌<◌}
use mathlib.Core.Bool.{Bool, true, false, not, cond, ◌&&◌, ◌||◌, true≢false}
use mathlib.Core.List.{List, [], ◌∷◌}
use mathlib.Core.Option.{Option, none, some}
use mathlib.Core.Path.{◌≡◌, refl, sym, ap, subst, ◌∙◌}
use native.Mathlib.Omega.{arith}
use borrow.Author.Tests.{leb-false, eqb-true, not-false}
use lib.Bits.{bit_or}
use lib.Dec.{T, eqb}
use lib.ListN.{length, get_or}
use Rattle.common.specs.Refusals.{row, first_refusal, any}
use Rattle.common.proofs.Bits.{bit, masked_bit, above_mask, apart_mask}
use Rattle.common.proofs.Edit.{length-edit}
use Rattle.common.proofs.Refusals.{row-passed, any-passed}
use Rattle.volume.specs.Attributes.{flag, read_status, write_status, lock_status, read_lock_status, write_lock_status, reserved_bits, attributes_fault, base_fault}
use Rattle.volume.specs.BlockMap.{blocks}
use Rattle.volume.specs.State.{map_of, unlawful, state_with}
use Rattle.volume.specs.declared.state.State.{State}
use Rattle.block_service.specs.Access.{count_moved, erased_byte}
use Rattle.block_service.specs.Blocks.{place, in_block}
use Rattle.block_service.specs.Erase.{names}
use Rattle.block_service.specs.Service.{Call, get_attributes, set_attributes, get_physical_address, get_block_size, read, write, erase_blocks, protect_blocks, accept_erase, carry_erase, refusals, effect, Result}
use Rattle.block_service.specs.Service.{perform, buffer_of, step, decide, Effect, reply, set_to, copy_out, change, with_attributes, with_protected}
use Rattle.settings.specs.Settings.{status_bits, changes_fixed, raises, clears, breaks_lock, changes_locked, setting_refusals}
use Rattle.block_service.specs.Blocks.{Place}
use Rattle.block_service.specs.Blocks.{At, Missing}
use Rattle.block_service.proofs.blocks.Places.{found_start, found_end, in_block_of_bounds, place_found, place_lost, past_every_block, in_one_block}
use Rattle.block_service.proofs.erase.Lists.{names-reaches}
use Rattle.block_service.proofs.service.Erasing.{erase_other}
use Rattle.block_service.proofs.service.Carrying.{carry_other}
use Rattle.block_service.proofs.service.Moving.{write_other}
use Rattle.block_service.proofs.service.Protecting.{protect_passed, lower_lawful}
use Rattle.block_service.proofs.service.Steps.{refused-step, allowed_step, quiet_step, allowed_answers, passed_write, write_unprotected, passed_erase, erase_unprotected, carry_passed}
use Rattle.settings.proofs.Rules.{same_fixed, fixed_bits}

-- ---- what no call changes

-- after a call the state is as it was, or has the settings or the first protected block that were set: what holds of all three holds of it
pub state_cases : (P : State → Type 0) (st : State) (v : List ℕ) (c : Call) → P st
    → ((new : ℕ) → first_refusal (refusals st (length v) (set_attributes new)) ≡ none → P (with_attributes st new))
    → ((first : ℕ) → first_refusal (refusals st (length v) (protect_blocks first)) ≡ none → P (with_protected st first)) → P (step st v c).state
unfolding perform effect
state_cases P st v c same set protect = go (first_refusal (refusals st (length v) c)) refl
  where
    allowed : (c : Call) → first_refusal (refusals st (length v) c) ≡ none → P (perform st v (buffer_of c) (effect st c)).state
    allowed get_attributes e = same
    allowed (set_attributes new) e = set new e
    allowed get_physical_address e = same
    allowed (get_block_size b) e = same
    allowed (read b o buffer) e = same
    allowed (write b o new) e = same
    allowed (erase_blocks list) e = same
    allowed (protect_blocks first) e = protect first e
    allowed (accept_erase list) e = same
    allowed (carry_erase list job n) e = same

    go : (o : Option ℕ) → first_refusal (refusals st (length v) c) ≡ o → P (step st v c).state
    go (some n) e = subst (λ (r : Result). P r.state) (refused-step st v c n e) same
    go none e = subst (λ (r : Result). P r.state) (allowed_step st v c e) (allowed c e)

-- the map and the edition are the same after every call
pub map_kept : (st : State) (v : List ℕ) (c : Call) → map_of (step st v c).state ≡ map_of st
unfolding with_attributes with_protected state_with map_of
map_kept st v c = state_cases (λ s. map_of s ≡ map_of st) st v c refl (λ new e. refl) (λ first e. refl)

pub edition_kept : (st : State) (v : List ℕ) (c : Call) → (step st v c).state.edition ≡ st.edition
unfolding with_attributes with_protected state_with
edition_kept st v c = state_cases (λ s. s.edition ≡ st.edition) st v c refl (λ new e. refl) (λ first e. refl)

-- and so is the volume's length
pub length_kept : (st : State) (v : List ℕ) (c : Call) → length (step st v c).volume ≡ length v
unfolding step perform
length_kept st v c = go (decide st (length v) c)
  where
    go : (e : Effect) → length (perform st v (buffer_of c) e).volume ≡ length v
    go (reply a) = refl
    go (set_to next a) = refl
    go (copy_out at n a) = refl
    go (change f a) = length-edit _ 0 v

-- what is answered, and the state afterwards, hang on no byte of the volume
pub follows_state : (st : State) (v w : List ℕ) (c : Call) → length v ≡ length w
    → ((step st v c).answer ≡ (step st w c).answer) × ((step st v c).state ≡ (step st w c).state)
unfolding step perform
follows_state st v w c e = rw e (go (decide st (length w) c))
  where
    go : (x : Effect)
        → ((perform st v (buffer_of c) x).answer ≡ (perform st w (buffer_of c) x).answer)
        × ((perform st v (buffer_of c) x).state ≡ (perform st w (buffer_of c) x).state)
    go (reply a) = (refl, refl)
    go (set_to next a) = (refl, refl)
    go (copy_out at n a) = (refl, refl)
    go (change f a) = (refl, refl)

-- a write changes no byte but those of its block that it counts
pub write_outside : (st : State) (v : List ℕ) (b o : ℕ) (new : List ℕ) (i : ℕ)
    → ((e s l r : ℕ) → place (map_of st) b ≡ At e s l r → s + o ≤ i → i < s + o + count_moved l o (length new) → ⊥)
    → get_or (step st v (write b o new)).volume i 0 ≡ get_or v i 0
write_outside st v b o new i out = go (first_refusal (refusals st (length v) (write b o new))) refl
  where
    moved : first_refusal (refusals st (length v) (write b o new)) ≡ none → (x : Place) → place (map_of st) b ≡ x
        → get_or (step st v (write b o new)).volume i 0 ≡ get_or v i 0
    moved e (At e' s l r) at = write_other st v b o new (allowed_answers st v (write b o new) e) e' s l r at i (out e' s l r at)
    moved e Missing at = absurd (omega (arith, place_lost (map_of st) b at, leb-false (blocks (map_of st)) b (passed_write st (length v) b o new e).last))

    go : (x : Option ℕ) → first_refusal (refusals st (length v) (write b o new)) ≡ x → get_or (step st v (write b o new)).volume i 0 ≡ get_or v i 0
    go (some n) e = ap (λ (r : Result). get_or r.volume i 0) (sym (refused-step st v (write b o new) n e))
    go none e = moved e (place (map_of st) b) refl

-- so none outside the block that it starts in
pub write_elsewhere : (st : State) (v : List ℕ) (b o : ℕ) (new : List ℕ) (i : ℕ) → (T (in_block (map_of st) b i) → ⊥) → get_or (step st v (write b o new)).volume i 0 ≡ get_or v i 0
unfolding count_moved
write_elsewhere st v b o new i out =
    write_outside st v b o new i
    (λ e s l r at p q.
    out (in_block_of_bounds (map_of st) b i (place_found (map_of st) b e s l r at) (omega (arith, found_start (map_of st) b e s l r at)) (omega (arith, found_end (map_of st) b e s l r at))))

-- a byte that no write and no erase which passes its table reaches stays: it lies in no block that the one starts in or the other names
byte_kept : (st : State) (v : List ℕ) (i : ℕ)
    → ((b o : ℕ) (new : List ℕ) → first_refusal (refusals st (length v) (write b o new)) ≡ none → T (in_block (map_of st) b i) → ⊥)
    → ((list : List ℕ) (b : ℕ) → first_refusal (refusals st (length v) (erase_blocks list)) ≡ none → T (names list b) → T (in_block (map_of st) b i) → ⊥)
    → (c : Call) → get_or (step st v c).volume i 0 ≡ get_or v i 0
unfolding perform effect
byte_kept st v i writes erases c = go (first_refusal (refusals st (length v) c)) refl
  where
    allowed : (c : Call) → first_refusal (refusals st (length v) c) ≡ none → get_or (step st v c).volume i 0 ≡ get_or v i 0
    allowed get_attributes e = ap (λ (w : List ℕ). get_or w i 0) (quiet_step st v get_attributes refl)
    allowed (set_attributes new) e = ap (λ (w : List ℕ). get_or w i 0) (quiet_step st v (set_attributes new) refl)
    allowed get_physical_address e = ap (λ (w : List ℕ). get_or w i 0) (quiet_step st v get_physical_address refl)
    allowed (get_block_size b) e = ap (λ (w : List ℕ). get_or w i 0) (quiet_step st v (get_block_size b) refl)
    allowed (read b o buffer) e = ap (λ (w : List ℕ). get_or w i 0) (quiet_step st v (read b o buffer) refl)
    allowed (write b o new) e = write_elsewhere st v b o new i (writes b o new e)
    allowed (erase_blocks list) e =
        erase_other st v list (sym (ap (λ (r : Result). r.answer) (allowed_step st v (erase_blocks list) e))) i (λ b t k. erases list b e t k)
    allowed (protect_blocks first) e = ap (λ (w : List ℕ). get_or w i 0) (quiet_step st v (protect_blocks first) refl)
    allowed (accept_erase list) e = ap (λ (w : List ℕ). get_or w i 0) (quiet_step st v (accept_erase list) refl)
    allowed (carry_erase list job n) e = carry_other st v list job n e i (λ b t k. erases list b (carry_passed st (length v) list job n e).0 t k)

    go : (o : Option ℕ) → first_refusal (refusals st (length v) c) ≡ o → get_or (step st v c).volume i 0 ≡ get_or v i 0
    go (some n) e = ap (λ (r : Result). get_or r.volume i 0) (sym (refused-step st v c n e))
    go none e = allowed c e

-- volume bytes past the state's length never change
pub past_length_kept : (st : State) (v : List ℕ) (c : Call) (i : ℕ) → st.length ≤ i → get_or (step st v c).volume i 0 ≡ get_or v i 0
past_length_kept st v c i h =
    byte_kept st v i
    (λ b o new e. past_every_block (map_of st) b i (omega (arith, (passed_write st (length v) b o new e).lawful.total)))
    (λ list b e t. past_every_block (map_of st) b i (omega (arith, (passed_erase st (length v) list e).lawful.total))) c

-- ---- a lawful state stays lawful

-- settings that agree in every fixed bit break the same rules
same-attributes : (edition old new : ℕ) → changes_fixed edition old new ≡ false → attributes_fault edition new ≡ attributes_fault edition old
unfolding attributes_fault status_bits any
same-attributes edition old new e = go (eqb edition 2) refl
  where
    go : (t : Bool) → eqb edition 2 ≡ t → attributes_fault edition new ≡ attributes_fault edition old
    go true q =
        let m : bit_or old 0xA0A4 ≡ bit_or new 0xA0A4 = rw q at (same_fixed edition old new e) in
        rw (q, apart_mask old new 0xA0A4 m reserved_bits refl)
    go false q =
        let m : bit_or old 0xA4 ≡ bit_or new 0xA4 = rw q at (same_fixed edition old new e) in
        let b8 : old / 0x100 % 2 ≡ new / 0x100 % 2 = masked_bit old new 0xA4 m 8 refl in
        let b12 : old / 0x1000 % 2 ≡ new / 0x1000 % 2 = masked_bit old new 0xA4 m 12 refl in
        let b13 : old / 0x2000 % 2 ≡ new / 0x2000 % 2 = masked_bit old new 0xA4 m 13 refl in
        let b14 : old / 0x4000 % 2 ≡ new / 0x4000 % 2 = masked_bit old new 0xA4 m 14 refl in
        let b15 : old / 0x8000 % 2 ≡ new / 0x8000 % 2 = masked_bit old new 0xA4 m 15 refl in
        let above : old / 0x10000 ≡ new / 0x10000 = above_mask old new 0xA4 m 16 refl in
        rw (q, b8, b12, b13, b14, b15, above)

same_base : (edition old new base : ℕ) → changes_fixed edition old new ≡ false → base_fault new base ≡ base_fault old base
unfolding base_fault status_bits
same_base edition old new base e = rw (fixed_bits edition old new e 10 (go (eqb edition 2)))
  where
    go : (t : Bool) → bit (cond t 0xA0A4 0xA4) 10 ≡ 0
    go true = refl
    go false = refl

set_lawful : (st : State) (new : ℕ) → attributes_fault st.edition new ≡ attributes_fault st.edition st.attributes
    → base_fault new st.base ≡ base_fault st.attributes st.base → unlawful st ≡ false → unlawful (with_attributes st new) ≡ false
unfolding unlawful with_attributes state_with map_of
set_lawful st new a b ok = rw (a, b) ok

-- settings that were set passed the rules
record Set (st : State) (new : ℕ) : Type 0 where
  pub fixed : changes_fixed st.edition st.attributes new ≡ false
  pub unlocked : changes_locked st.edition st.attributes new ≡ false

set-passed : (st : State) (n new : ℕ) → first_refusal (refusals st n (set_attributes new)) ≡ none → Set st new
unfolding refusals setting_refusals
set-passed st n new e =
    let p = row-passed (row (changes_fixed st.edition st.attributes new) 2) _ (row-passed (row (unlawful st) 111) _ e).1 in
    let q = row-passed (row (changes_locked st.edition st.attributes new) 15) _ p.1 in
    record { fixed = p.0; unlocked = q.0 }

-- a lawful state stays lawful
pub lawful_kept : (st : State) (v : List ℕ) (c : Call) → unlawful st ≡ false → unlawful (step st v c).state ≡ false
lawful_kept st v c ok =
    state_cases (λ s. unlawful s ≡ false) st v c ok
    (λ new e.
    let p = (set-passed st (length v) new e).fixed in
    set_lawful st new (same-attributes st.edition st.attributes new p) (same_base st.edition st.attributes new st.base p) ok)
    (λ first e. lower_lawful st first (protect_passed st (length v) first e) ok)

-- the erase value cannot be set: it is the same after every call
same-value : (edition old new : ℕ) → changes_fixed edition old new ≡ false → erased_byte new ≡ erased_byte old
unfolding erased_byte status_bits
same-value edition old new e = rw (fixed_bits edition old new e 11 (go (eqb edition 2)))
  where
    go : (t : Bool) → bit (cond t 0xA0A4 0xA4) 11 ≡ 0
    go true = refl
    go false = refl

pub erase_value_kept : (st : State) (v : List ℕ) (c : Call) → erased_byte (step st v c).state.attributes ≡ erased_byte st.attributes
unfolding with_attributes with_protected state_with
erase_value_kept st v c =
    state_cases (λ s. erased_byte s.attributes ≡ erased_byte st.attributes) st v c refl
    (λ new e. same-value st.edition st.attributes new (set-passed st (length v) new e).fixed) (λ first e. refl)

-- ---- locks

-- a lock that is not broken stays, and its status keeps its value
unbroken : (old new lock status : ℕ) → breaks_lock old new lock status ≡ false → flag old lock ≡ true → (flag new lock ≡ true) × (flag new status ≡ flag old status)
unfolding breaks_lock raises clears
unbroken old new lock status = go (flag old lock) (flag new lock) (flag old status) (flag new status)
  where
    go : (l k s t : Bool) → (l && (not k || (not s && t || s && not t))) ≡ false → l ≡ true → (k ≡ true) × (t ≡ s)
    go true true true true e q = (refl, refl)
    go true true true false e q = absurd (true≢false e)
    go true true false true e q = absurd (true≢false e)
    go true true false false e q = (refl, refl)
    go true false s t e q = absurd (true≢false e)
    go false k s t e q = absurd (true≢false (sym q))

-- in edition 2 neither lock is broken where the second rule passed
locks_passed : (edition old new : ℕ) → edition ≡ 2 → changes_locked edition old new ≡ false
    → (breaks_lock old new read_lock_status read_status ≡ false) × (breaks_lock old new write_lock_status write_status ≡ false)
unfolding changes_locked
locks_passed edition old new two e =
    let p = any-passed (flag old lock_status && not (eqb old new)) (breaks_lock old new read_lock_status read_status ∷ breaks_lock old new write_lock_status write_status ∷ []) (rw two at e) in
    let q = any-passed (breaks_lock old new read_lock_status read_status) _ p.1 in
    (q.0, (any-passed (breaks_lock old new write_lock_status write_status) _ q.1).0)

-- so in edition 2 no call lowers a lock, nor changes a status that is locked
module _ (st : State) (v : List ℕ) (c : Call) (two : st.edition ≡ 2) where
  -- the lock and the status as a later state has them
  abbrev Kept : ℕ → ℕ → State → Type 0
  Kept lock status s = (flag s.attributes lock ≡ true) × (flag s.attributes status ≡ flag st.attributes status)

  module _ (lock status : ℕ) (held : (new : ℕ) → changes_locked st.edition st.attributes new ≡ false → breaks_lock st.attributes new lock status ≡ false) where
    lock_kept : flag st.attributes lock ≡ true → Kept lock status (step st v c).state
    unfolding with_attributes with_protected state_with
    lock_kept on =
        state_cases (Kept lock status) st v c (on, refl)
        (λ new e. unbroken st.attributes new lock status (held new (set-passed st (length v) new e).unlocked) on) (λ first e. (on, refl))

  pub read_lock_kept : flag st.attributes read_lock_status ≡ true
      → (flag (step st v c).state.attributes read_lock_status ≡ true) × (flag (step st v c).state.attributes read_status ≡ flag st.attributes read_status)
  read_lock_kept = lock_kept read_lock_status read_status (λ new e. (locks_passed st.edition st.attributes new two e).0)

  pub write_lock_kept : flag st.attributes write_lock_status ≡ true
      → (flag (step st v c).state.attributes write_lock_status ≡ true) × (flag (step st v c).state.attributes write_status ≡ flag st.attributes write_status)
  write_lock_kept = lock_kept write_lock_status write_status (λ new e. (locks_passed st.edition st.attributes new two e).1)

-- in both editions a state whose settings are locked stays as it is, but for its first protected block
pub locked_kept : (st : State) (v : List ℕ) (c : Call) → flag st.attributes lock_status ≡ true → (step st v c).state ≡ with_protected st (step st v c).state.protected
unfolding changes_locked with_attributes with_protected state_with
locked_kept st v c on =
    state_cases (λ s. s ≡ with_protected st s.protected) st v c refl
    (λ new e.
    let p = any-passed (flag st.attributes lock_status && not (eqb st.attributes new)) _ (set-passed st (length v) new e).unlocked in
    let same : new ≡ st.attributes = sym (eqb-true st.attributes new (not-false _ (rw on at p.0))) in
    ap (λ (a : ℕ). with_attributes st a) same)
    (λ first e. refl)

-- ---- protection (02, j)

-- no call raises the first protected block
pub protected_falls : (st : State) (v : List ℕ) (c : Call) → (step st v c).state.protected ≤ st.protected
unfolding with_attributes with_protected state_with
protected_falls st v c =
    state_cases (λ s. s.protected ≤ st.protected) st v c (omega arith) (λ new e. omega arith) (λ first e. protect_passed st (length v) first e)

-- and only protecting blocks moves it: any other call keeps it
pub protection_kept : (st : State) (v : List ℕ) (c : Call) → ((first : ℕ) → c ≡ protect_blocks first → ⊥) → (step st v c).state.protected ≡ st.protected
unfolding perform effect with_attributes state_with
protection_kept st v c other = go (first_refusal (refusals st (length v) c)) refl
  where
    allowed : (c : Call) → ((first : ℕ) → c ≡ protect_blocks first → ⊥) → (perform st v (buffer_of c) (effect st c)).state.protected ≡ st.protected
    allowed get_attributes unlike = refl
    allowed (set_attributes new) unlike = refl
    allowed get_physical_address unlike = refl
    allowed (get_block_size b) unlike = refl
    allowed (read b o buffer) unlike = refl
    allowed (write b o new) unlike = refl
    allowed (erase_blocks list) unlike = refl
    allowed (protect_blocks first) unlike = absurd (unlike first refl)
    allowed (accept_erase list) unlike = refl
    allowed (carry_erase list job n) unlike = refl

    go : (o : Option ℕ) → first_refusal (refusals st (length v) c) ≡ o → (step st v c).state.protected ≡ st.protected
    go (some n) e = ap (λ (r : Result). r.state.protected) (sym (refused-step st v c n e))
    go none e = ap (λ (r : Result). r.state.protected) (sym (allowed_step st v c e)) ∙ allowed c other

-- no call changes a byte of a protected block
pub protected_kept : (st : State) (v : List ℕ) (c : Call) (b i : ℕ) → st.protected ≤ b → T (in_block (map_of st) b i) → get_or (step st v c).volume i 0 ≡ get_or v i 0
protected_kept st v c b i h k =
    byte_kept st v i
    (λ a o new e t.
    let same : a ≡ b = in_one_block (map_of st) a b i t k in
    omega (arith, write_unprotected st (length v) a o new e))
    (λ list a e n t.
    let same : a ≡ b = in_one_block (map_of st) a b i t k in
    true≢false (sym (names-reaches list st.protected a (omega arith) n) ∙ erase_unprotected st (length v) list e)) c
