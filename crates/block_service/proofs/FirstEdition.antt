-- Edition 1 is served as before request a (02): each of the seven calls of that time, on every state of edition 1 whose first protected block is the number of blocks, as at opening,
-- and every volume. The definitions of that time stand here word for word, each with ₁ behind its name, over volume's State₁ and the seven calls; what names neither the state nor the
-- calls is today's own, unchanged since.
use Prim.Native.Nat.{ℕ, zero, suc, ◌+◌, ◌*◌, ◌/◌, ◌%◌, ◌^◌}
use mathlib.Core.Bool.{Bool, true, false, not, ◌&&◌, or-false}
use mathlib.Core.List.{List, [], ◌∷◌, ◌++◌}
use mathlib.Core.Option.{Option, none, some}
use mathlib.Core.Path.{◌≡◌, refl, sym, ap, ◌∙◌}
use native.Mathlib.Nat.{div-one, div-div-eq-div-mul}
use native.Mathlib.Omega.{arith}
use borrow.Author.Tests.{eq-eqb, eqb-true, eqb-false, not-false}
use lib.Bits.{bit_or}
use lib.Dec.{eqb, leb, ltb}
use lib.ListN.{length, take, drop}
use Rattle.common.specs.Answers.{Answer, refused, success}
use Rattle.common.specs.Lists.{edit}
use Rattle.common.specs.Refusals.{any, Row, row, first_refusal, unless_refused}
use Rattle.common.proofs.Bits.{bit, masked_bit, bits_masked, above_mask}
use Rattle.common.proofs.Refusals.{any-passed}
use Rattle.volume.specs.Attributes.{flag, read_disabled_cap, read_enabled_cap, read_status, write_disabled_cap, write_enabled_cap, write_status, lock_cap, lock_status, memory_mapped}
use Rattle.volume.specs.BlockMap.{blocks}
use Rattle.volume.specs.State.{map_of, state_with, unlawful}
use Rattle.volume.specs.declared.state.State.{State}
use Rattle.volume.proofs.FirstEdition.{State₁, state_with₁, map_of₁, unlawful₁, former, unlawful_as_before}
use Rattle.block_service.specs.Access.{count_moved, ByteChange, changed_byte, write_change}
use Rattle.block_service.specs.Blocks.{place, start_of, length_of, consecutive_blocks}
use Rattle.block_service.specs.Erase.{good_list, erase_change}
use Rattle.block_service.specs.Service.{Call, get_attributes, set_attributes, get_physical_address, get_block_size, read, write, erase_blocks, protect_blocks, lent_refusals, refusals}
use Rattle.block_service.specs.Service.{reply, move_answer, effect, with_attributes, decide, Result, perform, buffer_of, step}
use Rattle.block_service.proofs.service.Erasing.{unprotected_write, unprotected_erase}
use Rattle.block_service.proofs.service.Kept.{map_kept, edition_kept, protection_kept}
use Rattle.settings.specs.Settings.{status_bits, changes_fixed, changes_locked, raises, clears, lacks_capability, setting_refusals}

abbrev changes_fixed₁ : ℕ → ℕ → Bool
changes_fixed₁ old new =
    any
    (not (eqb (old % 0x4) (new % 0x4))
    ∷ not (eqb (old / 0x8 % 4) (new / 0x8 % 4))
    ∷ not (eqb (old / 0x40 % 2) (new / 0x40 % 2))
    ∷ not (eqb (old / 0x100) (new / 0x100))
    ∷ [])

abbrev lacks_capability₁ : ℕ → ℕ → Bool
lacks_capability₁ old new =
    any
    ((raises old new read_status && not (flag old read_enabled_cap))
    ∷ (clears old new read_status && not (flag old read_disabled_cap))
    ∷ (raises old new write_status && not (flag old write_enabled_cap))
    ∷ (clears old new write_status && not (flag old write_disabled_cap))
    ∷ (raises old new lock_status && not (flag old lock_cap))
    ∷ [])

abbrev setting_refusals₁ : ℕ → ℕ → List Row
setting_refusals₁ old new =
    row (changes_fixed₁ old new) 2
    ∷ row (flag old lock_status && not (eqb old new)) 15
    ∷ row (lacks_capability₁ old new) 2
    ∷ []

-- two settings agree in every fixed bit of edition 1: all but 4, 0x20 and 0x80
record SameFixed (old new : ℕ) : Type 0 where
  pub read_caps : old % 0x4 ≡ new % 0x4
  pub write_caps : old / 0x8 % 4 ≡ new / 0x8 % 4
  pub lock_cap_lem : old / 0x40 % 2 ≡ new / 0x40 % 2
  pub high : old / 0x100 ≡ new / 0x100

-- numbers agree modulo 4 where they agree at their two lowest bits, and there
two_bits : (x y : ℕ) → x % 2 ≡ y % 2 → x / 2 % 2 ≡ y / 2 % 2 → x % 4 ≡ y % 4
two_bits x y a b = omega arith

low_bit : (x y : ℕ) → x % 4 ≡ y % 4 → x % 2 ≡ y % 2
low_bit x y e = omega arith

second_bit : (x y : ℕ) → x % 4 ≡ y % 4 → x / 2 % 2 ≡ y / 2 % 2
second_bit x y e = omega arith

module _ (old new : ℕ) where
  -- the same once 4, 0x20 and 0x80 are raised in both
  raised_same : bit_or old 0xA4 ≡ bit_or new 0xA4 → SameFixed old new
  raised_same e =
      let at : (k : ℕ) → bit 0xA4 k ≡ 0 → bit old k ≡ bit new k = masked_bit old new 0xA4 e in
      let b0 : old % 2 ≡ new % 2 = rw (div-one, div-one) at (at 0 refl) in
      let b4 : old / 8 / 2 % 2 ≡ new / 8 / 2 % 2 = rw (div-div-eq-div-mul old 8 2, div-div-eq-div-mul new 8 2) (at 4 refl) in
      record {
        read_caps = two_bits old new b0 (at 1 refl);
        write_caps = two_bits (old / 8) (new / 8) (at 3 refl) b4;
        lock_cap_lem = at 6 refl;
        high = above_mask old new 0xA4 e 8 refl;
      }

  same_raised : SameFixed old new → bit_or old 0xA4 ≡ bit_or new 0xA4
  same_raised f = bits_masked old new 0xA4 (λ k e. bits k e)
    where
      bits : (k : ℕ) → bit 0xA4 k ≡ 0 → bit old k ≡ bit new k
      bits zero e = rw (div-one, div-one) (low_bit old new f.read_caps)
      bits (suc zero) e = second_bit old new f.read_caps
      bits (suc (suc zero)) e = absurd (omega arith)
      bits (suc (suc (suc zero))) e = low_bit (old / 8) (new / 8) f.write_caps
      bits (suc (suc (suc (suc zero)))) e =
          rw (div-div-eq-div-mul old 8 2, div-div-eq-div-mul new 8 2) at (second_bit (old / 8) (new / 8) f.write_caps)
      bits (suc (suc (suc (suc (suc zero))))) e = absurd (omega arith)
      bits (suc (suc (suc (suc (suc (suc zero)))))) e = f.lock_cap_lem
      bits (suc (suc (suc (suc (suc (suc (suc zero))))))) e = absurd (omega arith)
      bits (suc (suc (suc (suc (suc (suc (suc (suc k)))))))) e =
          let w : 2 ^ suc (suc (suc (suc (suc (suc (suc (suc k))))))) ≡ 256 * 2 ^ k = omega arith in
          rw (w, ← div-div-eq-div-mul old 256 (2 ^ k), ← div-div-eq-div-mul new 256 (2 ^ k), f.high)

  -- the old test, both ways
  old_same : changes_fixed₁ old new ≡ false → SameFixed old new
  old_same e =
      let a = any-passed (not (eqb (old % 0x4) (new % 0x4))) _ e in
      let b = any-passed (not (eqb (old / 0x8 % 4) (new / 0x8 % 4))) _ a.1 in
      let c = any-passed (not (eqb (old / 0x40 % 2) (new / 0x40 % 2))) _ b.1 in
      let d = any-passed (not (eqb (old / 0x100) (new / 0x100))) _ c.1 in
      record {
        read_caps = eqb-true _ _ (not-false _ a.0);
        write_caps = eqb-true _ _ (not-false _ b.0);
        lock_cap_lem = eqb-true _ _ (not-false _ c.0);
        high = eqb-true _ _ (not-false _ d.0);
      }

  same_old : SameFixed old new → changes_fixed₁ old new ≡ false
  unfolding any
  same_old f = rw (eq-eqb _ _ f.read_caps, eq-eqb _ _ f.write_caps, eq-eqb _ _ f.lock_cap_lem, eq-eqb _ _ f.high)

  -- so the two ways to ask for a fixed bit agree
  pub fixed_as_before : changes_fixed 1 old new ≡ changes_fixed₁ old new
  unfolding changes_fixed status_bits
  fixed_as_before = go (eqb (bit_or old 0xA4) (bit_or new 0xA4)) refl (changes_fixed₁ old new) refl
    where
      go : (t : Bool) → eqb (bit_or old 0xA4) (bit_or new 0xA4) ≡ t → (u : Bool) → changes_fixed₁ old new ≡ u → not t ≡ u
      go true e u q = sym (same_old (raised_same (eqb-true _ _ e))) ∙ q
      go false e true q = refl
      go false e false q = absurd (eqb-false _ _ e (same_raised (old_same q)))

pub settings_as_before : (old new : ℕ) → setting_refusals 1 old new ≡ setting_refusals₁ old new
unfolding setting_refusals changes_locked lacks_capability any
settings_as_before old new = rw (fixed_as_before old new, or-false (flag old lock_status && not (eqb old new)))

-- ---- the seven calls

pub data Call₁ : Type 0 where
  get_attributes₁ : Call₁
  set_attributes₁ : ℕ → Call₁
  get_physical_address₁ : Call₁
  get_block_size₁ : ℕ → Call₁
  read₁ : ℕ → ℕ → List ℕ → Call₁
  write₁ : ℕ → ℕ → List ℕ → Call₁
  erase_blocks₁ : List ℕ → Call₁

-- the same call today
abbrev pub today : Call₁ → Call
today get_attributes₁ = get_attributes
today (set_attributes₁ new) = set_attributes new
today get_physical_address₁ = get_physical_address
today (get_block_size₁ block) = get_block_size block
today (read₁ block offset buffer) = read block offset buffer
today (write₁ block offset new) = write block offset new
today (erase_blocks₁ list) = erase_blocks list

abbrev lent_refusals₁ : State₁ → ℕ → ℕ → List Row
lent_refusals₁ st n status =
    row (unlawful₁ st) 111
    ∷ row (ltb n st.length) 5
    ∷ row (not (flag st.attributes status)) 15
    ∷ []

abbrev refusals₁ : State₁ → ℕ → Call₁ → List Row
refusals₁ st n get_attributes₁ = row (unlawful₁ st) 111 ∷ []
refusals₁ st n (set_attributes₁ new) = row (unlawful₁ st) 111 ∷ setting_refusals₁ st.attributes new
refusals₁ st n get_physical_address₁ = row (unlawful₁ st) 111 ∷ row (not (flag st.attributes memory_mapped)) 3 ∷ []
refusals₁ st n (get_block_size₁ block) = row (unlawful₁ st) 111 ∷ row (leb (blocks (map_of₁ st)) block) 2 ∷ []
refusals₁ st n (read₁ block offset buffer) = lent_refusals₁ st n read_status ++ (row (leb (blocks (map_of₁ st)) block) 2 ∷ [])
refusals₁ st n (write₁ block offset new) = lent_refusals₁ st n write_status ++ (row (leb (blocks (map_of₁ st)) block) 2 ∷ [])
refusals₁ st n (erase_blocks₁ list) = lent_refusals₁ st n write_status ++ (row (not (good_list (blocks (map_of₁ st)) list)) 2 ∷ [])

pub data Effect₁ : Type 0 where
  reply₁ : Answer → Effect₁
  set_to₁ : State₁ → Answer → Effect₁
  copy_out₁ : ℕ → ℕ → Answer → Effect₁
  change₁ : (ℕ → ByteChange) → Answer → Effect₁

abbrev with_attributes₁ : State₁ → ℕ → State₁
with_attributes₁ st a = state_with₁ st.guid st.length a st.base st.entries st.map

abbrev effect₁ : State₁ → Call₁ → Effect₁
effect₁ st get_attributes₁ = reply₁ (success (st.attributes ∷ []))
effect₁ st (set_attributes₁ new) = set_to₁ (with_attributes₁ st new) (success (new ∷ []))
effect₁ st get_physical_address₁ = reply₁ (success (st.base ∷ []))
effect₁ st (get_block_size₁ block) = reply₁ (success (length_of (place (map_of₁ st) block) ∷ consecutive_blocks (map_of₁ st) block ∷ []))
effect₁ st (read₁ block offset buffer) =
    let found = place (map_of₁ st) block in
    let count = count_moved (length_of found) offset (length buffer) in
    copy_out₁ (start_of found + offset) count (move_answer count (length buffer))
effect₁ st (write₁ block offset new) =
    let found = place (map_of₁ st) block in
    let count = count_moved (length_of found) offset (length new) in
    change₁ (write_change (start_of found + offset) count new) (move_answer count (length new))
effect₁ st (erase_blocks₁ list) = change₁ (erase_change (map_of₁ st) list) (success [])

abbrev decide₁ : State₁ → ℕ → Call₁ → Effect₁
decide₁ st n call = unless_refused (λ number. reply₁ (refused number)) (first_refusal (refusals₁ st n call)) (effect₁ st call)

pub record Result₁ : Type 0 where
  pub answer : Answer
  pub state : State₁
  pub volume : List ℕ
  pub buffer : List ℕ

abbrev result₁ : Answer → State₁ → List ℕ → List ℕ → Result₁
result₁ answer st volume buffer = record { answer = answer; state = st; volume = volume; buffer = buffer }

abbrev perform₁ : State₁ → List ℕ → List ℕ → Effect₁ → Result₁
perform₁ st volume buffer (reply₁ a) = result₁ a st volume buffer
perform₁ st volume buffer (set_to₁ next a) = result₁ a next volume buffer
perform₁ st volume buffer (copy_out₁ at count a) = result₁ a st volume (take count (drop at volume) ++ drop count buffer)
perform₁ st volume buffer (change₁ f a) =
    result₁ a st (edit (λ i old. changed_byte st.attributes (f i) old) 0 volume) buffer

abbrev buffer_of₁ : Call₁ → List ℕ
buffer_of₁ get_attributes₁ = []
buffer_of₁ (set_attributes₁ new) = []
buffer_of₁ get_physical_address₁ = []
buffer_of₁ (get_block_size₁ block) = []
buffer_of₁ (read₁ block offset buffer) = buffer
buffer_of₁ (write₁ block offset new) = []
buffer_of₁ (erase_blocks₁ list) = []

abbrev pub step₁ : State₁ → List ℕ → Call₁ → Result₁
step₁ st volume call = perform₁ st volume (buffer_of₁ call) (decide₁ st (length volume) call)

-- rule 111 is as it was
lawful_as_before : (st : State) → st.edition ≡ 1 → st.protected ≡ blocks (map_of st) → unlawful st ≡ unlawful₁ (former st)
lawful_as_before st e p = unlawful_as_before st e (omega arith)

-- a call is refused as it was
refused_as_before : (st : State) (n : ℕ) (c : Call₁) → st.edition ≡ 1 → st.protected ≡ blocks (map_of st)
    → first_refusal (refusals st n (today c)) ≡ first_refusal (refusals₁ (former st) n c)
unfolding refusals lent_refusals map_of
refused_as_before st n get_attributes₁ e p = rw (lawful_as_before st e p)
refused_as_before st n (set_attributes₁ new) e p = rw (lawful_as_before st e p, e, settings_as_before st.attributes new)
refused_as_before st n get_physical_address₁ e p = rw (lawful_as_before st e p)
refused_as_before st n (get_block_size₁ b) e p = rw (lawful_as_before st e p)
refused_as_before st n (read₁ b o buffer) e p = rw (lawful_as_before st e p)
refused_as_before st n (write₁ b o new) e p = unprotected_write st n p b o new ∙ rw (lawful_as_before st e p)
refused_as_before st n (erase_blocks₁ list) e p = unprotected_erase st n p list ∙ rw (lawful_as_before st e p)

-- a result without the edition and the first protected block of its state
abbrev pub former_result : Result → Result₁
former_result r = result₁ r.answer (former r.state) r.volume r.buffer

-- a refused call leaves, and an allowed one does, what it did
effect_as_before : (st : State) (v buffer : List ℕ) (c : Call₁) → former_result (perform st v buffer (effect st (today c))) ≡ perform₁ (former st) v buffer (effect₁ (former st) c)
unfolding perform effect map_of with_attributes state_with
effect_as_before st v buffer get_attributes₁ = refl
effect_as_before st v buffer (set_attributes₁ new) = refl
effect_as_before st v buffer get_physical_address₁ = refl
effect_as_before st v buffer (get_block_size₁ b) = refl
effect_as_before st v buffer (read₁ b o data') = refl
effect_as_before st v buffer (write₁ b o new) = refl
effect_as_before st v buffer (erase_blocks₁ list) = refl

-- the reader's buffer is the call's own
buffer_as_before : (c : Call₁) → buffer_of (today c) ≡ buffer_of₁ c
unfolding buffer_of
buffer_as_before get_attributes₁ = refl
buffer_as_before (set_attributes₁ new) = refl
buffer_as_before get_physical_address₁ = refl
buffer_as_before (get_block_size₁ b) = refl
buffer_as_before (read₁ b o buffer) = refl
buffer_as_before (write₁ b o new) = refl
buffer_as_before (erase_blocks₁ list) = refl

-- none of the seven calls protects blocks
other_call : (c : Call₁) (first : ℕ) → today c ≡ protect_blocks first → ⊥
other_call get_attributes₁ first e = let z : ◌≡◌ {A = ℕ} 0 1 = cc in omega arith
other_call (set_attributes₁ new) first e = let z : ◌≡◌ {A = ℕ} 0 1 = cc in omega arith
other_call get_physical_address₁ first e = let z : ◌≡◌ {A = ℕ} 0 1 = cc in omega arith
other_call (get_block_size₁ b) first e = let z : ◌≡◌ {A = ℕ} 0 1 = cc in omega arith
other_call (read₁ b o buffer) first e = let z : ◌≡◌ {A = ℕ} 0 1 = cc in omega arith
other_call (write₁ b o new) first e = let z : ◌≡◌ {A = ℕ} 0 1 = cc in omega arith
other_call (erase_blocks₁ list) first e = let z : ◌≡◌ {A = ℕ} 0 1 = cc in omega arith

-- the result is as before
pub step_as_before : (st : State) (v : List ℕ) (c : Call₁) → st.edition ≡ 1 → st.protected ≡ blocks (map_of st)
    → former_result (step st v (today c)) ≡ step₁ (former st) v c
unfolding step decide perform
step_as_before st v c e p = rw (refused_as_before st (length v) c e p, buffer_as_before c) (go (first_refusal (refusals₁ (former st) (length v) c)))
  where
    go : (o : Option ℕ)
        → former_result (perform st v (buffer_of₁ c) (unless_refused (λ n. reply (refused n)) o (effect st (today c))))
        ≡ perform₁ (former st) v (buffer_of₁ c) (unless_refused (λ n. reply₁ (refused n)) o (effect₁ (former st) c))
    go none = effect_as_before st v (buffer_of₁ c) c
    go (some n) = refl

-- and the state afterwards is one of edition 1 and unprotected again, so that the next call is as before too
pub state_as_before : (st : State) (v : List ℕ) (c : Call₁) → st.edition ≡ 1 → st.protected ≡ blocks (map_of st)
    → ((step st v (today c)).state.edition ≡ 1) × ((step st v (today c)).state.protected ≡ blocks (map_of (step st v (today c)).state))
state_as_before st v c e p =
    (edition_kept st v (today c) ∙ e, protection_kept st v (today c) (other_call c) ∙ p ∙ sym (ap blocks (map_kept st v (today c))))
