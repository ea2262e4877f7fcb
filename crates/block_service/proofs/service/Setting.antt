-- Laws of setting the settings: the table's rows in their order, what is set, and what asking for the settings as they are does.
use Prim.Native.Nat.{ℕ}
use mathlib.Core.Bool.{Bool, true, false}
use mathlib.Core.List.{List, [], ◌∷◌}
use mathlib.Core.Path.{◌≡◌, refl, sym, ap, ◌∙◌}
use native.Mathlib.Omega.{arith}
use Rattle.common.specs.Answers.{refused, success}
use Rattle.common.proofs.Bits.{bit}
use Rattle.common.proofs.Refusals.{row_applies, row_passes, no_row}
use Rattle.volume.specs.State.{state_with, unlawful}
use Rattle.volume.specs.declared.state.State.{State}
use Rattle.block_service.specs.Service.{set_attributes, refusals, effect, with_attributes, Result, result_of, perform, buffer_of, step}
use Rattle.settings.specs.Settings.{status_bits, changes_fixed, changes_locked, lacks_capability, setting_refusals}
use Rattle.settings.proofs.Rules.{fixed_none, locked_none, lacks_none, bits_fixed}
use Rattle.block_service.proofs.service.Steps.{refused-step, allowed_step, quiet_step, unlawful-step}

-- the rules in their order, of a lawful state
module _ (st : State) (v : List ℕ) (new : ℕ) (ok : unlawful st ≡ false) where
  -- a fixed bit changes: 2
  pub set_fixed : changes_fixed st.edition st.attributes new ≡ true → step st v (set_attributes new) ≡ result_of (refused 2) st v []
  unfolding refusals buffer_of setting_refusals
  set_fixed f = sym (refused-step st v (set_attributes new) 2 (row_passes _ _ _ _ ok (row_applies _ _ _ f)))

  module _ (f : changes_fixed st.edition st.attributes new ≡ false) where
    -- what a lock keeps is changed: 15
    pub set_locked : changes_locked st.edition st.attributes new ≡ true
        → step st v (set_attributes new) ≡ result_of (refused 15) st v []
    unfolding refusals buffer_of setting_refusals
    set_locked l = sym (refused-step st v (set_attributes new) 15 (row_passes _ _ _ _ ok (row_passes _ _ _ _ f (row_applies _ _ _ l))))

    module _ (l : changes_locked st.edition st.attributes new ≡ false) where
      -- a change that lacks its capability: 2
      pub set_lacking : lacks_capability st.edition st.attributes new ≡ true → step st v (set_attributes new) ≡ result_of (refused 2) st v []
      unfolding refusals buffer_of setting_refusals
      set_lacking k =
          sym (refused-step st v (set_attributes new) 2 (row_passes _ _ _ _ ok (row_passes _ _ _ _ f (row_passes _ _ _ _ l (row_applies _ _ _ k)))))

      -- and otherwise they are set
      pub set_done : lacks_capability st.edition st.attributes new ≡ false
          → step st v (set_attributes new) ≡ result_of (success (new ∷ [])) (with_attributes st new) v []
      unfolding refusals buffer_of setting_refusals perform effect
      set_done k =
          sym (allowed_step st v (set_attributes new) (row_passes _ _ _ _ ok (row_passes _ _ _ _ f (row_passes _ _ _ _ l (row_passes _ _ _ _ k no_row)))))

-- the settings as they are
pub settings_as_they_are : (st : State) (v : List ℕ) → unlawful st ≡ false
    → step st v (set_attributes st.attributes) ≡ result_of (success (st.attributes ∷ [])) st v []
unfolding with_attributes state_with
settings_as_they_are st v ok =
    let a = st.attributes in
    set_done st v a ok (fixed_none st.edition a) (locked_none st.edition a) (lacks_none st.edition a)

-- setting the settings stores nothing in the volume
pub set_stores_nothing : (st : State) (v : List ℕ) (new : ℕ) → (step st v (set_attributes new)).volume ≡ v
unfolding perform effect
set_stores_nothing st v new = quiet_step st v (set_attributes new) refl

-- settings that agree at every bit but the statuses' are refused with 2 only for a missing capability
pub set-refused_2 : (st : State) (v : List ℕ) (new : ℕ)
    → ((k : ℕ) → bit (status_bits st.edition) k ≡ 0 → bit st.attributes k ≡ bit new k)
    → (step st v (set_attributes new)).answer ≡ refused 2 → lacks_capability st.edition st.attributes new ≡ true
set-refused_2 st v new same h = go (unlawful st) refl (changes_locked st.edition st.attributes new) refl (lacks_capability st.edition st.attributes new) refl
  where
    f : changes_fixed st.edition st.attributes new ≡ false
    f = bits_fixed st.edition st.attributes new same

    go : (u : Bool) → unlawful st ≡ u → (l : Bool) → changes_locked st.edition st.attributes new ≡ l
        → (k : Bool) → lacks_capability st.edition st.attributes new ≡ k → k ≡ true
    go u ok l locked true lacks = refl
    go true ok l locked false lacks = absurd (let e = ap (λ (r : Result). r.answer) (unlawful-step st v (set_attributes new) ok) ∙ h in let n : ◌≡◌ {A = ℕ} 111 2 = cc in omega arith)
    go false ok true locked false lacks = absurd (let e = sym (ap (λ (r : Result). r.answer) (set_locked st v new ok f locked)) ∙ h in let n : ◌≡◌ {A = ℕ} 15 2 = cc in omega arith)
    go false ok false locked false lacks =
        absurd (let e = sym (ap (λ (r : Result). r.answer) (set_done st v new ok f locked lacks)) ∙ h in let n : ◌≡◌ {A = ℕ} 0 1 = cc in omega arith)
