-- Laws of protecting blocks (02, j): what sets the first protected block and what refuses it, and that reads are free.
use Prim.Native.Nat.{ℕ, ◌≤◌, ◌<◌}
use mathlib.Core.Bool.{false}
use mathlib.Core.List.{List, []}
use mathlib.Core.Option.{Option, none, some}
use mathlib.Core.Path.{◌≡◌, refl, sym, ◌∙◌}
use native.Mathlib.Omega.{arith}
use borrow.Author.Tests.{lt-ltb, le-ltb, ltb-false}
use lib.Dec.{ltb}
use lib.ListN.{length}
use Rattle.common.specs.Answers.{refused, success}
use Rattle.common.specs.Refusals.{row, first_refusal, unless_refused}
use Rattle.common.proofs.Refusals.{row-passed, row_applies, row_passes, no_row}
use Rattle.volume.specs.BlockMap.{blocks}
use Rattle.volume.specs.State.{state_with, map_of, unlawful}
use Rattle.volume.specs.declared.state.State.{State}
use Rattle.volume.proofs.state.Lawful.{lawful}
use Rattle.block_service.specs.Service.{read, protect_blocks, lent_refusals, refusals, reply, effect, with_protected, decide, result_of, perform, buffer_of, step}
use Rattle.block_service.proofs.service.Steps.{refused-step, allowed_step, quiet_step}

-- a first protected block that was set is at most the one before
pub protect_passed : (st : State) (n first : ℕ) → first_refusal (refusals st n (protect_blocks first)) ≡ none → first ≤ st.protected
unfolding refusals
protect_passed st n first e = ltb-false _ _ (row-passed (row (ltb st.protected first) 2) _ (row-passed (row (unlawful st) 111) _ e).1).0

-- so a state that was lawful is
pub lower_lawful : (st : State) (first : ℕ) → first ≤ st.protected → unlawful st ≡ false → unlawful (with_protected st first) ≡ false
unfolding unlawful with_protected state_with map_of
lower_lawful st first h ok =
    let p = (lawful st ok).protected in
    let same : ltb (blocks (map_of st)) first ≡ ltb (blocks (map_of st)) st.protected =
    le-ltb (blocks (map_of st)) first (omega arith) ∙ sym (le-ltb (blocks (map_of st)) st.protected p) in
    rw same ok

-- of a lawful state: a first protected block above the present one is refused with 2
pub protect_raised : (st : State) (v : List ℕ) (first : ℕ) → unlawful st ≡ false → st.protected < first
    → step st v (protect_blocks first) ≡ result_of (refused 2) st v []
unfolding refusals buffer_of
protect_raised st v first ok h = sym (refused-step st v (protect_blocks first) 2 (row_passes _ _ _ _ ok (row_applies _ _ _ (lt-ltb _ _ h))))

-- and any other is set
pub protect_done : (st : State) (v : List ℕ) (first : ℕ) → unlawful st ≡ false → first ≤ st.protected
    → step st v (protect_blocks first) ≡ result_of (success []) (with_protected st first) v []
unfolding refusals buffer_of perform effect
protect_done st v first ok h = sym (allowed_step st v (protect_blocks first) (row_passes _ _ _ _ ok (row_passes _ _ _ _ (le-ltb _ _ h) no_row)))

-- the present one, too
pub protected_as_it_is : (st : State) (v : List ℕ) → unlawful st ≡ false → step st v (protect_blocks st.protected) ≡ result_of (success []) st v []
unfolding with_protected state_with
protected_as_it_is st v ok = protect_done st v st.protected ok (omega arith)

-- nothing is stored in the volume
pub protect_stores_nothing : (st : State) (v : List ℕ) (first : ℕ) → (step st v (protect_blocks first)).volume ≡ v
unfolding perform effect
protect_stores_nothing st v first = quiet_step st v (protect_blocks first) refl

-- reads are free: of a lawful state, with more blocks protected, a read is refused alike
read_refused : (st : State) (n first : ℕ) → unlawful st ≡ false → first ≤ st.protected → (b o : ℕ) (buffer : List ℕ)
    → first_refusal (refusals (with_protected st first) n (read b o buffer)) ≡ first_refusal (refusals st n (read b o buffer))
unfolding refusals lent_refusals with_protected state_with map_of
read_refused st n first ok h b o buffer = let low = lower_lawful st first h ok in rw (low, ok)

-- and answers and fills the buffer alike
pub read_free : (st : State) (v : List ℕ) (first : ℕ) → unlawful st ≡ false → first ≤ st.protected → (b o : ℕ) (buffer : List ℕ)
    → let r = step st v (read b o buffer) in step (with_protected st first) v (read b o buffer) ≡ result_of r.answer (with_protected st first) v r.buffer
unfolding step decide perform effect buffer_of with_protected state_with map_of
read_free st v first ok h b o buffer = rw (read_refused st (length v) first ok h b o buffer) (go (first_refusal (refusals st (length v) (read b o buffer))))
  where
    go : (x : Option ℕ)
        → perform (with_protected st first) v buffer (unless_refused (λ n. reply (refused n)) x (effect (with_protected st first) (read b o buffer)))
        ≡ result_of (perform st v buffer (unless_refused (λ n. reply (refused n)) x (effect st (read b o buffer)))).answer (with_protected st first) v
        (perform st v buffer (unless_refused (λ n. reply (refused n)) x (effect st (read b o buffer)))).buffer
    go none = refl
    go (some n) = refl
