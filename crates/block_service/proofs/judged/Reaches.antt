-- Writes by a state that was judged before: a refusal changes nothing, and by a state and a volume which 111, 5 and 15 do not refuse such
-- a write is `step`'s.
use Prim.Native.Nat.{ℕ, ◌+◌}
use mathlib.Core.List.{List, [], ◌∷◌}
use mathlib.Core.Option.{Option, none, some}
use mathlib.Core.Path.{◌≡◌, refl, sym, ap, ◌∙◌}
use lib.Dec.{leb}
use lib.ListN.{length}
use Rattle.common.specs.Answers.{Answer, refused}
use Rattle.common.specs.Lists.{edit}
use Rattle.common.specs.Refusals.{row, first_refusal, unless_refused}
use Rattle.common.proofs.Refusals.{row_passes}
use Rattle.volume.specs.Attributes.{write_status}
use Rattle.volume.specs.BlockMap.{blocks}
use Rattle.volume.specs.State.{map_of}
use Rattle.volume.specs.declared.state.State.{State}
use Rattle.block_service.specs.Access.{count_moved, changed_byte, write_change}
use Rattle.block_service.specs.Blocks.{place, start_of, length_of, outgrows}
use Rattle.block_service.specs.Judged.{judged_refusals, Stored, stored, judged_write}
use Rattle.block_service.specs.Service.{write, lent_refusals, refusals, move_answer, result_of, perform, effect, buffer_of, step}
use Rattle.block_service.proofs.blocks.Runs.{fits}
use Rattle.block_service.proofs.service.Steps.{lent_fits, lent_then, move_answers, refused-step, allowed_step, write_leaves}

-- where it answers a refusal, the volume stays
module _ (attributes protected : ℕ) (words v : List ℕ) (b o : ℕ) (new : List ℕ) where
  pub judged_nothing : (m : ℕ) → (judged_write attributes protected words v b o new).answer ≡ refused m → judged_write attributes protected words v b o new ≡ stored (refused m) v
  unfolding judged_write
  judged_nothing m = go (first_refusal (judged_refusals words protected (length v) b))
    where
      count : ℕ
      count = count_moved (length_of (place words b)) o (length new)

      after : List ℕ
      after = edit (λ i old. changed_byte attributes (write_change (start_of (place words b) + o) count new i) old) 0 v

      go : (x : Option ℕ) → (unless_refused (λ k. stored (refused k) v) x (stored (move_answer count (length new)) after)).answer ≡ refused m
          → unless_refused (λ k. stored (refused k) v) x (stored (move_answer count (length new)) after) ≡ stored (refused m) v
      go none e = absurd (move_answers count (length new) m e)
      go (some k) e = ap (λ (a : Answer). stored a v) e

-- ---- by a state that was judged

-- a write by the parts of a state which 111, 5 and 15 do not refuse on this volume is the write by the state
pub judged_step : (st : State) (v : List ℕ) (b o : ℕ) (new : List ℕ) → first_refusal (lent_refusals st (length v) write_status) ≡ none
    → judged_write st.attributes st.protected (map_of st) v b o new ≡ stored (step st v (write b o new)).answer (step st v (write b o new)).volume
unfolding judged_write judged_refusals refusals perform effect buffer_of
judged_step st v b o new e = go (first_refusal (row (leb (blocks (map_of st)) b) 2 ∷ row (leb st.protected b) 15 ∷ [])) refl
  where
    same : (x : Option ℕ) → first_refusal (row (leb (blocks (map_of st)) b) 2 ∷ row (leb st.protected b) 15 ∷ []) ≡ x
        → first_refusal (row (outgrows (map_of st) b (length v)) 5 ∷ row (leb (blocks (map_of st)) b) 2 ∷ row (leb st.protected b) 15 ∷ []) ≡ x
    same x h = row_passes _ 5 _ x (fits (map_of st) b (length v) (lent_fits st (length v) write_status e)) h

    go : (x : Option ℕ) → first_refusal (row (leb (blocks (map_of st)) b) 2 ∷ row (leb st.protected b) 15 ∷ []) ≡ x
        → judged_write st.attributes st.protected (map_of st) v b o new ≡ stored (step st v (write b o new)).answer (step st v (write b o new)).volume
    go (some m) h = rw (same (some m) h, sym (refused-step st v (write b o new) m (lent_then st _ write_status _ e ∙ h)))
    go none h = rw (same none h, sym (allowed_step st v (write b o new) (lent_then st _ write_status _ e ∙ h)))

-- so what the code of such a write leaves is what the call leaves
pub judged_written : (st : State) (v : List ℕ) (b o : ℕ) (new : List ℕ) (a : Answer) (after : List ℕ) → first_refusal (lent_refusals st (length v) write_status) ≡ none
    → stored a after ≡ judged_write st.attributes st.protected (map_of st) v b o new → result_of a st after [] ≡ step st v (write b o new)
judged_written st v b o new a after e h =
    let q = h ∙ judged_step st v b o new e in
    ap (λ (x : Stored). result_of x.answer st x.volume []) q ∙ write_leaves st v b o new
