-- Putting a mask, call by call: what it comes to at each place where the code leaves, from what the calls' contracts say.
use Prim.Native.Nat.{ℕ}
use mathlib.Core.List.{List, [], ◌∷◌}
use mathlib.Core.Path.{◌≡◌, sym, ap, ◌∙◌}
use Rattle.common.specs.Answers.{Answer, refused, success}
use Rattle.volume.specs.Header.{opens, opened, open_volume}
use Rattle.volume.specs.State.{zero_state}
use Rattle.volume.specs.declared.state.State.{State}
use Rattle.block_service.specs.Erase.{end_of_list}
use Rattle.block_service.specs.Service.{Result, result_of, step, erase_blocks, write}
use Rattle.block_service.proofs.service.Steps.{refused_changes_nothing}
use Rattle.example.specs.Mask.{masked, put_mask}

module _ (v mask : List ℕ) (base block : ℕ) where
  -- opening is refused
  pub open_refused : (n : ℕ) → opens (refused n) zero_state ≡ open_volume v base → masked (refused n) v ≡ put_mask v base block mask
  unfolding put_mask
  open_refused n o = rw (← o)

  module _ (st : State) (erased : List ℕ) (o : opened st ≡ open_volume v base) where
    -- the erase is refused: it left the volume as it was
    pub erase_refused : (n : ℕ) → result_of (refused n) st erased [] ≡ step st v (erase_blocks (block ∷ 1 ∷ end_of_list ∷ [])) → masked (refused n) erased ≡ put_mask v base block mask
    unfolding put_mask
    erase_refused n e =
        let answer : (step st v (erase_blocks (block ∷ 1 ∷ end_of_list ∷ []))).answer ≡ refused n = sym (ap (λ (r : Result). r.answer) e) in
        let same : erased ≡ v = ap (λ (r : Result). r.volume) (e ∙ refused_changes_nothing st v _ n answer) in
        rw (same, ← o, ← e)

    -- the erase succeeds: the answer is the write's
    pub mask_written : result_of (success []) st erased [] ≡ step st v (erase_blocks (block ∷ 1 ∷ end_of_list ∷ [])) → (a : Answer) (written : List ℕ)
        → result_of a st written [] ≡ step st erased (write block 0 mask) → masked a written ≡ put_mask v base block mask
    unfolding put_mask
    mask_written e a written w = rw (← o, ← e, ← w)
