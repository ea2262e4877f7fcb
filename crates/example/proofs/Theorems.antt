-- What putting a mask promises to those who copy it, from its definition.
use Prim.Native.Nat.{ℕ, ◌+◌, ◌<◌}
use mathlib.Core.Path.{◌≡◌}
use mathlib.Core.List.{List, [], ◌∷◌}
use lib.ListN.{length, get_or}
use Rattle.common.specs.Answers.{refused, success}
use Rattle.volume.specs.Header.{opened, open_volume}
use Rattle.volume.specs.State.{map_of}
use Rattle.volume.specs.declared.state.State.{State}
use Rattle.block_service.specs.Blocks.{place}
use Rattle.block_service.specs.Blocks.{At}
use Rattle.example.specs.Mask.{put_mask}
use Rattle.example.proofs.Masks as Masks

-- a refusal, whichever call it comes from, changes no byte
pub refused_keeps : (v mask : List ℕ) (base block n : ℕ) → (put_mask v base block mask).answer ≡ refused n → (put_mask v base block mask).volume ≡ v
refused_keeps = Masks.refused_keeps

-- a mask that was put with success is there, bit for bit, whatever stood in the block: no old bit is merged into it
pub mask_there : (v mask : List ℕ) (base block k : ℕ) → (put_mask v base block mask).answer ≡ success (k ∷ [])
    → (st : State) → open_volume v base ≡ opened st → (e s l r : ℕ) → place (map_of st) block ≡ At e s l r
    → (j : ℕ) → j < length mask → get_or mask j 0 < 256 → get_or (put_mask v base block mask).volume (s + j) 0 ≡ get_or mask j 0
mask_there = Masks.mask_there
