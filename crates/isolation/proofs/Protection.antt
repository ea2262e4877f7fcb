-- Protected blocks in runs (02, j): from the moment on at which a block is protected, no call changes a byte of it.
use Prim.Native.Nat.{ℕ, ◌≤◌}
use mathlib.Core.List.{List, [], ◌∷◌, ◌++◌}
use mathlib.Core.Path.{◌≡◌, refl, sym, ap, ◌∙◌}
use native.Mathlib.Omega.{arith}
use lib.Dec.{T}
use lib.ListN.{get_or}
use Rattle.common.specs.Answers.{success}
use Rattle.volume.specs.State.{state_with, map_of}
use Rattle.volume.specs.declared.state.State.{State}
use Rattle.block_service.specs.Blocks.{in_block}
use Rattle.block_service.specs.Service.{Call, protect_blocks, effect, with_protected, Result, perform, step}
use Rattle.block_service.proofs.service.Kept.{map_kept, protected_falls, protected_kept}
use Rattle.block_service.proofs.service.Steps.{allowed_step, passed_success}
use Rattle.isolation.specs.Runs.{run}
use Rattle.isolation.proofs.Isolation.{run-map, run-append}

-- no run raises the first protected block
falls : (st : State) (v : List ℕ) (cs : List Call) → (run st v cs).state.protected ≤ st.protected
unfolding run
falls st v [] = omega arith
falls st v (c ∷ cs) = omega (arith, falls (step st v c).state (step st v c).volume cs, protected_falls st v c)

-- no run changes a byte of a protected block
stays : (st : State) (v : List ℕ) (cs : List Call) (b i : ℕ) → st.protected ≤ b → T (in_block (map_of st) b i) → get_or (run st v cs).volume i 0 ≡ get_or v i 0
unfolding run
stays st v [] b i h k = refl
stays st v (c ∷ cs) b i h k =
    stays (step st v c).state (step st v c).volume cs b i (omega (arith, protected_falls st v c)) (rw (map_kept st v c) k) ∙ protected_kept st v c b i h k

protect_map : (st : State) (first : ℕ) → map_of (with_protected st first) ≡ map_of st
unfolding with_protected state_with map_of
protect_map st first = refl

-- the same from any moment of a run on
pub protected_falls_run : (st : State) (v : List ℕ) (before after : List Call) → (run st v (before ++ after)).state.protected ≤ (run st v before).state.protected
protected_falls_run st v before after = rw (run-append st v before after) (falls (run st v before).state (run st v before).volume after)

pub protected_run : (st : State) (v : List ℕ) (before after : List Call) (b i : ℕ) → (run st v before).state.protected ≤ b → T (in_block (map_of st) b i)
    → get_or (run st v (before ++ after)).volume i 0 ≡ get_or (run st v before).volume i 0
protected_run st v before after b i h k =
    rw (run-append st v before after) (stays (run st v before).state (run st v before).volume after b i h (rw (run-map st v before) k))

-- and so from a call on that protected blocks
pub protect_run : (st : State) (v : List ℕ) (before after : List Call) (first : ℕ)
    → (step (run st v before).state (run st v before).volume (protect_blocks first)).answer ≡ success []
    → (b i : ℕ) → first ≤ b → T (in_block (map_of st) b i)
    → get_or (run st v (before ++ (protect_blocks first ∷ after))).volume i 0 ≡ get_or (run st v before).volume i 0
unfolding run perform effect with_protected state_with
protect_run st v before after first done b i h k =
    let s : State = (run st v before).state in
    let w : List ℕ = (run st v before).volume in
    let did = allowed_step s w (protect_blocks first) (passed_success s w (protect_blocks first) [] done) in
    rw (run-append st v before (protect_blocks first ∷ after))
    (ap (λ (r : Result). get_or (run r.state r.volume after).volume i 0) (sym did) ∙ stays (with_protected s first) w after b i h (rw (protect_map s first, run-map st v before) k))
