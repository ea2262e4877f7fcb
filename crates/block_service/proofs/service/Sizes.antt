-- What block size answers, and that the blocks share out a volume's bytes.
use Prim.Native.Nat.{ℕ, zero, suc, ◌+◌, ◌*◌, ◌<◌}
use mathlib.Core.Bool.{Bool, true, false}
use mathlib.Core.List.{List, [], ◌∷◌}
use mathlib.Core.Path.{◌≡◌, refl, sym, ap, ◌∙◌}
use native.Mathlib.Nat.{add-zero, zero-mul, add-mul}
use native.Mathlib.Omega.{arith}
use borrow.Author.Tests.{leb-false, lt-leb, ltb-true, ltb-false}
use lib.Dec.{T, leb, ltb}
use lib.ListN.{length, get_or}
use Rattle.common.specs.Answers.{success}
use Rattle.common.specs.Refusals.{row}
use Rattle.common.proofs.Refusals.{row-passed, row_passes, no_row}
use Rattle.volume.specs.BlockMap.{blocks}
use Rattle.volume.specs.State.{map_of, unlawful}
use Rattle.volume.specs.declared.state.State.{State}
use Rattle.volume.proofs.state.Lawful.{lawful}
use Rattle.block_service.specs.Blocks.{place, HasLength, start_of, length_of, in_block, block_at, consecutive_blocks}
use Rattle.block_service.specs.Service.{get_block_size, refusals, effect, Result}
use Rattle.block_service.specs.Service.{result_of, perform, step}
use Rattle.block_service.specs.Blocks.{At}
use Rattle.block_service.proofs.blocks.Places.{in_some_block, place_there, in_one_block, next_block}
use Rattle.block_service.proofs.blocks.Runs.{as_long, number_alike, number_ends, number_in_entry}
use Rattle.block_service.proofs.service.Steps.{allowed_step, passed_success, size_step}

-- every byte below a lawful state's length lies in exactly one block
pub one_block : (st : State) → unlawful st ≡ false → (i : ℕ) → i < st.length
    → (b : ℕ) × (T (in_block (map_of st) b i)) × ((a : ℕ) → T (in_block (map_of st) a i) → a ≡ b)
one_block st ok i h =
    let t = in_some_block (map_of st) i (omega (arith, (lawful st ok).total)) in
    (block_at (map_of st) i, t, λ a k. in_one_block (map_of st) a (block_at (map_of st) i) i k t)

-- what block size answers: the block's length l, and a number n of blocks
module _ (st : State) (v : List ℕ) (b l n : ℕ) (h : (step st v (get_block_size b)).answer ≡ success (l ∷ n ∷ [])) where
  -- its rows have passed
  passed : (unlawful st ≡ false) × (b < blocks (map_of st))
  unfolding refusals
  passed =
      let e = row-passed (row (unlawful st) 111) _ (passed_success st v (get_block_size b) (l ∷ n ∷ []) h) in
      (e.0, leb-false _ _ (row-passed (row (leb (blocks (map_of st)) b) 2) [] e.1).0)

  answered : success (length_of (place (map_of st) b) ∷ consecutive_blocks (map_of st) b ∷ []) ≡ success (l ∷ n ∷ [])
  unfolding perform effect
  answered = ap (λ (x : Result). x.answer) (allowed_step st v (get_block_size b) (passed_success st v (get_block_size b) (l ∷ n ∷ []) h)) ∙ h

  -- the block is there, with that length, and the number is that of its consecutive blocks
  pub size_length : HasLength (place (map_of st) b) l
  unfolding length_of
  size_length =
      let p = place_there (map_of st) b passed.1 in
      let q = rw p.4 at answered in
      let a : p.2 ≡ l = cc in
      as_long _ _ l a (p.0, p.1, p.3, p.4)

  size_number : consecutive_blocks (map_of st) b ≡ n
  size_number = let q = answered in cc

  -- so many blocks from b on have its length
  pub size_alike : (k : ℕ) → k < n → HasLength (place (map_of st) (b + k)) l
  size_alike k p = let f = size_length in number_alike (map_of st) b f.0 f.1 l f.2 f.3 k (omega (arith, size_number))

  -- the block after them, if there is one, has not
  pub size_ends : HasLength (place (map_of st) (b + n)) l → ⊥
  size_ends p =
      let f = size_length in
      number_ends (map_of st) b f.0 f.1 l f.2 f.3 (lawful st passed.0).nonzero (rw (sym size_number) at p)

  -- and n is the only number of which the two are true
  pub size_only : (k : ℕ) → ((i : ℕ) → i < k → HasLength (place (map_of st) (b + i)) l) → (HasLength (place (map_of st) (b + k)) l → ⊥) → k ≡ n
  size_only k alike ends = go (ltb k n) refl (ltb n k) refl
    where
      go : (t : Bool) → ltb k n ≡ t → (u : Bool) → ltb n k ≡ u → k ≡ n
      go true q u w = absurd (ends (size_alike k (ltb-true _ _ q)))
      go false q true w = absurd (size_ends (alike n (ltb-true _ _ w)))
      go false q false w = omega (arith, ltb-false k n q, ltb-false n k w)

  -- the blocks of the run lie one after the other
  pub size_starts : (k : ℕ) → k < n → start_of (place (map_of st) (b + k)) ≡ start_of (place (map_of st) b) + k * l
  unfolding start_of
  size_starts zero p = rw (add-zero b, zero-mul l, add-zero (start_of (place (map_of st) b)))
  size_starts (suc k) p =
      let f = size_alike k (omega arith) in
      let g = size_alike (suc k) p in
      let z : b + suc k ≡ b + k + 1 = omega arith in
      let x : start_of (place (map_of st) (b + k)) ≡ f.1 = ap start_of f.3 in
      let y : start_of (place (map_of st) (b + suc k)) ≡ g.1 = ap start_of g.3 in
      let w = next_block (map_of st) (b + k) f.0 f.1 l f.2 g.0 g.1 l g.2 f.3 (rw z at g.3) in
      let m : suc k * l ≡ k * l + 1 * l = ap (λ (j : ℕ). j * l) (let d : suc k ≡ k + 1 = omega arith in d) ∙ add-mul k 1 l in
      omega (arith, size_starts k (omega arith))

  -- the block asked is one of them
  pub size_itself : 0 < n
  size_itself = go (ltb 0 n) refl
    where
      go : (t : Bool) → ltb 0 n ≡ t → 0 < n
      go true q = ltb-true _ _ q
      go false q =
          let z : b ≡ b + n = omega (arith, ltb-false 0 n q) in
          absurd (size_ends (rw z at size_length))

  -- where no two neighbouring entries have the same length, the number is that of the blocks to the entry's end
  pub size_in_entry : (e s r : ℕ) → place (map_of st) b ≡ At e s l r
      → ((i : ℕ) → 2 * (i + 1) + 1 < length (map_of st) → get_or (map_of st) (2 * i + 1) 0 ≡ get_or (map_of st) (2 * (i + 1) + 1) 0 → ⊥) → n ≡ r
  size_in_entry e s r p d = sym size_number ∙ number_in_entry (map_of st) b e s l r p d

-- it answers for every block that is there, in a lawful state
pub size_answered : (st : State) (v : List ℕ) (b : ℕ) → unlawful st ≡ false → b < blocks (map_of st)
    → (l : ℕ) × HasLength (place (map_of st) b) l × (step st v (get_block_size b) ≡ result_of (success (l ∷ consecutive_blocks (map_of st) b ∷ [])) st v [])
unfolding refusals
size_answered st v b ok h =
    let pass = row_passes _ _ _ _ ok (row_passes _ _ _ _ (lt-leb _ _ h) no_row) in
    let p = place_there (map_of st) b h in
    (p.2, (p.0, p.1, p.3, p.4), sym (size_step st v b p.0 p.1 p.2 p.3 _ pass p.4 refl))
