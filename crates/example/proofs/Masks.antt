-- What putting a mask comes to: a refusal changes no byte, and a mask that was put with success is there bit for bit.
use Prim.Native.Nat.{ℕ, ◌+◌, ◌<◌, ◌≤◌}
use mathlib.Core.Path.{◌≡◌, refl, sym, ap, subst, ◌∙◌}
use mathlib.Core.Bool.{Bool, true, false, cond, ◌&&◌, ◌||◌, true≢false}
use mathlib.Core.List.{List, [], ◌∷◌}
use mathlib.Core.Option.{none}
use native.Mathlib.Nat.{add-zero}
use native.Mathlib.Omega.{arith}
use borrow.Author.Tests.{le-leb, lt-leb, lt-ltb, ne_eqb, eqb-true, leb-true, leb-false, not-false}
use lib.Dec.{T, eqb, leb}
use lib.ListN.{length, get_or}
use Rattle.common.specs.Answers.{Answer, refused, success, short}
use Rattle.common.specs.Refusals.{row, first_refusal}
use Rattle.common.proofs.Refusals.{front_passed, row-passed, row_passes, no_row}
use Rattle.volume.specs.Attributes.{write_status}
use Rattle.volume.specs.BlockMap.{blocks}
use Rattle.volume.specs.Header.{opened, open_volume}
use Rattle.volume.specs.State.{map_of, unlawful}
use Rattle.volume.specs.declared.state.State.{State}
use Rattle.block_service.specs.Access.{count_moved}
use Rattle.block_service.specs.Blocks.{place, start_of, length_of}
use Rattle.block_service.specs.Erase.{end_of_list, good_list, names}
use Rattle.block_service.specs.Service.{Result, step, perform, effect, refusals, lent_refusals, move_answer, erase_blocks, write}
use Rattle.block_service.specs.Blocks.{At}
use Rattle.block_service.proofs.Theorems.{written_erased}
use Rattle.block_service.proofs.erase.Lists.{names-reaches}
use Rattle.block_service.proofs.service.Erasing.{erase_named, empty_list}
use Rattle.block_service.proofs.service.Kept.{length_kept}
use Rattle.block_service.proofs.service.Moving.{write_named, write_in_block}
use Rattle.block_service.proofs.service.Steps.{allowed_step, allowed_answers, begun, lent_last, passed, passed_erase, erase_unprotected, passed_success, passed_write, refused_changes_nothing}
use Rattle.example.specs.Mask.{Masked, masked, unless_refused_by, put_mask}

-- the list of one block names it
names_one : (block : ℕ) → (block ≡ end_of_list → ⊥) → T (names (block ∷ 1 ∷ end_of_list ∷ []) block)
unfolding names
names_one block other = rw (ne_eqb block end_of_list other, le-leb block block (omega arith), lt-ltb block (block + 1) (omega arith)) tt

-- an erase that is not refused answers success
erase_answers : (st : State) (v list : List ℕ) → ((n : ℕ) → (step st v (erase_blocks list)).answer ≡ refused n → ⊥) → (step st v (erase_blocks list)).answer ≡ success []
unfolding perform effect
erase_answers st v list h = sym (ap (λ (r : Result). r.answer) (allowed_step st v (erase_blocks list) (passed st v (erase_blocks list) h)))

-- a write that answers success moved all its data
write_whole : (st : State) (v : List ℕ) (b o : ℕ) (new : List ℕ) (k e s l r : ℕ) → place (map_of st) b ≡ At e s l r
    → (step st v (write b o new)).answer ≡ success (k ∷ []) → count_moved l o (length new) ≡ length new
unfolding perform effect start_of length_of move_answer
write_whole st v b o new k e s l r at done =
    let a = ap (λ (x : Result). x.answer) (rw at at (allowed_step st v (write b o new) (passed_success st v (write b o new) (k ∷ []) done))) in
    go (eqb (count_moved l o (length new)) (length new)) refl (a ∙ done)
  where
    go : (t : Bool) → eqb (count_moved l o (length new)) (length new) ≡ t
        → cond t (success (count_moved l o (length new) ∷ [])) (short (count_moved l o (length new) ∷ [])) ≡ success (k ∷ []) → count_moved l o (length new) ≡ length new
    go true q d = eqb-true _ _ q
    go false q d = absurd (let z : ◌≡◌ {A = ℕ} 0 1 = cc in omega arith)

module _ (v mask : List ℕ) (base block : ℕ) where
  pub mask_there : (k : ℕ) → (put_mask v base block mask).answer ≡ success (k ∷ []) → (st : State) → open_volume v base ≡ opened st
      → (e s l r : ℕ) → place (map_of st) block ≡ At e s l r
      → (j : ℕ) → j < length mask → get_or mask j 0 < 256 → get_or (put_mask v base block mask).volume (s + j) 0 ≡ get_or mask j 0
  unfolding put_mask
  mask_there k done st o e s l r at j inside small = rw o (go erased.answer refl (rw o at done))
    where
      list : List ℕ
      list = block ∷ 1 ∷ end_of_list ∷ []

      erased : Result
      erased = step st v (erase_blocks list)

      written : Result
      written = step st erased.volume (write block 0 mask)

      there : (values : List ℕ) → erased.answer ≡ success values → written.answer ≡ success (k ∷ []) → get_or written.volume (s + j) 0 ≡ get_or mask j 0
      there values q d =
          let good = erase_answers st v list (λ n x. let z : ◌≡◌ {A = ℕ} 0 1 = cc in omega arith) in
          let ok = passed_write st (length erased.volume) block 0 mask (passed_success st erased.volume (write block 0 mask) (k ∷ []) d) in
          let below : block < blocks (map_of st) = leb-false _ _ ok.last in
          let counted : j < count_moved l 0 (length mask) = rw (write_whole st erased.volume block 0 mask k e s l r at d) inside in
          let fresh : (n : ℕ) → written.answer ≡ refused n → ⊥ = λ n x. let z : ◌≡◌ {A = ℕ} 0 1 = cc in omega arith in
          let merged = write_named st erased.volume block 0 mask fresh e s l r at j counted in
          let in_block = write_in_block st erased.volume block 0 mask fresh e s l r at j counted in
          let old = erase_named st v list good block (s + 0 + j) (names_one block (λ z. omega (arith, ok.lawful.blocks))) in_block in
          subst (λ (i : ℕ). get_or written.volume i 0 ≡ get_or mask j 0) (ap (λ (i : ℕ). i + j) (add-zero s))
          (merged ∙ rw old (written_erased st.attributes (get_or mask j 0) small))

      go : (a : Answer) → erased.answer ≡ a → (unless_refused_by a v (masked written.answer written.volume)).answer ≡ success (k ∷ [])
          → get_or (unless_refused_by a v (masked written.answer written.volume)).volume (s + j) 0 ≡ get_or mask j 0
      go (refused n) q d = absurd (let z : ◌≡◌ {A = ℕ} 0 1 = cc in omega arith)
      go (success values) q d = there values q d
      go (short values) q d =
          absurd
          (let good = erase_answers st v list (λ n x. let z : ◌≡◌ {A = ℕ} 0 1 = cc in omega arith) in
          let z : ◌≡◌ {A = ℕ} 0 1 = cc in omega arith)

-- ---- a refusal changes no byte

-- of the list of one block that is good: the block is there, or its number is the terminator's and the list is empty
one_block : (n block : ℕ) → good_list n (block ∷ 1 ∷ end_of_list ∷ []) ≡ true → n ≤ block → block ≡ end_of_list
unfolding good_list
one_block n block g past = go (eqb block end_of_list) refl (rw (lt-leb (block + 1) n (omega arith)) at g)
  where
    go : (t : Bool) → eqb block end_of_list ≡ t → (t || (true && (false && true))) ≡ true → block ≡ end_of_list
    go true e g = eqb-true _ _ e
    go false e g = absurd (true≢false (sym g))

-- where the erase of one block passes and the write to it is refused, the erase changed nothing
module _ (st : State) (v mask : List ℕ) (block n : ℕ)
    (e : first_refusal (refusals st (length v) (erase_blocks (block ∷ 1 ∷ end_of_list ∷ []))) ≡ none) where
  abbrev erased : List ℕ
  erased = (step st v (erase_blocks (block ∷ 1 ∷ end_of_list ∷ []))).volume

  begins : first_refusal (lent_refusals st (length v) write_status) ≡ none
  unfolding refusals
  begins = front_passed (lent_refusals st (length v) write_status) _ e

  lawful_state : unlawful st ≡ false
  unfolding lent_refusals
  lawful_state = (row-passed (row (unlawful st) 111) _ begins).0

  -- a block that the erase may name is not protected
  unprotected : block < blocks (map_of st) → block < st.protected
  unprotected below = go (leb st.protected block) refl
    where
      go : (t : Bool) → leb st.protected block ≡ t → block < st.protected
      go true q =
          let named = names_one block (λ z. omega (arith, (begun st (length v) write_status begins).lawful.blocks)) in
          let reached = names-reaches (block ∷ 1 ∷ end_of_list ∷ []) st.protected block (leb-true _ _ q) named in
          absurd (true≢false (sym reached ∙ erase_unprotected st (length v) (block ∷ 1 ∷ end_of_list ∷ []) e))
      go false q = leb-false _ _ q

  write_passes : block < blocks (map_of st) → first_refusal (refusals st (length erased) (write block 0 mask)) ≡ none
  unfolding refusals
  write_passes below =
      rw (length_kept st v (erase_blocks (block ∷ 1 ∷ end_of_list ∷ [])))
      (lent_last st (length v) write_status _ _ begins (lt-leb _ _ below) ∙ row_passes _ _ _ _ (lt-leb _ _ (unprotected below)) no_row)

  nothing-erased : (step st erased (write block 0 mask)).answer ≡ refused n → erased ≡ v
  nothing-erased w = go (leb (blocks (map_of st)) block) refl
    where
      go : (t : Bool) → leb (blocks (map_of st)) block ≡ t → erased ≡ v
      go false q = absurd (allowed_answers st erased (write block 0 mask) (write_passes (leb-false _ _ q)) n w)
      go true q =
          let good = not-false _ (passed_erase st (length v) (block ∷ 1 ∷ end_of_list ∷ []) e).last in
          let terminator : block ≡ end_of_list = one_block (blocks (map_of st)) block good (leb-true _ _ q) in
          let b = begun st (length v) write_status begins in
          ap (λ (x : ℕ). (step st v (erase_blocks (x ∷ 1 ∷ end_of_list ∷ []))).volume) terminator
          ∙ ap (λ (r : Result). r.volume) (empty_list st v (1 ∷ end_of_list ∷ []) lawful_state b.long b.on)

pub refused_keeps : (v mask : List ℕ) (base block n : ℕ) → (put_mask v base block mask).answer ≡ refused n → (put_mask v base block mask).volume ≡ v
unfolding put_mask
refused_keeps v mask base block n = opening (open_volume v base).answer
  where
    st : State
    st = (open_volume v base).state

    list : List ℕ
    list = block ∷ 1 ∷ end_of_list ∷ []

    wrote : Masked
    wrote = let w = step st (step st v (erase_blocks list)).volume (write block 0 mask) in masked w.answer w.volume

    writing : ((m : ℕ) → (step st v (erase_blocks list)).answer ≡ refused m → ⊥) → wrote.answer ≡ refused n → wrote.volume ≡ v
    writing fresh q =
        ap (λ (r : Result). r.volume) (refused_changes_nothing st _ (write block 0 mask) n q) ∙ nothing-erased st v mask block n (passed st v (erase_blocks list) fresh) q

    erasing : (a : Answer) → (step st v (erase_blocks list)).answer ≡ a → (unless_refused_by a v wrote).answer ≡ refused n → (unless_refused_by a v wrote).volume ≡ v
    erasing (refused m) e q = refl
    erasing (success values) e q = writing (λ m x. let z : ◌≡◌ {A = ℕ} 0 1 = cc in omega arith) q
    erasing (short values) e q = writing (λ m x. let z : ◌≡◌ {A = ℕ} 0 1 = cc in omega arith) q

    opening : (a : Answer) → (unless_refused_by a v (unless_refused_by (step st v (erase_blocks list)).answer v wrote)).answer ≡ refused n
        → (unless_refused_by a v (unless_refused_by (step st v (erase_blocks list)).answer v wrote)).volume ≡ v
    opening (refused m) q = refl
    opening (success values) q = erasing (step st v (erase_blocks list)).answer refl q
    opening (short values) q = erasing (step st v (erase_blocks list)).answer refl q
