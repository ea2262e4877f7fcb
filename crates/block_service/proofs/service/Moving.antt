-- What a write leaves in each byte of the volume, and a read in the buffer.
use Prim.Native.Nat.{ℕ, ◌+◌, ◌-◌, ◌≤◌, ◌<◌}
use mathlib.Core.Bool.{Bool, true, false, cond, ◌&&◌}
use mathlib.Core.List.{List, [], ◌++◌}
use mathlib.Core.Path.{◌≡◌, refl, sym, ap, ◌∙◌}
use native.Mathlib.Nat.{zero-add}
use native.Mathlib.Omega.{arith}
use borrow.Author.Tests.{lt-ltb, le-leb, lt-leb, ltb-true, ltb-false, leb-true}
use lib.Dec.{T, leb, ltb}
use lib.ListN.{length, get_or, take, drop, get_or-append, length-drop}
use lib.Seq.{get_or-take, get_or-drop, length-take-le, get_or-append-add}
use Rattle.common.specs.Answers.{refused}
use Rattle.common.specs.Lists.{edit}
use Rattle.common.proofs.Edit.{get_or-edit, get_d_kept}
use Rattle.common.proofs.Refusals.{row_passes, no_row}
use Rattle.volume.specs.Attributes.{flag, read_status, write_status}
use Rattle.volume.specs.BlockMap.{blocks}
use Rattle.volume.specs.State.{map_of, unlawful}
use Rattle.volume.specs.declared.state.State.{State}
use Rattle.volume.proofs.state.Lawful.{lawful}
use Rattle.block_service.specs.Access.{count_moved, written_byte, keep, store, write_change, changed_byte}
use Rattle.block_service.specs.Blocks.{place, start_of, length_of, in_block}
use Rattle.block_service.specs.Service.{move_answer, read, write, refusals, effect, Result, result_of, perform, buffer_of, step}
use Rattle.block_service.specs.Blocks.{At}
use Rattle.block_service.proofs.blocks.Places.{in_block_of_bounds, found_start, found_end, found_within, place_found, place_there}
use Rattle.block_service.proofs.service.Steps.{allowed_step, allowed_answers, lent_last, lent_passes, passed, passed_read, passed_write, read_step, write_step}

-- after a write that was not refused, in the block at s of length l
module _ (st : State) (v : List ℕ) (b o : ℕ) (new : List ℕ) (h : (n : ℕ) → (step st v (write b o new)).answer ≡ refused n → ⊥)
    (e s l r : ℕ) (at : place (map_of st) b ≡ At e s l r) where
  write_volume : (step st v (write b o new)).volume
      ≡ edit (λ i old. changed_byte st.attributes (write_change (s + o) (count_moved l o (length new)) new i) old) 0 v
  unfolding perform effect start_of length_of
  write_volume = sym (ap (λ (x : Result). x.volume) (rw at at (allowed_step st v (write b o new) (passed st v (write b o new) h))))

  -- the answer: the count, and whether it is all of the data
  pub write_answer : (step st v (write b o new)).answer ≡ move_answer (count_moved l o (length new)) (length new)
  unfolding perform effect length_of
  write_answer = sym (ap (λ (x : Result). x.answer) (rw at at (allowed_step st v (write b o new) (passed st v (write b o new) h))))

  -- each byte of the stretch is the old one merged with the new by the volume's write rule
  pub write_named : (j : ℕ) → j < count_moved l o (length new)
      → get_or (step st v (write b o new)).volume (s + o + j) 0 ≡ written_byte st.attributes (get_or v (s + o + j) 0) (get_or new j 0)
  unfolding changed_byte write_change count_moved
  write_named j k =
      let p = passed_write st (length v) b o new (passed st v (write b o new) h) in
      let w : s + o + j < length v = omega (arith, found_within (map_of st) b e s l r at, p.lawful.total, p.long) in
      let z : s + o + j - (s + o) ≡ j = omega arith in
      rw (
        write_volume,
        get_or-edit F 0 v (s + o + j) w,
        zero-add (s + o + j),
        le-leb (s + o) (s + o + j) (omega arith),
        lt-ltb (s + o + j) (s + o + count_moved l o (length new)) (omega arith),
        z,
      )
    where
      F : ℕ → ℕ → ℕ
      F = λ i old. changed_byte st.attributes (write_change (s + o) (count_moved l o (length new)) new i) old

  -- and every other byte is as before
  pub write_other : (i : ℕ) → (s + o ≤ i → i < s + o + count_moved l o (length new) → ⊥)
      → get_or (step st v (write b o new)).volume i 0 ≡ get_or v i 0
  unfolding changed_byte write_change
  write_other i k = rw write_volume (get_d_kept F v i (go (leb (s + o) i) refl (ltb i (s + o + count_moved l o (length new))) refl))
    where
      F : ℕ → ℕ → ℕ
      F = λ i old. changed_byte st.attributes (write_change (s + o) (count_moved l o (length new)) new i) old

      go : (x : Bool) → leb (s + o) i ≡ x → (y : Bool) → ltb i (s + o + count_moved l o (length new)) ≡ y
          → changed_byte st.attributes (cond (x && y) (store (get_or new (i - (s + o)) 0)) keep) (get_or v i 0) ≡ get_or v i 0
      go true p true q = absurd (k (leb-true _ _ p) (ltb-true _ _ q))
      go true p false q = refl
      go false p true q = refl
      go false p false q = refl

  -- the stretch lies in the block
  pub write_in_block : (j : ℕ) → j < count_moved l o (length new) → T (in_block (map_of st) b (s + o + j))
  unfolding count_moved
  write_in_block j k =
      in_block_of_bounds (map_of st) b (s + o + j) (place_found (map_of st) b e s l r at)
      (omega (arith, found_start (map_of st) b e s l r at)) (omega (arith, found_end (map_of st) b e s l r at))

-- after a read that was not refused, from the block at s of length l
module _ (st : State) (v : List ℕ) (b o : ℕ) (buffer : List ℕ) (h : (n : ℕ) → (step st v (read b o buffer)).answer ≡ refused n → ⊥)
    (e s l r : ℕ) (at : place (map_of st) b ≡ At e s l r) where
  read_buffer : (step st v (read b o buffer)).buffer
      ≡ take (count_moved l o (length buffer)) (drop (s + o) v) ++ drop (count_moved l o (length buffer)) buffer
  unfolding perform effect start_of length_of buffer_of
  read_buffer = sym (ap (λ (x : Result). x.buffer) (rw at at (allowed_step st v (read b o buffer) (passed st v (read b o buffer) h))))

  -- the answer: the count, and whether it is all of the buffer
  pub read_answer : (step st v (read b o buffer)).answer ≡ move_answer (count_moved l o (length buffer)) (length buffer)
  unfolding perform effect length_of
  read_answer = sym (ap (λ (x : Result). x.answer) (rw at at (allowed_step st v (read b o buffer) (passed st v (read b o buffer) h))))

  filled : length (take (count_moved l o (length buffer)) (drop (s + o) v)) ≡ count_moved l o (length buffer)
  unfolding count_moved
  filled =
      let p = passed_read st (length v) b o buffer (passed st v (read b o buffer) h) in
      go (ltb o l) refl (omega (arith, found_within (map_of st) b e s l r at, p.lawful.total, p.long))
    where
      go : (t : Bool) → ltb o l ≡ t → s + l ≤ length v → length (take (count_moved l o (length buffer)) (drop (s + o) v)) ≡ count_moved l o (length buffer)
      go true q w =
          let x : o < l = ltb-true _ _ q in
          length-take-le _ (drop (s + o) v) (rw (length-drop (s + o) v) (omega arith))
      go false q w =
          let x : l ≤ o = ltb-false _ _ q in
          length-take-le _ (drop (s + o) v) (omega arith)

  -- the first counted bytes of the buffer are the block's from the offset on
  pub read_filled : (j : ℕ) → j < count_moved l o (length buffer) → get_or (step st v (read b o buffer)).buffer j 0 ≡ get_or v (s + o + j) 0
  read_filled j k =
      rw (
        read_buffer,
        get_or-append (take (count_moved l o (length buffer)) (drop (s + o) v)) (drop (count_moved l o (length buffer)) buffer) 0 j (omega (arith, filled)),
        get_or-take (count_moved l o (length buffer)) (drop (s + o) v) j 0 k,
        get_or-drop (s + o) v j 0,
      )

  -- and the rest of it is as before
  pub read_rest : (j : ℕ) → count_moved l o (length buffer) ≤ j → get_or (step st v (read b o buffer)).buffer j 0 ≡ get_or buffer j 0
  read_rest j k =
      let n : ℕ = count_moved l o (length buffer) in
      let z : j ≡ length (take n (drop (s + o) v)) + (j - n) = omega (arith, filled) in
      let y : n + (j - n) ≡ j = omega arith in
      rw read_buffer
      (ap (λ (i : ℕ). get_or (take n (drop (s + o) v) ++ drop n buffer) i 0) z
      ∙ get_or-append-add (take n (drop (s + o) v)) (drop n buffer) (j - n) 0
      ∙ get_or-drop n buffer (j - n) 0
      ∙ ap (λ (i : ℕ). get_or buffer i 0) y)

-- ---- what is done where no row refuses: a lawful state, a volume lent whole, the status on, and a block that is there, for a write one that is not protected
module _ (st : State) (v : List ℕ) (ok : unlawful st ≡ false) (long : st.length ≤ length v) where
  pub read_allowed : flag st.attributes read_status ≡ true → (b o : ℕ) (buffer : List ℕ) → b < blocks (map_of st)
      → ((n : ℕ) → (step st v (read b o buffer)).answer ≡ refused n → ⊥)
      × ((e : ℕ) × (s : ℕ) × (l : ℕ) × (r : ℕ) × (place (map_of st) b ≡ At e s l r)
      × (step st v (read b o buffer)
      ≡ result_of (move_answer (count_moved l o (length buffer)) (length buffer)) st v
      (take (count_moved l o (length buffer)) (drop (s + o) v) ++ drop (count_moved l o (length buffer)) buffer)))
  unfolding refusals start_of length_of
  read_allowed on b o buffer h =
      let pass = lent_last st (length v) read_status _ _ (lent_passes st _ read_status ok long on) (lt-leb _ _ h) ∙ no_row in
      let p = place_there (map_of st) b h in (
        allowed_answers st v (read b o buffer) pass,
        (p.0, p.1, p.2, p.3, p.4, sym (read_step st v b o buffer p.1 p.2 _ _ _ pass (sym (ap start_of p.4)) (sym (ap length_of p.4)) refl refl refl)),
      )

  pub write_allowed : flag st.attributes write_status ≡ true → (b o : ℕ) (new : List ℕ) → b < st.protected
      → ((n : ℕ) → (step st v (write b o new)).answer ≡ refused n → ⊥)
      × ((e : ℕ) × (s : ℕ) × (l : ℕ) × (r : ℕ) × (place (map_of st) b ≡ At e s l r)
      × (step st v (write b o new)
      ≡ result_of (move_answer (count_moved l o (length new)) (length new)) st
      (edit (λ i old. changed_byte st.attributes (write_change (s + o) (count_moved l o (length new)) new i) old) 0 v) []))
  unfolding refusals start_of length_of
  write_allowed on b o new h =
      let there : b < blocks (map_of st) = omega (arith, (lawful st ok).protected) in
      let pass = lent_last st (length v) write_status _ _ (lent_passes st _ write_status ok long on) (lt-leb _ _ there) ∙ row_passes _ _ _ _ (lt-leb _ _ h) no_row in
      let p = place_there (map_of st) b there in (
        allowed_answers st v (write b o new) pass,
        (p.0, p.1, p.2, p.3, p.4, sym (write_step st v b o new p.1 p.2 _ _ _ pass (sym (ap start_of p.4)) (sym (ap length_of p.4)) refl refl refl)),
      )
