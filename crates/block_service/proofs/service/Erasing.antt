-- What an erase leaves in each byte, and which lists erase alike.
use Prim.Native.Nat.{ℕ, zero, suc, ◌+◌, ◌/◌, ◌%◌, ◌^◌, ◌≤◌, ◌<◌}
use mathlib.Core.Bool.{Bool, true, false, not, cond, ◌&&◌, ◌||◌}
use mathlib.Core.List.{List, [], ◌∷◌, ◌++◌}
use mathlib.Core.Option.{Option, none, some}
use mathlib.Core.Path.{◌≡◌, refl, sym, ap, ◌∙◌}
use native.Mathlib.Nat.{zero-add}
use native.Mathlib.Omega.{arith}
use borrow.Author.Tests.{eqb-true, eqb-false, not-false}
use lib.Dec.{T, leb, ltb, eqb}
use lib.ListN.{length, get_or}
use Rattle.common.specs.Answers.{success}
use Rattle.common.specs.Lists.{edit}
use Rattle.common.specs.Refusals.{first_refusal, row}
use Rattle.common.proofs.Edit.{get_or-edit, get_d_kept, edit-same, edit_keep}
use Rattle.common.proofs.Refusals.{row_passes, no_row, idle_row}
use Rattle.volume.specs.Attributes.{flag, write_status, erase_polarity}
use Rattle.volume.specs.BlockMap.{blocks, bytes}
use Rattle.volume.specs.State.{map_of, unlawful}
use Rattle.volume.specs.declared.state.State.{State}
use Rattle.block_service.specs.Access.{erased_byte, keep, erase, changed_byte}
use Rattle.block_service.specs.Blocks.{in_block, block_at}
use Rattle.block_service.specs.Erase.{end_of_list, good_list, names, reaches, erase_change}
use Rattle.block_service.specs.Service.{write, erase_blocks, lent_refusals, refusals, effect, Result, result_of, perform, buffer_of, step}
use Rattle.block_service.proofs.erase.Lists.{names-reaches, reaches-names, names_within}
use Rattle.block_service.proofs.blocks.Places.{in_block-block_at, in_block_bounds, in_some_block, before_first_byte, first_byte_end, first_byte-le}
use Rattle.block_service.proofs.service.Steps.{allowed_step, passed_success, Passed, passed_erase, lent_passes, lent_last, refused-step}

-- a list that is good for n blocks reaches none from block n on
good_within : (w : List ℕ) (n : ℕ) → good_list n w ≡ true → reaches n w ≡ false
good_within w n g = go (reaches n w) refl
  where
    go : (t : Bool) → reaches n w ≡ t → t ≡ false
    go true e = let r = reaches-names w n e in absurd (omega (arith, names_within n w g r.0 r.2))
    go false e = refl

-- where no block is protected, a write and an erase are refused by their first four rows alone
pub unprotected_write : (st : State) (n : ℕ) → st.protected ≡ blocks (map_of st) → (b o : ℕ) (new : List ℕ)
    → first_refusal (refusals st n (write b o new)) ≡ first_refusal (lent_refusals st n write_status ++ (row (leb (blocks (map_of st)) b) 2 ∷ []))
unfolding refusals
unprotected_write st n e b o new = idle_row (lent_refusals st n write_status) _ _ 2 15 (λ h. rw e h)

pub unprotected_erase : (st : State) (n : ℕ) → st.protected ≡ blocks (map_of st) → (list : List ℕ)
    → first_refusal (refusals st n (erase_blocks list)) ≡ first_refusal (lent_refusals st n write_status ++ (row (not (good_list (blocks (map_of st)) list)) 2 ∷ []))
unfolding refusals
unprotected_erase st n e list = idle_row (lent_refusals st n write_status) _ _ 2 15 (λ h. rw e (good_within list (blocks (map_of st)) (not-false _ h)))

-- after a good erase
module _ (st : State) (v list : List ℕ) (good : (step st v (erase_blocks list)).answer ≡ success []) where
  erase_passed : Passed st (length v) (not (good_list (blocks (map_of st)) list))
  erase_passed = passed_erase st (length v) list (passed_success st v (erase_blocks list) [] good)

  erase_volume : (step st v (erase_blocks list)).volume ≡ edit (λ i old. changed_byte st.attributes (erase_change (map_of st) list i) old) 0 v
  unfolding perform effect
  erase_volume = sym (ap (λ (r : Result). r.volume) (allowed_step st v (erase_blocks list) (passed_success st v (erase_blocks list) [] good)))

  -- every byte of a named block has the erase value
  pub erase_named : (b i : ℕ) → T (names list b) → T (in_block (map_of st) b i)
      → get_or (step st v (erase_blocks list)).volume i 0 ≡ erased_byte st.attributes
  unfolding changed_byte erase_change
  erase_named b i t k =
      let p = erase_passed in
      let u = in_block_bounds (map_of st) b i k in
      let w : i < length v = omega (arith, first_byte-le (map_of st) (b + 1), p.lawful.total, p.long) in
      rw (erase_volume, get_or-edit (λ i old. changed_byte st.attributes (erase_change (map_of st) list i) old) 0 v i w, zero-add i, in_block-block_at (map_of st) b i k)
      (go (names list b) t)
    where
      go : (x : Bool) → T x → changed_byte st.attributes (cond x erase keep) (get_or v i 0) ≡ erased_byte st.attributes
      go true y = refl
      go false y = absurd y

  -- and every other byte is as before
  pub erase_other : (i : ℕ) → ((b : ℕ) → T (names list b) → T (in_block (map_of st) b i) → ⊥)
      → get_or (step st v (erase_blocks list)).volume i 0 ≡ get_or v i 0
  unfolding changed_byte erase_change
  erase_other i k =
      rw erase_volume
      (get_d_kept (λ i old. changed_byte st.attributes (erase_change (map_of st) list i) old) v i (pick (names list (block_at (map_of st) i)) refl))
    where
      pick : (x : Bool) → names list (block_at (map_of st) i) ≡ x → changed_byte st.attributes (cond x erase keep) (get_or v i 0) ≡ get_or v i 0
      pick true e =
          let t : T (names list (block_at (map_of st) i)) = rw e tt in
          let g : good_list (blocks (map_of st)) list ≡ true = not-false _ erase_passed.last in
          let n = names_within (blocks (map_of st)) list g (block_at (map_of st) i) t in
          let w : i < bytes (map_of st) = rw (first_byte_end (map_of st)) at (before_first_byte (map_of st) i (blocks (map_of st)) (omega arith) n) in
          absurd (k (block_at (map_of st) i) t (in_some_block (map_of st) i w))
      pick false e = refl

-- every bit of an erased byte has the erase value
ones : (j : ℕ) → j < 8 → 255 / 2 ^ j % 2 ≡ 1
ones zero h = refl
ones (suc zero) h = refl
ones (suc (suc zero)) h = refl
ones (suc (suc (suc zero))) h = refl
ones (suc (suc (suc (suc zero)))) h = refl
ones (suc (suc (suc (suc (suc zero))))) h = refl
ones (suc (suc (suc (suc (suc (suc zero)))))) h = refl
ones (suc (suc (suc (suc (suc (suc (suc zero))))))) h = refl
ones (suc (suc (suc (suc (suc (suc (suc (suc j)))))))) h = absurd (omega arith)

zeros : (j : ℕ) → j < 8 → 0 / 2 ^ j % 2 ≡ 0
zeros zero h = refl
zeros (suc zero) h = refl
zeros (suc (suc zero)) h = refl
zeros (suc (suc (suc zero))) h = refl
zeros (suc (suc (suc (suc zero)))) h = refl
zeros (suc (suc (suc (suc (suc zero))))) h = refl
zeros (suc (suc (suc (suc (suc (suc zero)))))) h = refl
zeros (suc (suc (suc (suc (suc (suc (suc zero))))))) h = refl
zeros (suc (suc (suc (suc (suc (suc (suc (suc j)))))))) h = absurd (omega arith)

pub erased_bit : (a j : ℕ) → j < 8 → erased_byte a / 2 ^ j % 2 ≡ a / erase_polarity % 2
unfolding erased_byte
erased_bit a j h = go (eqb (a / erase_polarity % 2) 1) refl
  where
    go : (t : Bool) → eqb (a / erase_polarity % 2) 1 ≡ t → cond t 0xFF 0x00 / 2 ^ j % 2 ≡ a / erase_polarity % 2
    go true e = ones j h ∙ sym (eqb-true _ _ e)
    go false e = let n = eqb-false (a / erase_polarity % 2) 1 e in zeros j h ∙ omega arith

-- ---- erase lists

-- lists that name the same blocks reach the same
same_reach : (a b : List ℕ) (m : ℕ) → ((k : ℕ) → names a k ≡ names b k) → reaches m a ≡ reaches m b
same_reach a b m same = go (reaches m a) refl (reaches m b) refl
  where
    from : (a b : List ℕ) → ((k : ℕ) → names a k ≡ names b k) → reaches m a ≡ true → reaches m b ≡ true
    from a b same e = let r = reaches-names a m e in names-reaches b m r.0 r.1 (rw (same r.0) at r.2)

    go : (x : Bool) → reaches m a ≡ x → (y : Bool) → reaches m b ≡ y → x ≡ y
    go true ex y ey = sym (from a b same ex) ∙ ey
    go false ex true ey = sym ex ∙ from b a (λ k. sym (same k)) ey
    go false ex false ey = refl

-- lists that are good or bad alike, and name the same blocks, erase alike
pub named_alike : (st : State) (v a b : List ℕ) → good_list (blocks (map_of st)) a ≡ good_list (blocks (map_of st)) b → ((k : ℕ) → names a k ≡ names b k)
    → step st v (erase_blocks a) ≡ step st v (erase_blocks b)
unfolding refusals buffer_of perform effect erase_change
named_alike st v a b good same = go (first_refusal (refusals st (length v) (erase_blocks a))) refl
  where
    tables : first_refusal (refusals st (length v) (erase_blocks a)) ≡ first_refusal (refusals st (length v) (erase_blocks b))
    tables = rw (good, same_reach a b st.protected same)

    bytes_same : edit (λ i old. changed_byte st.attributes (erase_change (map_of st) a i) old) 0 v
        ≡ edit (λ i old. changed_byte st.attributes (erase_change (map_of st) b i) old) 0 v
    bytes_same = edit-same _ _ 0 0 v (λ i old h. rw (same (block_at (map_of st) (0 + i))))

    go : (o : Option ℕ) → first_refusal (refusals st (length v) (erase_blocks a)) ≡ o → step st v (erase_blocks a) ≡ step st v (erase_blocks b)
    go (some n) e = sym (refused-step st v (erase_blocks a) n e) ∙ refused-step st v (erase_blocks b) n (sym tables ∙ e)
    go none e =
        sym (allowed_step st v (erase_blocks a) e)
        ∙ ap (λ (l : List ℕ). result_of (success []) st l []) bytes_same
        ∙ allowed_step st v (erase_blocks b) (sym tables ∙ e)

-- so a pair that stands twice is as if it stood once
twice_good : (n f c : ℕ) (rest : List ℕ) → good_list n (f ∷ c ∷ f ∷ c ∷ rest) ≡ good_list n (f ∷ c ∷ rest)
unfolding good_list
twice_good n f c rest = go (eqb f end_of_list) (eqb c 0) (leb (f + c) n) (good_list n rest)
  where
    go : (e z s r : Bool) → (e || (not z && (s && (e || (not z && (s && r)))))) ≡ (e || (not z && (s && r)))
    go true z s r = refl
    go false true s r = refl
    go false false true r = refl
    go false false false r = refl

twice_names : (f c : ℕ) (rest : List ℕ) (b : ℕ) → names (f ∷ c ∷ f ∷ c ∷ rest) b ≡ names (f ∷ c ∷ rest) b
unfolding names
twice_names f c rest b = go (eqb f end_of_list) (leb f b && ltb b (f + c)) (names rest b)
  where
    go : (e p r : Bool) → (not e && (p || (not e && (p || r)))) ≡ (not e && (p || r))
    go true p r = refl
    go false true r = refl
    go false false r = refl

pub named_twice : (st : State) (v : List ℕ) (f c : ℕ) (rest : List ℕ)
    → step st v (erase_blocks (f ∷ c ∷ f ∷ c ∷ rest)) ≡ step st v (erase_blocks (f ∷ c ∷ rest))
named_twice st v f c rest = named_alike st v _ _ (twice_good (blocks (map_of st)) f c rest) (twice_names f c rest)

-- words after the terminator count for nothing
end_good : (n : ℕ) (rest : List ℕ) → good_list n (end_of_list ∷ rest) ≡ true
unfolding good_list
end_good n [] = refl
end_good n (w ∷ rest) = refl

end_names : (rest : List ℕ) (b : ℕ) → names (end_of_list ∷ rest) b ≡ false
unfolding names
end_names [] b = refl
end_names (w ∷ rest) b = refl

after_good : (n : ℕ) (pairs a b : List ℕ) → length pairs % 2 ≡ 0 → good_list n (pairs ++ (end_of_list ∷ a)) ≡ good_list n (pairs ++ (end_of_list ∷ b))
unfolding good_list
after_good n [] a b e = end_good n a ∙ sym (end_good n b)
after_good n (f ∷ []) a b e = absurd (omega arith)
after_good n (f ∷ c ∷ pairs) a b e = rw (after_good n pairs a b (omega arith))

after-names : (pairs a b : List ℕ) → length pairs % 2 ≡ 0 → (k : ℕ) → names (pairs ++ (end_of_list ∷ a)) k ≡ names (pairs ++ (end_of_list ∷ b)) k
unfolding names
after-names [] a b e k = end_names a k ∙ sym (end_names b k)
after-names (f ∷ []) a b e k = absurd (omega arith)
after-names (f ∷ c ∷ pairs) a b e k = rw (after-names pairs a b (omega arith) k)

pub words_after_end : (st : State) (v pairs a b : List ℕ) → length pairs % 2 ≡ 0
    → step st v (erase_blocks (pairs ++ (end_of_list ∷ a))) ≡ step st v (erase_blocks (pairs ++ (end_of_list ∷ b)))
words_after_end st v pairs a b e = named_alike st v _ _ (after_good (blocks (map_of st)) pairs a b e) (after-names pairs a b e)

-- a good list that names no protected block succeeds, of a lawful state and a volume lent whole, with writes enabled: each byte of the blocks that it
-- names is erased
pub erase_allowed : (st : State) (v list : List ℕ) → unlawful st ≡ false → st.length ≤ length v → flag st.attributes write_status ≡ true
    → good_list (blocks (map_of st)) list ≡ true → ((b : ℕ) → T (names list b) → b < st.protected)
    → step st v (erase_blocks list)
    ≡ result_of (success []) st (edit (λ i old. changed_byte st.attributes (erase_change (map_of st) list i) old) 0 v) []
unfolding refusals buffer_of perform effect
erase_allowed st v list ok long on good free =
    sym (allowed_step st v (erase_blocks list)
    (lent_last st _ write_status _ _ (lent_passes st _ write_status ok long on) (ap not good) ∙ row_passes _ _ _ _ (go (reaches st.protected list) refl) no_row))
  where
    go : (t : Bool) → reaches st.protected list ≡ t → t ≡ false
    go true e = let r = reaches-names list st.protected e in absurd (omega (arith, free r.0 r.2))
    go false e = refl

-- the empty list succeeds and changes nothing, whatever follows its terminator
pub empty_list : (st : State) (v rest : List ℕ) → unlawful st ≡ false → st.length ≤ length v → flag st.attributes write_status ≡ true
    → step st v (erase_blocks (end_of_list ∷ rest)) ≡ result_of (success []) st v []
unfolding changed_byte erase_change
empty_list st v rest ok long on =
    erase_allowed st v (end_of_list ∷ rest) ok long on (end_good (blocks (map_of st)) rest) (λ b t. absurd (rw (end_names rest b) at t))
    ∙ ap (λ (l : List ℕ). result_of (success []) st l [])
    (edit_keep (λ i old. changed_byte st.attributes (erase_change (map_of st) (end_of_list ∷ rest) i) old) 0 v
    (λ i old h. rw (end_names rest (block_at (map_of st) (0 + i)))))
