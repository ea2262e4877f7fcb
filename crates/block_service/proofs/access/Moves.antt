-- Laws of reading and writing, in the form in which the code meets them: a part of the volume that was lent, changed and handed back.
use Prim.Native.Nat.{ℕ, ◌+◌, ◌-◌, ◌≤◌, ◌<◌}
use mathlib.Core.Path.{◌≡◌, refl, sym, ap, ◌∙◌}
use mathlib.Core.Bool.{Bool, true, false, cond, ◌&&◌}
use mathlib.Core.List.{List, ◌++◌}
use native.Mathlib.Nat.{add-sub_cancel_left, mod-eq_of_lt, zero-add}
use native.Mathlib.Omega.{arith}
use borrow.Author.Tests.{leb-true, ltb-true}
use lib.Bits.{bit_and, bit_or, and_comm, and_mask, or_zero_l}
use lib.Dec.{leb, ltb}
use lib.ListN.{length, get_or, take, drop}
use lib.Seq.{get_or-take, ext_get_or}
use Rattle.volume.specs.Attributes.{flag, sticky_write, erase_polarity}
use Rattle.common.specs.Lists.{edit}
use Rattle.block_service.specs.Access.{count_moved, written_byte, erased_byte, changed_byte, write_change, keep, store}
use Rattle.common.proofs.Edit.{within, edit-part, edit-same, edit_keep, length-edit, get_or-edit}

-- the byte that a write changes at i, and those that it does not change
stretch : (a at n : ℕ) (new : List ℕ) → n ≤ length new → (i x : ℕ)
    → within at n (λ j y. written_byte a y (get_or (take n new) j 0)) i x ≡ changed_byte a (write_change at n new i) x
unfolding changed_byte write_change
stretch a at n new h i x = go (leb at i) refl (ltb i (at + n)) refl
  where
    go : (t : Bool) → leb at i ≡ t → (u : Bool) → ltb i (at + n) ≡ u
        → cond (t && u) (written_byte a x (get_or (take n new) (i - at) 0)) x ≡ changed_byte a (cond (t && u) (store (get_or new (i - at) 0)) keep) x
    go true p true q =
        let p' : at ≤ i = leb-true _ _ p in
        let q' : i < at + n = ltb-true _ _ q in
        rw (get_or-take n new (i - at) 0 (omega arith))
    go true p false q = refl
    go false p true q = refl
    go false p false q = refl

-- a write: the part over which the data was written
pub write_back : (a at n : ℕ) (v new part : List ℕ) → at + n ≤ length v → n ≤ length new
    → part ≡ edit (λ i x. written_byte a x (get_or (take n new) i 0)) 0 (take (at + n - at) (drop at v))
    → take at v ++ (part ++ drop (at + n - at) (drop at v)) ≡ edit (λ i x. changed_byte a (write_change at n new i) x) 0 v
write_back a at n v new part h k p =
    rw (p, add-sub_cancel_left at n)
    (edit-part (λ i x. written_byte a x (get_or (take n new) i 0)) at n v h
    ∙ edit-same (within at n (λ i x. written_byte a x (get_or (take n new) i 0))) (λ i x. changed_byte a (write_change at n new i) x) 0 0 v
    (λ i x b. stretch a at n new k (0 + i) x))

-- a write of no bytes
pub write_none : (a at : ℕ) (n : ℕ) (v new : List ℕ) → n ≡ 0 → v ≡ edit (λ i x. changed_byte a (write_change at n new i) x) 0 v
unfolding changed_byte write_change
write_none a at n v new e =
    sym (edit_keep (λ i x. changed_byte a (write_change at n new i) x) 0 v (λ i x b. rw e (go (0 + i) x (leb at (0 + i)) refl (ltb (0 + i) (at + 0)) refl)))
  where
    go : (i x : ℕ) (t : Bool) → leb at i ≡ t → (u : Bool) → ltb i (at + 0) ≡ u → changed_byte a (cond (t && u) (store (get_or new (i - at) 0)) keep) x ≡ x
    go i x true p true q =
        let p' : at ≤ i = leb-true _ _ p in
        let q' : i < at + 0 = ltb-true _ _ q in
        absurd (omega arith)
    go i x true p false q = refl
    go i x false p true q = refl
    go i x false p false q = refl

-- a count of bytes moved passes neither the data nor the block's end
pub moves : (s l o n k m : ℕ) → k ≡ count_moved l o n → s + l ≤ m → (k ≤ n) × (0 < k → s + o + k ≤ m)
unfolding count_moved
moves s l o n k m e h = (omega arith, λ p. omega arith)

-- no byte is counted where the offset reaches the block's end
pub count_none : (len offset n : ℕ) → len ≤ offset → count_moved len offset n ≡ 0
unfolding count_moved
count_none len offset n h = omega arith

-- and otherwise the smaller of the data's length and the bytes from the offset to the block's end
pub count_smaller : (len offset n : ℕ) → offset ≤ len
    → (n ≤ len - offset → count_moved len offset n ≡ n) × (len - offset ≤ n → count_moved len offset n ≡ len - offset)
unfolding count_moved
count_smaller len offset n h = ((λ p. omega arith), λ p. omega arith)

-- the write rule's three cases
module _ (a old new : ℕ) where
  pub written_plain : flag a sticky_write ≡ false → written_byte a old new ≡ new
  unfolding written_byte
  written_plain e = rw e

  pub written_and : flag a sticky_write ≡ true → flag a erase_polarity ≡ true → written_byte a old new ≡ bit_and old new
  unfolding written_byte
  written_and e p = rw (e, p)

  pub written_or : flag a sticky_write ≡ true → flag a erase_polarity ≡ false → written_byte a old new ≡ bit_or old new
  unfolding written_byte
  written_or e p = rw (e, p)

-- a part of which each byte is written by the rule
pub written_each : (a : ℕ) (part new after : List ℕ) → length after ≡ length part
    → ((i : ℕ) → i < length part → get_or after i 0 ≡ written_byte a (get_or part i 0) (get_or new i 0))
    → after ≡ edit (λ i x. written_byte a x (get_or new i 0)) 0 part
written_each a part new after l h =
    let f : ℕ → ℕ → ℕ = λ i x. written_byte a x (get_or new i 0) in
    ext_get_or 0 after (edit f 0 part) (l ∙ sym (length-edit f 0 part))
    (λ i b.
    h i (omega arith) ∙ sym (get_or-edit f 0 part i (omega arith) ∙ ap (λ (k : ℕ). written_byte a (get_or part i 0) (get_or new k 0)) (zero-add i)))

-- a byte written over an erased one is the byte itself
pub written_erased : (a x : ℕ) → x < 256 → written_byte a (erased_byte a) x ≡ x
unfolding written_byte erased_byte
written_erased a x h = go (flag a sticky_write) (flag a erase_polarity)
  where
    go : (sticky ones : Bool) → cond sticky (cond ones (bit_and (cond ones 0xFF 0x00) x) (bit_or (cond ones 0xFF 0x00) x)) x ≡ x
    go true true = and_comm 255 x ∙ and_mask x 8 ∙ mod-eq_of_lt h
    go true false = or_zero_l x
    go false true = refl
    go false false = refl
