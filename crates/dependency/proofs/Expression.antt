-- What the bytes hold, opcode by opcode, without a counter: by the reader's answer at their start; and that bytes after the end make no difference.
use Prim.Native.Nat.{ℕ, zero, suc, ◌≤◌, ◌<◌}
use mathlib.Core.Path.{◌≡◌, refl, sym, ap, subst, ◌∙◌}
use mathlib.Core.Bool.{Bool, true, false, cond}
use mathlib.Core.List.{List, [], ◌∷◌, ◌++◌}
use mathlib.Core.Option.{Option, none, some}
use native.Mathlib.Omega.{arith}
use borrow.Author.Tests.{eq-eqb, ne_eqb, eqb-true, eqb-false}
use lib.Dec.{eqb}
use lib.ListN.{length, drop, length-drop}
use lib.Seq.{drop-append-le}
use Rattle.common.specs.Answers.{refused, success}
use Rattle.common.specs.Refusals.{first_refusal, unless_refused}
use Rattle.common.proofs.Refusals.{row-passed}
use Rattle.dependency.specs.Opcodes.{end_code, row_of, code_at, after, operand_of, read_refusals, read_opcode}
use Rattle.dependency.specs.Expression.{Reading, fault, ended, next, reading_from, reading, Ends}
use Rattle.dependency.proofs.opcodes.Single.{opened, read_passed, read_refused, reads_within}
use Rattle.dependency.proofs.opcodes.Widths.{more_read}

-- ---- the fuel

-- an opcode has at least its own byte
rest_less : (s : List ℕ) → (length s ≡ 0 → ⊥) → length (drop (after s) s) < length s
unfolding after
rest_less s some_bytes = rw length-drop (omega arith)

-- bytes that are read have a first one
first_byte : (s : List ℕ) → first_refusal (read_refusals s) ≡ none → length s ≡ 0 → ⊥
unfolding read_refusals
first_byte s p = eqb-false _ _ (row-passed _ _ p).0

enough_fuel : (n m : ℕ) (s : List ℕ) → length s < n → length s < m → reading_from n s ≡ reading_from m s
unfolding reading_from
enough_fuel zero m s h l = absurd (omega arith)
enough_fuel (suc n) zero s h l = absurd (omega arith)
enough_fuel (suc n) (suc m) s h l = go (first_refusal (read_refusals s)) refl (enough_fuel n m (drop (after s) s))
  where
    here : Reading → Reading
    here r = cond (eqb (code_at s) end_code) ended (next (row_of (code_at s)) (operand_of s) r)

    go : (o : Option ℕ) → first_refusal (read_refusals s) ≡ o
        → (length (drop (after s) s) < n → length (drop (after s) s) < m → reading_from n (drop (after s) s) ≡ reading_from m (drop (after s) s))
        → unless_refused fault o (here (reading_from n (drop (after s) s))) ≡ unless_refused fault o (here (reading_from m (drop (after s) s)))
    go (some k) p ih = refl
    go none p ih =
        let d = rest_less s (first_byte s p) in
        ap here (ih (omega arith) (omega arith))

-- what the bytes hold is what their first opcode says and what the bytes after it hold
unroll : (s : List ℕ)
    → reading s
    ≡ unless_refused fault (first_refusal (read_refusals s))
    (cond (eqb (code_at s) end_code) ended (next (row_of (code_at s)) (operand_of s) (reading (drop (after s) s))))
unfolding reading reading_from
unroll s = go (first_refusal (read_refusals s)) refl
  where
    here : Reading → Reading
    here r = cond (eqb (code_at s) end_code) ended (next (row_of (code_at s)) (operand_of s) r)

    go : (o : Option ℕ) → first_refusal (read_refusals s) ≡ o
        → unless_refused fault o (here (reading_from (length s) (drop (after s) s))) ≡ unless_refused fault o (here (reading_from (suc (length (drop (after s) s))) (drop (after s) s)))
    go (some k) p = refl
    go none p =
        let d = rest_less s (first_byte s p) in
        ap here (enough_fuel (length s) (suc (length (drop (after s) s))) (drop (after s) s) d (omega arith))

-- ---- by the reader's answer

module _ (s : List ℕ) where
  pub reads_fault : (n : ℕ) → read_opcode s ≡ refused n → reading s ≡ fault n
  unfolding read_opcode
  reads_fault n e = unroll s ∙ go (first_refusal (read_refusals s)) e
    where
      here : Reading
      here = cond (eqb (code_at s) end_code) ended (next (row_of (code_at s)) (operand_of s) (reading (drop (after s) s)))

      go : (o : Option ℕ) → unless_refused refused o (success (code_at s ∷ after s ∷ [])) ≡ refused n → unless_refused fault o here ≡ fault n
      go none q = let z : ◌≡◌ {A = ℕ} 0 1 = cc in absurd (omega arith)
      go (some m) q = cc

  module _ (c a : ℕ) (e : read_opcode s ≡ success (c ∷ a ∷ [])) where
    pub reads_ended : c ≡ end_code → reading s ≡ ended
    reads_ended h = let o = opened s c a e in unroll s ∙ rw (o.passed, eq-eqb (code_at s) end_code (o.code ∙ h))

    pub reads_next : (c ≡ end_code → ⊥) → reading s ≡ next (row_of c) (operand_of s) (reading (drop a s))
    reads_next h =
        let o = opened s c a e in
        unroll s ∙ rw (o.passed, ne_eqb (code_at s) end_code (λ q. h (sym o.code ∙ q)), o.code, o.place)

-- ---- bytes after the end

-- one opcode, where the bytes after it hold the same with and without those behind
turn : (n : ℕ) (s t : List ℕ) → length s ≤ n → Ends (reading s) → ((u : List ℕ) → length u < n → Ends (reading u) → reading (u ++ t) ≡ reading u)
    → reading (s ++ t) ≡ reading s
unfolding Ends
turn n s t h ends later = go (first_refusal (read_refusals s)) refl
  where
    read : (c a : ℕ) → read_opcode s ≡ success (c ∷ a ∷ []) → (b : Bool) → eqb c end_code ≡ b → reading (s ++ t) ≡ reading s
    read c a e true q = reads_ended (s ++ t) c a (more_read s t c a e).0 (eqb-true c end_code q) ∙ sym (reads_ended s c a e (eqb-true c end_code q))
    read c a e false q =
        let on = reads_next s c a e (eqb-false c end_code q) in
        let w = reads_within s c a e in
        let shorter : length (drop a s) < n = rw length-drop (omega arith) in
        reads_next (s ++ t) c a (more_read s t c a e).0 (eqb-false c end_code q)
        ∙ rw ((more_read s t c a e).1, drop-append-le a s t w.1, later (drop a s) shorter (subst Ends on ends))
        (sym on)

    go : (o : Option ℕ) → first_refusal (read_refusals s) ≡ o → reading (s ++ t) ≡ reading s
    go (some m) p = absurd (subst Ends (reads_fault s m (read_refused s m p)) ends)
    go none p = read (code_at s) (after s) (read_passed s p) (eqb (code_at s) end_code) refl

pub same-reading : (n : ℕ) (s t : List ℕ) → length s ≤ n → Ends (reading s) → reading (s ++ t) ≡ reading s
same-reading zero s t h ends = turn zero s t h ends (λ u l q. absurd (omega arith))
same-reading (suc n) s t h ends = turn (suc n) s t h ends (λ u l q. same-reading n u t (omega arith) q)
