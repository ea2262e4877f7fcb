-- The numbers that refusals carry: those of document 02, and no others.
use Prim.Native.Nat.{ℕ, zero, suc}
use mathlib.Core.Path.{◌≡◌, refl, subst}
use mathlib.Core.Bool.{Bool, true, false, cond}
use mathlib.Core.List.{List, [], ◌∷◌, ◌++◌}
use mathlib.Core.Logic.{◌⊎◌, inl, inr}
use mathlib.Core.Option.{Option, none, some, none-ne-some}
use native.Mathlib.Omega.{arith}
use lib.Dec.{eqb, ltb}
use lib.ListN.{length, drop}
use Rattle.common.specs.Answers.{refused, success}
use Rattle.common.specs.Refusals.{first_refusal, unless_refused}
use Rattle.common.proofs.Refusals.{AllNumbers, refusal_number}
use Rattle.dependency.specs.Opcodes.{Kind, truth, end_code, row_of, code_at, after, operand_of, operand_refusals, read_refusals, read_opcode, OpcodeWritten, wrote, opcode_bytes, write_refusals, write_opcode, OfReader, OfWriter}
use Rattle.dependency.specs.Expression.{Reading, fault, ended, next, reading_from, reading}
use Rattle.dependency.specs.Installed.{installed_in}
use Rattle.dependency.specs.Validation.{kinds_after, stack_refusals, is_one_truth, fault_from, validate_of, OfTest}
use Rattle.dependency.specs.Evaluation.{value_on, run, lacks, truth_number, outcome, evaluate_of}
use Rattle.dependency.proofs.evaluation.Runs.{refused_some}

-- ---- single opcodes

reader_rows : (s : List ℕ) → AllNumbers OfReader (read_refusals s)
unfolding read_refusals operand_refusals
reader_rows s = (inr (inr refl), (inl refl, (inr (inl refl), tt)))

pub read_number : (s : List ℕ) (n : ℕ) → read_opcode s ≡ refused n → OfReader n
unfolding read_opcode
read_number s n = go (first_refusal (read_refusals s)) refl
  where
    go : (o : Option ℕ) → first_refusal (read_refusals s) ≡ o → unless_refused refused o (success (code_at s ∷ after s ∷ [])) ≡ refused n → OfReader n
    go none p q = let z : ◌≡◌ {A = ℕ} 0 1 = cc in absurd (omega arith)
    go (some m) p q = let z : m ≡ n = cc in subst OfReader z (refusal_number OfReader (read_refusals s) (reader_rows s) m p)

writer_rows : (code : ℕ) (operand room : List ℕ) → AllNumbers OfWriter (write_refusals code operand room)
unfolding write_refusals operand_refusals
writer_rows code operand room = (inl refl, (inr (inl refl), (inr (inr refl), tt)))

-- a writer that refuses leaves the room
pub write_number : (code : ℕ) (operand room : List ℕ) (n : ℕ) → (write_opcode code operand room).answer ≡ refused n → OfWriter n × ((write_opcode code operand room).room ≡ room)
unfolding write_opcode
write_number code operand room n = go (first_refusal (write_refusals code operand room)) refl
  where
    stored : OpcodeWritten
    stored = wrote (success (length (opcode_bytes code operand) ∷ [])) (opcode_bytes code operand ++ drop (length (opcode_bytes code operand)) room)

    go : (o : Option ℕ) → first_refusal (write_refusals code operand room) ≡ o → (unless_refused (λ m. wrote (refused m) room) o stored).answer ≡ refused n
        → OfWriter n × ((unless_refused (λ m. wrote (refused m) room) o stored).room ≡ room)
    go none p q = let z : ◌≡◌ {A = ℕ} 0 1 = cc in absurd (omega arith)
    go (some m) p q = let z : m ≡ n = cc in (subst OfWriter z (refusal_number OfWriter (write_refusals code operand room) (writer_rows code operand room) m p), refl)

-- ---- the test

reader_test : (n : ℕ) → OfReader n → OfTest n
reader_test n (inl e) = (omega arith, omega arith)
reader_test n (inr (inl e)) = (omega arith, omega arith)
reader_test n (inr (inr e)) = (omega arith, omega arith)

abbrev Numbered : Reading → Type 0
Numbered (fault n) = OfTest n
Numbered ended = Unit {0}
Numbered (next o operand rest) = Numbered rest

numbered : (fuel : ℕ) (s : List ℕ) → Numbered (reading_from fuel s)
unfolding reading_from
numbered zero s = (omega arith, omega arith)
numbered (suc fuel) s = go (first_refusal (read_refusals s)) refl (numbered fuel (drop (after s) s))
  where
    later : (b : Bool) (r : Reading) → Numbered r → Numbered (cond b ended (next (row_of (code_at s)) (operand_of s) r))
    later true r h = tt
    later false r h = h

    go : (o : Option ℕ) → first_refusal (read_refusals s) ≡ o → Numbered (reading_from fuel (drop (after s) s))
        → Numbered (unless_refused fault o (cond (eqb (code_at s) end_code) ended (next (row_of (code_at s)) (operand_of s) (reading_from fuel (drop (after s) s)))))
    go none p h = later (eqb (code_at s) end_code) (reading_from fuel (drop (after s) s)) h
    go (some m) p h = reader_test m (refusal_number OfReader (read_refusals s) (reader_rows s) m p)

stack_rows : (takes : List Kind) (leaves : Option Kind) (ks : List Kind) → AllNumbers OfTest (stack_refusals takes leaves ks)
unfolding stack_refusals
stack_rows takes leaves ks = ((omega arith, omega arith), ((omega arith, omega arith), ((omega arith, omega arith), tt)))

fault_number_lem : (r : Reading) (ks : List Kind) (n : ℕ) → Numbered r → fault_from r ks ≡ some n → OfTest n
unfolding fault_from
fault_number_lem (fault m) ks n h e = let z : m ≡ n = cc in subst OfTest z h
fault_number_lem ended ks n h e = go (is_one_truth ks) e
  where
    go : (b : Bool) → cond b none (some 305) ≡ some n → OfTest n
    go true q = absurd (none-ne-some n q)
    go false q = let z : ◌≡◌ {A = ℕ} 305 n = cc in (omega arith, omega arith)
fault_number_lem (next o operand rest) ks n h e =
    go (first_refusal (stack_refusals o.takes o.leaves ks)) refl (fault_number_lem rest (kinds_after o.takes o.leaves ks) n h) e
  where
    go : (f : Option ℕ) → first_refusal (stack_refusals o.takes o.leaves ks) ≡ f → (fault_from rest (kinds_after o.takes o.leaves ks) ≡ some n → OfTest n)
        → unless_refused some f (fault_from rest (kinds_after o.takes o.leaves ks)) ≡ some n → OfTest n
    go none p later q = later q
    go (some m) p later q = let z : m ≡ n = cc in subst OfTest z (refusal_number OfTest (stack_refusals o.takes o.leaves ks) (stack_rows o.takes o.leaves ks) m p)

reading_number : (s : List ℕ) (n : ℕ) → fault_from (reading s) [] ≡ some n → OfTest n
unfolding reading
reading_number s n e = fault_number_lem (reading_from (suc (length s)) s) [] n (numbered (suc (length s)) s) e

pub validate_number : (s : List ℕ) (n : ℕ) → validate_of s ≡ refused n → OfTest n
validate_number s n e = reading_number s n (refused_some s n e)

-- ---- the evaluation

pub evaluate_number : (rows : List (List ℕ)) (versions : List ℕ) (used : ℕ) (s : List ℕ) (n : ℕ) → evaluate_of rows versions used s ≡ refused n
    → (n ≡ 2) ⊎ ((n ≡ 14) ⊎ OfTest n)
unfolding evaluate_of outcome first_refusal
evaluate_number rows versions used s n = go (ltb 16 used) (fault_from (reading s) []) refl (lacks (installed_in rows versions used) (reading s))
  where
    said : List ℕ
    said = truth_number (value_on truth (run (installed_in rows versions used) (reading s) [])) ∷ []

    go : (over : Bool) (f : Option ℕ) → fault_from (reading s) [] ≡ f → (missing : Bool)
        → unless_refused refused (cond over (some 2) none) (unless_refused refused f (unless_refused refused (cond missing (some 14) none) (success said))) ≡ refused n
        → (n ≡ 2) ⊎ ((n ≡ 14) ⊎ OfTest n)
    go true f p missing q = inl (cc)
    go false (some m) p missing q = let z : m ≡ n = cc in inr (inr (subst OfTest z (reading_number s m p)))
    go false none p true q = inr (inl (cc))
    go false none p false q = let z : ◌≡◌ {A = ℕ} 0 1 = cc in absurd (omega arith)
