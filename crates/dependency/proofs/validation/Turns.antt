-- One turn of the test, over the bytes that are left: what the test says of them, at the kinds held, is what it says of the whole.
use Prim.Native.Nat.{ℕ, ◌-◌, ◌<◌}
use mathlib.Core.Path.{◌≡◌, sym, ap, ◌∙◌}
use mathlib.Core.List.{List, [], ◌∷◌}
use mathlib.Core.Option.{Option, some}
use native.Mathlib.Omega.{arith}
use lib.ListN.{length, take, drop, length-drop}
use lib.Seq.{take_all}
use Rattle.std.specs.Prelude.{Ok, Err}
use Rattle.common.specs.Answers.{Answer, refused, success}
use Rattle.common.specs.Refusal.{number}
use Rattle.common.specs.declared.refusal.Refusal.{Refusal}
use Rattle.common.specs.Refusals.{first_refusal, unless_refused}
use Rattle.dependency.specs.Opcodes.{Kind, end_code, row_of, read_opcode}
use Rattle.dependency.specs.Expression.{Reading, reading}
use Rattle.dependency.specs.Validation.{kinds_after, stack_refusals, fault_from, validity, validate_of}
use Rattle.dependency.specs.Stack.{ended_of, Follows}
use Rattle.dependency.proofs.opcodes.Single.{reads_within}
use Rattle.dependency.proofs.Expression.{reads_fault, reads_ended, reads_next}

-- the part of a slice from a place on, as the code has it
pub tail_is : (s : List ℕ) (k : ℕ) → take (length s - k) (drop k s) ≡ drop k s
tail_is s k = take_all (length s - k) (drop k s) (rw length-drop (omega arith))

-- after an opcode fewer bytes are left
pub fewer : (s : List ℕ) (c a : ℕ) → success (c ∷ a ∷ []) ≡ read_opcode s → length (take (length s - a) (drop a s)) < length s
fewer s c a is = let w = reads_within s c a (sym is) in rw (tail_is s a, length-drop) (omega arith)

refused_as : (o : Option ℕ) (n : ℕ) → o ≡ some n → refused n ≡ validity o
refused_as o n e = rw e

module _ (s rest : List ℕ) (ks : List Kind) (same : fault_from (reading rest) ks ≡ fault_from (reading s) []) where
  pub validate_refused : (n : ℕ) → refused n ≡ read_opcode rest → refused n ≡ validate_of s
  unfolding validate_of fault_from
  validate_refused n is = refused_as _ n (sym same ∙ rw (reads_fault rest n (sym is)))

  module _ (c a : ℕ) (is : success (c ∷ a ∷ []) ≡ read_opcode rest) where
    pub validate_ended : (t : Answer) → c ≡ end_code → t ≡ ended_of ks → t ≡ validate_of s
    unfolding validate_of ended_of
    validate_ended t h e = e ∙ ap validity (ap (λ (x : Reading). fault_from x ks) (sym (reads_ended rest c a (sym is) h)) ∙ same)

    module _ (h : c ≡ end_code → ⊥) (after : List Kind) where
      -- what the test says of the bytes from here on is what it says of this opcode and then of the rest
      turn : unless_refused some (first_refusal (stack_refusals (row_of c).takes (row_of c).leaves ks))
          (fault_from (reading (drop a rest)) (kinds_after (row_of c).takes (row_of c).leaves ks))
          ≡ fault_from (reading s) []
      unfolding fault_from
      turn = sym (ap (λ (x : Reading). fault_from x ks) (reads_next rest c a (sym is) h)) ∙ same

      pub validate_stack : (e : Refusal) → Follows (Err e) (row_of c).takes (row_of c).leaves ks after → refused (number e) ≡ validate_of s
      unfolding validate_of Follows
      validate_stack e follows = refused_as _ (number e) (sym turn ∙ rw follows)

      pub validate_next : Follows (Ok tt) (row_of c).takes (row_of c).leaves ks after → fault_from (reading (take (length rest - a) (drop a rest))) after ≡ fault_from (reading s) []
      unfolding Follows
      validate_next follows = rw (tail_is rest a, follows.1) (rw follows.0 at turn)
