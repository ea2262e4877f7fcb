-- The test of a dependency expression (document 02, k; edk2's ValidateDependency): it follows the kinds of the values on the stack, and so needs no installed firmware.
--
-- Refusals: 301 and 302 of the reader, 303 "empty or full stack", 304 "wrong kind of operand", 305 "no end or, the end taking nothing, not one truth there",
-- "first in reading order, at one opcode the lowest".
use Rattle.std.specs.Prelude.{ℕ, Result, Ok, Err, ◌≤◌, Bool, true, false, cond, not, ◌&&◌, List, [], ◌∷◌, ◌++◌, ltb, length, drop}
use Rattle.std.proofs.Math.Option.{Option, none, some}
use Rattle.common.specs.Answers.{Answer, refused, success}
use Rattle.common.specs.Refusals.{Row, row, first_refusal, unless_refused}
use Rattle.dependency.specs.Opcodes.{Kind, version, truth}
use Rattle.dependency.specs.Expression.{Reading, fault, ended, next, reading}
use Rattle.common.specs.Refusal.{number}
use Rattle.common.specs.declared.refusal.Refusal.{Refusal}

-- ---- the stack as kinds, its top first

-- "Stack limit 32"
abbrev pub stack_limit : ℕ
stack_limit = 32

abbrev pub result_kinds : Option Kind → List Kind
result_kinds none = []
result_kinds (some k) = k ∷ []

-- the kinds on the stack after an opcode: those that it took are gone, and the one that it leaves is on top
unfoldable pub kinds_after : (takes : List Kind) (leaves : Option Kind) → List Kind → List Kind
kinds_after takes leaves kinds = result_kinds leaves ++ drop (length takes) kinds

abbrev pub same_kind : Kind → Kind → Bool
same_kind version version = true
same_kind version truth = false
same_kind truth version = false
same_kind truth truth = true

-- the kinds on top are those asked for
unfoldable pub on_top : (asked : List Kind) → List Kind → Bool
on_top [] kinds = true
on_top (k ∷ asked) [] = false
on_top (k ∷ asked) (x ∷ kinds) = same_kind k x && on_top asked kinds

-- ---- the test

-- the refusals of one opcode: too few on the stack, too many after it, a wrong kind
unfoldable pub stack_refusals : (takes : List Kind) (leaves : Option Kind) → List Kind → List Row
stack_refusals takes leaves kinds =
    row (ltb (length kinds) (length takes)) 303
    ∷ row (ltb stack_limit (length (kinds_after takes leaves kinds))) 303
    ∷ row (not (on_top takes kinds)) 304
    ∷ []

-- at the end: one truth, and nothing else
abbrev pub is_one_truth : List Kind → Bool
is_one_truth [] = false
is_one_truth (version ∷ kinds) = false
is_one_truth (truth ∷ []) = true
is_one_truth (truth ∷ k ∷ kinds) = false

-- the first refusal in reading order, from these kinds on; none where the expression passes
unfoldable pub fault_from : Reading → List Kind → Option ℕ
fault_from (fault n) kinds = some n
fault_from ended kinds = cond (is_one_truth kinds) none (some 305)
fault_from (next o operand rest) kinds =
    let later = fault_from rest (kinds_after o.takes o.leaves kinds) in
    unless_refused some (first_refusal (stack_refusals o.takes o.leaves kinds)) later

abbrev pub validity : Option ℕ → Answer
validity o = unless_refused refused o (success [])

-- the test of an expression, from an empty stack
unfoldable pub validate_of : List ℕ → Answer
validate_of s = validity (fault_from (reading s) [])

-- the answer that the code's result stands for
abbrev pub validated_answer : Result Unit Refusal → Answer
validated_answer (Ok u) = success []
validated_answer (Err e) = refused (number e)

-- for the theorems: the numbers that the test refuses with
abbrev pub OfTest : ℕ → Type 0
OfTest n = (301 ≤ n) × (n ≤ 305)
