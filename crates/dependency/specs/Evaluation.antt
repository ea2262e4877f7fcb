-- The evaluation of a dependency expression against the installed firmware (document 02, k; edk2's EvaluateDependency): it follows the values on the stack. Refusals: "2 first, for a used number
-- over sixteen", the test's, "then, at evaluation, 14 for a GUID in no used row".
use Rattle.std.specs.Prelude as std
use Rattle.std.specs.Prelude.{ℕ, Ok, Err, ◌≤◌, ◌≡◌, Bool, true, false, cond, ◌||◌, List, [], ◌∷◌, ◌++◌, map, ltb, length, take, drop}
use Rattle.std.proofs.Math.Option.{Option, none, some}
use Rattle.common.specs.Answers.{Answer, refused, success}
use Rattle.common.specs.Refusals.{row, first_refusal, unless_refused}
use Rattle.dependency.specs.Opcodes.{Kind, version, truth, Value, Operand, bare, guid, version32, text, Installed, From, Result, OpcodeRow}
use Rattle.dependency.specs.Expression.{Reading, fault, ended, next, reading}
use Rattle.dependency.specs.Installed.{row_limit, installed_in}
use Rattle.dependency.specs.Validation.{stack_limit, fault_from}
use Rattle.common.specs.Refusal.{number}
use Rattle.common.specs.declared.refusal.Refusal.{Refusal}

-- ---- the stack as values, its top first

pub data Cell : Type 0 where
  Version : ℕ → Cell
  Truth : Bool → Cell

abbrev pub kind_of : Cell → Kind
kind_of (Version v) = version
kind_of (Truth b) = truth

abbrev pub kinds : List Cell → List Kind
kinds st = map kind_of st

-- the value of a kind on top of the stack. Of the other kind or of an empty stack it is 0 or false: `Soundly` below says that a tested expression never asks for that
unfoldable pub value_on : (k : Kind) → List Cell → Value k
value_on version [] = 0
value_on version (Version v ∷ st) = v
value_on version (Truth b ∷ st) = 0
value_on truth [] = false
value_on truth (Version v ∷ st) = false
value_on truth (Truth b ∷ st) = b

-- a function applied with the values on top, the top first
unfoldable pub applied : {A : Type 0} (takes : List Kind) → From takes A → List Cell → A
applied [] f st = f
applied (k ∷ takes) f st = applied takes (f (value_on k st)) (drop 1 st)

unfoldable pub cell_of : (k : Kind) → Value k → Cell
cell_of version v = Version v
cell_of truth b = Truth b

unfoldable pub result_cells : (leaves : Option Kind) → Result leaves → List Cell
result_cells none u = []
result_cells (some k) v = cell_of k v ∷ []

-- the stack after an opcode: what it took is gone, and what it leaves is on top
unfoldable pub step : Installed → OpcodeRow → (operand : List ℕ) → List Cell → List Cell
step installed o operand st =
    result_cells o.leaves (applied o.takes (o.meaning installed operand) st) ++ drop (length o.takes) st

-- ---- the evaluation

-- the stack at the end
unfoldable pub run : Installed → Reading → List Cell → List Cell
run installed (fault n) st = st
run installed ended st = st
run installed (next o operand rest) st = run installed rest (step installed o operand st)

-- "a GUID in no used row": an operand that is a GUID and has no version
abbrev pub is_missing : Operand → Option ℕ → Bool
is_missing bare found = false
is_missing guid none = true
is_missing guid (some v) = false
is_missing version32 found = false
is_missing text found = false

-- some GUID of the expression, up to its end, is in no used row
unfoldable pub lacks : Installed → Reading → Bool
lacks installed (fault n) = false
lacks installed ended = false
lacks installed (next o operand rest) = is_missing o.operand (installed operand) || lacks installed rest

-- a truth that is answered: 1 or 0
abbrev pub truth_number : Bool → ℕ
truth_number b = cond b 1 0

-- 14, or the truth that is on the stack at the end
unfoldable pub outcome : Installed → Reading → List Cell → Answer
outcome installed r st = unless_refused refused (first_refusal (row (lacks installed r) 14 ∷ [])) (success (truth_number (value_on truth (run installed r st)) ∷ []))

-- the evaluator: 2, the test's refusals, 14, and otherwise the truth
unfoldable pub evaluate_of : (rows : List (List ℕ)) → (versions : List ℕ) → (used : ℕ) → List ℕ → Answer
evaluate_of rows versions used s =
    unless_refused refused (first_refusal (row (ltb row_limit used) 2 ∷ []))
    (unless_refused refused (fault_from (reading s) [])
    (outcome (installed_in rows versions used) (reading s) []))

-- the answer that the code's result stands for
abbrev pub evaluated_answer : std.Result Bool Refusal → Answer
evaluated_answer (Ok b) = success (truth_number b ∷ [])
evaluated_answer (Err e) = refused (number e)

-- ---- for the theorems: every GUID of an expression, up to its end

unfoldable pub AllGuids : (List ℕ → Type 0) → Reading → Type 0
AllGuids P (fault n) = Unit {0}
AllGuids P ended = Unit {0}
AllGuids P (next o operand rest) = (o.operand ≡ guid → P operand) × AllGuids P rest

-- ---- for the theorems: what the test promises of the evaluation, step by step

-- at one opcode, with the stack before and after it: no more is taken than there is, what is taken is of the kinds asked for, and no more is left than the limit
pub record Sound (o : OpcodeRow) (st after : List Cell) : Type 0 where
  pub enough : length o.takes ≤ length st
  pub asked : map kind_of (take (length o.takes) st) ≡ o.takes
  pub within : length after ≤ stack_limit

-- so at every opcode of the evaluation from this stack on, and at the end one truth
unfoldable pub Soundly : Installed → Reading → List Cell → Type 0
Soundly installed (fault n) st = ⊥
Soundly installed ended st = kinds st ≡ truth ∷ []
Soundly installed (next o operand rest) st = Sound o st (step installed o operand st) × Soundly installed rest (step installed o operand st)
