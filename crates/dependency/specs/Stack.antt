-- Private to the code's contracts: what an opcode does to the stack, the stack as the code holds it, the test's kinds as the binary digits of a number, the evaluation's values as numbers in an array.
-- A reader of the public contracts needs none of this.
use Rattle.std.specs.Prelude as std
use Rattle.std.specs.Prelude.{ℕ, zero, suc, ◌+◌, ◌-◌, ◌%◌, ◌/◌, ◌≤◌, ◌<◌, ◌≡◌, Some, None, Ok, Err, true, false, cond, not, List, [], ◌∷◌, eqb, length, get_or}
use Rattle.std.proofs.Math.Option.{Option, none, some}
use Rattle.numbers.specs.LittleEndian.{le}
use Rattle.common.specs.Answers.{Answer}
use Rattle.common.specs.Refusal.{number}
use Rattle.common.specs.Refusals.{first_refusal}
use Rattle.common.specs.declared.refusal.Refusal.{Refusal}
use Rattle.dependency.specs.Opcodes.{Kind, version, truth, Installed, known, end_code, row_of}
use Rattle.dependency.specs.Expression.{ended}
use Rattle.dependency.specs.Validation.{result_kinds, kinds_after, on_top, stack_refusals, stack_limit, fault_from, validity}
use Rattle.dependency.specs.Evaluation.{Cell, Version, Truth, step, is_missing}
use Rattle.dependency.specs.declared.validation.Kind.{Kind as CodeKind}
use Rattle.dependency.specs.declared.validation.Kind.TheVariants as K

-- ---- the test: kinds as digits

-- a kind of the code's
abbrev pub value_kind : CodeKind → Kind
value_kind K.Version = version
value_kind K.Truth = truth

-- a kind as a binary digit, 1 a truth; and the kinds on a stack of a depth as a number, the top the lowest digit
abbrev pub digit_kind : ℕ → Kind
digit_kind n = cond (eqb n 1) truth version

unfoldable pub kinds_of : (depth number : ℕ) → List Kind
kinds_of zero number = []
kinds_of (suc depth) number = digit_kind (number % 2) ∷ kinds_of depth (number / 2)

-- the test's answer at the end
unfoldable pub ended_of : List Kind → Answer
ended_of kinds = validity (fault_from ended kinds)

-- what an opcode of these columns makes of these kinds: the kinds after it, or its refusal
unfoldable pub Follows : std.Result Unit Refusal → (takes : List Kind) (leaves : Option Kind) (kinds after : List Kind) → Type 0
Follows (Ok u) takes leaves kinds after = (first_refusal (stack_refusals takes leaves kinds) ≡ none) × (after ≡ kinds_after takes leaves kinds)
Follows (Err e) takes leaves kinds after = first_refusal (stack_refusals takes leaves kinds) ≡ some (number e)

-- ---- the evaluation: a version as itself, a truth as 0 or another number

abbrev pub found_version : std.Option ℕ → Option ℕ
found_version (Some v) = some v
found_version None = none

unfoldable pub number_cell : Kind → ℕ → Cell
number_cell version x = Version x
number_cell truth x = Truth (not (eqb x 0))

-- the numbers on a stack of a depth, its top first: in the array the last used place is the top
unfoldable pub stack_of : (depth : ℕ) → List ℕ → List ℕ
stack_of zero values = []
stack_of (suc depth) values = get_or values depth 0 ∷ stack_of depth values

-- the cells that numbers of these kinds stand for
unfoldable pub cells_of : List Kind → List ℕ → List Cell
cells_of [] stack = []
cells_of (k ∷ kinds) [] = []
cells_of (k ∷ kinds) (x ∷ stack) = number_cell k x ∷ cells_of kinds stack

-- the version that an opcode gives is that of its row: PUSH_GUID's and PUSH_VERSION's
pub record Gives (code v : ℕ) (installed : Installed) (operand : List ℕ) : Type 0 where
  pub found : code ≡ 0 → v ≡ known (installed operand)
  pub number : code ≡ 1 → v ≡ le 4 operand 0
  pub there : is_missing (row_of code).operand (installed operand) ≡ false

unfoldable pub Given : std.Option ℕ → (code : ℕ) → Installed → List ℕ → Type 0
Given (Some v) code installed operand = Gives code v installed operand
Given None code installed operand = is_missing (row_of code).operand (installed operand) ≡ true

-- a depth at which an opcode takes no more than there is and puts no more than fits
pub record Fits (code depth : ℕ) : Type 0 where
  pub early : code < end_code
  pub enough : length (row_of code).takes ≤ depth
  pub before : depth ≤ stack_limit
  pub within : depth - length (row_of code).takes + length (result_kinds (row_of code).leaves) ≤ stack_limit

-- the numbers after an opcode are those of the stack after it
unfoldable pub Stepped : (code v : ℕ) (stack after : List ℕ) → Type 0
Stepped code v stack after =
    (kinds : List Kind) → length kinds ≡ length stack → on_top (row_of code).takes kinds ≡ true
    → (installed : Installed) (operand : List ℕ) → Gives code v installed operand
    → (length (kinds_after (row_of code).takes (row_of code).leaves kinds) ≡ length after)
    × (cells_of (kinds_after (row_of code).takes (row_of code).leaves kinds) after ≡ step installed (row_of code) operand (cells_of kinds stack))
