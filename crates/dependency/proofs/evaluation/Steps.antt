-- The stack of values: the array as a list of numbers, and what each opcode makes of them.
use Prim.Native.Nat.{ℕ, zero, suc, ◌+◌, ◌-◌, ◌≤◌, ◌<◌}
use mathlib.Core.Path.{◌≡◌, refl, sym, ap}
use mathlib.Core.Bool.{Bool, true, false, cond, not, true≢false}
use mathlib.Core.List.{List, [], ◌∷◌}
use native.Mathlib.Nat.{ne_of_lt}
use native.Mathlib.Numerals.{add-one}
use native.Mathlib.Omega.{arith}
use lib.Dec.{eqb}
use lib.ListN.{length, get_or, drop, set}
use lib.Seq.{get_or-set_same, get_or-set_other}
use Rattle.dependency.specs.Opcodes.{Kind, version, truth, Value}
use Rattle.dependency.specs.Validation.{same_kind, on_top}
use Rattle.dependency.specs.Evaluation.{Cell, Truth, value_on}
use Rattle.dependency.specs.Stack.{number_cell, stack_of, cells_of}
use Rattle.dependency.proofs.validation.Passing.{both, same_kind_lem}

-- ---- the array

pub stack_length : (d : ℕ) (values : List ℕ) → length (stack_of d values) ≡ d
unfolding stack_of
stack_length zero values = refl
stack_length (suc d) values = ap suc (stack_length d values)

-- a store at or above the top is not seen
stack_kept : (d : ℕ) (values : List ℕ) (j x : ℕ) → d ≤ j → stack_of d (set values j x) ≡ stack_of d values
unfolding stack_of
stack_kept zero values j x h = refl
stack_kept (suc d) values j x h = let other : d < j = omega arith in rw (get_or-set_other values j d x 0 (ne_of_lt other), stack_kept d values j x (omega arith))

pub stack_push : (d : ℕ) (values : List ℕ) (x : ℕ) → d < length values → stack_of (d + 1) (set values d x) ≡ x ∷ stack_of d values
unfolding stack_of
stack_push d values x h = rw (add-one d, get_or-set_same values d x 0 h, stack_kept d values d x (omega arith))

pub stack_pop : (d : ℕ) (values : List ℕ) → 1 ≤ d → stack_of d values ≡ get_or values (d - 1) 0 ∷ stack_of (d - 1) values
unfolding stack_of
stack_pop zero values h = absurd (omega arith)
stack_pop (suc d) values h = let e : suc d - 1 ≡ d = omega arith in rw e

-- ---- what the opcodes leave, from the kinds and the numbers on the stack

-- the value of a kind that a number stands for
abbrev pub number_value : (k : Kind) → ℕ → Value k
number_value version x = x
number_value truth x = not (eqb x 0)

value_made : (k : Kind) (x : ℕ) (more : List Cell) → value_on k (number_cell k x ∷ more) ≡ number_value k x
unfolding value_on number_cell
value_made version x more = refl
value_made truth x more = refl

-- a truth as 1 or 0
made_truth : (b : Bool) → not (eqb (cond b 1 0) 0) ≡ b
made_truth true = refl
made_truth false = refl

-- a stack after an opcode: as deep as its kinds, and of these cells
abbrev pub Holds : (kinds : List Kind) (stack : List ℕ) → List Cell → Type 0
Holds kinds stack cells = (length kinds ≡ length stack) × (cells_of kinds stack ≡ cells)

-- a value on top of all
pub put_one : (k : Kind) (kinds : List Kind) (stack after : List ℕ) (x : ℕ) → length kinds ≡ length stack → after ≡ x ∷ stack
    → Holds (k ∷ kinds) after (number_cell k x ∷ cells_of kinds stack)
unfolding cells_of
put_one k kinds stack after x e o = rw o (ap suc e, refl)

not-not : (b : Bool) → not (not b) ≡ b
not-not true = refl
not-not false = refl

-- the other truth for the truth on top
pub put_other : (kinds : List Kind) (stack after : List ℕ) (top : ℕ) (rest : List ℕ)
    → on_top (truth ∷ []) kinds ≡ true → length kinds ≡ length stack → stack ≡ top ∷ rest → after ≡ cond (eqb top 0) 1 0 ∷ rest
    → Holds (truth ∷ drop 1 kinds) after (Truth (not (value_on truth (cells_of kinds stack))) ∷ drop 1 (cells_of kinds stack))
unfolding cells_of on_top number_cell value_on
put_other [] stack after top rest a e s o = absurd (true≢false (sym a))
put_other (version ∷ kinds) stack after top rest a e s o = absurd (true≢false (sym a))
put_other (truth ∷ kinds) stack after top rest a e s o =
    let long : suc (length kinds) ≡ suc (length rest) = rw s at e in
    rw (s, o, made_truth (eqb top 0), not-not (eqb top 0)) (long, refl)

-- a truth for the two values on top
pub put_for_two : (k : Kind) (f : Value k → Value k → Bool) (kinds : List Kind) (stack after : List ℕ) (b : Bool)
    → on_top (k ∷ k ∷ []) kinds ≡ true → length kinds ≡ length stack → b ≡ f (number_value k (get_or stack 0 0)) (number_value k (get_or stack 1 0))
    → after ≡ cond b 1 0 ∷ drop 2 stack
    → Holds (truth ∷ drop 2 kinds) after (Truth (f (value_on k (cells_of kinds stack)) (value_on k (drop 1 (cells_of kinds stack)))) ∷ drop 2 (cells_of kinds stack))
unfolding cells_of on_top number_cell
put_for_two k f [] stack after b a e t o = absurd (true≢false (sym a))
put_for_two k f (x ∷ []) stack after b a e t o = absurd (true≢false (sym (both (same_kind k x) false a).1))
put_for_two k f (x ∷ y ∷ kinds) [] after b a e t o = absurd (omega arith)
put_for_two k f (x ∷ y ∷ kinds) (l ∷ []) after b a e t o = absurd (omega arith)
put_for_two k f (x ∷ y ∷ kinds) (l ∷ r ∷ stack) after b a e t o =
    let first = both (same_kind k x) _ a in
    let second = both (same_kind k y) true first.1 in
    let long : length kinds ≡ length stack = omega arith in
    let p : x ≡ k = same_kind_lem k x first.0 in
    let q : y ≡ k = same_kind_lem k y second.0 in
    rw (o, made_truth b, p, q, value_made k l, value_made k r, ← t) (ap suc long, refl)
