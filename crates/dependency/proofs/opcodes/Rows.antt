-- The rows of the list of opcodes: what holds of each row of a range holds of each opcode there.
use Prim.Native.Nat.{ℕ, zero, suc, ◌+◌, ◌-◌, ◌≤◌, ◌<◌}
use mathlib.Core.Path.{◌≡◌, refl, sym, ap, ◌∙◌}
use mathlib.Core.Bool.{Bool, true, false, not, true≢false}
use mathlib.Core.List.{List, [], ◌∷◌}
use native.Mathlib.Nat.{zero-add}
use native.Mathlib.Omega.{arith}
use borrow.Author.Tests.{ltb-true, ltb-false, eq-eqb, ne_eqb}
use mathlib.Core.Logic.{◌⊎◌, inl, inr}
use lib.Dec.{ltb, lit≤, lit<}
use lib.ListN.{length, get_or, drop}
use lib.Seq.{get_or-drop}
use Rattle.dependency.specs.Opcodes.{bare, OpcodeRow, opcodes, end_code, end_row, listed, row_among, is_opcode, row_of, code_of}
use Rattle.dependency.specs.declared.opcodes.Opcode.{Opcode}
use Rattle.dependency.specs.declared.opcodes.Opcode.TheVariants as O

-- ---- a row by its place

-- rows whose opcodes count up from a number
abbrev Counted : ℕ → List OpcodeRow → Type 0
Counted k [] = Unit {0}
Counted k (r ∷ rows) = (r.code ≡ k) × Counted (suc k) rows

counted : Counted 0 opcodes
unfolding opcodes
counted = (refl, (refl, (refl, (refl, (refl, (refl, (refl, (refl, (refl, (refl, (refl, (refl, (refl, (refl, tt))))))))))))))

among_at : (rows : List OpcodeRow) (k i : ℕ) → Counted k rows → row_among rows (k + i) ≡ get_or rows i end_row
unfolding row_among
among_at [] k i c = refl
among_at (r ∷ rows) k zero c = let e : r.code ≡ k + 0 = c.0 ∙ omega arith in rw (eq-eqb r.code (k + 0) e)
among_at (r ∷ rows) k (suc i) c =
    let other : r.code ≡ k + suc i → ⊥ = λ e. omega (arith, c.0) in
    let next : k + suc i ≡ suc k + i = omega arith in
    rw (ne_eqb r.code (k + suc i) other) (ap (row_among rows) next ∙ among_at rows (suc k) i c.1)

listed_below : (rows : List OpcodeRow) (k i : ℕ) → Counted k rows → i < length rows → listed rows (k + i) ≡ true
unfolding listed
listed_below [] k i c h = absurd (omega arith)
listed_below (r ∷ rows) k zero c h = let e : r.code ≡ k + 0 = c.0 ∙ omega arith in rw (eq-eqb r.code (k + 0) e)
listed_below (r ∷ rows) k (suc i) c h =
    let other : r.code ≡ k + suc i → ⊥ = λ e. omega (arith, c.0) in
    let next : k + suc i ≡ suc k + i = omega arith in
    rw (ne_eqb r.code (k + suc i) other) (ap (listed rows) next ∙ listed_below rows (suc k) i c.1 (omega arith))

not_listed : (rows : List OpcodeRow) (k i : ℕ) → Counted k rows → length rows ≤ i → listed rows (k + i) ≡ false
unfolding listed
not_listed [] k i c h = refl
not_listed (r ∷ rows) k zero c h = absurd (omega arith)
not_listed (r ∷ rows) k (suc i) c h =
    let other : r.code ≡ k + suc i → ⊥ = λ e. omega (arith, c.0) in
    let next : k + suc i ≡ suc k + i = omega arith in
    rw (ne_eqb r.code (k + suc i) other) (ap (listed rows) next ∙ not_listed rows (suc k) i c.1 (omega arith))

pub row-place : (code : ℕ) → row_of code ≡ get_or opcodes code end_row
unfolding row_of
row-place code = ap (row_among opcodes) (sym (zero-add code)) ∙ among_at opcodes 0 code counted

-- an opcode is one up to END
pub known-opcode : (code : ℕ) → code ≤ end_code → not (is_opcode code) ≡ false
unfolding opcodes
known-opcode code h = ap not (ap (listed opcodes) (sym (zero-add code)) ∙ listed_below opcodes 0 code counted (omega arith))

pub unknown_opcode : (code : ℕ) → end_code < code → not (is_opcode code) ≡ true
unfolding opcodes
unknown_opcode code h = ap not (ap (listed opcodes) (sym (zero-add code)) ∙ not_listed opcodes 0 code counted (omega arith))

pub opcode-known : (code : ℕ) → not (is_opcode code) ≡ false → code ≤ end_code
opcode-known code e = go (ltb end_code code) refl
  where
    go : (b : Bool) → ltb end_code code ≡ b → code ≤ end_code
    go true q = absurd (true≢false (sym (unknown_opcode code (ltb-true end_code code q)) ∙ e))
    go false q = ltb-false end_code code q

-- ---- what holds of rows

-- of every row of a list
abbrev pub Each : (OpcodeRow → Type 0) → List OpcodeRow → Type 0
Each P [] = Unit {0}
Each P (r ∷ rows) = P r × Each P rows

each_at : (P : OpcodeRow → Type 0) (rows : List OpcodeRow) (d : OpcodeRow) → Each P rows → P d → (k : ℕ) → P (get_or rows k d)
each_at P [] d e p k = p
each_at P (r ∷ rows) d e p zero = e.0
each_at P (r ∷ rows) d e p (suc k) = each_at P rows d e.1 p k

-- from an opcode on
pub from_row : (P : OpcodeRow → Type 0) (lo code : ℕ) → Each P (drop lo opcodes) → P end_row → lo ≤ code → P (row_of code)
from_row P lo code e p h =
    let q : lo + (code - lo) ≡ code = omega arith in
    rw (row-place code) (rw (← q, ← get_or-drop lo opcodes (code - lo) end_row) (each_at P (drop lo opcodes) end_row e p (code - lo)))

-- the opcodes after the text have no operand
pub bare_row : (code : ℕ) → 3 ≤ code → (row_of code).operand ≡ bare
unfolding opcodes
bare_row code h =
    from_row (λ (o : OpcodeRow). o.operand ≡ bare) 3 code (refl, (refl, (refl, (refl, (refl, (refl, (refl, (refl, (refl, (refl, (refl, tt))))))))))) refl h

-- ---- the code's opcodes: in the list, the end last

pub last_code : (o : Opcode) → (o ≡ O.End) ⊎ (code_of o < end_code)
last_code O.PushGuid = inr (lit< tt)
last_code O.PushVersion = inr (lit< tt)
last_code O.VersionStr = inr (lit< tt)
last_code O.And = inr (lit< tt)
last_code O.Or = inr (lit< tt)
last_code O.Not = inr (lit< tt)
last_code O.True = inr (lit< tt)
last_code O.False = inr (lit< tt)
last_code O.Eq = inr (lit< tt)
last_code O.Gt = inr (lit< tt)
last_code O.Gte = inr (lit< tt)
last_code O.Lt = inr (lit< tt)
last_code O.Lte = inr (lit< tt)
last_code O.End = inl refl

pub code_known : (o : Opcode) → code_of o ≤ end_code
code_known o = elim (last_code o) as (λ x. code_of o ≤ end_code) [ inl e ↦ rw e (lit≤ tt) | inr h ↦ omega arith ]

pub code_early : (o : Opcode) → (o ≡ O.End → ⊥) → code_of o < end_code
code_early o n = elim (last_code o) as (λ x. code_of o < end_code) [ inl e ↦ absurd (n e) | inr h ↦ h ]

-- after the first two
pub code_late : (o : Opcode) → (o ≡ O.PushGuid → ⊥) → (o ≡ O.PushVersion → ⊥) → 2 ≤ code_of o
code_late O.PushGuid a b = absurd (a refl)
code_late O.PushVersion a b = absurd (b refl)
code_late O.VersionStr a b = lit≤ tt
code_late O.And a b = lit≤ tt
code_late O.Or a b = lit≤ tt
code_late O.Not a b = lit≤ tt
code_late O.True a b = lit≤ tt
code_late O.False a b = lit≤ tt
code_late O.Eq a b = lit≤ tt
code_late O.Gt a b = lit≤ tt
code_late O.Gte a b = lit≤ tt
code_late O.Lt a b = lit≤ tt
code_late O.Lte a b = lit≤ tt
code_late O.End a b = lit≤ tt
