-- The GUIDs of an expression: where one is in no used row, and that the evaluation depends on no other GUID.
use Prim.Native.Nat.{ℕ, zero, suc, ◌≤◌}
use mathlib.Core.Path.{◌≡◌, refl, sym, ap, ap₂, ◌∙◌}
use mathlib.Core.Bool.{Bool, true, false, cond, ◌||◌, true≢false}
use mathlib.Core.List.{List, []}
use mathlib.Core.Option.{Option, none, some, none-ne-some}
use native.Mathlib.Omega.{arith}
use lib.Dec.{eqb}
use lib.ListN.{length, drop}
use Rattle.common.specs.Refusals.{first_refusal, unless_refused}
use Rattle.common.proofs.Refusals.{neither}
use Rattle.dependency.specs.Opcodes.{Operand, bare, guid, version32, text, Installed, OpcodeRow, opcodes, end_code, row_of, code_at, after, operand_of, read_refusals}
use Rattle.dependency.specs.Expression.{Reading, fault, ended, next, reading_from, reading}
use Rattle.dependency.specs.Installed.{installed_in, InRow}
use Rattle.dependency.specs.Evaluation.{Cell, applied, result_cells, step, run, is_missing, lacks, outcome, AllGuids}
use Rattle.dependency.proofs.opcodes.Rows.{from_row}
use Rattle.dependency.proofs.installed.Table.{first_of, used_row}

-- ---- a GUID in no used row

-- a GUID that has a version
abbrev Known : Installed → List ℕ → Type 0
Known installed g = (v : ℕ) × (installed g ≡ some v)

not_missing : (o : Operand) (found : Option ℕ) → is_missing o found ≡ false → o ≡ guid → (v : ℕ) × (found ≡ some v)
not_missing bare found e q = let z : is_missing guid none ≡ is_missing bare none = ap (λ (x : Operand). is_missing x none) (sym q) in absurd (true≢false z)
not_missing guid none e q = absurd (true≢false e)
not_missing guid (some v) e q = (v, refl)
not_missing version32 found e q = let z : is_missing guid none ≡ is_missing version32 none = ap (λ (x : Operand). is_missing x none) (sym q) in absurd (true≢false z)
not_missing text found e q = let z : is_missing guid none ≡ is_missing text none = ap (λ (x : Operand). is_missing x none) (sym q) in absurd (true≢false z)

known_there : (o : Operand) (found : Option ℕ) → (o ≡ guid → (v : ℕ) × (found ≡ some v)) → is_missing o found ≡ false
known_there bare found h = refl
known_there guid none h = absurd (none-ne-some (h refl).0 (h refl).1)
known_there guid (some v) h = refl
known_there version32 found h = refl
known_there text found h = refl

pub lacks_none : (installed : Installed) (r : Reading) → lacks installed r ≡ false → AllGuids (Known installed) r
unfolding lacks AllGuids
lacks_none installed (fault n) e = tt
lacks_none installed ended e = tt
lacks_none installed (next o operand rest) e =
    let p = neither (is_missing o.operand (installed operand)) (lacks installed rest) e in
    (not_missing o.operand (installed operand) p.0, lacks_none installed rest p.1)

pub none_lacks : (installed : Installed) (r : Reading) → AllGuids (Known installed) r → lacks installed r ≡ false
unfolding lacks AllGuids
none_lacks installed (fault n) h = refl
none_lacks installed ended h = refl
none_lacks installed (next o operand rest) h = rw (known_there o.operand (installed operand) h.0) (none_lacks installed rest h.1)

-- what holds of every GUID for one reason holds of it for another
all_guids : (P Q : List ℕ → Type 0) (r : Reading) → ((g : List ℕ) → P g → Q g) → AllGuids P r → AllGuids Q r
unfolding AllGuids
all_guids P Q (fault n) f h = tt
all_guids P Q ended f h = tt
all_guids P Q (next o operand rest) f h = (λ e. f operand (h.0 e), all_guids P Q rest f h.1)

module _ (rows : List (List ℕ)) (versions : List ℕ) (used : ℕ) (r : Reading) (l : used ≤ length rows) (m : used ≤ length versions) where
  pub lacks_rows : lacks (installed_in rows versions used) r ≡ false → AllGuids (InRow rows used) r
  lacks_rows e = all_guids (Known (installed_in rows versions used)) (InRow rows used) r (λ g k. first_of rows versions used g l k.0 k.1) (lacks_none (installed_in rows versions used) r e)

  pub rows_lack : AllGuids (InRow rows used) r → lacks (installed_in rows versions used) r ≡ false
  rows_lack h = none_lacks (installed_in rows versions used) r (all_guids (InRow rows used) (Known (installed_in rows versions used)) r (λ g k. used_row rows versions used g l m k.0 k.1 k.2) h)

-- ---- the evaluation asks for the GUIDs of the expression alone

module _ (i j : Installed) where
  -- a row of the list asks for its operand, where that is a GUID, and for nothing else
  abbrev Asks : OpcodeRow → Type 0
  Asks o = (operand : List ℕ) (st : List Cell) → (o.operand ≡ guid → i operand ≡ j operand) → step i o operand st ≡ step j o operand st

  asks : (code : ℕ) → Asks (row_of code)
  unfolding opcodes step applied result_cells
  asks code =
      from_row Asks 0 code (
        λ operand st e. rw (e refl),
        (
          λ operand st e. refl,
          (
            λ operand st e. refl,
            (
              λ operand st e. refl,
              (
                λ operand st e. refl,
                (
                  λ operand st e. refl,
                  (
                    λ operand st e. refl,
                    (
                      λ operand st e. refl,
                      (λ operand st e. refl, (λ operand st e. refl, (λ operand st e. refl, (λ operand st e. refl, (λ operand st e. refl, (λ operand st e. refl, tt)))))),
                    ),
                  ),
                ),
              ),
            ),
          ),
        ),
      )
      (λ operand st e. refl) (omega arith)

  missing_same : (o : Operand) (operand : List ℕ) → (o ≡ guid → i operand ≡ j operand) → is_missing o (i operand) ≡ is_missing o (j operand)
  missing_same bare operand e = refl
  missing_same guid operand e = ap (is_missing guid) (e refl)
  missing_same version32 operand e = refl
  missing_same text operand e = refl

  abbrev Same : Reading → Type 0
  Same r = (lacks i r ≡ lacks j r) × ((st : List Cell) → run i r st ≡ run j r st)

  same-run : (fuel : ℕ) (s : List ℕ) → AllGuids (λ g. i g ≡ j g) (reading_from fuel s) → Same (reading_from fuel s)
  unfolding reading_from AllGuids lacks run
  same-run zero s h = (refl, λ st. refl)
  same-run (suc fuel) s h = go (first_refusal (read_refusals s)) (eqb (code_at s) end_code) h (same-run fuel (drop (after s) s))
    where
      later : Reading
      later = reading_from fuel (drop (after s) s)

      go : (o : Option ℕ) (b : Bool) → AllGuids (λ g. i g ≡ j g) (unless_refused fault o (cond b ended (next (row_of (code_at s)) (operand_of s) later)))
          → (AllGuids (λ g. i g ≡ j g) later → Same later) → Same (unless_refused fault o (cond b ended (next (row_of (code_at s)) (operand_of s) later)))
      go (some n) b h ih = (refl, λ st. refl)
      go none true h ih = (refl, λ st. refl)
      go none false h ih =
          let p = ih h.1 in (
            ap₂ (λ (x y : Bool). x || y) (missing_same (row_of (code_at s)).operand (operand_of s) h.0) p.0,
            λ st. ap (run i later) (asks (code_at s) (operand_of s) st h.0) ∙ p.1 (step j (row_of (code_at s)) (operand_of s) st),
          )

  pub same_outcome : (s : List ℕ) → AllGuids (λ g. i g ≡ j g) (reading s) → outcome i (reading s) [] ≡ outcome j (reading s) []
  unfolding reading outcome
  same_outcome s h = let p = same-run (suc (length s)) s h in rw (p.0, p.1 [])
