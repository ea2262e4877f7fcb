-- A single opcode: the answers of reader and writer at each row of their tables, and what an answer of the reader says.
use Prim.Native.Nat.{ℕ, suc, ◌+◌, ◌-◌, ◌≤◌, ◌<◌}
use mathlib.Core.Path.{◌≡◌, refl, sym, ap, ap₂, ◌∙◌}
use mathlib.Core.List.{List, [], ◌∷◌, ◌++◌}
use mathlib.Core.Option.{Option, none, some}
use borrow.Author.Tests.{eq-eqb, ne_eqb, lt-ltb, le-ltb, ltb-false, eqb-false}
use native.Mathlib.Omega.{arith}
use mathlib.Core.Bool.{not, false}
use borrow.Rule.Slice.PartMut.{put_mid}
use lib.ListN.{length, take, drop, set, length-drop}
use lib.Seq.{length-take-le}
use Rattle.common.specs.Answers.{refused, success}
use Rattle.common.specs.Refusals.{first_refusal, unless_refused}
use Rattle.common.proofs.Refusals.{row_applies, row-passed, row_passes, no_row}
use Rattle.dependency.specs.declared.opcodes.Opcode.{Opcode}
use Rattle.dependency.specs.Opcodes.{end_code, row_of, is_opcode, code_of, width, operand_refusals, code_at, after, read_refusals, read_opcode, wrote, opcode_bytes, write_refusals, write_opcode}
use Rattle.dependency.proofs.opcodes.Rows.{code_known, known-opcode, unknown_opcode, opcode-known}

-- ---- the reader

pub read_refused : (s : List ℕ) (n : ℕ) → first_refusal (read_refusals s) ≡ some n → read_opcode s ≡ refused n
unfolding read_opcode
read_refused s n e = rw e

pub read_passed : (s : List ℕ) → first_refusal (read_refusals s) ≡ none → read_opcode s ≡ success (code_at s ∷ after s ∷ [])
unfolding read_opcode
read_passed s e = rw e

pub read_none : (s : List ℕ) → length s ≡ 0 → refused 305 ≡ read_opcode s
unfolding read_refusals
read_none s e = sym (read_refused s 305 (row_applies _ _ _ (eq-eqb _ _ e)))

-- bytes that begin with a number, and the code's opcode of that number
module _ (s : List ℕ) (code : ℕ) (rest : List ℕ) (e : s ≡ code ∷ rest) where
  some_bytes : suc (length rest) ≡ 0 → ⊥
  some_bytes z = omega arith

  pub read_unknown : end_code < code → refused 301 ≡ read_opcode s
  unfolding read_refusals operand_refusals
  read_unknown h = rw e (sym (read_refused (code ∷ rest) 301 (row_passes _ _ _ _ (ne_eqb _ _ some_bytes) (row_applies _ _ _ (unknown_opcode _ h)))))

  module _ (o : Opcode) (is : code_of o ≡ code) (w : ℕ) (wide : w ≡ width (row_of (code_of o)).operand rest) where
    known : not (is_opcode code) ≡ false
    known = known-opcode code (rw (← is) (code_known o))

    long : w ≡ width (row_of code).operand rest
    long = wide ∙ ap (λ (k : ℕ). width (row_of k).operand rest) is

    pub read_cut : length rest < w → refused 302 ≡ read_opcode s
    unfolding read_refusals operand_refusals
    read_cut l =
        let cut : length rest < width (row_of code).operand rest = rw (← long) l in
        rw e (sym (read_refused (code ∷ rest) 302 (row_passes _ _ _ _ (ne_eqb _ _ some_bytes) (row_passes _ _ _ _ known (row_applies _ _ _ (lt-ltb _ _ cut))))))

    pub read_done : w ≤ length rest → success (code_of o ∷ (1 + w) ∷ []) ≡ read_opcode s
    unfolding read_opcode read_refusals operand_refusals after
    read_done l =
        let fits : width (row_of code).operand rest ≤ length rest = rw (← long) l in
        let passed : first_refusal (read_refusals (code ∷ rest)) ≡ none = row_passes _ _ _ _ (ne_eqb _ _ some_bytes) (row_passes _ _ _ _ known (row_passes _ _ _ _ (le-ltb _ _ fits) no_row)) in
        rw (e, passed, long, is)

-- what an opcode that was read says of the bytes
module _ (s : List ℕ) where
  pub record Opened (c a : ℕ) : Type 0 where
    pub passed : first_refusal (read_refusals s) ≡ none
    pub code : code_at s ≡ c
    pub place : after s ≡ a

  pub opened : (c a : ℕ) → read_opcode s ≡ success (c ∷ a ∷ []) → Opened c a
  unfolding read_opcode
  opened c a e = go (first_refusal (read_refusals s)) refl e
    where
      go : (o : Option ℕ) → first_refusal (read_refusals s) ≡ o → unless_refused refused o (success (code_at s ∷ after s ∷ [])) ≡ success (c ∷ a ∷ []) → Opened c a
      go none p q = record { passed = p; code = cc; place = cc }
      go (some m) p q = let z : ◌≡◌ {A = ℕ} 0 1 = cc in absurd (omega arith)

  module _ (c a : ℕ) (e : read_opcode s ≡ success (c ∷ a ∷ [])) where
    pub reads_known : c ≤ end_code
    unfolding read_refusals operand_refusals
    reads_known =
        let o = opened c a e in
        let h : code_at s ≤ end_code = opcode-known _ (row-passed _ _ (row-passed _ _ o.passed).1).0 in
        rw (← o.code) h

    -- the place after an opcode is past its first byte and not past the bytes
    pub reads_within : (1 ≤ a) × (a ≤ length s)
    unfolding read_refusals operand_refusals after
    reads_within =
        let o = opened c a e in
        let first = row-passed _ _ o.passed in
        let fits : width (row_of (code_at s)).operand (drop 1 s) ≤ length (drop 1 s) = ltb-false _ _ (row-passed _ _ (row-passed _ _ first.1).1).0 in
        let bytes : length s ≡ 0 → ⊥ = eqb-false _ _ first.0 in
        let place : 1 + width (row_of (code_at s)).operand (drop 1 s) ≡ a = o.place in
        (omega arith, omega (arith, length-drop 1 s))

-- ---- the writer

-- the bytes stored for an opcode are one more than its operand's
pub opcode-length : (code : ℕ) (operand : List ℕ) → width (row_of code).operand operand ≤ length operand → length (opcode_bytes code operand) ≡ 1 + width (row_of code).operand operand
unfolding opcode_bytes
opcode-length code operand h = let l = length-take-le (width (row_of code).operand operand) operand h in omega arith

module _ (code : ℕ) (operand room : List ℕ) where
  writes_refused : (n : ℕ) → first_refusal (write_refusals code operand room) ≡ some n → wrote (refused n) room ≡ write_opcode code operand room
  unfolding write_opcode
  writes_refused n e = rw e

  pub writes : first_refusal (write_refusals code operand room) ≡ none
      → write_opcode code operand room ≡ wrote (success (length (opcode_bytes code operand) ∷ [])) (opcode_bytes code operand ++ drop (length (opcode_bytes code operand)) room)
  unfolding write_opcode
  writes e = rw e

  pub write_unknown : end_code < code → wrote (refused 301) room ≡ write_opcode code operand room
  unfolding write_refusals operand_refusals
  write_unknown h = writes_refused 301 (row_applies _ _ _ (unknown_opcode _ h))

  module _ (o : Opcode) (is : code_of o ≡ code) (w : ℕ) (wide : w ≡ width (row_of (code_of o)).operand operand) where
    code_fits : not (is_opcode code) ≡ false
    code_fits = known-opcode code (rw (← is) (code_known o))

    wide_as : w ≡ width (row_of code).operand operand
    wide_as = wide ∙ ap (λ (k : ℕ). width (row_of k).operand operand) is

    pub write_cut : length operand < w → wrote (refused 302) room ≡ write_opcode code operand room
    unfolding write_refusals operand_refusals
    write_cut l = writes_refused 302 (row_passes _ _ _ _ code_fits (row_applies _ _ _ (lt-ltb _ _ (rw wide_as at l))))

    module _ (l : w ≤ length operand) where
      pub write_short : length room < 1 + w → wrote (refused 5) room ≡ write_opcode code operand room
      unfolding write_refusals operand_refusals
      write_short r =
          writes_refused 5 (row_passes _ _ _ _ code_fits (row_passes _ _ _ _ (le-ltb _ _ (rw wide_as at l)) (row_applies _ _ _ (lt-ltb _ _ (rw wide_as at r)))))

      -- the store of the opcode and the copy of the operand are one front
      front : 1 + w ≤ length room → put_mid 1 (1 + w - 1) (set room 0 code) (take w operand) ≡ code ∷ take w operand ++ drop (1 + w) room
      front = go room
        where
          go : (room : List ℕ) → 1 + w ≤ length room → put_mid 1 (1 + w - 1) (set room 0 code) (take w operand) ≡ code ∷ take w operand ++ drop (1 + w) room
          go [] r = absurd (omega arith)
          go (x ∷ room) r = let q : 1 + w - 1 ≡ w = omega arith in let k : 1 + w ≡ suc w = omega arith in rw (q, k)

      pub write_done : (out : List ℕ) → 1 + w ≤ length room → out ≡ take w operand
          → wrote (success ((1 + w) ∷ [])) (put_mid 1 (1 + w - 1) (set room 0 code) out) ≡ write_opcode code operand room
      unfolding write_opcode write_refusals operand_refusals opcode_bytes
      write_done out r e =
          let passed : first_refusal (write_refusals code operand room) ≡ none = row_passes _ _ _ _ code_fits (row_passes _ _ _ _ (le-ltb _ _ (rw wide_as at l)) (row_passes _ _ _ _ (le-ltb _ _ (rw wide_as at r)) no_row)) in
          let long : length (opcode_bytes code operand) ≡ 1 + w = opcode-length code operand (rw wide_as at l) ∙ ap (λ (n : ℕ). 1 + n) (sym wide_as) in
          let stored : put_mid 1 (1 + w - 1) (set room 0 code) out ≡ opcode_bytes code operand ++ drop (length (opcode_bytes code operand)) room =
          ap (put_mid 1 (1 + w - 1) (set room 0 code)) e ∙ front r ∙ ap₂ (λ (k n : ℕ). code ∷ take k operand ++ drop n room) wide_as (sym long) in
          rw (passed, stored, long)
