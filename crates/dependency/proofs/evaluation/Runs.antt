-- One turn of the evaluation: the bytes that are left pass the test at the kinds of the stack, and say what the whole says.
use Prim.Native.Nat.{ℕ, ◌-◌, ◌≤◌, ◌<◌}
use mathlib.Core.Path.{◌≡◌, refl, sym, ap, ap₂, ◌∙◌}
use mathlib.Core.Bool.{Bool, true, false, not}
use mathlib.Core.List.{List, [], ◌∷◌}
use mathlib.Core.Option.{Option, none, some, some-ne-none}
use native.Mathlib.Omega.{arith}
use lib.Dec.{eqb}
use lib.ListN.{length, take, drop, length-drop, length-append}
use borrow.Author.Tests.{lt-ltb, le-ltb}
use Rattle.std.specs.Prelude as std
use Rattle.std.specs.Prelude.{Some, None, Ok, Err}
use Rattle.numbers.specs.LittleEndian.{le}
use Rattle.common.specs.Answers.{Answer, refused, success}
use Rattle.common.specs.Refusal.{number}
use Rattle.common.specs.declared.refusal.Refusal.{Refusal}
use Rattle.common.specs.Refusals.{first_refusal}
use Rattle.dependency.specs.Opcodes.{Kind, truth, Installed, OpcodeRow, known, end_code, opcodes, row_among, row_of, code_of, operand_of, read_opcode}
use Rattle.dependency.specs.Expression.{Reading, ended, next, reading}
use Rattle.dependency.specs.Installed.{installed_in}
use Rattle.dependency.specs.Validation.{stack_limit, result_kinds, kinds_after, stack_refusals, is_one_truth, fault_from, validity, validate_of}
use Rattle.dependency.specs.Evaluation.{Cell, value_on, step, run, is_missing, lacks, truth_number, outcome, evaluate_of, evaluated_answer}
use Rattle.dependency.specs.Stack.{found_version, number_cell, cells_of, Given, Fits, Stepped}
use Rattle.dependency.specs.declared.opcodes.Opcode.{Opcode}
use Rattle.dependency.specs.declared.opcodes.Opcode.TheVariants as O
use Rattle.dependency.proofs.Expression.{reads_fault, reads_ended, reads_next}
use Rattle.dependency.proofs.opcodes.Rows.{from_row, code_late}
use Rattle.dependency.proofs.opcodes.Single.{reads_known}
use Rattle.dependency.proofs.opcodes.Widths.{operand_between}
use Rattle.dependency.proofs.validation.Passing.{Passes, passes, none_then, passed_or, one_truth}
use Rattle.dependency.proofs.validation.Turns.{tail_is}

-- ---- the version that an opcode gives

pub given_guid : (o : Opcode) (r : std.Option ℕ) (installed : Installed) (operand : List ℕ) → o ≡ O.PushGuid → found_version r ≡ installed operand
    → Given r (code_of o) installed operand
unfolding Given opcodes row_among row_of
given_guid o (Some v) installed operand e q =
    rw e (record { found = λ z. ap known q; number = λ z. absurd (omega arith); there = ap (is_missing (row_of 0).operand) (sym q) })
given_guid o None installed operand e q = rw e (ap (is_missing (row_of 0).operand) (sym q))

pub given_number : (o : Opcode) (x : ℕ) (installed : Installed) (operand : List ℕ) → o ≡ O.PushVersion → x ≡ le 4 operand 0 → Given (Some x) (code_of o) installed operand
unfolding Given opcodes row_among row_of
given_number o x installed operand e q = rw e (record { found = λ z. absurd (omega arith); number = λ z. q; there = refl })

pub given_none : (o : Opcode) (installed : Installed) (operand : List ℕ) → (o ≡ O.PushGuid → ⊥) → (o ≡ O.PushVersion → ⊥) → Given (Some 0) (code_of o) installed operand
unfolding Given opcodes
given_none o installed operand a b =
    let late = code_late o a b in
    record {
      found = λ z. absurd (omega arith);
      number = λ z. absurd (omega arith);
      there =
          from_row (λ (row : OpcodeRow). is_missing row.operand (installed operand) ≡ false) 2 (code_of o)
          (refl, (refl, (refl, (refl, (refl, (refl, (refl, (refl, (refl, (refl, (refl, (refl, tt)))))))))))) refl late;
    }

-- ---- what the loop keeps

pub record Running (installed : Installed) (s rest stack : List ℕ) : Type 0 where
  pub kinds : List Kind
  pub deep : length kinds ≡ length stack
  pub passed : fault_from (reading rest) kinds ≡ none
  pub same : outcome installed (reading rest) (cells_of kinds stack) ≡ outcome installed (reading s) []

pub run_start : (installed : Installed) (s : List ℕ) → fault_from (reading s) [] ≡ none → Running installed s s []
unfolding cells_of
run_start installed s e = record { kinds = []; deep = refl; passed = e; same = refl }

-- the outcome at an opcode before the end
at_next : (installed : Installed) (o : OpcodeRow) (operand : List ℕ) (rest : Reading) (st : List Cell) → is_missing o.operand (installed operand) ≡ false
    → outcome installed (next o operand rest) st ≡ outcome installed rest (step installed o operand st)
unfolding outcome lacks run
at_next installed o operand rest st e = rw e

at_missing : (installed : Installed) (o : OpcodeRow) (operand : List ℕ) (rest : Reading) (st : List Cell) → is_missing o.operand (installed operand) ≡ true
    → outcome installed (next o operand rest) st ≡ refused 14
unfolding outcome lacks first_refusal
at_missing installed o operand rest st e = rw e

module _ (installed : Installed) (s rest stack : List ℕ) (g : Running installed s rest stack) where
  pub run-refused : (n : ℕ) → refused n ≡ read_opcode rest → ⊥
  unfolding fault_from
  run-refused n is = some-ne-none n (rw (reads_fault rest n (sym is)) at g.passed)

  module _ (c a : ℕ) (is : success (c ∷ a ∷ []) ≡ read_opcode rest) where
    one_left : c ≡ end_code → g.kinds ≡ truth ∷ []
    unfolding fault_from
    one_left h =
        let p : fault_from ended g.kinds ≡ none = rw (reads_ended rest c a (sym is) h) at g.passed in
        one_truth g.kinds (passed_or (is_one_truth g.kinds) 305 p)

    pub run_one : c ≡ end_code → 1 ≤ length stack
    run_one h = let d = g.deep in let k = ap length (one_left h) in omega arith

    pub run_ended : (top : ℕ) (more : List ℕ) → c ≡ end_code → stack ≡ top ∷ more → success (truth_number (not (eqb top 0)) ∷ []) ≡ outcome installed (reading s) []
    unfolding outcome lacks run first_refusal fault_from cells_of number_cell value_on
    run_ended top more h e =
        let here : outcome installed ended (cells_of (truth ∷ []) (top ∷ more)) ≡ outcome installed (reading s) [] =
        ap₂ (λ (x : Reading) (ks : List Kind). outcome installed x (cells_of ks (top ∷ more))) (sym (reads_ended rest c a (sym is) h)) (sym (one_left h))
        ∙ ap (λ (l : List ℕ). outcome installed (reading rest) (cells_of g.kinds l)) (sym e)
        ∙ g.same in
        here

    module _ (h : c ≡ end_code → ⊥) where
      reads : reading rest ≡ next (row_of c) (operand_of rest) (reading (drop a rest))
      reads = reads_next rest c a (sym is) h

      both_pass : (first_refusal (stack_refusals (row_of c).takes (row_of c).leaves g.kinds) ≡ none)
          × (fault_from (reading (drop a rest)) (kinds_after (row_of c).takes (row_of c).leaves g.kinds) ≡ none)
      unfolding fault_from
      both_pass = none_then _ _ (ap (λ (x : Reading). fault_from x g.kinds) (sym reads) ∙ g.passed)

      pass : Passes (row_of c).takes (row_of c).leaves g.kinds
      pass = passes _ _ _ both_pass.0

      pub run_fits : length stack ≤ stack_limit → Fits c (length stack)
      unfolding kinds_after
      run_fits before =
          let known = reads_known rest c a (sym is) in
          let p = pass in
          let enough = p.enough in
          let within = p.within in
          let l = length-append (result_kinds (row_of c).leaves) (drop (length (row_of c).takes) g.kinds) in
          let d = length-drop (length (row_of c).takes) g.kinds in
          let k = g.deep in
          record { early = omega arith; enough = omega arith; before = before; within = omega arith }

      -- the operand, as the code cuts it out
      operand_is : take (a - 1) (drop 1 rest) ≡ operand_of rest
      operand_is = sym (operand_between rest c a (sym is))

      pub run_missing : Given None c installed (take (a - 1) (drop 1 rest)) → refused 14 ≡ outcome installed (reading s) []
      unfolding Given
      run_missing m =
          sym (at_missing installed (row_of c) (operand_of rest) _ _ (rw (← operand_is) m))
          ∙ ap (λ (x : Reading). outcome installed x (cells_of g.kinds stack)) (sym reads)
          ∙ g.same

      pub run_next : (v : ℕ) (after : List ℕ) → Given (Some v) c installed (take (a - 1) (drop 1 rest)) → Stepped c v stack after
          → Running installed s (take (length rest - a) (drop a rest)) after
      unfolding Given Stepped
      run_next v after given stepped =
          let p = pass in
          let held = stepped g.kinds g.deep p.asked installed (take (a - 1) (drop 1 rest)) given in
          record {
            kinds = kinds_after (row_of c).takes (row_of c).leaves g.kinds;
            deep = held.0;
            passed = rw (tail_is rest a) both_pass.1;
            same =
                rw (tail_is rest a, held.1, operand_is)
                (sym (at_next installed (row_of c) (operand_of rest) (reading (drop a rest)) (cells_of g.kinds stack) (rw (← operand_is) given.there))
                ∙ ap (λ (x : Reading). outcome installed x (cells_of g.kinds stack)) (sym reads)
                ∙ g.same);
          }

-- ---- the whole evaluation, by the test's answer

-- an expression that the test answers success has no fault, and one that it refuses has that fault
pub valid_none : (s : List ℕ) → validate_of s ≡ success [] → fault_from (reading s) [] ≡ none
unfolding validate_of
valid_none s = go (fault_from (reading s) [])
  where
    go : (o : Option ℕ) → validity o ≡ success [] → o ≡ none
    go none q = refl
    go (some n) q = let z : ◌≡◌ {A = ℕ} 0 1 = cc in absurd (omega arith)

pub refused_some : (s : List ℕ) (n : ℕ) → validate_of s ≡ refused n → fault_from (reading s) [] ≡ some n
unfolding validate_of
refused_some s n = go (fault_from (reading s) [])
  where
    go : (o : Option ℕ) → validity o ≡ refused n → o ≡ some n
    go none q = let z : ◌≡◌ {A = ℕ} 0 1 = cc in absurd (omega arith)
    go (some m) q = cc

module _ (rows : List (List ℕ)) (versions : List ℕ) (used : ℕ) (s : List ℕ) where
  pub evaluate_used : 16 < used → refused 2 ≡ evaluate_of rows versions used s
  unfolding evaluate_of first_refusal
  evaluate_used h = rw (lt-ltb 16 used h)

  module _ (h : used ≤ 16) where
    pub evaluate_refused : (n : ℕ) → refused n ≡ validate_of s → refused n ≡ evaluate_of rows versions used s
    unfolding evaluate_of first_refusal
    evaluate_refused n e = rw (le-ltb 16 used h, refused_some s n (sym e))

    pub evaluate_run : (a : Answer) → success [] ≡ validate_of s → a ≡ outcome (installed_in rows versions used) (reading s) [] → a ≡ evaluate_of rows versions used s
    unfolding evaluate_of first_refusal
    evaluate_run a e q = q ∙ rw (le-ltb 16 used h, valid_none s (sym e))

    pub evaluate_err : (r : std.Result Bool Refusal) (e : Refusal) → r ≡ Err e → refused (number e) ≡ validate_of s → evaluated_answer r ≡ evaluate_of rows versions used s
    evaluate_err r e is h = ap evaluated_answer is ∙ evaluate_refused (number e) h
