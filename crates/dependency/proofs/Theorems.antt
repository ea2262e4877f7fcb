-- What a reader of document 02's request k may want to know of dependency expressions, beyond the contracts of src/: each theorem with 02's words, over the
-- definitions of specs/.
use Prim.Native.Nat.{ℕ, ◌+◌, ◌-◌, ◌^◌, ◌≤◌, ◌<◌}
use mathlib.Core.Path.{◌≡◌, refl, sym, ap, ◌∙◌}
use mathlib.Core.Bool.{Bool, true, false, cond, not}
use mathlib.Core.List.{List, [], ◌∷◌, ◌++◌, map}
use mathlib.Core.Logic.{◌⊎◌, inl, inr, ◌↔◌}
use mathlib.Core.Option.{Option, none, some}
use native.Mathlib.Omega.{arith}
use borrow.Author.Tests.{lt-ltb, le-ltb, ltb-true, ltb-false, not-false}
use lib.Dec.{ltb}
use lib.ListN.{length, get_or, take, drop}
use Rattle.common.specs.Answers.{Answer, refused, success}
use Rattle.common.specs.Refusals.{row, first_refusal, unless_refused}
use Rattle.numbers.specs.LittleEndian.{le, le_bytes}
use Rattle.dependency.specs.Opcodes.{Kind, truth, Installed, OpcodeRow, opcodes, is_opcode, end_code, row_of, text_width, width, operand_of, read_opcode, wrote, write_opcode, OfReader, OfWriter}
use Rattle.dependency.specs.Expression.{Reading, fault, ended, next, reading, Ends}
use Rattle.dependency.specs.Installed.{same, installed_in, InRow}
use Rattle.dependency.specs.Validation.{kinds_after, is_one_truth, fault_from, validity, validate_of, OfTest}
use Rattle.dependency.specs.Evaluation.{kinds, value_on, run, lacks, truth_number, outcome, evaluate_of, AllGuids, Soundly}
use Rattle.dependency.proofs.Expression as expression
use Rattle.dependency.proofs.opcodes.Rows as rows
use Rattle.dependency.proofs.opcodes.Single as single
use Rattle.dependency.proofs.opcodes.Texts as texts
use Rattle.dependency.proofs.opcodes.Widths as widths
use Rattle.dependency.proofs.installed.Table as table
use Rattle.dependency.proofs.validation.Digits as digits
use Rattle.dependency.proofs.validation.Passing as passing
use Rattle.dependency.proofs.evaluation.Guids as guids
use Rattle.dependency.proofs.evaluation.Soundness as soundness
use Rattle.dependency.proofs.evaluation.Runs.{valid_none, refused_some}
use Rattle.dependency.proofs.evaluation.Numbers as numbers

-- ---- the list of opcodes

-- "opcodes 0x00 to 0x0D of 004 and no other": the list has these, and an opcode is known exactly up to the end's
pub codes : map (λ (o : OpcodeRow). o.code) opcodes ≡ 0x00 ∷ 0x01 ∷ 0x02 ∷ 0x03 ∷ 0x04 ∷ 0x05 ∷ 0x06 ∷ 0x07 ∷ 0x08 ∷ 0x09 ∷ 0x0A ∷ 0x0B ∷ 0x0C ∷ 0x0D ∷ []
unfolding opcodes
codes = refl

pub known-opcodes : (code : ℕ) → (is_opcode code ≡ true) ↔ (code ≤ 0x0D)
known-opcodes code = (λ e. rows.opcode-known code (ap not e), λ h. not-false (is_opcode code) (rows.known-opcode code h))

-- ---- "a reader and a writer of single opcodes"

module _ (s : List ℕ) (code place : ℕ) (e : read_opcode s ≡ success (code ∷ place ∷ [])) where
  -- the place after an opcode lies in the bytes, and its operand is what lies between
  pub read_within : (1 ≤ place) × (place ≤ length s)
  read_within = single.reads_within s code place e

  pub read_operand : operand_of s ≡ take (place - 1) (drop 1 s)
  read_operand = widths.operand_between s code place e

  -- what was read writes back to the same bytes, in any room that holds them; the rest of the room stays
  pub read_back : (room : List ℕ) → place ≤ length room → write_opcode code (operand_of s) room ≡ wrote (success (place ∷ [])) (take place s ++ drop place room)
  read_back = widths.read_back s code place e

-- what was written reads back to the same opcode and operand, whatever the room held
pub written_back : (code : ℕ) (operand room : List ℕ) (n : ℕ) → (write_opcode code operand room).answer ≡ success (n ∷ [])
    → (read_opcode (write_opcode code operand room).room ≡ success (code ∷ n ∷ [])) × (operand_of (write_opcode code operand room).room ≡ take (n - 1) operand)
written_back = widths.written_back

-- "it drops what follows an operand": bytes after a whole operand change nothing
pub write_drops : (code : ℕ) (operand more room : List ℕ) → width (row_of code).operand operand ≤ length operand
    → write_opcode code (operand ++ more) room ≡ write_opcode code operand room
write_drops = widths.write_more

-- what the operand is: a GUID has 16 bytes, a version is the number in the four bytes after the opcode, and from AND on there is none
pub read_guid : (s : List ℕ) (place : ℕ) → read_opcode s ≡ success (0x00 ∷ place ∷ []) → place ≡ 17
read_guid s place e = widths.read_place s 0x00 place e ∙ widths.place_guid s

pub read_version : (s : List ℕ) (place : ℕ) → read_opcode s ≡ success (0x01 ∷ place ∷ []) → (place ≡ 5) × (le 4 (operand_of s) 0 ≡ le 4 s 1)
read_version = widths.read_version

pub read_bare : (s : List ℕ) (code place : ℕ) → read_opcode s ≡ success (code ∷ place ∷ []) → 3 ≤ code → place ≡ 1
read_bare = widths.read_bare

-- a version that was written reads back
pub version_back : (v : ℕ) (room : List ℕ) → v < 2 ^ 32 → 5 ≤ length room
    → ((write_opcode 0x01 (le_bytes 4 v) room).answer ≡ success (5 ∷ [])) × (le 4 (operand_of (write_opcode 0x01 (le_bytes 4 v) room).room) 0 ≡ v)
version_back = widths.version_back

-- a text's zero: the last byte of the operand, and its only one; and bytes with a zero are a text
pub text_zero : (s : List ℕ) → text_width s ≤ length s → (1 ≤ text_width s) × (get_or s (text_width s - 1) 1 ≡ 0) × ((i : ℕ) → i + 1 < text_width s → get_or s i 0 ≡ 0 → ⊥)
text_zero = texts.text_zero

pub text_found : (s : List ℕ) (i : ℕ) → i < length s → get_or s i 1 ≡ 0 → text_width s ≤ length s
text_found s i h e = let f = texts.text_found s i h e in omega arith

-- the numbers of refusals; a refusal leaves the room
pub read_refusal : (s : List ℕ) (n : ℕ) → read_opcode s ≡ refused n → OfReader n
read_refusal = numbers.read_number

pub write_refusal : (code : ℕ) (operand room : List ℕ) (n : ℕ) → (write_opcode code operand room).answer ≡ refused n → OfWriter n × ((write_opcode code operand room).room ≡ room)
write_refusal = numbers.write_number

-- ---- what the bytes of an expression hold, without the counter of its definition: by the reader's answer at their start

module _ (s : List ℕ) where
  pub reading_fault : (n : ℕ) → read_opcode s ≡ refused n → reading s ≡ fault n
  reading_fault = expression.reads_fault s

  pub reading_end : (place : ℕ) → read_opcode s ≡ success (end_code ∷ place ∷ []) → reading s ≡ ended
  reading_end place e = expression.reads_ended s end_code place e refl

  pub reading_next : (code place : ℕ) → read_opcode s ≡ success (code ∷ place ∷ []) → (code ≡ end_code → ⊥) → reading s ≡ next (row_of code) (operand_of s) (reading (drop place s))
  reading_next = expression.reads_next s

-- ---- the test, opcode by opcode: "first in reading order, at one opcode the lowest"

-- what cannot be read is refused as by the reader, whatever is on the stack
pub test_fault : (n : ℕ) (stack : List Kind) → fault_from (fault n) stack ≡ some n
unfolding fault_from
test_fault n stack = refl

module _ (o : OpcodeRow) (operand : List ℕ) (rest : Reading) (stack : List Kind) where
  -- 303 for fewer values than it takes, whatever their kinds; else 303 for more than 32 after it; else 304 for a wrong kind; else what follows
  pub test_few : length stack < length o.takes → fault_from (next o operand rest) stack ≡ some 303
  unfolding fault_from
  test_few h = rw (digits.short_stack o.takes o.leaves stack h)

  pub test_full : length o.takes ≤ length stack → 32 < length (kinds_after o.takes o.leaves stack) → fault_from (next o operand rest) stack ≡ some 303
  unfolding fault_from
  test_full e h = rw (digits.full_stack o.takes o.leaves stack e h)

  module _ (e : length o.takes ≤ length stack) (w : length (kinds_after o.takes o.leaves stack) ≤ 32) where
    pub test_kind : (take (length o.takes) stack ≡ o.takes → ⊥) → fault_from (next o operand rest) stack ≡ some 304
    unfolding fault_from
    test_kind n = rw (digits.wrong_kind o.takes o.leaves stack e w (passing.not-on_top o.takes stack n))

    pub test_next : take (length o.takes) stack ≡ o.takes → fault_from (next o operand rest) stack ≡ fault_from rest (kinds_after o.takes o.leaves stack)
    unfolding fault_from
    test_next q = rw (passing.passing o.takes o.leaves stack (record { enough = e; within = w; asked = passing.on_top_of o.takes stack q }))

-- at the end 305 for anything but one truth
pub test_end : (stack : List Kind) → (fault_from ended stack ≡ none) ↔ (stack ≡ truth ∷ [])
unfolding fault_from
test_end stack = (λ e. passing.one_truth stack (passing.passed_or (is_one_truth stack) 305 e), λ q. rw (passing.truth_one stack q))

pub test_end_305 : (stack : List Kind) → (stack ≡ truth ∷ [] → ⊥) → fault_from ended stack ≡ some 305
unfolding fault_from
test_end_305 stack n = go (is_one_truth stack) refl
  where
    go : (b : Bool) → is_one_truth stack ≡ b → cond {A = Option ℕ} b none (some 305) ≡ some 305
    go true q = absurd (n (passing.one_truth stack q))
    go false q = refl

-- ---- the test and the evaluation

-- "What passes the test never takes from an empty stack, never a version for a truth or the reverse, and ends with one truth", and never puts past the limit:
-- at each step of the evaluation, whatever firmware is installed
pub tested_sound : (s : List ℕ) → validate_of s ≡ success [] → (installed : Installed) → Soundly installed (reading s) []
tested_sound s e installed = soundness.tested_sound installed (reading s) [] (valid_none s e)

-- and nothing else is evaluated so, with any firmware
pub sound_tested : (s : List ℕ) (installed : Installed) → Soundly installed (reading s) [] → validate_of s ≡ success []
unfolding validate_of
sound_tested s installed h = rw (soundness.sound_tested installed (reading s) [] h)

-- at the end exactly one truth is on the stack
pub one_truth : (s : List ℕ) → validate_of s ≡ success [] → (installed : Installed) → kinds (run installed (reading s) []) ≡ truth ∷ []
one_truth s e installed = soundness.sound_end installed (reading s) [] (tested_sound s e installed)

-- the test refuses with 301 to 305 alone
pub test_refusal : (s : List ℕ) (n : ℕ) → validate_of s ≡ refused n → OfTest n
test_refusal = numbers.validate_number

module _ (rows : List (List ℕ)) (versions : List ℕ) (used : ℕ) (s : List ℕ) where
  -- the order of the evaluator's refusals: "2 first, for a used number over sixteen"
  pub order_2 : 16 < used → evaluate_of rows versions used s ≡ refused 2
  unfolding evaluate_of first_refusal
  order_2 h = rw (lt-ltb 16 used h)

  module _ (few : used ≤ 16) where
    -- then the test's
    pub order_test : (n : ℕ) → validate_of s ≡ refused n → evaluate_of rows versions used s ≡ refused n
    unfolding evaluate_of first_refusal
    order_test n e = rw (le-ltb 16 used few, refused_some s n e)

    module _ (valid : validate_of s ≡ success []) where
      evaluated : evaluate_of rows versions used s ≡ outcome (installed_in rows versions used) (reading s) []
      unfolding evaluate_of first_refusal
      evaluated = rw (le-ltb 16 used few, valid_none s valid)

      -- "then, at evaluation, 14 for a GUID in no used row", whether or not the truth hangs on it
      pub order_14 : lacks (installed_in rows versions used) (reading s) ≡ true → evaluate_of rows versions used s ≡ refused 14
      unfolding outcome first_refusal
      order_14 l = evaluated ∙ rw l

      -- and otherwise the truth that is on the stack at the end
      pub truth_of_tested : lacks (installed_in rows versions used) (reading s) ≡ false
          → evaluate_of rows versions used s ≡ success (truth_number (value_on truth (run (installed_in rows versions used) (reading s) [])) ∷ [])
      unfolding outcome first_refusal
      truth_of_tested l = evaluated ∙ rw l

  -- so the evaluator's only refusals on a tested expression are 2 and 14
  pub tested_refusals : (n : ℕ) → validate_of s ≡ success [] → evaluate_of rows versions used s ≡ refused n → (n ≡ 2) ⊎ (n ≡ 14)
  tested_refusals n valid e = go (ltb 16 used) refl (lacks (installed_in rows versions used) (reading s)) refl
    where
      number : (m : ℕ) → evaluate_of rows versions used s ≡ refused m → n ≡ m
      number m q = let z : refused n ≡ refused m = sym e ∙ q in cc

      go : (over : Bool) → ltb 16 used ≡ over → (missing : Bool) → lacks (installed_in rows versions used) (reading s) ≡ missing → (n ≡ 2) ⊎ (n ≡ 14)
      go true p missing q = inl (number 2 (order_2 (ltb-true 16 used p)))
      go false p true q = inr (number 14 (order_14 (ltb-false 16 used p) valid q))
      go false p false q = let z = sym e ∙ truth_of_tested (ltb-false 16 used p) valid q in let w : ◌≡◌ {A = ℕ} 0 1 = cc in absurd (omega arith)

  -- what is answered a truth passes the test
  pub tested_of_truth : (values : List ℕ) → evaluate_of rows versions used s ≡ success values → validate_of s ≡ success []
  unfolding evaluate_of validate_of
  tested_of_truth values = go (first_refusal (row (ltb 16 used) 2 ∷ [])) (fault_from (reading s) []) (outcome (installed_in rows versions used) (reading s) [])
    where
      go : (over f : Option ℕ) (a : Answer) → unless_refused refused over (unless_refused refused f a) ≡ success values → validity f ≡ success []
      go (some m) f a q = let z : ◌≡◌ {A = ℕ} 0 1 = cc in absurd (omega arith)
      go none (some m) a q = let z : ◌≡◌ {A = ℕ} 0 1 = cc in absurd (omega arith)
      go none none a q = refl

  -- `lacks` is false exactly where every GUID of the expression, up to its end, is in one of the first `used` rows
  module _ (l : used ≤ length rows) (m : used ≤ length versions) where
    pub lacks_exactly : (lacks (installed_in rows versions used) (reading s) ≡ false) ↔ AllGuids (InRow rows used) (reading s)
    lacks_exactly = (guids.lacks_rows rows versions used (reading s) l m, guids.rows_lack rows versions used (reading s) l m)

    -- so, where the used number is at most sixteen and every GUID of the expression is in a used row, the evaluator answers a truth exactly when the test passes
    pub truth_exactly : used ≤ 16 → AllGuids (InRow rows used) (reading s)
        → ((b : Bool) × (evaluate_of rows versions used s ≡ success (truth_number b ∷ []))) ↔ (validate_of s ≡ success [])
    truth_exactly few all =
        let there = lacks_exactly.1 all in
        (λ t. tested_of_truth (truth_number t.0 ∷ []) t.1, λ valid. (value_on truth (run (installed_in rows versions used) (reading s) []), truth_of_tested few valid there))

  -- and its refusals carry no other numbers
  pub evaluate_refusal : (n : ℕ) → evaluate_of rows versions used s ≡ refused n → (n ≡ 2) ⊎ ((n ≡ 14) ⊎ OfTest n)
  evaluate_refusal = numbers.evaluate_number rows versions used s

-- ---- what the answers do not depend on

-- "bytes after the end are ignored": of bytes that have an end, whether they pass the test or not
module _ (s more : List ℕ) (e : Ends (reading s)) where
  pub after_end : reading (s ++ more) ≡ reading s
  after_end = expression.same-reading (length s) s more (omega arith) e

  pub test_after_end : validate_of (s ++ more) ≡ validate_of s
  unfolding validate_of
  test_after_end = ap (λ (r : Reading). validity (fault_from r [])) after_end

  pub evaluate_after_end : (rows : List (List ℕ)) (versions : List ℕ) (used : ℕ) → evaluate_of rows versions used (s ++ more) ≡ evaluate_of rows versions used s
  unfolding evaluate_of
  evaluate_after_end rows versions used = rw after_end

-- what passes the test has an end
pub tested_ends : (s : List ℕ) → validate_of s ≡ success [] → Ends (reading s)
tested_ends s e = soundness.tested_ends (reading s) [] (valid_none s e)

-- no row and no version past the used number
pub unused_rows : (rows others : List (List ℕ)) (versions more : List ℕ) (used : ℕ) (s : List ℕ) → take used rows ≡ take used others → take used versions ≡ take used more
    → evaluate_of rows versions used s ≡ evaluate_of others more used s
unfolding evaluate_of
unused_rows rows others versions more used s e q = rw (table.unused_rows rows others versions more used e q)

-- "the first used row with a GUID counts", and no other with it; of a GUID in no used row there is no version
module _ (rows : List (List ℕ)) (versions : List ℕ) (used : ℕ) (guid : List ℕ) (l : used ≤ length rows) where
  pub first_row : (i : ℕ) → i < used → i < length versions → get_or rows i [] ≡ guid → ((j : ℕ) → j < i → get_or rows j [] ≡ guid → ⊥)
      → installed_in rows versions used guid ≡ some (get_or versions i 0)
  first_row = table.first_row rows versions used guid l

  pub no_used_row : ((j : ℕ) → j < used → get_or rows j [] ≡ guid → ⊥) → installed_in rows versions used guid ≡ none
  no_used_row = table.no_used_row rows versions used guid l

-- so two tables with used numbers up to sixteen, in which each GUID of the expression has the same version, or in neither has one, are answered the same
pub same_guids : (rows others : List (List ℕ)) (versions more : List ℕ) (used used' : ℕ) (s : List ℕ) → used ≤ 16 → used' ≤ 16
    → AllGuids (λ g. installed_in rows versions used g ≡ installed_in others more used' g) (reading s) → evaluate_of rows versions used s ≡ evaluate_of others more used' s
unfolding evaluate_of first_refusal
same_guids rows others versions more used used' s h k e =
    rw (le-ltb 16 used h, le-ltb 16 used' k) (ap (unless_refused refused (fault_from (reading s) [])) (guids.same_outcome (installed_in rows versions used) (installed_in others more used') s e))

-- GUIDs are the same where every byte is
pub same_exactly : (a b : List ℕ) → (same a b ≡ true) ↔ (a ≡ b)
same_exactly a b = (table.same_equal a b, λ e. ap (same a) (sym e) ∙ table.equal_same a)
