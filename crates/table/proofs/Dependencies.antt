-- Dependency expressions (02, k) by computation. Three rows of the table are used: the camera's firmware, GUID `camera`, has version 5, the lens's, which differs in
-- the last byte of its GUID, 0x80000000; a second row of the camera's, with 9, counts for nothing. One record, a field for each row, and its one proof.
use Prim.Native.Nat.{ℕ}
use mathlib.Core.Path.{◌≡◌, refl}
use mathlib.Core.List.{List, [], ◌∷◌, ◌++◌}
use lib.ListN.{replicate}
use Rattle.numbers.specs.LittleEndian.{le}
use Rattle.common.specs.Answers.{Answer, refused, success}
use Rattle.common.specs.Refusals.{first_refusal}
use Rattle.dependency.specs.Opcodes.{opcodes, listed, row_among, row_of, text_width, width, operand_refusals, after, operand_of, read_refusals, read_opcode, opcode_bytes, write_refusals, wrote, write_opcode}
use Rattle.dependency.specs.Expression.{reading_from, reading}
use Rattle.dependency.specs.Installed.{same, first_with, installed_in}
use Rattle.dependency.specs.Validation.{kinds_after, on_top, stack_refusals, fault_from, validate_of}
use Rattle.dependency.specs.Evaluation.{value_on, applied, cell_of, result_cells, step, run, lacks, outcome, evaluate_of}

abbrev camera : List ℕ
camera = replicate 16 0xC1

abbrev lens : List ℕ
lens = replicate 15 0xC1 ++ (0xC2 ∷ [])

abbrev stranger : List ℕ
stranger = replicate 16 1

abbrev rows : List (List ℕ)
rows = camera ∷ lens ∷ camera ∷ replicate 13 (replicate 16 0)

abbrev versions : List ℕ
versions = 5 ∷ 0x80000000 ∷ 9 ∷ replicate 13 0

abbrev says : List ℕ → Answer
says s = evaluate_of rows versions 3 s

abbrev yes : Answer
yes = success (1 ∷ [])

abbrev no : Answer
no = success (0 ∷ [])

pub record Dependencies : Type 0 where
  -- "the camera's version is over 3": 3 is put first, so that the camera's version is taken first and stands on the left; and in the other order
  pub over_three : says (0x01 ∷ 3 ∷ 0 ∷ 0 ∷ 0 ∷ 0x00 ∷ (camera ++ (0x09 ∷ 0x0D ∷ []))) ≡ yes
  pub other_order : says (0x00 ∷ (camera ++ (0x01 ∷ 3 ∷ 0 ∷ 0 ∷ 0 ∷ 0x09 ∷ 0x0D ∷ []))) ≡ no
  -- the first used row counts; a GUID that differs in one byte is another; versions have no sign
  pub first_row : says (0x00 ∷ (camera ++ (0x01 ∷ 5 ∷ 0 ∷ 0 ∷ 0 ∷ 0x08 ∷ 0x0D ∷ []))) ≡ yes
  pub one_byte : says (0x00 ∷ (lens ++ (0x00 ∷ (camera ++ (0x0B ∷ 0x0D ∷ []))))) ≡ yes
  -- GTE and LTE at equal versions, GT and LT not
  pub at_least : says (0x01 ∷ 5 ∷ 0 ∷ 0 ∷ 0 ∷ 0x00 ∷ (camera ++ (0x0A ∷ 0x0D ∷ []))) ≡ yes
  pub at_most : says (0x01 ∷ 5 ∷ 0 ∷ 0 ∷ 0 ∷ 0x00 ∷ (camera ++ (0x0C ∷ 0x0D ∷ []))) ≡ yes
  pub greater : says (0x01 ∷ 5 ∷ 0 ∷ 0 ∷ 0 ∷ 0x00 ∷ (camera ++ (0x09 ∷ 0x0D ∷ []))) ≡ no
  pub less : says (0x01 ∷ 5 ∷ 0 ∷ 0 ∷ 0 ∷ 0x00 ∷ (camera ++ (0x0B ∷ 0x0D ∷ []))) ≡ no
  -- truths: NOT TRUE or FALSE; what follows the end is ignored; a text is for people
  pub not_or : says (0x06 ∷ 0x05 ∷ 0x07 ∷ 0x04 ∷ 0x0D ∷ 0xFF ∷ []) ≡ no
  pub named : says (0x02 ∷ 0x31 ∷ 0x2E ∷ 0x30 ∷ 0 ∷ 0x06 ∷ 0x0D ∷ []) ≡ yes
  -- 301 to 305
  pub unknown : says (0x06 ∷ 0x0E ∷ 0x0D ∷ []) ≡ refused 301
  pub cut : says (0x01 ∷ 3 ∷ 0 ∷ 0 ∷ []) ≡ refused 302
  pub no_zero : says (0x02 ∷ 0x31 ∷ 0x2E ∷ []) ≡ refused 302
  pub empty : says (0x06 ∷ 0x03 ∷ 0x0D ∷ []) ≡ refused 303
  pub kind : says (0x01 ∷ 3 ∷ 0 ∷ 0 ∷ 0 ∷ 0x05 ∷ 0x0D ∷ []) ≡ refused 304
  pub no_end : says (0x06 ∷ []) ≡ refused 305
  pub two_truths_lem : says (0x06 ∷ 0x07 ∷ 0x0D ∷ []) ≡ refused 305
  pub a_version : says (0x01 ∷ 3 ∷ 0 ∷ 0 ∷ 0 ∷ 0x0D ∷ []) ≡ refused 305
  pub nothing : says (0x0D ∷ []) ≡ refused 305
  -- 14, after the test's refusals, also where the truth does not hang on it; 2 before all
  pub missing : says (0x00 ∷ (stranger ++ (0x00 ∷ (stranger ++ (0x08 ∷ 0x0D ∷ []))))) ≡ refused 14
  pub kind_first : says (0x00 ∷ (stranger ++ (0x05 ∷ 0x0D ∷ []))) ≡ refused 304
  pub used_first : evaluate_of rows versions 17 [] ≡ refused 2
  pub unused : evaluate_of rows versions 0 (0x00 ∷ (camera ++ (0x00 ∷ (camera ++ (0x08 ∷ 0x0D ∷ []))))) ≡ refused 14
  -- 32 values, and 33
  pub thirty_two : validate_of (replicate 32 6 ++ (replicate 31 3 ++ (0x0D ∷ []))) ≡ success []
  pub thirty_three : validate_of (replicate 33 6 ++ (replicate 32 3 ++ (0x0D ∷ []))) ≡ refused 303
  -- single opcodes: a text is read with its zero, and written without what follows it
  pub read_text : read_opcode (0x02 ∷ 0x31 ∷ 0 ∷ 0x0D ∷ []) ≡ success (2 ∷ 3 ∷ [])
  pub write_text : write_opcode 0x02 (0x31 ∷ 0 ∷ 0x32 ∷ []) (9 ∷ 9 ∷ 9 ∷ 9 ∷ []) ≡ wrote (success (3 ∷ [])) (0x02 ∷ 0x31 ∷ 0 ∷ 9 ∷ [])
  pub write_short : write_opcode 0x02 (0x31 ∷ 0 ∷ 0x32 ∷ []) (9 ∷ 9 ∷ []) ≡ wrote (refused 5) (9 ∷ 9 ∷ [])

pub dependencies : Dependencies
unfolding le opcodes listed row_among row_of text_width width operand_refusals after operand_of read_refusals read_opcode opcode_bytes write_refusals write_opcode first_refusal same first_with installed_in reading_from reading kinds_after on_top stack_refusals fault_from validate_of value_on applied cell_of result_cells step run lacks outcome evaluate_of
dependencies =
    record {
      over_three = refl;
      other_order = refl;
      first_row = refl;
      one_byte = refl;
      at_least = refl;
      at_most = refl;
      greater = refl;
      less = refl;
      not_or = refl;
      named = refl;
      unknown = refl;
      cut = refl;
      no_zero = refl;
      empty = refl;
      kind = refl;
      no_end = refl;
      two_truths_lem = refl;
      a_version = refl;
      nothing = refl;
      missing = refl;
      kind_first = refl;
      used_first = refl;
      unused = refl;
      thirty_two = refl;
      thirty_three = refl;
      read_text = refl;
      write_text = refl;
      write_short = refl;
    }
