-- Erasing in two operations (02, g) by computation: the order of a list's bytes and the jobs that it gives, the two calls on sample A, and which runs count as an
-- erase of a block. One record, a field for each row, and its one proof.
use Prim.Native.Nat.{ℕ}
use mathlib.Core.Bool.{true, false}
use mathlib.Core.List.{List, [], ◌∷◌}
use mathlib.Core.Path.{◌≡◌, refl}
use lib.ListN.{set}
use Rattle.common.specs.Answers.{refused, success, short}
use Rattle.block_service.specs.Erase.{end_of_list}
use Rattle.block_service.specs.Order.{up_from, member, firsts, part, named_blocks, bytes_of, erase_order, job_given, carry_change, finishes}
use Rattle.block_service.specs.Service.{Call, result_of, set_attributes, write, erase_blocks, protect_blocks, accept_erase, carry_erase, carry_answer}
use Rattle.isolation.specs.Runs.{is_success, is_moved, names_block, same_list, carries_on, carries_other, wrote_to, touched, strayed, never, accepted, answered, after, standing, is_finished, job_erases, erased_by, erased}
use Rattle.table.specs.SampleA.{sample_a}
use Rattle.table.proofs.Instances.{state_a}
use Rattle.table.proofs.Table as Table
use Rattle.table.proofs.Table.{on_a, opening, judging, moving, calling}

-- four blocks of 2 bytes and two of 3; blocks 2 and 3, then 1 to 4, then 3 again
unfoldable pub mixed_map : List ℕ
mixed_map = 4 ∷ 2 ∷ 2 ∷ 3 ∷ []

unfoldable pub nested_list : List ℕ
nested_list = 2 ∷ 2 ∷ 1 ∷ 4 ∷ 3 ∷ 1 ∷ end_of_list ∷ 7 ∷ []

-- block 3 of sample A, 512 bytes
unfoldable pub last_block : List ℕ
last_block = 3 ∷ 1 ∷ end_of_list ∷ []

-- runs on sample A after which block 3 may count as erased
abbrev Erased : List Call → Type 0
Erased calls = erased state_a sample_a calls 3 ≡ true

abbrev NotErased : List Call → Type 0
NotErased calls = erased state_a sample_a calls 3 ≡ false

pub record Jobs : Type 0 where
  -- blocks as the list first names them (2, 3, 1, 4), bytes upward, each once
  pub order : erase_order mixed_map nested_list ≡ 4 ∷ 5 ∷ 6 ∷ 7 ∷ 2 ∷ 3 ∷ 8 ∷ 9 ∷ 10 ∷ []
  pub order_none : erase_order mixed_map (end_of_list ∷ []) ≡ []
  -- jobs that it gives, and one that it never does: its length
  pub given_0 : job_given mixed_map nested_list 0 ≡ true
  pub given_8 : job_given mixed_map nested_list 8 ≡ true
  pub given_9 : job_given mixed_map nested_list 9 ≡ false
  -- the empty list gives 0 alone
  pub given_none : job_given mixed_map (end_of_list ∷ []) 0 ≡ true
  pub given_none_1 : job_given mixed_map (end_of_list ∷ []) 1 ≡ false
  -- finished exactly at the end
  pub short_of_it : finishes mixed_map nested_list 3 5 ≡ false
  pub at_the_end : finishes mixed_map nested_list 3 6 ≡ true
  pub past_the_end : finishes mixed_map nested_list 3 0xFFFFFFFFFFFFFFFF ≡ true
  -- on sample A: acceptance answers 0 and changes nothing; a bad list is refused with 2
  pub accepting : on_a (accept_erase last_block) ≡ result_of (success (0 ∷ [])) state_a sample_a []
  pub accepting_bad : on_a (accept_erase (3 ∷ 2 ∷ end_of_list ∷ [])) ≡ result_of (refused 2) state_a sample_a []
  -- carrying on by 0, by 511 of 512, by all, by more; from 511 by 1
  pub by_0 : (on_a (carry_erase last_block 0 0)).answer ≡ short (0 ∷ [])
  pub by_511 : (on_a (carry_erase last_block 0 511)).answer ≡ short (511 ∷ [])
  pub by_512 : (on_a (carry_erase last_block 0 512)).answer ≡ success []
  pub by_more : (on_a (carry_erase last_block 0 0xFFFFFFFFFFFFFFFF)).answer ≡ success []
  pub last_one : (on_a (carry_erase last_block 511 1)).answer ≡ success []
  -- the empty list is finished at once
  pub empty_list : (on_a (carry_erase (end_of_list ∷ []) 0 0)).answer ≡ success []
  -- a job that is not given, and one past every number: 2; with block 3 protected the job's 2 comes first, then 15
  pub job_512 : on_a (carry_erase last_block 512 1) ≡ result_of (refused 2) state_a sample_a []
  pub job_past : on_a (carry_erase last_block 0xFFFFFFFFFFFFFFFF 1) ≡ result_of (refused 2) state_a sample_a []
  pub protected_job : (Table.after (on_a (protect_blocks 3)) (carry_erase last_block 512 1)).answer ≡ refused 2
  pub protected_list : (Table.after (on_a (protect_blocks 3)) (carry_erase last_block 0 1)).answer ≡ refused 15
  -- of four zeros written at the start of block 3, a portion of 3 makes three FF again
  pub portion : (Table.after (on_a (write 3 0 (0x00 ∷ 0x00 ∷ 0x00 ∷ 0x00 ∷ []))) (carry_erase last_block 0 3)).volume ≡ set sample_a 1539 0x00
  -- a block counts as erased by an unbroken job that has answered finished
  pub unbroken : Erased (accept_erase last_block ∷ carry_erase last_block 0 500 ∷ carry_erase last_block 500 12 ∷ [])
  -- not before it has, nor without acceptance
  pub unfinished : NotErased (accept_erase last_block ∷ carry_erase last_block 0 500 ∷ carry_erase last_block 500 11 ∷ [])
  pub unaccepted : NotErased (carry_erase last_block 0 500 ∷ carry_erase last_block 500 12 ∷ [])
  -- nor where a carrying on took another job, or a write or a change of settings came while it was open
  pub other_job : NotErased (accept_erase last_block ∷ carry_erase last_block 0 500 ∷ carry_erase last_block 0 500 ∷ carry_erase last_block 500 12 ∷ [])
  pub written : NotErased (accept_erase last_block ∷ carry_erase last_block 0 500 ∷ write 0 100 (0x00 ∷ []) ∷ carry_erase last_block 500 12 ∷ [])
  pub set_between : NotErased (accept_erase last_block ∷ carry_erase last_block 0 500 ∷ set_attributes 0x0E3B ∷ carry_erase last_block 500 12 ∷ [])
  -- a refused write, another erase and another acceptance break nothing
  pub quiet : Erased (accept_erase last_block ∷ carry_erase last_block 0 500 ∷ write 4 0 [] ∷ erase_blocks (1 ∷ 1 ∷ end_of_list ∷ []) ∷ accept_erase last_block ∷ carry_erase last_block 500 12 ∷ [])
  -- and where nothing breaks a job, the write does not either
  pub never_broken : erased_by never state_a sample_a (accept_erase last_block ∷ carry_erase last_block 0 500 ∷ write 0 100 (0x00 ∷ []) ∷ carry_erase last_block 500 12 ∷ []) 3 ≡ true

ordering : Unit {0}
unfolding mixed_map nested_list last_block up_from member firsts part named_blocks bytes_of erase_order job_given carry_change finishes carry_answer
ordering = tt

standings : Unit {0}
unfolding is_success is_moved names_block same_list carries_on carries_other wrote_to touched strayed never accepted answered after standing is_finished job_erases erased_by
standings = tt

pub jobs : Jobs
unfolding opening judging moving calling state_a on_a Table.after ordering standings
jobs =
    record {
      order = refl;
      order_none = refl;
      given_0 = refl;
      given_8 = refl;
      given_9 = refl;
      given_none = refl;
      given_none_1 = refl;
      short_of_it = refl;
      at_the_end = refl;
      past_the_end = refl;
      accepting = refl;
      accepting_bad = refl;
      by_0 = refl;
      by_511 = refl;
      by_512 = refl;
      by_more = refl;
      last_one = refl;
      empty_list = refl;
      job_512 = refl;
      job_past = refl;
      protected_job = refl;
      protected_list = refl;
      portion = refl;
      unbroken = refl;
      unfinished = refl;
      unaccepted = refl;
      other_job = refl;
      written = refl;
      set_between = refl;
      quiet = refl;
      never_broken = refl;
    }
