-- Protected blocks (02, j) by computation: sample A, of four blocks, with block 3 protected after opening. One record, a field for each row, and its one proof.
use Prim.Native.Nat.{ℕ}
use mathlib.Core.List.{[], ◌∷◌}
use mathlib.Core.Path.{◌≡◌, refl}
use lib.ListN.{set, replicate}
use Rattle.common.specs.Answers.{refused, success}
use Rattle.block_service.specs.Blocks.{equal_blocks, consecutive_blocks}
use Rattle.block_service.specs.Erase.{end_of_list}
use Rattle.block_service.specs.Service.{Result, result_of, with_protected, get_attributes, get_block_size, read, write, set_attributes, erase_blocks, protect_blocks, step}
use Rattle.isolation.specs.Runs.{run}
use Rattle.table.specs.SampleA.{sample_a}
use Rattle.table.proofs.Instances.{state_a}
use Rattle.table.proofs.Table.{Answers, on_a, after, opening, judging, moving, calling}

-- sample A with its last block protected
unfoldable pub protected_a : Result
protected_a = on_a (protect_blocks 3)

-- a call after that changes nothing, and is refused with the number
abbrev Refuses : Result → ℕ → Type 0
Refuses r n = r ≡ result_of (refused n) protected_a.state sample_a []

pub record Protected : Type 0 where
  -- protecting answers success, changes the first protected block alone, and stores nothing; at opening it is the number of blocks
  pub at_opening : state_a.protected ≡ 4
  pub protecting : protected_a ≡ result_of (success []) (with_protected state_a 3) sample_a []
  -- writes of block 3 are refused with 15, one of no bytes too; block 4 is not there: 2
  pub write_3 : Refuses (after protected_a (write 3 0 (0x00 ∷ []))) 15
  pub write_none : Refuses (after protected_a (write 3 0 [])) 15
  pub write_4 : Refuses (after protected_a (write 4 0 (0x00 ∷ []))) 2
  -- the block below is written, and not past its end
  pub write_2 : (after protected_a (write 2 511 (0x00 ∷ 0x00 ∷ []))).volume ≡ set sample_a 1535 0x00
  -- lists: the block itself, a pair that ends in it, one after good pairs: 15
  pub erase_3 : Refuses (after protected_a (erase_blocks (3 ∷ 1 ∷ end_of_list ∷ []))) 15
  pub erase_into : Refuses (after protected_a (erase_blocks (1 ∷ 3 ∷ end_of_list ∷ []))) 15
  pub erase_last : Refuses (after protected_a (erase_blocks (0 ∷ 1 ∷ 2 ∷ 2 ∷ end_of_list ∷ []))) 15
  -- with a bad pair behind, or no terminator: 2
  pub erase_bad : Refuses (after protected_a (erase_blocks (3 ∷ 1 ∷ 0 ∷ 0 ∷ end_of_list ∷ []))) 2
  pub erase_endless : Refuses (after protected_a (erase_blocks (3 ∷ 1 ∷ []))) 2
  -- up to the block below, and words after the terminator: good, and what was written there is gone
  pub erase_below : after (after protected_a (write 2 511 (0x00 ∷ []))) (erase_blocks (1 ∷ 2 ∷ end_of_list ∷ 3 ∷ 1 ∷ [])) ≡ protected_a
  -- reads and block sizes are free
  pub read_3 : Answers (after protected_a (read 3 0 (replicate 2 0))) 0 (2 ∷ [])
  pub size_3 : Answers (after protected_a (get_block_size 3)) 0 (512 ∷ 1 ∷ [])
  -- the first protected block is lowered, to 0 too, or stays, and is never raised
  pub lower : (after protected_a (protect_blocks 0)).state ≡ with_protected state_a 0
  pub same : Answers (after protected_a (protect_blocks 3)) 0 []
  pub raise : Refuses (after protected_a (protect_blocks 4)) 2
  -- setting the settings keeps it
  pub kept : (after protected_a (set_attributes 0x0E3B)).state.protected ≡ 3
  -- a state whose first protected block is past the number of blocks: 111
  pub past : (step (with_protected state_a 5) sample_a get_attributes).answer ≡ refused 111
  -- in a run: byte 1536, the first of block 3, is written, the block is protected, and writing, raising and erasing leave it as it was then
  pub in_run : (run state_a sample_a (write 3 0 (0x55 ∷ []) ∷ protect_blocks 3 ∷ write 3 0 (0x00 ∷ []) ∷ protect_blocks 4 ∷ erase_blocks (3 ∷ 1 ∷ end_of_list ∷ []) ∷ [])).volume
      ≡ set sample_a 1536 0x55

pub protected : Protected
unfolding opening judging moving calling state_a on_a after protected_a run consecutive_blocks equal_blocks
protected =
    record {
      at_opening = refl;
      protecting = refl;
      write_3 = refl;
      write_none = refl;
      write_4 = refl;
      write_2 = refl;
      erase_3 = refl;
      erase_into = refl;
      erase_last = refl;
      erase_bad = refl;
      erase_endless = refl;
      erase_below = refl;
      read_3 = (refl, refl);
      size_3 = (refl, refl);
      lower = refl;
      same = (refl, refl);
      raise = refl;
      kept = refl;
      past = refl;
      in_run = refl;
    }
