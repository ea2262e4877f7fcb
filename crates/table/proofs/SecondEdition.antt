-- Demand 3 at a run of edition 2, with all its hypotheses shown: the sample of edition 2, and the same with byte 200 changed, which are alike except in block 1. The
-- read status is locked, block 1 is erased, and then it is read.
use Prim.Native.Nat.{ℕ}
use mathlib.Core.Path.{◌≡◌, refl, sym, subst}
use mathlib.Core.Bool.{Bool, true, false, not, ◌&&◌}
use mathlib.Core.List.{List, [], ◌∷◌}
use native.Mathlib.Omega.{arith}
use borrow.Author.Tests.{eqb-true, eqb-false}
use lib.Dec.{T, eqb}
use lib.ListN.{length, get_or, set, length-set}
use lib.Seq.{get_or-set_other}
use Rattle.common.specs.Answers.{success}
use Rattle.common.specs.Lists.{edit}
use Rattle.block_service.specs.Access.{count_moved, written_byte, erased_byte, changed_byte}
use Rattle.block_service.specs.Blocks.{in_block, holds, place, place_from, start_of, length_of, block_at}
use Rattle.block_service.specs.Erase.{end_of_list, good_list, names, reaches, erase_change}
use Rattle.block_service.specs.Service.{lent_refusals, move_answer, Call, set_attributes, read, erase_blocks, step}
use Rattle.volume.specs.Header.{opened, open_volume}
use Rattle.volume.specs.State.{map_of}
use Rattle.isolation.specs.Runs.{run, is_success, is_moved, names_block, Alike, NoEarlyRead, Isolated}
use Rattle.isolation.proofs.Isolation.{demand_3}
use Rattle.table.specs.SamplePI.{header_pi, extended_pi, sample_pi}
use Rattle.table.proofs.Editions.{state_pi, computing, extending, setting}
use Rattle.table.proofs.Instances.{ReadsAllowed, allowed}

-- everything that the run computes with
moving : Unit {0}
unfolding place place_from start_of length_of holds in_block block_at count_moved written_byte good_list names reaches erased_byte erase_change changed_byte edit
moving = tt

running : Unit {0}
unfolding header_pi extended_pi sample_pi state_pi computing extending setting moving lent_refusals move_answer is_success is_moved names_block
running = tt

-- the sample with byte 200, of block 1, changed
unfoldable pub changed : List ℕ
changed = set sample_pi 200 0

-- the set of blocks: block 1 alone
unfoldable pub One : ℕ → Type 0
One b = b ≡ 1

pub opens : open_volume sample_pi 0 ≡ opened (state_pi 0x5E3F)
unfolding running
opens = refl

pub opens_changed : open_volume changed 0 ≡ opened (state_pi 0x5E3F)
unfolding running changed
opens_changed = refl

-- the volumes really differ
pub differ : get_or sample_pi 200 0 ≡ get_or changed 200 0 → ⊥
unfolding running changed
differ e = eqb-false 255 0 refl e

same_lengths : length sample_pi ≡ length changed
unfolding changed
same_lengths = sym (length-set sample_pi 200 0)

in_block_1 : T (in_block (map_of (state_pi 0x5E3F)) 1 200)
unfolding running
in_block_1 = tt

-- they are alike except inside block 1
pub alike : Alike (map_of (state_pi 0x5E3F)) One sample_pi changed
unfolding Alike One changed
alike i n = go (eqb i 200) refl
  where
    go : (t : Bool) → eqb i 200 ≡ t → get_or sample_pi i 0 ≡ get_or (set sample_pi 200 0) i 0
    go true e = absurd (n 1 refl (subst (λ (j : ℕ). T (in_block (map_of (state_pi 0x5E3F)) 1 j)) (sym (eqb-true i 200 e)) in_block_1))
    go false e = sym (get_or-set_other sample_pi 200 i 0 0 (eqb-false i 200 e))

unfoldable pub lock_reads : Call
lock_reads = set_attributes 0x7E3F

unfoldable pub erase_one : Call
erase_one = erase_blocks (1 ∷ 1 ∷ end_of_list ∷ [])

unfoldable pub read_one : Call
read_one = read 1 72 (7 ∷ 7 ∷ [])

-- the last call answers success
pub read_succeeds :
    (step (run (state_pi 0x5E3F) sample_pi (lock_reads ∷ erase_one ∷ [])).state (run (state_pi 0x5E3F) sample_pi (lock_reads ∷ erase_one ∷ [])).volume read_one).answer ≡ success (2 ∷ [])
unfolding running lock_reads erase_one read_one
read_succeeds = refl

one_erased : (b : ℕ) → b ≡ 1 → T (not (names_block erase_one b && is_success (step (state_pi 0x7E3F) sample_pi erase_one).answer)) → ⊥
unfolding running erase_one
one_erased b e t = rw e at t

pub reads_after_erase : NoEarlyRead One (state_pi 0x5E3F) sample_pi (lock_reads ∷ erase_one ∷ read_one ∷ [])
unfolding ReadsAllowed One running lock_reads erase_one
reads_after_erase =
    allowed One (state_pi 0x5E3F) sample_pi (lock_reads ∷ erase_one ∷ read_one ∷ []) (
      (λ b o buffer e d m. let z : ◌≡◌ {A = ℕ} 0 1 = cc in omega arith),
      (
        (λ b o buffer e d m. let z : ◌≡◌ {A = ℕ} 0 1 = cc in omega arith),
        ((λ b o buffer e d m. one_erased b d.0.0 d.1), tt),
      ),
    )

pub erased_then_read : Isolated One (state_pi 0x5E3F) sample_pi changed (lock_reads ∷ erase_one ∷ read_one ∷ [])
erased_then_read =
    demand_3 One 0 (state_pi 0x5E3F) sample_pi changed (lock_reads ∷ erase_one ∷ read_one ∷ []) opens opens_changed same_lengths alike reads_after_erase
