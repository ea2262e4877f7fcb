-- Demand 3 at two concrete runs, with all its hypotheses shown: sample A, and sample A with byte 1024 changed, which are alike except in
-- block 2. In the first run block 2 is erased and then read; in the second the erase and the read are refused.
use Prim.Native.Nat.{ℕ}
use mathlib.Core.Path.{◌≡◌, refl, sym, subst}
use mathlib.Core.Bool.{Bool, true, false, not, ◌&&◌, ◌||◌}
use mathlib.Core.List.{List, [], ◌∷◌, ◌++◌}
use native.Mathlib.Omega.{arith}
use borrow.Author.Tests.{eqb-true, eqb-false}
use lib.Dec.{T, eqb}
use lib.ListN.{length, get_or, set, length-set}
use lib.Seq.{get_or-set_other}
use Rattle.common.specs.Answers.{refused, success}
use Rattle.common.specs.Lists.{edit}
use Rattle.common.specs.Refusals.{first_refusal, any}
use Rattle.numbers.specs.LittleEndian.{le}
use Rattle.block_service.specs.Access.{count_moved, written_byte, erased_byte, write_change, changed_byte}
use Rattle.volume.specs.Attributes.{known_edition, attributes_fault, base_fault}
use Rattle.volume.specs.BlockMap.{blocks, bytes, has_zero, all_zero, size_fault}
use Rattle.block_service.specs.Blocks.{in_block, holds, place, place_from, start_of, length_of, block_at}
use Rattle.block_service.specs.Erase.{end_of_list, good_list, names, reaches, erase_change}
use Rattle.volume.specs.Header.{opened, open_volume, state_at, words_at, word_sum, open_refusals, header_length_fault, map_fault}
use Rattle.block_service.specs.Service.{refusals, lent_refusals, move_answer, effect, decide, with_attributes, perform, buffer_of, Call, set_attributes, read, erase_blocks, step}
use Rattle.settings.specs.Settings.{status_bits, changes_fixed, raises, clears, breaks_lock, changes_locked, lacks_capability, setting_refusals}
use Rattle.volume.specs.ExtendedHeader.{ext_offset, ext_fault}
use Rattle.volume.specs.State.{map_of, state_of, state_with, unlawful}
use Rattle.volume.specs.declared.state.State.{State}
use Rattle.isolation.specs.Runs.{run, is_success, is_moved, names_block, touched, job_erases, erased_by, erased, Alike, NoEarlyReadBy, NoEarlyRead, Isolated}
use Rattle.table.specs.SampleA.{header_a, sample_a}
use Rattle.isolation.proofs.Isolation.{demand_3}

-- the hypothesis on reads, call by call: a set loses the blocks that a call erased, and a read in what is left is refused
unfoldable pub ReadsAllowed : (ℕ → Type 0) → State → List ℕ → List Call → Type 0
ReadsAllowed D st v [] = Unit {0}
ReadsAllowed D st v (c ∷ cs) =
    ((b o : ℕ) (buffer : List ℕ) → c ≡ read b o buffer → D b → T (is_moved (step st v (read b o buffer)).answer) → ⊥)
    × ReadsAllowed (λ b. D b × T (not (names_block c b && is_success (step st v c).answer))) (step st v c).state (step st v c).volume cs

pub allowed : (D : ℕ → Type 0) (st : State) (v : List ℕ) (cs : List Call) → ReadsAllowed D st v cs → NoEarlyRead D st v cs
unfolding ReadsAllowed NoEarlyReadBy run erased_by
allowed D st v [] k [] after b o buffer e d m = absurd (let z : ◌≡◌ {A = ℕ} 0 1 = cc in omega arith)
allowed D st v [] k (x ∷ before) after b o buffer e d m = absurd (let z : ◌≡◌ {A = ℕ} 0 1 = cc in omega arith)
allowed D st v (c ∷ cs) k [] after b o buffer e d m = absurd (let p : c ≡ read b o buffer = cc in k.0 b o buffer p d m)
allowed D st v (c ∷ cs) k (x ∷ before) after b o buffer e d m =
    let p : c ≡ x = cc in
    let q : cs ≡ before ++ (read b o buffer ∷ after) = cc in
    subst
    (λ (y : Call).
    T (is_moved (step (run st v (y ∷ before)).state (run st v (y ∷ before)).volume (read b o buffer)).answer) → T (erased st v (y ∷ before) b))
    p
    (λ m'.
    unless_first (names_block c b && is_success (step st v c).answer) (job_erases touched c (step st v c).answer (step st v c).state (step st v c).volume before b)
    (erased (step st v c).state (step st v c).volume before b)
    (λ n.
    allowed (λ a. D a × T (not (names_block c a && is_success (step st v c).answer))) (step st v c).state (step st v c).volume cs k.1
    before after b o buffer q (d, n) m'))
    m
  where
    unless_first : (a j r : Bool) → (T (not a) → T r) → T (a || (j || r))
    unless_first true j r f = tt
    unless_first false true r f = tt
    unless_first false false r f = f tt

-- everything that the two runs compute with: opening, the calls, and runs
opening : Unit {0}
unfolding header_a sample_a open_volume state_at state_of state_with words_at word_sum open_refusals header_length_fault map_fault ext_offset ext_fault first_refusal any le
opening = tt

judging : Unit {0}
unfolding known_edition attributes_fault base_fault blocks bytes has_zero all_zero size_fault map_of unlawful setting_refusals status_bits changes_fixed raises clears breaks_lock changes_locked lacks_capability
judging = tt

moving : Unit {0}
unfolding place place_from start_of length_of holds in_block block_at count_moved written_byte good_list names reaches erased_byte write_change erase_change changed_byte edit
moving = tt

calling : Unit {0}
unfolding refusals lent_refusals move_answer effect decide with_attributes perform buffer_of step is_success is_moved names_block run
calling = tt

computed : Unit {0}
unfolding opening judging moving calling
computed = tt

-- sample A with byte 1024, the first of block 2, changed
unfoldable pub changed_a : List ℕ
changed_a = set sample_a 1024 0

-- the state that sample A opens to
unfoldable pub state_a : State
state_a = (open_volume sample_a 0).state

-- the set of blocks: block 2 alone
unfoldable pub Two : ℕ → Type 0
Two b = b ≡ 2

pub opens : open_volume sample_a 0 ≡ opened state_a
unfolding computed state_a
opens = refl

pub opens_changed : open_volume changed_a 0 ≡ opened state_a
unfolding computed state_a changed_a
opens_changed = refl

-- the volumes really differ
pub differ : get_or sample_a 1024 0 ≡ get_or changed_a 1024 0 → ⊥
unfolding computed changed_a
differ e = eqb-false 255 0 refl e

pub same_lengths : length sample_a ≡ length changed_a
unfolding changed_a
same_lengths = sym (length-set sample_a 1024 0)

in_block_2 : T (in_block (map_of state_a) 2 1024)
unfolding computed state_a
in_block_2 = tt

-- they are alike except inside block 2
pub alike : Alike (map_of state_a) Two sample_a changed_a
unfolding Alike Two changed_a
alike i n = go (eqb i 1024) refl
  where
    go : (t : Bool) → eqb i 1024 ≡ t → get_or sample_a i 0 ≡ get_or (set sample_a 1024 0) i 0
    go true e = absurd (n 2 refl (subst (λ (j : ℕ). T (in_block (map_of state_a) 2 j)) (sym (eqb-true i 1024 e)) in_block_2))
    go false e = sym (get_or-set_other sample_a 1024 i 0 0 (eqb-false i 1024 e))

-- ---- block 2 is erased, and then read

unfoldable pub erase_two : Call
erase_two = erase_blocks (2 ∷ 1 ∷ end_of_list ∷ [])

unfoldable pub read_two : Call
read_two = read 2 0 (7 ∷ 7 ∷ 7 ∷ 7 ∷ [])

-- both calls answer success
pub erase_succeeds : (step state_a sample_a erase_two).answer ≡ success []
unfolding computed state_a erase_two
erase_succeeds = refl

pub read_succeeds : (step (run state_a sample_a (erase_two ∷ [])).state (run state_a sample_a (erase_two ∷ [])).volume read_two).answer ≡ success (4 ∷ [])
unfolding computed state_a erase_two read_two
read_succeeds = refl

-- what the erase took from the set
two_erased : (b : ℕ) → b ≡ 2 → T (not (names_block erase_two b && is_success (step state_a sample_a erase_two).answer)) → ⊥
unfolding computed state_a erase_two
two_erased b e t = rw e at t

pub reads_after_erase : NoEarlyRead Two state_a sample_a (erase_two ∷ read_two ∷ [])
unfolding ReadsAllowed Two erase_two
reads_after_erase =
    allowed Two state_a sample_a (erase_two ∷ read_two ∷ []) (
      (λ b o buffer e d m. let z : ◌≡◌ {A = ℕ} 0 1 = cc in omega arith),
      ((λ b o buffer e d m. two_erased b d.0 d.1), tt),
    )

pub erased_then_read : Isolated Two state_a sample_a changed_a (erase_two ∷ read_two ∷ [])
erased_then_read = demand_3 Two 0 state_a sample_a changed_a (erase_two ∷ read_two ∷ []) opens opens_changed same_lengths alike reads_after_erase

-- ---- the erase is refused (its last pair passes the number of blocks), reads are disabled, and the read of block 2 is refused

unfoldable pub erase_too_far : Call
erase_too_far = erase_blocks (2 ∷ 1 ∷ 3 ∷ 2 ∷ end_of_list ∷ [])

unfoldable pub disable_reads : Call
disable_reads = set_attributes 0x0E3B

unfoldable pub refused_run : List Call
refused_run = erase_too_far ∷ disable_reads ∷ read_two ∷ []

pub erase_refused : (step state_a sample_a erase_too_far).answer ≡ refused 2
unfolding computed state_a erase_too_far
erase_refused = refl

pub read_refused : (step (run state_a sample_a (erase_too_far ∷ disable_reads ∷ [])).state (run state_a sample_a (erase_too_far ∷ disable_reads ∷ [])).volume read_two).answer ≡ refused 15
unfolding computed state_a erase_too_far disable_reads read_two
read_refused = refl

not-moved :
    T (is_moved (step (run state_a sample_a (erase_too_far ∷ disable_reads ∷ [])).state (run state_a sample_a (erase_too_far ∷ disable_reads ∷ [])).volume read_two).answer)
    → ⊥
unfolding is_moved
not-moved m = rw read_refused at m

pub reads_refused : NoEarlyRead Two state_a sample_a refused_run
unfolding ReadsAllowed refused_run erase_too_far disable_reads run
reads_refused =
    allowed Two state_a sample_a refused_run (
      (λ b o buffer e d m. let z : ◌≡◌ {A = ℕ} 0 1 = cc in omega arith),
      (
        (λ b o buffer e d m. let z : ◌≡◌ {A = ℕ} 0 1 = cc in omega arith),
        ((λ b o buffer e d m. not-moved (rw (← e) at m)), tt),
      ),
    )

pub refused-run : Isolated Two state_a sample_a changed_a refused_run
refused-run = demand_3 Two 0 state_a sample_a changed_a refused_run opens opens_changed same_lengths alike reads_refused

-- and so the volumes still differ at the end
pub still_differ : get_or (run state_a sample_a refused_run).volume 1024 0 ≡ get_or (run state_a changed_a refused_run).volume 1024 0 → ⊥
unfolding computed state_a changed_a refused_run erase_too_far disable_reads read_two
still_differ e = eqb-false 255 0 refl e
