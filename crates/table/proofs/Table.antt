-- Document 01's table, P1 to P13, over the definitions that the contracts cite: one record, a field for each row, and its one proof.
-- Every row on a volume starts from opening sample A at base 0.
use Prim.Native.Nat.{ℕ}
use mathlib.Core.Path.{◌≡◌, refl}
use mathlib.Core.List.{List, [], ◌∷◌}
use lib.ListN.{set, replicate}
use Rattle.common.specs.Answers.{number_of, values_of, refused, success}
use Rattle.common.specs.Lists.{edit}
use Rattle.common.specs.Refusals.{first_refusal, any}
use Rattle.numbers.specs.LittleEndian.{le}
use Rattle.block_service.specs.Access.{count_moved, written_byte, erased_byte, write_change, changed_byte}
use Rattle.volume.specs.Attributes.{known_edition, attributes_fault, base_fault}
use Rattle.volume.specs.BlockMap.{blocks, bytes, has_zero, all_zero, size_fault}
use Rattle.block_service.specs.Blocks.{place, place_from, start_of, length_of, block_at}
use Rattle.block_service.specs.Erase.{end_of_list, good_list, names, reaches, erase_change}
use Rattle.volume.specs.Header.{open_volume, opened, opens, state_at, words_at, word_sum, running_sums_from, running_sums, open_refusals, header_length_fault, map_fault}
use Rattle.block_service.specs.Service.{refusals, lent_refusals, move_answer, effect, decide, with_attributes, with_protected, perform, buffer_of, step}
use Rattle.block_service.specs.Service.{Result, Call, set_attributes, read, write, erase_blocks}
use Rattle.settings.specs.Settings.{status_bits, changes_fixed, raises, clears, breaks_lock, changes_locked, lacks_capability, setting_refusals}
use Rattle.volume.specs.ExtendedHeader.{ext_offset, ext_fault}
use Rattle.volume.specs.State.{map_of, state_of, state_with, zero_state, unlawful}
use Rattle.sections.specs.Types.{info_among, type_info}
use Rattle.sections.specs.Header.{is_long, header_length, size_at, size_faults, head_faults, head_in, head_at, section_of, packed, contents_at, wrong_contents}
use Rattle.sections.specs.Walk.{stream_limit, stream_walk, walk, siblings, meet, after_padding, zeros, and_then}
use Rattle.sections.specs.Search.{search_of, sections, first_fault, of_type}
use Rattle.sections.specs.declared.header.Mode.TheVariants.{Framework, Pi}
use Rattle.listing.specs.Decimal.{decimal, digits, places, places_from}
use Rattle.listing.specs.Listing.{field, line, lines_of, listing, map_lines}
use Rattle.table.specs.SampleA.{header_a, sample_a, sums_a, lines_a}
use Rattle.table.proofs.Instances.{state_a}

-- a call on sample A and the state that opening it answers
unfoldable pub on_a : Call → Result
unfolding state_a
on_a call = step state_a sample_a call

-- a call on what another left
unfoldable pub after : Result → Call → Result
after r call = step r.state r.volume call

-- a result answers document 01's number with these values
abbrev pub Answers : Result → ℕ → List ℕ → Type 0
Answers r n values = (number_of r.answer ≡ n) × (values_of r.answer ≡ values)

-- A with checksum C1 57
unfoldable pub bad_sum : List ℕ
bad_sum = set sample_a 50 0xC1

-- the stream of P13
unfoldable pub stream : List ℕ
stream = 0x05 ∷ 0x00 ∷ 0x00 ∷ 0x19 ∷ 0xAA ∷ 0x00 ∷ 0x00 ∷ 0x00 ∷ 0x04 ∷ 0x00 ∷ 0x00 ∷ 0x19 ∷ []

pub record Table : Type 0 where
  -- A opens: GUID zero, length 2,048, attributes 0x0E3F, base 0, edition 1, one entry of 4 blocks of 512
  pub P1 : open_volume sample_a 0 ≡ opened (state_of (replicate 16 0) 2048 0x0E3F 0 1 1 (4 ∷ 512 ∷ []))
  -- A with checksum C1 57 gives 105
  pub P2 : open_volume bad_sum 0 ≡ opens (refused 105) zero_state
  -- reading block 1 offset 500, 12 bytes: success, 12
  pub P3 : Answers (on_a (read 1 500 (replicate 12 0))) 0 (12 ∷ [])
  -- 13 bytes: 4, 12
  pub P4 : Answers (on_a (read 1 500 (replicate 13 0))) 4 (12 ∷ [])
  -- offset 512, 1 byte: 4, 0
  pub P5 : Answers (on_a (read 1 512 (replicate 1 0))) 4 (0 ∷ [])
  -- block 4: 2
  pub P6 : Answers (on_a (read 4 0 (replicate 1 0))) 2 []
  -- in A writing 0F then F0 at block 2 offset 0 leaves 00 at byte 1024, and every other byte as it was
  pub P7 : (after (on_a (write 2 0 (0x0F ∷ []))) (write 2 0 (0xF0 ∷ []))).volume ≡ set sample_a 1024 0x00
  -- erase 3, 1, end: good; block 3 holds FF already, so every byte is as it was
  pub P8 : Answers (on_a (erase_blocks (3 ∷ 1 ∷ end_of_list ∷ []))) 0 []
  pub p8_bytes : (on_a (erase_blocks (3 ∷ 1 ∷ end_of_list ∷ []))).volume ≡ sample_a
  -- and where byte 1600 of it was written to 00, it is FF again
  pub p8_again : (after (on_a (write 3 64 (0x00 ∷ []))) (erase_blocks (3 ∷ 1 ∷ end_of_list ∷ []))).volume ≡ sample_a
  -- 3, 2, end: 2
  pub P9 : Answers (on_a (erase_blocks (3 ∷ 2 ∷ end_of_list ∷ []))) 2 []
  -- 2^64 - 2, 3, end: 2
  pub P10 : Answers (on_a (erase_blocks (0xFFFFFFFFFFFFFFFE ∷ 3 ∷ end_of_list ∷ []))) 2 []
  -- settings 0x0E3B: good, the state has them, and reads then give 15
  pub P11 : Answers (on_a (set_attributes 0x0E3B)) 0 (0x0E3B ∷ [])
  pub p11_state : (on_a (set_attributes 0x0E3B)).state ≡ state_of (replicate 16 0) 2048 0x0E3B 0 1 1 (4 ∷ 512 ∷ [])
  pub p11_read : Answers (after (on_a (set_attributes 0x0E3B)) (read 0 0 (replicate 1 0))) 15 []
  -- settings 0x0EBF: 2
  pub P12 : Answers (on_a (set_attributes 0x0EBF)) 2 []
  -- raw instance 1 is empty, instance 2 gives 14
  pub P13 : search_of Framework stream 0x19 1 ≡ success (12 ∷ 12 ∷ [])
  pub p13_none : search_of Framework stream 0x19 2 ≡ refused 14
  -- the same in PI mode (02, i)
  pub p13_pi : search_of Pi stream 0x19 1 ≡ success (12 ∷ 12 ∷ [])
  pub p13_pi_none : search_of Pi stream 0x19 2 ≡ refused 14

-- everything that the rows compute with: opening, the calls, and sections
unfoldable pub opening : Unit {0}
unfolding header_a sample_a open_volume state_at state_of state_with zero_state words_at word_sum open_refusals header_length_fault map_fault ext_offset ext_fault first_refusal any le number_of values_of
opening = tt

unfoldable pub judging : Unit {0}
unfolding known_edition attributes_fault base_fault blocks bytes has_zero all_zero size_fault map_of unlawful setting_refusals status_bits changes_fixed raises clears breaks_lock changes_locked lacks_capability
judging = tt

unfoldable pub moving : Unit {0}
unfolding place place_from start_of length_of block_at count_moved written_byte good_list names reaches erased_byte write_change erase_change changed_byte edit
moving = tt

unfoldable pub calling : Unit {0}
unfolding refusals lent_refusals move_answer effect decide with_attributes with_protected perform buffer_of step
calling = tt

searching : Unit {0}
unfolding info_among type_info head_in head_at head_faults size_faults is_long header_length size_at section_of packed contents_at wrong_contents stream_limit stream_walk walk siblings meet after_padding zeros and_then
searching = tt

pub table : Table
unfolding opening judging moving calling searching state_a on_a after bad_sum stream search_of sections first_fault of_type
table =
    record {
      P1 = refl;
      P2 = refl;
      P3 = (refl, refl);
      P4 = (refl, refl);
      P5 = (refl, refl);
      P6 = (refl, refl);
      P7 = refl;
      P8 = (refl, refl);
      p8_bytes = refl;
      p8_again = refl;
      P9 = (refl, refl);
      P10 = (refl, refl);
      P11 = (refl, refl);
      p11_state = refl;
      p11_read = (refl, refl);
      P12 = (refl, refl);
      P13 = refl;
      p13_none = refl;
      p13_pi = refl;
      p13_pi_none = refl;
    }

-- "for A prints": the listing of sample A's bytes, text by text
pub lister : listing sample_a ≡ lines_a
unfolding opening judging listing lines_of map_lines line field decimal places places_from digits lines_a
lister = refl

-- beside the table: the sums of sample A's header, word by word
pub running_sums_lem : running_sums header_a ≡ sums_a
unfolding header_a sums_a running_sums_from
running_sums_lem = refl
