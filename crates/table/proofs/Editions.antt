-- Edition 2 by computation (document 02, a), beside document 01's table: a sample volume with an extended header is opened, its entries are listed, its statuses are
-- locked, and it is opened again with a few bytes changed; each row gives what the definitions that the contracts cite compute.
use Prim.Native.Nat.{ℕ, ◌+◌, ◌-◌}
use mathlib.Core.List.{List, [], ◌∷◌}
use mathlib.Core.Path.{◌≡◌, refl}
use lib.ListN.{set, replicate}
use lib.Seq.{sets}
use Rattle.common.specs.Answers.{number_of, values_of, refused, success}
use Rattle.common.specs.Refusals.{first_refusal, any}
use Rattle.numbers.specs.LittleEndian.{le, le_bytes}
use Rattle.volume.specs.Attributes.{known_edition, attributes_fault, base_fault}
use Rattle.volume.specs.BlockMap.{blocks, bytes, has_zero, all_zero, size_fault}
use Rattle.volume.specs.ExtendedHeader.{ext_offset, entry_before, entries_in, entries_from, entries_faulty, ext_fault}
use Rattle.volume.specs.ExtendedEntry.{entries_listed, ext_entries_of, entry_of, ext_entry}
use Rattle.volume.specs.Header.{open_volume, opened, opens, state_at, words_at, word_sum, open_refusals, header_length_fault, map_fault}
use Rattle.volume.specs.HeaderWriter.{words_bytes, header_front, header_back, header_with, header_bytes}
use Rattle.volume.specs.State.{map_of, state_of, state_with, zero_state, unlawful}
use Rattle.volume.specs.declared.state.State.{State}
use Rattle.block_service.specs.Service.{refusals, effect, decide, with_attributes, perform, buffer_of, set_attributes, step}
use Rattle.settings.specs.Settings.{status_bits, changes_fixed, raises, clears, breaks_lock, changes_locked, lacks_capability, setting_refusals}
use Rattle.isolation.specs.Runs.{run}
use Rattle.table.specs.SamplePI.{header_pi, extended_pi, sample_pi}

-- the state that it opens to, with these settings
unfoldable pub state_pi : ℕ → State
state_pi attributes = state_of (replicate 16 0) 256 attributes 0 2 1 (2 ∷ 128 ∷ [])

-- the sample with another offset, its checksum put right, and an extended header of 20 bytes there: four bytes for its size, 20
unfoldable pub moved_pi : ℕ → List ℕ
moved_pi o = set (set (sets sample_pi (o + 16) (20 ∷ 0 ∷ 0 ∷ 0 ∷ [])) 52 o) 50 (0xF2 + 80 - o)

-- a change of settings on a state and the sample, by number and values
abbrev pub Sets : State → ℕ → ℕ → List ℕ → Type 0
Sets st new n values = let r = step st sample_pi (set_attributes new) in (number_of r.answer ≡ n) × (values_of r.answer ≡ values)

pub record Editions : Type 0 where
  -- it opens to edition 2, and its header is the one that the second writer writes with offset 80
  pub opening : open_volume sample_pi 0 ≡ opened (state_pi 0x5E3F)
  pub writing : header_bytes 2 80 (replicate 16 0) 256 0x5E3F (2 ∷ 128 ∷ []) ≡ header_pi
  -- two entries, and no third
  pub entry_0 : ext_entry sample_pi 0 ≡ success (100 ∷ 4 ∷ 1 ∷ [])
  pub entry_1 : ext_entry sample_pi 1 ≡ success (104 ∷ 8 ∷ 2 ∷ [])
  pub entry_2 : ext_entry sample_pi 2 ≡ refused 14
  -- an extended header of 20 bytes at the header's end, 72, and a byte before it, which is inside the header: 112; offset 0 is none
  pub at_72 : open_volume (moved_pi 72) 0 ≡ opened (state_pi 0x5E3F)
  pub at_71 : open_volume (moved_pi 71) 0 ≡ opens (refused 112) zero_state
  pub none_there : open_volume (set (set (set sample_pi 52 0) 50 0x42) 51 0x0F) 0 ≡ opened (state_pi 0x5E3F)
  -- a size of 19; of 20, no entry; of 24, the first alone; of 25, a byte is left over; of 33, the second entry's end is not the end
  pub size_19 : open_volume (set sample_pi 96 19) 0 ≡ opens (refused 112) zero_state
  pub size_20 : ext_entry (set sample_pi 96 20) 0 ≡ refused 14
  pub size_24 : ext_entry (set sample_pi 96 24) 1 ≡ refused 14
  pub size_25 : open_volume (set sample_pi 96 25) 0 ≡ opens (refused 112) zero_state
  pub size_33 : open_volume (set sample_pi 96 33) 0 ≡ opens (refused 112) zero_state
  -- a first entry of 0, 3 and 12 bytes, and one of 13, past the end
  pub entry_of_0 : open_volume (set sample_pi 100 0) 0 ≡ opens (refused 112) zero_state
  pub entry_of_3 : open_volume (set sample_pi 100 3) 0 ≡ opens (refused 112) zero_state
  pub entry_of_12 : ext_entry (set sample_pi 100 12) 0 ≡ success (100 ∷ 12 ∷ 1 ∷ [])
  pub entry_of_13 : open_volume (set sample_pi 100 13) 0 ≡ opens (refused 112) zero_state
  -- the read status is locked (0x2000 where 0x1000 stands), and then neither the status nor the lock can be changed; the write status can
  pub locking : Sets (state_pi 0x5E3F) 0x7E3F 0 (0x7E3F ∷ [])
  pub locked_status : Sets (state_pi 0x7E3F) 0x7E3B 15 []
  pub locked_lock : Sets (state_pi 0x7E3F) 0x5E3F 15 []
  pub other_status : Sets (state_pi 0x7E3F) 0x7E1F 0 (0x7E1F ∷ [])
  -- and so of the write status (0x8000 where 0x4000 stands)
  pub write_locking : Sets (state_pi 0x5E3F) 0xDE3F 0 (0xDE3F ∷ [])
  pub locked_write : Sets (state_pi 0xDE3F) 0xDE1F 15 []
  pub locked_write_lock : Sets (state_pi 0xDE3F) 0x5E3F 15 []
  -- in a run: the lock is raised, the status and the lock are asked to fall, and at the end both stand
  pub locked_run : (run (state_pi 0x5E3F) sample_pi (set_attributes 0x7E3F ∷ set_attributes 0x7E3B ∷ set_attributes 0x5E3F ∷ [])).state ≡ state_pi 0x7E3F
  -- without the capability the lock cannot be raised; a foreign bit comes first
  pub no_capability : Sets (state_pi 0x0E3F) 0x2E3F 2 []
  pub foreign_first : Sets (state_pi 0x7E3F) 0x7F3B 2 []

unfoldable pub computing : Unit {0}
unfolding open_volume state_at state_of state_with zero_state words_at word_sum open_refusals header_length_fault map_fault first_refusal any le number_of values_of known_edition attributes_fault base_fault blocks bytes has_zero all_zero size_fault map_of unlawful
computing = tt

unfoldable pub extending : Unit {0}
unfolding ext_offset entry_before entries_in entries_from entries_faulty ext_fault entries_listed ext_entries_of entry_of ext_entry
extending = tt

unfoldable pub setting : Unit {0}
unfolding refusals setting_refusals status_bits changes_fixed raises clears breaks_lock changes_locked lacks_capability effect decide with_attributes perform buffer_of step run
setting = tt

writing_out : Unit {0}
unfolding words_bytes header_front header_back header_with header_bytes le_bytes
writing_out = tt

pub editions : Editions
unfolding header_pi extended_pi sample_pi state_pi moved_pi computing extending setting writing_out
editions =
    record {
      opening = refl;
      writing = refl;
      entry_0 = refl;
      entry_1 = refl;
      entry_2 = refl;
      at_72 = refl;
      at_71 = refl;
      none_there = refl;
      size_19 = refl;
      size_20 = refl;
      size_24 = refl;
      size_25 = refl;
      size_33 = refl;
      entry_of_0 = refl;
      entry_of_3 = refl;
      entry_of_12 = refl;
      entry_of_13 = refl;
      locking = (refl, refl);
      locked_status = (refl, refl);
      locked_lock = (refl, refl);
      other_status = (refl, refl);
      write_locking = (refl, refl);
      locked_write = (refl, refl);
      locked_write_lock = (refl, refl);
      locked_run = refl;
      no_capability = (refl, refl);
      foreign_first = (refl, refl);
    }
