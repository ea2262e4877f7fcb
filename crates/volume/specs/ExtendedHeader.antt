-- The extended header of edition 2 (document 02, a; PI's EFI_FIRMWARE_VOLUME_EXT_HEADER): "16-byte name GUID, 32-bit size, then entries of 16-bit size
-- and 16-bit type up to that size". Its places are bytes of the volume.
use Rattle.std.specs.Prelude.{ℕ, zero, suc, ◌+◌, ◌-◌, Bool, true, false, cond, not, ◌&&◌, List, [], ◌∷◌, ◌==◌, nat_lt}
use Rattle.std.proofs.Math.Option.{Option, none, some}
use Rattle.common.specs.Refusals.{any}
use Rattle.numbers.specs.LittleEndian.{le}

-- the fewest bytes of an extended header, its GUID and its size, and of an entry, its size and its type
abbrev pub min_ext_header : ℕ
min_ext_header = 20

abbrev pub min_ext_entry : ℕ
min_ext_entry = 4

-- "Bytes 52 and 53 become the offset of an extended header (0 for none)"; in edition 1 they are reserved
abbrev pub ext_offset_start : ℕ
ext_offset_start = 52

unfoldable pub ext_offset : ℕ → List ℕ → ℕ
ext_offset edition s = cond (edition == 2) (le 2 s ext_offset_start) 0

-- the size of the extended header that starts at byte o
abbrev pub ext_size_at : List ℕ → ℕ → ℕ
ext_size_at s o = le 4 s (o + 16)

-- an entry: its first byte, its size and its type
pub record Entry : Type 0 where
  pub first : ℕ
  pub size : ℕ
  pub type : ℕ

-- the entry that starts at byte `at`
abbrev pub ext_entry_at : List ℕ → ℕ → Entry
ext_entry_at s at = record { first = at; size = le 2 s at; type = le 2 s (at + 2) }

-- "an entry under 4 bytes, cut or past its end": of an entry that starts at byte `at`, the extended header ending before byte `end`
abbrev pub entry_fault : List ℕ → ℕ → ℕ → Bool
entry_fault s at end = any (nat_lt end (at + min_ext_entry) ∷ nat_lt (le 2 s at) min_ext_entry ∷ nat_lt end (at + le 2 s at) ∷ [])

-- an entry before those that follow it, where they are good
unfoldable pub entry_before : Entry → Option (List Entry) → Option (List Entry)
entry_before e none = none
entry_before e (some rest) = some (e ∷ rest)

-- the entries from byte `at` up to byte `end`, each starting where the one before ends; none where one is at fault. As many steps are allowed as there
-- are bytes, and an entry has four; the laws without steps are `entries_end`, `entries_next` and `entries_fault` (proofs/Theorems)
unfoldable pub entries_in : ℕ → List ℕ → ℕ → ℕ → Option (List Entry)
entries_in zero s at end = cond (at == end) (some []) none
entries_in (suc steps) s at end =
    let later = entry_before (ext_entry_at s at) (entries_in steps s (at + le 2 s at) end) in
    cond (at == end) (some []) (cond (entry_fault s at end) none later)

unfoldable pub entries_from : List ℕ → ℕ → ℕ → Option (List Entry)
entries_from s at end = entries_in (end - at) s at end

-- the entries of the extended header that starts at byte o
abbrev pub ext_entries : List ℕ → ℕ → Option (List Entry)
ext_entries s o = entries_from s (o + min_ext_header) (o + ext_size_at s o)

-- some entry is at fault
unfoldable pub entries_faulty : Option (List Entry) → Bool
entries_faulty none = true
entries_faulty (some entries) = false

-- 112, of a header of h bytes and a volume of `len`: "an extended header that starts inside the main one, leaves the volume, has a size under 20, or
-- holds an entry under 4 bytes, cut or past its end". Offset 0 is no extended header
unfoldable pub ext_fault : List ℕ → ℕ → ℕ → ℕ → Bool
ext_fault s h len o =
    not (o == 0)
    && any
    (nat_lt o h
    ∷ nat_lt len (o + min_ext_header)
    ∷ nat_lt (ext_size_at s o) min_ext_header
    ∷ nat_lt len (o + ext_size_at s o)
    ∷ entries_faulty (ext_entries s o)
    ∷ [])
