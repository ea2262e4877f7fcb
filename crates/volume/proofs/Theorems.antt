-- What a reader of document 01 may want to know of headers, beyond the contracts of src/: each theorem with 01's words, or those of 02's requests a and d, in 01's order. The
-- proofs are citations; the laws stand under the module of src/ that they serve. That edition 1 is as it was before request a stands in FirstEdition.
use Rattle.std.proofs.Common.{◌≡◌, ℕ, ◌+◌, ◌-◌, ◌*◌, ◌/◌, ◌%◌, ◌^◌, ◌<◌, ◌≤◌, true, false, List, [], ◌∷◌, length, get_or, take}
use mathlib.Core.Option.{none, some}
use Rattle.common.specs.Answers.{refused, success}
use Rattle.common.specs.Refusals.{first_refusal}
use Rattle.common.proofs.Bits.{bit}
use Rattle.numbers.specs.LittleEndian.{le}
use Rattle.volume.specs.Attributes.{known_edition, attributes_fault, base_fault}
use Rattle.volume.specs.BlockMap.{blocks, size_fault}
use Rattle.volume.specs.ExtendedHeader.{min_ext_header, ext_offset, ext_size_at, ext_entry_at, entry_fault, entry_before, entries_from, Entry, entries_faulty, ext_fault}
use Rattle.volume.specs.ExtendedEntry.{entries_listed, ext_entries_of, ext_entry}
use Rattle.volume.specs.State.{map_of, state_of, unlawful, zero_state}
use Rattle.volume.specs.Header.{length_at, revision_at, header_length_at, word_sum, word_modulus, running_sums, state_at, open_refusals, opens, opened, open_volume}
use Rattle.volume.specs.HeaderWriter.{pairs, write_refusals, wrote, write_header}
use Rattle.volume.proofs.block_map.Words.{Sized}
use Rattle.volume.proofs.extended_entry.Numbered.{Answered, InRow}
use Rattle.volume.proofs.extended_header.Entries.{Extended}
use Rattle.volume.proofs.header.Reading.{Agree, SameExtended}
use Rattle.volume.proofs.attributes.Reserved as Reserved
use Rattle.volume.proofs.block_map.Words as Words
use Rattle.volume.proofs.extended_entry.Numbered as Numbered
use Rattle.volume.proofs.extended_header.Entries as Entries
use Rattle.volume.proofs.header.Fields as Fields
use Rattle.volume.proofs.header.Reading as Reading
use Rattle.volume.proofs.header.Sums as Sums
use Rattle.volume.proofs.header_writer.Stores as Stores
use Rattle.volume.proofs.header_writer.RoundTrip as RoundTrip

-- ---- opening

-- "Opening uses 101 to 110 in that order", and "112, last in opening" (02, a): the first row that applies is answered, and "a refusal carries no value but its number"
pub opening_refused : (s : List ℕ) (base n : ℕ) → first_refusal (open_refusals s (state_at s base)) ≡ some n → open_volume s base ≡ opens (refused n) zero_state
opening_refused = Fields.opening_refused

-- where none applies it "answers a state: GUID, length, attributes, map, base", with the edition
pub opening_success : (s : List ℕ) (base : ℕ) → first_refusal (open_refusals s (state_at s base)) ≡ none → open_volume s base ≡ opened (state_at s base)
opening_success = Fields.opening_success

-- "Reserved bytes and the zero vector are ignored when read": byte strings that agree in all else, each with its words summing to 0, open alike. What
-- else edition 2 reads is `SameExtended`; where the revision is not 2 that is nothing, and bytes 52 to 54 are reserved (`nothing_beside`)
pub reserved_ignored : (v w : List ℕ) (base : ℕ) → length v ≡ length w → Agree v w 16 50 → Agree v w 55 72 → Agree v w 55 (header_length_at v) → SameExtended v w
    → word_sum (take (header_length_at v) v) % word_modulus ≡ 0 → word_sum (take (header_length_at v) w) % word_modulus ≡ 0 → open_volume v base ≡ open_volume w base
reserved_ignored = Reading.reserved_ignored

pub nothing_beside : (v w : List ℕ) → (revision_at v ≡ 2 → ⊥) → SameExtended v w
nothing_beside = Reading.nothing_beside

-- and where the words of the one that opens sum to 0 and those of the other do not, the other is refused with 105
pub sum_decides : (v w : List ℕ) (base : ℕ) → length v ≡ length w → Agree v w 16 50 → Agree v w 55 72 → Agree v w 55 (header_length_at v)
    → (open_volume v base).answer ≡ success [] → (word_sum (take (header_length_at v) w) % word_modulus ≡ 0 → ⊥) → open_volume w base ≡ opens (refused 105) zero_state
sum_decides = Reading.sum_decides

-- opening depends on the header's bytes, in edition 2 on the extended header's where there is one, the lent length and the base alone
pub header_only : (v w : List ℕ) (base : ℕ) → length v ≡ length w → Agree v w 0 72 → Agree v w 0 (header_length_at v)
    → ((ext_offset (revision_at v) v ≡ 0 → ⊥) → let o = ext_offset (revision_at v) v in Agree v w o (o + min_ext_header) × Agree v w o (o + ext_size_at v o))
    → open_volume v base ≡ open_volume w base
header_only = Reading.header_only

-- "our limits: 1 to 32 entries, at most 65,536 blocks, length at most 16,777,216": what passes 107
pub limits : (n : ℕ) (words : List ℕ) (len : ℕ) → size_fault n words len ≡ false → Sized n words len
limits = Words.size_passed

-- what opening answers breaks no rule of 111, "beyond its map entries the state holds zeros" among them, and the volume is lent whole
pub opened_lawful : (v : List ℕ) (base : ℕ) → (open_volume v base).answer ≡ success []
    → (unlawful (open_volume v base).state ≡ false) × ((open_volume v base).state.length ≤ length v)
opened_lawful = Reading.opened_lawful

-- no block of it is protected: the first protected block is "the number of blocks where none is, as at opening" (02, j)
pub opened_unprotected : (v : List ℕ) (base : ℕ) → (open_volume v base).answer ≡ success []
    → (open_volume v base).state.protected ≡ blocks (map_of (open_volume v base).state)
opened_unprotected = Reading.opened_unprotected

-- the edition is the header's revision, and 1 or 2
pub opened_edition : (v : List ℕ) (base : ℕ) → (open_volume v base).answer ≡ success []
    → ((open_volume v base).state.edition ≡ revision_at v) × (known_edition (revision_at v) ≡ true)
opened_edition = Reading.opened_edition

-- ---- attributes (02, a)

-- "0x7FE00100 must be zero" in edition 2, and nothing else: attributes pass 108 exactly where they have no bit of that number
pub reserved_zero : (a : ℕ) → attributes_fault 2 a ≡ false → (k : ℕ) → bit 0x7FE00100 k ≡ 1 → bit a k ≡ 0
reserved_zero = Reserved.reserved_zero

pub others_free : (a : ℕ) → ((k : ℕ) → bit 0x7FE00100 k ≡ 1 → bit a k ≡ 0) → attributes_fault 2 a ≡ false
others_free = Reserved.others_free

-- ---- the extended header (02, a)

-- 112 in words: an extended header that passes "starts" behind the main one, does not "leave the volume", has a size of 20 or more, and no entry at fault
pub extended : (v : List ℕ) (h len o : ℕ) → (o ≡ 0 → ⊥) → ext_fault v h len o ≡ false → Extended v h len o
extended v h len o some-offset = Entries.extended v h len o some-offset

-- and one that is so passes
pub extended_passes : (v : List ℕ) (h len o : ℕ) → (o ≡ 0 → ⊥) → Extended v h len o → ext_fault v h len o ≡ false
extended_passes v h len o some-offset = Entries.extended_passes v h len o some-offset

-- "0 for none": then 112 is never due, as in edition 1, whose offset is 0 whatever bytes 52 and 53 hold
pub no_offset : (v : List ℕ) (h len : ℕ) → ext_fault v h len 0 ≡ false
no_offset = Entries.none_due

pub reserved_offset : (v : List ℕ) (edition : ℕ) → (edition ≡ 2 → ⊥) → ext_offset edition v ≡ 0
reserved_offset = Entries.reserved_offset

-- where opening succeeds 112 is not due, against the volume's length
pub opened_extended : (v : List ℕ) (base : ℕ) → (open_volume v base).answer ≡ success []
    → ext_fault v (header_length_at v) (length_at v) (ext_offset (revision_at v) v) ≡ false
opened_extended = Reading.opened_extended

-- "then entries of 16-bit size and 16-bit type up to that size", without the definition's steps: at the end there are no more
pub entries_end : (s : List ℕ) (end : ℕ) → entries_from s end end ≡ some []
entries_end = Entries.entries_end

-- before the end an entry at fault ("under 4 bytes, cut or past its end") leaves none
pub entries_fault : (s : List ℕ) (at end : ℕ) → (at ≡ end → ⊥) → entry_fault s at end ≡ true → entries_from s at end ≡ none
entries_fault = Entries.entries_fault

-- and one that is not stands before those from its end on
pub entries_next : (s : List ℕ) (at end : ℕ) → (at ≡ end → ⊥) → entry_fault s at end ≡ false
    → entries_from s at end ≡ entry_before (ext_entry_at s at) (entries_from s (at + le 2 s at) end)
entries_next = Entries.entries_next

-- so the entries from a byte on are those that stand in a row from there to the end, and none is at fault exactly where there is such a row
pub entries_listed_lem : (s : List ℕ) (at end : ℕ) → entries_faulty (entries_from s at end) ≡ false → InRow s at end (entries_listed (entries_from s at end))
entries_listed_lem = Numbered.entries_listed_lem

pub row_listed : (s : List ℕ) (at end : ℕ) (entries : List Entry) → InRow s at end entries → entries_from s at end ≡ some entries
row_listed = Numbered.row_listed

-- the listing: opening's refusal at base 0 is answered as it is
pub entry_refused : (s : List ℕ) (n k : ℕ) → (open_volume s 0).answer ≡ refused k → ext_entry s n ≡ refused k
entry_refused = Numbered.opening_refusal

-- 14 where there is no extended header, as in edition 1
pub entry_none : (s : List ℕ) → (open_volume s 0).answer ≡ success [] → (n : ℕ) → ext_offset (revision_at s) s ≡ 0 → ext_entry s n ≡ refused 14
entry_none = Numbered.none_listed

-- it succeeds exactly for the numbers below the number of entries
pub entry_below : (s : List ℕ) → (open_volume s 0).answer ≡ success [] → (n : ℕ) → n < length (ext_entries_of s)
    → (f : ℕ) × (z : ℕ) × (t : ℕ) × (ext_entry s n ≡ success (f ∷ z ∷ t ∷ []))
entry_below = Numbered.listed_below

pub entry_past : (s : List ℕ) → (open_volume s 0).answer ≡ success [] → (n : ℕ) → length (ext_entries_of s) ≤ n → ext_entry s n ≡ refused 14
entry_past = Numbered.listed_past

-- what it answers lies inside the extended header, behind its own 20 bytes, and inside the volume; size and type are those that stand there
pub entry_inside : (s : List ℕ) (n f z t : ℕ) → ext_entry s n ≡ success (f ∷ z ∷ t ∷ [])
    → let o = ext_offset (revision_at s) s in Answered s (o + min_ext_header) (o + ext_size_at s o) f z t × (f + z ≤ length_at s)
entry_inside = Numbered.entry_inside

-- entry n + 1 starts where entry n ends
pub entry_after : (s : List ℕ) (n f z t f' z' t' : ℕ) → ext_entry s n ≡ success (f ∷ z ∷ t ∷ []) → ext_entry s (n + 1) ≡ success (f' ∷ z' ∷ t' ∷ []) → f' ≡ f + z
entry_after = Numbered.entry_after

-- all of them stand in a row: the first behind the 20 bytes, each next where the one before ends, and the last ends with the extended header
pub entries_row : (s : List ℕ) → (open_volume s 0).answer ≡ success [] → (ext_offset (revision_at s) s ≡ 0 → ⊥)
    → let o = ext_offset (revision_at s) s in InRow s (o + min_ext_header) (o + ext_size_at s o) (ext_entries_of s)
entries_row = Numbered.entries_row

-- ---- the word sum, line by line (02, d: "one 16-bit accumulator that wraps at each addition")

-- "after each word it holds the true sum so far modulo 65,536": line k of the listing, from 0, of any byte string. That the code's own accumulator does is
-- the invariant of its loop (`invariant-loop-i`, proofs/header/word_sum)
pub running_sum : (s : List ℕ) (k : ℕ) → k < length (running_sums s) → get_or (running_sums s) k 0 ≡ word_sum (take (2 * (k + 1)) s) % word_modulus
running_sum = Sums.running_is

-- the same of a volume's header that is lent whole, in the lent bytes
pub header_sum : (v : List ℕ) (k : ℕ) → header_length_at v ≤ length v → 2 * (k + 1) ≤ header_length_at v
    → get_or (running_sums (take (header_length_at v) v)) k 0 ≡ word_sum (take (2 * (k + 1)) v) % word_modulus
header_sum = Sums.header_running

-- a line for each word; an odd byte at the end is a word
pub running_lines : (s : List ℕ) → length (running_sums s) ≡ (length s + 1) / 2
running_lines = Sums.length_running 0

-- "wraps at each addition": the first line is the first word, each next one the line before it and the word there, modulo 65,536
pub running_first : (s : List ℕ) → 0 < length s → get_or (running_sums s) 0 0 ≡ le 2 s 0 % word_modulus
running_first = Sums.running_first

pub running_step : (s : List ℕ) (k : ℕ) → k + 1 < length (running_sums s)
    → get_or (running_sums s) (k + 1) 0 ≡ (get_or (running_sums s) k 0 + le 2 s (2 * (k + 1))) % word_modulus
running_step = Sums.running_next

-- the last line is what `word_sum` answers, what 105 tests, and what the checksum brings to 0
pub last_sum : (s : List ℕ) → get_or (running_sums s) (length (running_sums s) - 1) 0 ≡ word_sum s % word_modulus
last_sum = Sums.running_last

-- so a header that opens has a last line, and it is 0
pub opened_last_sum : (v : List ℕ) (base : ℕ) → (open_volume v base).answer ≡ success []
    → let sums = running_sums (take (header_length_at v) v) in (0 < length sums) × (get_or sums (length sums - 1) 0 ≡ 0)
opened_last_sum = Reading.opened_zero

-- ---- writing a header

-- a refused request leaves the room as it was
pub writing_refused : (edition offset : ℕ) (guid : List ℕ) (len a : ℕ) (words room : List ℕ) (n : ℕ)
    → first_refusal (write_refusals edition len a words (length room)) ≡ some n → wrote (refused n) room ≡ write_header edition offset guid len a words room
writing_refused = Stores.write_refused

-- "The 16-bit words of the whole header sum to 0 modulo 65,536"
pub written_sum_zero : (edition offset : ℕ) (guid : List ℕ) (len a : ℕ) (words room : List ℕ) → length guid ≡ 16 → (k : ℕ)
    → (write_header edition offset guid len a words room).answer ≡ success (k ∷ [])
    → word_sum (take k (write_header edition offset guid len a words room).room) % word_modulus ≡ 0
written_sum_zero = RoundTrip.written_sum_zero

-- "a volume of that length that starts with it opens, at a base that 110 allows, to the same values", also where more bytes are lent after it
pub round_trip : (guid : List ℕ) (len a : ℕ) (words room : List ℕ) → length guid ≡ 16 → a < 2 ^ 32 → ((i : ℕ) → get_or words i 0 < 2 ^ 32)
    → (k : ℕ) → (write_header 1 0 guid len a words room).answer ≡ success (k ∷ [])
    → (v : List ℕ) → len ≤ length v → take k v ≡ take k (write_header 1 0 guid len a words room).room
    → (base : ℕ) → base_fault a base ≡ false → open_volume v base ≡ opened (state_of guid len a base 1 (pairs words) words)
round_trip = RoundTrip.round_trip

-- of the second writer (02, a): "its header opens where 112 isn't due", to the same values and edition 2; with offset 0 it never is
pub pi_round_trip : (offset : ℕ) → offset < 2 ^ 16 → (guid : List ℕ) (len a : ℕ) (words room : List ℕ) → length guid ≡ 16 → a < 2 ^ 32
    → ((i : ℕ) → get_or words i 0 < 2 ^ 32) → (k : ℕ) → (write_header 2 offset guid len a words room).answer ≡ success (k ∷ [])
    → (v : List ℕ) → len ≤ length v → take k v ≡ take k (write_header 2 offset guid len a words room).room
    → (base : ℕ) → base_fault a base ≡ false → ext_fault v k len offset ≡ false → open_volume v base ≡ opened (state_of guid len a base 2 (pairs words) words)
pi_round_trip = RoundTrip.pi_round_trip

pub pi_round_trip_none : (guid : List ℕ) (len a : ℕ) (words room : List ℕ) → length guid ≡ 16 → a < 2 ^ 32
    → ((i : ℕ) → get_or words i 0 < 2 ^ 32) → (k : ℕ) → (write_header 2 0 guid len a words room).answer ≡ success (k ∷ [])
    → (v : List ℕ) → len ≤ length v → take k v ≡ take k (write_header 2 0 guid len a words room).room
    → (base : ℕ) → base_fault a base ≡ false → open_volume v base ≡ opened (state_of guid len a base 2 (pairs words) words)
pi_round_trip_none = RoundTrip.pi_round_trip_none

-- and where it is due, that is what opening answers
pub pi_refused : (offset : ℕ) → offset < 2 ^ 16 → (guid : List ℕ) (len a : ℕ) (words room : List ℕ) → length guid ≡ 16 → a < 2 ^ 32
    → ((i : ℕ) → get_or words i 0 < 2 ^ 32) → (k : ℕ) → (write_header 2 offset guid len a words room).answer ≡ success (k ∷ [])
    → (v : List ℕ) → len ≤ length v → take k v ≡ take k (write_header 2 offset guid len a words room).room
    → (base : ℕ) → base_fault a base ≡ false → ext_fault v k len offset ≡ true → open_volume v base ≡ opens (refused 112) zero_state
pi_refused = RoundTrip.pi_refused
