-- The volume header (document 01, Header; 000's EFI_FIRMWARE_VOLUME_HEADER), of both editions (document 02, a): what opening reads from it.
-- "Lent" bytes are the caller's slice. Reserved bytes (54, and in edition 1 also 52 and 53) and the zero vector (0..15) are read by nothing but the
-- word sum.
use Rattle.std.specs.Prelude.{ℕ, zero, suc, ◌+◌, ◌-◌, ◌*◌, ◌/◌, ◌%◌, Bool, not, ◌||◌, List, [], ◌∷◌, length, take, drop, ◌==◌, nat_lt, slice_index, Result, Ok, Err}
use Rattle.common.specs.Answers.{Answer, refused, success}
use Rattle.common.specs.Refusal.{number}
use Rattle.common.specs.declared.refusal.Refusal.{Refusal}
use Rattle.common.specs.Refusals.{Row, row, first_refusal, unless_refused, any}
use Rattle.numbers.specs.LittleEndian.{le}
use Rattle.volume.specs.Attributes.{known_edition, attributes_fault, base_fault}
use Rattle.volume.specs.BlockMap.{empty_header, entry_length, header_length, max_entries, has_zero, size_fault}
use Rattle.volume.specs.ExtendedHeader.{ext_offset, ext_fault}
use Rattle.volume.specs.State.{state_of, zero_state, map_of}
use Rattle.volume.specs.declared.state.State.{State}

-- ---- fields

-- bytes 16..31: file system GUID
abbrev pub guid_at : List ℕ → List ℕ
guid_at s = take 16 (drop 16 s)

-- bytes 32..39: volume length
abbrev pub length_at : List ℕ → ℕ
length_at s = le 8 s 32

-- bytes 40..43: signature, which is 5F 46 56 48, "_FVH"
abbrev pub signature_at : List ℕ → ℕ
signature_at s = le 4 s 40

abbrev pub signature : ℕ
signature = 0x4856465F

-- bytes 44..47: attributes
abbrev pub attributes_at : List ℕ → ℕ
attributes_at s = le 4 s 44

-- byte 55: revision, which is the header's edition
abbrev pub revision_at : List ℕ → ℕ
revision_at s = slice_index s 55

-- the first byte of the block map
abbrev pub map_start : ℕ
map_start = 56

-- the fewest bytes of a header, one map entry and the closing pair, and the most
abbrev pub min_header : ℕ
min_header = header_length 1

abbrev pub max_header : ℕ
max_header = header_length max_entries

-- bytes 48..49: header length
abbrev pub header_length_at : List ℕ → ℕ
header_length_at s = le 2 s 48

-- the number of map entries that a header length stands for
abbrev pub entries_of : ℕ → ℕ
entries_of h = (h - empty_header) / entry_length

-- k 32-bit words from byte `at` on
unfoldable pub words_at : ℕ → List ℕ → ℕ → List ℕ
words_at zero s at = []
words_at (suc k) s at = le 4 s at ∷ words_at k s (at + 4)

-- "the 16-bit words of the whole header sum to 0 modulo 65,536"
abbrev pub word_modulus : ℕ
word_modulus = 65536

-- the true sum of the 16-bit words of a byte string
unfoldable pub word_sum : List ℕ → ℕ
word_sum [] = 0
word_sum (a ∷ []) = a
word_sum (a ∷ b ∷ rest) = a + 256 * b + word_sum rest

-- "one 16-bit accumulator that wraps at each addition" (02, d): its values from `sum` on, one after each word, as the boot block's listing has
-- them. 105 and the checksum go by the true sum; that the two agree after every word is `running_sum` (proofs/Theorems)
unfoldable pub running_sums_from : ℕ → List ℕ → List ℕ
running_sums_from sum [] = []
running_sums_from sum (a ∷ []) = (sum + a) % word_modulus ∷ []
running_sums_from sum (a ∷ b ∷ rest) = let next = (sum + (a + 256 * b)) % word_modulus in next ∷ running_sums_from next rest

-- the same of a whole byte string: the accumulator starts at 0
abbrev pub running_sums : List ℕ → List ℕ
running_sums s = running_sums_from 0 s

-- ---- opening

-- GUID, length, attributes, edition and map as the header has them, and the base given
unfoldable pub state_at : List ℕ → ℕ → State
state_at s base =
    let n = entries_of (header_length_at s) in
    state_of (guid_at s) (length_at s) (attributes_at s) base (revision_at s) n (words_at (2 * n) s map_start)

-- 104: header length not a multiple of 8, below 72, above 320 or past the lent bytes
unfoldable pub header_length_fault : ℕ → ℕ → Bool
header_length_fault h lent = any (not (h % entry_length == 0) ∷ nat_lt h min_header ∷ nat_lt max_header h ∷ nat_lt lent h ∷ [])

-- 106: a map pair before the last has a zero count or zero length, or the last is not 0, 0
unfoldable pub map_fault : List ℕ → State → Bool
map_fault s st = has_zero (map_of st) || not (le 8 s (header_length_at s - entry_length) == 0)

-- the refusals of opening, in order; `st` is what the state would be. 108 and 112 ask its edition
unfoldable pub open_refusals : List ℕ → State → List Row
open_refusals s st =
    row (nat_lt (length s) min_header) 101
    ∷ row (not (signature_at s == signature)) 102
    ∷ row (not (known_edition (revision_at s))) 103
    ∷ row (header_length_fault (header_length_at s) (length s)) 104
    ∷ row (not (word_sum (take (header_length_at s) s) % word_modulus == 0)) 105
    ∷ row (map_fault s st) 106
    ∷ row (size_fault st.entries (map_of st) st.length) 107
    ∷ row (attributes_fault st.edition st.attributes) 108
    ∷ row (nat_lt (length s) st.length) 109
    ∷ row (base_fault st.attributes st.base) 110
    ∷ row (ext_fault s (header_length_at s) st.length (ext_offset st.edition s)) 112
    ∷ []

-- what opening answers, and the state beside the answer
pub record Opens : Type 0 where
  pub answer : Answer
  pub state : State

abbrev pub opens : Answer → State → Opens
opens answer st = record { answer = answer; state = st }

-- opening succeeds with a state; beside a refusal stands the zero state
abbrev pub opened : State → Opens
opened st = opens (success []) st

-- what the code answers: the state, or a refusal with its number, beside which stands the zero state
unfoldable pub opening_of : Result State Refusal → Opens
opening_of (Ok st) = opened st
opening_of (Err e) = opens (refused (number e)) zero_state

-- opening: the lent bytes and a base address
unfoldable pub open_volume : List ℕ → ℕ → Opens
open_volume s base =
    let st = state_at s base in
    unless_refused (λ n. opens (refused n) zero_state) (first_refusal (open_refusals s st)) (opened st)

-- the rows 101 to 105 of opening's table, which no state enters, and 106 to 112
abbrev pub bytes_refusals : List ℕ → List Row
bytes_refusals s = take 5 (open_refusals s zero_state)

abbrev pub fields_refusals : List ℕ → State → List Row
fields_refusals s st = drop 5 (open_refusals s st)
