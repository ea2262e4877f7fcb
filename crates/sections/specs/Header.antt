-- The header of one section (002, "Section Layout"; 01, "Sections"; 02, i): its fields, its faults and what it opens.
-- A stream is a list of bytes; a byte past its end counts as 0.
use Rattle.std.specs.Prelude.{ℕ, ◌≡◌, ◌+◌, ◌-◌, ◌%◌, ◌≤◌, ◌<◌, ◌^◌, Bool, true, false, cond, not, ◌&&◌, ◌||◌, List, [], ◌∷◌, ◌++◌, eqb, ltb, length, get_or, Option, Some, None, IfSome, Result, Ok, Err}
use Rattle.common.specs.Refusal.{number}
use Rattle.common.specs.Refusals.{Row, row, first_refusal, unless_refused}
use Rattle.common.specs.declared.refusal.Refusal.{Refusal}
use Rattle.numbers.specs.LittleEndian.{le}
use Rattle.sections.specs.Types.{compression, common_header, compression_header, guid_defined_header, type_info}
use Rattle.sections.specs.declared.header.Mode.{Mode}
use Rattle.sections.specs.declared.header.Mode.TheVariants.{Framework, Pi}
use Rattle.sections.specs.declared.header.Header.{Header}
use Rattle.sections.specs.declared.header.Section.{Section}
use Rattle.sections.specs.declared.types.Class.{Class}
use Rattle.sections.specs.declared.types.Class.TheVariants.{OpenableHolder, GuidHeadedLeaf, PlainLeaf}

-- "the caller chooses the mode; Framework files keep the old meaning"
abbrev pub is_pi : Mode → Bool
is_pi Framework = false
is_pi Pi = true

-- "a section is a 24-bit size (header included), an 8-bit type, then the rest"
abbrev pub size_field : List ℕ → ℕ → ℕ
size_field s at = le 3 s at

abbrev pub type_at : List ℕ → ℕ → ℕ
type_at s at = get_or s (at + 3) 0

-- the largest 24-bit number, FF FF FF
abbrev pub largest_field : ℕ
largest_field = 0xFFFFFF

-- "in the PI edition a size of FF FF FF means that a 32-bit size follows the type, the header then 8 bytes": 02's long header, which is
-- PI's EFI_COMMON_SECTION_HEADER2, and its 32-bit number PI's ExtendedSize
unfoldable pub is_long : Mode → (field : ℕ) → Bool
is_long mode field = is_pi mode && eqb field largest_field

abbrev pub long_header : ℕ
long_header = 8

-- "the size reader now answers size and header length"
unfoldable pub header_length : Mode → List ℕ → ℕ → ℕ
header_length mode s at = cond (is_long mode (size_field s at)) long_header common_header

unfoldable pub size_at : Mode → List ℕ → ℕ → ℕ
size_at mode s at = cond (is_long mode (size_field s at)) (le 4 s (at + 4)) (size_field s at)

-- what a number of 01 becomes that counts the header's 4 bytes, where the header has `header` bytes: "with it the least sizes of 202, the
-- 9 and 24 of 204 and the start of kind 0's contents grow by 4"
abbrev pub grown : (header n : ℕ) → ℕ
grown header n = n + (header - common_header)

-- the least size of a section of a type
abbrev pub least_size : (header section_type : ℕ) → ℕ
least_size header section_type = grown header (type_info section_type).least

-- "type fields start after it", the header. Compression: "32-bit unpacked length, one byte kind, contents from byte 9"
abbrev pub unpacked_length : List ℕ → (fields : ℕ) → ℕ
unpacked_length s fields = le 4 s fields

abbrev pub compression_kind : List ℕ → (fields : ℕ) → ℕ
compression_kind s fields = get_or s (fields + 4) 0

-- "GUID-defined: 16-byte GUID, 16-bit data offset, 16-bit attributes, contents from the offset"
abbrev pub data_offset : List ℕ → (fields : ℕ) → ℕ
data_offset s fields = le 2 s (fields + 16)

abbrev pub attributes : List ℕ → (fields : ℕ) → ℕ
attributes s fields = le 2 s (fields + 18)

-- the class whose sections may hold others
abbrev pub is_holder : Class → Bool
is_holder OpenableHolder = true
is_holder GuidHeadedLeaf = false
is_holder PlainLeaf = false

-- how many bytes a holder's own fields have, which stand after its header and say what it holds: a compression section's unpacked length and
-- kind, and the GUID, the data offset and the attributes of a GUID-defined one. Of a leaf no field is read, so 0
unfoldable pub own_fields : (section_type : ℕ) → ℕ
own_fields section_type = cond (is_holder (type_info section_type).class) ((type_info section_type).least - common_header) 0

-- the first byte of a holder's contents; the data offset counts from the section's first byte
unfoldable pub contents_at : List ℕ → (at section_type header : ℕ) → ℕ
contents_at s at section_type header =
    cond (eqb section_type compression) (at + grown header compression_header) (at + data_offset s (at + header))

-- packed contents are not searched: a compression kind other than 0, or attribute bit 0 set
unfoldable pub packed : List ℕ → (at section_type header : ℕ) → Bool
packed s at section_type header =
    cond (eqb section_type compression) (not (eqb (compression_kind s (at + header)) 0)) (eqb (attributes s (at + header) % 2) 1)

-- 204: "kind 0 with unpacked length not size minus 9, or data offset below 24 or above size"
unfoldable pub wrong_contents : List ℕ → (at section_type header size : ℕ) → Bool
wrong_contents s at section_type header size =
    cond (eqb section_type compression)
    (eqb (compression_kind s (at + header)) 0 && not (eqb (unpacked_length s (at + header)) (size - grown header compression_header)))
    (ltb (data_offset s (at + header)) (grown header guid_defined_header) || ltb size (data_offset s (at + header)))

-- the faults that the header alone decides, in the order in which they are tested, with `left` bytes left in the stream that holds the
-- section. The second is 02's "201 also where fewer than 8 bytes are left for a long header"; since every header has 4 bytes or more, it
-- includes the first
unfoldable pub size_faults : Mode → (left : ℕ) → List ℕ → ℕ → List Row
size_faults mode left s at =
    row (ltb left common_header) 201
    ∷ row (ltb left (header_length mode s at)) 201
    ∷ row (ltb (size_at mode s at) (least_size (header_length mode s at) (type_at s at))) 202
    ∷ row (ltb left (size_at mode s at)) 203
    ∷ []

-- the faults of the section that starts at byte `at`, in the order in which they are tested
unfoldable pub head_faults : Mode → (left : ℕ) → List ℕ → ℕ → List Row
head_faults mode left s at =
    size_faults mode left s at
    ++ (row (is_holder (type_info (type_at s at)).class && wrong_contents s at (type_at s at) (header_length mode s at) (size_at mode s at)) 204 ∷ [])

-- what stands at a start: a fault, a section that is not opened (a leaf, or a holder with packed contents), or a holder whose contents, from
-- `from` to `end`, are searched. A section shows the bytes from `first` to `end`
pub data Head : Type 0 where
  Fault : ℕ → Head
  Closed : (section_type first end : ℕ) → Head
  Open : (section_type first from end : ℕ) → Head

-- a section without a fault, with a header and a size of so many bytes: a holder whose contents are searched, or one that is not opened.
-- It shows what follows its header
unfoldable pub section_of : List ℕ → (at section_type header size : ℕ) → Head
section_of s at section_type header size =
    cond (is_holder (type_info section_type).class && not (packed s at section_type header))
    (Open section_type (at + header) (contents_at s at section_type header) (at + size))
    (Closed section_type (at + header) (at + size))

abbrev pub section_at : Mode → List ℕ → ℕ → Head
section_at mode s at = section_of s at (type_at s at) (header_length mode s at) (size_at mode s at)

-- what stands at byte `at`, where `left` bytes are left in the stream that holds it: the first fault that applies, or the section
unfoldable pub head_in : Mode → (left : ℕ) → List ℕ → ℕ → Head
head_in mode left s at = unless_refused Fault (first_refusal (head_faults mode left s at)) (section_at mode s at)

-- the same of a stream that is a list of bytes
unfoldable pub head_at : Mode → List ℕ → ℕ → Head
head_at mode s at = head_in mode (length s - at) s at

-- what the code answers: a section, by where its contents start that are searched, or the refusal
abbrev pub opened : (section_type first end : ℕ) → Option ℕ → Head
opened t first e None = Closed t first e
opened t first e (Some from) = Open t first from e

abbrev pub head_of : Result Section Refusal → Head
head_of (Ok x) = opened x.section_type x.first x.end x.contents
head_of (Err e) = Fault (number e)

-- private to the code's contracts: what the size reader answers, where `left` bytes are left: a refusal, or the type, the length of the header
-- and the size
pub data Size : Type 0 where
  Refused : ℕ → Size
  Sized : (section_type header size : ℕ) → Size

unfoldable pub sized_at : Mode → (left : ℕ) → List ℕ → ℕ → Size
sized_at mode left s at =
    unless_refused Refused (first_refusal (size_faults mode left s at)) (Sized (type_at s at) (header_length mode s at) (size_at mode s at))

-- the same past 201, of a section with a header and a size of so many bytes, by the least size
abbrev pub tested_of : (left least section_type header size : ℕ) → Size
tested_of left least section_type header size = cond (ltb size least) (Refused 202) (cond (ltb left size) (Refused 203) (Sized section_type header size))

abbrev pub size_of : Result Header Refusal → Size
size_of (Ok x) = Sized x.section_type x.length x.size
size_of (Err e) = Refused (number e)

-- what a holder that passed 201 to 203 is, by its own fields
unfoldable pub holder_of : List ℕ → (at section_type header size : ℕ) → Head
holder_of s at section_type header size =
    cond (wrong_contents s at section_type header size) (Fault 204) (section_of s at section_type header size)

-- and by where the code finds its contents
abbrev pub contents_head : Header → (at : ℕ) → Result (Option ℕ) Refusal → Head
contents_head x at (Ok found) = opened x.section_type (at + x.length) (at + x.size) found
contents_head x at (Err e) = Fault (number e)

-- what a section that passed them is
unfoldable pub past_203 : List ℕ → (at : ℕ) → Header → Head
past_203 s at x =
    cond (is_holder (type_info x.section_type).class) (holder_of s at x.section_type x.length x.size)
    (Closed x.section_type (at + x.length) (at + x.size))

-- a header has the class of its type
abbrev pub IsClassed : Header → Type 0
IsClassed x = x.class ≡ (type_info x.section_type).class

-- the first bytes of a section, so many where its header has 4, lie in the bytes that are read
pub record Lies (s : List ℕ) (at : ℕ) (x : Header) (n : ℕ) : Type 0 where
  pub header_least : common_header ≤ x.length
  pub header_most : x.length ≤ long_header
  pub least : grown x.length n ≤ x.size
  pub fields : at + grown x.length n ≤ length s
  pub bound : at + x.size < 2 ^ 64

-- a section that was read lies after the start, inside its stream, and its contents inside it
pub record IsWithin (s : List ℕ) (at : ℕ) (x : Section) : Type 0 where
  pub after : at + common_header ≤ x.first
  pub shown : x.first ≤ x.end
  pub inside : x.end ≤ length s
  pub contents : IfSome x.contents (λ from. from ≤ x.end)
