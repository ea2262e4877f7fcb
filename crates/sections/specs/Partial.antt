-- A section header of which only the first bytes came (02, c; i): what they say so far. "A fault is found when the last byte its test reads
-- has come".
use Rattle.std.specs.Prelude.{ℕ, ◌+◌, ◌-◌, cond, List, eqb, leb, ltb, Option, Some, None, Result, Ok, Err}
use Rattle.common.specs.Refusal.{number}
use Rattle.common.specs.declared.refusal.Refusal.{Refusal}
use Rattle.sections.specs.Types.{compression, common_header, compression_header}
use Rattle.sections.specs.Header.{Head, type_at, header_length, own_fields, opened, head_in}
use Rattle.sections.specs.declared.header.Mode.{Mode}
use Rattle.sections.specs.declared.header.Section.{Section}

-- the bytes of a size field, of a GUID and of a data offset
abbrev pub size_field_bytes : ℕ
size_field_bytes = 3

abbrev pub guid_bytes : ℕ
guid_bytes = 16

abbrev pub data_offset_bytes : ℕ
data_offset_bytes = 2

-- how many bytes of a holder's own fields there are up to the last that 204 tests: of a compression section all, its unpacked length and its kind;
-- of a GUID-defined one its GUID and the data offset, which follows it
unfoldable pub contents_fields : (section_type : ℕ) → ℕ
contents_fields section_type = cond (eqb section_type compression) (compression_header - common_header) (guid_bytes + data_offset_bytes)

-- how many bytes of a section must have come for its fault of a number to be found, where `left` bytes are left in the stream that holds it.
-- 201: "reads none", and where fewer than 8 are left for a long header it is "found at its third byte". "204 and 205 the whole fields they test":
-- 205 tests what says that contents are to be searched, which is the last of a holder's own fields, a compression section's kind or a
-- GUID-defined one's attributes. 202 and 203, the last row (no other number is asked), "read size and type", which a long header has in its 8 bytes
unfoldable pub bytes_for : Mode → (left : ℕ) → List ℕ → (at number : ℕ) → ℕ
bytes_for mode left s at number =
    cond (eqb number 201) (cond (ltb left common_header) 0 size_field_bytes)
    (cond (eqb number 204) (header_length mode s at + contents_fields (type_at s at))
    (cond (eqb number 205) (header_length mode s at + own_fields (type_at s at))
    (header_length mode s at)))

-- how many decide what stands there: those of its fault or, where it has none, its header with a holder's own fields
unfoldable pub bytes_for_head : Mode → (left : ℕ) → List ℕ → (at : ℕ) → Head → ℕ
bytes_for_head mode left s at (Head.Fault n) = bytes_for mode left s at n
bytes_for_head mode left s at (Head.Closed t first e) = header_length mode s at + own_fields t
bytes_for_head mode left s at (Head.Open t first from e) = header_length mode s at + own_fields t

unfoldable pub needed : Mode → (left : ℕ) → List ℕ → (at : ℕ) → ℕ
needed mode left s at = bytes_for_head mode left s at (head_in mode left s at)

-- what the first bytes of a section say: too little yet; or, in places counted from its first byte, a fault, a section that is not opened, or a
-- holder whose contents, from `from` to `end`, are searched. A section shows the bytes from `first` to `end`
pub data Partial : Type 0 where
  Waiting : Partial
  Fault : ℕ → Partial
  Closed : (section_type first end : ℕ) → Partial
  Open : (section_type first from end : ℕ) → Partial

-- what stands there, once it is decided
unfoldable pub decided : Head → Partial
decided (Head.Fault n) = Partial.Fault n
decided (Head.Closed t first e) = Partial.Closed t first e
decided (Head.Open t first from e) = Partial.Open t first from e

-- what stands at the start of bytes of which the first `have` came, so far as these decide it
unfoldable pub partial_of : Mode → List ℕ → (have left : ℕ) → Partial
partial_of mode s have left = cond (leb (needed mode left s 0) have) (decided (head_in mode left s 0)) Partial.Waiting

-- what the code answers: none while it waits, a section, or the refusal
abbrev pub partial_answer : Result (Option Section) Refusal → Partial
partial_answer (Ok None) = Partial.Waiting
partial_answer (Ok (Some x)) = decided (opened x.section_type x.first x.end x.contents)
partial_answer (Err e) = Partial.Fault (number e)

-- private to the proofs: how many bytes after the header decide a holder that passed 201 to 203
unfoldable pub fields_for : (section_type : ℕ) → Head → ℕ
fields_for t (Head.Fault n) = contents_fields t
fields_for t (Head.Closed u first e) = own_fields t
fields_for t (Head.Open u first from e) = own_fields t
