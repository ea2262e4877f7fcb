-- The theorems of this crate, in document 01's order ("Sections"; 02, i, f and c): their words, the statement over the definitions of specs/ that the
-- contracts cite, and where it is proved.
use Prim.Native.Nat.{ℕ, suc, ◌+◌, ◌-◌, ◌%◌, ◌≤◌, ◌<◌}
use mathlib.Core.Path.{◌≡◌, refl}
use mathlib.Core.Bool.{true, false}
use mathlib.Core.List.{List, [], ◌∷◌, ◌++◌}
use mathlib.Core.Logic.{◌⊎◌, ◌↔◌}
use mathlib.Core.Option.{none, some}
use lib.ListN.{length, get_or, take}
use native.Mathlib.Omega.{arith}
use Rattle.common.specs.Answers.{refused, success, number_of}
use Rattle.common.specs.Refusals.{first_refusal}
use Rattle.numbers.specs.LittleEndian.{le, le_bytes}
use Rattle.sections.specs.Types.{type_is, info_among, type_info}
use Rattle.sections.specs.Header.{size_field, is_long, header_length, size_at, type_at, grown, least_size, unpacked_length, compression_kind, data_offset, attributes}
use Rattle.sections.specs.Header.{own_fields, contents_at, packed, wrong_contents, size_faults, head_faults, section_of, section_at, head_in, head_at}
use Rattle.sections.specs.Partial.{decided, partial_of}
use Rattle.sections.specs.Walk.{Trace, done, fault, section, and_then, aligned, zeros, first_nonzero, part, after_padding, meet, siblings, walk, stream_limit, stream_walk}
use Rattle.sections.specs.Search.{Section, sections, first_fault, of_type, search_of, first_answer, search_first_of, WellFormed, count_of}
use Rattle.sections.specs.Append.{leaf_header, leaf_start, used_after, append_of, buffer_after}
use Rattle.sections.specs.declared.header.Mode.{Mode}
use Rattle.sections.specs.declared.header.Mode.TheVariants.{Framework, Pi}
use Rattle.sections.specs.declared.types.TypeName.TheVariants.{Unknown}
use Rattle.sections.specs.declared.types.Class.TheVariants.{PlainLeaf}
use Rattle.sections.specs.Header.{Fault, Closed, Open}
use Rattle.sections.specs.Partial.{Waiting}
use Rattle.sections.proofs.FrameworkMode as framework
use Rattle.sections.proofs.types.Rows as rows
use Rattle.sections.proofs.header.Sizes as sizes
use Rattle.sections.proofs.header.Cases as cases
use Rattle.sections.proofs.header.Decided as head-decided
use Rattle.sections.proofs.header.Extent as extent
use Rattle.sections.proofs.partial.Enough as enough
use Rattle.sections.proofs.walk.Padding as padding
use Rattle.sections.proofs.walk.Starts as starts
use Rattle.sections.proofs.search.First as first
use Rattle.sections.proofs.search.Modes as modes
use Rattle.sections.proofs.search.Order as order
use Rattle.sections.proofs.search.Shown as shown
use Rattle.sections.proofs.search.Stops as stops
use Rattle.sections.proofs.search.Unread as unread
use Rattle.sections.proofs.append.Refusals as refusals
use Rattle.sections.proofs.append.Stream as stream

-- what the examples compute with: the header at a start, and the rest
unfoldable headers : Unit {0}
unfolding le info_among type_info first_refusal is_long header_length size_at size_faults head_faults packed contents_at wrong_contents section_of head_in head_at
headers = tt

unfoldable examples : Unit {0}
unfolding headers zeros after_padding meet and_then siblings walk stream_limit stream_walk sections first_fault of_type search_of first_answer
examples = tt

-- ---- types and classes

-- "Types: 0x01 compression, .. 0x1B PEI dependency": the number, the class and the least size of each of the thirteen
pub types-listed : rows.Listed
types-listed = rows.listed

-- "unknown types are plain leaves"
pub types_unknown : (t : ℕ) → (t ≡ 0x01 → ⊥) → (t ≡ 0x02 → ⊥) → (t ≡ 0x10 → ⊥) → (t ≡ 0x11 → ⊥) → (t ≡ 0x12 → ⊥) → (t ≡ 0x13 → ⊥) → (t ≡ 0x14 → ⊥)
    → (t ≡ 0x15 → ⊥) → (t ≡ 0x16 → ⊥) → (t ≡ 0x17 → ⊥) → (t ≡ 0x18 → ⊥) → (t ≡ 0x19 → ⊥) → (t ≡ 0x1B → ⊥)
    → type_info t ≡ type_is Unknown PlainLeaf 4
types_unknown = rows.unlisted

-- ---- the header at a start

module _ (s : List ℕ) (at : ℕ) where
  -- "in the PI edition a size of FF FF FF means that a 32-bit size follows the type, the header then 8 bytes"
  pub pi_long : size_field s at ≡ 0xFFFFFF → (header_length Pi s at ≡ 8) × (size_at Pi s at ≡ le 4 s (at + 4))
  pi_long field = let e = sizes.pi_long Pi s at refl field in (sizes.long_header_lem Pi s at e, sizes.long_size Pi s at e)

  pub pi_short : (size_field s at ≡ 0xFFFFFF → ⊥) → (header_length Pi s at ≡ 4) × (size_at Pi s at ≡ size_field s at)
  pi_short field = let e = sizes.not_long Pi s at field in (sizes.short_header Pi s at e, sizes.short_size_lem Pi s at e)

  -- "Framework files keep the old meaning"
  pub framework_short : (header_length Framework s at ≡ 4) × (size_at Framework s at ≡ size_field s at)
  framework_short =
      let e = sizes.not_long_framework (size_field s at) in
      (sizes.short_header Framework s at e, sizes.short_size_lem Framework s at e)

module _ (mode : Mode) (s : List ℕ) (at : ℕ) where
  -- the length of the header, the size and the type there, and the bytes left
  abbrev h : ℕ
  h = header_length mode s at

  abbrev z : ℕ
  z = size_at mode s at

  abbrev t : ℕ
  t = type_at s at

  abbrev left : ℕ
  left = length s - at

  -- a section that passes 201 to 203, by its type
  module _ (headed : h ≤ left) (least : least_size h t ≤ z) (fits : z ≤ left) where
    passes : sizes.Fits mode left s at
    passes = let r = sizes.header_range mode s at in record { four = omega arith; headed = headed; least = least; fits = fits }

    -- "a section is a 24-bit size (header included), an 8-bit type, then the rest": a type that is no holder is not opened
    pub leaf_closed : (t ≡ 0x01 → ⊥) → (t ≡ 0x02 → ⊥) → head_at mode s at ≡ Closed t (at + h) (at + z)
    leaf_closed = cases.leaf_closed mode s at passes

    -- "compression: .. contents from byte 9; contents are searched only for kind 0"
    pub compression_open : t ≡ 0x01 → compression_kind s (at + h) ≡ 0 → unpacked_length s (at + h) ≡ z - grown h 9
        → head_at mode s at ≡ Open 0x01 (at + h) (at + grown h 9) (at + z)
    compression_open = cases.compression_open mode s at passes

    pub compression_closed : t ≡ 0x01 → (compression_kind s (at + h) ≡ 0 → ⊥) → head_at mode s at ≡ Closed 0x01 (at + h) (at + z)
    compression_closed = cases.compression_closed mode s at passes

    -- "GUID-defined: .. contents from the offset; searched only if attribute bit 0 is clear"
    pub guid_open : t ≡ 0x02 → grown h 24 ≤ data_offset s (at + h) → data_offset s (at + h) ≤ z → attributes s (at + h) % 2 ≡ 0
        → head_at mode s at ≡ Open 0x02 (at + h) (at + data_offset s (at + h)) (at + z)
    guid_open = cases.guid_open mode s at passes

    pub guid_closed : t ≡ 0x02 → grown h 24 ≤ data_offset s (at + h) → data_offset s (at + h) ≤ z → attributes s (at + h) % 2 ≡ 1
        → head_at mode s at ≡ Closed 0x02 (at + h) (at + z)
    guid_closed = cases.guid_closed mode s at passes

    -- "204 kind 0 with unpacked length not size minus 9, or data offset below 24 or above size"
    pub header_204 : ((t ≡ 0x01) × (compression_kind s (at + h) ≡ 0) × (unpacked_length s (at + h) ≡ z - grown h 9 → ⊥))
        ⊎ ((t ≡ 0x02) × ((data_offset s (at + h) < grown h 24) ⊎ (z < data_offset s (at + h))))
        → head_at mode s at ≡ Fault 204
    header_204 = cases.head_204 mode s at passes

    -- where none of the tests applies, the section is there
    pub header_accepted : (t ≡ 0x01 → compression_kind s (at + h) ≡ 0 → unpacked_length s (at + h) ≡ z - grown h 9)
        → (t ≡ 0x02 → (grown h 24 ≤ data_offset s (at + h)) × (data_offset s (at + h) ≤ z))
        → head_at mode s at ≡ section_at mode s at
    header_accepted = cases.accepted mode s at passes

  -- "201 1 to 3 bytes left at a start", "201 also where fewer than 8 bytes are left for a long header"
  pub header_201 : left < h → head_at mode s at ≡ Fault 201
  header_201 = cases.head_201 mode s at

  -- "202 size below 4 (9 for compression, 24 GUID-defined, 20 free-form GUID)", with a long header 4 more
  pub header_202 : h ≤ left → z < least_size h t → head_at mode s at ≡ Fault 202
  header_202 = cases.head_202 mode s at

  -- "203 end past the holding stream"
  pub header_203 : h ≤ left → least_size h t ≤ z → left < z → head_at mode s at ≡ Fault 203
  header_203 = cases.head_203 mode s at

  -- "given exactly when", "first that applies": a fault has one of these four numbers, and its test is the first that applies
  pub header_faults : (n : ℕ) → (head_at mode s at ≡ Fault n)
      ↔ ((n ≡ 201) × (left < h))
      ⊎ ((n ≡ 202) × (h ≤ left) × (z < least_size h t))
      ⊎ ((n ≡ 203) × (h ≤ left) × (least_size h t ≤ z) × (left < z))
      ⊎ ((n ≡ 204) × (h ≤ left) × (least_size h t ≤ z) × (z ≤ left) × cases.Wrong s at t h z)
  header_faults = cases.faults_exactly mode s at

  -- so at a start stands the first fault that applies, or the section, which passed each of these tests
  pub header_cases : ((n : ℕ) × (head_at mode s at ≡ Fault n) × cases.FirstFault mode s at n) ⊎ ((head_at mode s at ≡ section_at mode s at) × cases.Whole mode s at)
  header_cases = cases.head_cases mode s at

  -- a section shows what follows its header, and lies inside its stream; contents that are searched lie inside their section
  pub closed_within : {t' first e : ℕ} → head_at mode s at ≡ Closed t' first e
      → (at + least_size h t' ≤ e) × (first ≡ at + h) × (at + 4 ≤ first) × (first ≤ e) × (e ≤ length s)
  closed_within = extent.closed_within mode s at

  pub open_within : {t' first f e : ℕ} → head_at mode s at ≡ Open t' first f e
      → (at + least_size h t' ≤ f) × (first ≡ at + h) × (at + 4 ≤ first) × (first ≤ f) × (f ≤ e) × (e ≤ length s)
  open_within = extent.open_within mode s at

-- ---- a header of which the first bytes came (02, c)

-- what stands behind the bytes that came does not matter
pub partial_alike : (mode : Mode) (s s' : List ℕ) (have left : ℕ) → ((i : ℕ) → i < have → get_or s i 0 ≡ get_or s' i 0)
    → partial_of mode s have left ≡ partial_of mode s' have left
partial_alike = enough.partial_alike

-- 28 bytes always decide: what they say is what stands there
pub partial_whole : (mode : Mode) (s : List ℕ) (left : ℕ) → partial_of mode s 28 left ≡ decided (head_in mode left s 0)
partial_whole mode s left = enough.partial_enough mode s 28 left (omega arith)

-- and so do more
pub partial_enough : (mode : Mode) (s : List ℕ) (have left : ℕ) → 28 ≤ have → partial_of mode s have left ≡ decided (head_in mode left s 0)
partial_enough = enough.partial_enough

-- once the bytes say something else than that they are too few, they say the same with more
pub partial_stays : (mode : Mode) (s : List ℕ) (have have' left : ℕ) → have ≤ have' → (partial_of mode s have left ≡ Waiting → ⊥)
    → partial_of mode s have' left ≡ partial_of mode s have left
partial_stays = enough.partial_stays

-- ---- the walk

-- "depth first, left to right": at the end of a stream nothing more; at a start what stands there, a holder's children, its padding and
-- the walk at the next start. The equation has no number that bounds it, and nothing but the walk obeys it
pub walk_law : (mode : Mode) → starts.Law mode (starts.walk_from mode)
walk_law = starts.walk_law

pub walk_only : (mode : Mode) (W : ℕ → List ℕ → ℕ → ℕ → Trace) → starts.Law mode W → (n : ℕ) (s : List ℕ) (base at : ℕ) → W n s base at ≡ starts.walk_from mode n s base at
walk_only = starts.walk_only

pub walk-from_start : (mode : Mode) (n : ℕ) (s : List ℕ) (base : ℕ) → walk mode n s base ≡ starts.walk_from mode n s base 0
walk-from_start = starts.walk-from_start

-- the same case by case
module _ (mode : Mode) (n : ℕ) (s : List ℕ) (base at : ℕ) where
  pub walk_end : length s ≤ at → starts.walk_from mode n s base at ≡ done
  walk_end = starts.walk_end mode n s base at

  pub walk_fault : {m : ℕ} → at < length s → head_at mode s at ≡ Fault m → starts.walk_from mode n s base at ≡ fault m (base + at) (base + length s)
  walk_fault = starts.walk_fault mode n s base at

  pub walk_closed : {t first e : ℕ} → at < length s → head_at mode s at ≡ Closed t first e
      → starts.walk_from mode n s base at ≡ section t (base + first) (base + e) (after_padding s base e (starts.walk_from mode n s base))
  walk_closed = starts.walk_closed mode n s base at

  pub walk_open : {t first f e : ℕ} → at < length s → head_at mode s at ≡ Open t first f e
      → starts.walk_from mode (suc n) s base at
      ≡ section t (base + first) (base + e) (and_then (walk mode n (part f e s) (base + f)) (after_padding s base e (starts.walk_from mode (suc n) s base)))
  walk_open = starts.walk_open mode n s base at

  -- "a holder counts before its children", and they before all that follows it
  pub holder_first : {t first f e : ℕ} → at < length s → head_at mode s at ≡ Open t first f e → first_fault (walk mode n (part f e s) (base + f)) ≡ none
      → sections (starts.walk_from mode (suc n) s base at)
      ≡ record { section_type = t; first = base + first; end = base + e }
      ∷ (sections (walk mode n (part f e s) (base + f)) ++ sections (after_padding s base e (starts.walk_from mode (suc n) s base)))
  holder_first = order.holder_first mode n s base at

-- "205 contents to be searched would lie on a ninth level"
pub walk_205 : (mode : Mode) (s : List ℕ) (base at : ℕ) {t first f e : ℕ} → at < length s → head_at mode s at ≡ Open t first f e
    → starts.walk_from mode 0 s base at ≡ fault 205 (base + at) (base + length s)
walk_205 = starts.walk_205

-- "then 207 nonzero padding"
pub padding_207 : (s : List ℕ) (base e : ℕ) (rest : ℕ → Trace) → zeros s e (aligned e - e) ≡ false
    → after_padding s base e rest ≡ fault 207 (base + first_nonzero s e (aligned e - e)) (base + length s)
padding_207 = padding.padding_207

-- where that fault stands: the first byte of the padding that is not zero
pub first_nonzero_lem : (s : List ℕ) (at n : ℕ) → zeros s at n ≡ false
    → (at ≤ first_nonzero s at n) × (first_nonzero s at n < at + n) × (get_or s (first_nonzero s at n) 0 ≡ 0 → ⊥)
    × ((j : ℕ) → at ≤ j → j < first_nonzero s at n → get_or s j 0 ≡ 0)
first_nonzero_lem = padding.first_nonzero_lem

-- with zero padding the walk goes on at the next start
pub padding_zero : (s : List ℕ) (base e : ℕ) (rest : ℕ → Trace) → zeros s e (aligned e - e) ≡ true → after_padding s base e rest ≡ rest (aligned e)
padding_zero = padding.padding_zero

-- "padding cut off by the stream's end is fine": bytes past the end are never a fault
pub padding_cut : (s : List ℕ) (at n : ℕ) → length s ≤ at → zeros s at n ≡ true
padding_cut = padding.zeros_past

-- ---- searching

module _ (mode : Mode) (s : List ℕ) (t instance : ℕ) where
  -- "206 stream over 16,777,216 bytes"; in PI mode "the stream limit becomes 64 MiB" (below)
  pub search_206 : stream_limit mode < length s → search_of mode s t instance ≡ refused 206
  search_206 = shown.search_206 mode s t instance

  -- "the whole tree is tested before a search answers": its first fault is the answer
  pub search_fault : {n : ℕ} → first_fault (stream_walk mode s) ≡ some n → search_of mode s t instance ≡ refused n
  search_fault = shown.search_fault mode s t instance

  -- on a well-formed stream an instance is found exactly when it is below the number of sections of its type on the walk; "14 section not there"
  pub found_exactly : WellFormed mode s → (number_of (search_of mode s t instance) ≡ 0) ↔ (instance < count_of mode t s)
  found_exactly = shown.found_exactly mode s t instance

  pub search_found : WellFormed mode s → instance < count_of mode t s → (f : ℕ) × (e : ℕ) × (search_of mode s t instance ≡ success (f ∷ e ∷ []))
  search_found = shown.search_found mode s t instance

  pub search_missing : WellFormed mode s → count_of mode t s ≤ instance → search_of mode s t instance ≡ refused 14
  search_missing = shown.search_missing mode s t instance

  -- the part that is shown lies inside the stream
  pub part_inside : (f e : ℕ) → search_of mode s t instance ≡ success (f ∷ e ∷ []) → (f ≤ e) × (e ≤ length s)
  part_inside = shown.part_inside mode s t instance

  -- "contents are searched only for kind 0", "only if attribute bit 0 is clear": what lies in packed contents changes no answer
  pub search_packed : (s' : List ℕ) → length s ≡ length s' → ((i : ℕ) → (unread.OnWalk mode (unread.PackedContents mode) 7 s 0 i → ⊥) → get_or s i 0 ≡ get_or s' i 0)
      → search_of mode s t instance ≡ search_of mode s' t instance
  search_packed s' long same = unread.search_packed mode s s' t long same instance

  -- nor does what lies in any section that is not opened, after its type's own header
  pub search_unread : (s' : List ℕ) → unread.SameBut mode 7 s s' 0 → search_of mode s t instance ≡ search_of mode s' t instance
  search_unread s' = unread.search_unread mode s s' t instance

pub framework_limit : stream_limit Framework ≡ 16777216
unfolding stream_limit
framework_limit = refl

pub pi_limit : stream_limit Pi ≡ 67108864
unfolding stream_limit
pi_limit = refl

-- ---- the first section of a type (02, f)

module _ (mode : Mode) (s : List ℕ) (t : ℕ) where
  -- 206 first, as in the search
  pub first_206 : stream_limit mode < length s → search_first_of mode s t ≡ refused 206
  first_206 = first.first_206 mode s t

  -- "for a well-formed file the answer is the full search's for instance 0"
  pub first_well : WellFormed mode s → search_first_of mode s t ≡ search_of mode s t 0
  first_well = first.first_well mode s t

  -- "a fault at or before the first match in walk order, or any where nothing matches, is answered as now": it is refused exactly where the walk
  -- meets no section of the type, with the fault in which the walk ends or, where that is none, 14; the search then refuses so too, for any instance
  pub first_refused : (n : ℕ) → (search_first_of mode s t ≡ refused n)
      ↔ ((count_of mode t s ≡ 0) × ((first_fault (stream_walk mode s) ≡ some n) ⊎ ((first_fault (stream_walk mode s) ≡ none) × (n ≡ 14))))
  first_refused = first.first_refused mode s t

  pub refused-alike : {n : ℕ} → search_first_of mode s t ≡ refused n → (instance : ℕ) → search_of mode s t instance ≡ refused n
  refused-alike = first.refused-alike mode s t

  -- it is shown exactly where it is the first of its type on the walk
  pub first_shown : (f e : ℕ) → (search_first_of mode s t ≡ success (f ∷ e ∷ [])) ↔ first.FirstMatch t (stream_walk mode s) f e
  first_shown = first.first_shown mode s t

  -- "with a later fault it shows the match and the full one refuses": with a fault in what the walk meets after it; else the full one shows the same
  pub later_fault : {f e : ℕ} (m : first.FirstMatch t (stream_walk mode s) f e) {n : ℕ} → first_fault m.rest ≡ some n
      → (instance : ℕ) → search_of mode s t instance ≡ refused n
  later_fault = first.later_fault mode s t

  pub no_later_fault : {f e : ℕ} (m : first.FirstMatch t (stream_walk mode s) f e) → first_fault m.rest ≡ none → search_of mode s t 0 ≡ success (f ∷ e ∷ [])
  no_later_fault = first.no_later_fault mode s t

  pub shown_or_fault : {f e : ℕ} → search_first_of mode s t ≡ success (f ∷ e ∷ [])
      → (search_of mode s t 0 ≡ success (f ∷ e ∷ []))
      ⊎ ((m : first.FirstMatch t (stream_walk mode s) f e) × (n : ℕ) × (first_fault m.rest ≡ some n) × ((instance : ℕ) → search_of mode s t instance ≡ refused n))
  shown_or_fault = first.shown_or_fault mode s t

  -- the part that is shown lies inside the stream, and a holder's own fields in it
  pub first_inside : (f e : ℕ) → search_first_of mode s t ≡ success (f ∷ e ∷ []) → (f + own_fields t ≤ e) × (e ≤ length s)
  first_inside = first.first_inside mode s t

  -- "without walking the rest": the answer depends on no byte after the match's header, which ends, with a holder's own fields, at byte f + own_fields t
  pub first_stops : (s' : List ℕ) (f e : ℕ) → search_first_of mode s t ≡ success (f ∷ e ∷ []) → length s ≡ length s'
      → ((i : ℕ) → i < f + own_fields t → get_or s i 0 ≡ get_or s' i 0) → search_first_of mode s' t ≡ success (f ∷ e ∷ [])
  first_stops s' = stops.first_stops mode s s' t

  -- nor on what lies in any section that is not opened, after its type's own header, and so not on packed contents
  pub first_unread : (s' : List ℕ) → unread.SameBut mode 7 s s' 0 → search_first_of mode s t ≡ search_first_of mode s' t
  first_unread s' = unread.first_unread mode s s' t

  pub first_packed : (s' : List ℕ) → length s ≡ length s' → ((i : ℕ) → (unread.OnWalk mode (unread.PackedContents mode) 7 s 0 i → ⊥) → get_or s i 0 ≡ get_or s' i 0)
      → search_first_of mode s t ≡ search_first_of mode s' t
  first_packed s' = unread.first_packed mode s s' t

-- the fields of its own that are read of a holder: 5 bytes of a compression section, 20 of a GUID-defined one; of another type, also of a free-form
-- GUID section, none
pub own_fields_lem : (own_fields 0x01 ≡ 5) × (own_fields 0x02 ≡ 20) × ((t : ℕ) → (t ≡ 0x01 → ⊥) → (t ≡ 0x02 → ⊥) → own_fields t ≡ 0)
own_fields_lem = head-decided.own_fields_lem

-- sections of other types that the walk meets first change nothing
pub passed_before : (t : ℕ) (before : List Section) (x : Trace) → of_type t before ≡ [] → first_answer t (first.after before x) ≡ first_answer t x
passed_before = first.passed_before

-- "the matching section's own faults 201 to 205 lie at the match; its children and padding lie after it": from a start on, the fault there is
-- answered, and a section of the type is shown whatever its children and its padding are
module _ (mode : Mode) (t : ℕ) (s : List ℕ) (base at : ℕ) (here : at < length s) where
  pub own_fault : (n : ℕ) {m : ℕ} → head_at mode s at ≡ Fault m → first_answer t (starts.walk_from mode n s base at) ≡ refused m
  own_fault = first.own_fault mode t s base at here

  pub own_205 : {u shown f e : ℕ} → head_at mode s at ≡ Open u shown f e → first_answer t (starts.walk_from mode 0 s base at) ≡ refused 205
  own_205 = first.own_205 mode t s base at here

  pub match_closed : (n : ℕ) {shown e : ℕ} → head_at mode s at ≡ Closed t shown e → first_answer t (starts.walk_from mode n s base at) ≡ success ((base + shown) ∷ (base + e) ∷ [])
  match_closed = first.match_closed mode t s base at here

  pub match_open : (n : ℕ) {shown f e : ℕ} → head_at mode s at ≡ Open t shown f e
      → first_answer t (starts.walk_from mode (suc n) s base at) ≡ success ((base + shown) ∷ (base + e) ∷ [])
  match_open = first.match_open mode t s base at here

-- so the two may differ: a raw section of 4 bytes, then one whose size is 3, which no section has
pub first_differs : (search_first_of Framework (4 ∷ 0 ∷ 0 ∷ 0x19 ∷ 3 ∷ 0 ∷ 0 ∷ 0x19 ∷ []) 0x19 ≡ success (4 ∷ 4 ∷ []))
    × (search_of Framework (4 ∷ 0 ∷ 0 ∷ 0x19 ∷ 3 ∷ 0 ∷ 0 ∷ 0x19 ∷ []) 0x19 0 ≡ refused 202)
unfolding examples
first_differs = (refl, refl)

-- ---- the two modes

-- "Framework files keep the old meaning": every walk is as before request i, but for the place of a fault, which a walk of that time did not say;
-- and every search answers as it did. proofs/FrameworkMode.antt has the definitions of that time
pub stream_walk_as_before : (s : List ℕ) → framework.without_places (stream_walk Framework s) ≡ framework.stream_walk₁ s
stream_walk_as_before = framework.stream_walk_as_before

pub search_as_before : (s : List ℕ) (t instance : ℕ) → search_of Framework s t instance ≡ framework.search_of₁ s t instance
search_as_before = framework.search_as_before

-- a stream within 16 MiB reads the same in both modes where the walk, in either of them, comes to no start with a size field of FF FF FF
pub search_modes : (mode mode' : Mode) (s : List ℕ) (t instance : ℕ) → length s ≤ 16777216 → modes.NoLongField mode 7 s 0
    → search_of mode s t instance ≡ search_of mode' s t instance
search_modes = modes.search_modes

pub first_modes : (mode mode' : Mode) (s : List ℕ) (t : ℕ) → length s ≤ 16777216 → modes.NoLongField mode 7 s 0
    → search_first_of mode s t ≡ search_first_of mode' s t
first_modes = modes.first_modes

-- as every stream in which no three bytes FF follow one another
pub no_three_bytes : (mode : Mode) (n : ℕ) (s : List ℕ) (at : ℕ) → ((i : ℕ) → get_or s i 0 < 256) → modes.NoThree s → modes.NoLongField mode n s at
no_three_bytes = modes.no_three_bytes

-- and with such a field it need not: a raw section of 8 bytes with a long header
pub modes_differ : (search_of Framework (0xFF ∷ 0xFF ∷ 0xFF ∷ 0x19 ∷ 8 ∷ 0 ∷ 0 ∷ 0 ∷ []) 0x19 0 ≡ refused 203)
    × (search_of Pi (0xFF ∷ 0xFF ∷ 0xFF ∷ 0x19 ∷ 8 ∷ 0 ∷ 0 ∷ 0 ∷ []) 0x19 0 ≡ success (8 ∷ 8 ∷ []))
unfolding examples
modes_differ = (refl, refl)

-- ---- appending

-- "a refusal carries no value but its number .. and no lent byte changes"
pub refused_keeps : (mode : Mode) (buffer : List ℕ) (used t : ℕ) (body : List ℕ) → (number_of (append_of mode (length buffer) used t (length body)) ≡ 0 → ⊥)
    → buffer_after mode buffer used t body ≡ buffer
refused_keeps = refusals.refused_keeps

pub append_as_before : (room used t m : ℕ) → append_of Framework room used t m ≡ framework.append_of₁ room used t m
append_as_before = framework.append_as_before

pub buffer_as_before : (buffer : List ℕ) (used t : ℕ) (body : List ℕ) → buffer_after Framework buffer used t body ≡ framework.buffer_after₁ buffer used t body
buffer_as_before = framework.buffer_as_before

-- "appending writes one [a long header] exactly when the size with a short header would reach 16,777,215"
pub append_long : (m : ℕ) → 16777215 ≤ 4 + m → leaf_header Pi m ≡ 8
append_long = refusals.append_long

pub append_short : (m : ℕ) → 4 + m < 16777215 → leaf_header Pi m ≡ 4
append_short = refusals.append_short

pub append_framework : (m : ℕ) → leaf_header Framework m ≡ 4
append_framework = refusals.append_framework

-- the bytes of a long one: FF FF FF, the type and the 32-bit size
pub long_leaf_start : (t m : ℕ) → leaf_start 8 t m ≡ 0xFF ∷ 0xFF ∷ 0xFF ∷ t ∷ le_bytes 4 (8 + m)
unfolding leaf_start le_bytes
long_leaf_start t m = refl

-- "in the new mode 206 at appending stands for the stream limit alone"
pub pi_206 : (room used t m : ℕ) → used_after Pi used m ≤ 67108864 → append_of Pi room used t m ≡ refused 206 → ⊥
pi_206 = refusals.pi_206

-- "a well-formed stream then reads as before with one section more": the used bytes are well formed before, and u is the new used count
module _ (mode : Mode) (buffer : List ℕ) (used t : ℕ) (body : List ℕ) {u : ℕ} (answer : append_of mode (length buffer) used t (length body) ≡ success (u ∷ []))
    (well : WellFormed mode (take used buffer)) where
  pub appended_walk : stream_walk mode (take u (buffer_after mode buffer used t body)) ≡ and_then (stream_walk mode (take used buffer)) (section t (aligned used + leaf_header mode (length body)) u done)
  appended_walk = stream.appended_stream_walk mode buffer used t body answer well

  pub appended_well : WellFormed mode (take u (buffer_after mode buffer used t body))
  appended_well = stream.appended_well mode buffer used t body answer well

  pub appended_sections : sections (stream_walk mode (take u (buffer_after mode buffer used t body)))
      ≡ sections (stream_walk mode (take used buffer)) ++ (record { section_type = t; first = aligned used + leaf_header mode (length body); end = u } ∷ [])
  appended_sections = stream.appended_sections mode buffer used t body answer well

  -- the new section shows the body
  pub appended_body : part (aligned used + leaf_header mode (length body)) u (take u (buffer_after mode buffer used t body)) ≡ body
  appended_body = stream.appended_body mode buffer used t body answer well

  -- a search that showed a part shows the same one, with the same bytes in it
  pub search_kept : (t' i : ℕ) {f e : ℕ} → search_of mode (take used buffer) t' i ≡ success (f ∷ e ∷ [])
      → search_of mode (take u (buffer_after mode buffer used t body)) t' i ≡ success (f ∷ e ∷ [])
  search_kept = stream.search_kept mode buffer used t body answer well

  pub kept_bytes : (t' i : ℕ) {f e : ℕ} → search_of mode (take used buffer) t' i ≡ success (f ∷ e ∷ [])
      → part f e (take u (buffer_after mode buffer used t body)) ≡ part f e (take used buffer)
  kept_bytes = stream.kept_bytes mode buffer used t body answer well

  -- the new type at the instance equal to its earlier number shows the new section
  pub search_new : search_of mode (take u (buffer_after mode buffer used t body)) t (count_of mode t (take used buffer)) ≡ success ((aligned used + leaf_header mode (length body)) ∷ u ∷ [])
  search_new = stream.search_new mode buffer used t body answer well

  -- every other search that answered 14 still does
  pub search_14 : (t' i : ℕ) → search_of mode (take used buffer) t' i ≡ refused 14 → ((t' ≡ t) × (i ≡ count_of mode t (take used buffer)) → ⊥)
      → search_of mode (take u (buffer_after mode buffer used t body)) t' i ≡ refused 14
  search_14 = stream.search_14 mode buffer used t body answer well
