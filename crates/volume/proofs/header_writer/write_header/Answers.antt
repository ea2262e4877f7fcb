-- `volume::header_writer::write_header` meets its contract: the stores make the header, then its checksum.
use Rattle.std.proofs.Common.{◌≡◌, ℕ, ◌%◌, ◌≤◌, false, List, [], ◌∷◌, ◌++◌, length, take, drop, replicate, sym, refl, ap, ◌∙◌, arith, take_at, rules, le-ltb, eq-eqb}
use mathlib.Core.Option.{none}
use lib.Seq.{sets}
use Rattle.common.specs.Answers.{success}
use Rattle.common.specs.Refusals.{first_refusal}
use Rattle.numbers.specs.LittleEndian.{le_bytes}
use Rattle.volume.specs.Attributes.{attributes_fault}
use Rattle.volume.specs.BlockMap.{header_length, size_fault}
use Rattle.volume.specs.ExtendedHeader.{ext_offset_start}
use Rattle.volume.specs.Header.{map_start, word_modulus, word_sum}
use Rattle.volume.specs.HeaderWriter.{checksum, header_bytes, header_back, header_front, header_with, pairs, words_bytes, words_fault, write_refusals, written_answer, wrote, offset_of, revision_of}
use Rattle.volume.proofs.block_map.Words.{Sized, size_passed, size_tested}
use Rattle.volume.proofs.header_writer.Stores.{write_done, header_stored, checksum-stored, length_header}
use Rattle.volume.proofs.header_writer.write_header.Goals as goal
use Rattle.volume.proofs.header_writer.write_header.Goals.{After-store_map, Else-attributes_fault, Else-map-ne0, Else-map_fault, Else-room-header, Start}

-- the GUID is an array of 16 bytes
guid_length : (c : Start) → length c.args.guid ≡ 16
guid_length c = search rules

abbrev words : Else-map-ne0 → List ℕ
words c = c.args.map.now

-- the tests that each next one stands behind, as the table has them
words_ok : (c : Else-map-ne0) → words_fault (words c) ≡ false
unfolding words_fault
words_ok c = rw (sym c.has_zero.ensures ∙ c.if-has_zero.false, eq-eqb _ _ c.if-map-ne0.false)

sized : (c : Else-map_fault) → size_fault (pairs (words (goal.at.Else-map_fault c).Else-map-ne0)) (words (goal.at.Else-map_fault c).Else-map-ne0) c.args.len ≡ false
sized c = sym (size_tested c.args.map.now c.args.len (sym c.has_zero.ensures ∙ c.if-has_zero.false) refl c.map_fault.ensures) ∙ c.if-map_fault.false

allowed : (c : Else-attributes_fault) → (let a = c.args in attributes_fault (revision_of a.edition) a.attributes) ≡ false
allowed c = rw c.revision.ensures at (sym c.attributes_fault.ensures ∙ c.if-attributes_fault.false)

-- an accepted request: the arguments, their sizes, and the header that they make
module _ (c : Else-room-header) where
  abbrev guid : List ℕ
  guid = c.args.guid

  abbrev room : List ℕ
  room = c.args.room.now

  abbrev header : ℕ → List ℕ
  header sum = let a = c.args in header_with sum (revision_of a.edition) (offset_of a.edition) guid a.len a.attributes (words (goal.at.Else-room-header c).Else-map-ne0)

  abbrev long : ℕ
  long = c.header_length-header.result

  long_is : long ≡ header_length (pairs (words (goal.at.Else-room-header c).Else-map-ne0))
  long_is = c.header_length-header.ensures

  fits : Sized (pairs (words (goal.at.Else-room-header c).Else-map-ne0)) (words (goal.at.Else-room-header c).Else-map-ne0) c.args.len
  fits = size_passed _ _ _ (sized (goal.at.Else-room-header c).Else-map_fault)

  within : header_length (pairs (words (goal.at.Else-room-header c).Else-map-ne0)) ≤ length room
  within = search rules

  roomy : first_refusal (write_refusals (revision_of c.args.edition) c.args.len c.args.attributes (words (goal.at.Else-room-header c).Else-map-ne0) (length room)) ≡ none
  unfolding first_refusal write_refusals
  roomy = simp (words_ok (goal.at.Else-room-header c).Else-map-ne0, sized (goal.at.Else-room-header c).Else-map_fault, allowed (goal.at.Else-room-header c).Else-attributes_fault, le-ltb _ _ within)

  header_long : (sum : ℕ) → length (header sum) ≡ header_length (pairs (words (goal.at.Else-room-header c).Else-map-ne0))
  header_long sum = length_header sum _ _ _ _ _ _ (guid_length (goal.at.Else-room-header c).Start) c.if-map-ne0.false

-- after the two stores the room holds the header, with 0 for its checksum
module _ (c : After-store_map) where
  header_there : c.store_map.new.room ≡ header (goal.at.After-store_map c).Else-room-header 0 ++ drop (long (goal.at.After-store_map c).Else-room-header) (room (goal.at.After-store_map c).Else-room-header)
  header_there =
      let a = c.args in
      c.store_map.ensures
      ∙ ap (λ (l : List ℕ). sets l map_start (words_bytes (words (goal.at.After-store_map c).Else-map-ne0) ++ replicate 8 0))
      (c.store_back.ensures
      ∙ ap (λ (l : List ℕ). sets l ext_offset_start (header_back (revision_of a.edition) (offset_of a.edition)))
      (c.store_fields.ensures
      ∙ ap (λ (h : ℕ). sets (room (goal.at.After-store_map c).Else-room-header) 0 (header_front (guid (goal.at.After-store_map c).Else-room-header) a.len a.attributes h ++ le_bytes 2 0)) (long_is (goal.at.After-store_map c).Else-room-header)))
      ∙ header_stored (room (goal.at.After-store_map c).Else-room-header) (revision_of a.edition) (offset_of a.edition) (guid (goal.at.After-store_map c).Else-room-header) a.len a.attributes (words (goal.at.After-store_map c).Else-map-ne0) (guid_length (goal.at.After-store_map c).Start)
      c.if-map-ne0.false (within (goal.at.After-store_map c).Else-room-header)
      ∙ ap (λ (h : ℕ). header (goal.at.After-store_map c).Else-room-header 0 ++ drop h (room (goal.at.After-store_map c).Else-room-header)) (sym (long_is (goal.at.After-store_map c).Else-room-header))

  front_there : take (long (goal.at.After-store_map c).Else-room-header) c.store_map.new.room ≡ header (goal.at.After-store_map c).Else-room-header 0
  front_there =
      ap (λ (l : List ℕ). take (long (goal.at.After-store_map c).Else-room-header) l) header_there
      ∙ take_at (header (goal.at.After-store_map c).Else-room-header 0) (drop (long (goal.at.After-store_map c).Else-room-header) (room (goal.at.After-store_map c).Else-room-header)) (long (goal.at.After-store_map c).Else-room-header) (header_long (goal.at.After-store_map c).Else-room-header 0 ∙ sym (long_is (goal.at.After-store_map c).Else-room-header))

  front_long : length (take (long (goal.at.After-store_map c).Else-room-header) c.store_map.new.room) ≡ long (goal.at.After-store_map c).Else-room-header
  front_long = ap length front_there ∙ header_long (goal.at.After-store_map c).Else-room-header 0 ∙ sym (long_is (goal.at.After-store_map c).Else-room-header)

pub header_length-header-requires : goal.header_length-header-requires
header_length-header-requires c = (size_passed _ _ _ (sized (goal.at.header_length-header-requires c).Else-map_fault)).few_entries

pub store_map-requires : goal.store_map-requires
store_map-requires c =
    let even = c.if-map-ne0.false in
    omega (arith, (fits (goal.at.store_map-requires c).Else-room-header).few_entries)

pub slice_bounds-word_sum-end-2 : goal.slice_bounds-word_sum-end-2
slice_bounds-word_sum-end-2 c = sym (front_long (goal.at.slice_bounds-word_sum-end-2 c).After-store_map)

pub returns : goal.returns
unfolding written_answer header_bytes
returns c =
    let a = c.args in
    let rest = drop (long (goal.at.returns c).Else-room-header) (room (goal.at.returns c).Else-room-header) in
    let check = checksum (word_sum (header (goal.at.returns c).Else-room-header 0)) in
    let sum : c.word_sum-sum.result ≡ word_sum (header (goal.at.returns c).Else-room-header 0) % word_modulus =
    c.word_sum-sum.ensures ∙ ap (λ (l : List ℕ). word_sum l % word_modulus) (front_there (goal.at.returns c).After-store_map) in
    let sum-off : c.from.result ≡ check = omega arith in
    ap (λ (l : List ℕ). wrote (success (long (goal.at.returns c).Else-room-header ∷ [])) l)
    ((rw sum-off at c.store.ensures) ∙ ap (λ (l : List ℕ). sets l 50 (le_bytes 2 check)) (header_there (goal.at.returns c).After-store_map)
    ∙ checksum-stored check (revision_of a.edition) (offset_of a.edition) (guid (goal.at.returns c).Else-room-header) a.len a.attributes (words (goal.at.returns c).Else-map-ne0) rest (guid_length (goal.at.returns c).Start))
    ∙ ap (λ (h : ℕ). wrote (success (h ∷ [])) (header (goal.at.returns c).Else-room-header check ++ drop h (room (goal.at.returns c).Else-room-header))) (long_is (goal.at.returns c).Else-room-header)
    ∙ write_done (revision_of a.edition) (offset_of a.edition) (guid (goal.at.returns c).Else-room-header) a.len a.attributes (words (goal.at.returns c).Else-map-ne0) (room (goal.at.returns c).Else-room-header) (guid_length (goal.at.returns c).Start) c.if-map-ne0.false (roomy (goal.at.returns c).Else-room-header)
