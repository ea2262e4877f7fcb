-- Examples of files that come in portions (02, c), computed from the definitions: what the finish answers where all that was announced came, and, of
-- 201 to 204 and 207, with the byte at which the fault is found as the last that came, and with one fewer, where it is 208.
use Prim.Native.Nat.{ℕ}
use mathlib.Core.Path.{◌≡◌, refl}
use mathlib.Core.List.{List, [], ◌∷◌, ◌++◌}
use lib.ListN.{replicate, take}
use Rattle.common.specs.Answers.{Answer, refused, success}
use Rattle.common.specs.Refusals.{first_refusal}
use Rattle.numbers.specs.LittleEndian.{le}
use Rattle.sections.specs.Types.{info_among, type_info}
use Rattle.sections.specs.Header.{is_long, header_length, size_at, size_faults, head_faults, head_in, head_at, section_of, packed, contents_at, wrong_contents, own_fields}
use Rattle.sections.specs.Partial.{contents_fields, bytes_for}
use Rattle.sections.specs.Walk.{stream_limit, stream_walk, walk, siblings, meet, after_padding, zeros, first_nonzero, and_then}
use Rattle.sections.specs.Search.{sections, first_fault, of_type}
use Rattle.sections.specs.declared.header.Mode.{Mode}
use Rattle.sections.specs.declared.header.Mode.TheVariants.{Framework, Pi}
use Rattle.receiver.specs.Received.{file_of, found_after, found_fault, found_of, received_of}

-- what the rows compute with
unfoldable heading : Unit {0}
unfolding le info_among type_info first_refusal is_long header_length size_at size_faults head_faults packed contents_at wrong_contents section_of head_in head_at own_fields
heading = tt

unfoldable receiving : Unit {0}
unfolding heading zeros first_nonzero after_padding meet and_then siblings walk stream_limit stream_walk sections first_fault of_type contents_fields bytes_for file_of found_after found_fault found_of received_of
receiving = tt

-- the finish for a raw section, the first, after the first `came` bytes of a file, where `total` bytes were announced
abbrev after : Mode → (total came : ℕ) → (file : List ℕ) → Answer
after mode total came file = received_of mode 0x19 0 total (take came file)

-- (P13)'s stream, a raw section of 5 bytes and one of 4
abbrev two : List ℕ
two = 5 ∷ 0 ∷ 0 ∷ 0x19 ∷ 0xAA ∷ 0 ∷ 0 ∷ 0 ∷ 4 ∷ 0 ∷ 0 ∷ 0x19 ∷ []

-- the same in a compression section of kind 0, whose contents start at byte 9
abbrev held : List ℕ
held = 21 ∷ 0 ∷ 0 ∷ 1 ∷ 12 ∷ 0 ∷ 0 ∷ 0 ∷ 0 ∷ two

-- a GUID-defined section whose data offset is 23, below the 24 that it has
abbrev early : List ℕ
early = 24 ∷ 0 ∷ 0 ∷ 2 ∷ (replicate 16 7 ++ (23 ∷ 0 ∷ 0 ∷ 0 ∷ []))

pub record Rows : Type 0 where
  -- all came: the number of sections, first byte and end; the count has a holder and its children alike
  pub both : after Framework 12 12 two ≡ success (2 ∷ 4 ∷ 5 ∷ [])
  pub inside : after Framework 21 21 held ≡ success (3 ∷ 13 ∷ 14 ∷ [])
  -- "then 14"
  pub missing : received_of Framework 0x10 0 12 two ≡ refused 14
  -- "208, for more bytes than announced or fewer"
  pub fewer : after Framework 12 11 two ≡ refused 208
  pub more : received_of Framework 0x19 0 12 (two ++ (0 ∷ [])) ≡ refused 208
  -- 201 of 2 bytes left at a start: found once every byte before it came, of a file of 2 bytes with none
  pub start_201 : after Framework 14 12 (two ++ (4 ∷ 0 ∷ [])) ≡ refused 201
  pub start_201_fewer : after Framework 14 11 (two ++ (4 ∷ 0 ∷ [])) ≡ refused 208
  pub short_201 : after Framework 2 0 two ≡ refused 201
  -- 201 of a long header with 7 bytes left: at its third byte
  pub long_201 : after Pi 7 3 (0xFF ∷ 0xFF ∷ 0xFF ∷ []) ≡ refused 201
  pub long_201_fewer : after Pi 7 2 (0xFF ∷ 0xFF ∷ 0xFF ∷ []) ≡ refused 208
  -- 202 and 203: at the type byte
  pub size_202 : after Framework 8 4 (3 ∷ 0 ∷ 0 ∷ 0x19 ∷ []) ≡ refused 202
  pub size_202_fewer : after Framework 8 3 (3 ∷ 0 ∷ 0 ∷ 0x19 ∷ []) ≡ refused 208
  pub end_203 : after Framework 8 4 (9 ∷ 0 ∷ 0 ∷ 0x19 ∷ []) ≡ refused 203
  pub end_203_fewer : after Framework 8 3 (9 ∷ 0 ∷ 0 ∷ 0x19 ∷ []) ≡ refused 208
  -- 204 of a compression section: at its kind; of a GUID-defined one: at the second byte of its data offset
  pub kind_204 : after Framework 12 9 (12 ∷ 0 ∷ 0 ∷ 1 ∷ 4 ∷ 0 ∷ 0 ∷ 0 ∷ 0 ∷ []) ≡ refused 204
  pub kind_204_fewer : after Framework 12 8 (12 ∷ 0 ∷ 0 ∷ 1 ∷ 4 ∷ 0 ∷ 0 ∷ 0 ∷ 0 ∷ []) ≡ refused 208
  pub offset_204 : after Framework 24 22 early ≡ refused 204
  pub offset_204_fewer : after Framework 24 21 early ≡ refused 208
  -- 207: at the padding byte, the second of three; 208 does not hide it where more or fewer bytes came
  pub padding_207 : after Framework 8 7 (5 ∷ 0 ∷ 0 ∷ 0x19 ∷ 0xAA ∷ 0 ∷ 1 ∷ 0 ∷ []) ≡ refused 207
  pub padding_207_fewer : after Framework 8 6 (5 ∷ 0 ∷ 0 ∷ 0x19 ∷ 0xAA ∷ 0 ∷ 1 ∷ 0 ∷ []) ≡ refused 208
  pub padding_207_more : after Framework 8 9 (5 ∷ 0 ∷ 0 ∷ 0x19 ∷ 0xAA ∷ 0 ∷ 1 ∷ 0 ∷ 0 ∷ []) ≡ refused 207

pub rows : Rows
unfolding receiving
rows =
    record {
      both = refl;
      inside = refl;
      missing = refl;
      fewer = refl;
      more = refl;
      start_201 = refl;
      start_201_fewer = refl;
      short_201 = refl;
      long_201 = refl;
      long_201_fewer = refl;
      size_202 = refl;
      size_202_fewer = refl;
      end_203 = refl;
      end_203_fewer = refl;
      kind_204 = refl;
      kind_204_fewer = refl;
      offset_204 = refl;
      offset_204_fewer = refl;
      padding_207 = refl;
      padding_207_fewer = refl;
      padding_207_more = refl;
    }
