-- Which bytes decide a section header: those of the header with a holder's own fields, and whether the stream holds 4 bytes, the header
-- and the whole section.
use Prim.Native.Nat.{ℕ, ◌+◌, ◌-◌, ◌≤◌, ◌<◌}
use mathlib.Core.Path.{◌≡◌, refl, sym, ◌∙◌}
use mathlib.Core.Bool.{Bool, true, false, cond, ◌&&◌}
use mathlib.Core.List.{List}
use native.Mathlib.Omega.{arith}
use borrow.Author.Tests.{ne_eqb, eqb-true}
use lib.Dec.{eqb, ltb}
use lib.ListN.{length, get_or}
use Rattle.numbers.proofs.LittleEndian.{le_same}
use Rattle.sections.specs.Types.{compression, guid_defined, type_info}
use Rattle.sections.specs.Header.{size_field, is_long, header_length, size_at, type_at, unpacked_length, compression_kind, data_offset, attributes}
use Rattle.sections.specs.Header.{is_holder, own_fields, contents_at, packed, wrong_contents, size_faults, head_faults, section_of, head_in, head_at}
use Rattle.sections.specs.declared.header.Mode.{Mode}
use Rattle.sections.proofs.types.Rows.{least_range, least_compression, least_guid, not_holder, holds-compression, holds_guid}
use Rattle.sections.proofs.header.Sizes.{header_range, long_header_lem, short_size_lem, long_size}

own_compression : (t : ℕ) → eqb t compression ≡ true → own_fields t ≡ 5
unfolding own_fields
own_compression t x = rw (holds-compression t (eqb-true _ _ x), least_compression t x)

own_guid : (t : ℕ) → eqb t guid_defined ≡ true → own_fields t ≡ 20
unfolding own_fields
own_guid t x = rw (holds_guid t (eqb-true _ _ x), least_guid t x)

pub own_fields_lem : (own_fields 0x01 ≡ 5) × (own_fields 0x02 ≡ 20) × ((t : ℕ) → (t ≡ 0x01 → ⊥) → (t ≡ 0x02 → ⊥) → own_fields t ≡ 0)
unfolding own_fields
own_fields_lem = (own_compression 0x01 refl, own_guid 0x02 refl, λ t x y. rw (not_holder t (ne_eqb t 0x01 x) (ne_eqb t 0x02 y)))

-- they lie within the least size
pub own_least : (t : ℕ) → own_fields t + 4 ≤ (type_info t).least
unfolding own_fields
own_least t = go (is_holder (type_info t).class) (least_range t).0
  where
    go : (b : Bool) → 4 ≤ (type_info t).least → cond b ((type_info t).least - 4) 0 + 4 ≤ (type_info t).least
    go true h = omega arith
    go false h = omega arith

module _ (mode : Mode) (s s' : List ℕ) (at : ℕ)
    (same : (i : ℕ) → at ≤ i → i < at + header_length mode s at + own_fields (type_at s at) → get_or s i 0 ≡ get_or s' i 0) where
  same_type : type_at s at ≡ type_at s' at
  same_type = let r = header_range mode s at in same (at + 3) (omega arith) (omega arith)

  same-field : size_field s at ≡ size_field s' at
  same-field = let r = header_range mode s at in le_same 3 s s' at (λ i a b. same i a (omega arith))

  same_long : is_long mode (size_field s at) ≡ is_long mode (size_field s' at)
  unfolding is_long
  same_long = rw same-field

  pub same_header : header_length mode s at ≡ header_length mode s' at
  unfolding header_length
  same_header = rw same_long

  pub same_size : size_at mode s at ≡ size_at mode s' at
  same_size = go (is_long mode (size_field s at)) refl
    where
      go : (b : Bool) → is_long mode (size_field s at) ≡ b → size_at mode s at ≡ size_at mode s' at
      go true e =
          let h = long_header_lem mode s at e in
          long_size mode s at e ∙ le_same 4 s s' (at + 4) (λ i a b. same i (omega arith) (omega arith)) ∙ sym (long_size mode s' at (sym same_long ∙ e))
      go false e = short_size_lem mode s at e ∙ same-field ∙ sym (short_size_lem mode s' at (sym same_long ∙ e))

  abbrev h : ℕ
  h = header_length mode s at

  abbrev z : ℕ
  z = size_at mode s at

  abbrev t : ℕ
  t = type_at s at

  -- the fields of the type, after one and the same header
  same_fields : ((is_holder (type_info t).class && wrong_contents s at t h z) ≡ (is_holder (type_info t).class && wrong_contents s' at t h z))
      × (section_of s at t h z ≡ section_of s' at t h z)
  unfolding wrong_contents packed contents_at section_of
  same_fields = one (eqb t compression) refl
    where
      two : (b : Bool) → eqb t compression ≡ false → eqb t guid_defined ≡ b
          → ((is_holder (type_info t).class && wrong_contents s at t h z) ≡ (is_holder (type_info t).class && wrong_contents s' at t h z))
          × (section_of s at t h z ≡ section_of s' at t h z)
      two true x y =
          let n = own_guid t y in
          let o : data_offset s (at + h) ≡ data_offset s' (at + h) = le_same 2 s s' (at + h + 16) (λ i a b. same i (omega arith) (omega arith)) in
          let u : attributes s (at + h) ≡ attributes s' (at + h) = le_same 2 s s' (at + h + 18) (λ i a b. same i (omega arith) (omega arith)) in
          (rw (x, o), rw (x, o, u))
      two false x y =
          let n = not_holder t x y in
          (rw n, rw n)

      one : (b : Bool) → eqb t compression ≡ b
          → ((is_holder (type_info t).class && wrong_contents s at t h z) ≡ (is_holder (type_info t).class && wrong_contents s' at t h z))
          × (section_of s at t h z ≡ section_of s' at t h z)
      one true x =
          let n = own_compression t x in
          let c : compression_kind s (at + h) ≡ compression_kind s' (at + h) = same (at + h + 4) (omega arith) (omega arith) in
          let u : unpacked_length s (at + h) ≡ unpacked_length s' (at + h) = le_same 4 s s' (at + h) (λ i a b. same i (omega arith) (omega arith)) in
          (rw (x, c, u), rw (x, c))
      one false x = two (eqb t guid_defined) x refl

  pub head_same : ltb (length s - at) 4 ≡ ltb (length s' - at) 4 → ltb (length s - at) h ≡ ltb (length s' - at) h
      → ltb (length s - at) z ≡ ltb (length s' - at) z → head_at mode s at ≡ head_at mode s' at
  unfolding head_in head_at head_faults size_faults
  head_same four headed fits = rw (← same_header, ← same_size, ← same_type, four, headed, fits, same_fields.0, same_fields.1)
