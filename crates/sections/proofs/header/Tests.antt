-- The header at a start: by what the size reader answers of it, and past 203 a holder's own fields and 204.
use Prim.Native.Nat.{ℕ, ◌+◌, ◌-◌, ◌%◌, ◌≤◌, ◌<◌}
use mathlib.Core.Path.{◌≡◌, refl, sym, ◌∙◌}
use mathlib.Core.Bool.{Bool, true, false, cond, ◌&&◌}
use mathlib.Core.List.{List, [], ◌∷◌}
use mathlib.Core.Logic.{◌⊎◌, inl, inr}
use mathlib.Core.Option.{Option, none, some}
use native.Mathlib.Omega.{arith}
use borrow.Author.Tests.{lt-ltb, le-ltb, eq-eqb, ne_eqb}
use lib.Dec.{eqb, ltb}
use lib.ListN.{length}
use Rattle.common.specs.Refusals.{Row, row, first_refusal}
use Rattle.common.proofs.Refusals.{then_passed, then_refused}
use Rattle.sections.specs.Types.{compression, guid_defined, type_info}
use Rattle.sections.specs.Header.{header_length, size_at, type_at, grown, least_size, unpacked_length, compression_kind}
use Rattle.sections.specs.Header.{data_offset, attributes, is_holder, contents_at, packed, wrong_contents, size_faults, head_faults, section_of, section_at}
use Rattle.sections.specs.Header.{head_in, head_at, sized_at, holder_of, Lies}
use Rattle.sections.specs.declared.header.Mode.{Mode}
use Rattle.sections.specs.Header.{Refused, Sized, Head, Fault, Closed, Open, past_203}
use Rattle.sections.specs.declared.header.Header.{Header}
use Rattle.sections.proofs.types.Rows.{holds-compression, holds_guid}
use Rattle.sections.proofs.header.Sizes.{header_range, Fits, size_none, none_fits}

-- the header at a start, with `left` bytes left: a fault of the size reader; and past them what is left is 204 and the section
module _ (mode : Mode) (left : ℕ) (s : List ℕ) (at : ℕ) where
  -- the last row
  abbrev last : List Row
  last = row (is_holder (type_info (type_at s at)).class && wrong_contents s at (type_at s at) (header_length mode s at) (size_at mode s at)) 204 ∷ []

  pub in_refused : {n : ℕ} → first_refusal (size_faults mode left s at) ≡ some n → head_in mode left s at ≡ Fault n
  unfolding head_in head_faults
  in_refused {n} e = rw (then_refused _ last n e)

  pub in_past_203 : Fits mode left s at
      → (w : Bool) → (is_holder (type_info (type_at s at)).class && wrong_contents s at (type_at s at) (header_length mode s at) (size_at mode s at)) ≡ w
      → cond w (Fault 204) (section_at mode s at) ≡ head_in mode left s at
  unfolding head_in head_faults first_refusal
  in_past_203 f true e = rw (then_passed _ last (size_none mode left s at f), e)
  in_past_203 f false e = rw (then_passed _ last (size_none mode left s at f), e)

  pub in_leaf : Fits mode left s at → is_holder (type_info (type_at s at)).class ≡ false
      → head_in mode left s at ≡ Closed (type_at s at) (at + header_length mode s at) (at + size_at mode s at)
  unfolding section_of
  in_leaf f l = sym (rw l at (in_past_203 f false (rw l)))

  pub in_holder : Fits mode left s at → is_holder (type_info (type_at s at)).class ≡ true
      → head_in mode left s at ≡ holder_of s at (type_at s at) (header_length mode s at) (size_at mode s at)
  unfolding holder_of
  in_holder f h = sym (in_past_203 f (wrong_contents s at (type_at s at) (header_length mode s at) (size_at mode s at)) (rw h))

  -- by what the size reader answers: a refusal, or the header
  pub record Headed (t h z : ℕ) : Type 0 where
    pub fits : Fits mode left s at
    pub typed : t ≡ type_at s at
    pub headed : h ≡ header_length mode s at
    pub sized : z ≡ size_at mode s at

  pub is_refused : {n : ℕ} → sized_at mode left s at ≡ Refused n → first_refusal (size_faults mode left s at) ≡ some n
  unfolding sized_at
  is_refused {n} p = go (first_refusal (size_faults mode left s at)) refl
    where
      go : (o : Option ℕ) → first_refusal (size_faults mode left s at) ≡ o → o ≡ some n
      go (some m) e =
          let q : Refused m ≡ Refused n = rw e at p in
          let k : n ≡ m = cc in
          rw k
      go none e =
          let q : Sized (type_at s at) (header_length mode s at) (size_at mode s at) ≡ Refused n = rw e at p in
          let z : ◌≡◌ {A = ℕ} 0 1 = cc in absurd (omega arith)

  pub is_sized : {t h z : ℕ} → sized_at mode left s at ≡ Sized t h z → Headed t h z
  unfolding sized_at
  is_sized {t} {h} {z} p = go (first_refusal (size_faults mode left s at)) refl
    where
      go : (o : Option ℕ) → first_refusal (size_faults mode left s at) ≡ o → Headed t h z
      go (some m) e =
          let q : Refused m ≡ Sized t h z = rw e at p in
          let z : ◌≡◌ {A = ℕ} 0 1 = cc in absurd (omega arith)
      go none e =
          let q : Sized (type_at s at) (header_length mode s at) (size_at mode s at) ≡ Sized t h z = rw e at p in
          record { fits = none_fits mode left s at e; typed = cc; headed = cc; sized = cc }

  pub in_of_refused : {n : ℕ} → Refused n ≡ sized_at mode left s at → Fault n ≡ head_in mode left s at
  in_of_refused p = sym (in_refused (is_refused (sym p)))

  pub in_of_sized : (x : Header) {r : Head} → Sized x.section_type x.length x.size ≡ sized_at mode left s at → r ≡ past_203 s at x → r ≡ head_in mode left s at
  unfolding past_203
  in_of_sized x {r} p q = go (is_holder (type_info (type_at s at)).class) refl
    where
      h : Headed x.section_type x.length x.size
      h = is_sized (sym p)

      go : (b : Bool) → is_holder (type_info (type_at s at)).class ≡ b → r ≡ head_in mode left s at
      go true e = rw (h.typed, h.headed, h.sized, e) at q ∙ sym (in_holder h.fits e)
      go false e = rw (h.typed, h.headed, h.sized, e) at q ∙ sym (in_leaf h.fits e)

  -- its first bytes lie in the bytes that are read
  pub in_lies : {x : Header} → Sized x.section_type x.length x.size ≡ sized_at mode left s at → at + least_size x.length x.section_type ≤ length s
      → at + left < 18446744073709551616 → Lies s at x (type_info x.section_type).least
  in_lies {x} p read bound =
      let h = is_sized (sym p) in
      let f = h.fits in
      let r = header_range mode s at in
      let a = h.headed in
      let b = h.sized in
      let k : least_size x.length x.section_type ≡ least_size (header_length mode s at) (type_at s at) = rw (h.headed, h.typed) in
      let l = f.least in
      let m = f.fits in
      record { header_least = omega arith; header_most = omega arith; least = omega arith; fields = read; bound = omega arith }

-- the same of a stream that is a list of bytes
module _ (mode : Mode) (s : List ℕ) (at : ℕ) where
  pub head_refused : {n : ℕ} → first_refusal (size_faults mode (length s - at) s at) ≡ some n → head_at mode s at ≡ Fault n
  unfolding head_at
  head_refused = in_refused mode (length s - at) s at

  pub head_past_203 : Fits mode (length s - at) s at
      → (w : Bool) → (is_holder (type_info (type_at s at)).class && wrong_contents s at (type_at s at) (header_length mode s at) (size_at mode s at)) ≡ w
      → cond w (Fault 204) (section_at mode s at) ≡ head_at mode s at
  unfolding head_at
  head_past_203 = in_past_203 mode (length s - at) s at

  pub head_leaf : Fits mode (length s - at) s at → is_holder (type_info (type_at s at)).class ≡ false
      → head_at mode s at ≡ Closed (type_at s at) (at + header_length mode s at) (at + size_at mode s at)
  unfolding head_at
  head_leaf = in_leaf mode (length s - at) s at

  pub head_holder : Fits mode (length s - at) s at → is_holder (type_info (type_at s at)).class ≡ true
      → head_at mode s at ≡ holder_of s at (type_at s at) (header_length mode s at) (size_at mode s at)
  unfolding head_at
  head_holder = in_holder mode (length s - at) s at

  pub head_of_refused : {n : ℕ} → Refused n ≡ sized_at mode (length s - at) s at → Fault n ≡ head_at mode s at
  unfolding head_at
  head_of_refused = in_of_refused mode (length s - at) s at

  pub head_of_sized : (x : Header) {r : Head} → Sized x.section_type x.length x.size ≡ sized_at mode (length s - at) s at → r ≡ past_203 s at x → r ≡ head_at mode s at
  unfolding head_at
  head_of_sized = in_of_sized mode (length s - at) s at

  pub lies : {x : Header} → Sized x.section_type x.length x.size ≡ sized_at mode (length s - at) s at → at < length s → length s < 18446744073709551616
      → Lies s at x (type_info x.section_type).least
  lies {x} p here bound =
      let h = is_sized mode (length s - at) s at (sym p) in
      let k : least_size x.length x.section_type ≡ least_size (header_length mode s at) (type_at s at) = rw (h.headed, h.typed) in
      let l = h.fits.least in
      let m = h.fits.fits in
      in_lies mode (length s - at) s at {x = x} p (omega arith) (omega arith)

-- past 203 a holder is what its own fields say, and a leaf is closed
module _ (s : List ℕ) (at : ℕ) (x : Header) where
  pub past_holder : {r : Head} → is_holder (type_info x.section_type).class ≡ true → r ≡ holder_of s at x.section_type x.length x.size → r ≡ past_203 s at x
  unfolding past_203
  past_holder holds p = p ∙ rw holds

  pub past_leaf : is_holder (type_info x.section_type).class ≡ false → Closed x.section_type (at + x.length) (at + x.size) ≡ past_203 s at x
  unfolding past_203
  past_leaf holds = rw holds

-- a holder by its own fields
module _ (s : List ℕ) (at t h z : ℕ) (holds : is_holder (type_info t).class ≡ true) where
  holder_204 : wrong_contents s at t h z ≡ true → Fault 204 ≡ holder_of s at t h z
  unfolding holder_of
  holder_204 e = rw e

  module _ {first end : ℕ} (fe : first ≡ at + h) (ee : end ≡ at + z) (right : wrong_contents s at t h z ≡ false) where
    holder_closed : packed s at t h ≡ true → Closed t first end ≡ holder_of s at t h z
    unfolding holder_of section_of
    holder_closed p = rw (right, holds, p, fe, ee)

    holder_open : {from : ℕ} → contents_at s at t h ≡ from → packed s at t h ≡ false → Open t first from end ≡ holder_of s at t h z
    unfolding holder_of section_of
    holder_open c p = rw (right, holds, p, c, fe, ee)

-- the compression section's own tests, over the unpacked length that was read
module _ (s : List ℕ) (at h z : ℕ) where
  holds : is_holder (type_info compression).class ≡ true
  holds = holds-compression compression refl

  pub compression-packed : {first end : ℕ} → (compression_kind s (at + h) ≡ 0 → ⊥) → first ≡ at + h → end ≡ at + z
      → Closed compression first end ≡ holder_of s at compression h z
  unfolding wrong_contents packed
  compression-packed k f e =
      let n = ne_eqb (compression_kind s (at + h)) 0 k in
      holder_closed _ _ _ _ _ holds f e (rw n) (rw n)

  module _ {u : ℕ} (told : u ≡ unpacked_length s (at + h)) (k : compression_kind s (at + h) ≡ 0) where
    pub compression_204 : (u ≡ z - grown h 9 → ⊥) → Fault 204 ≡ holder_of s at compression h z
    unfolding wrong_contents
    compression_204 w =
        let f : eqb (unpacked_length s (at + h)) (z - grown h 9) ≡ false = ne_eqb _ _ (rw told at w) in
        holder_204 _ _ _ _ _ holds (rw (eq-eqb (compression_kind s (at + h)) 0 k, f))

    pub compression_open : {first from end : ℕ} → u ≡ z - grown h 9 → first ≡ at + h → from ≡ at + grown h 9 → end ≡ at + z
        → Open compression first from end ≡ holder_of s at compression h z
    unfolding wrong_contents packed contents_at
    compression_open w fe c ee =
        let f : eqb (unpacked_length s (at + h)) (z - grown h 9) ≡ true = eq-eqb _ _ (rw told at w) in
        let n = eq-eqb (compression_kind s (at + h)) 0 k in
        holder_open _ _ _ _ _ holds fe ee (rw (n, f)) (sym c) (rw n)

-- the GUID-defined section's own tests, over the data offset and the attributes that were read
module _ (s : List ℕ) (at h z : ℕ) {offset : ℕ} (read : offset ≡ data_offset s (at + h)) where
  holds_too : is_holder (type_info guid_defined).class ≡ true
  holds_too = holds_guid guid_defined refl

  pub guid_204 : (offset < grown h 24) ⊎ ((grown h 24 ≤ offset) × (z < offset)) → Fault 204 ≡ holder_of s at guid_defined h z
  unfolding wrong_contents
  guid_204 (inl w) = holder_204 _ _ _ _ _ holds_too (rw (lt-ltb (data_offset s (at + h)) (grown h 24) (rw read at w)))
  guid_204 (inr (low, w)) =
      holder_204 _ _ _ _ _ holds_too (rw (le-ltb (data_offset s (at + h)) (grown h 24) (rw read at low), lt-ltb z (data_offset s (at + h)) (rw read at w)))

  module _ (low : grown h 24 ≤ offset) where
    is_low : ltb (data_offset s (at + h)) (grown h 24) ≡ false
    is_low = le-ltb _ _ (rw read at low)

    module _ (high : offset ≤ z) where
      guid_right : wrong_contents s at guid_defined h z ≡ false
      unfolding wrong_contents
      guid_right = rw (is_low, le-ltb z (data_offset s (at + h)) (rw read at high))

      pub guid_packed : {first end : ℕ} → attributes s (at + h) % 2 ≡ 1 → first ≡ at + h → end ≡ at + z → Closed guid_defined first end ≡ holder_of s at guid_defined h z
      unfolding packed
      guid_packed w fe ee = holder_closed _ _ _ _ _ holds_too fe ee guid_right (rw (eq-eqb (attributes s (at + h) % 2) 1 w))

      pub guid_open : {first from end : ℕ} → (attributes s (at + h) % 2 ≡ 1 → ⊥) → first ≡ at + h → from ≡ at + offset → end ≡ at + z
          → Open guid_defined first from end ≡ holder_of s at guid_defined h z
      unfolding packed contents_at
      guid_open w fe c ee = holder_open _ _ _ _ _ holds_too fe ee guid_right (rw (c, read)) (rw (ne_eqb (attributes s (at + h) % 2) 1 w))
