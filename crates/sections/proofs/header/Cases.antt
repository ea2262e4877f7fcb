-- What stands at a start, exactly: the first of the faults that applies, and where none does the section, open or closed.
use Prim.Native.Nat.{ℕ, ◌+◌, ◌-◌, ◌%◌, ◌≤◌, ◌<◌}
use mathlib.Core.Path.{◌≡◌, refl, sym, ap, subst, ◌∙◌}
use mathlib.Core.Bool.{Bool, true, false, cond, not, ◌&&◌, ◌||◌}
use mathlib.Core.List.{List}
use mathlib.Core.Logic.{◌⊎◌, inl, inr, ◌↔◌}
use native.Mathlib.Omega.{arith}
use borrow.Author.Tests.{ltb-true, ltb-false, eqb-true, eqb-false, not-true, not-false, eq-eqb, ne_eqb}
use lib.Dec.{eqb, ltb}
use lib.ListN.{length}
use Rattle.common.proofs.Refusals.{neither}
use Rattle.sections.specs.Types.{compression, guid_defined, type_info}
use Rattle.sections.specs.Header.{header_length, size_at, type_at, grown, least_size, unpacked_length, compression_kind, data_offset, attributes, is_holder}
use Rattle.sections.specs.Header.{contents_at, packed, wrong_contents, section_of, section_at, head_at, holder_of}
use Rattle.sections.specs.declared.header.Mode.{Mode}
use Rattle.sections.specs.Header.{Fault, Closed, Open}
use Rattle.sections.proofs.types.Rows.{both, not_holder, holder_guid, holds-compression, holds_guid}
use Rattle.sections.proofs.header.Sizes.{Fits, header_range}
use Rattle.sections.proofs.header.Sizes as sizes
use Rattle.sections.proofs.header.Tests as tests

either : (a b : Bool) → (a || b) ≡ true → (a ≡ true) ⊎ (b ≡ true)
either true b p = inl refl
either false b p = inr p

-- 204, of the two holders: "kind 0 with unpacked length not size minus 9, or data offset below 24 or above size"
abbrev pub Wrong : List ℕ → (at section_type header size : ℕ) → Type 0
Wrong s at t h z =
    ((t ≡ compression) × (compression_kind s (at + h) ≡ 0) × (unpacked_length s (at + h) ≡ z - grown h 9 → ⊥))
    ⊎ ((t ≡ guid_defined) × ((data_offset s (at + h) < grown h 24) ⊎ (z < data_offset s (at + h))))

-- n is the number of the first test that applies
abbrev pub FirstFault : Mode → List ℕ → ℕ → ℕ → Type 0
FirstFault mode s at n =
    ((n ≡ 201) × (length s - at < header_length mode s at))
    ⊎ ((n ≡ 202) × (header_length mode s at ≤ length s - at) × (size_at mode s at < least_size (header_length mode s at) (type_at s at)))
    ⊎ ((n ≡ 203) × (header_length mode s at ≤ length s - at) × (least_size (header_length mode s at) (type_at s at) ≤ size_at mode s at)
    × (length s - at < size_at mode s at))
    ⊎ ((n ≡ 204) × (header_length mode s at ≤ length s - at) × (least_size (header_length mode s at) (type_at s at) ≤ size_at mode s at)
    × (size_at mode s at ≤ length s - at) × Wrong s at (type_at s at) (header_length mode s at) (size_at mode s at))

-- what 204's test says of a holder, and what it says where it fails
module _ (s : List ℕ) (at t h z : ℕ) where
  is_wrong : (is_holder (type_info t).class && wrong_contents s at t h z) ≡ true → Wrong s at t h z
  unfolding wrong_contents
  is_wrong w = let b = both (is_holder (type_info t).class) (wrong_contents s at t h z) w in go (eqb t compression) b.0 b.1 refl
    where
      low_or_high : ((ltb (data_offset s (at + h)) (grown h 24) ≡ true) ⊎ (ltb z (data_offset s (at + h)) ≡ true))
          → (data_offset s (at + h) < grown h 24) ⊎ (z < data_offset s (at + h))
      low_or_high (inl l) = inl (ltb-true _ _ l)
      low_or_high (inr r) = inr (ltb-true _ _ r)

      go : (b : Bool) → is_holder (type_info t).class ≡ true → wrong_contents s at t h z ≡ true → eqb t compression ≡ b → Wrong s at t h z
      go true holds w x =
          let k = both _ _ (rw x at w) in
          inl (eqb-true _ _ x, eqb-true _ _ k.0, eqb-false _ _ (not-true _ k.1))
      go false holds w x = inr (holder_guid t holds x, low_or_high (either _ _ (rw x at w)))

  is_unpacked : (is_holder (type_info t).class && wrong_contents s at t h z) ≡ false → t ≡ compression → compression_kind s (at + h) ≡ 0
      → unpacked_length s (at + h) ≡ z - grown h 9
  unfolding wrong_contents
  is_unpacked w e k =
      let x : eqb t compression ≡ true = eq-eqb _ _ e in
      let y : eqb (compression_kind s (at + h)) 0 ≡ true = eq-eqb _ _ k in
      eqb-true _ _ (not-false _ (rw (holds-compression t e, x, y) at w))

  is_offset : (is_holder (type_info t).class && wrong_contents s at t h z) ≡ false → t ≡ guid_defined
      → (grown h 24 ≤ data_offset s (at + h)) × (data_offset s (at + h) ≤ z)
  unfolding wrong_contents
  is_offset w e =
      let x : eqb t compression ≡ false = ne_eqb t compression (λ y. omega arith) in
      let r = neither _ _ (rw (holds_guid t e, x) at w) in
      (ltb-false _ _ r.0, ltb-false _ _ r.1)

  -- contents are not both wrong and right
  not_both : Wrong s at t h z → (t ≡ compression → compression_kind s (at + h) ≡ 0 → unpacked_length s (at + h) ≡ z - grown h 9)
      → (t ≡ guid_defined → (grown h 24 ≤ data_offset s (at + h)) × (data_offset s (at + h) ≤ z)) → ⊥
  not_both (inl (e, k, u)) unpacked offset = u (unpacked e k)
  not_both (inr (e, inl low)) unpacked offset = let o = offset e in absurd (omega arith)
  not_both (inr (e, inr high)) unpacked offset = let o = offset e in absurd (omega arith)

  -- a section is no fault
  no_fault_section : {n : ℕ} → section_of s at t h z ≡ Fault n → ⊥
  unfolding section_of
  no_fault_section {n} = go (is_holder (type_info t).class && not (packed s at t h))
    where
      go : (o : Bool) → cond o (Open t (at + h) (contents_at s at t h) (at + z)) (Closed t (at + h) (at + z)) ≡ Fault n → ⊥
      go true p = let z : ◌≡◌ {A = ℕ} 0 1 = cc in absurd (omega arith)
      go false p = let z : ◌≡◌ {A = ℕ} 0 1 = cc in absurd (omega arith)

-- what stands at a place: the first fault that applies, or the section that lies there whole
pub record Whole (mode : Mode) (s : List ℕ) (at : ℕ) : Type 0 where
  pub fit : Fits mode (length s - at) s at
  pub unpacked : type_at s at ≡ compression → compression_kind s (at + header_length mode s at) ≡ 0
      → unpacked_length s (at + header_length mode s at) ≡ size_at mode s at - grown (header_length mode s at) 9
  pub offset : type_at s at ≡ guid_defined
      → (grown (header_length mode s at) 24 ≤ data_offset s (at + header_length mode s at)) × (data_offset s (at + header_length mode s at) ≤ size_at mode s at)

abbrev pub AtStart : Mode → List ℕ → ℕ → Type 0
AtStart mode s at = ((n : ℕ) × (head_at mode s at ≡ Fault n) × FirstFault mode s at n) ⊎ ((head_at mode s at ≡ section_at mode s at) × Whole mode s at)

module _ (mode : Mode) (s : List ℕ) (at : ℕ) where
  -- the header, the size and the type there, and the bytes left
  abbrev h : ℕ
  h = header_length mode s at

  abbrev z : ℕ
  z = size_at mode s at

  abbrev t : ℕ
  t = type_at s at

  abbrev left : ℕ
  left = length s - at

  pub head_cases : AtStart mode s at
  head_cases = one (ltb left 4) refl
    where
      five : (b : Bool) → Fits mode left s at → (is_holder (type_info t).class && wrong_contents s at t h z) ≡ b → AtStart mode s at
      five true f e = inl (204, sym (tests.head_past_203 mode s at f true e), inr (inr (inr (refl, f.headed, f.least, f.fits, is_wrong s at t h z e))))
      five false f e =
          inr (sym (tests.head_past_203 mode s at f false e), record { fit = f; unpacked = is_unpacked s at t h z e; offset = is_offset s at t h z e })

      four : (b : Bool) → 4 ≤ left → h ≤ left → least_size h t ≤ z → ltb left z ≡ b → AtStart mode s at
      four true a b c e =
          let past = ltb-true _ _ e in
          inl (203, tests.head_refused mode s at (sizes.size_203 mode left s at a b c past), inr (inr (inl (refl, b, c, past))))
      four false a b c e = five _ (record { four = a; headed = b; least = c; fits = ltb-false _ _ e }) refl

      three : (b : Bool) → 4 ≤ left → h ≤ left → ltb z (least_size h t) ≡ b → AtStart mode s at
      three true a b e =
          let small = ltb-true _ _ e in
          inl (202, tests.head_refused mode s at (sizes.size_202 mode left s at a b small), inr (inl (refl, b, small)))
      three false a b e = four _ a b (ltb-false _ _ e) refl

      two : (b : Bool) → 4 ≤ left → ltb left h ≡ b → AtStart mode s at
      two true a e =
          let few = ltb-true _ _ e in
          inl (201, tests.head_refused mode s at (sizes.size_201_long mode left s at a few), inl (refl, few))
      two false a e = three _ a (ltb-false _ _ e) refl

      one : (b : Bool) → ltb left 4 ≡ b → AtStart mode s at
      one true e =
          let few = ltb-true _ _ e in
          let r = header_range mode s at in
          inl (201, tests.head_refused mode s at (sizes.size_201 mode left s at few), inl (refl, omega arith))
      one false e = two _ (ltb-false _ _ e) refl

  applies : (n : ℕ) → head_at mode s at ≡ Fault n → FirstFault mode s at n
  applies n p = go head_cases
    where
      go : AtStart mode s at → FirstFault mode s at n
      go (inl (m, q, f)) = let k : m ≡ n = cc in subst (FirstFault mode s at) k f
      go (inr (q, w)) = absurd (no_fault_section s at t h z (sym q ∙ p))

  pub head_204 : Fits mode left s at → Wrong s at t h z → head_at mode s at ≡ Fault 204
  head_204 f wrong = go _ refl
    where
      go : (w : Bool) → (is_holder (type_info t).class && wrong_contents s at t h z) ≡ w → head_at mode s at ≡ Fault 204
      go true x = sym (tests.head_past_203 mode s at f true x)
      go false x = absurd (not_both s at t h z wrong (is_unpacked s at t h z x) (is_offset s at t h z x))

  pub head_201 : left < h → head_at mode s at ≡ Fault 201
  head_201 few = go (ltb left 4) refl
    where
      go : (b : Bool) → ltb left 4 ≡ b → head_at mode s at ≡ Fault 201
      go true e = tests.head_refused mode s at (sizes.size_201 mode left s at (ltb-true _ _ e))
      go false e = tests.head_refused mode s at (sizes.size_201_long mode left s at (ltb-false _ _ e) few)

  pub head_202 : h ≤ left → z < least_size h t → head_at mode s at ≡ Fault 202
  head_202 b small = let r = header_range mode s at in tests.head_refused mode s at (sizes.size_202 mode left s at (omega arith) b small)

  pub head_203 : h ≤ left → least_size h t ≤ z → left < z → head_at mode s at ≡ Fault 203
  head_203 b c past = let r = header_range mode s at in tests.head_refused mode s at (sizes.size_203 mode left s at (omega arith) b c past)

  answered : (n : ℕ) → FirstFault mode s at n → head_at mode s at ≡ Fault n
  answered n (inl (e, few)) = head_201 few ∙ ap Fault (sym e)
  answered n (inr (inl (e, b, small))) = head_202 b small ∙ ap Fault (sym e)
  answered n (inr (inr (inl (e, b, c, past)))) = head_203 b c past ∙ ap Fault (sym e)
  answered n (inr (inr (inr (e, b, c, d, wrong)))) =
      let r = header_range mode s at in
      head_204 (record { four = omega arith; headed = b; least = c; fits = d }) wrong ∙ ap Fault (sym e)

  -- so a fault is there exactly when its test is the first that applies
  pub faults_exactly : (n : ℕ) → (head_at mode s at ≡ Fault n) ↔ FirstFault mode s at n
  faults_exactly n = (applies n, answered n)

  -- in particular no fault is 0 or 1
  pub fault_range : (n : ℕ) → head_at mode s at ≡ Fault n → (201 ≤ n) × (n ≤ 204)
  fault_range n p = go (applies n p)
    where
      go : FirstFault mode s at n → (201 ≤ n) × (n ≤ 204)
      go (inl (e, a)) = (omega arith, omega arith)
      go (inr (inl (e, a, b))) = (omega arith, omega arith)
      go (inr (inr (inl (e, a, b, d)))) = (omega arith, omega arith)
      go (inr (inr (inr (e, a, b, d, w)))) = (omega arith, omega arith)

  pub fault_number_lem : (n : ℕ) → head_at mode s at ≡ Fault n → 1 < n
  fault_number_lem n p = let r = fault_range n p in omega arith

  module _ (f : Fits mode left s at) where
    -- where none applies the section is there
    pub accepted : (t ≡ compression → compression_kind s (at + h) ≡ 0 → unpacked_length s (at + h) ≡ z - grown h 9)
        → (t ≡ guid_defined → (grown h 24 ≤ data_offset s (at + h)) × (data_offset s (at + h) ≤ z)) → head_at mode s at ≡ section_at mode s at
    accepted unpacked offset = go _ refl
      where
        go : (w : Bool) → (is_holder (type_info t).class && wrong_contents s at t h z) ≡ w → head_at mode s at ≡ section_at mode s at
        go true x = absurd (not_both s at t h z (is_wrong s at t h z x) unpacked offset)
        go false x = sym (tests.head_past_203 mode s at f false x)

    -- which section, past 201 to 203: a leaf is closed, a compression section is open where its kind is 0, and a GUID-defined one where
    -- attribute bit 0 is clear
    pub leaf_closed : (t ≡ compression → ⊥) → (t ≡ guid_defined → ⊥) → head_at mode s at ≡ Closed t (at + h) (at + z)
    leaf_closed a b = tests.head_leaf mode s at f (not_holder t (ne_eqb _ _ a) (ne_eqb _ _ b))

    module _ (typed : t ≡ compression) where
      as_compression : head_at mode s at ≡ holder_of s at compression h z
      as_compression = rw typed at (tests.head_holder mode s at f (holds-compression t typed))

      pub compression_open : compression_kind s (at + h) ≡ 0 → unpacked_length s (at + h) ≡ z - grown h 9
          → head_at mode s at ≡ Open compression (at + h) (at + grown h 9) (at + z)
      compression_open kind unpacked = as_compression ∙ sym (tests.compression_open _ _ _ _ refl kind unpacked refl refl refl)

      pub compression_closed : (compression_kind s (at + h) ≡ 0 → ⊥) → head_at mode s at ≡ Closed compression (at + h) (at + z)
      compression_closed kind = as_compression ∙ sym (tests.compression-packed _ _ _ _ kind refl refl)

    module _ (typed : t ≡ guid_defined) (low : grown h 24 ≤ data_offset s (at + h)) (high : data_offset s (at + h) ≤ z) where
      as_guid : head_at mode s at ≡ holder_of s at guid_defined h z
      as_guid = rw typed at (tests.head_holder mode s at f (holds_guid t typed))

      pub guid_open : attributes s (at + h) % 2 ≡ 0 → head_at mode s at ≡ Open guid_defined (at + h) (at + data_offset s (at + h)) (at + z)
      guid_open clear = as_guid ∙ sym (tests.guid_open _ _ _ _ refl low high (λ e. omega arith) refl refl refl)

      pub guid_closed : attributes s (at + h) % 2 ≡ 1 → head_at mode s at ≡ Closed guid_defined (at + h) (at + z)
      guid_closed set = as_guid ∙ sym (tests.guid_packed _ _ _ _ refl low high set refl refl)
