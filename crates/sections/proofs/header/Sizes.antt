-- What the size reader meets, test by test, in order: which header stands at a start, and 201 to 203, which it decides alone.
use Prim.Native.Nat.{ℕ, ◌+◌, ◌≤◌, ◌<◌}
use mathlib.Core.Path.{◌≡◌, refl, sym, ◌∙◌}
use mathlib.Core.Bool.{Bool, true, false, cond, ◌&&◌}
use mathlib.Core.List.{List}
use mathlib.Core.Option.{none, some}
use native.Mathlib.Omega.{arith}
use borrow.Author.Tests.{lt-ltb, le-ltb, ltb-false, eq-eqb, ne_eqb}
use lib.Dec.{eqb, ltb}
use Rattle.common.specs.Refusals.{first_refusal, unless_refused}
use Rattle.common.proofs.Refusals.{row_applies, row_passes, row-passed, no_row}
use Rattle.numbers.specs.LittleEndian.{le}
use Rattle.sections.specs.Header.{is_pi, size_field, largest_field, is_long, header_length, size_at, type_at, least_size}
use Rattle.sections.specs.Header.{size_faults}
use Rattle.sections.specs.Header.{sized_at, tested_of}
use Rattle.sections.specs.declared.header.Mode.{Mode}
use Rattle.sections.specs.declared.header.Mode.TheVariants.{Framework}
use Rattle.sections.specs.Header.{Size, Refused}

-- which header it is
pub not_long_framework : (field : ℕ) → is_long Framework field ≡ false
unfolding is_long
not_long_framework field = refl

module _ (mode : Mode) (s : List ℕ) (at : ℕ) where
  pub not_long : (size_field s at ≡ largest_field → ⊥) → is_long mode (size_field s at) ≡ false
  unfolding is_long
  not_long h = go (is_pi mode)
    where
      go : (b : Bool) → (b && eqb (size_field s at) largest_field) ≡ false
      go true = ne_eqb _ _ h
      go false = refl

  pub pi_long : is_pi mode ≡ true → size_field s at ≡ largest_field → is_long mode (size_field s at) ≡ true
  unfolding is_long
  pi_long e h = rw e (eq-eqb (size_field s at) largest_field h)

  module _ (e : is_long mode (size_field s at) ≡ false) where
    pub short_header : header_length mode s at ≡ 4
    unfolding header_length
    short_header = rw e

    pub short_size_lem : size_at mode s at ≡ size_field s at
    unfolding size_at
    short_size_lem = rw e

  module _ (e : is_long mode (size_field s at) ≡ true) where
    pub long_header_lem : header_length mode s at ≡ 8
    unfolding header_length
    long_header_lem = rw e

    pub long_size : size_at mode s at ≡ le 4 s (at + 4)
    unfolding size_at
    long_size = rw e

  -- a header has 4 to 8 bytes
  pub header_range : (4 ≤ header_length mode s at) × (header_length mode s at ≤ 8)
  unfolding header_length
  header_range = go (is_long mode (size_field s at))
    where
      go : (b : Bool) → (4 ≤ cond b 8 4) × (cond b 8 4 ≤ 8)
      go true = (omega arith, omega arith)
      go false = (omega arith, omega arith)

-- 201 to 203 do not apply, with `left` bytes left
pub record Fits (mode : Mode) (left : ℕ) (s : List ℕ) (at : ℕ) : Type 0 where
  pub four : 4 ≤ left
  pub headed : header_length mode s at ≤ left
  pub least : least_size (header_length mode s at) (type_at s at) ≤ size_at mode s at
  pub fits : size_at mode s at ≤ left

-- two tests one in the other, and as rows
in_order : (found : Size) (a b : Bool)
    → cond a (Refused 202) (cond b (Refused 203) found) ≡ unless_refused Refused (cond a (some 202) (cond b (some 203) none)) found
in_order found true b = refl
in_order found false true = refl
in_order found false false = refl

-- the size reader's tests, in order
module _ (mode : Mode) (left : ℕ) (s : List ℕ) (at : ℕ) where
  pub size_201 : left < 4 → first_refusal (size_faults mode left s at) ≡ some 201
  unfolding size_faults
  size_201 few = row_applies _ _ _ (lt-ltb left 4 few)

  module _ (four : 4 ≤ left) where
    pub size_201_long : left < header_length mode s at → first_refusal (size_faults mode left s at) ≡ some 201
    unfolding size_faults
    size_201_long few = row_passes _ _ _ _ (le-ltb left 4 four) (row_applies _ _ _ (lt-ltb left (header_length mode s at) few))

    module _ (headed : header_length mode s at ≤ left) where
      pub size_202 : size_at mode s at < least_size (header_length mode s at) (type_at s at) → first_refusal (size_faults mode left s at) ≡ some 202
      unfolding size_faults
      size_202 small =
          row_passes _ _ _ _ (le-ltb left 4 four) (row_passes _ _ _ _ (le-ltb left (header_length mode s at) headed) (row_applies _ _ _ (lt-ltb _ _ small)))

      pub size_203 : least_size (header_length mode s at) (type_at s at) ≤ size_at mode s at → left < size_at mode s at
          → first_refusal (size_faults mode left s at) ≡ some 203
      unfolding size_faults
      size_203 least past =
          row_passes _ _ _ _ (le-ltb left 4 four)
          (row_passes _ _ _ _ (le-ltb left (header_length mode s at) headed)
          (row_passes _ _ _ _ (le-ltb _ _ least) (row_applies _ _ _ (lt-ltb _ _ past))))

  pub size_none : Fits mode left s at → first_refusal (size_faults mode left s at) ≡ none
  unfolding size_faults
  size_none f =
      row_passes _ _ _ _ (le-ltb left 4 f.four)
      (row_passes _ _ _ _ (le-ltb left (header_length mode s at) f.headed)
      (row_passes _ _ _ _ (le-ltb _ _ f.least) (row_passes _ _ _ _ (le-ltb _ _ f.fits) no_row)))

  pub none_fits : first_refusal (size_faults mode left s at) ≡ none → Fits mode left s at
  unfolding size_faults
  none_fits e =
      let a = row-passed _ _ e in
      let b = row-passed _ _ a.1 in
      let c = row-passed _ _ b.1 in
      let d = row-passed _ _ c.1 in
      record { four = ltb-false _ _ a.0; headed = ltb-false _ _ b.0; least = ltb-false _ _ c.0; fits = ltb-false _ _ d.0 }

  -- what it answers: 201, and past it what the other two tests give
  sized_refused : {n : ℕ} → first_refusal (size_faults mode left s at) ≡ some n → Refused n ≡ sized_at mode left s at
  unfolding sized_at
  sized_refused e = rw e

  sized_tested : 4 ≤ left → header_length mode s at ≤ left
      → tested_of left (least_size (header_length mode s at) (type_at s at)) (type_at s at) (header_length mode s at) (size_at mode s at) ≡ sized_at mode left s at
  unfolding sized_at size_faults first_refusal
  sized_tested four headed =
      rw (le-ltb left 4 four, le-ltb left (header_length mode s at) headed)
      (in_order _ (ltb (size_at mode s at) (least_size (header_length mode s at) (type_at s at))) (ltb left (size_at mode s at)))

  pub sized_201 : left < 4 → Refused 201 ≡ sized_at mode left s at
  sized_201 few = sized_refused (size_201 few)

  module _ {field : ℕ} (four : 4 ≤ left) (read : field ≡ size_field s at) where
    pub sized_short : {section_type header : ℕ} {r : Size} → is_long mode field ≡ false → header ≡ 4 → section_type ≡ type_at s at
        → r ≡ tested_of left (least_size header section_type) section_type header field → r ≡ sized_at mode left s at
    sized_short {header = header} e four_bytes typed p =
        let short = rw read at e in
        let h : header ≡ header_length mode s at = four_bytes ∙ sym (short_header mode s at short) in
        p ∙ rw (typed, h, read, ← short_size_lem mode s at short) (sized_tested four (omega arith))

    module _ (e : is_long mode field ≡ true) where
      long : is_long mode (size_field s at) ≡ true
      long = rw read at e

      pub sized_201_long : left < 8 → Refused 201 ≡ sized_at mode left s at
      sized_201_long few = sized_refused (size_201_long four (rw (long_header_lem mode s at long) few))

      pub sized_long : {section_type header size : ℕ} {r : Size} → 8 ≤ left → header ≡ 8 → section_type ≡ type_at s at → size ≡ le 4 s (at + 4)
          → r ≡ tested_of left (least_size header section_type) section_type header size → r ≡ sized_at mode left s at
      sized_long {header = header} eight eight_bytes typed n p =
          let h : header ≡ header_length mode s at = eight_bytes ∙ sym (long_header_lem mode s at long) in
          p ∙ rw (typed, h, n, ← long_size mode s at long) (sized_tested four (omega arith))
