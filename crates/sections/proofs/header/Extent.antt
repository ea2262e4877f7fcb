-- Where a section that passed every test lies, and its contents.
use Prim.Native.Nat.{ℕ, ◌+◌, ◌≤◌}
use mathlib.Core.Path.{◌≡◌, refl, sym, ◌∙◌}
use mathlib.Core.Bool.{Bool, true, false, not, ◌&&◌}
use mathlib.Core.List.{List}
use mathlib.Core.Logic.{inl, inr}
use Rattle.std.specs.Prelude.{Option as OptionOf, None, Some, Result, Ok, Err, IfOk}
use Rattle.common.specs.declared.refusal.Refusal.{Refusal}
use native.Mathlib.Omega.{arith}
use lib.Dec.{eqb}
use lib.ListN.{length}
use Rattle.sections.specs.Types.{compression, type_info}
use Rattle.sections.specs.Header.{header_length, size_at, type_at, least_size, is_holder, contents_at, packed, section_of, section_at, head_at}
use Rattle.sections.specs.declared.header.Mode.{Mode}
use Rattle.sections.specs.Header.{Closed, Open, opened, head_of, IsWithin}
use Rattle.sections.specs.declared.header.Section.{Section}
use Rattle.sections.proofs.types.Rows.{least_range, least_compression, holder_guid}
use Rattle.sections.proofs.header.Sizes.{header_range}
use Rattle.sections.proofs.header.Cases.{Whole, AtStart, head_cases}

-- a section that is not opened, and one that is
pub record IsClosed (mode : Mode) (s : List ℕ) (at t first e : ℕ) : Type 0 where
  pub whole : Whole mode s at
  pub typed : t ≡ type_at s at
  pub shows : first ≡ at + header_length mode s at
  pub end : e ≡ at + size_at mode s at

pub record IsOpen (mode : Mode) (s : List ℕ) (at t first f e : ℕ) : Type 0 where
  pub whole : Whole mode s at
  pub typed : t ≡ type_at s at
  pub shows : first ≡ at + header_length mode s at
  pub from : f ≡ contents_at s at (type_at s at) (header_length mode s at)
  pub end : e ≡ at + size_at mode s at
  pub holds : is_holder (type_info (type_at s at)).class ≡ true

module _ (mode : Mode) (s : List ℕ) (at : ℕ) where
  abbrev h : ℕ
  h = header_length mode s at

  abbrev z : ℕ
  z = size_at mode s at

  pub is_closed : {t first e : ℕ} → head_at mode s at ≡ Closed t first e → IsClosed mode s at t first e
  unfolding section_of
  is_closed {t} {first} {e} p = go (head_cases mode s at)
    where
      cases : Whole mode s at → (o : Bool) → (is_holder (type_info (type_at s at)).class && not (packed s at (type_at s at) h)) ≡ o
          → section_at mode s at ≡ Closed t first e → IsClosed mode s at t first e
      cases w true x q =
          let r : Open (type_at s at) (at + h) (contents_at s at (type_at s at) h) (at + z) ≡ Closed t first e = rw x at q in
          let z : ◌≡◌ {A = ℕ} 0 1 = cc in absurd (omega arith)
      cases w false x q =
          let r : Closed (type_at s at) (at + h) (at + z) ≡ Closed t first e = rw x at q in
          record { whole = w; typed = cc; shows = cc; end = cc }

      go : AtStart mode s at → IsClosed mode s at t first e
      go (inl (n, q, f)) = let z : ◌≡◌ {A = ℕ} 0 1 = cc in absurd (omega arith)
      go (inr (q, w)) = cases w _ refl (sym q ∙ p)

  pub is_open : {t first f e : ℕ} → head_at mode s at ≡ Open t first f e → IsOpen mode s at t first f e
  unfolding section_of
  is_open {t} {first} {f} {e} p = go (head_cases mode s at)
    where
      held : (b : Bool) → is_holder (type_info (type_at s at)).class ≡ b → (is_holder (type_info (type_at s at)).class && not (packed s at (type_at s at) h)) ≡ true
          → is_holder (type_info (type_at s at)).class ≡ true
      held true x q = x
      held false x q = let r : false ≡ true = rw x at q in let z : ◌≡◌ {A = ℕ} 0 1 = cc in absurd (omega arith)

      cases : Whole mode s at → (o : Bool) → (is_holder (type_info (type_at s at)).class && not (packed s at (type_at s at) h)) ≡ o
          → section_at mode s at ≡ Open t first f e → IsOpen mode s at t first f e
      cases w true x q =
          let r : Open (type_at s at) (at + h) (contents_at s at (type_at s at) h) (at + z) ≡ Open t first f e = rw x at q in
          record { whole = w; typed = cc; shows = cc; from = cc; end = cc; holds = held _ refl x }
      cases w false x q =
          let r : Closed (type_at s at) (at + h) (at + z) ≡ Open t first f e = rw x at q in
          let z : ◌≡◌ {A = ℕ} 0 1 = cc in absurd (omega arith)

      go : AtStart mode s at → IsOpen mode s at t first f e
      go (inl (n, q, f)) = let z : ◌≡◌ {A = ℕ} 0 1 = cc in absurd (omega arith)
      go (inr (q, w)) = cases w _ refl (sym q ∙ p)

  -- a section lies inside its stream, and shows what follows its header
  pub closed_within : {t first e : ℕ} → head_at mode s at ≡ Closed t first e
      → (at + least_size h t ≤ e) × (first ≡ at + h) × (at + 4 ≤ first) × (first ≤ e) × (e ≤ length s)
  closed_within {t} {first} {e} p =
      let c = is_closed p in
      let w = c.whole.fit in
      let q = (least_range (type_at s at)).0 in
      let r = header_range mode s at in
      let k : (type_info t).least ≡ (type_info (type_at s at)).least = rw c.typed in
      (omega arith, omega arith, omega arith, omega arith, omega arith)

  -- a holder's contents lie inside it, after the type's own header
  pub contents_within : Whole mode s at → is_holder (type_info (type_at s at)).class ≡ true
      → (at + least_size h (type_at s at) ≤ contents_at s at (type_at s at) h) × (contents_at s at (type_at s at) h ≤ at + z)
  unfolding contents_at
  contents_within w holds = go (eqb (type_at s at) compression) refl
    where
      go : (b : Bool) → eqb (type_at s at) compression ≡ b
          → (at + least_size h (type_at s at) ≤ contents_at s at (type_at s at) h) × (contents_at s at (type_at s at) h ≤ at + z)
      go true x =
          let nine = least_compression (type_at s at) x in
          let l = w.fit.least in
          rw x (omega arith, omega arith)
      go false x =
          let o = w.offset (holder_guid (type_at s at) holds x) in
          let q = least_range (type_at s at) in
          rw x (omega arith, omega arith)

  pub open_within : {t first f e : ℕ} → head_at mode s at ≡ Open t first f e
      → (at + least_size h t ≤ f) × (first ≡ at + h) × (at + 4 ≤ first) × (first ≤ f) × (f ≤ e) × (e ≤ length s)
  open_within {t} {first} {f} {e} p =
      let o = is_open p in
      let w = o.whole.fit in
      let c = contents_within o.whole o.holds in
      let k : (type_info t).least ≡ (type_info (type_at s at)).least = rw o.typed in
      let q = (least_range (type_at s at)).0 in
      let r = header_range mode s at in
      (omega arith, omega arith, omega arith, omega arith, omega arith, omega arith)

  -- the same of the section that the code read
  opened_within : (t first e : ℕ) (o : OptionOf ℕ) → opened t first e o ≡ head_at mode s at
      → IsWithin s at (record { section_type = t; first = first; end = e; contents = o })
  opened_within t first e None p =
      let w = closed_within (sym p) in record { after = omega arith; shown = omega arith; inside = omega arith; contents = tt }
  opened_within t first e (Some from) p =
      let w = open_within (sym p) in record { after = omega arith; shown = omega arith; inside = omega arith; contents = omega arith }

  pub read_within : (r : Result Section Refusal) → head_of r ≡ head_at mode s at → IfOk r (IsWithin s at)
  read_within (Ok x) p = opened_within x.section_type x.first x.end x.contents p
  read_within (Err e) p = tt
