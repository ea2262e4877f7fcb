-- The bytes that a header needs decide it: where the first bytes of a section are those of another list, and as many as that one needs, the two
-- say the same, and need as many.
use Prim.Native.Nat.{ℕ, zero, suc, ◌+◌, ◌%◌, ◌≤◌, ◌<◌}
use mathlib.Core.Path.{◌≡◌, refl, sym, ap, ◌∙◌}
use mathlib.Core.Bool.{Bool, true, false, cond, not, ◌&&◌}
use mathlib.Core.List.{List}
use mathlib.Core.Option.{some}
use native.Mathlib.Omega.{arith}
use native.Mathlib.Nat.{add-zero, zero-add}
use borrow.Author.Tests.{ltb-true, ltb-false}
use lib.Dec.{eqb, ltb}
use lib.ListN.{get_or, drop}
use lib.Seq.{get_or-drop}
use Rattle.common.specs.Refusals.{first_refusal}
use Rattle.numbers.specs.LittleEndian.{le}
use Rattle.sections.specs.Types.{compression, type_info}
use Rattle.sections.specs.Header.{size_field, is_long, header_length, size_at, type_at, compression_kind, attributes}
use Rattle.sections.specs.Header.{grown, is_holder, own_fields, contents_at, packed, wrong_contents, size_faults, section_of, head_in, holder_of}
use Rattle.sections.specs.Partial.{contents_fields, bytes_for, bytes_for_head, needed, fields_for}
use Rattle.sections.specs.declared.header.Mode.{Mode}
use Rattle.sections.specs.Header.{Head, Fault, Closed, Open}
use Rattle.sections.proofs.header.Decided.{own_least}
use Rattle.sections.proofs.header.Sizes.{Fits, header_range, short_size_lem, long_header_lem, long_size}
use Rattle.sections.proofs.header.Tests.{in_refused, in_leaf, in_holder}
use Rattle.sections.proofs.partial.Views.{says_201, says_201_long, Past, refuses, is_leaf, is_holder_lem, past, needed_header, needed_three, needed_most, own_holder, contents_own}

-- what stands so many bytes later
abbrev pub moved : ℕ → Head → Head
moved a (Fault n) = Fault n
moved a (Closed t first e) = Closed t (a + first) (a + e)
moved a (Open t first from e) = Open t (a + first) (a + from) (a + e)

-- a section needs its own fields
section_fields : (s : List ℕ) (at u g w : ℕ) → fields_for u (section_of s at u g w) ≡ own_fields u
unfolding fields_for section_of
section_fields s at u g w = go (is_holder (type_info u).class && not (packed s at u g))
  where
    go : (b : Bool) → fields_for u (cond b (Open u (at + g) (contents_at s at u g) (at + w)) (Closed u (at + g) (at + w))) ≡ own_fields u
    go true = refl
    go false = refl

module _ (mode : Mode) (left : ℕ) (x y : List ℕ) (a k : ℕ) (same : (j : ℕ) → j < k → get_or x (a + j) 0 ≡ get_or y j 0) where
  le-moved : (n d : ℕ) → d + n ≤ k → le n x (a + d) ≡ le n y d
  unfolding le
  le-moved zero d h = refl
  le-moved (suc n) d h =
      let e : a + d + 1 ≡ a + (d + 1) = omega arith in
      rw (same d (omega arith), e, le-moved n (d + 1) (omega arith))

  hx : ℕ
  hx = header_length mode x a

  hy : ℕ
  hy = header_length mode y 0

  module _ (three : 3 ≤ k) where
    same-field : size_field x a ≡ size_field y 0
    same-field = rw (add-zero a) at (le-moved 3 0 (omega arith))

    same_long : is_long mode (size_field x a) ≡ is_long mode (size_field y 0)
    same_long = ap (is_long mode) same-field

    same_header : header_length mode x a ≡ header_length mode y 0
    unfolding header_length
    same_header = rw same-field

    module _ (enough : header_length mode y 0 ≤ k) where
      abbrev t : ℕ
      t = type_at y 0

      abbrev h : ℕ
      h = header_length mode y 0

      abbrev z : ℕ
      z = size_at mode y 0

      same_type : type_at x a ≡ type_at y 0
      same_type = let r = header_range mode y 0 in same 3 (omega arith)

      same_size : size_at mode x a ≡ size_at mode y 0
      same_size = go (is_long mode (size_field y 0)) refl
        where
          go : (b : Bool) → is_long mode (size_field y 0) ≡ b → size_at mode x a ≡ size_at mode y 0
          go true e = long_size mode x a (same_long ∙ e) ∙ le-moved 4 4 (let r = long_header_lem mode y 0 e in omega arith) ∙ sym (long_size mode y 0 e)
          go false e = short_size_lem mode x a (same_long ∙ e) ∙ same-field ∙ sym (short_size_lem mode y 0 e)

      -- a holder's own fields: those that 204 tests, and the others
      module _ (l : is_holder (type_info t).class ≡ true) where
        same_contents : h + contents_fields t ≤ k → wrong_contents x a t h z ≡ wrong_contents y 0 t h z
        unfolding wrong_contents contents_fields
        same_contents fields = go (eqb t compression) refl
          where
            go : (b : Bool) → eqb t compression ≡ b → wrong_contents x a t h z ≡ wrong_contents y 0 t h z
            go true e =
                let f : h + 5 ≤ k = rw e at fields in
                let p : a + h + 4 ≡ a + (h + 4) = omega arith in
                let kind : get_or x (a + h + 4) 0 ≡ get_or y (h + 4) 0 = rw p (same (h + 4) (omega arith)) in
                let len : le 4 x (a + h) ≡ le 4 y h = le-moved 4 h (omega arith) in
                rw (zero-add h, e, kind, len)
            go false e =
                let f : h + 18 ≤ k = rw e at fields in
                let p : a + h + 16 ≡ a + (h + 16) = omega arith in
                let offset : le 2 x (a + h + 16) ≡ le 2 y (h + 16) = rw p (le-moved 2 (h + 16) (omega arith)) in
                rw (zero-add h, e, offset)

        same_section : h + own_fields t ≤ k → section_of x a t h z ≡ moved a (section_of y 0 t h z)
        unfolding section_of packed contents_at
        same_section fields = go (eqb t compression) refl
          where
            ended : (b : Bool) (from from' : ℕ) → from ≡ a + from'
                → cond b (Open t (a + h) from (a + z)) (Closed t (a + h) (a + z)) ≡ moved a (cond b (Open t h from' z) (Closed t h z))
            ended true from from' e = rw e
            ended false from from' e = refl

            go : (b : Bool) → eqb t compression ≡ b → section_of x a t h z ≡ moved a (section_of y 0 t h z)
            go true e =
                let f : h + 5 ≤ k = rw (own_holder t l, e) at fields in
                let p : a + h + 4 ≡ a + (h + 4) = omega arith in
                let kind : get_or x (a + h + 4) 0 ≡ get_or y (h + 4) 0 = rw p (same (h + 4) (omega arith)) in
                rw (zero-add h, zero-add z, e, kind) (ended (is_holder (type_info t).class && not (not (eqb (compression_kind y h) 0))) (a + grown h 9) (0 + grown h 9) (omega arith))
            go false e =
                let f : h + 20 ≤ k = rw (own_holder t l, e) at fields in
                let p : a + h + 16 ≡ a + (h + 16) = omega arith in
                let q : a + h + 18 ≡ a + (h + 18) = omega arith in
                let offset : le 2 x (a + h + 16) ≡ le 2 y (h + 16) = rw p (le-moved 2 (h + 16) (omega arith)) in
                let flags : le 2 x (a + h + 18) ≡ le 2 y (h + 18) = rw q (le-moved 2 (h + 18) (omega arith)) in
                rw (zero-add h, zero-add z, e, offset, flags)
                (ended (is_holder (type_info t).class && not (eqb (attributes y h % 2) 1)) (a + le 2 y (h + 16)) (0 + le 2 y (h + 16)) (omega arith))

        same_holder : h + fields_for t (holder_of y 0 t h z) ≤ k → holder_of x a t h z ≡ moved a (holder_of y 0 t h z)
        unfolding holder_of fields_for
        same_holder fields = go (wrong_contents y 0 t h z) refl
          where
            go : (b : Bool) → wrong_contents y 0 t h z ≡ b → holder_of x a t h z ≡ moved a (holder_of y 0 t h z)
            go true e = let f : h + contents_fields t ≤ k = rw e at fields in rw (same_contents f, e)
            go false e =
                let f : h + fields_for t (section_of y 0 t h z) ≤ k = rw e at fields in
                let n = section_fields y 0 t h z in
                let c = contents_own t l in
                rw (same_contents (omega arith), e) (same_section (omega arith))

      -- the size and the type
      same_fits : Fits mode left y 0 → Fits mode left x a
      same_fits f =
          record { four = f.four; headed = rw same_header f.headed; least = rw (same_header, same_type, same_size) f.least; fits = rw same_size f.fits }

      same-refused : {n : ℕ} → first_refusal (size_faults mode left y 0) ≡ some n → first_refusal (size_faults mode left x a) ≡ some n
      unfolding size_faults
      same-refused p = rw (same_header, same_type, same_size) p

      -- as many bytes are needed
      same-needed : head_in mode left x a ≡ moved a (head_in mode left y 0) → needed mode left x a ≡ needed mode left y 0
      unfolding needed bytes_for_head bytes_for
      same-needed p = ap (bytes_for_head mode left x a) p ∙ go (head_in mode left y 0)
        where
          go : (v : Head) → bytes_for_head mode left x a (moved a v) ≡ bytes_for_head mode left y 0 v
          go (Fault n) = rw (same_header, same_type)
          go (Closed u first e) = rw same_header
          go (Open u first from e) = rw same_header

      same_past : Past mode left y 0 → needed mode left y 0 ≤ k → head_in mode left x a ≡ moved a (head_in mode left y 0)
      same_past (refuses r v) enough = in_refused mode left x a (same-refused r) ∙ ap (moved a) (sym v.0)
      same_past (is_leaf f l v) enough =
          let p : head_in mode left x a ≡ Closed t (a + h) (a + z) = rw (same_header, same_type, same_size) at (in_leaf mode left x a (same_fits f) (rw same_type l)) in
          p ∙ rw (zero-add h, zero-add z) at (ap (moved a) (sym v.0))
      same_past (is_holder_lem f l v) enough =
          let p : head_in mode left x a ≡ holder_of x a t h z = rw (same_header, same_type, same_size) at (in_holder mode left x a (same_fits f) (rw same_type l)) in
          p ∙ same_holder l (rw v.1 at enough) ∙ ap (moved a) (sym v.0)

  pub agree : needed mode left y 0 ≤ k → (head_in mode left x a ≡ moved a (head_in mode left y 0)) × (needed mode left x a ≡ needed mode left y 0)
  agree enough = one (ltb left 4) refl
    where
      two : (b : Bool) → ltb left (header_length mode y 0) ≡ b → 4 ≤ left
          → (head_in mode left x a ≡ moved a (head_in mode left y 0)) × (needed mode left x a ≡ needed mode left y 0)
      two true e four =
          let few = ltb-true _ _ e in
          let r = needed_three mode left y 0 four in
          let three : 3 ≤ k = omega arith in
          let v = says_201_long mode left y 0 four few in
          let w = says_201_long mode left x a four (rw (same_header three) few) in
          (w.0 ∙ ap (moved a) (sym v.0), w.1 ∙ sym v.1)
      two false e four =
          let headed = ltb-false _ _ e in
          let r = needed_three mode left y 0 four in
          let three : 3 ≤ k = omega arith in
          let m = needed_header mode left y 0 four headed in
          let p = same_past three (omega arith) (past mode left y 0 four headed) enough in
          (p, same-needed three (omega arith) p)

      one : (b : Bool) → ltb left 4 ≡ b → (head_in mode left x a ≡ moved a (head_in mode left y 0)) × (needed mode left x a ≡ needed mode left y 0)
      one true e =
          let few = ltb-true _ _ e in
          let v = says_201 mode left y 0 few in
          let w = says_201 mode left x a few in
          (w.0 ∙ ap (moved a) (sym v.0), w.1 ∙ sym v.1)
      one false e = two _ refl (ltb-false _ _ e)

-- the bytes from a place on, as a list of their own
pub shifted : (mode : Mode) (left : ℕ) (x : List ℕ) (a : ℕ)
    → (head_in mode left x a ≡ moved a (head_in mode left (drop a x) 0)) × (needed mode left x a ≡ needed mode left (drop a x) 0)
shifted mode left x a = agree mode left x (drop a x) a 28 (λ j h. sym (get_or-drop a x j 0)) (needed_most mode left (drop a x) 0)

-- no header needs more bytes than are left in its stream
pub needed_left : (mode : Mode) (left : ℕ) (s : List ℕ) (at : ℕ) → 4 ≤ left → needed mode left s at ≤ left
unfolding fields_for
needed_left mode left s at four = go (ltb left (header_length mode s at)) refl
  where
    fits : (u : ℕ) (v : Head) → is_holder (type_info u).class ≡ true → fields_for u v ≤ own_fields u
    fits u (Fault n) l = contents_own u l
    fits u (Closed w first e) l = omega arith
    fits u (Open w first from e) l = omega arith

    more : header_length mode s at ≤ left → Past mode left s at → needed mode left s at ≤ left
    more headed (refuses r v) = omega (arith, v.1)
    more headed (is_leaf f l v) = omega (arith, v.1)
    more headed (is_holder_lem f l v) =
        let a = fits (type_at s at) (holder_of s at (type_at s at) (header_length mode s at) (size_at mode s at)) l in
        let b = own_least (type_at s at) in
        let c = f.least in
        let d = f.fits in
        let r = header_range mode s at in
        omega (arith, v.1)

    go : (b : Bool) → ltb left (header_length mode s at) ≡ b → needed mode left s at ≤ left
    go true e = omega (arith, (says_201_long mode left s at four (ltb-true _ _ e)).1)
    go false e = let headed = ltb-false left (header_length mode s at) e in more headed (past mode left s at four headed)
