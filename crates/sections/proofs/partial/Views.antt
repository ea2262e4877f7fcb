-- What stands at a start and how many bytes decide it, test by test.
use Prim.Native.Nat.{ℕ, ◌+◌, ◌-◌, ◌≤◌, ◌<◌}
use mathlib.Core.Path.{◌≡◌, refl, sym, ap, ◌∙◌}
use mathlib.Core.Bool.{Bool, true, false, cond, not, ◌&&◌}
use mathlib.Core.List.{List}
use mathlib.Core.Option.{Option, none, some, none-ne-some}
use Rattle.std.specs.Prelude.{Option as OptionOf, None, Some}
use mathlib.Core.Logic.{◌⊎◌, inl, inr}
use native.Mathlib.Omega.{arith}
use native.Mathlib.Nat.{add-zero}
use borrow.Author.Tests.{lt-ltb, le-ltb, ltb-true, ltb-false, eqb-true, leb-true, leb-false, lt-leb, le-leb, ne_eqb}
use lib.Dec.{eqb, leb, ltb}
use Rattle.common.specs.Refusals.{first_refusal}
use Rattle.sections.specs.Types.{compression, type_info}
use Rattle.sections.specs.Header.{header_length, size_at, type_at, least_size, is_holder, own_fields, contents_at, packed, wrong_contents}
use Rattle.sections.specs.Header.{size_faults, section_of, head_in, sized_at, holder_of}
use Rattle.sections.specs.Partial.{contents_fields, bytes_for, bytes_for_head, needed, decided, fields_for, partial_of}
use Rattle.sections.specs.declared.types.TypeInfo.{TypeInfo}
use Rattle.sections.specs.declared.header.Mode.{Mode}
use Rattle.sections.specs.Header.{Head, Fault, Closed, Open}
use Rattle.sections.specs.Header.{Refused, Sized, opened, past_203}
use Rattle.sections.specs.declared.header.Header.{Header}
use Rattle.sections.specs.declared.header.Section.{Section}
use Rattle.sections.specs.Partial.{Partial}
use Rattle.sections.proofs.types.Rows.{least_range, holder_guid}
use Rattle.sections.proofs.header.Decided.{own_fields_lem, own_least}
use Rattle.sections.proofs.header.Sizes.{Fits, header_range, size_none, size_201, size_201_long, size_202, size_203}
use Rattle.sections.proofs.header.Tests.{Headed, in_refused, in_leaf, in_holder, in_of_refused, is_refused, is_sized}

module _ (mode : Mode) (left : ℕ) (s : List ℕ) (at : ℕ) where
  abbrev h : ℕ
  h = header_length mode s at

  abbrev z : ℕ
  z = size_at mode s at

  abbrev t : ℕ
  t = type_at s at

  -- what stands there, and how many bytes decide it
  abbrev pub Says : Head → ℕ → Type 0
  Says x n = (head_in mode left s at ≡ x) × (needed mode left s at ≡ n)

  says : {x : Head} {n : ℕ} → head_in mode left s at ≡ x → bytes_for_head mode left s at x ≡ n → Says x n
  unfolding needed
  says p q = (p, ap (bytes_for_head mode left s at) p ∙ q)

  pub says_201 : left < 4 → Says (Fault 201) 0
  unfolding bytes_for_head bytes_for
  says_201 few = says (in_refused mode left s at (size_201 mode left s at few)) (rw (lt-ltb left 4 few))

  pub says_201_long : 4 ≤ left → left < h → Says (Fault 201) 3
  unfolding bytes_for_head bytes_for
  says_201_long four few = says (in_refused mode left s at (size_201_long mode left s at four few)) (rw (le-ltb left 4 four))

  module _ (four : 4 ≤ left) (headed : h ≤ left) where
    pub says_202 : z < least_size h t → Says (Fault 202) h
    unfolding bytes_for_head bytes_for
    says_202 small = says (in_refused mode left s at (size_202 mode left s at four headed small)) refl

    pub says_203 : least_size h t ≤ z → left < z → Says (Fault 203) h
    unfolding bytes_for_head bytes_for
    says_203 least past = says (in_refused mode left s at (size_203 mode left s at four headed least past)) refl

  pub says_leaf : Fits mode left s at → is_holder (type_info t).class ≡ false → Says (Closed t (at + h) (at + z)) h
  unfolding bytes_for_head own_fields
  says_leaf f l = says (in_leaf mode left s at f l) (rw (l, add-zero h))

  module _ (f : Fits mode left s at) (l : is_holder (type_info t).class ≡ true) where
    fields : bytes_for_head mode left s at (holder_of s at t h z) ≡ h + fields_for t (holder_of s at t h z)
    unfolding bytes_for_head bytes_for fields_for holder_of section_of
    fields = go (wrong_contents s at t h z) (is_holder (type_info t).class && not (packed s at t h))
      where
        found : (w o : Bool) → Head
        found w o = cond w (Fault 204) (cond o (Open t (at + h) (contents_at s at t h) (at + z)) (Closed t (at + h) (at + z)))

        go : (w o : Bool) → bytes_for_head mode left s at (found w o) ≡ h + fields_for t (found w o)
        go true o = refl
        go false true = refl
        go false false = refl

    pub says_holder : Says (holder_of s at t h z) (h + fields_for t (holder_of s at t h z))
    says_holder = says (in_holder mode left s at f l) fields

  -- past 201: by the size, or by the type
  pub data Past : Type 0 where
    refuses : {n : ℕ} → first_refusal (size_faults mode left s at) ≡ some n → Says (Fault n) h → Past
    is_leaf : Fits mode left s at → is_holder (type_info t).class ≡ false → Says (Closed t (at + h) (at + z)) h → Past
    is_holder_lem : Fits mode left s at → is_holder (type_info t).class ≡ true → Says (holder_of s at t h z) (h + fields_for t (holder_of s at t h z)) → Past

  module _ (four : 4 ≤ left) (headed : h ≤ left) where
    pub past : Past
    past = one (ltb z (least_size h t)) refl
      where
        three : (b : Bool) → is_holder (type_info t).class ≡ b → Fits mode left s at → Past
        three true l f = is_holder_lem f l (says_holder f l)
        three false l f = is_leaf f l (says_leaf f l)

        two : (b : Bool) → ltb left z ≡ b → least_size h t ≤ z → Past
        two true e least =
            let over = ltb-true _ _ e in
            refuses (size_203 mode left s at four headed least over) (says_203 four headed least over)
        two false e least = three _ refl (record { four = four; headed = headed; least = least; fits = ltb-false _ _ e })

        one : (b : Bool) → ltb z (least_size h t) ≡ b → Past
        one true e = let small = ltb-true _ _ e in refuses (size_202 mode left s at four headed small) (says_202 four headed small)
        one false e = two _ refl (ltb-false _ _ e)

    pub needed_header : h ≤ needed mode left s at
    needed_header = go past
      where
        go : Past → h ≤ needed mode left s at
        go (refuses r x) = omega (arith, x.1)
        go (is_leaf f l x) = omega (arith, x.1)
        go (is_holder_lem f l x) = omega (arith, x.1)

    -- by what the size reader answers
    pub says_refused : {n : ℕ} → Refused n ≡ sized_at mode left s at → Says (Fault n) h
    says_refused {n} p = go past
      where
        r : first_refusal (size_faults mode left s at) ≡ some n
        r = is_refused mode left s at (sym p)

        no_fit : Fits mode left s at → ⊥
        no_fit f = let q : ◌≡◌ {A = Option ℕ} none (some n) = sym (size_none mode left s at f) ∙ r in none-ne-some n q

        go : Past → Says (Fault n) h
        go (refuses _ x) = (sym (in_of_refused mode left s at p), x.1)
        go (is_leaf f _ x) = absurd (no_fit f)
        go (is_holder_lem f _ x) = absurd (no_fit f)

  pub says_past : (x : Header) {v : Head} → Sized x.section_type x.length x.size ≡ sized_at mode left s at → v ≡ past_203 s at x
      → Says v (x.length + fields_for x.section_type v)
  unfolding past_203 fields_for own_fields
  says_past x {v} p q = go (is_holder (type_info t).class) refl
    where
      k : Headed mode left s at x.section_type x.length x.size
      k = is_sized mode left s at (sym p)

      go : (b : Bool) → is_holder (type_info t).class ≡ b → Says v (x.length + fields_for x.section_type v)
      go true e = rw (rw (k.typed, k.headed, k.sized, e) at q, k.typed, k.headed) (says_holder k.fits e)
      go false e = rw (rw (k.typed, k.headed, k.sized, e) at q, k.typed, k.headed, e, add-zero h) (says_leaf k.fits e)

  pub needed_three : 4 ≤ left → 3 ≤ needed mode left s at
  needed_three four = go (ltb left h) refl
    where
      go : (b : Bool) → ltb left h ≡ b → 3 ≤ needed mode left s at
      go true e = omega (arith, (says_201_long four (ltb-true _ _ e)).1)
      go false e = let r = header_range mode s at in let n = needed_header four (ltb-false _ _ e) in omega arith

-- what is answered of the first bytes, by what the whole header says
module _ (mode : Mode) (left : ℕ) (s : List ℕ) (have : ℕ) where
  pub part_waits : have < needed mode left s 0 → Partial.Waiting ≡ partial_of mode s have left
  unfolding partial_of
  part_waits few = rw (lt-leb _ _ few)

  pub part_finds : {x : Head} {n : ℕ} → Says mode left s 0 x n → n ≤ have → decided x ≡ partial_of mode s have left
  unfolding partial_of
  part_finds (p, q) enough = rw (le-leb (needed mode left s 0) have (omega (arith, q)), p)

  -- as the code meets it
  pub finds_201 : left < 4 → Partial.Fault 201 ≡ partial_of mode s have left
  unfolding decided
  finds_201 few = part_finds (says_201 mode left s 0 few) (omega arith)

  module _ (four : 4 ≤ left) where
    pub waits_size : have < 3 → Partial.Waiting ≡ partial_of mode s have left
    waits_size few = part_waits (let n = needed_three mode left s 0 four in omega arith)

    module _ {h : ℕ} (e : h ≡ header_length mode s 0) where
      pub finds_201_long : left < h → 3 ≤ have → Partial.Fault 201 ≡ partial_of mode s have left
      unfolding decided
      finds_201_long few enough = part_finds (says_201_long mode left s 0 four (omega arith)) enough

      module _ (headed : h ≤ left) where
        pub waits_header : have < h → Partial.Waiting ≡ partial_of mode s have left
        waits_header few = part_waits (let n = needed_header mode left s 0 four (omega arith) in omega arith)

        module _ (enough : h ≤ have) where
          pub finds_refused : {n : ℕ} → Refused n ≡ sized_at mode left s 0 → Partial.Fault n ≡ partial_of mode s have left
          unfolding decided
          finds_refused p = part_finds (says_refused mode left s 0 four (omega arith) p) (omega arith)

-- the fields of the two holders
module _ (u : ℕ) {r : ℕ} where
  pub contents_compression : u ≡ compression → r ≡ 5 → r ≡ contents_fields u
  unfolding contents_fields
  contents_compression e n = rw (e, n)

  pub contents_guid : (u ≡ compression → ⊥) → r ≡ 18 → r ≡ contents_fields u
  unfolding contents_fields
  contents_guid e n = rw (ne_eqb u compression e, n)

pub contents_most : (u : ℕ) → contents_fields u ≤ 20
unfolding contents_fields
contents_most u = go (eqb u compression)
  where
    go : (b : Bool) → cond b 5 18 ≤ 20
    go true = omega arith
    go false = omega arith

pub own_most : (u : ℕ) → own_fields u ≤ 20
own_most u = let o = own_least u in let l = least_range u in omega arith

-- by what the type stands for
module _ (u : ℕ) {info : TypeInfo} (known : info ≡ type_info u) where
  pub own_of_holder : is_holder info.class ≡ true → info.least - 4 ≡ own_fields u
  unfolding own_fields
  own_of_holder l = rw (known, rw known at l)

  pub own_of_leaf : is_holder info.class ≡ false → 0 ≡ own_fields u
  unfolding own_fields
  own_of_leaf l = rw (rw known at l)

-- the own fields of a holder are those that 204 tests and, of a GUID-defined section, its attributes
pub own_holder : (u : ℕ) → is_holder (type_info u).class ≡ true → own_fields u ≡ cond (eqb u compression) 5 20
own_holder u l = go (eqb u compression) refl
  where
    go : (b : Bool) → eqb u compression ≡ b → own_fields u ≡ cond b 5 20
    go true e = ap own_fields (eqb-true _ _ e) ∙ own_fields_lem.0
    go false e = ap own_fields (holder_guid u l e) ∙ own_fields_lem.1

pub contents_own : (u : ℕ) → is_holder (type_info u).class ≡ true → contents_fields u ≤ own_fields u
unfolding contents_fields
contents_own u l = rw (own_holder u l) (go (eqb u compression))
  where
    go : (b : Bool) → cond b 5 18 ≤ cond b 5 20
    go true = omega arith
    go false = omega arith

-- how many bytes decide 204, as the code counts them: of a leaf it reads none
abbrev pub tested_fields : ℕ → ℕ
tested_fields u = cond (is_holder (type_info u).class) (contents_fields u) 0

pub tested_holder : (u : ℕ) {r : ℕ} → is_holder (type_info u).class ≡ true → r ≡ contents_fields u → r ≡ tested_fields u
tested_holder u e p = p ∙ rw e

pub tested_leaf : (u : ℕ) → is_holder (type_info u).class ≡ false → 0 ≡ tested_fields u
tested_leaf u e = rw e

pub tested_most : (u : ℕ) → tested_fields u ≤ 20
tested_most u = go (is_holder (type_info u).class)
  where
    go : (b : Bool) → cond b (contents_fields u) 0 ≤ 20
    go true = contents_most u
    go false = omega arith

tested_least : (u : ℕ) (v : Head) → tested_fields u ≤ fields_for u v
unfolding fields_for
tested_least u v = go (is_holder (type_info u).class) refl v
  where
    go : (b : Bool) → is_holder (type_info u).class ≡ b → (v : Head) → cond b (contents_fields u) 0 ≤ fields_for u v
    go false e v = omega arith
    go true e (Fault n) = omega arith
    go true e (Closed w first end) = contents_own u e
    go true e (Open w first from end) = contents_own u e

-- the code's tests of a section that passed 201 to 203, of which so many bytes came
module _ (mode : Mode) (left : ℕ) (s : List ℕ) (have : ℕ) (x : Header) (p : Sized x.section_type x.length x.size ≡ sized_at mode left s 0) where
  pub waits_tested : {k : ℕ} → k ≡ tested_fields x.section_type → have < x.length + k → Partial.Waiting ≡ partial_of mode s have left
  waits_tested e few =
      let l = tested_least x.section_type (past_203 s 0 x) in
      part_waits mode left s have (omega (arith, (says_past mode left s 0 x p refl).1))

  pub finds_204 : {k n : ℕ} → k ≡ tested_fields x.section_type → x.length + k ≤ have → Fault n ≡ past_203 s 0 x → Partial.Fault n ≡ partial_of mode s have left
  unfolding past_203 fields_for decided
  finds_204 {k} {n} e enough q = go (is_holder (type_info x.section_type).class) refl
    where
      go : (b : Bool) → is_holder (type_info x.section_type).class ≡ b → Partial.Fault n ≡ partial_of mode s have left
      go true h =
          let j : k ≡ contents_fields x.section_type = rw h at e in
          part_finds mode left s have (says_past mode left s 0 x p q) (omega arith)
      go false h =
          let f : Fault n ≡ Closed x.section_type (0 + x.length) (0 + x.size) = rw h at q in
          let z : ◌≡◌ {A = ℕ} 0 1 = cc in absurd (omega arith)

  module _ (y : Section) {k : ℕ} (e : k ≡ own_fields x.section_type) (q : opened y.section_type y.first y.end y.contents ≡ past_203 s 0 x) where
    own : fields_for x.section_type (opened y.section_type y.first y.end y.contents) ≡ own_fields x.section_type
    unfolding fields_for
    own = go y.contents
      where
        go : (o : OptionOf ℕ) → fields_for x.section_type (opened y.section_type y.first y.end o) ≡ own_fields x.section_type
        go None = refl
        go (Some from) = refl

    pub waits_own : have < x.length + k → Partial.Waiting ≡ partial_of mode s have left
    waits_own few = part_waits mode left s have (omega (arith, (says_past mode left s 0 x p q).1, own))

    pub finds_section : x.length + k ≤ have → decided (opened y.section_type y.first y.end y.contents) ≡ partial_of mode s have left
    finds_section enough = part_finds mode left s have (says_past mode left s 0 x p q) (omega (arith, own))

-- no header needs more than 28 bytes
pub fields_most : (u : ℕ) (x : Head) → fields_for u x ≤ 20
unfolding fields_for
fields_most u (Fault n) = contents_most u
fields_most u (Closed v first e) = own_most u
fields_most u (Open v first from e) = own_most u

pub needed_most : (mode : Mode) (left : ℕ) (s : List ℕ) (at : ℕ) → needed mode left s at ≤ 28
needed_most mode left s at = one (ltb left 4) refl
  where
    past_most : Past mode left s at → needed mode left s at ≤ 28
    past_most (refuses r x) = let h = header_range mode s at in omega (arith, x.1)
    past_most (is_leaf f l x) = let h = header_range mode s at in omega (arith, x.1)
    past_most (is_holder_lem f l x) =
        let h = header_range mode s at in
        let m = fields_most (type_at s at) (holder_of s at (type_at s at) (header_length mode s at) (size_at mode s at)) in
        omega (arith, x.1)

    two : (b : Bool) → ltb left (header_length mode s at) ≡ b → 4 ≤ left → needed mode left s at ≤ 28
    two true e four = omega (arith, (says_201_long mode left s at four (ltb-true _ _ e)).1)
    two false e four = past_most (past mode left s at four (ltb-false _ _ e))

    one : (b : Bool) → ltb left 4 ≡ b → needed mode left s at ≤ 28
    one true e = omega (arith, (says_201 mode left s at (ltb-true _ _ e)).1)
    one false e = two _ refl (ltb-false _ _ e)

-- what the first bytes say is what all say, once they are enough
pub part_is : (mode : Mode) (left : ℕ) (s : List ℕ) (have : ℕ)
    → ((have < needed mode left s 0) × (partial_of mode s have left ≡ Partial.Waiting))
    ⊎ ((needed mode left s 0 ≤ have) × (partial_of mode s have left ≡ decided (head_in mode left s 0)))
unfolding partial_of
part_is mode left s have = go (leb (needed mode left s 0) have) refl
  where
    go : (b : Bool) → leb (needed mode left s 0) have ≡ b
        → ((have < needed mode left s 0) × (cond b (decided (head_in mode left s 0)) Partial.Waiting ≡ Partial.Waiting))
        ⊎ ((needed mode left s 0 ≤ have) × (cond b (decided (head_in mode left s 0)) Partial.Waiting ≡ decided (head_in mode left s 0)))
    go true e = inr (leb-true _ _ e, refl)
    go false e = inl (leb-false _ _ e, refl)
