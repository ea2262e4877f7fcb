-- A stream of at most 16 MiB on whose walk no section has a size field of FF FF FF reads the same in both modes.
use Prim.Native.Nat.{ℕ, zero, suc, ◌+◌, ◌-◌, ◌≤◌, ◌<◌}
use mathlib.Core.Path.{◌≡◌, refl, sym, ap, ◌∙◌}
use mathlib.Core.Bool.{Bool, true, false, cond}
use mathlib.Core.List.{List}
use mathlib.Core.Logic.{◌⊎◌, inl, inr}
use mathlib.Core.Option.{none}
use native.Mathlib.Omega.{arith}
use borrow.Author.Tests.{le-ltb, ltb-true, ltb-false, ne_eqb}
use lib.Dec.{ltb}
use lib.ListN.{length, get_or}
use Rattle.numbers.specs.LittleEndian.{le}
use Rattle.sections.specs.Header.{size_field, largest_field, size_faults, head_faults, head_in, head_at}
use Rattle.sections.specs.Walk.{Trace, done, fault, section, and_then, aligned, zeros, first_nonzero, part, after_padding, meet, siblings, walk, stream_limit, stream_walk}
use Rattle.sections.specs.Search.{first_fault, search_of, first_answer, search_first_of}
use Rattle.sections.specs.declared.header.Mode.{Mode}
use Rattle.sections.specs.declared.header.Mode.TheVariants.{Framework, Pi}
use Rattle.sections.specs.Header.{Head, Fault, Closed, Open}
use Rattle.sections.proofs.header.Sizes.{not_long, short_header, short_size_lem, header_range}
use Rattle.sections.proofs.header.Cases.{head_201}
use Rattle.sections.proofs.walk.Parts.{part_byte}

-- the walk of a mode comes, from byte `at` on and with n levels left below, to a start of which P holds: it goes on behind a section whose
-- padding is zero, into the contents of a holder, and behind a holder whose children have no fault and whose padding is zero
pub data Reaches (mode : Mode) (P : List ℕ → ℕ → Type 0) : (n : ℕ) → List ℕ → (at : ℕ) → Type 0 where
  here : {n : ℕ} {s : List ℕ} {at : ℕ} → P s at → Reaches mode P n s at
  after_closed : {n : ℕ} {s : List ℕ} {at t first e : ℕ} → head_at mode s at ≡ Closed t first e → zeros s e (aligned e - e) ≡ true
      → Reaches mode P n s (aligned e) → Reaches mode P n s at
  inside : {n : ℕ} {s : List ℕ} {at t first f e : ℕ} → head_at mode s at ≡ Open t first f e → Reaches mode P n (part f e s) 0 → Reaches mode P (suc n) s at
  after_open : {n : ℕ} {s : List ℕ} {at t first f e : ℕ} (base : ℕ) → head_at mode s at ≡ Open t first f e → first_fault (walk mode n (part f e s) base) ≡ none
      → zeros s e (aligned e - e) ≡ true → Reaches mode P (suc n) s (aligned e) → Reaches mode P (suc n) s at

-- a start with 4 bytes left, of which the first three are FF
pub record LongField (s : List ℕ) (at : ℕ) : Type 0 where
  pub four : at + 4 ≤ length s
  pub field : size_field s at ≡ largest_field

-- the walk comes to no such start
abbrev pub NoLongField : Mode → (n : ℕ) → List ℕ → (at : ℕ) → Type 0
NoLongField mode n s at = Reaches mode LongField n s at → ⊥

-- where no such field is, the header at a start is the same
head_modes : (mode mode' : Mode) (s : List ℕ) (at : ℕ) → (LongField s at → ⊥) → head_at mode s at ≡ head_at mode' s at
unfolding head_in head_at head_faults size_faults
head_modes mode mode' s at other = go (ltb (length s - at) 4) refl
  where
    go : (b : Bool) → ltb (length s - at) 4 ≡ b → head_at mode s at ≡ head_at mode' s at
    go true c =
        let few : length s - at < 4 = ltb-true _ _ c in
        let r = header_range mode s at in
        let r' = header_range mode' s at in
        head_201 mode s at (omega arith) ∙ sym (head_201 mode' s at (omega arith))
    go false c =
        let left : 4 ≤ length s - at = ltb-false _ _ c in
        let field : size_field s at ≡ largest_field → ⊥ = λ e. other (record { four = omega arith; field = e }) in
        let e = not_long mode s at field in
        let e' = not_long mode' s at field in
        rw (short_header mode s at e, short_header mode' s at e', short_size_lem mode s at e, short_size_lem mode' s at e')

-- what follows counts only where the walk comes to it
padding-same : (s : List ℕ) (base e : ℕ) (rest rest' : ℕ → Trace) → (zeros s e (aligned e - e) ≡ true → rest (aligned e) ≡ rest' (aligned e))
    → after_padding s base e rest ≡ after_padding s base e rest'
unfolding after_padding
padding-same s base e rest rest' same = go (zeros s e (aligned e - e)) refl
  where
    go : (b : Bool) → zeros s e (aligned e - e) ≡ b → cond b (rest (aligned e)) (fault 207 (base + first_nonzero s e (aligned e - e)) (base + length s))
        ≡ cond b (rest' (aligned e)) (fault 207 (base + first_nonzero s e (aligned e - e)) (base + length s))
    go true z = same z
    go false z = refl

then_same : (x u u' : Trace) → (first_fault x ≡ none → u ≡ u') → and_then x u ≡ and_then x u'
unfolding and_then first_fault
then_same done u u' same = same refl
then_same (fault n _ _) u u' same = refl
then_same (section t f e rest) u u' same = ap (section t f e) (then_same rest u u' same)

-- the walk at a start, and from it on
module _ (mode mode' : Mode) (n : ℕ) (inner inner' : List ℕ → ℕ → Trace) where
  abbrev MeetSame : Type 0
  MeetSame = (s : List ℕ) (base at : ℕ) (rest rest' : ℕ → Trace) (h : Head) → head_at mode s at ≡ h → NoLongField mode n s at
      → ((next : ℕ) → NoLongField mode n s next → rest next ≡ rest' next) → meet n inner s base at h rest ≡ meet n inner' s base at h rest'

  closed_same : (s : List ℕ) (base at : ℕ) (rest rest' : ℕ → Trace) {t first e : ℕ} → head_at mode s at ≡ Closed t first e → NoLongField mode n s at
      → ((next : ℕ) → NoLongField mode n s next → rest next ≡ rest' next)
      → meet n inner s base at (Closed t first e) rest ≡ meet n inner' s base at (Closed t first e) rest'
  unfolding meet
  closed_same s base at rest rest' {t} {first} {e} p unmet q =
      ap (section t (base + first) (base + e)) (padding-same s base e rest rest' (λ z. q (aligned e) (λ u. unmet (after_closed p z u))))

  siblings_modes : MeetSame → (fuel : ℕ) (s : List ℕ) (base at : ℕ) → NoLongField mode n s at
      → siblings mode n inner fuel s base at ≡ siblings mode' n inner' fuel s base at
  unfolding siblings
  siblings_modes same zero s base at unmet = refl
  siblings_modes same (suc fuel) s base at unmet =
      rw (
        ← head_modes mode mode' s at (λ f. unmet (here f)),
        same s base at (siblings mode n inner fuel s base) (siblings mode' n inner' fuel s base) (head_at mode s at) refl unmet
            (λ next x. siblings_modes same fuel s base next x),
      )

-- the last level, on which nothing is opened, and one above it
last_level : (mode mode' : Mode) → MeetSame mode mode' 0 (λ l b. done) (λ l b. done)
unfolding meet
last_level mode mode' s base at rest rest' (Fault m) p unmet q = refl
last_level mode mode' s base at rest rest' (Closed t first e) p unmet q = closed_same mode mode' 0 (λ l b. done) (λ l b. done) s base at rest rest' p unmet q
last_level mode mode' s base at rest rest' (Open t first f e) p unmet q = refl

next_level : (mode mode' : Mode) (n : ℕ) → ((l : List ℕ) (b : ℕ) → NoLongField mode n l 0 → walk mode n l b ≡ walk mode' n l b)
    → MeetSame mode mode' (suc n) (walk mode n) (walk mode' n)
unfolding meet
next_level mode mode' n below s base at rest rest' (Fault m) p unmet q = refl
next_level mode mode' n below s base at rest rest' (Closed t first e) p unmet q =
    closed_same mode mode' (suc n) (walk mode n) (walk mode' n) s base at rest rest' p unmet q
next_level mode mode' n below s base at rest rest' (Open t first f e) p unmet q =
    let children = below (part f e s) (base + f) (λ u. unmet (inside p u)) in
    let after = then_same (walk mode n (part f e s) (base + f)) (after_padding s base e rest) (after_padding s base e rest')
    (λ good. padding-same s base e rest rest' (λ z. q (aligned e) (λ u. unmet (after_open (base + f) p good z u)))) in
    rw (ne_eqb (suc n) 0 (λ z. omega arith), ← children) (ap (section t (base + first) (base + e)) after)

walk_modes : (mode mode' : Mode) (n : ℕ) (s : List ℕ) (base : ℕ) → NoLongField mode n s 0 → walk mode n s base ≡ walk mode' n s base
unfolding walk
walk_modes mode mode' zero s base unmet =
    siblings_modes mode mode' 0 (λ l b. done) (λ l b. done) (last_level mode mode') (length s) s base 0 unmet
walk_modes mode mode' (suc n) s base unmet =
    siblings_modes mode mode' (suc n) (walk mode n) (walk mode' n) (next_level mode mode' n (λ l b x. walk_modes mode mode' n l b x)) (length s) s base 0 unmet

-- so on a stream within 16 MiB both modes give every search the same answer; it does not matter whose walk is looked at
stream_modes : (mode mode' : Mode) (s : List ℕ) → length s ≤ 16777216 → NoLongField mode 7 s 0 → stream_walk mode s ≡ stream_walk mode' s
unfolding stream_walk stream_limit
stream_modes mode mode' s short unmet =
    rw (
      le-ltb (stream_limit mode) (length s) (within mode short),
      le-ltb (stream_limit mode') (length s) (within mode' short),
      walk_modes mode mode' 7 s 0 unmet,
    )
  where
    within : (mode : Mode) → length s ≤ 16777216 → length s ≤ stream_limit mode
    within Framework h = h
    within Pi h = omega arith

pub search_modes : (mode mode' : Mode) (s : List ℕ) (t instance : ℕ) → length s ≤ 16777216 → NoLongField mode 7 s 0
    → search_of mode s t instance ≡ search_of mode' s t instance
unfolding search_of
search_modes mode mode' s t instance short unmet = rw (stream_modes mode mode' s short unmet)

pub first_modes : (mode mode' : Mode) (s : List ℕ) (t : ℕ) → length s ≤ 16777216 → NoLongField mode 7 s 0
    → search_first_of mode s t ≡ search_first_of mode' s t
first_modes mode mode' s t short unmet = ap (first_answer t) (stream_modes mode mode' s short unmet)

-- in particular a stream in which no three bytes FF follow one another
abbrev pub NoThree : List ℕ → Type 0
NoThree s = (i : ℕ) → get_or s i 0 ≡ 255 → get_or s (i + 1) 0 ≡ 255 → get_or s (i + 2) 0 ≡ 255 → ⊥

part_bound : (f e : ℕ) (s : List ℕ) → ((i : ℕ) → get_or s i 0 < 256) → (j : ℕ) → get_or (part f e s) j 0 < 256
part_bound f e s bytes j = go (part_byte f e s j)
  where
    go : (get_or (part f e s) j 0 ≡ get_or s (f + j) 0) ⊎ (get_or (part f e s) j 0 ≡ 0) → get_or (part f e s) j 0 < 256
    go (inl p) = rw p (bytes (f + j))
    go (inr p) = rw p (omega arith)

part_255 : (f e : ℕ) (s : List ℕ) (j : ℕ) → get_or (part f e s) j 0 ≡ 255 → get_or s (f + j) 0 ≡ 255
part_255 f e s j x = go (part_byte f e s j)
  where
    go : (get_or (part f e s) j 0 ≡ get_or s (f + j) 0) ⊎ (get_or (part f e s) j 0 ≡ 0) → get_or s (f + j) 0 ≡ 255
    go (inl p) = sym p ∙ x
    go (inr p) = absurd (omega arith)

part_three : (f e : ℕ) (s : List ℕ) → NoThree s → NoThree (part f e s)
part_three f e s three i a b c =
    let k : f + (i + 1) ≡ f + i + 1 = omega arith in
    let l : f + (i + 2) ≡ f + i + 2 = omega arith in
    three (f + i) (part_255 f e s i a) (rw k at (part_255 f e s (i + 1) b)) (rw l at (part_255 f e s (i + 2) c))

no_three : {mode : Mode} {n : ℕ} {s : List ℕ} {at : ℕ} → ((i : ℕ) → get_or s i 0 < 256) → NoThree s → Reaches mode LongField n s at → ⊥
unfolding le
no_three {s = s} {at = at} bytes three (here x) =
    let a = bytes at in
    let b = bytes (at + 1) in
    let c = bytes (at + 1 + 1) in
    let f = x.field in
    let k : at + 2 ≡ at + 1 + 1 = omega arith in
    three at (omega arith) (omega arith) (rw k (omega arith))
no_three bytes three (after_closed p z u) = no_three bytes three u
no_three {s = s} bytes three (inside {f = f} {e = e} p u) = no_three (part_bound f e s bytes) (part_three f e s three) u
no_three bytes three (after_open b p g z u) = no_three bytes three u

pub no_three_bytes : (mode : Mode) (n : ℕ) (s : List ℕ) (at : ℕ) → ((i : ℕ) → get_or s i 0 < 256) → NoThree s → NoLongField mode n s at
no_three_bytes mode n s at bytes three u = no_three bytes three u
