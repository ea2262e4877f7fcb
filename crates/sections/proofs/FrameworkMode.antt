-- In Framework mode every answer is as before request i (02): searching and appending, on every stream, every buffer and every request.
-- From `size_at₁` to `buffer_after₁` stand definitions of specs/ as they were in the commit before that request, word for word but for this: each of their
-- names, and each constructor of `Trace₁`, has ₁ behind it; the comments, the mark `unfoldable` and, where the theorems do without it, the mark `pub` are left out.
-- What they name without ₁ is today's own definition, unchanged since. `without_places` and the laws are not of that time: a walk of today says where
-- its fault stands (02, c), a walk of that time did not, and `without_places` forgets it.
use Prim.Native.Nat.{ℕ, zero, suc, ◌+◌, ◌-◌, ◌%◌}
use mathlib.Core.Path.{◌≡◌, refl}
use mathlib.Core.Bool.{Bool, true, false, cond, not, ◌&&◌, ◌||◌}
use mathlib.Core.List.{List, [], ◌∷◌, ◌++◌}
use mathlib.Core.Option.{Option, none, some}
use native.Mathlib.Nat.{add-zero}
use native.Mathlib.Omega.{arith}
use lib.Dec.{eqb, ltb}
use lib.ListN.{length, get_or, take, drop, replicate, get_elem?}
use Rattle.common.specs.Answers.{Answer, refused, success}
use Rattle.common.specs.Refusals.{Row, row, first_refusal, unless_refused}
use Rattle.numbers.specs.LittleEndian.{le, le_bytes}
use Rattle.sections.specs.Types.{compression, guid_defined, common_header, compression_header, guid_defined_header, type_info}
use Rattle.sections.specs.Header.{is_long, header_length, size_at, type_at, is_holder, contents_at, packed, wrong_contents, size_faults, head_faults, section_of, head_in, head_at}
use Rattle.sections.specs.Walk.{Trace, done, fault, section, and_then, aligned, zeros, after_padding, part, meet, siblings, walk, stream_limit, stream_walk}
use Rattle.sections.specs.Search.{Section, sections, first_fault, of_type, part_answer, search_of}
use Rattle.sections.specs.Append.{needs_long, leaf_header, leaf_start, added_with, append_refusals, append_of, buffer_after}
use Rattle.sections.specs.declared.header.Mode.TheVariants.{Framework}
use Rattle.sections.specs.Header.{Head, Fault, Closed, Open}

-- the header
abbrev size_at₁ : List ℕ → ℕ → ℕ
size_at₁ s at = le 3 s at

abbrev unpacked_length₁ : List ℕ → ℕ → ℕ
unpacked_length₁ s at = le 4 s (at + 4)

abbrev compression_kind₁ : List ℕ → ℕ → ℕ
compression_kind₁ s at = get_or s (at + 8) 0

abbrev data_offset₁ : List ℕ → ℕ → ℕ
data_offset₁ s at = le 2 s (at + 20)

abbrev attributes₁ : List ℕ → ℕ → ℕ
attributes₁ s at = le 2 s (at + 22)

contents_at₁ : List ℕ → ℕ → ℕ
contents_at₁ s at = cond (eqb (type_at s at) compression) (at + compression_header) (at + data_offset₁ s at)

packed₁ : List ℕ → ℕ → Bool
packed₁ s at = cond (eqb (type_at s at) compression) (not (eqb (compression_kind₁ s at) 0)) (eqb (attributes₁ s at % 2) 1)

wrong_contents₁ : List ℕ → ℕ → Bool
wrong_contents₁ s at =
    cond (eqb (type_at s at) compression)
    (eqb (compression_kind₁ s at) 0 && not (eqb (unpacked_length₁ s at) (size_at₁ s at - compression_header)))
    (ltb (data_offset₁ s at) guid_defined_header || ltb (size_at₁ s at) (data_offset₁ s at))

head_faults₁ : List ℕ → ℕ → List Row
head_faults₁ s at =
    row (ltb (length s - at) common_header) 201
    ∷ row (ltb (size_at₁ s at) (type_info (type_at s at)).least) 202
    ∷ row (ltb (length s - at) (size_at₁ s at)) 203
    ∷ row (is_holder (type_info (type_at s at)).class && wrong_contents₁ s at) 204
    ∷ []

abbrev first_at₁ : (at : ℕ) → ℕ
first_at₁ at = at + common_header

section_at₁ : List ℕ → ℕ → Head
section_at₁ s at =
    cond (is_holder (type_info (type_at s at)).class && not (packed₁ s at))
    (Open (type_at s at) (first_at₁ at) (contents_at₁ s at) (at + size_at₁ s at))
    (Closed (type_at s at) (first_at₁ at) (at + size_at₁ s at))

head_at₁ : List ℕ → ℕ → Head
head_at₁ s at = unless_refused Fault (first_refusal (head_faults₁ s at)) (section_at₁ s at)

-- the walk
pub data Trace₁ : Type 0 where
  done₁ : Trace₁
  fault₁ : ℕ → Trace₁
  section₁ : (section_type first end : ℕ) → Trace₁ → Trace₁

and_then₁ : Trace₁ → Trace₁ → Trace₁
and_then₁ done₁ u = u
and_then₁ (fault₁ n) u = fault₁ n
and_then₁ (section₁ t f e rest) u = section₁ t f e (and_then₁ rest u)

after_padding₁ : List ℕ → ℕ → (ℕ → Trace₁) → Trace₁
after_padding₁ s e rest = let next = rest (aligned e) in cond (zeros s e (aligned e - e)) next (fault₁ 207)

meet₁ : (below : ℕ) → (inner : List ℕ → ℕ → Trace₁) → List ℕ → (base : ℕ) → Head → (rest : ℕ → Trace₁) → Trace₁
meet₁ below inner s base (Fault n) rest = fault₁ n
meet₁ below inner s base (Closed t first e) rest = section₁ t (base + first) (base + e) (after_padding₁ s e rest)
meet₁ below inner s base (Open t first from e) rest =
    let children = inner (part from e s) (base + from) in
    let all = section₁ t (base + first) (base + e) (and_then₁ children (after_padding₁ s e rest)) in
    cond (eqb below 0) (fault₁ 205) all

siblings₁ : (below : ℕ) → (inner : List ℕ → ℕ → Trace₁) → (fuel : ℕ) → List ℕ → (base at : ℕ) → Trace₁
siblings₁ below inner zero s base at = done₁
siblings₁ below inner (suc fuel) s base at =
    let here = meet₁ below inner s base (head_at₁ s at) (siblings₁ below inner fuel s base) in
    cond (ltb at (length s)) here done₁

walk₁ : (below : ℕ) → List ℕ → (base : ℕ) → Trace₁
walk₁ zero s base = siblings₁ 0 (λ l b. done₁) (length s) s base 0
walk₁ (suc below) s base = siblings₁ (suc below) (walk₁ below) (length s) s base 0

abbrev stream_limit₁ : ℕ
stream_limit₁ = 16777216

pub stream_walk₁ : List ℕ → Trace₁
stream_walk₁ s = let whole = walk₁ 7 s 0 in cond (ltb stream_limit₁ (length s)) (fault₁ 206) whole

-- the search
sections₁ : Trace₁ → List Section
sections₁ done₁ = []
sections₁ (fault₁ n) = []
sections₁ (section₁ t f e rest) = record { section_type = t; first = f; end = e } ∷ sections₁ rest

first_fault₁ : Trace₁ → Option ℕ
first_fault₁ done₁ = none
first_fault₁ (fault₁ n) = some n
first_fault₁ (section₁ t f e rest) = first_fault₁ rest

pub search_of₁ : List ℕ → (section_type instance : ℕ) → Answer
search_of₁ s section_type instance =
    unless_refused refused (first_fault₁ (stream_walk₁ s)) (part_answer (get_elem? (of_type section_type (sections₁ (stream_walk₁ s))) instance))

-- appending
abbrev leaf_size₁ : ℕ → ℕ
leaf_size₁ m = common_header + m

abbrev size_limit₁ : ℕ
size_limit₁ = 16777215

abbrev used_after₁ : (used m : ℕ) → ℕ
used_after₁ used m = aligned used + leaf_size₁ m

append_refusals₁ : (room used section_type m : ℕ) → List Row
append_refusals₁ room used section_type m =
    row (eqb section_type compression) 2
    ∷ row (eqb section_type guid_defined) 2
    ∷ row (ltb room used) 2
    ∷ row (ltb (leaf_size₁ m) (type_info section_type).least) 202
    ∷ row (ltb size_limit₁ (leaf_size₁ m)) 206
    ∷ row (ltb stream_limit₁ (used_after₁ used m)) 206
    ∷ row (ltb room (used_after₁ used m)) 5
    ∷ []

pub append_of₁ : (room used section_type m : ℕ) → Answer
append_of₁ room used section_type m =
    unless_refused refused (first_refusal (append_refusals₁ room used section_type m)) (success (used_after₁ used m ∷ []))

leaf₁ : (section_type : ℕ) → (body : List ℕ) → List ℕ
leaf₁ section_type body = le_bytes 3 (leaf_size₁ (length body)) ++ section_type ∷ body

added₁ : (used section_type : ℕ) → (body : List ℕ) → List ℕ
added₁ used section_type body = replicate (aligned used - used) 0 ++ leaf₁ section_type body

pub buffer_after₁ : (buffer : List ℕ) → (used section_type : ℕ) → (body : List ℕ) → List ℕ
buffer_after₁ buffer used section_type body =
    unless_refused (λ n. buffer) (first_refusal (append_refusals₁ (length buffer) used section_type (length body)))
    (take used buffer ++ added₁ used section_type body ++ drop (used_after₁ used (length body)) buffer)

-- a walk of today without the place of its fault
pub without_places : Trace → Trace₁
without_places done = done₁
without_places (fault n start e) = fault₁ n
without_places (section t f e rest) = section₁ t f e (without_places rest)

-- the second test of 201 adds nothing to a first one that is the same
twice : (b : Bool) (rest : List Row) → first_refusal (row b 201 ∷ row b 201 ∷ rest) ≡ first_refusal (row b 201 ∷ rest)
unfolding first_refusal
twice true rest = refl
twice false rest = refl

-- the header at a start
head_as_before : (s : List ℕ) (at : ℕ) → head_at Framework s at ≡ head_at₁ s at
unfolding head_in head_at head_faults size_faults is_long header_length size_at contents_at packed wrong_contents section_of head_at₁ head_faults₁ contents_at₁ packed₁ wrong_contents₁ section_at₁
head_as_before s at =
    let a : at + 4 + 4 ≡ at + 8 = omega arith in
    let b : at + 4 + 16 ≡ at + 20 = omega arith in
    let c : at + 4 + 18 ≡ at + 22 = omega arith in
    rw (a, b, c, add-zero (type_info (type_at s at)).least, twice (ltb (length s - at) 4) _)

-- one walk and then another, and one or the other
then_as_before : (x u : Trace) → without_places (and_then x u) ≡ and_then₁ (without_places x) (without_places u)
unfolding and_then and_then₁ without_places
then_as_before done u = refl
then_as_before (fault n start e) u = refl
then_as_before (section t f e rest) u = rw (then_as_before rest u)

cond_as_before : (b : Bool) (x y : Trace) → without_places (cond b x y) ≡ cond b (without_places x) (without_places y)
cond_as_before true x y = refl
cond_as_before false x y = refl

module _ (s : List ℕ) (base : ℕ) where
  -- the padding after a section, where the walk after it is as before
  module _ (rest : ℕ → Trace) (rest₁ : ℕ → Trace₁) (after : (n : ℕ) → without_places (rest n) ≡ rest₁ n) where
    padding_as_before : (e : ℕ) → without_places (after_padding s base e rest) ≡ after_padding₁ s e rest₁
    unfolding after_padding after_padding₁ without_places
    padding_as_before e = rw (cond_as_before, after (aligned e))

  module _ (below : ℕ) (inner : List ℕ → ℕ → Trace) (inner₁ : List ℕ → ℕ → Trace₁) (deeper : (l : List ℕ) (b : ℕ) → without_places (inner l b) ≡ inner₁ l b) where
    -- one start, where the walk one level down is as before too
    meet_as_before : (rest : ℕ → Trace) (rest₁ : ℕ → Trace₁) → ((n : ℕ) → without_places (rest n) ≡ rest₁ n)
        → (at : ℕ) (h : Head) → without_places (meet below inner s base at h rest) ≡ meet₁ below inner₁ s base h rest₁
    unfolding meet meet₁ without_places
    meet_as_before rest rest₁ after at (Fault n) = refl
    meet_as_before rest rest₁ after at (Closed t first e) = rw (padding_as_before rest rest₁ after e)
    meet_as_before rest rest₁ after at (Open t first from e) =
        rw (cond_as_before, then_as_before, deeper (part from e s) (base + from), padding_as_before rest rest₁ after e)

    -- the sections of one stream
    siblings_as_before : (fuel at : ℕ) → without_places (siblings Framework below inner fuel s base at) ≡ siblings₁ below inner₁ fuel s base at
    unfolding siblings siblings₁ without_places
    siblings_as_before zero at = refl
    siblings_as_before (suc fuel) at =
        rw (cond_as_before, head_as_before s at, meet_as_before _ _ (siblings_as_before fuel) at (head_at₁ s at))

-- the walk through a stream, whatever levels are left
walk_as_before : (below : ℕ) (s : List ℕ) (base : ℕ) → without_places (walk Framework below s base) ≡ walk₁ below s base
unfolding walk walk₁ without_places
walk_as_before zero s base = siblings_as_before s base 0 (λ l b. done) (λ l b. done₁) (λ l b. refl) (length s) 0
walk_as_before (suc below) s base = siblings_as_before s base (suc below) (walk Framework below) (walk₁ below) (walk_as_before below) (length s) 0

-- the walk through a whole stream
pub stream_walk_as_before : (s : List ℕ) → without_places (stream_walk Framework s) ≡ stream_walk₁ s
unfolding stream_walk stream_limit stream_walk₁ without_places
stream_walk_as_before s = rw (cond_as_before, walk_as_before 7 s 0)

-- what a search takes from a walk: its fault, and its sections
fault_as_before : (x : Trace) → first_fault x ≡ first_fault₁ (without_places x)
unfolding first_fault first_fault₁ without_places
fault_as_before done = refl
fault_as_before (fault n start e) = refl
fault_as_before (section t f e rest) = fault_as_before rest

sections_as_before : (x : Trace) → sections x ≡ sections₁ (without_places x)
unfolding sections sections₁ without_places
sections_as_before done = refl
sections_as_before (fault n start e) = refl
sections_as_before (section t f e rest) = rw (sections_as_before rest)

-- so every search answers as before
pub search_as_before : (s : List ℕ) (t instance : ℕ) → search_of Framework s t instance ≡ search_of₁ s t instance
unfolding search_of search_of₁
search_as_before s t instance =
    rw (fault_as_before (stream_walk Framework s), sections_as_before (stream_walk Framework s), stream_walk_as_before s)

-- appending: the answer, and the buffer afterwards
pub append_as_before : (room used t m : ℕ) → append_of Framework room used t m ≡ append_of₁ room used t m
unfolding append_of append_refusals stream_limit leaf_header needs_long append_of₁ append_refusals₁
append_as_before room used t m = refl

pub buffer_as_before : (buffer : List ℕ) (used t : ℕ) (body : List ℕ) → buffer_after Framework buffer used t body ≡ buffer_after₁ buffer used t body
unfolding buffer_after append_refusals stream_limit leaf_header needs_long leaf_start added_with buffer_after₁ append_refusals₁ added₁ leaf₁ le_bytes
buffer_as_before buffer used t body = refl
