-- What appending does to a well-formed stream, holders included: the stream afterwards is well formed, and its walk is the old one
-- with one section more, the last, with that type and that body. So every search that showed a part shows the same one, and every
-- search that answered 14 still does, but for the new section's own.
use Prim.Native.Nat.{ℕ, zero, suc, ◌+◌, ◌-◌, ◌≤◌}
use mathlib.Core.Path.{◌≡◌, refl, sym, ap, ap₂, ◌∙◌}
use mathlib.Core.Bool.{Bool, true, false, cond}
use mathlib.Core.List.{List, [], ◌∷◌, ◌++◌, append-nil}
use mathlib.Core.Option.{Option, none, some}
use native.Mathlib.Omega.{arith}
use borrow.Author.Tests.{le-ltb, eq-eqb, eqb-true}
use lib.Dec.{eqb, ltb}
use lib.ListN.{length, take, drop, get_elem?, length-drop}
use lib.Seq.{take_at, length-take-le, take-append-le, drop-append-le}
use Rattle.common.specs.Answers.{refused, success}
use Rattle.sections.specs.Walk.{Trace, done, section, and_then, aligned, part, walk, stream_limit, stream_walk}
use Rattle.sections.specs.Search.{Section, sections, first_fault, of_type, part_answer, search_of, WellFormed, count_of}
use Rattle.sections.specs.Append.{leaf_header, used_after, added, append_of, buffer_after}
use Rattle.sections.specs.declared.header.Mode.{Mode}
use Rattle.sections.proofs.append.Longer.{appended_walk, after, after-length, leaf_body}
use Rattle.sections.proofs.append.Refusals.{Accepted, accepted}
use Rattle.sections.proofs.search.Order.{sections_then, fault_then}
use Rattle.sections.proofs.search.Shown.{part_inside, shown_part}

-- a stream that is well formed is no longer than the limit
well_formed-walk : (mode : Mode) (s : List ℕ) → WellFormed mode s → stream_walk mode s ≡ walk mode 7 s 0
unfolding stream_walk first_fault
well_formed-walk mode s well = go (ltb (stream_limit mode) (length s)) refl
  where
    go : (b : Bool) → ltb (stream_limit mode) (length s) ≡ b → stream_walk mode s ≡ walk mode 7 s 0
    go true e =
        let q : ◌≡◌ {A = Option ℕ} (some 206) none = rw e at well in
        let z : ◌≡◌ {A = ℕ} 0 1 = cc in absurd (omega arith)
    go false e = rw e

-- the instances of a type in a list with one section more
of_type-append : (t : ℕ) (a b : List Section) → of_type t (a ++ b) ≡ of_type t a ++ of_type t b
unfolding of_type
of_type-append t [] b = refl
of_type-append t (x ∷ a) b = go (eqb x.section_type t) (of_type-append t a b)
  where
    go : (c : Bool) → of_type t (a ++ b) ≡ of_type t a ++ of_type t b
        → cond c (x ∷ of_type t (a ++ b)) (of_type t (a ++ b)) ≡ cond c (x ∷ of_type t a) (of_type t a) ++ of_type t b
    go true p = ap (λ (l : List Section). x ∷ l) p
    go false p = p

nth_first : (a b : List Section) (i : ℕ) {x : Section} → get_elem? a i ≡ some x → get_elem? (a ++ b) i ≡ some x
nth_first [] b i p = let z : ◌≡◌ {A = ℕ} 0 1 = cc in absurd (omega arith)
nth_first (y ∷ a) b zero p = p
nth_first (y ∷ a) b (suc i) p = nth_first a b i p

nth_last : (a : List Section) (x : Section) → get_elem? (a ++ (x ∷ [])) (length a) ≡ some x
nth_last [] x = refl
nth_last (y ∷ a) x = nth_last a x

nth_beyond : (a : List Section) (x : Section) (i : ℕ) → get_elem? a i ≡ none → (i ≡ length a → ⊥) → get_elem? (a ++ (x ∷ [])) i ≡ none
nth_beyond [] x zero p h = absurd (h refl)
nth_beyond [] x (suc i) p h = refl
nth_beyond (y ∷ a) x zero p h = let z : ◌≡◌ {A = ℕ} 0 1 = cc in absurd (omega arith)
nth_beyond (y ∷ a) x (suc i) p h = nth_beyond a x i p (λ e. h (ap suc e))

-- a search that answered 14 met no such section
shown_14 : (x : Option Section) → part_answer x ≡ refused 14 → x ≡ none
shown_14 none p = refl
shown_14 (some x) p = let z : ◌≡◌ {A = ℕ} 0 1 = cc in absurd (omega arith)

module _ (mode : Mode) (buffer : List ℕ) (used section_type : ℕ) (body : List ℕ) {u : ℕ}
    (answer : append_of mode (length buffer) used section_type (length body) ≡ success (u ∷ [])) (well : WellFormed mode (take used buffer)) where
  -- the used bytes before and after
  abbrev stream_before : List ℕ
  stream_before = take used buffer

  abbrev stream_after : List ℕ
  stream_after = take u (buffer_after mode buffer used section_type body)

  abbrev new_section : Section
  new_section = record { section_type = section_type; first = aligned used + leaf_header mode (length body); end = u }

  took : Accepted mode (length buffer) used section_type (length body) u
  took = accepted mode (length buffer) used section_type (length body) answer

  before_length : length stream_before ≡ used
  before_length = length-take-le used buffer took.inside

  -- the used bytes afterwards are those before, the padding and the leaf
  stream_after_lem : stream_after ≡ after mode stream_before section_type body
  unfolding buffer_after
  stream_after_lem =
      let n = before_length in
      let a = took in
      let l = after-length mode stream_before section_type body in
      let x : List ℕ = added mode used section_type body in
      let same : stream_before ++ x ≡ after mode stream_before section_type body = ap (λ (k : ℕ). stream_before ++ added mode k section_type body) (sym n) in
      let total : length (stream_before ++ x) ≡ u = ap length same ∙ l ∙ ap (λ (k : ℕ). used_after mode k (length body)) n ∙ sym a.answer in
      let stored : buffer_after mode buffer used section_type body ≡ stream_before ++ x ++ drop u buffer =
      rw (a.passed, a.answer) in
      ap (take u) stored ∙ take_at (stream_before ++ x) (drop u buffer) u total ∙ same

  -- the walk afterwards is the old one with one section more, the last
  pub appended_stream_walk : stream_walk mode stream_after ≡ and_then (stream_walk mode stream_before) (section section_type (aligned used + leaf_header mode (length body)) u done)
  unfolding stream_walk
  appended_stream_walk =
      let n = before_length in
      let a = took in
      let l = after-length mode stream_before section_type body in
      let old = well_formed-walk mode stream_before well in
      let short : length (after mode stream_before section_type body) ≤ stream_limit mode = omega arith in
      let first : 0 + (aligned (length stream_before) + leaf_header mode (length body)) ≡ aligned used + leaf_header mode (length body) = omega arith in
      let end : 0 + used_after mode (length stream_before) (length body) ≡ u = omega arith in
      ap (stream_walk mode) stream_after_lem
      ∙ rw (le-ltb (stream_limit mode) (length (after mode stream_before section_type body)) short)
      (appended_walk mode stream_before section_type body a.leaves a.least a.sized (omega arith) 7 0 (rw old at well))
      ∙ ap₂ (λ (x y : ℕ). and_then (walk mode 7 stream_before 0) (section section_type x y done)) first end
      ∙ ap (λ (t : Trace). and_then t (section section_type (aligned used + leaf_header mode (length body)) u done)) (sym old)

  -- afterwards the stream is well formed, and its sections are the old ones and the new one, whose part holds the body
  pub appended_well : WellFormed mode stream_after
  unfolding first_fault
  appended_well = ap first_fault appended_stream_walk ∙ fault_then (stream_walk mode stream_before) (section section_type (aligned used + leaf_header mode (length body)) u done) well

  pub appended_sections : sections (stream_walk mode stream_after) ≡ sections (stream_walk mode stream_before) ++ (new_section ∷ [])
  unfolding sections
  appended_sections = ap sections appended_stream_walk ∙ sections_then (stream_walk mode stream_before) (section section_type (aligned used + leaf_header mode (length body)) u done) well

  pub appended_body : part (aligned used + leaf_header mode (length body)) u stream_after ≡ body
  appended_body =
      let n = before_length in
      let a = took in
      let first : aligned used + leaf_header mode (length body) ≡ aligned (length stream_before) + leaf_header mode (length body) = omega arith in
      let end : u ≡ used_after mode (length stream_before) (length body) = omega arith in
      ap (λ (s : List ℕ). part (aligned used + leaf_header mode (length body)) u s) stream_after_lem
      ∙ ap₂ (λ (f e : ℕ). part f e (after mode stream_before section_type body)) first end
      ∙ leaf_body mode stream_before section_type body

  -- the sections of a type afterwards
  found_after : (t i : ℕ) → search_of mode stream_after t i ≡ part_answer (get_elem? (of_type t (sections (stream_walk mode stream_before)) ++ of_type t (new_section ∷ [])) i)
  unfolding search_of
  found_after t i = rw (appended_well, appended_sections, of_type-append t (sections (stream_walk mode stream_before)) (new_section ∷ []))

  -- a search that showed a part shows the same one
  pub search_kept : (t i : ℕ) {f e : ℕ} → search_of mode stream_before t i ≡ success (f ∷ e ∷ []) → search_of mode stream_after t i ≡ success (f ∷ e ∷ [])
  unfolding search_of
  search_kept t i {f} {e} p =
      let y = shown_part (first_fault (stream_walk mode stream_before)) (get_elem? (of_type t (sections (stream_walk mode stream_before))) i) f e p in
      let q = nth_first (of_type t (sections (stream_walk mode stream_before))) (of_type t (new_section ∷ [])) i y.2 in
      found_after t i ∙ rw q (ap₂ (λ (a b : ℕ). success (a ∷ b ∷ [])) y.3 y.4)

  -- and the part holds the same bytes
  pub kept_bytes : (t i : ℕ) {f e : ℕ} → search_of mode stream_before t i ≡ success (f ∷ e ∷ []) → part f e stream_after ≡ part f e stream_before
  kept_bytes t i {f} {e} p =
      let within = part_inside mode stream_before t i f e p in
      let rest : List ℕ = added mode (length stream_before) section_type body in
      let short : e - f ≤ length (drop f stream_before) = rw (length-drop f stream_before) (omega arith) in
      ap (λ (s : List ℕ). part f e s) stream_after_lem
      ∙ ap (λ (l : List ℕ). take (e - f) l) (drop-append-le f stream_before rest (omega arith))
      ∙ take-append-le (e - f) (drop f stream_before) rest short

  -- the new type at the instance equal to its earlier number shows the new part, which holds the body
  pub search_new : search_of mode stream_after section_type (count_of mode section_type stream_before) ≡ success ((aligned used + leaf_header mode (length body)) ∷ u ∷ [])
  unfolding of_type
  search_new =
      found_after section_type (count_of mode section_type stream_before)
      ∙ rw (eq-eqb section_type section_type refl, nth_last (of_type section_type (sections (stream_walk mode stream_before))) new_section)

  -- every other search that answered 14 still does
  pub search_14 : (t i : ℕ) → search_of mode stream_before t i ≡ refused 14 → ((t ≡ section_type) × (i ≡ count_of mode section_type stream_before) → ⊥) → search_of mode stream_after t i ≡ refused 14
  unfolding search_of of_type
  search_14 t i p other =
      let q = shown_14 (get_elem? (of_type t (sections (stream_walk mode stream_before))) i) (rw well at p) in
      found_after t i ∙ go (eqb section_type t) refl q
    where
      go : (b : Bool) → eqb section_type t ≡ b → get_elem? (of_type t (sections (stream_walk mode stream_before))) i ≡ none
          → part_answer (get_elem? (of_type t (sections (stream_walk mode stream_before)) ++ of_type t (new_section ∷ [])) i) ≡ refused 14
      go true e q =
          let k = eqb-true section_type t e in
          rw (e, nth_beyond (of_type t (sections (stream_walk mode stream_before))) new_section i q (λ z. other (sym k, rw k z)))
      go false e q = rw (e, append-nil (of_type t (sections (stream_walk mode stream_before))), q)
