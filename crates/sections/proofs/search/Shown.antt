-- What a search shows: the code's answer is the definition's; a part that is shown lies inside the stream; an instance of a type is
-- found exactly when it is below the number of sections of that type; the first fault, and 14.
use Prim.Native.Nat.{ℕ, zero, suc, ◌+◌, ◌≤◌, ◌<◌}
use mathlib.Core.Path.{◌≡◌, refl, ap, ◌∙◌}
use mathlib.Core.Bool.{Bool, true, false, cond}
use mathlib.Core.List.{List, [], ◌∷◌}
use mathlib.Core.Logic.{◌↔◌}
use mathlib.Core.Option.{Option, none, some}
use native.Mathlib.Omega.{arith}
use Rattle.std.specs.Prelude.{Result, IsErrAnd}
use Rattle.std.proofs.lemmas.Result.{err_from_is_err_and}
use Rattle.common.specs.Refusal.{number}
use Rattle.common.specs.declared.refusal.Refusal.{Refusal}
use Rattle.sections.specs.declared.search.Part.{Part}
use borrow.Author.Tests.{lt-ltb, le-ltb, ltb-true, ltb-false}
use lib.Dec.{eqb, ltb}
use lib.ListN.{length, get_elem?}
use Rattle.common.specs.Answers.{refused, success, number_of}
use Rattle.common.specs.Refusals.{unless_refused}
use Rattle.sections.specs.Walk.{Trace, done, fault, section, walk, stream_limit, stream_walk}
use Rattle.sections.specs.Seek.{Refused, Left, run, carried, seek_answer}
use Rattle.std.specs.Option.{ok_or}
use Rattle.common.specs.declared.refusal.Refusal.TheVariants.{NotFound}
use Rattle.sections.specs.declared.walk.Walk.{Walk}
use Rattle.sections.specs.declared.walk.Walk.TheVariants.{Ended}
use Rattle.sections.specs.declared.walk.Wanted.{Wanted}
use Rattle.sections.specs.Search.{Section, sections, first_fault, of_type, part_answer, search_of, found_answer, WellFormed, count_of}
use Rattle.sections.specs.declared.header.Mode.{Mode}
use Rattle.sections.proofs.walk.Carried.{answer_end, carried_fault, run_answer}
use Rattle.sections.proofs.walk.Inside.{Inside, inside_walk}

-- a section of a type on the walk lies where the walk does
inside_nth : (low high w i : ℕ) (t : Trace) (x : Section) → Inside low high t → get_elem? (of_type w (sections t)) i ≡ some x
    → (low ≤ x.first) × (x.first ≤ x.end) × (x.end ≤ high)
unfolding of_type sections
inside_nth low high w i done x p q = let z : ◌≡◌ {A = ℕ} 0 1 = cc in absurd (omega arith)
inside_nth low high w i (fault n _ _) x p q = let z : ◌≡◌ {A = ℕ} 0 1 = cc in absurd (omega arith)
inside_nth low high w i (section t f e rest) x p q = go (eqb t w) i q (λ (j : ℕ). inside_nth low high w j rest x p.3)
  where
    go : (b : Bool) (i : ℕ)
        → get_elem? (cond b (record { section_type = t; first = f; end = e } ∷ of_type w (sections rest)) (of_type w (sections rest))) i ≡ some x
        → ((j : ℕ) → get_elem? (of_type w (sections rest)) j ≡ some x → (low ≤ x.first) × (x.first ≤ x.end) × (x.end ≤ high))
        → (low ≤ x.first) × (x.first ≤ x.end) × (x.end ≤ high)
    go true zero q ih =
        let same : ◌≡◌ {A = Section} (record { section_type = t; first = f; end = e }) x = cc in
        let own = p.1 in
        rw (← same) (p.0, omega arith, p.2)
    go true (suc j) q ih = ih j q
    go false i q ih = ih i q

-- an answer with values is the part of the section at that place of the walk, where there is no fault
pub shown_part : (o : Option ℕ) (x : Option Section) (f e : ℕ) → unless_refused refused o (part_answer x) ≡ success (f ∷ e ∷ [])
    → (y : Section) × (o ≡ none) × (x ≡ some y) × (y.first ≡ f) × (y.end ≡ e)
shown_part (some n) x f e p = let z : ◌≡◌ {A = ℕ} 0 1 = cc in absurd (omega arith)
shown_part none none f e p = let z : ◌≡◌ {A = ℕ} 0 1 = cc in absurd (omega arith)
shown_part none (some y) f e p = (y, refl, refl, cc, cc)

-- what stands at a place of a list, by its length
nth_below : (l : List Section) (i : ℕ) → i < length l → (x : Section) × (get_elem? l i ≡ some x)
nth_below [] i h = absurd (omega arith)
nth_below (x ∷ l) zero h = (x, refl)
nth_below (x ∷ l) (suc i) h = nth_below l i (omega arith)

pub nth_past : (l : List Section) (i : ℕ) → length l ≤ i → get_elem? l i ≡ none
nth_past [] i h = refl
nth_past (x ∷ l) zero h = absurd (omega arith)
nth_past (x ∷ l) (suc i) h = nth_past l i (omega arith)

module _ (mode : Mode) where
  -- the code's answer
  pub search_206 : (s : List ℕ) (t instance : ℕ) → stream_limit mode < length s → search_of mode s t instance ≡ refused 206
  unfolding search_of stream_walk first_fault
  search_206 s t instance h = rw (lt-ltb (stream_limit mode) (length s) h)

  pub sought_206 : (s : List ℕ) (x : Wanted) → stream_limit mode < length s → refused 206 ≡ seek_answer (run x.section_type (carried Ended x) (stream_walk mode s))
  unfolding stream_walk run seek_answer
  sought_206 s x h = rw (lt-ltb (stream_limit mode) (length s) h, ← carried_fault 206 x)

  -- what is sought, as the walk through the stream has it
  pub sought_walk : (s : List ℕ) (x : Wanted) → length s ≤ stream_limit mode
      → seek_answer (run x.section_type (carried Ended x) (walk mode 7 s 0)) ≡ seek_answer (run x.section_type (carried Ended x) (stream_walk mode s))
  unfolding stream_walk
  sought_walk s x h = rw (le-ltb (stream_limit mode) (length s) h)

  pub sought_end : (s : List ℕ) (x y : Wanted) (end : Walk) (r : Result Part Refusal) → r ≡ ok_or y.found NotFound → length s ≤ stream_limit mode
      → carried end y ≡ run x.section_type (carried Ended x) (walk mode 7 s 0)
      → found_answer r ≡ seek_answer (run x.section_type (carried Ended x) (stream_walk mode s))
  sought_end s x y end r p h walked = rw p (answer_end end y ∙ ap seek_answer walked ∙ sought_walk s x h)

  pub sought_fault : (s : List ℕ) (x : Wanted) (r : Result Part Refusal) (e : Refusal) → IsErrAnd r (λ y. y ≡ e) → length s ≤ stream_limit mode
      → Refused (number e) ≡ run x.section_type (carried Ended x) (walk mode 7 s 0)
      → found_answer r ≡ seek_answer (run x.section_type (carried Ended x) (stream_walk mode s))
  unfolding seek_answer
  sought_fault s x r e p h walked =
      let q = err_from_is_err_and r p in
      rw (q.1, q.2) (ap seek_answer walked ∙ sought_walk s x h)

  pub search_from : (s : List ℕ) (t instance : ℕ) → seek_answer (run t (Left false instance) (stream_walk mode s)) ≡ search_of mode s t instance
  unfolding search_of
  search_from s t instance = run_answer t instance (stream_walk mode s)

  -- the walk through a whole stream, by the test of 206
  abbrev limited : Bool → List ℕ → Trace
  limited b s = cond b (fault 206 0 (length s)) (walk mode 7 s 0)

  -- a part that is shown lies inside the stream
  pub part_inside : (s : List ℕ) (t instance f e : ℕ) → search_of mode s t instance ≡ success (f ∷ e ∷ []) → (f ≤ e) × (e ≤ length s)
  unfolding search_of stream_walk first_fault
  part_inside s t instance f e p = go (ltb (stream_limit mode) (length s)) p
    where
      go : (b : Bool)
          → unless_refused refused (first_fault (limited b s)) (part_answer (get_elem? (of_type t (sections (limited b s))) instance)) ≡ success (f ∷ e ∷ [])
          → (f ≤ e) × (e ≤ length s)
      go true q = let z : ◌≡◌ {A = ℕ} 0 1 = cc in absurd (omega arith)
      go false q =
          let y = shown_part (first_fault (walk mode 7 s 0)) (get_elem? (of_type t (sections (walk mode 7 s 0))) instance) f e q in
          let w = inside_nth 0 (0 + length s) t instance (walk mode 7 s 0) y.0 (inside_walk mode 7 s 0) y.2 in
          (omega (arith, w.1, y.3, y.4), omega (arith, w.2, y.4))

  module _ (s : List ℕ) (t instance : ℕ) where
    -- the first fault of the whole tree is answered
    pub search_fault : {n : ℕ} → first_fault (stream_walk mode s) ≡ some n → search_of mode s t instance ≡ refused n
    unfolding search_of
    search_fault p = rw p

    module _ (well : WellFormed mode s) where
      pub search_missing : count_of mode t s ≤ instance → search_of mode s t instance ≡ refused 14
      unfolding search_of
      search_missing h = rw (well, nth_past (of_type t (sections (stream_walk mode s))) instance h)

      pub search_found : instance < count_of mode t s → (f : ℕ) × (e : ℕ) × (search_of mode s t instance ≡ success (f ∷ e ∷ []))
      unfolding search_of
      search_found h =
          let x = nth_below (of_type t (sections (stream_walk mode s))) instance h in
          (x.0.first, x.0.end, rw (well, x.1))

      -- on a well-formed stream an instance of a type is found exactly when it is below the number of sections of that type on
      -- the walk
      pub found_exactly : (number_of (search_of mode s t instance) ≡ 0) ↔ (instance < count_of mode t s)
      unfolding number_of
      found_exactly = (λ p. go (ltb instance (count_of mode t s)) refl p, λ h. rw (search_found h).2)
        where
          go : (b : Bool) → ltb instance (count_of mode t s) ≡ b → number_of (search_of mode s t instance) ≡ 0 → instance < count_of mode t s
          go true e p = ltb-true instance (count_of mode t s) e
          go false e p =
              let q : ◌≡◌ {A = ℕ} 14 0 = rw (search_missing (ltb-false instance (count_of mode t s) e)) at p in
              absurd (omega arith)
