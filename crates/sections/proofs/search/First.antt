-- The search for the first section of a type, beside the search: the same on a well-formed stream; what it refuses the search refuses; where it
-- shows a part the search shows the same one, or refuses with a fault that lies after it on the walk.
use Prim.Native.Nat.{ℕ, suc, ◌+◌, ◌≤◌, ◌<◌}
use mathlib.Core.Path.{◌≡◌, refl, sym, ap, ◌∙◌}
use mathlib.Core.Bool.{Bool, true, false, cond}
use mathlib.Core.List.{List, [], ◌∷◌}
use mathlib.Core.Logic.{◌⊎◌, inl, inr, ◌↔◌}
use mathlib.Core.Option.{Option, none, some}
use native.Mathlib.Omega.{arith}
use borrow.Author.Tests.{eq-eqb, eqb-true, lt-ltb}
use lib.Dec.{eqb}
use lib.ListN.{length, get_elem?}
use Rattle.common.specs.Answers.{refused, success}
use Rattle.sections.specs.Header.{own_fields, head_at}
use Rattle.sections.specs.Walk.{Trace, done, fault, section, stream_limit, stream_walk}
use Rattle.sections.specs.Search.{Section, sections, first_fault, of_type, part_answer, search_of, first_answer, search_first_of, WellFormed}
use Rattle.sections.specs.Header.{Fault, Closed, Open}
use Rattle.sections.specs.declared.header.Mode.{Mode}
use Rattle.sections.proofs.search.Shown.{nth_past}
use Rattle.sections.proofs.walk.Inside.{Inside, inside_stream}
use Rattle.sections.proofs.walk.Starts.{walk_from, walk_fault, walk_closed, walk_205, walk_open}

-- on a walk without a fault it is the search for instance 0
first_good : (t : ℕ) (x : Trace) → first_fault x ≡ none → first_answer t x ≡ part_answer (get_elem? (of_type t (sections x)) 0)
unfolding first_answer first_fault sections of_type
first_good t done good = refl
first_good t (fault n _ _) good = let z : ◌≡◌ {A = ℕ} 0 1 = cc in absurd (omega arith)
first_good t (section u f e rest) good = go (eqb u t) (first_good t rest good)
  where
    go : (b : Bool) → first_answer t rest ≡ part_answer (get_elem? (of_type t (sections rest)) 0)
        → cond b (success (f ∷ e ∷ [])) (first_answer t rest)
        ≡ part_answer (get_elem? (cond b (record { section_type = u; first = f; end = e } ∷ of_type t (sections rest)) (of_type t (sections rest))) 0)
    go true ih = refl
    go false ih = ih

-- sections that a walk meets, and then the rest of it
unfoldable pub after : List Section → Trace → Trace
after [] rest = rest
after (x ∷ l) rest = section x.section_type x.first x.end (after l rest)

-- the first section of a type on a walk, by the first byte and the end of its part: `before`, in which none has that type, stands before it,
-- and `rest` comes after it
pub record FirstMatch (t : ℕ) (x : Trace) (f e : ℕ) : Type 0 where
  pub before : List Section
  pub rest : Trace
  pub met : x ≡ after before (section t f e rest)
  pub none_before : of_type t before ≡ []

-- what is shown is the first match
first_match : (t : ℕ) (x : Trace) (f e : ℕ) → first_answer t x ≡ success (f ∷ e ∷ []) → FirstMatch t x f e
unfolding first_answer after of_type
first_match t done f e p = let z : ◌≡◌ {A = ℕ} 0 1 = cc in absurd (omega arith)
first_match t (fault n _ _) f e p = let z : ◌≡◌ {A = ℕ} 0 1 = cc in absurd (omega arith)
first_match t (section u a b rest) f e p = go (eqb u t) refl p (first_match t rest f e)
  where
    go : (c : Bool) → eqb u t ≡ c → cond c (success (a ∷ b ∷ [])) (first_answer t rest) ≡ success (f ∷ e ∷ [])
        → (first_answer t rest ≡ success (f ∷ e ∷ []) → FirstMatch t rest f e) → FirstMatch t (section u a b rest) f e
    go true x q ih =
        let same : u ≡ t = eqb-true u t x in
        let g : a ≡ f = cc in
        let h : b ≡ e = cc in
        record { before = []; rest = rest; met = rw (same, g, h); none_before = refl }
    go false x q ih =
        let m = ih q in
        record {
          before = record { section_type = u; first = a; end = b } ∷ m.before;
          rest = m.rest;
          met = ap (section u a b) m.met;
          none_before = rw x m.none_before;
        }

-- sections of other types before it change nothing
pub passed_before : (t : ℕ) (before : List Section) (x : Trace) → of_type t before ≡ [] → first_answer t (after before x) ≡ first_answer t x
unfolding first_answer after of_type
passed_before t [] x p = refl
passed_before t (y ∷ l) x p = go (eqb y.section_type t) p (passed_before t l x)
  where
    go : (c : Bool) → cond c (y ∷ of_type t l) (of_type t l) ≡ [] → (of_type t l ≡ [] → first_answer t (after l x) ≡ first_answer t x)
        → cond c (success (y.first ∷ y.end ∷ [])) (first_answer t (after l x)) ≡ first_answer t x
    go true q ih = let z : ◌≡◌ {A = ℕ} 0 1 = cc in absurd (omega arith)
    go false q ih = ih q

-- what the search makes of such a walk
after_fault : (l : List Section) (x : Trace) → first_fault (after l x) ≡ first_fault x
unfolding first_fault after
after_fault [] x = refl
after_fault (y ∷ l) x = after_fault l x

-- a refusal: no section of the type is met, and the walk ends in that fault, or in none and the number is 14
abbrev pub NoneMet : (t : ℕ) → Trace → (n : ℕ) → Type 0
NoneMet t x n = (length (of_type t (sections x)) ≡ 0) × ((first_fault x ≡ some n) ⊎ ((first_fault x ≡ none) × (n ≡ 14)))

refused_none : (t : ℕ) (x : Trace) (n : ℕ) → first_answer t x ≡ refused n → NoneMet t x n
unfolding first_answer first_fault sections of_type
refused_none t done n p = (refl, inr (refl, cc))
refused_none t (fault m _ _) n p = let q : m ≡ n = cc in (refl, inl (rw q))
refused_none t (section u f e rest) n p = go (eqb u t) p (refused_none t rest n)
  where
    go : (c : Bool) → cond c (success (f ∷ e ∷ [])) (first_answer t rest) ≡ refused n → (first_answer t rest ≡ refused n → NoneMet t rest n)
        → (length (cond c (record { section_type = u; first = f; end = e } ∷ of_type t (sections rest)) (of_type t (sections rest))) ≡ 0)
        × ((first_fault rest ≡ some n) ⊎ ((first_fault rest ≡ none) × (n ≡ 14)))
    go true q ih = let z : ◌≡◌ {A = ℕ} 0 1 = cc in absurd (omega arith)
    go false q ih = ih q

none_refused : (t : ℕ) (x : Trace) (n : ℕ) → NoneMet t x n → first_answer t x ≡ refused n
unfolding first_answer first_fault sections of_type
none_refused t done n (p, inl q) = let z : ◌≡◌ {A = ℕ} 0 1 = cc in absurd (omega arith)
none_refused t done n (p, inr (q, r)) = rw r
none_refused t (fault m _ _) n (p, inl q) = let r : m ≡ n = cc in rw r
none_refused t (fault m _ _) n (p, inr (q, r)) = let z : ◌≡◌ {A = ℕ} 0 1 = cc in absurd (omega arith)
none_refused t (section u f e rest) n (p, q) = go (eqb u t) p (λ h. none_refused t rest n (h, q))
  where
    go : (c : Bool) → length (cond c (record { section_type = u; first = f; end = e } ∷ of_type t (sections rest)) (of_type t (sections rest))) ≡ 0
        → (length (of_type t (sections rest)) ≡ 0 → first_answer t rest ≡ refused n) → cond c (success (f ∷ e ∷ [])) (first_answer t rest) ≡ refused n
    go true h ih = absurd (omega arith)
    go false h ih = ih h

-- what comes after sections of a walk lies where the walk does
inside_after : (low high : ℕ) (l : List Section) (x : Trace) → Inside low high (after l x) → Inside low high x
unfolding after
inside_after low high [] x p = p
inside_after low high (y ∷ l) x p = inside_after low high l x p.3

module _ (mode : Mode) (s : List ℕ) (t : ℕ) where
  -- 206 first
  pub first_206 : stream_limit mode < length s → search_first_of mode s t ≡ refused 206
  unfolding stream_walk first_answer
  first_206 h = rw (lt-ltb (stream_limit mode) (length s) h)

  -- "for a well-formed file the answer is the full search's for instance 0"
  pub first_well : WellFormed mode s → search_first_of mode s t ≡ search_of mode s t 0
  unfolding search_of
  first_well well = rw well (first_good t (stream_walk mode s) well)

  -- refused exactly where no section of the type is met before the fault, or none at all
  pub first_refused : (n : ℕ) → (search_first_of mode s t ≡ refused n) ↔ NoneMet t (stream_walk mode s) n
  first_refused n = (refused_none t (stream_walk mode s) n, none_refused t (stream_walk mode s) n)

  -- "answered as now": the search then refuses with the same number, whatever the instance
  pub refused-alike : {n : ℕ} → search_first_of mode s t ≡ refused n → (instance : ℕ) → search_of mode s t instance ≡ refused n
  unfolding search_of
  refused-alike {n} p instance = go (refused_none t (stream_walk mode s) n p)
    where
      go : NoneMet t (stream_walk mode s) n → search_of mode s t instance ≡ refused n
      go (q, inl f) = rw f
      go (q, inr (f, e)) = rw (f, nth_past (of_type t (sections (stream_walk mode s))) instance (omega arith), e)

  -- the part that is shown lies inside the stream, and a holder's own fields in it
  pub first_inside : (f e : ℕ) → search_first_of mode s t ≡ success (f ∷ e ∷ []) → (f + own_fields t ≤ e) × (e ≤ length s)
  first_inside f e p =
      let m = first_match t (stream_walk mode s) f e p in
      let w = inside_after 0 (length s) m.before (section t f e m.rest) (rw m.met at (inside_stream mode s)) in
      (w.1, w.2)

  -- shown exactly where it is the first of its type on the walk
  pub first_shown : (f e : ℕ) → (search_first_of mode s t ≡ success (f ∷ e ∷ [])) ↔ FirstMatch t (stream_walk mode s) f e
  unfolding first_answer
  first_shown f e =
      (first_match t (stream_walk mode s) f e, λ m. ap (first_answer t) m.met ∙ passed_before t m.before (section t f e m.rest) m.none_before ∙ rw (eq-eqb t t refl))

  -- "with a later fault it shows the match and the full one refuses"; without one the full one shows the same part
  module _ {f e : ℕ} (m : FirstMatch t (stream_walk mode s) f e) where
    fault_later : first_fault (stream_walk mode s) ≡ first_fault m.rest
    unfolding first_fault
    fault_later = ap first_fault m.met ∙ after_fault m.before (section t f e m.rest)

    pub later_fault : {n : ℕ} → first_fault m.rest ≡ some n → (instance : ℕ) → search_of mode s t instance ≡ refused n
    unfolding search_of
    later_fault p instance = rw (fault_later, p)

    pub no_later_fault : first_fault m.rest ≡ none → search_of mode s t 0 ≡ success (f ∷ e ∷ [])
    no_later_fault p = sym (first_well (fault_later ∙ p)) ∙ (first_shown f e).1 m

  pub shown_or_fault : {f e : ℕ} → search_first_of mode s t ≡ success (f ∷ e ∷ [])
      → (search_of mode s t 0 ≡ success (f ∷ e ∷ []))
      ⊎ ((m : FirstMatch t (stream_walk mode s) f e) × (n : ℕ) × (first_fault m.rest ≡ some n) × ((instance : ℕ) → search_of mode s t instance ≡ refused n))
  shown_or_fault {f} {e} p = go (first_fault m.rest) refl
    where
      m : FirstMatch t (stream_walk mode s) f e
      m = (first_shown f e).0 p

      go : (o : Option ℕ) → first_fault m.rest ≡ o
          → (search_of mode s t 0 ≡ success (f ∷ e ∷ []))
          ⊎ ((m : FirstMatch t (stream_walk mode s) f e) × (n : ℕ) × (first_fault m.rest ≡ some n) × ((instance : ℕ) → search_of mode s t instance ≡ refused n))
      go none q = inl (no_later_fault m q)
      go (some n) q = inr (m, n, q, later_fault m q)

-- where the walk comes to a start: "the matching section's own faults 201 to 205 lie at the match; its children and padding lie after it"
module _ (mode : Mode) (t : ℕ) (s : List ℕ) (base at : ℕ) (here : at < length s) where
  pub own_fault : (n : ℕ) {m : ℕ} → head_at mode s at ≡ Fault m → first_answer t (walk_from mode n s base at) ≡ refused m
  unfolding first_answer
  own_fault n h = ap (first_answer t) (walk_fault mode n s base at here h)

  pub own_205 : {u first f e : ℕ} → head_at mode s at ≡ Open u first f e → first_answer t (walk_from mode 0 s base at) ≡ refused 205
  unfolding first_answer
  own_205 h = ap (first_answer t) (walk_205 mode s base at here h)

  pub match_closed : (n : ℕ) {first e : ℕ} → head_at mode s at ≡ Closed t first e → first_answer t (walk_from mode n s base at) ≡ success ((base + first) ∷ (base + e) ∷ [])
  unfolding first_answer
  match_closed n h = ap (first_answer t) (walk_closed mode n s base at here h) ∙ rw (eq-eqb t t refl)

  pub match_open : (n : ℕ) {first f e : ℕ} → head_at mode s at ≡ Open t first f e
      → first_answer t (walk_from mode (suc n) s base at) ≡ success ((base + first) ∷ (base + e) ∷ [])
  unfolding first_answer
  match_open n h = ap (first_answer t) (walk_open mode n s base at here h) ∙ rw (eq-eqb t t refl)
