-- Laws of what the code of the walk carries along: what a section does to it, an end of the walk stays, two walks in a row are run one after
-- the other, and what is carried to the end of a walk answers the search and the search for the first.
use Prim.Native.Nat.{ℕ, zero, suc, ◌-◌}
use mathlib.Core.Path.{◌≡◌, refl, sym}
use mathlib.Core.Bool.{Bool, true, false}
use mathlib.Core.Option.{some}
use native.Mathlib.Omega.{arith}
use borrow.Author.Tests.{ne_eqb}
use lib.Dec.{eqb}
use lib.ListN.{get_elem?}
use Rattle.std.specs.Prelude.{Option as OptionOf, None, Some}
use Rattle.std.specs.Option.{is_some, ok_or}
use Rattle.common.specs.declared.refusal.Refusal.TheVariants.{NotFound}
use Rattle.common.specs.Answers.{Answer, refused}
use Rattle.common.specs.Refusals.{unless_refused}
use Rattle.sections.specs.Walk.{Trace, done, fault, section, and_then}
use Rattle.sections.specs.Seek.{Seek, Refused, Left, Met, Stopped, visited, halted, run, going, carried, seek_answer}
use Rattle.sections.specs.declared.search.Part.{Part}
use Rattle.sections.specs.declared.walk.Walk.{Walk}
use Rattle.sections.specs.declared.walk.Walk.TheVariants.{Ended}
use Rattle.sections.specs.declared.walk.Wanted.{Wanted}
use Rattle.sections.specs.Search.{sections, first_fault, of_type, part_answer, first_answer, found_answer}

-- a section of another type leaves what is carried as it is
visited_other : (w t f e : ℕ) (a : Seek) → (t ≡ w → ⊥) → visited w a t f e ≡ a
unfolding visited
visited_other w t f e (Refused n) h = refl
visited_other w t f e (Left stop i) h = rw (ne_eqb t w h)
visited_other w t f e (Met x y) h = refl
visited_other w t f e (Stopped part) h = refl

-- at a fault, whatever is carried
pub carried_fault : (n : ℕ) (x : Wanted) → Refused n ≡ halted n (carried Ended x)
unfolding halted
carried_fault n x = go x.found
  where
    go : (o : OptionOf Part) → Refused n ≡ halted n (going x.stops x.left o)
    go None = refl
    go (Some part) = refl

-- what the code answers at the end
pub answer_end : (end : Walk) (x : Wanted) → found_answer (ok_or x.found NotFound) ≡ seek_answer (carried end x)
unfolding seek_answer
answer_end end x = go end x.found
  where
    go : (end : Walk) (o : OptionOf Part) → found_answer (ok_or o NotFound) ≡ seek_answer (carried end (record { section_type = x.section_type; left = x.left; stops = x.stops; found = o }))
    go Ended None = refl
    go Ended (Some part) = refl
    go Walk.Stopped None = refl
    go Walk.Stopped (Some part) = refl

-- and at a section: one of another type, and one after the section wanted
module _ (x : Wanted) (t f e : ℕ) where
  pub visit_other : (t ≡ x.section_type → ⊥) → carried Ended x ≡ visited x.section_type (carried Ended x) t f e
  visit_other h = sym (visited_other x.section_type t f e (carried Ended x) h)

  pub visit_after : is_some x.found ≡ true → carried Ended x ≡ visited x.section_type (carried Ended x) t f e
  unfolding visited
  visit_after h = go x.found h
    where
      go : (o : OptionOf Part) → is_some o ≡ true → going x.stops x.left o ≡ visited x.section_type (going x.stops x.left o) t f e
      go None p = let z : ◌≡◌ {A = ℕ} 0 1 = cc in absurd (omega arith)
      go (Some part) p = refl

-- a refusal stays to the end, and so does the section at which the walk stopped; and two walks in a row
run-refused : (w n : ℕ) (x : Trace) → run w (Refused n) x ≡ Refused n
unfolding run halted visited
run-refused w n done = refl
run-refused w n (fault m _ _) = refl
run-refused w n (section t f e rest) = run-refused w n rest

run_stopped : (w : ℕ) (part : OptionOf Part) (x : Trace) → run w (Stopped part) x ≡ Stopped part
unfolding run halted visited
run_stopped w part done = refl
run_stopped w part (fault m _ _) = refl
run_stopped w part (section t f e rest) = run_stopped w part rest

-- whatever the walk would still meet changes nothing
abbrev pub Final : ℕ → Seek → Type 0
Final w a = (x : Trace) → run w a x ≡ a

pub ended_refused : (w n : ℕ) → Final w (Refused n)
ended_refused w n x = run-refused w n x

pub ended_stopped : (w : ℕ) (part : OptionOf Part) → Final w (Stopped part)
ended_stopped w part x = run_stopped w part x

run-halted : (w n : ℕ) (a : Seek) (x : Trace) → run w (halted n a) x ≡ halted n a
unfolding halted
run-halted w n (Refused m) x = run-refused w m x
run-halted w n (Left stop i) x = run-refused w n x
run-halted w n (Met f e) x = run-refused w n x
run-halted w n (Stopped part) x = run_stopped w part x

pub run_then : (w : ℕ) (a : Seek) (x y : Trace) → run w a (and_then x y) ≡ run w (run w a x) y
unfolding run and_then
run_then w a done y = refl
run_then w a (fault n _ _) y = sym (run-halted w n a y)
run_then w a (section t f e rest) y = run_then w (visited w a t f e) rest y

-- once the section wanted is met, only a fault can still come
run-met : (w t f e : ℕ) (x : Trace)
    → seek_answer (run w (Met f e) x) ≡ unless_refused refused (first_fault x) (part_answer (some (record { section_type = t; first = f; end = e })))
unfolding run halted visited seek_answer first_fault
run-met w t f e done = refl
run-met w t f e (fault n _ _) = refl
run-met w t f e (section t' f' e' rest) = run-met w t f e rest

-- the search's answer, by what the walk meets
abbrev answer_from : (w i : ℕ) → Trace → Answer
answer_from w i x = unless_refused refused (first_fault x) (part_answer (get_elem? (of_type w (sections x)) i))

-- what is carried to the end of a walk answers the search: the first fault, or the section wanted, or 14
pub run_answer : (w i : ℕ) (x : Trace)
    → seek_answer (run w (Left false i) x) ≡ unless_refused refused (first_fault x) (part_answer (get_elem? (of_type w (sections x)) i))
unfolding run halted visited seek_answer first_fault sections of_type
run_answer w i done = refl
run_answer w i (fault n _ _) = refl
run_answer w i (section t f e rest) = go (eqb t w) refl (λ (j : ℕ). run_answer w j rest) i
  where
    go : (b : Bool) → eqb t w ≡ b → ((j : ℕ) → seek_answer (run w (Left false j) rest) ≡ answer_from w j rest)
        → (i : ℕ) → seek_answer (run w (Left false i) (section t f e rest)) ≡ answer_from w i (section t f e rest)
    go false x ih i = rw x (ih i)
    go true x ih zero = rw x (run-met w t f e rest)
    go true x ih (suc j) = let q : suc j - 1 ≡ j = omega arith in rw (x, ne_eqb (suc j) 0 (λ z. omega arith), q) (ih j)

-- and, where it stops at the first section of the type, the search for the first
pub run_first : (w : ℕ) (x : Trace) → seek_answer (run w (Left true 0) x) ≡ first_answer w x
unfolding run halted visited seek_answer first_answer
run_first w done = refl
run_first w (fault n _ _) = refl
run_first w (section t f e rest) = go (eqb t w) refl (run_first w rest)
  where
    go : (b : Bool) → eqb t w ≡ b → seek_answer (run w (Left true 0) rest) ≡ first_answer w rest
        → seek_answer (run w (Left true 0) (section t f e rest)) ≡ first_answer w (section t f e rest)
    go true x ih = rw (x, run_stopped w (Some (record { first = f; end = e })) rest)
    go false x ih = rw x ih
