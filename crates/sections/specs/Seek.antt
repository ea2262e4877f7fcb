-- What the code of the walk carries along while it looks for the section wanted: private to the crate, and no part of what
-- `search` and `search_first` promise.
use Rattle.std.specs.Prelude.{ℕ, ◌-◌, Bool, cond, [], ◌∷◌, eqb, Option, Some, None, Result, Ok, Err}
use Rattle.common.specs.Answers.{Answer, refused, success}
use Rattle.common.specs.Refusal.{number}
use Rattle.common.specs.declared.refusal.Refusal.{Refusal}
use Rattle.sections.specs.Walk.{Trace, done, fault, section}
use Rattle.sections.specs.declared.search.Part.{Part}
use Rattle.sections.specs.declared.walk.Walk.{Walk}
use Rattle.sections.specs.declared.walk.Walk.TheVariants.{Ended}
use Rattle.sections.specs.declared.walk.Wanted.{Wanted}

-- the first fault; or whether the walk stops at the one wanted, and how many sections of its type are still to be passed; or the part of
-- the one wanted, where the walk goes on; or the part where it stopped
pub data Seek : Type 0 where
  Refused : ℕ → Seek
  Left : (stops : Bool) → (left : ℕ) → Seek
  Met : (first end : ℕ) → Seek
  Stopped : Option Part → Seek

-- at a section: one of the type wanted is the one wanted, where none is left before it
unfoldable pub visited : (want : ℕ) → Seek → (section_type first end : ℕ) → Seek
visited want (Refused n) t f e = Refused n
visited want (Left stops i) t f e =
    let wanted = cond stops (Stopped (Some (record { first = f; end = e }))) (Met f e) in
    cond (eqb t want) (cond (eqb i 0) wanted (Left stops (i - 1))) (Left stops i)
visited want (Met a b) t f e = Met a b
visited want (Stopped part) t f e = Stopped part

-- at a fault: the first one stays, and so does the section at which the walk stopped
unfoldable pub halted : ℕ → Seek → Seek
halted n (Refused m) = Refused m
halted n (Left stops i) = Refused n
halted n (Met a b) = Refused n
halted n (Stopped part) = Stopped part

-- through all that a walk meets
unfoldable pub run : (want : ℕ) → Seek → Trace → Seek
run want a done = a
run want a (fault n start e) = halted n a
run want a (section t f e rest) = run want (visited want a t f e) rest

-- how the code holds it: how the walk ended, and what it carries along; or the walk's fault
abbrev pub going : Bool → (left : ℕ) → Option Part → Seek
going stops left None = Left stops left
going stops left (Some part) = Met part.first part.end

abbrev pub carried : Walk → Wanted → Seek
carried Ended wanted = going wanted.stops wanted.left wanted.found
carried Walk.Stopped wanted = Stopped wanted.found

abbrev pub walked : Result Walk Refusal → Wanted → Seek
walked (Ok end) wanted = carried end wanted
walked (Err e) wanted = Refused (number e)

-- what it answers at the end
unfoldable pub seek_answer : Seek → Answer
seek_answer (Refused n) = refused n
seek_answer (Left stops i) = refused 14
seek_answer (Met f e) = success (f ∷ e ∷ [])
seek_answer (Stopped None) = refused 14
seek_answer (Stopped (Some part)) = success (part.first ∷ part.end ∷ [])
