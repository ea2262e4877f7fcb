-- Searching a section stream (01, "Sections"; 02, i and f): "the whole tree is tested before a search answers", then the instance of the type
-- asked for is taken from the sections of the walk; or the first of a type, without what comes after it.
use Rattle.std.specs.Prelude.{ℕ, ◌≡◌, cond, List, [], ◌∷◌, eqb, length, Result, Ok, Err}
use Rattle.std.proofs.Math.Option.{Option, none, some}
use Rattle.std.proofs.Math.ListN.{get_elem?}
use Rattle.common.specs.Answers.{Answer, refused, success}
use Rattle.common.specs.Refusal.{number}
use Rattle.common.specs.Refusals.{unless_refused}
use Rattle.common.specs.declared.refusal.Refusal.{Refusal}
use Rattle.sections.specs.Walk.{Trace, done, fault, section, stream_walk}
use Rattle.sections.specs.declared.header.Mode.{Mode}
use Rattle.sections.specs.declared.search.Part.{Part}

-- a section of the walk: its type, and the first byte and the end, in the lent stream, of what follows its header
pub record Section : Type 0 where
  pub section_type : ℕ
  pub first : ℕ
  pub end : ℕ

-- the sections that a walk meets, in walk order
unfoldable pub sections : Trace → List Section
sections done = []
sections (fault n start e) = []
sections (section t f e rest) = record { section_type = t; first = f; end = e } ∷ sections rest

-- the fault that a walk ends in; none where the stream is well formed
unfoldable pub first_fault : Trace → Option ℕ
first_fault done = none
first_fault (fault n start e) = some n
first_fault (section t f e rest) = first_fault rest

-- those of a type
unfoldable pub of_type : (section_type : ℕ) → List Section → List Section
of_type t [] = []
of_type t (x ∷ l) = cond (eqb x.section_type t) (x ∷ of_type t l) (of_type t l)

-- "the answer shows, by first byte and end, the part of the lent stream after the section's first 4 bytes, to its end", in PI mode
-- "what follows its own header"; or 14, "section not there"
abbrev pub part_answer : Option Section → Answer
part_answer none = refused 14
part_answer (some x) = success (x.first ∷ x.end ∷ [])

-- the search for the section of a type that has `instance` sections of that type before it on the walk: the first fault of the
-- whole tree, or the part
unfoldable pub search_of : Mode → List ℕ → (section_type instance : ℕ) → Answer
search_of mode s section_type instance =
    unless_refused refused (first_fault (stream_walk mode s)) (part_answer (get_elem? (of_type section_type (sections (stream_walk mode s))) instance))

-- what a walk meets up to the first section of a type: "a fault at or before the first match in walk order, or any where nothing matches",
-- or the part of that section, or 14. A section's own faults 201 to 205 stand in the walk instead of it; its children and its padding come
-- after it
unfoldable pub first_answer : (section_type : ℕ) → Trace → Answer
first_answer t done = refused 14
first_answer t (fault n start e) = refused n
first_answer t (section u f e rest) = cond (eqb u t) (success (f ∷ e ∷ [])) (first_answer t rest)

-- "a type's first section without walking the rest" (02, f)
abbrev pub search_first_of : Mode → List ℕ → (section_type : ℕ) → Answer
search_first_of mode s section_type = first_answer section_type (stream_walk mode s)

-- what the code answers: the part's first byte and end, or the refusal
abbrev pub found_answer : Result Part Refusal → Answer
found_answer (Ok part) = success (part.first ∷ part.end ∷ [])
found_answer (Err e) = refused (number e)

-- a well-formed stream: its walk meets no fault
abbrev pub WellFormed : Mode → List ℕ → Type 0
WellFormed mode s = first_fault (stream_walk mode s) ≡ none

-- the number of sections of a type on the walk
abbrev pub count_of : Mode → (section_type : ℕ) → List ℕ → ℕ
count_of mode section_type s = length (of_type section_type (sections (stream_walk mode s)))
