-- The calls on section streams, from C (document 02, m): the section search, and, of ours, the search for the first of a type and appending.
use Rattle.std.specs.Prelude.{ℕ, cond, List, [], ◌∷◌, eqb, length}
use Rattle.common.specs.Answers.{number_of, values_of}
use Rattle.common.specs.Refusals.{first_refusal, unless_refused}
use Rattle.sections.specs.Append.{append_of, buffer_after}
use Rattle.sections.specs.Search.{search_of, search_first_of}
use Rattle.sections.specs.declared.header.Mode.{Mode}
use Rattle.sections.specs.declared.header.Mode.TheVariants.{Framework, Pi}
use Rattle.fv.specs.Answer.{answer_stored, few_answer}
use Rattle.fv.specs.Called.{Called, called, answer_call}

-- "section mode 0 is Framework, any other PI"
unfoldable pub mode_of : ℕ → Mode
mode_of mode = cond (eqb mode 0) Framework Pi

-- the section search: the number, and first byte and end
abbrev pub search_call : (mode : ℕ) → (stream : List ℕ) → (section_type instance : ℕ) → (answer : List ℕ) → Called
search_call mode stream section_type instance answer = answer_call (search_of (mode_of mode) stream section_type instance) answer

-- the search for the first of a type
abbrev pub search_first_call : (mode : ℕ) → (stream : List ℕ) → (section_type : ℕ) → (answer : List ℕ) → Called
search_first_call mode stream section_type answer = answer_call (search_first_of (mode_of mode) stream section_type) answer

-- appending: the number, the buffer, and the new used count and 0
unfoldable pub append_call : (mode : ℕ) → (buffer : List ℕ) → (used section_type : ℕ) → (body answer : List ℕ) → Called
append_call mode buffer used section_type body answer =
    let appended = append_of (mode_of mode) (length buffer) used section_type (length body) in
    unless_refused (λ n. called n (buffer ∷ answer ∷ [])) (first_refusal (few_answer answer ∷ []))
    (called (number_of appended) (buffer_after (mode_of mode) buffer used section_type body ∷ answer_stored (values_of appended) answer ∷ []))
