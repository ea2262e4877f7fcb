-- Answers. Document 01 gives every answer a number: 0 for success, 4 for short, and a refusal's own. What a call answers is defined as
-- such an answer with the values that it carries; what a call returns has a definition that gives the answer of each of its cases.
use Rattle.std.specs.Prelude.{ℕ, List, []}
use Rattle.std.proofs.Math.Option.{Option, none, some}

-- a refusal with its number, success with the values answered, or short (document 01's answer 4) with the count or, of an erase in two operations, the job
pub data Answer : Type 0 where
  refused : ℕ → Answer
  success : List ℕ → Answer
  short : List ℕ → Answer

-- document 01's number of an answer
unfoldable pub number_of : Answer → ℕ
number_of (refused n) = n
number_of (success values) = 0
number_of (short values) = 4

-- and the values that it carries: "a refusal carries no value but its number"
unfoldable pub values_of : Answer → List ℕ
values_of (refused n) = []
values_of (success values) = values
values_of (short values) = values

-- the refusal that an answer is, where it is one
abbrev pub refusal_in : Answer → Option ℕ
refusal_in (refused n) = some n
refusal_in (success values) = none
refusal_in (short values) = none
