-- What a call from C leaves: the number that it returns, and the ranges that it may store in.
use Rattle.std.specs.Prelude.{ℕ, ◌≡◌, List, [], ◌∷◌}
use Rattle.common.specs.Answers.{Answer, number_of, values_of}
use Rattle.common.specs.Refusals.{first_refusal, unless_refused}
use Rattle.fv.specs.Answer.{answer_stored, few_answer}

-- the number ("each returns the answer, 0 for success"), and what each range that the call may change holds afterwards, in the order of the parameters.
-- The other ranges are lent to be read: their types say that they stay
pub record Called : Type 0 where
  pub number : ℕ
  pub ranges : List (List ℕ)

abbrev pub called : ℕ → List (List ℕ) → Called
called number ranges = record { number = number; ranges = ranges }

-- a call that may store in nothing but the answer's bytes: 5 for too few of these, and otherwise what the inner call answers
unfoldable pub answer_call : Answer → (answer : List ℕ) → Called
answer_call inner answer =
    unless_refused (λ n. called n (answer ∷ [])) (first_refusal (few_answer answer ∷ []))
    (called (number_of inner) (answer_stored (values_of inner) answer ∷ []))

-- for the theorems: a number that is a refusal's, neither 0 for success nor 4 for short
abbrev pub IsRefusal : ℕ → Type 0
IsRefusal n = (n ≡ 0 → ⊥) × (n ≡ 4 → ⊥)
