-- Laws of the calls on dependency expressions, in the form in which the code meets them: bytes too few, and otherwise what the inner call came to.
use Prim.Native.Nat.{ℕ, ◌≤◌, ◌<◌}
use mathlib.Core.Path.{◌≡◌, refl, sym}
use mathlib.Core.Bool.{Bool, true, false}
use mathlib.Core.List.{List, [], ◌∷◌}
use mathlib.Core.Logic.{◌⊎◌, inl, inr}
use mathlib.Core.Option.{none, some}
use native.Mathlib.Omega.{arith}
use borrow.Author.Tests.{ltb-true, ltb-false}
use lib.Dec.{ltb}
use lib.ListN.{length}
use Rattle.common.specs.Answers.{Answer, number_of, values_of}
use Rattle.common.proofs.Refusals.{no_row}
use Rattle.volume.specs.Header.{words_at}
use Rattle.dependency.specs.Evaluation.{evaluate_of}
use Rattle.fv.specs.Answer.{answer_bytes, answer_stored, few_answer}
use Rattle.fv.specs.Called.{called}
use Rattle.fv.specs.DependencyCalls.{guids_bytes, guids_in, versions_bytes, write_opcode_call, evaluate_call}
use Rattle.fv.proofs.answer.Answers.{few, enough}

-- ---- writing an opcode

module _ (code : ℕ) (operand room answer : List ℕ) where
  pub write_few : length answer < answer_bytes → called 5 (room ∷ answer ∷ []) ≡ write_opcode_call code operand room answer
  unfolding write_opcode_call
  write_few h = rw (few (length answer) answer_bytes [] h)

-- ---- the evaluation

module _ (expression guids versions : List ℕ) (used : ℕ) (answer : List ℕ) where
  pub evaluate_few_guids : length guids < guids_bytes → called 5 (answer ∷ []) ≡ evaluate_call expression guids versions used answer
  unfolding evaluate_call
  evaluate_few_guids h = rw (few (length guids) guids_bytes _ h)

  module _ (g : guids_bytes ≤ length guids) where
    pub evaluate_few_versions : length versions < versions_bytes → called 5 (answer ∷ []) ≡ evaluate_call expression guids versions used answer
    unfolding evaluate_call
    evaluate_few_versions h = rw (enough (length guids) guids_bytes _ (some 5) g (few (length versions) versions_bytes (few_answer answer ∷ []) h))

    module _ (v : versions_bytes ≤ length versions) where
      pub evaluate_few_answer : length answer < answer_bytes → called 5 (answer ∷ []) ≡ evaluate_call expression guids versions used answer
      unfolding evaluate_call
      evaluate_few_answer h =
          rw (enough (length guids) guids_bytes _ (some 5) g (enough (length versions) versions_bytes _ (some 5) v (few (length answer) answer_bytes [] h)))

      pub evaluate_done : answer_bytes ≤ length answer → (a : Answer) (number : ℕ) (after : List ℕ) → a ≡ evaluate_of (guids_in 16 guids) (words_at 16 versions 0) used expression
          → (number ≡ number_of a) × (after ≡ answer_stored (values_of a) answer) → called number (after ∷ []) ≡ evaluate_call expression guids versions used answer
      unfolding evaluate_call
      evaluate_done room a number after is e =
          rw (
            enough (length guids) guids_bytes _ none g (enough (length versions) versions_bytes _ none v (enough (length answer) answer_bytes [] none room no_row)),
            ← is,
            e.0,
            e.1,
          )

  -- too few bytes of any of the three, whatever the others are
  pub evaluate_few : (length guids < guids_bytes) ⊎ ((length versions < versions_bytes) ⊎ (length answer < answer_bytes))
      → evaluate_call expression guids versions used answer ≡ called 5 (answer ∷ [])
  evaluate_few h = go (ltb (length guids) guids_bytes) refl (ltb (length versions) versions_bytes) refl h
    where
      go : (g : Bool) → ltb (length guids) guids_bytes ≡ g → (v : Bool) → ltb (length versions) versions_bytes ≡ v
          → (length guids < guids_bytes) ⊎ ((length versions < versions_bytes) ⊎ (length answer < answer_bytes))
          → evaluate_call expression guids versions used answer ≡ called 5 (answer ∷ [])
      go true p v q h = sym (evaluate_few_guids (ltb-true _ _ p))
      go false p true q h = sym (evaluate_few_versions (ltb-false _ _ p) (ltb-true _ _ q))
      go false p false q (inl h) = absurd (omega (arith, ltb-false (length guids) guids_bytes p))
      go false p false q (inr (inl h)) = absurd (omega (arith, ltb-false (length versions) versions_bytes q))
      go false p false q (inr (inr h)) = sym (evaluate_few_answer (ltb-false _ _ p) (ltb-false _ _ q) h)
