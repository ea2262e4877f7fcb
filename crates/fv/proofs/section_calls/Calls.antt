-- Laws of appending from C, in the form in which the code meets them: bytes too few, and otherwise what the inner call came to.
use Prim.Native.Nat.{ℕ, ◌<◌}
use mathlib.Core.Path.{◌≡◌}
use mathlib.Core.List.{List, [], ◌∷◌}
use lib.ListN.{length}
use Rattle.fv.specs.Answer.{answer_bytes}
use Rattle.fv.specs.Called.{called}
use Rattle.fv.specs.SectionCalls.{append_call}
use Rattle.fv.proofs.answer.Answers.{few}

module _ (mode : ℕ) (buffer : List ℕ) (used section_type : ℕ) (body answer : List ℕ) where
  pub append_few : length answer < answer_bytes → called 5 (buffer ∷ answer ∷ []) ≡ append_call mode buffer used section_type body answer
  unfolding append_call
  append_few h = rw (few (length answer) answer_bytes [] h)
