-- Laws of the answer's bytes: the stores that make them, the outcome of an answer, and the test of their number.
use Prim.Native.Nat.{ℕ, ◌≤◌, ◌<◌}
use mathlib.Core.Path.{◌≡◌, sym, ap, ◌∙◌}
use mathlib.Core.List.{List, [], ◌∷◌, ◌++◌}
use mathlib.Core.Option.{Option, some}
use borrow.Author.Tests.{lt-ltb, le-ltb}
use lib.Dec.{ltb}
use lib.ListN.{length}
use lib.Seq.{sets}
use Rattle.common.specs.Answers.{Answer}
use Rattle.common.specs.Refusals.{Row, row, first_refusal}
use Rattle.common.proofs.Lists.{sets-append, sets_front}
use Rattle.common.proofs.Refusals.{row_applies, row_passes}
use Rattle.numbers.specs.LittleEndian.{le_bytes}
use Rattle.fv.specs.Answer.{answer_bytes, two_stored}
use Rattle.fv.specs.Called.{called, answer_call}

-- two numbers stored in a row at the front of the room
pub two_stored_lem : (x y : ℕ) (r1 r2 room : List ℕ) → answer_bytes ≤ length room → r1 ≡ sets room 0 (le_bytes 8 x) → r2 ≡ sets r1 8 (le_bytes 8 y)
    → r2 ≡ two_stored x y room
unfolding le_bytes
two_stored_lem x y r1 r2 room h e1 e2 =
    e2 ∙ ap (λ (l : List ℕ). sets l 8 (le_bytes 8 y)) e1 ∙ sym (sets-append (le_bytes 8 x) (le_bytes 8 y) room 0) ∙ sets_front (le_bytes 8 x ++ le_bytes 8 y) room h

-- too few bytes lent: 5; enough: the rows after it
pub few : (n k : ℕ) (rest : List Row) → n < k → first_refusal (row (ltb n k) 5 ∷ rest) ≡ some 5
few n k rest h = row_applies (ltb n k) 5 rest (lt-ltb n k h)

pub enough : (n k : ℕ) (rest : List Row) (o : Option ℕ) → k ≤ n → first_refusal rest ≡ o → first_refusal (row (ltb n k) 5 ∷ rest) ≡ o
enough n k rest o h e = row_passes (ltb n k) 5 rest o (le-ltb n k h) e

-- ---- a call that may store in nothing but the answer's bytes

module _ (inner : Answer) (answer : List ℕ) where
  pub answer_few : length answer < answer_bytes → called 5 (answer ∷ []) ≡ answer_call inner answer
  unfolding answer_call
  answer_few h = rw (few (length answer) answer_bytes [] h)
