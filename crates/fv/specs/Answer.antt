-- What a call answers as bytes (document 02, m: "count and 0, or first byte and end, go 64-bit into 16 lent bytes").
use Rattle.std.specs.Prelude.{refl, Err, ℕ, ◌+◌, ◌*◌, ◌≡◌, List, [], ◌∷◌, ◌++◌, ltb, length, drop}
use Rattle.common.specs.Answers.{Answer, refused, success, short, number_of, values_of}
use Rattle.common.specs.Refusals.{Row, row}
use Rattle.numbers.specs.LittleEndian.{le_bytes}
use Rattle.common.specs.Refusal.{number}
use Rattle.common.specs.declared.refusal.Refusal.{Refusal}
use Rattle.block_service.specs.Service.{moved_answer}
use Rattle.volume.specs.ExtendedEntry.{entry_answer}
use Rattle.fv.specs.declared.answer.Outcome.{Outcome}

-- the bytes of an answer
abbrev pub answer_bytes : ℕ
answer_bytes = 16

-- "5 for .. answer bytes too few"
abbrev pub few_answer : (answer : List ℕ) → Row
few_answer answer = row (ltb (length answer) answer_bytes) 5

-- two numbers stored at the start of a room; what lies behind them stays
abbrev pub two_stored : ℕ → ℕ → List ℕ → List ℕ
two_stored x y room = le_bytes 8 x ++ (le_bytes 8 y ++ drop answer_bytes room)

-- an answer's values stored: one with 0, or the first two. A refusal carries no value, and leaves the room
unfoldable pub answer_stored : (values room : List ℕ) → List ℕ
answer_stored [] room = room
answer_stored (x ∷ []) room = two_stored x 0 room
answer_stored (x ∷ y ∷ rest) room = two_stored x y room

-- the count of the last of many writes; a refusal has none: 0
unfoldable pub last_count : Answer → ℕ
last_count (refused n) = 0
last_count (success []) = 0
last_count (success (count ∷ rest)) = count
last_count (short []) = 0
last_count (short (count ∷ rest)) = count

-- the three values of an extended header's entry as two: its first byte, and its size and its type in one number
unfoldable pub entry_words : Answer → Answer
entry_words (refused n) = refused n
entry_words (short values) = short values
entry_words (success []) = success []
entry_words (success (first ∷ [])) = success (first ∷ [])
entry_words (success (first ∷ size ∷ [])) = success (first ∷ size ∷ [])
entry_words (success (first ∷ size ∷ type ∷ rest)) = success (first ∷ (size + 65536 * type) ∷ [])

-- private to the code's contracts: the outcome of an answer
abbrev pub Gives : Outcome → Answer → Type 0
Gives o a = (o.number ≡ number_of a) × ((room : List ℕ) → two_stored o.first o.second room ≡ answer_stored (values_of a) room)

-- a refusal's answer is its number
pub moved_refusal : (e : Refusal) → moved_answer (Err e) ≡ refused (number e)
unfolding moved_answer
moved_refusal e = refl

pub entry_refusal : (e : Refusal) → entry_words (entry_answer (Err e)) ≡ refused (number e)
unfolding entry_words entry_answer
entry_refusal e = refl
