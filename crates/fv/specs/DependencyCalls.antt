-- The calls on dependency expressions, from C (document 02, k): each is the inner call, after 5 for too few bytes of the answer or of the table. The installed firmware comes
-- as 256 bytes of GUIDs, 64 of versions, and the used number.
use Rattle.std.specs.Prelude.{ℕ, zero, suc, List, [], ◌∷◌, ltb, length, take, drop}
use Rattle.common.specs.Answers.{number_of, values_of}
use Rattle.common.specs.Refusals.{Row, row, first_refusal, unless_refused}
use Rattle.volume.specs.Header.{words_at}
use Rattle.dependency.specs.Opcodes.{read_opcode, write_opcode}
use Rattle.dependency.specs.Validation.{validate_of}
use Rattle.dependency.specs.Evaluation.{evaluate_of}
use Rattle.fv.specs.Answer.{answer_stored, few_answer}
use Rattle.fv.specs.Called.{Called, called, answer_call}

-- the bytes of sixteen GUIDs, and of sixteen versions
abbrev pub guids_bytes : ℕ
guids_bytes = 256

abbrev pub versions_bytes : ℕ
versions_bytes = 64

-- 5 for too few of them
abbrev pub few_guids : (guids : List ℕ) → Row
few_guids guids = row (ltb (length guids) guids_bytes) 5

abbrev pub few_versions : (versions : List ℕ) → Row
few_versions versions = row (ltb (length versions) versions_bytes) 5

-- so many rows of sixteen bytes
unfoldable pub guids_in : ℕ → List ℕ → List (List ℕ)
guids_in zero s = []
guids_in (suc n) s = take 16 s ∷ guids_in n (drop 16 s)

-- reading an opcode: the number, and the opcode and the place after its operand
abbrev pub read_opcode_call : (opcodes answer : List ℕ) → Called
read_opcode_call opcodes answer = answer_call (read_opcode opcodes) answer

-- writing one: the number, the room, and how many bytes were stored and 0
unfoldable pub write_opcode_call : (code : ℕ) → (operand room answer : List ℕ) → Called
write_opcode_call code operand room answer =
    let written = write_opcode code operand room in
    unless_refused (λ n. called n (room ∷ answer ∷ [])) (first_refusal (few_answer answer ∷ []))
    (called (number_of written.answer) (written.room ∷ answer_stored (values_of written.answer) answer ∷ []))

-- the test: the number
abbrev pub validate_call : (expression : List ℕ) → Called
validate_call expression = called (number_of (validate_of expression)) []

-- the evaluation: the number, and 1 or 0, and 0
unfoldable pub evaluate_call : (expression guids versions : List ℕ) → (used : ℕ) → (answer : List ℕ) → Called
evaluate_call expression guids versions used answer =
    let evaluated = evaluate_of (guids_in 16 guids) (words_at 16 versions 0) used expression in
    unless_refused (λ n. called n (answer ∷ [])) (first_refusal (few_guids guids ∷ few_versions versions ∷ few_answer answer ∷ []))
    (called (number_of evaluated) (answer_stored (values_of evaluated) answer ∷ []))
