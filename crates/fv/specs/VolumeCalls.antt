-- The calls on volumes, from C (document 02, m): each is the inner call, of read, write and erase over the unpacked state, after "5 for state or answer bytes
-- too few". That "111 for bytes that unpack to no lawful state" comes next, and before the others, is the inner call's own order: `read_111`, `write_111`,
-- `erase_111` (proofs/Theorems).
use Rattle.std.specs.Prelude.{ℕ, List, [], ◌∷◌, ◌++◌, drop}
use Rattle.common.specs.Answers.{number_of, values_of, refusal_in}
use Rattle.common.specs.Refusals.{first_refusal, unless_refused}
use Rattle.volume.specs.Header.{Opens, open_volume}
use Rattle.volume.specs.ExtendedEntry.{ext_entry}
use Rattle.block_service.specs.Erase.{list_words}
use Rattle.block_service.specs.Service.{read, write, erase_blocks, step}
use Rattle.fv.specs.Answer.{answer_stored, entry_words, few_answer}
use Rattle.fv.specs.Called.{Called, called, answer_call}
use Rattle.fv.specs.Packed.{state_bytes, few_state, packed, unpacked}

-- the state's bytes after opening: the state packed, and what lies behind it; a refusal leaves them
unfoldable pub state_after : Opens → (state : List ℕ) → List ℕ
state_after opened state = unless_refused (λ n. state) (refusal_in opened.answer) (packed opened.state ++ drop state_bytes state)

-- opening: the number, and the state's bytes
unfoldable pub open_call : (state volume : List ℕ) → (base : ℕ) → Called
open_call state volume base =
    let opened = open_volume volume base in
    unless_refused (λ n. called n (state ∷ [])) (first_refusal (few_state state ∷ []))
    (called (number_of opened.answer) (state_after opened state ∷ []))

-- a read: the number, the buffer, and the count and 0
unfoldable pub read_call : (state volume : List ℕ) → (block offset : ℕ) → (buffer answer : List ℕ) → Called
read_call state volume block offset buffer answer =
    let result = step (unpacked state) volume (read block offset buffer) in
    unless_refused (λ n. called n (buffer ∷ answer ∷ [])) (first_refusal (few_state state ∷ few_answer answer ∷ []))
    (called (number_of result.answer) (result.buffer ∷ answer_stored (values_of result.answer) answer ∷ []))

-- a write: the number, the volume, and the count and 0
unfoldable pub write_call : (state volume : List ℕ) → (block offset : ℕ) → (new answer : List ℕ) → Called
write_call state volume block offset new answer =
    let result = step (unpacked state) volume (write block offset new) in
    unless_refused (λ n. called n (volume ∷ answer ∷ [])) (first_refusal (few_state state ∷ few_answer answer ∷ []))
    (called (number_of result.answer) (result.volume ∷ answer_stored (values_of result.answer) answer ∷ []))

-- an erase: the number, and the volume. "An erase list comes as bytes, eight to a word; a part word at the end is ignored"
unfoldable pub erase_call : (state volume list : List ℕ) → Called
erase_call state volume list =
    let result = step (unpacked state) volume (erase_blocks (list_words list)) in
    unless_refused (λ n. called n (volume ∷ [])) (first_refusal (few_state state ∷ []))
    (called (number_of result.answer) (result.volume ∷ []))

-- an entry of an extended header (our call): the number, and its first byte, and its size and its type in one number
abbrev pub entry_call : (volume : List ℕ) → (number : ℕ) → (answer : List ℕ) → Called
entry_call volume number answer = answer_call (entry_words (ext_entry volume number)) answer
