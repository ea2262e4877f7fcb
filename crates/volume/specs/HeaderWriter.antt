-- Writing a volume header (document 01: "writing a header takes GUID, length, attributes and the map words without the closing pair. It
-- stores exactly the header, its checksum worked out, at the start of the room and answers its length"). "For revision 2 a second writer takes the
-- offset too" (document 02, a): the edition and the offset of an extended header come first, 1 and 0 for the first writer.
use Rattle.std.specs.Prelude.{ℕ, ◌-◌, ◌/◌, ◌%◌, Bool, not, ◌||◌, List, [], ◌∷◌, ◌++◌, length, drop, replicate, ◌==◌, nat_lt, Result, Ok, Err}
use Rattle.common.specs.Answers.{Answer, refused, success}
use Rattle.common.specs.Refusal.{number}
use Rattle.common.specs.declared.refusal.Refusal.{Refusal}
use Rattle.common.specs.Refusals.{Row, row, first_refusal, unless_refused}
use Rattle.numbers.specs.LittleEndian.{le_bytes}
use Rattle.volume.specs.Attributes.{attributes_fault}
use Rattle.volume.specs.BlockMap.{header_length, has_zero, size_fault}
use Rattle.volume.specs.declared.header_writer.Edition.{Edition}
use Rattle.volume.specs.declared.header_writer.Edition.TheVariants as E
use Rattle.volume.specs.Header.{signature, word_modulus, word_sum}

-- an edition as the code has it: the header's revision, and "the offset of an extended header (0 for none)", which edition 1 has not
abbrev pub revision_of : Edition → ℕ
revision_of E.Framework = 1
revision_of (E.Pi offset) = 2

abbrev pub offset_of : Edition → ℕ
offset_of E.Framework = 0
offset_of (E.Pi offset) = offset

-- the number of entries of a list of map words
abbrev pub pairs : List ℕ → ℕ
pairs words = length words / 2

-- map words as bytes
unfoldable pub words_bytes : List ℕ → List ℕ
words_bytes [] = []
words_bytes (w ∷ rest) = le_bytes 4 w ++ words_bytes rest

-- the header's bytes before its checksum (0..49), the header being h bytes long: zero vector, GUID, volume length, signature, attributes,
-- header length
unfoldable pub header_front : List ℕ → ℕ → ℕ → ℕ → List ℕ
header_front guid len attributes h =
    replicate 16 0 ++ (guid ++ (le_bytes 8 len ++ (le_bytes 4 signature ++ (le_bytes 4 attributes ++ le_bytes 2 h))))

-- bytes 52..55: the offset of the extended header, which is reserved and 0 in edition 1, a reserved zero, and the revision
unfoldable pub header_back : ℕ → ℕ → List ℕ
header_back edition offset = le_bytes 2 offset ++ (le_bytes 1 0 ++ le_bytes 1 edition)

-- a header with this checksum; the map is ended by a pair of zeros
unfoldable pub header_with : ℕ → ℕ → ℕ → List ℕ → ℕ → ℕ → List ℕ → List ℕ
header_with check edition offset guid len attributes words =
    header_front guid len attributes (header_length (pairs words))
    ++ (le_bytes 2 check ++ (header_back edition offset ++ (words_bytes words ++ replicate 8 0)))

-- the checksum that brings a sum of 16-bit words to 0
abbrev pub checksum : ℕ → ℕ
checksum sum = (word_modulus - sum % word_modulus) % word_modulus

-- the header, its checksum worked out over the header that has 0 in its place
unfoldable pub header_bytes : ℕ → ℕ → List ℕ → ℕ → ℕ → List ℕ → List ℕ
header_bytes edition offset guid len attributes words =
    header_with (checksum (word_sum (header_with 0 edition offset guid len attributes words))) edition offset guid len attributes words

-- 106 at writing: a zero word or an odd number of map words
unfoldable pub words_fault : List ℕ → Bool
words_fault words = has_zero words || not (length words % 2 == 0)

-- the refusals of writing, in order; `room` is the length of the lent room. No offset is refused
unfoldable pub write_refusals : ℕ → ℕ → ℕ → List ℕ → ℕ → List Row
write_refusals edition len attributes words room =
    row (words_fault words) 106
    ∷ row (size_fault (pairs words) words len) 107
    ∷ row (attributes_fault edition attributes) 108
    ∷ row (nat_lt room (header_length (pairs words))) 5
    ∷ []

-- what writing answers, and the room afterwards
pub record HeaderWritten : Type 0 where
  pub answer : Answer
  pub room : List ℕ

abbrev pub wrote : Answer → List ℕ → HeaderWritten
wrote answer room = record { answer = answer; room = room }

-- what the code answers: the header's length, or a refusal with its number
unfoldable pub written_answer : Result ℕ Refusal → Answer
written_answer (Ok k) = success (k ∷ [])
written_answer (Err e) = refused (number e)

-- writing a header at the start of a room: it answers its length and stores exactly the header; a refusal leaves the room as it was
unfoldable pub write_header : ℕ → ℕ → List ℕ → ℕ → ℕ → List ℕ → List ℕ → HeaderWritten
write_header edition offset guid len attributes words room =
    let header = header_bytes edition offset guid len attributes words in
    unless_refused (λ n. wrote (refused n) room) (first_refusal (write_refusals edition len attributes words (length room)))
    (wrote (success (length header ∷ [])) (header ++ drop (length header) room))
