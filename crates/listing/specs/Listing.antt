-- The listing of a volume (document 01, "the lister"): its lines, as bytes, and the call that makes them in a room.
use Rattle.std.specs.Prelude.{ℕ, ◌+◌, ◌*◌, List, [], ◌∷◌, ◌++◌, ltb, length, drop, Result, Ok, Err}
use Rattle.common.specs.Answers.{Answer, refused, success, short, number_of}
use Rattle.common.specs.Refusal.{number}
use Rattle.common.specs.declared.refusal.Refusal.{Refusal}
use Rattle.common.specs.Refusals.{row, first_refusal, unless_refused}
use Rattle.volume.specs.BlockMap.{max_entries}
use Rattle.volume.specs.Header.{open_volume}
use Rattle.volume.specs.State.{map_of}
use Rattle.volume.specs.declared.state.State.{State}
use Rattle.listing.specs.Decimal.{decimal, max_digits}

-- the words of the lines, in ASCII: "volume", "map", "refused"
abbrev pub volume_word : List ℕ
volume_word = 118 ∷ 111 ∷ 108 ∷ 117 ∷ 109 ∷ 101 ∷ []

abbrev pub map_word : List ℕ
map_word = 109 ∷ 97 ∷ 112 ∷ []

abbrev pub refused_word : List ℕ
refused_word = 114 ∷ 101 ∷ 102 ∷ 117 ∷ 115 ∷ 101 ∷ 100 ∷ []

abbrev pub tab : ℕ
tab = 9

abbrev pub line_feed : ℕ
line_feed = 10

-- a field: a tab and a number
unfoldable pub field : ℕ → List ℕ
field x = tab ∷ decimal x

-- a line: its word, three fields and a line feed
unfoldable pub line : List ℕ → ℕ → ℕ → ℕ → List ℕ
line word x y z = word ++ (field x ++ (field y ++ (field z ++ (line_feed ∷ []))))

-- "the fields are length, attributes, entries"
abbrev pub volume_line : ℕ → ℕ → ℕ → List ℕ
volume_line len attributes entries = line volume_word len attributes entries

-- "then first block, count, length"
abbrev pub map_line : ℕ → ℕ → ℕ → List ℕ
map_line first count len = line map_word first count len

-- a line for each map entry, its first block counted from `first` on
unfoldable pub map_lines : ℕ → List ℕ → List ℕ
map_lines first [] = []
map_lines first (count ∷ []) = []
map_lines first (count ∷ len ∷ rest) = map_line first count len ++ map_lines (first + count) rest

-- "a refusal prints `refused\t` and the number"
unfoldable pub refused_line : ℕ → List ℕ
refused_line n = refused_word ++ (field n ++ (line_feed ∷ []))

-- the lines of what opening answered: the volume's and its map's, or the refusal's. Opening never answers short; its number would stand
-- as a refusal's
unfoldable pub lines_of : Answer → State → List ℕ
lines_of (success values) st = volume_line st.length st.attributes st.entries ++ map_lines 0 (map_of st)
lines_of (refused n) st = refused_line n
lines_of (short values) st = refused_line (number_of (short values))

-- the listing of a volume's bytes: "takes base 0"
unfoldable pub listing : List ℕ → List ℕ
listing s = lines_of (open_volume s 0).answer (open_volume s 0).state

-- ---- the longest lines, where each number has 64 bits

-- a field: a tab and the digits
abbrev pub max_field : ℕ
max_field = 1 + max_digits

-- a line: its word, three fields and a line feed
abbrev pub max_line : List ℕ → ℕ
max_line word = length word + 3 * max_field + 1

-- the length that no listing of a volume's bytes exceeds, 2,214: the volume's line of 70 bytes and 32 map lines of 67
abbrev pub max_listing : ℕ
max_listing = max_line volume_word + max_line map_word * max_entries

-- ---- the call

-- what listing answers, and the room afterwards
pub record ListedRoom : Type 0 where
  pub answer : Answer
  pub room : List ℕ

abbrev pub listed_room : Answer → List ℕ → ListedRoom
listed_room answer room = record { answer = answer; room = room }

-- what the code answers: the text's length, or a refusal with its number
unfoldable pub listed_answer : Result ℕ Refusal → Answer
listed_answer (Ok k) = success (k ∷ [])
listed_answer (Err e) = refused (number e)

-- listing a volume's bytes into a room: the text's length, and the text at the room's start; 5 where the room is too short, and it stays as
-- it was
unfoldable pub list_volume : List ℕ → List ℕ → ListedRoom
list_volume s room =
    let text = listing s in
    unless_refused (λ n. listed_room (refused n) room) (first_refusal (row (ltb (length room) (length text)) 5 ∷ []))
    (listed_room (success (length text ∷ [])) (text ++ drop (length text) room))
