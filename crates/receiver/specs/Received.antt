-- What the finish answers (02, c), by the length that was announced and the bytes that came: read off the walk of the file so far as it is known.
use Rattle.std.specs.Prelude.{ℕ, ◌+◌, ◌-◌, cond, List, [], ◌∷◌, ◌++◌, length, take, replicate, ◌==◌, nat_le}
use Rattle.std.proofs.Math.Option.{Option, none, some}
use Rattle.std.proofs.Math.ListN.{get_elem?}
use Rattle.common.specs.Answers.{Answer, refused, success, short}
use Rattle.common.specs.Refusals.{unless_refused}
use Rattle.sections.specs.Partial.{bytes_for}
use Rattle.sections.specs.Search.{Section, sections, of_type}
use Rattle.sections.specs.Walk.{Trace, done, fault, section, stream_walk}
use Rattle.sections.specs.declared.header.Mode.{Mode}

-- the bytes of portions, one after the other
unfoldable pub joined : (portions : List (List ℕ)) → List ℕ
joined [] = []
joined (bytes ∷ portions) = bytes ++ joined portions

-- the file so far as it is known: the bytes that came, without those past the announced length, and 0 for each that did not come; what stands in
-- their place makes no difference to what is found (`any_file`)
unfoldable pub file_of : (total : ℕ) → (came : List ℕ) → List ℕ
file_of total came = take total (came ++ replicate total 0)

-- "a fault is found when the last byte its test reads has come": how many bytes of the file that is, for a fault whose place in the walk is byte
-- `start`, in a stream that ends at byte `e`. 206 is found "at the announcement"; "207 each padding byte by itself", and its place is that byte. Of the
-- others the bytes before the section at fault, and of its own as many as the test reads: "201 at a start reads none .., 202 and 203 read size and
-- type, 204 and 205 the whole fields they test" (`bytes_for`)
unfoldable pub found_after : Mode → (file : List ℕ) → (number start e : ℕ) → ℕ
found_after mode file n start e =
    cond (n == 206) 0 (cond (n == 207) (start + 1) (start + bytes_for mode (e - start) file start n))

-- the fault of a walk, where it is found in so many first bytes of the file; "the first found stays", and a walk ends in its first fault
unfoldable pub found_fault : Mode → (file : List ℕ) → (first : ℕ) → Trace → Option ℕ
found_fault mode file first done = none
found_fault mode file first (fault n start e) = cond (nat_le (found_after mode file n start e) first) (some n) none
found_fault mode file first (section t f e rest) = found_fault mode file first rest

-- a walk that ends in fault n, with its place
pub data EndsIn (n start e : ℕ) : Trace → Type 0 where
  here : EndsIn n start e (fault n start e)
  later : {t first end : ℕ} {rest : Trace} → EndsIn n start e rest → EndsIn n start e (section t first end rest)

-- the fault that is found once these bytes came of a file of the announced length
unfoldable pub found_of : Mode → (total : ℕ) → (came : List ℕ) → Option ℕ
found_of mode total came = let file = file_of total came in found_fault mode file (length came) (stream_walk mode file)

-- its number, or 0
abbrev pub fault_number : Option ℕ → ℕ
fault_number none = 0
fault_number (some n) = n

-- "the number of sections on the full walk, holders and children alike, and first byte and end of the part the search shows", or 14
abbrev pub counted_answer : (count : ℕ) → Option Section → Answer
counted_answer count none = refused 14
counted_answer count (some x) = success (count ∷ x.first ∷ x.end ∷ [])

-- the finish: the fault that was found; "208, for more bytes than announced or fewer, only where no fault was found; then 14"
unfoldable pub received_of : Mode → (section_type instance total : ℕ) → (came : List ℕ) → Answer
received_of mode t instance total came =
    let met = sections (stream_walk mode (file_of total came)) in
    let all = counted_answer (length met) (get_elem? (of_type t met) instance) in
    unless_refused refused (found_of mode total came) (cond (length came == total) all (refused 208))

-- the search of a whole file, with the number of its sections beside the part
abbrev pub with_count : (count : ℕ) → Answer → Answer
with_count count (refused n) = refused n
with_count count (success values) = success (count ∷ values)
with_count count (short values) = short (count ∷ values)
