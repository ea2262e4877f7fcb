-- Appending a leaf to a section stream (01, "Sections"; 02, i): the refusals, the answer, the bytes that are written and the buffer
-- afterwards.
use Rattle.std.specs.Prelude.{ℕ, ◌+◌, ◌-◌, Bool, cond, not, ◌&&◌, List, [], ◌∷◌, ◌++◌, eqb, leb, ltb, length, take, drop, replicate, Result, Ok, Err}
use Rattle.common.specs.Answers.{Answer, refused, success}
use Rattle.common.specs.Refusal.{number}
use Rattle.common.specs.Refusals.{Row, row, first_refusal, unless_refused}
use Rattle.common.specs.declared.refusal.Refusal.{Refusal}
use Rattle.numbers.specs.LittleEndian.{le_bytes}
use Rattle.sections.specs.Types.{compression, guid_defined, common_header, type_info}
use Rattle.sections.specs.Header.{is_pi, largest_field, long_header}
use Rattle.sections.specs.Walk.{aligned, stream_limit}
use Rattle.sections.specs.declared.header.Mode.{Mode}

-- the size of a leaf with a body of m bytes and a short header
abbrev pub short_size : ℕ → ℕ
short_size m = common_header + m

-- "appending writes one [a long header] exactly when the size with a short header would reach 16,777,215"
unfoldable pub needs_long : Mode → ℕ → Bool
needs_long mode m = is_pi mode && leb largest_field (short_size m)

-- the length of the header that is written, and the size with it
unfoldable pub leaf_header : Mode → ℕ → ℕ
leaf_header mode m = cond (needs_long mode m) long_header common_header

abbrev pub leaf_size : Mode → ℕ → ℕ
leaf_size mode m = leaf_header mode m + m

-- the used count after appending a body of m bytes
abbrev pub used_after : Mode → (used m : ℕ) → ℕ
used_after mode used m = aligned used + leaf_size mode m

-- the refusals, in order; 202, a size below the type's least, is a free-form GUID body under 16 bytes, since 2 comes before it. 206 is
-- "size over 16,777,215 or new stream over the limit"; "in the new mode 206 at appending stands for the stream limit alone"
unfoldable pub append_refusals : Mode → (room used section_type m : ℕ) → List Row
append_refusals mode room used section_type m =
    row (eqb section_type compression) 2
    ∷ row (eqb section_type guid_defined) 2
    ∷ row (ltb room used) 2
    ∷ row (ltb (short_size m) (type_info section_type).least) 202
    ∷ row (not (is_pi mode) && ltb largest_field (short_size m)) 206
    ∷ row (ltb (stream_limit mode) (used_after mode used m)) 206
    ∷ row (ltb room (used_after mode used m)) 5
    ∷ []

-- "the answer is the new used count"
unfoldable pub append_of : Mode → (room used section_type m : ℕ) → Answer
append_of mode room used section_type m =
    unless_refused refused (first_refusal (append_refusals mode room used section_type m)) (success (used_after mode used m ∷ []))

-- the header of a leaf, of `header` bytes, 4 or 8: the 24-bit size and the type; in a long one FF FF FF, the type and the 32-bit size
unfoldable pub leaf_start : (header section_type m : ℕ) → List ℕ
leaf_start header section_type m =
    cond (eqb header long_header) (le_bytes 3 largest_field ++ section_type ∷ le_bytes 4 (header + m)) (le_bytes 3 (header + m) ++ section_type ∷ [])

-- "padding, header and body of a leaf after the used bytes"
unfoldable pub added_with : (header used section_type : ℕ) → (body : List ℕ) → List ℕ
added_with header used section_type body = replicate (aligned used - used) 0 ++ (leaf_start header section_type (length body) ++ body)

abbrev pub added : Mode → (used section_type : ℕ) → (body : List ℕ) → List ℕ
added mode used section_type body = added_with (leaf_header mode (length body)) used section_type body

-- the buffer afterwards: "all other bytes stay", and on a refusal all of them
unfoldable pub buffer_after : Mode → (buffer : List ℕ) → (used section_type : ℕ) → (body : List ℕ) → List ℕ
buffer_after mode buffer used section_type body =
    unless_refused (λ n. buffer) (first_refusal (append_refusals mode (length buffer) used section_type (length body)))
    (take used buffer ++ added mode used section_type body ++ drop (used_after mode used (length body)) buffer)

-- what the code answers: the new used count, or the refusal
abbrev pub appended_answer : Result ℕ Refusal → Answer
appended_answer (Ok count) = success (count ∷ [])
appended_answer (Err e) = refused (number e)
