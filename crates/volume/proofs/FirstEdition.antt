-- Edition 1 answers as before request a (02). The definitions of that time stand here word for word, each with ₁ behind its name, and each law says that of edition 1 today's
-- definition is the old one: rule 108, rule 111 (where the first protected block, which came with request j, is not past the number of blocks), opening's answer and state, the header's bytes and
-- writing. A state of today without its edition and its first protected block is a state of that time.
use Rattle.std.proofs.Common.{◌≡◌, ℕ, ◌-◌, ◌*◌, ◌%◌, ◌≤◌, Bool, true, false, not, ◌&&◌, ◌||◌, eqb, ltb, List, [], ◌∷◌, ◌++◌, map, length, take, drop, replicate, refl, ◌∙◌, le-ltb, ne_eqb, eqb-true}
use mathlib.Core.Bool.{or-false}
use mathlib.Core.Option.{Option, none, some}
use Rattle.common.specs.Answers.{Answer, refused, success}
use Rattle.common.specs.Refusals.{Row, row, first_refusal, unless_refused, any}
use Rattle.numbers.specs.LittleEndian.{le, le_bytes}
use Rattle.volume.specs.Attributes.{known_edition, flag, alignment_cap, alignments, attributes_fault, base_fault}
use Rattle.volume.specs.BlockMap.{entry_length, header_length, blocks, has_zero, all_zero, size_fault}
use Rattle.volume.specs.ExtendedHeader.{ext_offset}
use Rattle.volume.specs.Header.{guid_at, length_at, signature_at, signature, attributes_at, revision_at, map_start, min_header, header_length_at, entries_of, words_at}
use Rattle.volume.specs.Header.{header_length_fault, word_modulus, word_sum, map_fault, state_at, open_refusals, opens, opened, open_volume}
use Rattle.volume.specs.HeaderWriter.{pairs, words_bytes, words_fault, header_front, header_back, header_with, header_bytes, checksum, HeaderWritten, wrote, write_refusals, write_header}
use Rattle.volume.specs.State.{map_of, state_of, state_with, zero_state, unlawful}
use Rattle.volume.specs.declared.state.State.{State}
use Rattle.volume.proofs.extended_header.Entries.{none_due}
use Rattle.volume.proofs.header.Reading.{opened_edition}

-- ---- 108

abbrev pub must_be_zero₁ : List ℕ
must_be_zero₁ = 0x100 ∷ 0x1000 ∷ 0x2000 ∷ 0x4000 ∷ []

abbrev pub attributes_fault₁ : ℕ → Bool
attributes_fault₁ a = any (map (flag a) must_be_zero₁ ++ ((not (flag a alignment_cap) && not (eqb (alignments a) 0)) ∷ []))

pub attributes_as_before : (a : ℕ) → attributes_fault 1 a ≡ attributes_fault₁ a
unfolding attributes_fault
attributes_as_before a = refl

-- ---- the state, and 111

pub record State₁ : Type 0 where
  pub guid : List ℕ
  pub length : ℕ
  pub attributes : ℕ
  pub base : ℕ
  pub entries : ℕ
  pub map : List ℕ

abbrev pub state_with₁ : List ℕ → ℕ → ℕ → ℕ → ℕ → List ℕ → State₁
state_with₁ guid len attributes base n map =
    record { guid = guid; length = len; attributes = attributes; base = base; entries = n; map = map }

abbrev pub state_of₁ : List ℕ → ℕ → ℕ → ℕ → ℕ → List ℕ → State₁
state_of₁ guid len attributes base n words = state_with₁ guid len attributes base n (words ++ replicate (64 - 2 * n) 0)

abbrev pub zero_state₁ : State₁
zero_state₁ = state_of₁ (replicate 16 0) 0 0 0 0 []

abbrev pub map_of₁ : State₁ → List ℕ
map_of₁ st = take (2 * st.entries) st.map

abbrev pub unlawful₁ : State₁ → Bool
unlawful₁ st =
    any
    (has_zero (map_of₁ st)
    ∷ size_fault st.entries (map_of₁ st) st.length
    ∷ attributes_fault₁ st.attributes
    ∷ base_fault st.attributes st.base
    ∷ not (all_zero (drop (2 * st.entries) st.map))
    ∷ [])

-- a state without its edition and its first protected block
abbrev pub former : State → State₁
former st = state_with₁ st.guid st.length st.attributes st.base st.entries st.map

pub unlawful_as_before : (st : State) → st.edition ≡ 1 → st.protected ≤ blocks (map_of st) → unlawful st ≡ unlawful₁ (former st)
unfolding unlawful map_of any known_edition
unlawful_as_before st e p = rw (e, attributes_as_before st.attributes, le-ltb (blocks (map_of st)) st.protected p)

-- ---- opening, of every byte string whose revision is not 2

abbrev revision₁ : ℕ
revision₁ = 1

abbrev state_at₁ : List ℕ → ℕ → State₁
state_at₁ s base =
    let n = entries_of (header_length_at s) in
    state_of₁ (guid_at s) (length_at s) (attributes_at s) base n (words_at (2 * n) s map_start)

abbrev map_fault₁ : List ℕ → State₁ → Bool
map_fault₁ s st = has_zero (map_of₁ st) || not (eqb (le 8 s (header_length_at s - entry_length)) 0)

abbrev open_refusals₁ : List ℕ → State₁ → List Row
open_refusals₁ s st =
    row (ltb (length s) min_header) 101
    ∷ row (not (eqb (signature_at s) signature)) 102
    ∷ row (not (eqb (revision_at s) revision₁)) 103
    ∷ row (header_length_fault (header_length_at s) (length s)) 104
    ∷ row (not (eqb (word_sum (take (header_length_at s) s) % word_modulus) 0)) 105
    ∷ row (map_fault₁ s st) 106
    ∷ row (size_fault st.entries (map_of₁ st) st.length) 107
    ∷ row (attributes_fault₁ st.attributes) 108
    ∷ row (ltb (length s) st.length) 109
    ∷ row (base_fault st.attributes st.base) 110
    ∷ []

pub record Opens₁ : Type 0 where
  pub answer : Answer
  pub state : State₁

abbrev opens₁ : Answer → State₁ → Opens₁
opens₁ answer st = record { answer = answer; state = st }

abbrev opened₁ : State₁ → Opens₁
opened₁ st = opens₁ (success []) st

abbrev pub open_volume₁ : List ℕ → ℕ → Opens₁
open_volume₁ s base =
    let st = state_at₁ s base in
    unless_refused (λ n. opens₁ (refused n) zero_state₁) (first_refusal (open_refusals₁ s st)) (opened₁ st)

rows_as_before : (s : List ℕ) (base : ℕ) → (revision_at s ≡ 2 → ⊥)
    → first_refusal (open_refusals s (state_at s base)) ≡ first_refusal (open_refusals₁ s (state_at₁ s base))
unfolding open_refusals map_fault map_of first_refusal known_edition attributes_fault ext_offset state_at state_of state_with
rows_as_before s base other = go (eqb (revision_at s) 1) refl
  where
    go : (t : Bool) → eqb (revision_at s) 1 ≡ t → first_refusal (open_refusals s (state_at s base)) ≡ first_refusal (open_refusals₁ s (state_at₁ s base))
    go true e = let r = eqb-true (revision_at s) 1 e in rw (r, none_due s (header_length_at s) (length_at s))
    go false e = rw (e, ne_eqb (revision_at s) 2 other)

-- the answer and the state are as before
pub opening_as_before : (s : List ℕ) (base : ℕ) → (revision_at s ≡ 2 → ⊥)
    → ((open_volume s base).answer ≡ (open_volume₁ s base).answer) × (former (open_volume s base).state ≡ (open_volume₁ s base).state)
unfolding open_volume state_at zero_state state_of state_with
opening_as_before s base other = rw (rows_as_before s base other) (go (first_refusal (open_refusals₁ s (state_at₁ s base))))
  where
    go : (o : Option ℕ)
        → ((unless_refused (λ n. opens (refused n) zero_state) o (opened (state_at s base))).answer
        ≡ (unless_refused (λ n. opens₁ (refused n) zero_state₁) o (opened₁ (state_at₁ s base))).answer)
        × (former (unless_refused (λ n. opens (refused n) zero_state) o (opened (state_at s base))).state
        ≡ (unless_refused (λ n. opens₁ (refused n) zero_state₁) o (opened₁ (state_at₁ s base))).state)
    go none = (refl, refl)
    go (some n) = (refl, refl)

-- and a state that is answered with success has edition 1 beside it
pub opened_first : (s : List ℕ) (base : ℕ) → (open_volume s base).answer ≡ success [] → (revision_at s ≡ 2 → ⊥) → (open_volume s base).state.edition ≡ 1
unfolding known_edition
opened_first s base h other =
    let e = opened_edition s base h in
    let one : eqb (revision_at s) 1 ≡ true = rw (ne_eqb (revision_at s) 2 other, or-false) at e.1 in
    e.0 ∙ eqb-true (revision_at s) 1 one

-- ---- writing

abbrev reserved_and_revision₁ : List ℕ
reserved_and_revision₁ = 0 ∷ 0 ∷ 0 ∷ revision₁ ∷ []

abbrev header_with₁ : ℕ → List ℕ → ℕ → ℕ → List ℕ → List ℕ
header_with₁ check guid len attributes words =
    header_front guid len attributes (header_length (pairs words)) ++ (le_bytes 2 check ++ (reserved_and_revision₁ ++ (words_bytes words ++ replicate 8 0)))

abbrev header_bytes₁ : List ℕ → ℕ → ℕ → List ℕ → List ℕ
header_bytes₁ guid len attributes words = header_with₁ (checksum (word_sum (header_with₁ 0 guid len attributes words))) guid len attributes words

abbrev write_refusals₁ : ℕ → ℕ → List ℕ → ℕ → List Row
write_refusals₁ len attributes words room =
    row (words_fault words) 106
    ∷ row (size_fault (pairs words) words len) 107
    ∷ row (attributes_fault₁ attributes) 108
    ∷ row (ltb room (header_length (pairs words))) 5
    ∷ []

abbrev pub write_header₁ : List ℕ → ℕ → ℕ → List ℕ → List ℕ → HeaderWritten
write_header₁ guid len attributes words room =
    let header = header_bytes₁ guid len attributes words in
    unless_refused (λ n. wrote (refused n) room) (first_refusal (write_refusals₁ len attributes words (length room)))
    (wrote (success (length header ∷ [])) (header ++ drop (length header) room))

pub writing_as_before : (guid : List ℕ) (len a : ℕ) (words room : List ℕ) → write_header 1 0 guid len a words room ≡ write_header₁ guid len a words room
unfolding write_header write_refusals header_bytes header_with header_back le_bytes attributes_fault
writing_as_before guid len a words room = refl
