-- Laws of header writing: the stores that make a header, the checksum, and the header's length.
use Rattle.std.proofs.Common.{◌≡◌, ℕ, suc, ◌+◌, ◌*◌, ◌/◌, ◌%◌, ◌<◌, ◌≤◌, List, [], ◌∷◌, ◌++◌, length, get_or, drop, replicate, sym, refl, ap, ◌∙◌, append_assoc, add-one, arith, length-append, drop_of_length-le, drop-cons}
use mathlib.Core.Option.{none, some}
use lib.ListN.{length-replicate}
use lib.Seq.{sets}
use Rattle.common.specs.Answers.{refused, success}
use Rattle.common.specs.Refusals.{first_refusal}
use Rattle.common.proofs.Lists.{sets-append, sets_over, sets_front}
use Rattle.numbers.specs.LittleEndian.{le_bytes}
use Rattle.numbers.proofs.LittleEndian.{length-le_bytes}
use Rattle.volume.specs.BlockMap.{header_length}
use Rattle.volume.specs.Header.{signature, word_sum}
use Rattle.volume.specs.HeaderWriter.{words_bytes, header_front, header_with, header_back, header_bytes, checksum, write_refusals, wrote, write_header}

-- the stores of map words from place i on: the word there and then the rest, or only what follows the map
pub words_next : (m r z : List ℕ) (at i : ℕ) → i < length m
    → sets r (at + 4 * i) (words_bytes (drop i m) ++ z)
    ≡ sets (sets r (at + 4 * i) (le_bytes 4 (get_or m i 0))) (at + 4 * (i + 1)) (words_bytes (drop (i + 1) m) ++ z)
unfolding words_bytes
words_next m r z at i h =
    let e : at + 4 * (i + 1) ≡ at + 4 * i + 4 = omega arith in
    rw (
      e,
      drop-cons m i 0 h,
      add-one,
      append_assoc (le_bytes 4 (get_or m i 0)) (words_bytes (drop (suc i) m)) z,
      sets-append (le_bytes 4 (get_or m i 0)) (words_bytes (drop (suc i) m) ++ z) r (at + 4 * i),
      length-le_bytes 4 (get_or m i 0),
    )

pub words_end : (m r z : List ℕ) (at i : ℕ) → length m ≤ i → sets r at (words_bytes (drop i m) ++ z) ≡ sets r at z
unfolding words_bytes
words_end m r z at i h = rw (drop_of_length-le m {i = i} h)

-- eight stores in a row, of the fields with 0 for the checksum, are the header's first 52 bytes
module _ (r guid : List ℕ) (len a h : ℕ) (sixteen : length guid ≡ 16) where
  pub fields_stored : (r1 r2 r3 r4 r5 r6 r7 r8 : List ℕ) → r1 ≡ sets r 0 (le_bytes 8 0) → r2 ≡ sets r1 8 (le_bytes 8 0) → r3 ≡ sets r2 16 guid
      → r4 ≡ sets r3 32 (le_bytes 8 len) → r5 ≡ sets r4 40 (le_bytes 4 signature) → r6 ≡ sets r5 44 (le_bytes 4 a) → r7 ≡ sets r6 48 (le_bytes 2 h)
      → r8 ≡ sets r7 50 (le_bytes 2 0)
      → r8 ≡ sets r 0 (header_front guid len a h ++ le_bytes 2 0)
  unfolding header_front le_bytes
  fields_stored r1 r2 r3 r4 r5 r6 r7 r8 e1 e2 e3 e4 e5 e6 e7 e8 =
      let z : List ℕ = sets r 0 (replicate 16 0) in
      let x : List ℕ = le_bytes 8 len ++ (le_bytes 4 signature ++ (le_bytes 4 a ++ le_bytes 2 h)) in
      let y : List ℕ = le_bytes 2 0 in
      rw (e8, e7, e6, e5, e4, e3, e2, e1)
      (sym
      (ap (λ (l : List ℕ). sets z 16 l) (append_assoc guid x y)
      ∙ sets-append guid (x ++ y) z 16
      ∙ ap (λ (k : ℕ). sets (sets z 16 guid) (16 + k) (x ++ y)) sixteen))

-- and three more the 4 bytes behind them
pub back_stored : (r : List ℕ) (edition offset : ℕ) (r1 r2 r3 : List ℕ) → r1 ≡ sets r 52 (le_bytes 2 offset) → r2 ≡ sets r1 54 (le_bytes 1 0)
    → r3 ≡ sets r2 55 (le_bytes 1 edition) → r3 ≡ sets r 52 (header_back edition offset)
unfolding header_back le_bytes
back_stored r edition offset r1 r2 r3 e1 e2 e3 = rw (e3, e2, e1)

-- ---- the header's length

pub length-words_bytes : (m : List ℕ) → length (words_bytes m) ≡ 4 * length m
unfolding words_bytes
length-words_bytes [] = refl
length-words_bytes (w ∷ m) = rw (length-append (le_bytes 4 w) (words_bytes m), length-le_bytes 4 w, length-words_bytes m) (omega arith)

pub length_front : (guid : List ℕ) (len a h : ℕ) → length guid ≡ 16 → length (header_front guid len a h) ≡ 50
unfolding header_front
length_front guid len a h e = simp (length-append, length-replicate, length-le_bytes, e)

pub length_back : (edition offset : ℕ) → length (header_back edition offset) ≡ 4
unfolding header_back
length_back edition offset = simp (length-append, length-le_bytes)

pub length_header : (sum edition offset : ℕ) (guid : List ℕ) (len a : ℕ) (words : List ℕ) → length guid ≡ 16 → length words % 2 ≡ 0
    → length (header_with sum edition offset guid len a words) ≡ 64 + 8 * (length words / 2)
unfolding header_with
length_header sum edition offset guid len a words e even =
    simp (length-append, length-le_bytes, length_back, length_front guid len a (header_length (length words / 2)) e, length-words_bytes) (omega arith)

-- ---- what the stores make

-- fields, what is behind them, then map: the header with 0 for its checksum, and the rest of the room
pub header_stored : (r : List ℕ) (edition offset : ℕ) (guid : List ℕ) (len a : ℕ) (words : List ℕ) → length guid ≡ 16 → length words % 2 ≡ 0
    → 64 + 8 * (length words / 2) ≤ length r
    → sets (sets (sets r 0 (header_front guid len a (header_length (length words / 2)) ++ le_bytes 2 0)) 52 (header_back edition offset)) 56 (words_bytes words ++ replicate 8 0)
    ≡ header_with 0 edition offset guid len a words ++ drop (64 + 8 * (length words / 2)) r
unfolding header_with
header_stored r edition offset guid len a words e even fits =
    let f : List ℕ = header_front guid len a (header_length (length words / 2)) in
    let z : List ℕ = le_bytes 2 0 in
    let y : List ℕ = header_back edition offset in
    let m : List ℕ = words_bytes words ++ replicate 8 0 in
    let fifty-two : 0 + length (f ++ z) ≡ 52 = simp (length-append, length-le_bytes, length_front guid len a (header_length (length words / 2)) e) in
    let fifty-six : 52 + length y ≡ 56 = simp (length_back edition offset) in
    let whole = length_header 0 edition offset guid len a words e even in
    sym (sets-append (f ++ z) (y ++ m) r 0
    ∙ ap (λ (k : ℕ). sets (sets r 0 (f ++ z)) k (y ++ m)) fifty-two
    ∙ sets-append y m (sets r 0 (f ++ z)) 52
    ∙ ap (λ (k : ℕ). sets (sets (sets r 0 (f ++ z)) 52 y) k m) fifty-six)
    ∙ ap (λ (l : List ℕ). sets r 0 l) (append_assoc f z (y ++ m))
    ∙ sets_front (header_with 0 edition offset guid len a words) r (omega arith)
    ∙ ap (λ (k : ℕ). header_with 0 edition offset guid len a words ++ drop k r) whole

-- then the checksum
pub checksum-stored : (sum edition offset : ℕ) (guid : List ℕ) (len a : ℕ) (words rest : List ℕ) → length guid ≡ 16
    → sets (header_with 0 edition offset guid len a words ++ rest) 50 (le_bytes 2 sum) ≡ header_with sum edition offset guid len a words ++ rest
unfolding header_with
checksum-stored sum edition offset guid len a words rest e =
    let f : List ℕ = header_front guid len a (header_length (length words / 2)) in
    let b : List ℕ = header_back edition offset ++ (words_bytes words ++ replicate 8 0) in
    let same : length (le_bytes 2 0) ≡ length (le_bytes 2 sum) = length-le_bytes 2 0 ∙ sym (length-le_bytes 2 sum) in
    let regroup : (x : List ℕ) → (f ++ (x ++ b)) ++ rest ≡ f ++ (x ++ (b ++ rest)) = λ x. append_assoc f (x ++ b) rest ∙ ap (λ (l : List ℕ). f ++ l) (append_assoc x b rest) in
    ap (λ (l : List ℕ). sets l 50 (le_bytes 2 sum)) (regroup (le_bytes 2 0))
    ∙ ap (λ (k : ℕ). sets (f ++ (le_bytes 2 0 ++ (b ++ rest))) k (le_bytes 2 sum)) (sym (length_front guid len a (header_length (length words / 2)) e))
    ∙ sets_over f (le_bytes 2 0) (le_bytes 2 sum) (b ++ rest) same
    ∙ sym (regroup (le_bytes 2 sum))

-- ---- the answers

module _ (edition offset : ℕ) (guid : List ℕ) (len a : ℕ) (words room : List ℕ) where
  -- a refusal leaves the room
  pub write_refused : (n : ℕ) → first_refusal (write_refusals edition len a words (length room)) ≡ some n
      → wrote (refused n) room ≡ write_header edition offset guid len a words room
  unfolding write_header
  write_refused n e = rw e

  -- success stores the header
  pub write_done : length guid ≡ 16 → length words % 2 ≡ 0 → first_refusal (write_refusals edition len a words (length room)) ≡ none
      → wrote (success (header_length (length words / 2) ∷ [])) (header_bytes edition offset guid len a words ++ drop (header_length (length words / 2)) room)
      ≡ write_header edition offset guid len a words room
  unfolding write_header header_bytes
  write_done g even e = rw (e, length_header (checksum (word_sum (header_with 0 edition offset guid len a words))) edition offset guid len a words g even)
