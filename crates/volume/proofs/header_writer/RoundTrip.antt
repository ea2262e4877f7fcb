-- The round trip: a written header's words sum to 0 modulo 65,536, and a volume that starts with it opens to what was written.
use Rattle.std.proofs.Common.{◌≡◌, ℕ, suc, ◌+◌, ◌-◌, ◌*◌, ◌/◌, ◌%◌, ◌^◌, ◌<◌, ◌≤◌, Bool, true, false, not, ◌||◌, eqb, List, [], ◌∷◌, ◌++◌, length, get_or, take, drop, replicate, sym, refl, ap, ◌∙◌, subst, ap₂, true≢false, append_assoc, arith, lit<, length-append, take-append-drop, take_at, eqb-true}
use mathlib.Core.Option.{Option, none, some}
use Rattle.common.specs.Answers.{refused, success}
use Rattle.common.specs.Refusals.{first_refusal, unless_refused}
use Rattle.common.proofs.Refusals.{row-passed}
use Rattle.numbers.specs.LittleEndian.{le, le_bytes}
use Rattle.numbers.proofs.LittleEndian.{le_skip, le-le_bytes, length-le_bytes}
use Rattle.volume.specs.Attributes.{known_edition, attributes_fault, base_fault}
use Rattle.volume.specs.BlockMap.{header_length, has_zero, size_fault}
use Rattle.volume.specs.ExtendedHeader.{ext_offset, ext_fault}
use Rattle.volume.specs.State.{state_of, zero_state}
use Rattle.volume.specs.Header.{signature, header_length_at, opens, opened, word_modulus, words_at, word_sum, open_volume}
use Rattle.volume.specs.HeaderWriter.{pairs, words_bytes, header_front, header_with, header_back, header_bytes, checksum, words_fault, write_refusals, HeaderWritten, wrote, write_header}
use Rattle.volume.proofs.block_map.Words.{Sized, size_passed}
use Rattle.volume.proofs.header.Sums.{word_sum-append, word_sum_two}
use Rattle.volume.proofs.header_writer.Stores.{length-words_bytes, length_front, length_back, length_header}
use Rattle.volume.proofs.extended_header.Entries.{none_due, no_offset}
use Rattle.volume.proofs.header.Reading.{Holds, opens_to, refused_112}

-- ---- the sum

-- the words of a header with some checksum sum to those of the header with 0 and the checksum
word_sum_header : (c edition offset : ℕ) (guid : List ℕ) (len a : ℕ) (words : List ℕ) → length guid ≡ 16 → c < word_modulus
    → word_sum (header_with c edition offset guid len a words) ≡ word_sum (header_with 0 edition offset guid len a words) + c
unfolding header_with
word_sum_header c edition offset guid len a words e small =
    let f = header_front guid len a (header_length (length words / 2)) in
    let b = header_back edition offset ++ (words_bytes words ++ replicate 8 0) in
    let even : length f % 2 ≡ 0 = rw (length_front guid len a (header_length (length words / 2)) e) in
    rw (word_sum-append f (le_bytes 2 c ++ b) even, word_sum-append f (le_bytes 2 0 ++ b) even, word_sum_two c b, word_sum_two 0 b) (omega arith)

-- the words of a written header sum to 0 modulo 65,536
sum_zero : (edition offset : ℕ) (guid : List ℕ) (len a : ℕ) (words : List ℕ) → length guid ≡ 16 → word_sum (header_bytes edition offset guid len a words) % word_modulus ≡ 0
unfolding header_bytes
sum_zero edition offset guid len a words e =
    let s = word_sum (header_with 0 edition offset guid len a words) in
    rw (word_sum_header (checksum s) edition offset guid len a words e (omega arith)) (omega arith)

-- ---- reading a written header

-- a number that stands after p
le-after : (n : ℕ) (p q : List ℕ) (at k : ℕ) → length p + k ≡ at → le n (p ++ q) at ≡ le n q k
le-after n p q at k e = ap (λ (x : ℕ). le n (p ++ q) x) (sym e) ∙ le_skip n p q k

-- the words of a map that stands after p
pub words_read : (words p q : List ℕ) → ((i : ℕ) → get_or words i 0 < 2 ^ 32) → words_at (length words) (p ++ (words_bytes words ++ q)) (length p) ≡ words
unfolding words_at words_bytes
words_read [] p q below = refl
words_read (w ∷ words) p q below =
    let b = words_bytes words in
    let front : le 4 (p ++ ((le_bytes 4 w ++ b) ++ q)) (length p) ≡ w =
    le-after 4 p ((le_bytes 4 w ++ b) ++ q) (length p) 0 (omega arith)
    ∙ ap (λ (l : List ℕ). le 4 l 0) (append_assoc (le_bytes 4 w) b q)
    ∙ le-le_bytes 4 w (b ++ q) (below 0) in
    let there : p ++ ((le_bytes 4 w ++ b) ++ q) ≡ (p ++ le_bytes 4 w) ++ (b ++ q) =
    ap (λ (l : List ℕ). p ++ l) (append_assoc (le_bytes 4 w) b q) ∙ sym (append_assoc p (le_bytes 4 w) (b ++ q)) in
    let past : length p + 4 ≡ length (p ++ le_bytes 4 w) = sym (length-append p (le_bytes 4 w) ∙ ap (λ (k : ℕ). length p + k) (length-le_bytes 4 w)) in
    ap₂ (λ (x : ℕ) (l : List ℕ). x ∷ l) front
    (ap₂ (λ (l : List ℕ) (k : ℕ). words_at (length words) l k) there past ∙ words_read words (p ++ le_bytes 4 w) q (λ i. below (suc i)))

-- the header, its parts in a row, and what follows it
header_parts : (c edition offset : ℕ) (guid : List ℕ) (len a : ℕ) (words rest : List ℕ)
    → header_with c edition offset guid len a words ++ rest
    ≡ replicate 16 0 ++ (guid ++ (le_bytes 8 len ++ (le_bytes 4 signature ++ (le_bytes 4 a ++ (le_bytes 2 (header_length (length words / 2))
    ++ (le_bytes 2 c ++ (header_back edition offset ++ (words_bytes words ++ (replicate 8 0 ++ rest)))))))))
unfolding header_with header_front
header_parts c edition offset guid len a words rest = simp append_assoc

-- what a volume that starts with a header holds
module _ (edition offset : ℕ) (guid : List ℕ) (len a : ℕ) (words rest : List ℕ) (c : ℕ) (one_byte : edition < 256) (two_bytes : offset < 2 ^ 16) (g : length guid ≡ 16) (even : length words % 2 ≡ 0) (small : a < 2 ^ 32)
    (below : (i : ℕ) → get_or words i 0 < 2 ^ 32) (size : Sized (length words / 2) words len)
    (sum : word_sum (header_with c edition offset guid len a words) % word_modulus ≡ 0) where
  n : ℕ
  n = length words / 2

  v : List ℕ
  v = header_with c edition offset guid len a words ++ rest

  tail : List ℕ
  tail = words_bytes words ++ (replicate 8 0 ++ rest)

  t50 : List ℕ
  unfolding tail
  t50 = le_bytes 2 c ++ (header_back edition offset ++ tail)

  t48 : List ℕ
  unfolding t50
  t48 = le_bytes 2 (header_length n) ++ t50

  t44 : List ℕ
  t44 = le_bytes 4 a ++ t48

  t40 : List ℕ
  t40 = le_bytes 4 signature ++ t44

  t32 : List ℕ
  t32 = le_bytes 8 len ++ t40

  parts : v ≡ replicate 16 0 ++ (guid ++ t32)
  unfolding v t32 t40 t44 t48 t50 tail n
  parts = header_parts c edition offset guid len a words rest

  -- a number at byte 32 + k is one at byte k of the fields after the GUID
  after_guid : (m k : ℕ) → le m v (32 + k) ≡ le m t32 k
  after_guid m k =
      ap (λ (l : List ℕ). le m l (32 + k)) parts
      ∙ le-after m (replicate 16 0) (guid ++ t32) (32 + k) (16 + k) (omega arith)
      ∙ le-after m guid t32 (16 + k) k (omega arith)

  -- and so past one field more: from the fields that start at byte p to those after the first of them, w bytes long
  after-field : (p w : ℕ) (f t : List ℕ) → length f ≡ w → ((m k : ℕ) → le m v (p + k) ≡ le m (f ++ t) k) → (m k : ℕ) → le m v (p + w + k) ≡ le m t k
  after-field p w f t e at_field m k =
      let q : p + w + k ≡ p + (w + k) = omega arith in
      ap (λ (x : ℕ). le m v x) q ∙ at_field m (w + k) ∙ le-after m f t (w + k) k (ap (λ (x : ℕ). x + k) e)

  after-length : (m k : ℕ) → le m v (40 + k) ≡ le m t40 k
  unfolding t32
  after-length = after-field 32 8 (le_bytes 8 len) t40 (length-le_bytes 8 len) after_guid

  after-signature : (m k : ℕ) → le m v (44 + k) ≡ le m t44 k
  unfolding t40
  after-signature = after-field 40 4 (le_bytes 4 signature) t44 (length-le_bytes 4 signature) after-length

  after-attributes : (m k : ℕ) → le m v (48 + k) ≡ le m t48 k
  unfolding t44
  after-attributes = after-field 44 4 (le_bytes 4 a) t48 (length-le_bytes 4 a) after-signature

  after-header_length : (m k : ℕ) → le m v (50 + k) ≡ le m t50 k
  unfolding t48
  after-header_length = after-field 48 2 (le_bytes 2 (header_length n)) t50 (length-le_bytes 2 (header_length n)) after-attributes

  length_read : le 8 v 32 ≡ len
  unfolding t32
  length_read = after_guid 8 0 ∙ le-le_bytes 8 len t40 (omega arith)

  signature_read : le 4 v 40 ≡ signature
  unfolding t40
  signature_read = after-length 4 0 ∙ le-le_bytes 4 signature t44 (lit< tt)

  attributes_read : le 4 v 44 ≡ a
  unfolding t44
  attributes_read = after-signature 4 0 ∙ le-le_bytes 4 a t48 small

  header_length_read : header_length_at v ≡ 64 + 8 * n
  unfolding t48 n
  header_length_read = after-attributes 2 0 ∙ le-le_bytes 2 (header_length n) t50 (omega arith)

  t52 : List ℕ
  t52 = header_back edition offset ++ tail

  after-checksum : (m k : ℕ) → le m v (52 + k) ≡ le m t52 k
  unfolding t50 t52
  after-checksum = after-field 50 2 (le_bytes 2 c) (header_back edition offset ++ tail) (length-le_bytes 2 c) after-header_length

  offset_read : le 2 v 52 ≡ offset
  unfolding t52 header_back
  offset_read =
      after-checksum 2 0 ∙ ap (λ (l : List ℕ). le 2 l 0) (append_assoc (le_bytes 2 offset) (le_bytes 1 0 ++ le_bytes 1 edition) tail)
      ∙ le-le_bytes 2 offset ((le_bytes 1 0 ++ le_bytes 1 edition) ++ tail) two_bytes

  revision_read : get_or v 55 0 ≡ edition
  unfolding t52 header_back le_bytes le
  revision_read = let one = after-checksum 1 3 in omega arith

  guid_read : take 16 (drop 16 v) ≡ guid
  guid_read = ap (λ (l : List ℕ). take 16 (drop 16 l)) parts ∙ take_at guid t32 16 g

  -- the bytes before the map
  before_map : List ℕ
  before_map = header_front guid len a (header_length n) ++ (le_bytes 2 c ++ header_back edition offset)

  length_before_map : length before_map ≡ 56
  unfolding before_map
  length_before_map = simp (length-append, length-le_bytes, length_back, length_front guid len a (header_length n) g)

  map-after : v ≡ before_map ++ (words_bytes words ++ (replicate 8 0 ++ rest))
  unfolding v before_map header_with n
  map-after = simp append_assoc

  map_read : words_at (2 * n) v 56 ≡ words
  unfolding n
  map_read =
      let e : 2 * n ≡ length words = omega arith in
      rw (e, map-after, ← length_before_map) (words_read words before_map (replicate 8 0 ++ rest) below)

  closing_read : le 8 v (64 + 8 * n - 8) ≡ 0
  unfolding n le
  closing_read =
      let there : length (before_map ++ words_bytes words) + 0 ≡ 64 + 8 * n - 8 = simp (length-append, length_before_map, length-words_bytes) (omega arith) in
      ap (λ (l : List ℕ). le 8 l (64 + 8 * n - 8)) (map-after ∙ sym (append_assoc before_map (words_bytes words) (replicate 8 0 ++ rest)))
      ∙ le-after 8 (before_map ++ words_bytes words) (replicate 8 0 ++ rest) (64 + 8 * n - 8) 0 there

  sum_read : word_sum (take (64 + 8 * n) v) % word_modulus ≡ 0
  unfolding v n
  sum_read = rw (take_at (header_with c edition offset guid len a words) rest (64 + 8 * n) (length_header c edition offset guid len a words g even)) sum

  pub holds : len ≤ length (header_with c edition offset guid len a words ++ rest) → Holds (header_with c edition offset guid len a words ++ rest) guid len a edition (length words / 2) words
  unfolding v n
  holds lent =
      record {
        lent = lent;
        signed = signature_read;
        revised = revision_read;
        header = header_length_read;
        summed = sum_read;
        guid_there = guid_read;
        length_there = length_read;
        attributes_there = attributes_read;
        map_there = map_read;
        closed = closing_read;
      }

-- ---- the theorem

-- an accepted request: what its rows say
words_passed : (words : List ℕ) → words_fault words ≡ false → (has_zero words ≡ false) × (length words % 2 ≡ 0)
unfolding words_fault
words_passed words = go (has_zero words) (eqb (length words % 2) 0) refl
  where
    go : (z e : Bool) → eqb (length words % 2) 0 ≡ e → (z || not e) ≡ false → (z ≡ false) × (length words % 2 ≡ 0)
    go true e q p = absurd (true≢false p)
    go false true q p = (refl, eqb-true (length words % 2) 0 q)
    go false false q p = absurd (true≢false p)

record Accepted (edition len a : ℕ) (words : List ℕ) : Type 0 where
  pub nonzero : has_zero words ≡ false
  pub even : length words % 2 ≡ 0
  pub size : size_fault (length words / 2) words len ≡ false
  pub attributes : attributes_fault edition a ≡ false

accepted : (edition len a : ℕ) (words : List ℕ) (room : ℕ) → first_refusal (write_refusals edition len a words room) ≡ none → Accepted edition len a words
unfolding write_refusals
accepted edition len a words room p =
    let r1 = row-passed _ _ p in
    let r2 = row-passed _ _ r1.1 in
    let r3 = row-passed _ _ r2.1 in
    let w = words_passed words r1.0 in
    record { nonzero = w.0; even = w.1; size = r2.0; attributes = r3.0 }

-- a writing that succeeded passed its table, and the room starts with the header, k bytes long
record Done (edition offset : ℕ) (guid : List ℕ) (len a : ℕ) (words room : List ℕ) (k : ℕ) : Type 0 where
  pub passed : first_refusal (write_refusals edition len a words (length room)) ≡ none
  pub long : length (header_bytes edition offset guid len a words) ≡ k
  pub front : take k (write_header edition offset guid len a words room).room ≡ header_bytes edition offset guid len a words

was_done : (edition offset : ℕ) (guid : List ℕ) (len a : ℕ) (words room : List ℕ) (k : ℕ) → (write_header edition offset guid len a words room).answer ≡ success (k ∷ [])
    → Done edition offset guid len a words room k
unfolding write_header
was_done edition offset guid len a words room k done = go (first_refusal (write_refusals edition len a words (length room))) refl done
  where
    header : List ℕ
    header = header_bytes edition offset guid len a words

    outcome : Option ℕ → HeaderWritten
    outcome o = unless_refused (λ n. wrote (refused n) room) o (wrote (success (length header ∷ [])) (header ++ drop (length header) room))

    go : (o : Option ℕ) → first_refusal (write_refusals edition len a words (length room)) ≡ o → (outcome o).answer ≡ success (k ∷ [])
        → Done edition offset guid len a words room k
    go (some m) p w = let z : ◌≡◌ {A = ℕ} 0 1 = cc in absurd (omega arith)
    go none p w = let e : length header ≡ k = cc in record { passed = p; long = e; front = rw p (take_at header (drop (length header) room) k e) }

-- a volume that starts with the header holds its values
module _ (edition offset : ℕ) (known : known_edition edition ≡ true) (one_byte : edition < 256) (two_bytes : offset < 2 ^ 16) (guid : List ℕ) (len a : ℕ)
    (words : List ℕ) (g : length guid ≡ 16) (small : a < 2 ^ 32) (below : (i : ℕ) → get_or words i 0 < 2 ^ 32) where
  header : List ℕ
  header = header_bytes edition offset guid len a words

  module _ (ok : Accepted edition len a words) (rest : List ℕ) (lent : len ≤ length (header ++ rest)) where
    there : Holds (header ++ rest) guid len a edition (length words / 2) words
    unfolding header header_bytes
    there =
        let c = checksum (word_sum (header_with 0 edition offset guid len a words)) in
        holds edition offset guid len a words rest c one_byte two_bytes g ok.even small below (size_passed (length words / 2) words len ok.size)
        (sum_zero edition offset guid len a words g) lent

    offset_there : le 2 (header ++ rest) 52 ≡ offset
    unfolding header header_bytes v
    offset_there =
        let c = checksum (word_sum (header_with 0 edition offset guid len a words)) in
        offset_read edition offset guid len a words rest c one_byte two_bytes g ok.even small below (size_passed (length words / 2) words len ok.size)
        (sum_zero edition offset guid len a words g)

  -- what writing came to, and a volume that starts with it
  module _ (room : List ℕ) (k : ℕ) (done : (write_header edition offset guid len a words room).answer ≡ success (k ∷ [])) (v : List ℕ) (lent : len ≤ length v)
      (starts : take k v ≡ take k (write_header edition offset guid len a words room).room) where
    record Starts : Type 0 where
      pub ok : Accepted edition len a words
      pub long : k ≡ 64 + 8 * (length words / 2)
      pub whole : v ≡ header ++ drop k v

    begins : Starts
    unfolding header header_bytes
    begins =
        let d = was_done edition offset guid len a words room k done in
        let fine = accepted edition len a words (length room) d.passed in
        record {
          ok = fine;
          long = sym d.long ∙ length_header (checksum (word_sum (header_with 0 edition offset guid len a words))) edition offset guid len a words g fine.even;
          whole = sym (take-append-drop k v) ∙ ap (λ (l : List ℕ). l ++ drop k v) (starts ∙ d.front);
        }

    module _ (base : ℕ) (mapped : base_fault a base ≡ false) where
      sound : Holds v guid len a edition (length words / 2) words
      sound =
          let b = begins in
          subst (λ (l : List ℕ). Holds l guid len a edition (length words / 2) words) (sym b.whole)
          (there b.ok (drop k v) (subst (λ (l : List ℕ). len ≤ length l) b.whole lent))

      -- the offset stands in bytes 52 and 53
      pub offset_stored : le 2 v 52 ≡ offset
      offset_stored =
          let b = begins in
          ap (λ (l : List ℕ). le 2 l 52) b.whole ∙ offset_there b.ok (drop k v) (subst (λ (l : List ℕ). len ≤ length l) b.whole lent)

      -- For every argument that writing accepts (a GUID of 16 bytes, 32-bit attributes and words, a 16-bit offset), every volume of that length (or
      -- lent with more bytes after it) that starts with the written header and for which 112 is not due opens, at every base that 110 allows, to the
      -- same GUID, length, attributes, edition, map and that base
      pub written_opens : ext_fault v k len (ext_offset edition v) ≡ false → open_volume v base ≡ opened (state_of guid len a base edition (pairs words) words)
      written_opens ext =
          let b = begins in
          opens_to v guid len a edition (length words / 2) words base sound known b.ok.nonzero b.ok.size b.ok.attributes mapped
          (ap (λ (h : ℕ). ext_fault v h len (ext_offset edition v)) (sym b.long) ∙ ext)

      -- and where it is due it is refused with 112
      pub written_refused : ext_fault v k len (ext_offset edition v) ≡ true → open_volume v base ≡ opens (refused 112) zero_state
      written_refused ext =
          let b = begins in
          refused_112 v guid len a edition (length words / 2) words base sound known b.ok.nonzero b.ok.size b.ok.attributes mapped
          (ap (λ (h : ℕ). ext_fault v h len (ext_offset edition v)) (sym b.long) ∙ ext)

-- the first writer's header: 112 is never due
pub round_trip : (guid : List ℕ) (len a : ℕ) (words room : List ℕ) → length guid ≡ 16 → a < 2 ^ 32 → ((i : ℕ) → get_or words i 0 < 2 ^ 32)
    → (k : ℕ) → (write_header 1 0 guid len a words room).answer ≡ success (k ∷ [])
    → (v : List ℕ) → len ≤ length v → take k v ≡ take k (write_header 1 0 guid len a words room).room
    → (base : ℕ) → base_fault a base ≡ false
    → open_volume v base ≡ opened (state_of guid len a base 1 (pairs words) words)
unfolding known_edition ext_offset
round_trip guid len a words room g small below k done v lent starts base mapped =
    written_opens 1 0 refl (omega arith) (omega arith) guid len a words g small below room k done v lent starts base mapped (sym (no_offset v k len refl))

-- the second's: where 112 is not due, as of offset 0
module _ (offset : ℕ) (two_bytes : offset < 2 ^ 16) (guid : List ℕ) (len a : ℕ) (words room : List ℕ) (g : length guid ≡ 16) (small : a < 2 ^ 32)
    (below : (i : ℕ) → get_or words i 0 < 2 ^ 32) (k : ℕ) (done : (write_header 2 offset guid len a words room).answer ≡ success (k ∷ []))
    (v : List ℕ) (lent : len ≤ length v) (starts : take k v ≡ take k (write_header 2 offset guid len a words room).room)
    (base : ℕ) (mapped : base_fault a base ≡ false) where
  there_is : ext_offset 2 v ≡ offset
  unfolding known_edition ext_offset
  there_is = offset_stored 2 offset refl (omega arith) two_bytes guid len a words g small below room k done v lent starts base mapped

  pub pi_round_trip : ext_fault v k len offset ≡ false → open_volume v base ≡ opened (state_of guid len a base 2 (pairs words) words)
  unfolding known_edition
  pi_round_trip ext =
      written_opens 2 offset refl (omega arith) two_bytes guid len a words g small below room k done v lent starts base mapped
      (ap (λ (o : ℕ). ext_fault v k len o) there_is ∙ ext)

  pub pi_refused : ext_fault v k len offset ≡ true → open_volume v base ≡ opens (refused 112) zero_state
  unfolding known_edition
  pi_refused ext =
      written_refused 2 offset refl (omega arith) two_bytes guid len a words g small below room k done v lent starts base mapped
      (ap (λ (o : ℕ). ext_fault v k len o) there_is ∙ ext)

-- with offset 0 it never is
pub pi_round_trip_none : (guid : List ℕ) (len a : ℕ) (words room : List ℕ) → length guid ≡ 16 → a < 2 ^ 32 → ((i : ℕ) → get_or words i 0 < 2 ^ 32)
    → (k : ℕ) → (write_header 2 0 guid len a words room).answer ≡ success (k ∷ [])
    → (v : List ℕ) → len ≤ length v → take k v ≡ take k (write_header 2 0 guid len a words room).room
    → (base : ℕ) → base_fault a base ≡ false → open_volume v base ≡ opened (state_of guid len a base 2 (pairs words) words)
pi_round_trip_none guid len a words room g small below k done v lent starts base mapped =
    pi_round_trip 0 (omega arith) guid len a words room g small below k done v lent starts base mapped (none_due v k len)

-- the words of a header that was written sum to 0 modulo 65,536
pub written_sum_zero : (edition offset : ℕ) (guid : List ℕ) (len a : ℕ) (words room : List ℕ) → length guid ≡ 16 → (k : ℕ)
    → (write_header edition offset guid len a words room).answer ≡ success (k ∷ [])
    → word_sum (take k (write_header edition offset guid len a words room).room) % word_modulus ≡ 0
written_sum_zero edition offset guid len a words room g k done = rw (was_done edition offset guid len a words room k done).front (sum_zero edition offset guid len a words g)
