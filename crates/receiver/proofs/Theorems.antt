-- The theorems of this crate (02, c): the document's words, the statement over the definitions of specs/ that the contracts cite, and where it is
-- proved. `received_of` (specs/Received) is what the finish answers by the announced length and the bytes that came; `announced`, `portions_of`,
-- `finish_of` and `fault_of` (specs/Receiver) are what the calls do.
use Rattle.std.proofs.Common.{◌≡◌, ℕ, ◌+◌, ◌-◌, ◌<◌, ◌≤◌, true, cond, leb, ◌⊎◌, ◌↔◌, List, [], ◌++◌, length, take, sym, ap, ◌∙◌, le-ltb, lt-ltb}
use mathlib.Core.Option.{none, some}
use lib.ListN.{get_elem?}
use Rattle.common.specs.Answers.{refused, success}
use Rattle.sections.specs.Header.{grown, header_length, type_at}
use Rattle.sections.specs.Search.{sections, first_fault, of_type, search_of}
use Rattle.sections.specs.Walk.{stream_limit, stream_walk}
use Rattle.sections.specs.declared.header.Mode.{Mode}
use Rattle.receiver.specs.Received.{EndsIn, joined, file_of, found_after, found_fault, found_of, fault_number, received_of, with_count}
use Rattle.receiver.specs.Receiver.{announced, announce_of, fed, sound, portions_of, finish_of, fault_of, Receiver}
use Rattle.receiver.proofs.receiver.Faults as faults
use Rattle.receiver.proofs.receiver.Holders as holders
use Rattle.receiver.proofs.receiver.Portions as portions

-- ---- the finish, after any portions

module _ (mode : Mode) (t instance total : ℕ) where
  -- THE theorem: "at the finish we want the number of sections on the full walk .. and first byte and end of the part the search shows, or the fault",
  -- for every announcement, one that is refused too, and every list of portions
  pub received : (portions : List (List ℕ)) → finish_of (portions_of (announced mode t instance total) portions) ≡ received_of mode t instance total (joined portions)
  received l = ap finish_of (portions.portions_received mode t instance total l) ∙ portions.finishes mode t instance total (joined l)

  -- "cut anywhere, some empty": how the bytes are cut changes nothing, neither the finish nor what is seen before it
  pub cut_anywhere : (portions others : List (List ℕ)) → joined portions ≡ joined others
      → portions_of (announced mode t instance total) portions ≡ portions_of (announced mode t instance total) others
  cut_anywhere l others same =
      portions.portions_received mode t instance total l
      ∙ ap (fed (announced mode t instance total)) same ∙ sym (portions.portions_received mode t instance total others)

  -- the fault that the call `fault` answers before the finish is the one that was found in the bytes that came
  pub fault_seen : (portions : List (List ℕ)) → fault_of (portions_of (announced mode t instance total) portions) ≡ fault_number (found_of mode total (joined portions))
  fault_seen l = ap fault_of (portions.portions_received mode t instance total l) ∙ portions.faults mode t instance total (joined l)

-- "exactly as the whole file's search gives": where exactly the announced bytes came, the finish answers what `search` of the file answers, with the
-- number of sections on the walk beside the part
pub received_whole : (mode : Mode) (t instance : ℕ) (portions : List (List ℕ))
    → finish_of (portions_of (announced mode t instance (length (joined portions))) portions)
    ≡ with_count (length (sections (stream_walk mode (joined portions)))) (search_of mode (joined portions) t instance)
received_whole mode t instance l = received mode t instance (length (joined l)) l ∙ faults.finish_whole mode t instance (joined l)

-- "the first found stays": once a receiver has a fault, one that no announcement led to included, the finish answers it, whatever portions come
pub fault_final : (r : Receiver) (portions : List (List ℕ)) (n : ℕ) → fault_of r ≡ n → (n ≡ 0 → ⊥)
    → (fault_of (portions_of r portions) ≡ n) × (finish_of (portions_of r portions) ≡ refused n)
fault_final = faults.fault_final

module _ (mode : Mode) (t instance total : ℕ) (came : List ℕ) where
  -- the same of the definitions: a fault that is found in the bytes that came is found with more, and is the answer
  pub found_stays : (more : List ℕ) {n : ℕ} → found_of mode total came ≡ some n
      → (found_of mode total (came ++ more) ≡ some n) × (received_of mode t instance total (came ++ more) ≡ refused n)
  found_stays more {n} p =
      let q = faults.found_stays mode total came more n p in (q, faults.finish_fault mode t instance total (came ++ more) q)

  pub found_answered : {n : ℕ} → found_of mode total came ≡ some n → received_of mode t instance total came ≡ refused n
  found_answered = faults.finish_fault mode t instance total came

  -- "at the finish 208, for more bytes than announced or fewer, only where no fault was found"
  pub received_208 : (received_of mode t instance total came ≡ refused 208) ↔ ((found_of mode total came ≡ none) × (length came ≡ total → ⊥))
  received_208 = faults.finish_208 mode t instance total came

  -- "then 14": no fault was found, all that was announced came, and the section wanted is not on the walk
  pub received_14 : (received_of mode t instance total came ≡ refused 14)
      ↔ ((found_of mode total came ≡ none) × (length came ≡ total)
      × (get_elem? (of_type t (sections (stream_walk mode (file_of total came)))) instance ≡ none))
  received_14 = faults.finish_14 mode t instance total came

-- ---- what is found, and when

-- the file is known only so far as it came: what is found is the fault of every file of the announced length that starts with these bytes, found
-- in as many bytes. `found_of` puts 0 where no byte came, so `received` and `fault_seen` would hold as well if `found_after` left out the padding byte of
-- 207, or the third byte of a long header's 201; that it counts them is seen here, and in `found_when`
pub any_file : (mode : Mode) (came rest : List ℕ) → found_of mode (length (came ++ rest)) came ≡ found_fault mode (came ++ rest) (length came) (stream_walk mode (came ++ rest))
any_file = faults.any_file

-- once all that was announced came, the fault is found that the search of the file answers; bytes past it change nothing
pub all_found : (mode : Mode) (total : ℕ) (came : List ℕ) → total ≤ length came → found_of mode total came ≡ first_fault (stream_walk mode (take total came))
all_found = faults.past_counts

module _ (mode : Mode) (file : List ℕ) (n start e : ℕ) (ends : EndsIn n start e (stream_walk mode file)) where
  -- "a fault is found when the last byte its test reads has come": where the walk of a file ends in fault n, at byte `start` of a stream that ends at
  -- byte `e`, it is found with as many of the file's first bytes as `found_after` says, or more, and with no fewer
  pub found_when : (k : ℕ) → k ≤ length file → found_of mode (length file) (take k file) ≡ cond (leb (found_after mode file n start e) k) (some n) none
  found_when = faults.found_exactly mode file n start e ends

  pub found_in_time : found_after mode file n start e ≤ length file
  found_in_time = faults.found_in_time mode file n start e ends

  -- 204 and 205 are faults of compression and GUID-defined sections alone
  pub holder_fault : (n ≡ 204) ⊎ (n ≡ 205) → (type_at file start ≡ 0x01) ⊎ (type_at file start ≡ 0x02)
  holder_fault = holders.fault_at_holder mode file n start e ends

-- "201 at a start reads none and is found once every byte before that start has come, 202 and 203 read size and type, 204 and 205 the whole fields
-- they test, 207 each padding byte by itself"; "201 also where fewer than 8 bytes are left for a long header, found at its third byte"
module _ (mode : Mode) (file : List ℕ) (start e : ℕ) where
  -- the length of the header there, 4 or, where a 32-bit size follows the type, 8
  abbrev h : ℕ
  h = header_length mode file start

  pub found_206 : found_after mode file 206 start e ≡ 0
  found_206 = faults.after_206 mode file start e

  pub found_201 : e - start < 4 → found_after mode file 201 start e ≡ start
  found_201 = faults.after_201 mode file start e

  pub found_201_long : 4 ≤ e - start → found_after mode file 201 start e ≡ start + 3
  found_201_long = faults.after_201_long mode file start e

  pub found_202 : found_after mode file 202 start e ≡ start + h
  found_202 = faults.after_202 mode file start e

  pub found_203 : found_after mode file 203 start e ≡ start + h
  found_203 = faults.after_203 mode file start e

  -- of a compression section the kind is the last field that both test; of a GUID-defined one it is for 204 the data offset, and for 205 the
  -- attributes. No other type has these faults (`holder_fault`)
  pub found_204_compression : type_at file start ≡ 0x01 → found_after mode file 204 start e ≡ start + grown h 9
  found_204_compression = faults.after_204_compression mode file start e

  pub found_204_guid : type_at file start ≡ 0x02 → found_after mode file 204 start e ≡ start + grown h 22
  found_204_guid = faults.after_204_guid mode file start e

  pub found_205_compression : type_at file start ≡ 0x01 → found_after mode file 205 start e ≡ start + grown h 9
  found_205_compression = faults.after_205_compression mode file start e

  pub found_205_guid : type_at file start ≡ 0x02 → found_after mode file 205 start e ≡ start + grown h 24
  found_205_guid = faults.after_205_guid mode file start e

  pub found_207 : found_after mode file 207 start e ≡ start + 1
  found_207 = faults.after_207 mode file start e

-- a fault that was found has one of the numbers 201 to 207, so that 0 says that none was
pub found_number : (mode : Mode) (total : ℕ) (came : List ℕ) (n : ℕ) → found_of mode total came ≡ some n → (201 ≤ n) × (n ≤ 207)
found_number = faults.found_number

pub none_zero : (mode : Mode) (total : ℕ) (came : List ℕ) → (fault_number (found_of mode total came) ≡ 0) ↔ (found_of mode total came ≡ none)
none_zero = faults.none_zero

-- ---- the announcement

-- no announcement leads to a receiver that `portion` leaves as it is for its places' sake
pub received_sound : (mode : Mode) (t instance total : ℕ) (portions : List (List ℕ)) → sound (portions_of (announced mode t instance total) portions) ≡ true
received_sound = portions.received_sound

-- "206 at the announcement": exactly where the announced length is over the limit
pub announce_206 : (mode : Mode) (total : ℕ) → stream_limit mode < total → announce_of mode total ≡ refused 206
unfolding announce_of
announce_206 mode total over = rw (lt-ltb (stream_limit mode) total over)

pub announce_accepted : (mode : Mode) (total : ℕ) → total ≤ stream_limit mode → announce_of mode total ≡ success []
unfolding announce_of
announce_accepted mode total fits = rw (le-ltb (stream_limit mode) total fits)

-- "201 at a start reads none": of 1 to 3 announced bytes it is found with none of them
pub announced_201 : (mode : Mode) (t instance total : ℕ) → 0 < total → total < 4 → fault_of (announced mode t instance total) ≡ 201
announced_201 = portions.short_total
