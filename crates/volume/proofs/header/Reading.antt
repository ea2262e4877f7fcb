-- What opening depends on, and when it succeeds.
use Rattle.std.proofs.Common.{◌≡◌, ℕ, zero, suc, ◌+◌, ◌-◌, ◌*◌, ◌/◌, ◌%◌, ◌<◌, ◌≤◌, Bool, true, false, cond, eqb, ltb, List, [], ◌∷◌, length, get_or, take, drop, replicate, sym, refl, ap, ◌∙◌, ap₂, arith, length-drop, length-take, length-take-le, get_or-drop, get_or-take, take_at, ext_get_or, drop_at, ltb-false, le-ltb, eq-eqb, ne_eqb}
use mathlib.Core.Option.{Option, none, some}
use borrow.Author.Tests.{eqb-false, not-false}
use Rattle.common.specs.Answers.{refused, success}
use Rattle.common.specs.Refusals.{row, first_refusal, unless_refused, any}
use Rattle.common.proofs.Refusals.{row-passed, then_passed, then_refused, front_passed, neither, row_applies, row_passes, no_row}
use Rattle.numbers.specs.LittleEndian.{le}
use Rattle.numbers.proofs.LittleEndian.{le_same}
use Rattle.volume.specs.Attributes.{known_edition, attributes_fault, base_fault}
use Rattle.volume.specs.BlockMap.{blocks, has_zero, all_zero, size_fault}
use Rattle.volume.specs.ExtendedHeader.{min_ext_header, ext_offset, ext_size_at, Entry, ext_entry_at, entry_fault, entry_before, entries_in, entries_from, ext_fault}
use Rattle.volume.specs.State.{state_with, state_of, zero_state, map_of, unlawful}
use Rattle.volume.specs.Header.{length_at, signature, revision_at, header_length_at, words_at, word_sum, running_sums, state_at, header_length_fault, map_fault, open_refusals, opens, opened, open_volume, word_modulus, bytes_refusals, fields_refusals}
use Rattle.volume.specs.declared.state.State.{State}
use Rattle.volume.proofs.header.Fields.{rows_split, length-words_at, readable, open_late, open_success, opened-passed}
use Rattle.volume.proofs.header.Sums.{length_running, running_last}
use Rattle.volume.proofs.block_map.Words.{size_passed}

-- two byte strings agree from place a up to place b
abbrev pub Agree : List ℕ → List ℕ → ℕ → ℕ → Type 0
Agree v w a b = (i : ℕ) → a ≤ i → i < b → get_or v i 0 ≡ get_or w i 0

words_at-same : (k : ℕ) (v w : List ℕ) (at : ℕ) → Agree v w at (at + 4 * k) → words_at k v at ≡ words_at k w at
unfolding words_at
words_at-same zero v w at h = refl
words_at-same (suc k) v w at h =
    ap₂ (λ (x : ℕ) (l : List ℕ). x ∷ l) (le_same 4 v w at (λ i p q. h i p (omega arith)))
    (words_at-same k v w (at + 4) (λ i p q. h i (omega arith) (omega arith)))

-- equal parts of lists of one length
take_same : (v w : List ℕ) (n at : ℕ) → length v ≡ length w → Agree v w at (at + n) → take n (drop at v) ≡ take n (drop at w)
take_same v w n at e h =
    ext_get_or 0 (take n (drop at v)) (take n (drop at w)) (simp (length-take, length-drop, e))
    (λ i p. let q : i < n = omega (arith, rw (length-take n (drop at v)) at p) in
    get_or-take n (drop at v) i 0 q ∙ get_or-drop at v i 0 ∙ h (at + i) (omega arith) (omega arith) ∙ sym (get_or-drop at w i 0) ∙ sym (get_or-take n (drop at w) i 0 q))

-- what edition 2 reads beside the header: the offset of the extended header is the same of both, and so are the extended header's bytes, where there
-- is one. In edition 1 the offset is 0, and nothing is asked
pub record SameExtended (v w : List ℕ) : Type 0 where
  pub offset : ext_offset (revision_at v) v ≡ ext_offset (revision_at v) w
  pub extended : (ext_offset (revision_at v) v ≡ 0 → ⊥)
      → let o = ext_offset (revision_at v) v in Agree v w o (o + min_ext_header) × Agree v w o (o + ext_size_at v o)

-- the entries of two byte strings that agree from the first on
entries_same : (k : ℕ) (v w : List ℕ) (at end : ℕ) → Agree v w at end → entries_in k v at end ≡ entries_in k w at end
unfolding entries_in any
entries_same zero v w at end h = refl
entries_same (suc k) v w at end h =
    ap (λ (o : Option (List Entry)). cond (eqb at end) (some []) o)
    (go (λ n e. entries_same k v w (at + n) end (λ i p q. h i (omega arith) q)) (ltb end (at + 4)) refl)
  where
    go : ((n : ℕ) → 0 ≤ n → entries_in k v (at + n) end ≡ entries_in k w (at + n) end) → (t : Bool) → ltb end (at + 4) ≡ t
        → cond (entry_fault v at end) none (entry_before (ext_entry_at v at) (entries_in k v (at + le 2 v at) end))
        ≡ cond (entry_fault w at end) none (entry_before (ext_entry_at w at) (entries_in k w (at + le 2 w at) end))
    go ih true e = rw e
    go ih false e =
        let inside : at + 4 ≤ end = ltb-false _ _ e in
        let size : le 2 v at ≡ le 2 w at = le_same 2 v w at (λ i p q. h i p (omega arith)) in
        let type : le 2 v (at + 2) ≡ le 2 w (at + 2) = le_same 2 v w (at + 2) (λ i p q. h i (omega arith) (omega arith)) in
        rw (ih (le 2 v at) (omega arith), size, type)

-- so rule 112 says the same of them
ext_same : (v w : List ℕ) (h len o : ℕ) → ((o ≡ 0 → ⊥) → Agree v w o (o + 20) × Agree v w o (o + ext_size_at v o)) → ext_fault v h len o ≡ ext_fault w h len o
unfolding ext_fault entries_from
ext_same v w h len o agree = go (eqb o 0) refl
  where
    go : (t : Bool) → eqb o 0 ≡ t → ext_fault v h len o ≡ ext_fault w h len o
    go true e = rw e
    go false e =
        let a = agree (eqb-false o 0 e) in
        let size : le 4 v (o + 16) ≡ le 4 w (o + 16) = le_same 4 v w (o + 16) (λ i p q. a.0 i (omega arith) (omega arith)) in
        let entries = entries_same (o + ext_size_at v o - (o + 20)) v w (o + 20) (o + ext_size_at v o) (λ i p q. a.1 i (omega arith) q) in
        rw (entries, size)

-- Opening reads the lent length, the base, bytes 16 to 49, from byte 55 on the header's, and in edition 2 bytes 52 and 53 and the extended header's; of
-- the zero vector, the checksum and the reserved bytes it sees only whether the words sum to 0.
module _ (v w : List ℕ) (base : ℕ) (e : length v ≡ length w) (front : Agree v w 16 50) (least : Agree v w 55 72)
    (back : Agree v w 55 (header_length_at v)) where
  same-header_length : header_length_at v ≡ header_length_at w
  same-header_length = le_same 2 v w 48 (λ i p q. front i (omega arith) (omega arith))

  -- the rows before the sum's
  same_start : take 4 (open_refusals v zero_state) ≡ take 4 (open_refusals w zero_state)
  unfolding open_refusals
  same_start =
      let sign : le 4 v 40 ≡ le 4 w 40 = le_same 4 v w 40 (λ i p q. front i (omega arith) (omega arith)) in
      let revised : get_or v 55 0 ≡ get_or w 55 0 = least 55 (omega arith) (omega arith) in
      rw (e, sign, revised, same-header_length)

  same_state : state_at v base ≡ state_at w base
  unfolding state_at
  same_state =
      let guid : take 16 (drop 16 v) ≡ take 16 (drop 16 w) = take_same v w 16 16 e (λ i p q. front i (omega arith) (omega arith)) in
      let len : le 8 v 32 ≡ le 8 w 32 = le_same 8 v w 32 (λ i p q. front i (omega arith) (omega arith)) in
      let attributes : le 4 v 44 ≡ le 4 w 44 = le_same 4 v w 44 (λ i p q. front i (omega arith) (omega arith)) in
      let n : ℕ = (header_length_at v - 64) / 8 in
      let map : words_at (2 * n) v 56 ≡ words_at (2 * n) w 56 = words_at-same (2 * n) v w 56 (λ i p q. back i (omega arith) (omega arith)) in
      rw (guid, len, attributes, least 55 (omega arith) (omega arith), map, same-header_length)

  same_fields : SameExtended v w → 72 ≤ header_length_at v → (st : State) → st.edition ≡ revision_at v → fields_refusals v st ≡ fields_refusals w st
  unfolding open_refusals map_fault
  same_fields beside h st edition =
      let closing : le 8 v (header_length_at v - 8) ≡ le 8 w (header_length_at v - 8) =
      le_same 8 v w (header_length_at v - 8) (λ i p q. back i (omega arith) (omega arith)) in
      let extended : ext_fault v (header_length_at v) st.length (ext_offset st.edition v) ≡ ext_fault w (header_length_at v) st.length (ext_offset st.edition w) =
      rw edition
      (ext_same v w (header_length_at v) st.length (ext_offset (revision_at v) v) beside.extended
      ∙ ap (λ (o : ℕ). ext_fault w (header_length_at v) st.length o) beside.offset) in
      rw (closing, extended, same-header_length, e)

  abbrev Zero : List ℕ → Bool
  Zero s = eqb (word_sum (take (header_length_at v) s) % word_modulus) 0

  same_bytes : Zero v ≡ Zero w → bytes_refusals v ≡ bytes_refusals w
  unfolding open_refusals
  same_bytes sums =
      let sign : le 4 v 40 ≡ le 4 w 40 = le_same 4 v w 40 (λ i p q. front i (omega arith) (omega arith)) in
      let revised : get_or v 55 0 ≡ get_or w 55 0 = least 55 (omega arith) (omega arith) in
      rw (e, sign, revised, sums, same-header_length)

  -- where the sums of both are 0, or of neither, opening answers the same
  open_same : SameExtended v w → Zero v ≡ Zero w → open_volume v base ≡ open_volume w base
  unfolding open_volume state_at state_of state_with
  open_same beside sums = go (first_refusal (bytes_refusals v)) refl
    where
      go : (o : Option ℕ) → first_refusal (bytes_refusals v) ≡ o → open_volume v base ≡ open_volume w base
      go (some n) p =
          rw (
            rows_split v (state_at v base),
            rows_split w (state_at w base),
            then_refused (bytes_refusals v) (fields_refusals v (state_at v base)) n p,
            then_refused (bytes_refusals w) (fields_refusals w (state_at w base)) n (ap first_refusal (sym (same_bytes sums)) ∙ p),
          )
      go none p = rw (same_state, rows_split v (state_at w base), rows_split w (state_at w base), same_bytes sums, same_fields beside (readable v p).least (state_at w base) (sym (least 55 (omega arith) (omega arith))))

  -- where the sum of the one is 0 and it opens, and that of the other is not, the other is refused with 105
  pub sum_decides : (open_volume v base).answer ≡ success [] → (word_sum (take (header_length_at v) w) % word_modulus ≡ 0 → ⊥)
      → open_volume w base ≡ opens (refused 105) zero_state
  unfolding open_volume open_refusals first_refusal
  sum_decides success-v off =
      let passed : first_refusal (take 4 (open_refusals v zero_state)) ≡ none =
      front_passed (take 4 (open_refusals v (state_at v base))) (drop 4 (open_refusals v (state_at v base)))
      (opened-passed v base success-v) in
      let here : first_refusal (drop 4 (open_refusals w (state_at w base))) ≡ some 105 =
      rw (ne_eqb (word_sum (take (header_length_at w) w) % word_modulus) 0 (λ z. off (rw same-header_length z))) in
      ap (λ (o : Option ℕ). unless_refused (λ n. opens (refused n) zero_state) o (opened (state_at w base)))
      (then_passed (take 4 (open_refusals w (state_at w base))) (drop 4 (open_refusals w (state_at w base))) (ap first_refusal (sym same_start) ∙ passed) ∙ here)

-- opening depends on the header's bytes, in edition 2 on the extended header's, on the lent length and the base only
pub header_only : (v w : List ℕ) (base : ℕ) → length v ≡ length w → Agree v w 0 72 → Agree v w 0 (header_length_at v)
    → ((ext_offset (revision_at v) v ≡ 0 → ⊥) → let o = ext_offset (revision_at v) v in Agree v w o (o + min_ext_header) × Agree v w o (o + ext_size_at v o))
    → open_volume v base ≡ open_volume w base
unfolding ext_offset
header_only v w base e least whole extended =
    let offset : le 2 v 52 ≡ le 2 w 52 = le_same 2 v w 52 (λ i p q. least i (omega arith) (omega arith)) in
    open_same v w base e (λ i p q. least i (omega arith) (omega arith)) (λ i p q. least i (omega arith) q) (λ i p q. whole i (omega arith) q)
    (record { offset = rw offset; extended = extended })
    (ap (λ (l : List ℕ). eqb (word_sum l % word_modulus) 0) (take_same v w (header_length_at v) 0 e (λ i p q. whole i p (omega arith))))

-- nonzero reserved bytes and zero vector change nothing but the sum: two byte strings that agree in all else, each with a checksum
-- that brings its words to 0, open alike; `sum_decides` is the other half
pub reserved_ignored : (v w : List ℕ) (base : ℕ) → length v ≡ length w → Agree v w 16 50 → Agree v w 55 72 → Agree v w 55 (header_length_at v) → SameExtended v w
    → word_sum (take (header_length_at v) v) % word_modulus ≡ 0 → word_sum (take (header_length_at v) w) % word_modulus ≡ 0 → open_volume v base ≡ open_volume w base
reserved_ignored v w base e front least back beside p q = open_same v w base e front least back beside (rw (p, q))

-- in edition 1, and wherever the revision is not 2, nothing beside the header is read
pub nothing_beside : (v w : List ℕ) → (revision_at v ≡ 2 → ⊥) → SameExtended v w
unfolding ext_offset
nothing_beside v w other =
    let z = ne_eqb (revision_at v) 2 other in
    record { offset = rw z; extended = λ h. absurd (h (rw z)) }

-- where opening succeeds the accumulator has a last value, and it is 0
pub opened_zero : (v : List ℕ) (base : ℕ) → (open_volume v base).answer ≡ success []
    → let sums = running_sums (take (header_length_at v) v) in (0 < length sums) × (get_or sums (length sums - 1) 0 ≡ 0)
opened_zero v base e =
    let r = readable v (front_passed (bytes_refusals v) (fields_refusals v (state_at v base)) (rw (rows_split v (state_at v base)) at (opened-passed v base e))) in
    let header = take (header_length_at v) v in
    (omega (arith, length_running 0 header, length-take-le (header_length_at v) v r.within), running_last header ∙ r.summed)

-- what a volume's bytes must hold to open to these values
pub record Holds (v guid : List ℕ) (len a edition n : ℕ) (words : List ℕ) : Type 0 where
  pub lent : len ≤ length v
  pub signed : le 4 v 40 ≡ signature
  pub revised : get_or v 55 0 ≡ edition
  pub header : header_length_at v ≡ 64 + 8 * n
  pub summed : word_sum (take (64 + 8 * n) v) % word_modulus ≡ 0
  pub guid_there : take 16 (drop 16 v) ≡ guid
  pub length_there : le 8 v 32 ≡ len
  pub attributes_there : le 4 v 44 ≡ a
  pub map_there : words_at (2 * n) v 56 ≡ words
  pub closed : le 8 v (64 + 8 * n - 8) ≡ 0

header_length_good : (h lent : ℕ) → h % 8 ≡ 0 → 72 ≤ h → h ≤ 320 → h ≤ lent → header_length_fault h lent ≡ false
unfolding header_length_fault any
header_length_good h lent a b d e = rw (eq-eqb (h % 8) 0 a, le-ltb h 72 b, le-ltb 320 h d, le-ltb lent h e)

-- the map of a state made of n entries' words
pub map_of-state_of : (guid : List ℕ) (len a base edition n : ℕ) (words : List ℕ) → length words ≡ 2 * n → map_of (state_of guid len a base edition n words) ≡ words
unfolding map_of state_of state_with
map_of-state_of guid len a base edition n words e = take_at words _ (2 * n) e

-- such a volume opens to them, where they keep 103, 106 to 108 and 110, and 112 is not due; where it is due, it is refused with it
module _ (v guid : List ℕ) (len a edition n : ℕ) (words : List ℕ) (base : ℕ) (h : Holds v guid len a edition n words) (known : known_edition edition ≡ true)
    (nonzero : has_zero words ≡ false) (size : size_fault n words len ≡ false) (attributes : attributes_fault edition a ≡ false)
    (mapped : base_fault a base ≡ false) where
  state_there : state_at v base ≡ state_of guid len a base edition n words
  unfolding state_at
  state_there =
      let z : (64 + 8 * n - 64) / 8 ≡ n = omega arith in
      rw (h.guid_there, h.length_there, h.attributes_there, h.revised, h.header, z, h.map_there)

  bytes_pass : first_refusal (bytes_refusals v) ≡ none
  unfolding first_refusal open_refusals
  bytes_pass =
      let z = size_passed n words len size in
      let lent = h.lent in
      let good = header_length_good (64 + 8 * n) (length v) (omega arith) (omega arith) (omega arith) (omega arith) in
      rw (le-ltb (length v) 72 (omega arith), h.signed, h.revised, known, h.header, good, h.summed)

  fields_there : first_refusal (fields_refusals v (state_of guid len a base edition n words)) ≡ first_refusal (row (ext_fault v (64 + 8 * n) len (ext_offset edition v)) 112 ∷ [])
  unfolding first_refusal open_refusals map_fault state_of state_with
  fields_there =
      let two : length words ≡ 2 * n = ap length (sym h.map_there) ∙ length-words_at (2 * n) v 56 in
      let lent = h.lent in
      let map = map_of-state_of guid len a base edition n words two in
      rw (map, h.header, h.closed, nonzero, size, attributes, le-ltb (length v) len (omega arith), mapped)

  pub opens_to : ext_fault v (64 + 8 * n) len (ext_offset edition v) ≡ false → open_volume v base ≡ opened (state_of guid len a base edition n words)
  opens_to ext =
      sym (open_success v base bytes_pass (rw state_there (fields_there ∙ row_passes _ _ _ _ ext no_row))) ∙ ap (λ (st : State). opened st) state_there

  pub refused_112 : ext_fault v (64 + 8 * n) len (ext_offset edition v) ≡ true → open_volume v base ≡ opens (refused 112) zero_state
  refused_112 ext = sym (open_late v base bytes_pass 112 (rw state_there (fields_there ∙ row_applies _ _ _ ext)))

-- ---- what opening answers is lawful

all_zeros : (k : ℕ) → all_zero (replicate k 0) ≡ true
unfolding all_zero
all_zeros zero = refl
all_zeros (suc k) = all_zeros k

-- beyond its entries the state that a header gives holds zeros
zero_beyond : (s : List ℕ) (base : ℕ) → all_zero (drop (2 * (state_at s base).entries) (state_at s base).map) ≡ true
unfolding state_at state_of state_with
zero_beyond s base =
    let n : ℕ = (header_length_at s - 64) / 8 in
    rw (drop_at (words_at (2 * n) s 56) (replicate (64 - 2 * n) 0) (2 * n) (length-words_at (2 * n) s 56)) (all_zeros (64 - 2 * n))

-- and no block of it is protected
unprotected_at : (s : List ℕ) (base : ℕ) → (state_at s base).protected ≡ blocks (map_of (state_at s base))
unfolding state_at state_of state_with map_of
unprotected_at s base =
    let n : ℕ = (header_length_at s - 64) / 8 in
    ap blocks (sym (take_at (words_at (2 * n) s 56) (replicate (64 - 2 * n) 0) (2 * n) (length-words_at (2 * n) s 56)))

lawful_from : (s : List ℕ) (st : State) → st.edition ≡ revision_at s → first_refusal (open_refusals s st) ≡ none → all_zero (drop (2 * st.entries) st.map) ≡ true
    → st.protected ≡ blocks (map_of st) → (unlawful st ≡ false) × (st.length ≤ length s)
unfolding open_refusals map_fault unlawful any
lawful_from s st edition e zeros free =
    let r3 = row-passed _ _ (row-passed _ _ (row-passed _ _ e).1).1 in
    let known : known_edition st.edition ≡ true = ap known_edition edition ∙ not-false _ r3.0 in
    let r5 = row-passed _ _ (row-passed _ _ r3.1).1 in
    let r6 = row-passed _ _ r5.1 in
    let r7 = row-passed _ _ r6.1 in
    let r8 = row-passed _ _ r7.1 in
    let r9 = row-passed _ _ r8.1 in
    let r10 = row-passed _ _ r9.1 in
    (rw (known, (neither (has_zero (map_of st)) _ r6.0).0, r7.0, r8.0, r10.0, zeros, le-ltb (blocks (map_of st)) st.protected (omega arith)), ltb-false (length s) st.length r9.0)

-- where opening succeeds 112 is not due
pub opened_extended : (v : List ℕ) (base : ℕ) → (open_volume v base).answer ≡ success []
    → ext_fault v (header_length_at v) (length_at v) (ext_offset (revision_at v) v) ≡ false
unfolding open_refusals state_at state_of state_with
opened_extended v base success-v =
    let r5 = row-passed _ _ (row-passed _ _ (row-passed _ _ (row-passed _ _ (row-passed _ _ (opened-passed v base success-v)).1).1).1).1 in
    let r10 = row-passed _ _ (row-passed _ _ (row-passed _ _ (row-passed _ _ (row-passed _ _ r5.1).1).1).1).1 in
    (row-passed _ _ r10.1).0

-- and the state has the header's edition
pub opened_edition : (v : List ℕ) (base : ℕ) → (open_volume v base).answer ≡ success []
    → ((open_volume v base).state.edition ≡ revision_at v) × (known_edition (revision_at v) ≡ true)
unfolding open_volume state_at state_of state_with
opened_edition v base success-v =
    let e = opened-passed v base success-v in
    (rw e, (readable v (front_passed (bytes_refusals v) (fields_refusals v (state_at v base)) (rw (rows_split v (state_at v base)) at e))).known)

-- the state that opening answers with success keeps rule 111, and the volume is lent whole: so a service call on it gets neither 111 nor 5
pub opened_lawful : (v : List ℕ) (base : ℕ) → (open_volume v base).answer ≡ success []
    → (unlawful (open_volume v base).state ≡ false) × ((open_volume v base).state.length ≤ length v)
unfolding open_volume state_at state_of state_with
opened_lawful v base success-v =
    let e = opened-passed v base success-v in
    rw e (lawful_from v (state_at v base) refl e (zero_beyond v base) (unprotected_at v base))

-- no block of it is protected
pub opened_unprotected : (v : List ℕ) (base : ℕ) → (open_volume v base).answer ≡ success []
    → (open_volume v base).state.protected ≡ blocks (map_of (open_volume v base).state)
unfolding open_volume
opened_unprotected v base success-v = rw (opened-passed v base success-v) (unprotected_at v base)
