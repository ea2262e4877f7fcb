-- The round trips: unpacking gives back a packed state, and packing the 304 bytes that were unpacked.
use Prim.Native.Nat.{ℕ, zero, suc, ◌+◌, ◌*◌, ◌/◌, ◌%◌, ◌≤◌, ◌<◌, ◌^◌}
use mathlib.Core.Path.{◌≡◌, refl, sym, ap, ap₂, ◌∙◌}
use mathlib.Core.List.{List, ◌++◌, append_assoc}
use native.Mathlib.Omega.{arith}
use native.Mathlib.Numerals.{add-one}
use lib.ListN.{length, get_or, take, drop, length-append, length-drop, take-append-drop}
use lib.Seq.{drop-cons, drop-drop, take-add, take_at, take_all}
use Rattle.numbers.specs.LittleEndian.{le, le_bytes}
use Rattle.numbers.proofs.LittleEndian.{le_skip, le-le_bytes, length-le_bytes}
use Rattle.volume.specs.Header.{words_at}
use Rattle.volume.specs.HeaderWriter.{words_bytes}
use Rattle.volume.specs.State.{state_with}
use Rattle.volume.specs.declared.state.State.{State}
use Rattle.volume.proofs.header_writer.RoundTrip.{words_read}
use Rattle.fv.specs.Packed.{packed, unpacked, state_bytes, packed_map_start, map_words, Typed}

-- ---- packed, then unpacked

module _ (st : State) (fits : Typed st) (mark : st.protected < 2 ^ 32) (count : st.entries < 2 ^ 32) (rest : List ℕ) where
  -- what stands behind the GUID
  fields : List ℕ
  fields = le_bytes 8 st.length ++ (le_bytes 8 st.base ++ (le_bytes 4 st.attributes ++ (le_bytes 4 st.edition ++ (le_bytes 4 st.protected ++ le_bytes 4 st.entries))))

  behind : List ℕ
  unfolding fields
  behind = fields ++ (words_bytes st.map ++ rest)

  parts : packed st ++ rest ≡ st.guid ++ behind
  unfolding packed fields behind
  parts = simp append_assoc

  -- a number behind the GUID
  field : (n k : ℕ) → le n (packed st ++ rest) (16 + k) ≡ le n behind k
  field n k =
      ap (λ (l : List ℕ). le n l (16 + k)) parts
      ∙ ap (λ (j : ℕ). le n (st.guid ++ behind) (j + k)) (sym fits.guid)
      ∙ le_skip n st.guid behind k

  length_at : le 8 (packed st ++ rest) 16 ≡ st.length
  unfolding fields behind le le_bytes
  length_at = field 8 0 ∙ le-le_bytes 8 st.length (drop 8 behind) fits.len

  base_at : le 8 (packed st ++ rest) 24 ≡ st.base
  unfolding fields behind le le_bytes
  base_at = field 8 8 ∙ le-le_bytes 8 st.base (drop 16 behind) fits.base

  attributes_at_lem : le 4 (packed st ++ rest) 32 ≡ st.attributes
  unfolding fields behind le le_bytes
  attributes_at_lem = field 4 16 ∙ le-le_bytes 4 st.attributes (drop 20 behind) fits.attributes

  edition_at : le 4 (packed st ++ rest) 36 ≡ st.edition
  unfolding fields behind le le_bytes
  edition_at = field 4 20 ∙ le-le_bytes 4 st.edition (drop 24 behind) fits.edition

  protected_at : le 4 (packed st ++ rest) 40 ≡ st.protected
  unfolding fields behind le le_bytes
  protected_at = field 4 24 ∙ le-le_bytes 4 st.protected (drop 28 behind) mark

  entries_at : le 4 (packed st ++ rest) 44 ≡ st.entries
  unfolding fields behind le le_bytes
  entries_at = field 4 28 ∙ le-le_bytes 4 st.entries (drop 32 behind) count

  map_at : words_at map_words (packed st ++ rest) packed_map_start ≡ st.map
  unfolding fields behind
  map_at =
      let front : List ℕ = st.guid ++ fields in
      let whole : packed st ++ rest ≡ front ++ (words_bytes st.map ++ rest) = parts ∙ sym (append_assoc st.guid fields (words_bytes st.map ++ rest)) in
      let long : length front ≡ packed_map_start = simp (length-append, length-le_bytes, fits.guid) in
      ap (λ (l : List ℕ). words_at map_words l packed_map_start) whole
      ∙ ap₂ (λ (k j : ℕ). words_at k (front ++ (words_bytes st.map ++ rest)) j) (sym fits.map) (sym long)
      ∙ words_read st.map front rest fits.words

  pub packed_back : unpacked (packed st ++ rest) ≡ st
  unfolding unpacked state_with
  packed_back = λ i. record {
    guid = (ap (λ (l : List ℕ). take 16 l) parts ∙ take_at st.guid behind 16 fits.guid) i;
    length = length_at i;
    base = base_at i;
    attributes = attributes_at_lem i;
    edition = edition_at i;
    protected = protected_at i;
    entries = entries_at i;
    map = map_at i;
  }

-- ---- unpacked, then packed

module _ (s : List ℕ) (bytes : (i : ℕ) → get_or s i 0 < 256) where
  -- a number's bytes are those that it was read from
  bytes_of : (n at : ℕ) → at + n ≤ length s → le_bytes n (le n s at) ≡ take n (drop at s)
  unfolding le le_bytes
  bytes_of zero at h = refl
  bytes_of (suc n) at h =
      let b = bytes at in
      let low : (get_or s at 0 + 256 * le n s (at + 1)) % 256 ≡ get_or s at 0 = omega arith in
      let high : (get_or s at 0 + 256 * le n s (at + 1)) / 256 ≡ le n s (at + 1) = omega arith in
      rw (low, high, bytes_of n (at + 1) (omega arith), drop-cons s at 0 (omega arith), ← add-one at)

  words_of : (k at : ℕ) → at + 4 * k ≤ length s → words_bytes (words_at k s at) ≡ take (4 * k) (drop at s)
  unfolding words_at words_bytes
  words_of zero at h = refl
  words_of (suc k) at h =
      let more : 4 * suc k ≡ 4 + 4 * k = omega arith in
      rw (bytes_of 4 at (omega arith), words_of k (at + 4) (omega arith), more, take-add 4 (4 * k) (drop at s), drop-drop 4 at s)

  -- a stretch and what stands behind it
  join : (n at : ℕ) (t : List ℕ) → t ≡ drop (at + n) s → take n (drop at s) ++ t ≡ drop at s
  join n at t e = rw (e, ← drop-drop n at s) (take-append-drop n (drop at s))

  field_of : (n at : ℕ) (t : List ℕ) → at + n ≤ length s → t ≡ drop (at + n) s → le_bytes n (le n s at) ++ t ≡ drop at s
  field_of n at t h e = rw (bytes_of n at h) (join n at t e)

  pub unpacked_back : length s ≡ state_bytes → packed (unpacked s) ≡ s
  unfolding unpacked packed state_with
  unpacked_back long =
      let words = words_of 64 48 (omega arith) ∙ take_all 256 (drop 48 s) (rw (length-drop 48 s) (omega arith)) in
      join 16 0 _
      (field_of 8 16 _ (omega arith)
      (field_of 8 24 _ (omega arith)
      (field_of 4 32 _ (omega arith)
      (field_of 4 36 _ (omega arith)
      (field_of 4 40 _ (omega arith)
      (field_of 4 44 _ (omega arith) words))))))
