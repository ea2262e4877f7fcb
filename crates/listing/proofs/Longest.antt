-- No listing of a volume's bytes is longer than `max_listing`.
use Prim.Native.Nat.{ℕ, zero, suc, ◌+◌, ◌*◌, ◌^◌, ◌≤◌, ◌<◌}
use mathlib.Core.Path.{◌≡◌, refl, ap, ◌∙◌}
use mathlib.Core.Bool.{Bool, true, false, cond}
use mathlib.Core.List.{List, [], ◌∷◌}
use mathlib.Core.Option.{Option, none, some, none-ne-some}
use native.Mathlib.Omega.{arith}
use lib.Dec.{lit<}
use lib.ListN.{length, get_or, length-append}
use Rattle.common.specs.Refusals.{Row, first_refusal}
use Rattle.numbers.proofs.LittleEndian.{le_bound}
use Rattle.volume.specs.Header.{attributes_at, entries_of, guid_at, header_length_at, length_at, map_start, open_refusals, open_volume, opened, revision_at, state_at, words_at}
use Rattle.volume.specs.State.{map_of, state_of, state_with}
use Rattle.volume.proofs.header.Fields.{length-words_at, opened_entries}
use Rattle.volume.proofs.header.Reading.{map_of-state_of}
use Rattle.listing.specs.Listing.{field, line, line_feed, listing, map_lines, map_word, max_field, max_line, max_listing, refused_line, volume_line, volume_word}
use Rattle.listing.proofs.Lines.{line-length, lines_opened, lines_refused}
use Rattle.listing.proofs.text.Decimal.{places_bound}
use Rattle.listing.proofs.text.Field.{length-field}

-- a number of at most 20 digits
abbrev Small : ℕ → Type 0
Small x = x < 10 ^ 20

field_short : (x : ℕ) → Small x → length (field x) ≤ max_field
field_short x h = let e = length-field x in let b = places_bound 19 x h in omega arith

line_short : (word : List ℕ) (x y z : ℕ) → Small x → Small y → Small z → length (line word x y z) ≤ max_line word
unfolding line
line_short word x y z p q r =
    let e = line-length word (field x) (field y) (field z) (line_feed ∷ []) in
    let a = field_short x p in
    let b = field_short y q in
    let d = field_short z r in
    omega arith

refused_short : (n : ℕ) → Small n → length (refused_line n) ≤ max_listing
unfolding refused_line
refused_short n h =
    let e = length-append (field n) (line_feed ∷ []) in
    let b = field_short n h in
    omega arith

-- the lines of at most k entries of 32-bit words
map_short : (k first : ℕ) (w : List ℕ) → length w ≤ 2 * k → ((i : ℕ) → get_or w i 0 < 2 ^ 32) → Small (first + 2 ^ 32 * k)
    → length (map_lines first w) ≤ max_line map_word * k
unfolding map_lines
map_short k first [] h b f = omega arith
map_short k first (count ∷ []) h b f = omega arith
map_short zero first (count ∷ len ∷ rest) h b f = omega arith
map_short (suc k) first (count ∷ len ∷ rest) h b f =
    let c = b 0 in
    let l = b 1 in
    let here = line_short map_word first count len (omega arith) (omega arith) (omega arith) in
    let later = map_short k (first + count) rest (omega arith) (λ i. b (suc (suc i))) (omega arith) in
    let e = length-append (line map_word first count len) (map_lines (first + count) rest) in
    omega arith

-- a refusal's number is among the table's
total : List Row → ℕ
total [] = 0
total (r ∷ rest) = r.number + total rest

refusal_among : (rows : List Row) (n : ℕ) → first_refusal rows ≡ some n → n ≤ total rows
unfolding first_refusal total
refusal_among [] n e = absurd (none-ne-some n e)
refusal_among (r ∷ rest) n e = go r.test e (refusal_among rest n)
  where
    go : (t : Bool) → cond t (some r.number) (first_refusal rest) ≡ some n → (first_refusal rest ≡ some n → n ≤ total rest)
        → n ≤ r.number + total rest
    go true e ih = let z : r.number ≡ n = cc in omega arith
    go false e ih = let z = ih e in omega arith

-- of bytes
module _ (s : List ℕ) (bytes : (i : ℕ) → get_or s i 0 < 256) where
  word_small : (k at i : ℕ) → get_or (words_at k s at) i 0 < 2 ^ 32
  unfolding words_at
  word_small zero at i = lit< tt
  word_small (suc k) at zero = le_bound 4 s at bytes
  word_small (suc k) at (suc i) = word_small k (at + 4) i

  opened_short : open_volume s 0 ≡ opened (state_at s 0) → length (listing s) ≤ max_listing
  unfolding state_at state_of state_with
  opened_short e =
      let n : ℕ = entries_of (header_length_at s) in
      let words = words_at (2 * n) s map_start in
      let map : map_of (state_at s 0) ≡ words = map_of-state_of (guid_at s) (length_at s) (attributes_at s) 0 (revision_at s) n words (length-words_at (2 * n) s map_start) in
      let few : n ≤ 32 = rw e at (opened_entries s 0) in
      let long = le_bound 8 s 32 bytes in
      let attributes = le_bound 4 s 44 bytes in
      let size = length-words_at (2 * n) s map_start in
      let first = line_short volume_word (length_at s) (attributes_at s) n (omega arith) (omega arith) (omega arith) in
      let others = map_short n 0 words (omega arith) (word_small (2 * n) map_start) (omega arith) in
      let e : length (listing s) ≡ length (volume_line (length_at s) (attributes_at s) n) + length (map_lines 0 words) =
      ap length (lines_opened s (state_at s 0) e) ∙ length-append (volume_line (length_at s) (attributes_at s) n) _ ∙ rw map in
      omega arith

  pub listing_short : length (listing s) ≤ max_listing
  unfolding open_volume open_refusals total
  listing_short = go (first_refusal (open_refusals s (state_at s 0))) refl
    where
      go : (o : Option ℕ) → first_refusal (open_refusals s (state_at s 0)) ≡ o → length (listing s) ≤ max_listing
      go none e = opened_short (rw e)
      go (some n) e =
          let among : n ≤ 1167 = refusal_among (open_refusals s (state_at s 0)) n e in
          rw (lines_refused s n (rw e)) (refused_short n (omega arith))
