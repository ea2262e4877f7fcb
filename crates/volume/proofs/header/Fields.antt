-- Laws of the header: its fields one at a time, for the loops that read them, and what its refusal tables say.
use Rattle.std.proofs.Common.{◌≡◌, ℕ, zero, suc, ◌+◌, ◌*◌, ◌%◌, ◌<◌, ◌≤◌, true, false, not, eqb, ltb, List, [], ◌++◌, length, get_or, take, drop, replicate, refl, ap, ◌∙◌, add-zero, mul-zero, arith, take_at, ltb-false, eqb-true}
use mathlib.Core.Option.{Option, none, some}
use borrow.Author.Tests.{not-false}
use Rattle.common.specs.Answers.{refused, success}
use Rattle.common.specs.Refusals.{first_refusal, unless_refused}
use Rattle.common.proofs.Refusals.{any-passed, row-passed, then_passed, then_refused}
use Rattle.common.proofs.Lists.{drop-zeros}
use Rattle.numbers.specs.LittleEndian.{le}
use Rattle.volume.specs.Attributes.{known_edition}
use Rattle.volume.specs.BlockMap.{max_entries, blocks}
use Rattle.volume.specs.State.{state_with, state_of, zero_state}
use Rattle.volume.specs.Header.{guid_at, length_at, attributes_at, revision_at, header_length_at, entries_of, map_start, word_modulus, word_sum, words_at, state_at, header_length_fault, min_header, max_header, open_refusals, bytes_refusals, fields_refusals, Opens, opens, opened, open_volume}
use Rattle.volume.specs.declared.state.State.{State}

-- k words, and the word at place i of them
pub length-words_at : (k : ℕ) (s : List ℕ) (at : ℕ) → length (words_at k s at) ≡ k
unfolding words_at
length-words_at zero s at = refl
length-words_at (suc k) s at = ap suc (length-words_at k s (at + 4))

pub words_at_at : (k : ℕ) (s : List ℕ) (at i : ℕ) → i < k → get_or (words_at k s at) i 0 ≡ le 4 s (at + 4 * i)
unfolding words_at
words_at_at zero s at i h = omega arith
words_at_at (suc k) s at zero h = rw (mul-zero, add-zero)
words_at_at (suc k) s at (suc i) h =
    let e : at + 4 + 4 * i ≡ at + 4 * suc i = omega arith in
    words_at_at k s (at + 4) i (omega arith) ∙ ap (λ (x : ℕ). le 4 s x) e

-- ---- opening

pub rows_split : (s : List ℕ) (st : State) → open_refusals s st ≡ bytes_refusals s ++ fields_refusals s st
unfolding open_refusals
rows_split s st = refl

-- what bytes that pass 101 to 105 are known to hold
pub record Readable (s : List ℕ) : Type 0 where
  pub long : min_header ≤ length s
  pub known : known_edition (revision_at s) ≡ true
  pub least : min_header ≤ header_length_at s
  pub most : header_length_at s ≤ max_header
  pub within : header_length_at s ≤ length s
  pub whole : header_length_at s % 8 ≡ 0
  pub summed : word_sum (take (header_length_at s) s) % word_modulus ≡ 0

pub header_length-passed : (h lent : ℕ) → header_length_fault h lent ≡ false → (min_header ≤ h) × (h ≤ max_header) × (h ≤ lent) × (h % 8 ≡ 0)
unfolding header_length_fault
header_length-passed h lent e =
    let p = any-passed (not (eqb (h % 8) 0)) _ e in
    let q = any-passed (ltb h min_header) _ p.1 in
    let r = any-passed (ltb max_header h) _ q.1 in
    let t = any-passed (ltb lent h) _ r.1 in
    (ltb-false h min_header q.0, ltb-false max_header h r.0, ltb-false lent h t.0, eqb-true (h % 8) 0 (not-false _ p.0))

pub readable : (s : List ℕ) → first_refusal (bytes_refusals s) ≡ none → Readable s
unfolding open_refusals
readable s p =
    let r1 = row-passed _ _ p in
    let r2 = row-passed _ _ r1.1 in
    let r3 = row-passed _ _ r2.1 in
    let r4 = row-passed _ _ r3.1 in
    let r5 = row-passed _ _ r4.1 in
    let h = header_length-passed (header_length_at s) (length s) r4.0 in
    record {
      long = ltb-false (length s) min_header r1.0;
      known = not-false _ r3.0;
      least = h.0;
      most = h.1;
      within = h.2;
      whole = h.3;
      summed = eqb-true (word_sum (take (header_length_at s) s) % word_modulus) 0 (not-false _ r5.0);
    }

-- the parts that opening reads, the map's words stored over 64 zeros, make the state
pub state_parts : (s : List ℕ) (base : ℕ) {len a edition n : ℕ} {map : List ℕ} → len ≡ length_at s → a ≡ attributes_at s → edition ≡ revision_at s
    → n ≡ entries_of (header_length_at s) → map ≡ words_at (2 * n) s map_start ++ drop (2 * n) (replicate 64 0)
    → state_with (guid_at s) len a base edition (blocks (take (2 * n) map)) n map ≡ state_at s base
unfolding state_at state_of
state_parts s base {n = n} l a r e m =
    rw (l, a, r, m, take_at (words_at (2 * n) s map_start) (drop (2 * n) (replicate 64 0)) (2 * n) (length-words_at (2 * n) s map_start), drop-zeros (2 * n) 64, e)

-- a readable header's state keeps the limit of entries
pub entries_bound : (s : List ℕ) (base : ℕ) → Readable s → 2 * (state_at s base).entries ≤ 2 * max_entries
unfolding state_at state_of state_with
entries_bound s base r = omega arith

-- opening by the two halves of its table
module _ (s : List ℕ) (base : ℕ) where
  pub open_early : (n : ℕ) → first_refusal (bytes_refusals s) ≡ some n → opens (refused n) zero_state ≡ open_volume s base
  unfolding open_volume
  open_early n e = rw (rows_split s (state_at s base), then_refused (bytes_refusals s) (fields_refusals s (state_at s base)) n e)

  module _ (early : first_refusal (bytes_refusals s) ≡ none) where
    pub open_late : (n : ℕ) → first_refusal (fields_refusals s (state_at s base)) ≡ some n → opens (refused n) zero_state ≡ open_volume s base
    unfolding open_volume
    open_late n e = rw (rows_split s (state_at s base), then_passed (bytes_refusals s) (fields_refusals s (state_at s base)) early, e)

    pub open_success : first_refusal (fields_refusals s (state_at s base)) ≡ none → opened (state_at s base) ≡ open_volume s base
    unfolding open_volume
    open_success e = rw (rows_split s (state_at s base), then_passed (bytes_refusals s) (fields_refusals s (state_at s base)) early, e)

  -- opening by its table as a whole
  pub opening_refused : (n : ℕ) → first_refusal (open_refusals s (state_at s base)) ≡ some n → open_volume s base ≡ opens (refused n) zero_state
  unfolding open_volume
  opening_refused n e = rw e

  pub opening_success : first_refusal (open_refusals s (state_at s base)) ≡ none → open_volume s base ≡ opened (state_at s base)
  unfolding open_volume
  opening_success e = rw e

  -- where opening succeeds no row applies
  pub opened-passed : (open_volume s base).answer ≡ success [] → first_refusal (open_refusals s (state_at s base)) ≡ none
  unfolding open_volume
  opened-passed = go (first_refusal (open_refusals s (state_at s base)))
    where
      go : (o : Option ℕ) → (unless_refused (λ n. opens (refused n) zero_state) o (opened (state_at s base))).answer ≡ success [] → o ≡ none
      go none e = refl
      go (some n) e = cc

-- the state that opening answers, also the zero state beside a refusal, keeps the limit of entries
pub opened_entries : (s : List ℕ) (base : ℕ) → (open_volume s base).state.entries ≤ max_entries
unfolding open_volume zero_state state_of state_with
opened_entries s base = go (first_refusal (bytes_refusals s)) refl
  where
    st : State
    st = state_at s base

    answer : Option ℕ → Opens
    answer o = unless_refused (λ n. opens (refused n) zero_state) o (opened st)

    kept : (o : Option ℕ) → Readable s → (answer o).state.entries ≤ max_entries
    kept none r = let b = entries_bound s base r in omega arith
    kept (some n) r = omega arith

    go : (o : Option ℕ) → first_refusal (bytes_refusals s) ≡ o → (answer (first_refusal (open_refusals s st))).state.entries ≤ max_entries
    go none p = rw (rows_split s (state_at s base), then_passed (bytes_refusals s) (fields_refusals s st) p) (kept (first_refusal (fields_refusals s st)) (readable s p))
    go (some n) p = rw (rows_split s (state_at s base), then_refused (bytes_refusals s) (fields_refusals s st) n p) (omega arith)
