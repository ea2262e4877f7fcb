-- Laws of the numbered entry, as the walk to it meets them.
use Rattle.std.proofs.Common.{◌≡◌, ℕ, zero, suc, ◌+◌, ◌-◌, ◌<◌, ◌≤◌, Bool, true, false, eqb, List, [], ◌∷◌, length, sym, refl, ap, ◌∙◌, arith, ne_eqb, eqb-true}
use mathlib.Core.Option.{Option, none, some}
use borrow.Author.Tests.{eqb-false}
use Rattle.common.specs.Answers.{Answer, refused, success}
use Rattle.common.specs.Refusals.{first_refusal}
use Rattle.numbers.specs.LittleEndian.{le}
use Rattle.volume.specs.ExtendedHeader.{min_ext_header, ext_offset, ext_size_at, Entry, ext_entry_at, entry_before, entries_from, entries_faulty, ext_fault}
use Rattle.volume.specs.ExtendedEntry.{ext_entries_of, entry_of, ext_entry, entries_listed}
use Rattle.volume.specs.Header.{length_at, revision_at, header_length_at, state_at, open_refusals, Opens, opens, opened, open_volume}
use Rattle.volume.specs.State.{state_of, state_with, zero_state}
use Rattle.volume.specs.declared.state.State.{State}
use Rattle.volume.proofs.extended_header.Entries.{Next, next, good_within, whole, entries_end, entries_next, extended}
use Rattle.volume.proofs.header.Fields.{opened-passed, opening_refused, opening_success}
use Rattle.volume.proofs.header.Reading.{opened_extended}

-- number 0 is the entry that stands first
pub first_asked : (s : List ℕ) (at end left j : ℕ) → Next s at end → left ≡ 0 → j ≡ at + 2
    → entry_of (entries_listed (entries_from s at end)) left ≡ success (at ∷ le 2 s at ∷ le 2 s j ∷ [])
unfolding entry_of
first_asked s at end left j n e there = rw (n.list, e, there)

-- a later number is one less among those behind it
pub later_asked : (s : List ℕ) (at end left : ℕ) → Next s at end → 0 < left
    → entry_of (entries_listed (entries_from s at end)) left ≡ entry_of (entries_listed (entries_from s (at + le 2 s at) end)) (left - 1)
unfolding entry_of
later_asked s at end zero n h = absurd (omega arith)
later_asked s at end (suc left) n h = let e : suc left - 1 ≡ left = omega arith in rw (n.list, e)

-- at the end there is none
pub none_asked : (s : List ℕ) (at end left : ℕ) → at ≡ end → entry_of (entries_listed (entries_from s at end)) left ≡ refused 14
unfolding entry_of entries_listed
none_asked s at end left e = rw (e, entries_end s end)

-- ---- after opening, as the call has it in hand

module _ (s : List ℕ) (number : ℕ) where
  -- opening is refused
  pub entry_refused : (n : ℕ) → opens (refused n) zero_state ≡ open_volume s 0 → refused n ≡ ext_entry s number
  unfolding ext_entry
  entry_refused n o = rw (← o)

  module _ (st : State) (o : opened st ≡ open_volume s 0) where
    succeeded : (open_volume s 0).answer ≡ success []
    succeeded = sym (ap (λ (x : Opens). x.answer) o)

    entry_is : ext_entry s number ≡ entry_of (ext_entries_of s) number
    unfolding ext_entry
    entry_is = rw succeeded

    -- the edition is the revision
    edition_is : st.edition ≡ revision_at s
    unfolding open_volume state_at state_of state_with
    edition_is = ap (λ (x : Opens). x.state.edition) o ∙ rw (opened-passed s 0 succeeded)

    -- edition 1 has no entries
    pub no_edition : (st.edition ≡ 2 → ⊥) → refused 14 ≡ ext_entry s number
    unfolding ext_entries_of ext_offset entry_of
    no_edition other = sym (entry_is ∙ rw (← edition_is, ne_eqb st.edition 2 other))

    module _ (two : st.edition ≡ 2) where
      offset_is : ext_offset (revision_at s) s ≡ le 2 s 52
      unfolding ext_offset
      offset_is = rw (← edition_is, two)

      -- and without an offset there are none
      pub no_entries : (offset : ℕ) → offset ≡ le 2 s 52 → offset ≡ 0 → refused 14 ≡ ext_entry s number
      unfolding ext_entries_of entry_of
      no_entries offset read zero' = sym (entry_is ∙ rw (offset_is, ← read, zero'))

      module _ (offset : ℕ) (read : offset ≡ le 2 s 52) (some-offset : offset ≡ 0 → ⊥) (size : ℕ) (size-read : size ≡ le 4 s (offset + 16)) where
        -- none is at fault
        pub good_entries : entries_faulty (entries_from s (offset + 20) (offset + size)) ≡ false
        good_entries =
            let passed = opened_extended s 0 succeeded in
            let here : ext_fault s (header_length_at s) (length_at s) offset ≡ false = rw (offset_is, ← read) at passed in
            rw size-read (extended s (header_length_at s) (length_at s) offset some-offset here).good

        pub entry_asked : (a : Answer) → a ≡ entry_of (entries_listed (entries_from s (offset + 20) (offset + size))) number → a ≡ ext_entry s number
        unfolding ext_entries_of
        entry_asked a e = sym (entry_is ∙ rw (offset_is, ← read, ne_eqb offset 0 some-offset, ← size-read) (sym e))

-- ---- what the entries are

-- entries in a row from byte `at` to byte `end`: each is the one that stands there, of four bytes or more, and the next starts where it ends
pub InRow : List ℕ → ℕ → ℕ → List Entry → Type 0
InRow s at end [] = at ≡ end
InRow s at end (e ∷ rest) = (e ≡ ext_entry_at s at) × (4 ≤ le 2 s at) × InRow s (at + le 2 s at) end rest

-- the entries where none is at fault
row_end : (s : List ℕ) (at end : ℕ) → at ≡ end → InRow s at end (entries_listed (entries_from s at end))
unfolding InRow entries_listed
row_end s at end e = rw (e, entries_end s end) refl

listed-row : (k : ℕ) (s : List ℕ) (at end : ℕ) → end - at ≤ k → entries_faulty (entries_from s at end) ≡ false → InRow s at end (entries_listed (entries_from s at end))
unfolding InRow
listed-row zero s at end h ok = row_end s at end (let w = good_within s at end ok in omega arith)
listed-row (suc k) s at end h ok =
    go (λ p q. listed-row k s (at + le 2 s at) end p q) (eqb at end) refl
  where
    go : (end - (at + le 2 s at) ≤ k → entries_faulty (entries_from s (at + le 2 s at) end) ≡ false
        → InRow s (at + le 2 s at) end (entries_listed (entries_from s (at + le 2 s at) end)))
        → (t : Bool) → eqb at end ≡ t → InRow s at end (entries_listed (entries_from s at end))
    go ih true e = row_end s at end (eqb-true at end e)
    go ih false e =
        let n = next s at end (let w = good_within s at end ok in let d = eqb-false at end e in omega arith) ok in
        rw n.list (refl, n.size, ih (omega (arith, n.size)) n.rest)

pub entries_listed_lem : (s : List ℕ) (at end : ℕ) → entries_faulty (entries_from s at end) ≡ false → InRow s at end (entries_listed (entries_from s at end))
entries_listed_lem s at end ok = listed-row (end - at) s at end (omega arith) ok

-- a row does not end before its start
row_within : (s : List ℕ) (at end : ℕ) (es : List Entry) → InRow s at end es → at ≤ end
unfolding InRow
row_within s at end [] r = omega arith
row_within s at end (e ∷ rest) r = let w = row_within s (at + le 2 s at) end rest r.2 in omega arith

-- and entries that stand so are those, and none is at fault
pub row_listed : (s : List ℕ) (at end : ℕ) (es : List Entry) → InRow s at end es → entries_from s at end ≡ some es
unfolding InRow entry_before
row_listed s at end [] r = ap (λ (x : ℕ). entries_from s x end) r ∙ entries_end s end
row_listed s at end (e ∷ rest) r =
    let w = row_within s (at + le 2 s at) end rest r.2 in
    entries_next s at end (λ z. let l = r.1 in omega arith) (whole s at end (omega (arith, r.1)) r.1 (omega arith))
    ∙ ap (λ (o : Option (List Entry)). entry_before (ext_entry_at s at) o) (row_listed s (at + le 2 s at) end rest r.2)
    ∙ ap (λ (x : Entry). some (x ∷ rest)) (sym r.0)

-- an entry of a row that is answered
pub record Answered (s : List ℕ) (at end f z t : ℕ) : Type 0 where
  pub from : at ≤ f
  pub least : 4 ≤ z
  pub to : f + z ≤ end
  pub size : z ≡ le 2 s f
  pub type : t ≡ le 2 s (f + 2)

answered : (s : List ℕ) (at end : ℕ) (es : List Entry) → InRow s at end es → (n f z t : ℕ) → entry_of es n ≡ success (f ∷ z ∷ t ∷ []) → Answered s at end f z t
unfolding InRow entry_of
answered s at end [] r n f z t a = absurd (let q : ◌≡◌ {A = ℕ} 0 1 = cc in omega arith)
answered s at end (e ∷ rest) r zero f z t a =
    let first : at ≡ f = ap (λ (x : Entry). x.first) (sym r.0) ∙ cc in
    let size : le 2 s at ≡ z = ap (λ (x : Entry). x.size) (sym r.0) ∙ cc in
    let type : le 2 s (at + 2) ≡ t = ap (λ (x : Entry). x.type) (sym r.0) ∙ cc in
    let w = row_within s (at + le 2 s at) end rest r.2 in
    record {
      from = omega arith;
      least = omega (arith, r.1);
      to = omega arith;
      size = sym size ∙ ap (λ (x : ℕ). le 2 s x) first;
      type = sym type ∙ ap (λ (x : ℕ). le 2 s (x + 2)) first;
    }
answered s at end (e ∷ rest) r (suc n) f z t a =
    let x = answered s (at + le 2 s at) end rest r.2 n f z t a in
    record { from = omega (arith, x.from); least = x.least; to = x.to; size = x.size; type = x.type }

-- the next starts where it ends
answered_next : (s : List ℕ) (at end : ℕ) (es : List Entry) → InRow s at end es → (n f z t f' z' t' : ℕ) → entry_of es n ≡ success (f ∷ z ∷ t ∷ [])
    → entry_of es (n + 1) ≡ success (f' ∷ z' ∷ t' ∷ []) → f' ≡ f + z
unfolding InRow entry_of
answered_next s at end [] r n f z t f' z' t' a b = absurd (let q : ◌≡◌ {A = ℕ} 0 1 = cc in omega arith)
answered_next s at end (e ∷ []) r zero f z t f' z' t' a b = absurd (let q : ◌≡◌ {A = ℕ} 0 1 = cc in omega arith)
answered_next s at end (e ∷ d ∷ rest) r zero f z t f' z' t' a b =
    let first : at ≡ f = ap (λ (x : Entry). x.first) (sym r.0) ∙ cc in
    let size : le 2 s at ≡ z = ap (λ (x : Entry). x.size) (sym r.0) ∙ cc in
    let after : at + le 2 s at ≡ f' = ap (λ (x : Entry). x.first) (sym r.2.0) ∙ cc in
    omega arith
answered_next s at end (e ∷ rest) r (suc n) f z t f' z' t' a b =
    let step : suc n + 1 ≡ suc (n + 1) = omega arith in
    answered_next s (at + le 2 s at) end rest r.2 n f z t f' z' t' a (rw step at b)

-- an entry is answered exactly below their number
entry_below : (es : List Entry) (n : ℕ) → n < length es → (f : ℕ) × (z : ℕ) × (t : ℕ) × (entry_of es n ≡ success (f ∷ z ∷ t ∷ []))
unfolding entry_of
entry_below [] n h = absurd (omega arith)
entry_below (e ∷ rest) zero h = (e.first, e.size, e.type, refl)
entry_below (e ∷ rest) (suc n) h = entry_below rest n (omega arith)

entry_past : (es : List Entry) (n : ℕ) → length es ≤ n → entry_of es n ≡ refused 14
unfolding entry_of
entry_past [] n h = refl
entry_past (e ∷ rest) zero h = absurd (omega arith)
entry_past (e ∷ rest) (suc n) h = entry_past rest n (omega arith)

-- ---- the call, for the reader

module _ (s : List ℕ) where
  abbrev o : ℕ
  o = ext_offset (revision_at s) s

  -- opening's refusal is answered as it is
  pub opening_refusal : (n k : ℕ) → (open_volume s 0).answer ≡ refused k → ext_entry s n ≡ refused k
  unfolding ext_entry
  opening_refusal n k h = rw h

  module _ (success-s : (open_volume s 0).answer ≡ success []) where
    entry_answer_lem : (n : ℕ) → ext_entry s n ≡ entry_of (ext_entries_of s) n
    unfolding ext_entry
    entry_answer_lem n = rw success-s

    -- 14 without an extended header, as in edition 1
    pub none_listed : (n : ℕ) → o ≡ 0 → ext_entry s n ≡ refused 14
    unfolding ext_entries_of entry_of
    none_listed n z = entry_answer_lem n ∙ rw z

    -- it succeeds exactly for the numbers below the number of entries
    pub listed_below : (n : ℕ) → n < length (ext_entries_of s) → (f : ℕ) × (z : ℕ) × (t : ℕ) × (ext_entry s n ≡ success (f ∷ z ∷ t ∷ []))
    listed_below n h = let e = entry_below (ext_entries_of s) n h in (e.0, e.1, e.2, entry_answer_lem n ∙ e.3)

    pub listed_past : (n : ℕ) → length (ext_entries_of s) ≤ n → ext_entry s n ≡ refused 14
    listed_past n h = entry_answer_lem n ∙ entry_past (ext_entries_of s) n h

    -- the entries stand in a row, from behind the extended header's own 20 bytes to its end
    pub entries_row : (o ≡ 0 → ⊥) → InRow s (o + min_ext_header) (o + ext_size_at s o) (ext_entries_of s)
    unfolding ext_entries_of
    entries_row h =
        let x = extended s (header_length_at s) (length_at s) o h (opened_extended s 0 success-s) in
        rw (ne_eqb o 0 h) (entries_listed_lem s (o + 20) (o + ext_size_at s o) x.good)

  -- what is answered is in the volume, of four bytes or more, and its size and type are what stands there
  answers_opened : (n : ℕ) (values : List ℕ) → ext_entry s n ≡ success values → ((open_volume s 0).answer ≡ success []) × (o ≡ 0 → ⊥)
  unfolding ext_entry ext_entries_of entry_of
  answers_opened n values h = go (first_refusal (open_refusals s (state_at s 0))) refl
    where
      go : (x : Option ℕ) → first_refusal (open_refusals s (state_at s 0)) ≡ x → ((open_volume s 0).answer ≡ success []) × (o ≡ 0 → ⊥)
      go none e =
          let ok : (open_volume s 0).answer ≡ success [] = ap (λ (x : Opens). x.answer) (opening_success s 0 e) in
          (ok, λ z. let q : refused 14 ≡ success values = sym (none_listed ok n z) ∙ h in let k : ◌≡◌ {A = ℕ} 0 1 = cc in omega arith)
      go (some m) e =
          let no : (open_volume s 0).answer ≡ refused m = ap (λ (x : Opens). x.answer) (opening_refused s 0 m e) in
          let q : refused m ≡ success values = sym (opening_refusal n m no) ∙ h in
          let k : ◌≡◌ {A = ℕ} 0 1 = cc in
          absurd (omega arith)

  pub entry_inside : (n f z t : ℕ) → ext_entry s n ≡ success (f ∷ z ∷ t ∷ []) → Answered s (o + min_ext_header) (o + ext_size_at s o) f z t × (f + z ≤ length_at s)
  entry_inside n f z t h =
      let a = answers_opened n (f ∷ z ∷ t ∷ []) h in
      let x = extended s (header_length_at s) (length_at s) o a.1 (opened_extended s 0 a.0) in
      let y = answered s (o + 20) (o + ext_size_at s o) (ext_entries_of s) (entries_row a.0 a.1) n f z t (sym (entry_answer_lem a.0 n) ∙ h) in
      (y, omega (arith, y.to, x.within))

  -- entry n + 1 starts where entry n ends
  pub entry_after : (n f z t f' z' t' : ℕ) → ext_entry s n ≡ success (f ∷ z ∷ t ∷ []) → ext_entry s (n + 1) ≡ success (f' ∷ z' ∷ t' ∷ []) → f' ≡ f + z
  entry_after n f z t f' z' t' h k =
      let a = answers_opened n (f ∷ z ∷ t ∷ []) h in
      answered_next s (o + 20) (o + ext_size_at s o) (ext_entries_of s) (entries_row a.0 a.1) n f z t f' z' t' (sym (entry_answer_lem a.0 n) ∙ h)
      (sym (entry_answer_lem a.0 (n + 1)) ∙ k)
