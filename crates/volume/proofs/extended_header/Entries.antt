-- Laws of an extended header's entries: the recursion without its steps, an entry at a time, as the walks meet them.
use Rattle.std.proofs.Common.{◌≡◌, ℕ, zero, suc, ◌+◌, ◌-◌, ◌<◌, ◌≤◌, Bool, true, false, cond, eqb, ltb, List, [], ◌∷◌, sym, refl, ap, ◌∙◌, true≢false, arith, ltb-false, ltb-true, le-ltb, lt-ltb, eq-eqb, ne_eqb}
use mathlib.Core.Bool.{or-true, or-false}
use mathlib.Core.Option.{Option, none, some}
use Rattle.common.specs.Refusals.{any}
use Rattle.common.proofs.Refusals.{any-passed}
use Rattle.numbers.specs.LittleEndian.{le}
use Rattle.volume.specs.ExtendedHeader.{ext_offset, Entry, ext_entry_at, entry_fault, entry_before, entries_in, entries_from, ext_size_at, ext_entries, entries_faulty, ext_fault}
use Rattle.volume.specs.ExtendedEntry.{entries_listed}

-- where no fault is, the entry lies within, with its size and type, and the other way round
pub sound : (s : List ℕ) (at end : ℕ) → entry_fault s at end ≡ false → (at + 4 ≤ end) × (4 ≤ le 2 s at) × (at + le 2 s at ≤ end)
sound s at end e =
    let a = any-passed (ltb end (at + 4)) _ e in
    let b = any-passed (ltb (le 2 s at) 4) _ a.1 in
    let c = any-passed (ltb end (at + le 2 s at)) _ b.1 in
    (ltb-false _ _ a.0, ltb-false _ _ b.0, ltb-false _ _ c.0)

pub whole : (s : List ℕ) (at end : ℕ) → at + 4 ≤ end → 4 ≤ le 2 s at → at + le 2 s at ≤ end → entry_fault s at end ≡ false
unfolding any
whole s at end p q r = rw (le-ltb end (at + 4) p, le-ltb (le 2 s at) 4 q, le-ltb end (at + le 2 s at) r)

-- past the end an entry is cut
past_cut : (s : List ℕ) (at end : ℕ) → end ≤ at → entry_fault s at end ≡ true
unfolding any
past_cut s at end h = rw (lt-ltb end (at + 4) (omega arith))

-- steps beyond the bytes that are left change nothing
enough : (k : ℕ) (s : List ℕ) (at end : ℕ) → end - at ≤ k → entries_in (suc k) s at end ≡ entries_in k s at end
unfolding entries_in
enough zero s at end h = ap (λ (o : Option (List Entry)). cond (eqb at end) (some []) o) (rw (past_cut s at end (omega arith)))
enough (suc k) s at end h = ap (λ (o : Option (List Entry)). cond (eqb at end) (some []) o) (go (λ e. enough k s (at + le 2 s at) end e) (entry_fault s at end) refl)
  where
    go : (end - (at + le 2 s at) ≤ k → entries_in (suc k) s (at + le 2 s at) end ≡ entries_in k s (at + le 2 s at) end)
        → (t : Bool) → entry_fault s at end ≡ t
        → cond t none (entry_before (ext_entry_at s at) (entries_in (suc k) s (at + le 2 s at) end))
        ≡ cond t none (entry_before (ext_entry_at s at) (entries_in k s (at + le 2 s at) end))
    go ih true e = refl
    go ih false e = ap (λ (o : Option (List Entry)). entry_before (ext_entry_at s at) o) (let w = sound s at end e in ih (omega arith))

enough_all : (d n : ℕ) (s : List ℕ) (at end : ℕ) → n ≡ d + (end - at) → entries_in n s at end ≡ entries_from s at end
unfolding entries_from
enough_all zero n s at end e = let z : n ≡ end - at = omega arith in rw z
enough_all (suc d) n s at end e =
    let z : n ≡ suc (d + (end - at)) = omega arith in
    rw z (enough (d + (end - at)) s at end (omega arith) ∙ enough_all d (d + (end - at)) s at end refl)

from_steps : (k : ℕ) (s : List ℕ) (at end : ℕ) → end - at ≤ k → entries_in k s at end ≡ entries_from s at end
from_steps k s at end h = enough_all (k - (end - at)) k s at end (omega arith)

-- the laws without steps: at the end there is no entry more
pub entries_end : (s : List ℕ) (end : ℕ) → entries_from s end end ≡ some []
unfolding entries_from entries_in
entries_end s end = let z : end - end ≡ 0 = omega arith in rw (z, eq-eqb end end refl)

one_step : (s : List ℕ) (at end : ℕ) → (at ≡ end → ⊥)
    → entries_from s at end ≡ cond (entry_fault s at end) none (entry_before (ext_entry_at s at) (entries_from s (at + le 2 s at) end))
unfolding entries_from entries_in
one_step s at end h = sym (enough (end - at) s at end (omega arith)) ∙ rw (ne_eqb at end h) (go (entry_fault s at end) refl)
  where
    go : (t : Bool) → entry_fault s at end ≡ t
        → cond t none (entry_before (ext_entry_at s at) (entries_in (end - at) s (at + le 2 s at) end))
        ≡ cond t none (entry_before (ext_entry_at s at) (entries_in (end - (at + le 2 s at)) s (at + le 2 s at) end))
    go true e = refl
    go false e =
        ap (λ (o : Option (List Entry)). entry_before (ext_entry_at s at) o)
        (let w = sound s at end e in from_steps (end - at) s (at + le 2 s at) end (omega arith))

-- before it, an entry at fault leaves none
pub entries_fault : (s : List ℕ) (at end : ℕ) → (at ≡ end → ⊥) → entry_fault s at end ≡ true → entries_from s at end ≡ none
entries_fault s at end h e = one_step s at end h ∙ rw e

-- and a good one stands before those that follow it
pub entries_next : (s : List ℕ) (at end : ℕ) → (at ≡ end → ⊥) → entry_fault s at end ≡ false
    → entries_from s at end ≡ entry_before (ext_entry_at s at) (entries_from s (at + le 2 s at) end)
entries_next s at end h e = one_step s at end h ∙ rw e

-- ---- as the walk for faults meets them

module _ (s : List ℕ) (at end : ℕ) (inside : at < end) where
  pub small_faulty : le 2 s at < 4 → entries_faulty (entries_from s at end) ≡ true
  unfolding entries_faulty any
  small_faulty h = rw (entries_fault s at end (λ e. omega arith) (rw (lt-ltb (le 2 s at) 4 h, or-true)))

  pub past_faulty : end - at < le 2 s at → entries_faulty (entries_from s at end) ≡ true
  unfolding entries_faulty any
  past_faulty h = rw (entries_fault s at end (λ e. omega arith) (rw (lt-ltb end (at + le 2 s at) (omega arith), or-true, or-true)))

  before_faulty : (o : Option (List Entry)) → entries_faulty (entry_before (ext_entry_at s at) o) ≡ entries_faulty o
  unfolding entry_before entries_faulty
  before_faulty none = refl
  before_faulty (some rest) = refl

  pub next_faulty : 4 ≤ le 2 s at → le 2 s at ≤ end - at → entries_faulty (entries_from s at end) ≡ entries_faulty (entries_from s (at + le 2 s at) end)
  next_faulty q r =
      ap entries_faulty (entries_next s at end (λ e. omega arith) (whole s at end (omega arith) q (omega arith))) ∙ before_faulty (entries_from s (at + le 2 s at) end)

pub end_faulty : (s : List ℕ) (at end : ℕ) → at ≡ end → entries_faulty (entries_from s at end) ≡ false
unfolding entries_faulty
end_faulty s at end e = rw (e, entries_end s end)

-- ---- as the walk to a number meets them, where none is at fault

-- what a good list is at its start
pub record Next (s : List ℕ) (at end : ℕ) : Type 0 where
  pub whole : at + 4 ≤ end
  pub size : 4 ≤ le 2 s at
  pub within : at + le 2 s at ≤ end
  pub rest : entries_faulty (entries_from s (at + le 2 s at) end) ≡ false
  pub list : entries_listed (entries_from s at end) ≡ ext_entry_at s at ∷ entries_listed (entries_from s (at + le 2 s at) end)

listed_before : (e : Entry) (o : Option (List Entry)) → entries_faulty (entry_before e o) ≡ false → (entries_faulty o ≡ false) × (entries_listed (entry_before e o) ≡ e ∷ entries_listed o)
unfolding entry_before entries_faulty entries_listed
listed_before e none h = absurd (true≢false h)
listed_before e (some rest) h = (refl, refl)

pub next : (s : List ℕ) (at end : ℕ) → at < end → entries_faulty (entries_from s at end) ≡ false → Next s at end
unfolding entries_faulty
next s at end inside ok = go (entry_fault s at end) refl
  where
    go : (t : Bool) → entry_fault s at end ≡ t → Next s at end
    go true e = absurd (true≢false (rw (entries_fault s at end (λ z. omega arith) e) at ok))
    go false e =
        let w = sound s at end e in
        let n = entries_next s at end (λ z. omega arith) e in
        let b = listed_before (ext_entry_at s at) (entries_from s (at + le 2 s at) end) (rw n at ok) in
        record { whole = w.0; size = w.1; within = w.2; rest = b.0; list = ap entries_listed n ∙ b.1 }

-- a good list does not start past its end
pub good_within : (s : List ℕ) (at end : ℕ) → entries_faulty (entries_from s at end) ≡ false → at ≤ end
unfolding entries_faulty
good_within s at end ok = go (ltb end at) refl
  where
    go : (t : Bool) → ltb end at ≡ t → at ≤ end
    go true e =
        let p : end < at = ltb-true _ _ e in
        absurd (true≢false (rw (entries_fault s at end (λ z. omega arith) (past_cut s at end (omega arith))) at ok))
    go false e = ltb-false _ _ e

-- ---- rule 112, test by test

pub no_offset : (s : List ℕ) (h len : ℕ) {o : ℕ} → o ≡ 0 → false ≡ ext_fault s h len o
unfolding ext_fault
no_offset s h len e = rw e

pub none_due : (s : List ℕ) (h len : ℕ) → ext_fault s h len 0 ≡ false
none_due s h len = sym (no_offset s h len refl)

pub reserved_offset : (s : List ℕ) (edition : ℕ) → (edition ≡ 2 → ⊥) → ext_offset edition s ≡ 0
unfolding ext_offset
reserved_offset s edition other = rw (ne_eqb edition 2 other)

-- so it is not due in edition 1, and in edition 2 as the offset read says
pub first_due : (s : List ℕ) (edition h len : ℕ) → (edition ≡ 2 → ⊥) → false ≡ ext_fault s h len (ext_offset edition s)
first_due s edition h len other = no_offset s h len (reserved_offset s edition other)

pub second_due : (s : List ℕ) (edition h len : ℕ) → edition ≡ 2 → (o : ℕ) → o ≡ le 2 s 52 → (t : Bool) → t ≡ ext_fault s h len o
    → t ≡ ext_fault s h len (ext_offset edition s)
unfolding ext_offset
second_due s edition h len two o read t e = e ∙ rw (two, read)

-- what passes
pub record Extended (s : List ℕ) (h len o : ℕ) : Type 0 where
  pub behind : h ≤ o
  pub head : o + 20 ≤ len
  pub least : 20 ≤ ext_size_at s o
  pub within : o + ext_size_at s o ≤ len
  pub good : entries_faulty (ext_entries s o) ≡ false

module _ (s : List ℕ) (h len o : ℕ) (offset : o ≡ 0 → ⊥) where
  pub starts_inside : o < h → true ≡ ext_fault s h len o
  unfolding ext_fault any
  starts_inside e = rw (ne_eqb o 0 offset, lt-ltb o h e)

  pub head_leaves : len < o + 20 → true ≡ ext_fault s h len o
  unfolding ext_fault any
  head_leaves e = rw (ne_eqb o 0 offset, lt-ltb len (o + 20) e, or-true)

  pub under_twenty : ext_size_at s o < 20 → true ≡ ext_fault s h len o
  unfolding ext_fault any
  under_twenty e = rw (ne_eqb o 0 offset, lt-ltb (ext_size_at s o) 20 e, or-true, or-true)

  pub size_leaves : len < o + ext_size_at s o → true ≡ ext_fault s h len o
  unfolding ext_fault any
  size_leaves e = rw (ne_eqb o 0 offset, lt-ltb len (o + ext_size_at s o) e, or-true, or-true, or-true)

  pub entries_decide : h ≤ o → o + 20 ≤ len → 20 ≤ ext_size_at s o → o + ext_size_at s o ≤ len → entries_faulty (ext_entries s o) ≡ ext_fault s h len o
  unfolding ext_fault any
  entries_decide a b d e =
      rw (ne_eqb o 0 offset, le-ltb o h a, le-ltb len (o + 20) b, le-ltb (ext_size_at s o) 20 d, le-ltb len (o + ext_size_at s o) e) (sym (or-false (entries_faulty (ext_entries s o))))

  pub extended : ext_fault s h len o ≡ false → Extended s h len o
  unfolding ext_fault
  extended e =
      let a = any-passed (ltb o h) _ (rw (ne_eqb o 0 offset) at e) in
      let b = any-passed (ltb len (o + 20)) _ a.1 in
      let c = any-passed (ltb (ext_size_at s o) 20) _ b.1 in
      let d = any-passed (ltb len (o + ext_size_at s o)) _ c.1 in
      let f = any-passed (entries_faulty (ext_entries s o)) _ d.1 in
      record { behind = ltb-false _ _ a.0; head = ltb-false _ _ b.0; least = ltb-false _ _ c.0; within = ltb-false _ _ d.0; good = f.0 }

  -- and what is so passes
  pub extended_passes : Extended s h len o → ext_fault s h len o ≡ false
  extended_passes x = sym (entries_decide x.behind x.head x.least x.within) ∙ x.good
