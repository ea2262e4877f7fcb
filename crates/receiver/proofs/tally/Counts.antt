-- The sections that were met, one after the other, are those of the walk: their number, and the one wanted.
use Rattle.std.proofs.Common.{◌≡◌, ℕ, zero, suc, ◌+◌, ◌-◌, ◌%◌, ◌^◌, ◌<◌, Bool, true, false, cond, eqb, List, [], ◌∷◌, length, refl, ap, ◌∙◌, mod-eq_of_lt, arith, ne_eqb}
use lib.ListN.{get_elem?}
use Rattle.common.specs.Answers.{success}
use Rattle.sections.specs.Search.{Section, of_type}
use Rattle.receiver.specs.Received.{counted_answer}
use Rattle.receiver.specs.Receiver.{no_tally, tally_answer}
use Rattle.receiver.specs.Tally.{counted, visited, Tally}

-- at a section, where the count does not wrap
abbrev pub counts : Tally → (want t first e : ℕ) → Tally
counts tally want t first e =
    let wanted : Tally = record { count = tally.count + 1; before = 0; met = true; first = first; end = e } in
    let next = cond (eqb tally.before 0) wanted (counted tally (tally.count + 1) (tally.before - 1)) in
    cond (eqb t want) (cond tally.met (counted tally (tally.count + 1) tally.before) next) (counted tally (tally.count + 1) tally.before)

pub visits : (tally : Tally) (want t first e : ℕ) → tally.count + 1 < 2 ^ 64 → visited tally want t first e ≡ counts tally want t first e
unfolding visited
visits tally want t first e small = let c : (tally.count + 1) % 2 ^ 64 ≡ tally.count + 1 = mod-eq_of_lt small in rw c

pub counts_one : (tally : Tally) (want t first e : ℕ) → (counts tally want t first e).count ≡ tally.count + 1
counts_one tally want t first e = go (eqb t want) tally.met (eqb tally.before 0)
  where
    go : (a b c : Bool) → (cond a (cond b (counted tally (tally.count + 1) tally.before)
        (cond c (record { count = tally.count + 1; before = 0; met = true; first = first; end = e }) (counted tally (tally.count + 1) (tally.before - 1))))
        (counted tally (tally.count + 1) tally.before)).count ≡ tally.count + 1
    go true true c = refl
    go true false true = refl
    go true false false = refl
    go false b c = refl

-- at one section after the other
pub tallied : (want : ℕ) → Tally → List Section → Tally
tallied want a [] = a
tallied want a (x ∷ l) = tallied want (counts a want x.section_type x.first x.end) l

pub tallied_more : (want : ℕ) (a : Tally) (x : Section) (l : List Section)
    → tallied want a (x ∷ l) ≡ tallied want (counts a want x.section_type x.first x.end) l
unfolding tallied
tallied_more want a x l = refl

pub tallied_none : (want : ℕ) (a : Tally) → tallied want a [] ≡ a
unfolding tallied
tallied_none want a = refl

-- once the section wanted is met, they only count
met_on : (want : ℕ) (a : Tally) (l : List Section) → a.met ≡ true
    → tally_answer (tallied want a l) ≡ success ((a.count + length l) ∷ a.first ∷ a.end ∷ [])
unfolding tallied tally_answer
met_on want a [] m = let c : a.count + 0 ≡ a.count = omega arith in rw (m, c)
met_on want a (x ∷ l) m = go (eqb x.section_type want) (met_on want (counted a (a.count + 1) a.before) l m)
  where
    next : Bool → Tally
    next b = cond b (cond a.met (counted a (a.count + 1) a.before)
        (cond (eqb a.before 0) (record { count = a.count + 1; before = 0; met = true; first = x.first; end = x.end })
        (counted a (a.count + 1) (a.before - 1)))) (counted a (a.count + 1) a.before)

    go : (b : Bool) → tally_answer (tallied want (counted a (a.count + 1) a.before) l) ≡ success ((a.count + 1 + length l) ∷ a.first ∷ a.end ∷ [])
        → tally_answer (tallied want (next b) l) ≡ success ((a.count + suc (length l)) ∷ a.first ∷ a.end ∷ [])
    go true ih = let c : a.count + suc (length l) ≡ a.count + 1 + length l = omega arith in rw (m, c) (rw m at ih)
    go false ih = let c : a.count + suc (length l) ≡ a.count + 1 + length l = omega arith in rw c ih

-- the number of sections, and the one wanted, or 14
tally_from : (want : ℕ) (a : Tally) (l : List Section) → a.met ≡ false
    → tally_answer (tallied want a l) ≡ counted_answer (a.count + length l) (get_elem? (of_type want l) a.before)
unfolding tallied tally_answer of_type
tally_from want a [] m = rw m
tally_from want a (x ∷ l) m =
    go (eqb x.section_type want) a.before refl
    (λ (n : ℕ). tally_from want (counted a (a.count + 1) n) l m)
    (met_on want (record { count = a.count + 1; before = 0; met = true; first = x.first; end = x.end }) l refl)
  where
    c : a.count + suc (length l) ≡ a.count + 1 + length l
    c = omega arith

    wanted : Tally
    wanted = record { count = a.count + 1; before = 0; met = true; first = x.first; end = x.end }

    next : Bool → ℕ → Tally
    next b n = cond b (cond a.met (counted a (a.count + 1) n) (cond (eqb n 0) wanted (counted a (a.count + 1) (n - 1)))) (counted a (a.count + 1) n)

    go : (b : Bool) (n : ℕ) → a.before ≡ n
        → ((n : ℕ) → tally_answer (tallied want (counted a (a.count + 1) n) l) ≡ counted_answer (a.count + 1 + length l) (get_elem? (of_type want l) n))
        → tally_answer (tallied want wanted l) ≡ success ((a.count + 1 + length l) ∷ x.first ∷ x.end ∷ [])
        → tally_answer (tallied want (next b n) l) ≡ counted_answer (a.count + suc (length l)) (get_elem? (cond b (x ∷ of_type want l) (of_type want l)) n)
    go false n e ih w = rw c (ih n)
    go true zero e ih w = rw (m, c) w
    go true (suc n) e ih w = let q : suc n - 1 ≡ n = omega arith in rw (m, ne_eqb (suc n) 0 (λ z. omega arith), q, c) (rw m at (ih n))

pub tally_answer_lem : (want instance : ℕ) (l : List Section)
    → tally_answer (tallied want (no_tally instance) l) ≡ counted_answer (length l) (get_elem? (of_type want l) instance)
tally_answer_lem want instance l =
    let z : 0 + length l ≡ length l = omega arith in
    tally_from want (no_tally instance) l refl ∙ ap (λ (n : ℕ). counted_answer n (get_elem? (of_type want l) instance)) z
