-- A fault is found no earlier than every byte before it came: what the walk meets from a place on is not found before that place.
use Rattle.std.proofs.Common.{◌≡◌, ℕ, zero, suc, ◌+◌, ◌-◌, ◌<◌, ◌≤◌, Bool, true, false, cond, eqb, ltb, List, length, refl, add-zero, arith, ne_eqb}
use mathlib.Core.Option.{none}
use borrow.Author.Tests.{lt-leb}
use Rattle.sections.specs.Header.{head_at, Head, Fault, Closed, Open}
use Rattle.sections.specs.Partial.{bytes_for}
use Rattle.sections.specs.Walk.{Trace, done, fault, section, and_then, aligned, zeros, first_nonzero, part, after_padding, meet, siblings, walk}
use Rattle.sections.specs.declared.header.Mode.{Mode}
use Rattle.sections.proofs.header.Cases.{fault_range}
use Rattle.sections.proofs.header.Extent.{closed_within, open_within}
use Rattle.sections.proofs.walk.Padding.{first_nonzero_lem}
use Rattle.sections.proofs.walk.Starts.{walk_from}
use Rattle.receiver.specs.Received.{found_after, found_fault}

-- the fault of a walk, if it has one, stands at byte `low` or behind it, and is found with or after that byte
abbrev pub Behind : (low : ℕ) → Trace → Type 0
Behind low done = Unit {0}
Behind low (fault n start e) = (low ≤ start) × (n ≡ 206 → ⊥)
Behind low (section t f e rest) = Behind low rest

pub behind_then : (low : ℕ) (x y : Trace) → Behind low x → Behind low y → Behind low (and_then x y)
unfolding and_then
behind_then low done y p q = q
behind_then low (fault n start e) y p q = p
behind_then low (section t f e rest) y p q = behind_then low rest y p q

pub behind_less : (low low' : ℕ) (x : Trace) → low' ≤ low → Behind low x → Behind low' x
behind_less low low' done h p = tt
behind_less low low' (fault n start e) h p = let q = p.0 in (omega arith, p.1)
behind_less low low' (section t f e rest) h p = behind_less low low' rest h p

pub behind_padding : (low : ℕ) (s : List ℕ) (base e : ℕ) (rest : ℕ → Trace) → low ≤ base + e → Behind low (rest (aligned e)) → Behind low (after_padding s base e rest)
unfolding after_padding
behind_padding low s base e rest h p = go (zeros s e (aligned e - e)) refl
  where
    go : (b : Bool) → zeros s e (aligned e - e) ≡ b → Behind low (cond b (rest (aligned e)) (fault 207 (base + first_nonzero s e (aligned e - e)) (base + length s)))
    go true z = p
    go false z = let n = (first_nonzero_lem s e (aligned e - e) z).0 in (omega arith, λ z. omega arith)

module _ (mode : Mode) where
  module _ (n : ℕ) (inner : List ℕ → ℕ → Trace) (below : (l : List ℕ) (b : ℕ) → Behind b (inner l b)) (s : List ℕ) (base : ℕ) where
    behind_meet : (at : ℕ) (rest : ℕ → Trace) (h : Head) → head_at mode s at ≡ h → ((next : ℕ) → at ≤ next → Behind (base + next) (rest next))
        → Behind (base + at) (meet n inner s base at h rest)
    unfolding meet
    behind_meet at rest (Fault m) p q = let r = fault_range mode s at m p in (omega arith, λ z. omega arith)
    behind_meet at rest (Closed t first e) p q =
        let w = closed_within mode s at p in
        behind_padding (base + at) s base e rest (omega arith)
        (behind_less (base + aligned e) (base + at) (rest (aligned e)) (omega arith) (q (aligned e) (omega arith)))
    behind_meet at rest (Open t first f e) p q = go (eqb n 0)
      where
        go : (b : Bool) → Behind (base + at) (cond b (fault 205 (base + at) (base + length s))
            (section t (base + first) (base + e) (and_then (inner (part f e s) (base + f)) (after_padding s base e rest))))
        go true = (omega arith, λ z. omega arith)
        go false =
            let w = open_within mode s at p in
            behind_then (base + at) (inner (part f e s) (base + f)) (after_padding s base e rest)
            (behind_less (base + f) (base + at) (inner (part f e s) (base + f)) (omega arith) (below (part f e s) (base + f)))
            (behind_padding (base + at) s base e rest (omega arith)
            (behind_less (base + aligned e) (base + at) (rest (aligned e)) (omega arith) (q (aligned e) (omega arith))))

    behind_siblings : (fuel at : ℕ) → Behind (base + at) (siblings mode n inner fuel s base at)
    unfolding siblings
    behind_siblings zero at = tt
    behind_siblings (suc fuel) at =
        go (ltb at (length s)) (behind_meet at (siblings mode n inner fuel s base) (head_at mode s at) refl (λ next h. behind_siblings fuel next))
      where
        go : (b : Bool) → Behind (base + at) (meet n inner s base at (head_at mode s at) (siblings mode n inner fuel s base))
            → Behind (base + at) (cond b (meet n inner s base at (head_at mode s at) (siblings mode n inner fuel s base)) done)
        go true p = p
        go false p = tt

  pub behind_walk : (n : ℕ) (s : List ℕ) (base : ℕ) → Behind base (walk mode n s base)
  unfolding walk
  behind_walk zero s base = rw (add-zero base) at (behind_siblings 0 (λ l b. done) (λ l b. tt) s base (length s) 0)
  behind_walk (suc n) s base = rw (add-zero base) at (behind_siblings (suc n) (walk mode n) (behind_walk n) s base (length s) 0)

  pub behind_from : (n : ℕ) (s : List ℕ) (base at : ℕ) → Behind (base + at) (walk_from mode n s base at)
  unfolding walk_from
  behind_from zero s base at = behind_siblings 0 (λ l b. done) (λ l b. tt) s base (length s) at
  behind_from (suc n) s base at = behind_siblings (suc n) (walk mode n) (behind_walk n) s base (length s) at

-- so it is not found before that byte
module _ (mode : Mode) (file : List ℕ) where
  after_start : (n start e : ℕ) → (n ≡ 206 → ⊥) → start ≤ found_after mode file n start e
  unfolding found_after
  after_start n start e other = rw (ne_eqb n 206 other) (go (eqb n 207))
    where
      go : (b : Bool) → start ≤ cond b (start + 1) (start + bytes_for mode (e - start) file start n)
      go true = omega arith
      go false = omega arith

  pub late : (came low : ℕ) (x : Trace) → came < low → Behind low x → found_fault mode file came x ≡ none
  unfolding found_fault
  late came low done h p = refl
  late came low (fault n start e) h p =
      let q = p.0 in
      let a = after_start n start e p.1 in
      rw (lt-leb (found_after mode file n start e) came (omega arith))
  late came low (section t f e rest) h p = late came low rest h p
