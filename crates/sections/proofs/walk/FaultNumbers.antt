-- Every fault of a walk has one of document 01's numbers, 201 to 207.
use Prim.Native.Nat.{ℕ, zero, suc, ◌+◌, ◌-◌, ◌≤◌}
use mathlib.Core.Path.{◌≡◌, refl}
use mathlib.Core.Bool.{Bool, true, false, cond}
use mathlib.Core.List.{List}
use mathlib.Core.Option.{some, none-ne-some}
use native.Mathlib.Omega.{arith}
use lib.Dec.{eqb, ltb}
use lib.ListN.{length}
use Rattle.sections.specs.Header.{head_at}
use Rattle.sections.specs.Search.{first_fault}
use Rattle.sections.specs.Walk.{Trace, done, fault, section, after_padding, aligned, and_then, first_nonzero, meet, part, siblings, stream_limit, stream_walk, walk, zeros}
use Rattle.sections.specs.Header.{Head, Fault, Closed, Open}
use Rattle.sections.specs.declared.header.Mode.{Mode}
use Rattle.sections.proofs.header.Cases.{fault_range}

abbrev pub Numbered : Trace → Type 0
Numbered done = Unit {0}
Numbered (fault n start e) = (201 ≤ n) × (n ≤ 207)
Numbered (section t f e rest) = Numbered rest

numbered_then : (x y : Trace) → Numbered x → Numbered y → Numbered (and_then x y)
unfolding and_then
numbered_then done y p q = q
numbered_then (fault n start e) y p q = p
numbered_then (section t f e rest) y p q = numbered_then rest y p q

numbered_padding : (s : List ℕ) (base e : ℕ) (rest : ℕ → Trace) → Numbered (rest (aligned e)) → Numbered (after_padding s base e rest)
unfolding after_padding
numbered_padding s base e rest p = go (zeros s e (aligned e - e))
  where
    go : (b : Bool) → Numbered (cond b (rest (aligned e)) (fault 207 (base + first_nonzero s e (aligned e - e)) (base + length s)))
    go true = p
    go false = (omega arith, omega arith)

module _ (mode : Mode) where
  module _ (n : ℕ) (inner : List ℕ → ℕ → Trace) (below : (l : List ℕ) (b : ℕ) → Numbered (inner l b)) (s : List ℕ) (base : ℕ) where
    numbered_meet : (at : ℕ) (rest : ℕ → Trace) (h : Head) → head_at mode s at ≡ h → ((next : ℕ) → Numbered (rest next)) → Numbered (meet n inner s base at h rest)
    unfolding meet
    numbered_meet at rest (Fault m) p q = let r = fault_range mode s at m p in (omega arith, omega arith)
    numbered_meet at rest (Closed t first e) p q = numbered_padding s base e rest (q (aligned e))
    numbered_meet at rest (Open t first f e) p q = go (eqb n 0)
      where
        go : (b : Bool) → Numbered (cond b (fault 205 (base + at) (base + length s))
            (section t (base + first) (base + e) (and_then (inner (part f e s) (base + f)) (after_padding s base e rest))))
        go true = (omega arith, omega arith)
        go false = numbered_then (inner (part f e s) (base + f)) (after_padding s base e rest) (below (part f e s) (base + f)) (numbered_padding s base e rest (q (aligned e)))

    numbered_siblings : (fuel at : ℕ) → Numbered (siblings mode n inner fuel s base at)
    unfolding siblings
    numbered_siblings zero at = tt
    numbered_siblings (suc fuel) at = go (ltb at (length s)) (numbered_meet at (siblings mode n inner fuel s base) (head_at mode s at) refl (λ next. numbered_siblings fuel next))
      where
        go : (b : Bool) → Numbered (meet n inner s base at (head_at mode s at) (siblings mode n inner fuel s base))
            → Numbered (cond b (meet n inner s base at (head_at mode s at) (siblings mode n inner fuel s base)) done)
        go true p = p
        go false p = tt

  numbered_walk : (n : ℕ) (s : List ℕ) (base : ℕ) → Numbered (walk mode n s base)
  unfolding walk
  numbered_walk zero s base = numbered_siblings 0 (λ l b. done) (λ l b. tt) s base (length s) 0
  numbered_walk (suc n) s base = numbered_siblings (suc n) (walk mode n) (numbered_walk n) s base (length s) 0

  pub numbered_stream : (s : List ℕ) → Numbered (stream_walk mode s)
  unfolding stream_walk
  numbered_stream s = go (ltb (stream_limit mode) (length s))
    where
      go : (b : Bool) → Numbered (cond b (fault 206 0 (length s)) (walk mode 7 s 0))
      go true = (omega arith, omega arith)
      go false = numbered_walk 7 s 0

  first_numbered : (n : ℕ) (x : Trace) → Numbered x → first_fault x ≡ some n → (201 ≤ n) × (n ≤ 207)
  unfolding first_fault
  first_numbered n done p e = absurd (none-ne-some n e)
  first_numbered n (fault m start f) p e = let z : m ≡ n = cc in (omega arith, omega arith)
  first_numbered n (section t f e rest) p q = first_numbered n rest p q

  pub fault_number_lem : (s : List ℕ) (n : ℕ) → first_fault (stream_walk mode s) ≡ some n → (201 ≤ n) × (n ≤ 207)
  fault_number_lem s n e = first_numbered n (stream_walk mode s) (numbered_stream s) e
