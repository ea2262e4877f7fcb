-- Every section that the walk meets lies inside its stream, in the places of the outer one.
use Prim.Native.Nat.{ℕ, zero, suc, ◌+◌, ◌-◌, ◌≤◌}
use mathlib.Core.Path.{◌≡◌, refl}
use mathlib.Core.Bool.{Bool, true, false, cond}
use mathlib.Core.List.{List}
use native.Mathlib.Omega.{arith}
use lib.Dec.{eqb, ltb}
use lib.ListN.{length, length-take}
use Rattle.sections.specs.Header.{own_fields, head_at}
use Rattle.sections.specs.Walk.{Trace, done, fault, section, and_then, aligned, zeros, first_nonzero, part, after_padding, meet, siblings, walk, stream_limit, stream_walk}
use Rattle.sections.specs.Header.{Head, Fault, Closed, Open}
use Rattle.sections.specs.declared.header.Mode.{Mode}
use Rattle.sections.proofs.header.Decided.{own_least}
use Rattle.sections.proofs.header.Extent.{closed_within, open_within}

-- every section of a trace lies between two places, and a holder's own fields in it
abbrev pub Inside : (low high : ℕ) → Trace → Type 0
Inside low high done = Unit {0}
Inside low high (fault n _ _) = Unit {0}
Inside low high (section t f e rest) = (low ≤ f) × (f + own_fields t ≤ e) × (e ≤ high) × Inside low high rest

inside_then : (low high : ℕ) (t u : Trace) → Inside low high t → Inside low high u → Inside low high (and_then t u)
unfolding and_then
inside_then low high done u p q = q
inside_then low high (fault n _ _) u p q = tt
inside_then low high (section t f e rest) u p q = (p.0, p.1, p.2, inside_then low high rest u p.3 q)

inside_wider : (low high low' high' : ℕ) (t : Trace) → low' ≤ low → high ≤ high' → Inside low high t → Inside low' high' t
inside_wider low high low' high' done a b p = tt
inside_wider low high low' high' (fault n _ _) a b p = tt
inside_wider low high low' high' (section t f e rest) a b p =
    let x = p.0 in let y = p.2 in
    (omega arith, p.1, omega arith, inside_wider low high low' high' rest a b p.3)

inside_padding : (low high : ℕ) (s : List ℕ) (base e : ℕ) (rest : ℕ → Trace) → Inside low high (rest (aligned e)) → Inside low high (after_padding s base e rest)
unfolding after_padding
inside_padding low high s base e rest p = go (zeros s e (aligned e - e))
  where
    go : (b : Bool) → Inside low high (cond b (rest (aligned e)) (fault 207 (base + first_nonzero s e (aligned e - e)) (base + length s)))
    go true = p
    go false = tt

module _ (mode : Mode) where
  module _ (n : ℕ) (inner : List ℕ → ℕ → Trace) (below : (l : List ℕ) (b : ℕ) → Inside b (b + length l) (inner l b)) (s : List ℕ) (base : ℕ) where
    inside_meet : (at : ℕ) (rest : ℕ → Trace) (h : Head) → head_at mode s at ≡ h → ((next : ℕ) → Inside base (base + length s) (rest next))
        → Inside base (base + length s) (meet n inner s base at h rest)
    unfolding meet
    inside_meet at rest (Fault m) p q = tt
    inside_meet at rest (Closed t first e) p q =
        let w = closed_within mode s at p in
        let o = own_least t in
        (omega arith, omega arith, omega arith, inside_padding base (base + length s) s base e rest (q (aligned e)))
    inside_meet at rest (Open t first f e) p q = go (eqb n 0)
      where
        go : (b : Bool) → Inside base (base + length s)
            (cond b (fault 205 (base + at) (base + length s)) (section t (base + first) (base + e) (and_then (inner (part f e s) (base + f)) (after_padding s base e rest))))
        go true = tt
        go false =
            let w = open_within mode s at p in
            let o = own_least t in
            let l : length (part f e s) ≤ e - f = simp length-take (omega arith) in (
              omega arith,
              omega arith,
              omega arith,
              inside_then base (base + length s) (inner (part f e s) (base + f)) (after_padding s base e rest)
                  (inside_wider (base + f) (base + f + length (part f e s)) base (base + length s) (inner (part f e s) (base + f)) (omega arith) (omega arith)
                  (below (part f e s) (base + f)))
                  (inside_padding base (base + length s) s base e rest (q (aligned e))),
            )

    inside_siblings : (fuel at : ℕ) → Inside base (base + length s) (siblings mode n inner fuel s base at)
    unfolding siblings
    inside_siblings zero at = tt
    inside_siblings (suc fuel) at =
        go (ltb at (length s)) (inside_meet at (siblings mode n inner fuel s base) (head_at mode s at) refl (inside_siblings fuel))
      where
        go : (b : Bool) → Inside base (base + length s) (meet n inner s base at (head_at mode s at) (siblings mode n inner fuel s base))
            → Inside base (base + length s) (cond b (meet n inner s base at (head_at mode s at) (siblings mode n inner fuel s base)) done)
        go true p = p
        go false p = tt

  -- every section that the walk meets lies inside its stream
  pub inside_walk : (n : ℕ) (s : List ℕ) (base : ℕ) → Inside base (base + length s) (walk mode n s base)
  unfolding walk
  inside_walk zero s base = inside_siblings 0 (λ l b. done) (λ l b. tt) s base (length s) 0
  inside_walk (suc n) s base = inside_siblings (suc n) (walk mode n) (inside_walk n) s base (length s) 0

-- so does the walk through a whole stream
pub inside_stream : (mode : Mode) (s : List ℕ) → Inside 0 (length s) (stream_walk mode s)
unfolding stream_walk
inside_stream mode s = go (ltb (stream_limit mode) (length s))
  where
    go : (b : Bool) → Inside 0 (length s) (cond b (fault 206 0 (length s)) (walk mode 7 s 0))
    go true = tt
    go false = let z : 0 + length s ≡ length s = omega arith in rw z at (inside_walk mode 7 s 0)
