-- Laws of the walk at each start, without the number that bounds the recursion: at the end of the stream it is done; at a start it is
-- the fault there, or the section, then its children, then its padding, then the walk at the next start. Nothing but the walk obeys them.
use Prim.Native.Nat.{ℕ, zero, suc, ◌+◌, ◌≤◌, ◌<◌}
use mathlib.Core.Path.{◌≡◌, refl, sym, ◌∙◌, fun_ext}
use mathlib.Core.Bool.{Bool, true, false, cond}
use mathlib.Core.List.{List}
use native.Mathlib.Omega.{arith}
use borrow.Author.Tests.{lt-ltb, le-ltb, ne_eqb, ltb-true, ltb-false}
use lib.Dec.{ltb}
use lib.ListN.{length}
use Rattle.sections.specs.Header.{head_at}
use Rattle.sections.specs.Walk.{Trace, done, fault, section, and_then, aligned, part, after_padding, meet, siblings, walk}
use Rattle.sections.specs.Header.{Head, Fault, Closed, Open}
use Rattle.sections.specs.declared.header.Mode.{Mode}
use Rattle.sections.proofs.header.Extent.{closed_within, open_within}

module _ (mode : Mode) where
  -- the walk one level down
  abbrev deeper : ℕ → List ℕ → ℕ → Trace
  deeper zero = λ l b. done
  deeper (suc n) = walk mode n

  walk-siblings : (n : ℕ) (s : List ℕ) (base : ℕ) → walk mode n s base ≡ siblings mode n (deeper n) (length s) s base 0
  unfolding walk
  walk-siblings zero s base = refl
  walk-siblings (suc n) s base = refl

  -- the sections of one stream at its end, and at a start
  siblings_end : (n : ℕ) (inner : List ℕ → ℕ → Trace) (fuel : ℕ) (s : List ℕ) (base at : ℕ) → length s ≤ at → siblings mode n inner fuel s base at ≡ done
  unfolding siblings
  siblings_end n inner zero s base at h = refl
  siblings_end n inner (suc fuel) s base at h = rw (le-ltb at (length s) h)

  siblings_here : (n : ℕ) (inner : List ℕ → ℕ → Trace) (fuel : ℕ) (s : List ℕ) (base at : ℕ) → at < length s
      → siblings mode n inner (suc fuel) s base at ≡ meet n inner s base at (head_at mode s at) (siblings mode n inner fuel s base)
  unfolding siblings
  siblings_here n inner fuel s base at h = rw (lt-ltb at (length s) h)

  -- the walk at a start depends on what follows only through the starts after it
  meet-same : (n : ℕ) (inner : List ℕ → ℕ → Trace) (s : List ℕ) (base at : ℕ) (rest rest' : ℕ → Trace) (h : Head) → head_at mode s at ≡ h
      → ((next : ℕ) → at + 4 ≤ next → rest next ≡ rest' next) → meet n inner s base at h rest ≡ meet n inner s base at h rest'
  unfolding meet after_padding
  meet-same n inner s base at rest rest' (Fault m) p q = refl
  meet-same n inner s base at rest rest' (Closed t first e) p q =
      let w = closed_within mode s at p in
      let next : rest (aligned e) ≡ rest' (aligned e) = q (aligned e) (omega arith) in
      rw next
  meet-same n inner s base at rest rest' (Open t first f e) p q =
      let w = open_within mode s at p in
      let next : rest (aligned e) ≡ rest' (aligned e) = q (aligned e) (omega arith) in
      rw next

  -- any two numbers that are large enough give the same walk
  siblings-same : (n : ℕ) (inner : List ℕ → ℕ → Trace) (j k : ℕ) (s : List ℕ) (base at : ℕ) → length s ≤ at + j → length s ≤ at + k
      → siblings mode n inner j s base at ≡ siblings mode n inner k s base at
  siblings-same n inner zero k s base at p q = siblings_end n inner zero s base at (omega arith) ∙ sym (siblings_end n inner k s base at (omega arith))
  siblings-same n inner (suc j) zero s base at p q = siblings_end n inner (suc j) s base at (omega arith) ∙ sym (siblings_end n inner zero s base at (omega arith))
  siblings-same n inner (suc j) (suc k) s base at p q =
      go (ltb at (length s)) refl (λ (next : ℕ) (b : at + 4 ≤ next). siblings-same n inner j k s base next (omega arith) (omega arith))
    where
      go : (b : Bool) → ltb at (length s) ≡ b → ((next : ℕ) → at + 4 ≤ next → siblings mode n inner j s base next ≡ siblings mode n inner k s base next)
          → siblings mode n inner (suc j) s base at ≡ siblings mode n inner (suc k) s base at
      go true e ih =
          let h = ltb-true at (length s) e in
          siblings_here n inner j s base at h
          ∙ meet-same n inner s base at (siblings mode n inner j s base) (siblings mode n inner k s base) (head_at mode s at) refl ih
          ∙ sym (siblings_here n inner k s base at h)
      go false e ih =
          let h = ltb-false at (length s) e in
          siblings_end n inner (suc j) s base at h ∙ sym (siblings_end n inner (suc k) s base at h)

  -- the walk through a stream from a start on
  unfoldable pub walk_from : (below : ℕ) → List ℕ → (base at : ℕ) → Trace
  walk_from n s base at = siblings mode n (deeper n) (length s) s base at

  pub walk-from_start : (n : ℕ) (s : List ℕ) (base : ℕ) → walk mode n s base ≡ walk_from n s base 0
  unfolding walk_from
  walk-from_start n s base = walk-siblings n s base

  -- the law without fuel: at the end of the stream the walk is done; at a start it is the fault there, or the section, then its
  -- children's walk, then its padding's fault, then the walk at the next start
  module _ (n : ℕ) (s : List ℕ) (base at : ℕ) where
    pub walk_end : length s ≤ at → walk_from n s base at ≡ done
    unfolding walk_from
    walk_end h = siblings_end n (deeper n) (length s) s base at h

    walk_here : at < length s → walk_from n s base at ≡ meet n (deeper n) s base at (head_at mode s at) (walk_from n s base)
    unfolding walk_from
    walk_here h =
        siblings-same n (deeper n) (length s) (suc (length s)) s base at (omega arith) (omega arith)
        ∙ siblings_here n (deeper n) (length s) s base at h

    pub walk_fault : {m : ℕ} → at < length s → head_at mode s at ≡ Fault m → walk_from n s base at ≡ fault m (base + at) (base + length s)
    unfolding meet
    walk_fault h e = walk_here h ∙ rw e

    pub walk_closed : {t first e : ℕ} → at < length s → head_at mode s at ≡ Closed t first e
        → walk_from n s base at ≡ section t (base + first) (base + e) (after_padding s base e (walk_from n s base))
    unfolding meet
    walk_closed h e = walk_here h ∙ rw e

  -- a holder to be searched on the eighth level, and on one above it
  pub walk_205 : (s : List ℕ) (base at : ℕ) {t first f e : ℕ} → at < length s → head_at mode s at ≡ Open t first f e
      → walk_from 0 s base at ≡ fault 205 (base + at) (base + length s)
  unfolding meet
  walk_205 s base at h e = walk_here 0 s base at h ∙ rw e

  pub walk_open : (n : ℕ) (s : List ℕ) (base at : ℕ) {t first f e : ℕ} → at < length s → head_at mode s at ≡ Open t first f e
      → walk_from (suc n) s base at
      ≡ section t (base + first) (base + e) (and_then (walk mode n (part f e s) (base + f)) (after_padding s base e (walk_from (suc n) s base)))
  unfolding meet
  walk_open n s base at h e = walk_here (suc n) s base at h ∙ rw (e, ne_eqb (suc n) 0 (λ z. omega arith))

  -- the same as one equation, which nothing but the walk obeys: `below` is the walk of a holder's contents
  abbrev pub below : (W : ℕ → List ℕ → ℕ → ℕ → Trace) → ℕ → List ℕ → ℕ → Trace
  below W zero = λ l b. done
  below W (suc n) = λ l b. W n l b 0

  abbrev pub Law : (ℕ → List ℕ → ℕ → ℕ → Trace) → Type 0
  Law W = (n : ℕ) (s : List ℕ) (base at : ℕ)
      → W n s base at ≡ cond (ltb at (length s)) (meet n (below W n) s base at (head_at mode s at) (W n s base)) done

  below_walk : (n : ℕ) → below walk_from n ≡ deeper n
  below_walk zero = refl
  below_walk (suc n) = fun_ext (λ l. fun_ext (λ b. sym (walk-from_start n l b)))

  pub walk_law : Law walk_from
  walk_law n s base at = go (ltb at (length s)) refl
    where
      go : (b : Bool) → ltb at (length s) ≡ b
          → walk_from n s base at ≡ cond (ltb at (length s)) (meet n (below walk_from n) s base at (head_at mode s at) (walk_from n s base)) done
      go true e =
          rw (e, below_walk n) (walk_here n s base at (ltb-true at (length s) e))
      go false e = rw e (walk_end n s base at (ltb-false at (length s) e))

  module _ (W : ℕ → List ℕ → ℕ → ℕ → Trace) (law : Law W) where
    only_here : (n : ℕ) → below W n ≡ deeper n → (fuel : ℕ) (s : List ℕ) (base at : ℕ) → length s ≤ at + fuel → W n s base at ≡ walk_from n s base at
    only_here n same zero s base at enough =
        let past : length s ≤ at = omega arith in
        law n s base at ∙ rw (le-ltb at (length s) past) (sym (walk_end n s base at past))
    only_here n same (suc fuel) s base at enough =
        go (ltb at (length s)) refl (λ (next : ℕ) (b : at + 4 ≤ next). only_here n same fuel s base next (omega arith))
      where
        go : (b : Bool) → ltb at (length s) ≡ b → ((next : ℕ) → at + 4 ≤ next → W n s base next ≡ walk_from n s base next) → W n s base at ≡ walk_from n s base at
        go true e later =
            law n s base at
            ∙ rw (e, same) (meet-same n (deeper n) s base at (W n s base) (walk_from n s base) (head_at mode s at) refl later
            ∙ sym (walk_here n s base at (ltb-true at (length s) e)))
        go false e later = law n s base at ∙ rw e (sym (walk_end n s base at (ltb-false at (length s) e)))

    pub walk_only : (n : ℕ) (s : List ℕ) (base at : ℕ) → W n s base at ≡ walk_from n s base at
    walk_only zero s base at = only_here zero refl (length s) s base at (omega arith)
    walk_only (suc n) s base at =
        only_here (suc n) (fun_ext (λ l. fun_ext (λ b. walk_only n l b 0 ∙ sym (walk-from_start n l b)))) (length s) s base at (omega arith)
