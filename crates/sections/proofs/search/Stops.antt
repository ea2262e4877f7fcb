-- The search for the first stops at its match: two streams of one length that are alike up to the end of the match's header, with a holder's own
-- fields, answer the same.
use Prim.Native.Nat.{ℕ, zero, suc, ◌+◌, ◌-◌, ◌≤◌, ◌<◌}
use mathlib.Core.Path.{◌≡◌, refl, sym, ap, ◌∙◌}
use mathlib.Core.Bool.{Bool, true, false, cond}
use mathlib.Core.List.{List, [], ◌∷◌}
use mathlib.Core.Logic.{◌⊎◌, inl, inr}
use native.Mathlib.Omega.{arith}
use borrow.Author.Tests.{eqb-true}
use lib.Dec.{eqb, ltb}
use lib.ListN.{length, get_or, length-take, length-drop}
use lib.Seq.{ext_get_or}
use Rattle.common.specs.Answers.{success}
use Rattle.sections.specs.Types.{type_info}
use Rattle.sections.specs.Header.{header_length, size_at, type_at, least_size, own_fields, head_at}
use Rattle.sections.specs.Walk.{Trace, done, fault, section, and_then, aligned, zeros, first_nonzero, part, after_padding, meet, siblings, walk, stream_limit, stream_walk}
use Rattle.sections.specs.Search.{first_answer, search_first_of}
use Rattle.sections.specs.Header.{Head, Fault, Closed, Open}
use Rattle.sections.specs.declared.header.Mode.{Mode}
use Rattle.sections.proofs.header.Decided.{own_least, head_same}
use Rattle.sections.proofs.header.Extent.{is_closed, is_open, closed_within, open_within}
use Rattle.sections.proofs.header.Sizes.{header_range}
use Rattle.sections.proofs.walk.Padding.{zeros-same}
use Rattle.sections.proofs.walk.Parts.{parts_alike}

-- two streams of one length, alike before a place of the outer stream, in which they start at byte `base`
record Alike (high base : ℕ) (s s' : List ℕ) : Type 0 where
  pub long : length s ≡ length s'
  pub bytes : (i : ℕ) → base + i < high → get_or s i 0 ≡ get_or s' i 0

module _ {high base : ℕ} {s s' : List ℕ} (a : Alike high base s s') (f e : ℕ) where
  -- so are their parts, which are the same where they lie whole before that place
  alike-part : Alike high (base + f) (part f e s) (part f e s')
  alike-part = record { long = simp (length-take, length-drop) (rw a.long); bytes = λ j h. parts_alike f e s s' j (λ low. a.bytes (f + j) (omega arith)) }

  part_same : f ≤ e → base + e ≤ high → part f e s ≡ part f e s'
  part_same order low =
      let p = alike-part in
      let l : length (part f e s) ≤ e - f = simp length-take (omega arith) in
      ext_get_or 0 (part f e s) (part f e s') p.long (λ i h. p.bytes i (omega arith))

-- the first section of a type of two walks in a row: that of the one, or the one is passed and it is that of the other
then_shown : (t : ℕ) (x y : Trace) (l : List ℕ) → first_answer t x ≡ success l → first_answer t (and_then x y) ≡ success l
unfolding first_answer and_then
then_shown t done y l p = let z : ◌≡◌ {A = ℕ} 0 1 = cc in absurd (omega arith)
then_shown t (fault n _ _) y l p = let z : ◌≡◌ {A = ℕ} 0 1 = cc in absurd (omega arith)
then_shown t (section u f e rest) y l p = go (eqb u t) p (then_shown t rest y l)
  where
    go : (b : Bool) → cond b (success (f ∷ e ∷ [])) (first_answer t rest) ≡ success l → (first_answer t rest ≡ success l → first_answer t (and_then rest y) ≡ success l)
        → cond b (success (f ∷ e ∷ [])) (first_answer t (and_then rest y)) ≡ success l
    go true q ih = q
    go false q ih = ih q

abbrev Passed : (t : ℕ) → Trace → Type 0
Passed t x = (y : Trace) → first_answer t (and_then x y) ≡ first_answer t y

then_cases : (t : ℕ) (x y : Trace) (l : List ℕ) → first_answer t (and_then x y) ≡ success l → (first_answer t x ≡ success l) ⊎ (Passed t x × (first_answer t y ≡ success l))
unfolding first_answer and_then
then_cases t done y l p = inr (λ z. refl, p)
then_cases t (fault n _ _) y l p = let z : ◌≡◌ {A = ℕ} 0 1 = cc in absurd (omega arith)
then_cases t (section u f e rest) y l p = go (eqb u t) p (then_cases t rest y l)
  where
    go : (b : Bool) → cond b (success (f ∷ e ∷ [])) (first_answer t (and_then rest y)) ≡ success l
        → (first_answer t (and_then rest y) ≡ success l → (first_answer t rest ≡ success l) ⊎ (Passed t rest × (first_answer t y ≡ success l)))
        → (cond b (success (f ∷ e ∷ [])) (first_answer t rest) ≡ success l)
        ⊎ (((z : Trace) → cond b (success (f ∷ e ∷ [])) (first_answer t (and_then rest z)) ≡ first_answer t z) × (first_answer t y ≡ success l))
    go true q ih = inl q
    go false q ih = ih q

module _ (mode : Mode) (t f e high : ℕ) (reach : f + own_fields t ≤ high) where
  -- a walk that shows this section
  abbrev Shows : Trace → Type 0
  Shows x = first_answer t x ≡ success (f ∷ e ∷ [])

  -- the header at a start that lies before that place
  alike_head : {base : ℕ} {s s' : List ℕ} → Alike high base s s' → (at : ℕ) → base + at + header_length mode s at + own_fields (type_at s at) ≤ high
      → head_at mode s' at ≡ head_at mode s at
  alike_head {base} {s} {s'} a at low =
      sym (head_same mode s s' at (λ i p q. a.bytes i (omega arith)) (ap (λ (l : ℕ). ltb (l - at) 4) a.long)
      (ap (λ (l : ℕ). ltb (l - at) (header_length mode s at)) a.long) (ap (λ (l : ℕ). ltb (l - at) (size_at mode s at)) a.long))

  -- from a start on: the section is shown behind that start, and in the other stream too
  abbrev Kept : (base at : ℕ) → Trace → Trace → Type 0
  Kept base at x x' = Shows x → (base + at + 4 ≤ f) × Shows x'

  module _ {base : ℕ} {s s' : List ℕ} (a : Alike high base s s') (rest rest' : ℕ → Trace) (later : (next : ℕ) → Kept base next (rest next) (rest' next)) where
    kept_padding : (end : ℕ) → Shows (after_padding s base end rest) → (base + end + 4 ≤ f) × Shows (after_padding s' base end rest')
    unfolding after_padding first_answer
    kept_padding end p = go (zeros s end (aligned end - end)) refl p
      where
        go : (b : Bool) → zeros s end (aligned end - end) ≡ b → Shows (cond b (rest (aligned end)) (fault 207 (base + first_nonzero s end (aligned end - end)) (base + length s))) → (base + end + 4 ≤ f) × Shows (after_padding s' base end rest')
        go true z q =
            let k = later (aligned end) q in
            let same : zeros s end (aligned end - end) ≡ zeros s' end (aligned end - end) =
            zeros-same s s' end (aligned end - end) (λ i x y. a.bytes i (omega (arith, k.0))) in
            (omega (arith, k.0), rw (← same, z) k.1)
        go false z q = let y : ◌≡◌ {A = ℕ} 0 1 = cc in absurd (omega arith)

    -- a section that is shown itself, and one that is passed
    own_low : {u first : ℕ} (at : ℕ) → u ≡ type_at s at → first ≡ at + header_length mode s at → u ≡ t → base + first ≡ f
        → base + at + header_length mode s at + own_fields (type_at s at) ≤ high
    own_low at typed shows same place = let o : own_fields (type_at s at) ≡ own_fields t = ap own_fields (sym typed ∙ same) in omega arith

    passed_low : {u end : ℕ} (at : ℕ) → u ≡ type_at s at → at + least_size (header_length mode s at) u ≤ end → base + end ≤ f
        → base + at + header_length mode s at + own_fields (type_at s at) ≤ high
    passed_low {u} at typed least place =
        let k : (type_info u).least ≡ (type_info (type_at s at)).least = rw typed in
        let o = own_least (type_at s at) in
        let r = header_range mode s at in
        omega arith

    abbrev Passes : (at u first end : ℕ) → Head → (x x' : Trace) (b : Bool) → Type 0
    Passes at u first end h x x' b = cond b (success ((base + first) ∷ (base + end) ∷ [])) (first_answer t x) ≡ success (f ∷ e ∷ [])
        → (base + at + 4 ≤ f) × (head_at mode s' at ≡ h) × (cond b (success ((base + first) ∷ (base + end) ∷ [])) (first_answer t x') ≡ success (f ∷ e ∷ []))

    kept_closed : (at : ℕ) {u first end : ℕ} → head_at mode s at ≡ Closed u first end → (b : Bool) → eqb u t ≡ b
        → Passes at u first end (Closed u first end) (after_padding s base end rest) (after_padding s' base end rest') b
    kept_closed at {u} {first} {end} h true x p =
        let c = is_closed mode s at h in
        let w = closed_within mode s at h in
        let place : base + first ≡ f = cc in
        (omega arith, alike_head a at (own_low at c.typed c.shows (eqb-true u t x) place) ∙ h, p)
    kept_closed at {u} {first} {end} h false x p =
        let c = is_closed mode s at h in
        let w = closed_within mode s at h in
        let k = kept_padding end p in
        let bound = k.0 in
        (omega arith, alike_head a at (passed_low at c.typed w.0 (omega arith)) ∙ h, k.1)

    module _ (inner : List ℕ → ℕ → Trace)
        (below : (l l' : List ℕ) (b : ℕ) → Alike high b l l' → Shows (inner l b) → (b ≤ f) × Shows (inner l' b)) where
      kept_open : (at : ℕ) {u first from end : ℕ} → head_at mode s at ≡ Open u first from end → (b : Bool) → eqb u t ≡ b
          → Passes at u first end (Open u first from end) (and_then (inner (part from end s) (base + from)) (after_padding s base end rest))
          (and_then (inner (part from end s') (base + from)) (after_padding s' base end rest')) b
      kept_open at {u} {first} {from} {end} h true x p =
          let c = is_open mode s at h in
          let w = open_within mode s at h in
          let place : base + first ≡ f = cc in
          (omega arith, alike_head a at (own_low at c.typed c.shows (eqb-true u t x) place) ∙ h, p)
      kept_open at {u} {first} {from} {end} h false x p =
          go (then_cases t (inner (part from end s) (base + from)) (after_padding s base end rest) (f ∷ e ∷ []) p)
        where
          after' : Trace
          after' = after_padding s' base end rest'

          go : Shows (inner (part from end s) (base + from)) ⊎ (Passed t (inner (part from end s) (base + from)) × Shows (after_padding s base end rest))
              → (base + at + 4 ≤ f) × (head_at mode s' at ≡ Open u first from end) × Shows (and_then (inner (part from end s') (base + from)) after')
          go (inl q) =
              let c = is_open mode s at h in
              let w = open_within mode s at h in
              let k = below (part from end s) (part from end s') (base + from) (alike-part a from end) q in
              let bound = k.0 in (
                omega arith,
                alike_head a at (passed_low at c.typed w.0 bound) ∙ h,
                then_shown t (inner (part from end s') (base + from)) after' (f ∷ e ∷ []) k.1,
              )
          go (inr (passed, q)) =
              let c = is_open mode s at h in
              let w = open_within mode s at h in
              let k = kept_padding end q in
              let bound = k.0 in
              let same = part_same a from end (omega arith) (omega arith) in (
                omega arith,
                alike_head a at (passed_low at c.typed w.0 (omega arith)) ∙ h,
                rw (← same) (passed after' ∙ k.1),
              )

      kept_meet : (n at : ℕ) (h : Head) → head_at mode s at ≡ h → Shows (meet n inner s base at h rest)
          → (base + at + 4 ≤ f) × (head_at mode s' at ≡ h) × Shows (meet n inner s' base at h rest')
      unfolding meet first_answer
      kept_meet n at (Fault m) h p = let z : ◌≡◌ {A = ℕ} 0 1 = cc in absurd (omega arith)
      kept_meet n at (Closed u first end) h p = kept_closed at h (eqb u t) refl p
      kept_meet n at (Open u first from end) h p = go (eqb n 0) p
        where
          x : Trace
          x = section u (base + first) (base + end) (and_then (inner (part from end s) (base + from)) (after_padding s base end rest))

          x' : Trace
          x' = section u (base + first) (base + end) (and_then (inner (part from end s') (base + from)) (after_padding s' base end rest'))

          go : (b : Bool) → Shows (cond b (fault 205 (base + at) (base + length s)) x) → (base + at + 4 ≤ f) × (head_at mode s' at ≡ Open u first from end) × Shows (cond b (fault 205 (base + at) (base + length s')) x')
          go true q = let z : ◌≡◌ {A = ℕ} 0 1 = cc in absurd (omega arith)
          go false q = kept_open at h (eqb u t) refl q

  module _ (n : ℕ) (inner : List ℕ → ℕ → Trace)
      (below : (l l' : List ℕ) (b : ℕ) → Alike high b l l' → Shows (inner l b) → (b ≤ f) × Shows (inner l' b)) where
    kept_siblings : (fuel : ℕ) (s s' : List ℕ) (base at : ℕ) → Alike high base s s' → Kept base at (siblings mode n inner fuel s base at) (siblings mode n inner fuel s' base at)
    unfolding siblings first_answer
    kept_siblings zero s s' base at a p = let z : ◌≡◌ {A = ℕ} 0 1 = cc in absurd (omega arith)
    kept_siblings (suc fuel) s s' base at a p = go (ltb at (length s)) refl p
        (kept_meet a (siblings mode n inner fuel s base) (siblings mode n inner fuel s' base) (λ next. kept_siblings fuel s s' base next a) inner below n at (head_at mode s at) refl)
      where
        x : Trace
        x = meet n inner s base at (head_at mode s at) (siblings mode n inner fuel s base)

        go : (b : Bool) → ltb at (length s) ≡ b → Shows (cond b x done)
            → (Shows x → (base + at + 4 ≤ f) × (head_at mode s' at ≡ head_at mode s at) × Shows (meet n inner s' base at (head_at mode s at) (siblings mode n inner fuel s' base)))
            → (base + at + 4 ≤ f) × Shows (siblings mode n inner (suc fuel) s' base at)
        go true c q met = let k = met q in (k.0, rw (k.1, ← a.long, c) k.2)
        go false c q met = let z : ◌≡◌ {A = ℕ} 0 1 = cc in absurd (omega arith)

  kept_walk : (n : ℕ) (s s' : List ℕ) (base : ℕ) → Alike high base s s' → Shows (walk mode n s base) → (base ≤ f) × Shows (walk mode n s' base)
  unfolding walk first_answer
  kept_walk zero s s' base a p =
      let k = kept_siblings 0 (λ l b. done) (λ l l' b x q. absurd (let z : ◌≡◌ {A = ℕ} 0 1 = cc in omega arith)) (length s) s s' base 0 a p in
      (omega (arith, k.0), rw (← a.long) k.1)
  kept_walk (suc n) s s' base a p =
      let k = kept_siblings (suc n) (walk mode n) (λ l l' b x q. kept_walk n l l' b x q) (length s) s s' base 0 a p in
      (omega (arith, k.0), rw (← a.long) k.1)

-- the answer depends on no byte after the match's header, with a holder's own fields
pub first_stops : (mode : Mode) (s s' : List ℕ) (t f e : ℕ) → search_first_of mode s t ≡ success (f ∷ e ∷ []) → length s ≡ length s'
    → ((i : ℕ) → i < f + own_fields t → get_or s i 0 ≡ get_or s' i 0) → search_first_of mode s' t ≡ success (f ∷ e ∷ [])
unfolding stream_walk first_answer
first_stops mode s s' t f e p long same = go (ltb (stream_limit mode) (length s)) refl p
  where
    go : (b : Bool) → ltb (stream_limit mode) (length s) ≡ b → first_answer t (cond b (fault 206 0 (length s)) (walk mode 7 s 0)) ≡ success (f ∷ e ∷ [])
        → search_first_of mode s' t ≡ success (f ∷ e ∷ [])
    go true c q = let z : ◌≡◌ {A = ℕ} 0 1 = cc in absurd (omega arith)
    go false c q =
        rw (← long, c) (kept_walk mode t f e (f + own_fields t) (omega arith) 7 s s' 0 (record { long = long; bytes = λ i h. same i (omega arith) }) q).1
