-- Entering a section: its contents are the innermost stream, and the arrays hold what follows it.
use Rattle.std.proofs.Common.{◌≡◌, ℕ, suc, ◌+◌, ◌-◌, ◌%◌, ◌^◌, ◌<◌, ◌≤◌, Bool, true, false, cond, leb, List, [], ◌∷◌, length, get_or, set, sym, refl, ap, ◌∙◌, subst, mod-eq_of_lt, arith, length-set, get_or-set_other, get_or-set_same, leb-false, leb-true}
use Rattle.sections.specs.Walk.{aligned}
use Rattle.sections.specs.declared.header.Mode.{Mode}
use Rattle.receiver.specs.Place.{placed, arrived, padding, entered, Body, Place}
use Rattle.receiver.specs.Tally.{wrapped}
use Rattle.receiver.proofs.place.Padded.{InFile}
use Rattle.receiver.proofs.place.Standing.{Frame, pad_of, Held, Stands, rest, At, in_body, arrive}

module _ (mode : Mode) (file : List ℕ) where
  -- a store behind what is held changes nothing of it
  held_set : (lefts pads : List ℕ) (n x y : ℕ) (fr : List Frame) → length fr ≤ n → Held mode file lefts pads fr → Held mode file (set lefts n x) (set pads n y) fr
  held_set lefts pads n x y [] h p = tt
  held_set lefts pads n x y (f ∷ fr) h p = (
    get_or-set_other pads n (length fr) y 0 (λ z. omega arith) ∙ p.0,
    get_or-set_other lefts n (length fr) x 0 (λ z. omega arith) ∙ p.1,
    held_set lefts pads n x y fr (omega arith) p.2,
  )

  -- the padding of a section at a multiple of 4 is that of its end
  same-padding : (k size behind : ℕ) → k % 4 ≡ 0 → padding size behind ≡ padding (k + size) behind
  unfolding padding
  same-padding k size behind start =
      let e : aligned (k + size) - (k + size) ≡ aligned size - size = omega arith in
      rw e

  module _ (header : List ℕ) (p : Place) (s : List ℕ) (base k : ℕ) (fr : List Frame) (st : Stands mode file s base k fr p.at p.left p.lefts p.pads)
      (deep : p.depth ≡ length fr) (size from have : ℕ) (some : 0 < size) (fits : size ≤ p.left) (order : from ≤ size) (came : have ≤ from)
      (s' : List ℕ) (stream' : InFile file s' (base + (k + from))) (long : length s' ≡ size - from) (levels' : 0 < size - from → length fr ≤ 6)
      (small : p.at + p.left + 3 < 2 ^ 64) where
    abbrev pub frame : Frame
    frame = record { s = s; base = base; e = k + size }

    abbrev pad : ℕ
    pad = padding size (p.left - size)

    abbrev lefts' : List ℕ
    lefts' = set p.lefts p.depth (p.left - size - pad)

    abbrev pads' : List ℕ
    pads' = set p.pads p.depth pad

    same_pad : pad ≡ pad_of frame
    same_pad =
        let b = st.behind in
        let d : p.left - size ≡ length s - (k + size) = omega arith in
        ap (padding size) d ∙ same-padding k size (length s - (k + size)) (st.start (omega arith))

    wraps : wrapped (p.at + from) ≡ p.at + from
    wraps = mod-eq_of_lt (omega arith)

    inner : Stands mode file s' (base + (k + from)) 0 (frame ∷ fr) (wrapped (p.at + from)) (size - from) lefts' pads'
    inner =
        let b = st.behind in
        let i = st.inside in
        let a = st.place in
        let l = st.levels (omega arith) in
        let n = same_pad in
        let eight = st.lefts_8 in
        let eight' = st.pads_8 in
        record {
          stream = stream';
          chained = (omega arith, omega arith, st.stream, st.chained);
          held = (
            ap (λ (d : ℕ). get_or (set p.pads d pad) (length fr) 0) deep ∙ get_or-set_same p.pads (length fr) pad 0 (omega arith) ∙ n,
            ap (λ (d : ℕ). get_or (set p.lefts d (p.left - size - pad)) (length fr) 0) deep
                ∙ get_or-set_same p.lefts (length fr) (p.left - size - pad) 0 (omega arith) ∙ omega arith,
            held_set p.lefts p.pads p.depth (p.left - size - pad) pad fr (omega arith) st.held,
          );
          place = wraps ∙ omega arith;
          inside = omega arith;
          behind = omega arith;
          start = λ more. refl;
          levels = λ more. let l = levels' more in omega arith;
          most = omega arith;
          lefts_8 = length-set p.lefts p.depth (p.left - size - pad) ∙ eight;
          pads_8 = length-set p.pads p.depth pad ∙ eight';
        }

    pub enter : At mode file (p.at + have) header (entered p size from have) (rest mode file s' (base + (k + from)) 0 (frame ∷ fr))
    unfolding entered
    enter = go (leb from have) refl
      where
        go : (b : Bool) → leb from have ≡ b
            → At mode file (p.at + have) header
            (cond b (arrived (suc p.depth) (wrapped (p.at + from)) (size - from) lefts' pads')
            (placed (Body (from - have)) (wrapped (p.at + from)) (size - from) (suc p.depth) lefts' pads')) (rest mode file s' (base + (k + from)) 0 (frame ∷ fr))
        go true e =
            let l = leb-true from have e in
            subst (λ (i : ℕ). At mode file i header (arrived (suc p.depth) (wrapped (p.at + from)) (size - from) lefts' pads')
            (rest mode file s' (base + (k + from)) 0 (frame ∷ fr))) (wraps ∙ omega arith)
            (subst (λ (d : ℕ). At mode file (wrapped (p.at + from)) header (arrived (suc d) (wrapped (p.at + from)) (size - from) lefts' pads')
            (rest mode file s' (base + (k + from)) 0 (frame ∷ fr))) (sym deep)
            (arrive mode file header s' (base + (k + from)) 0 (frame ∷ fr) (wrapped (p.at + from)) (size - from) lefts' pads' inner (omega (arith, wraps))))
        go false e =
            let l = leb-false from have e in
            in_body {n = from - have} {s = s'} {base = base + (k + from)} {k = 0} {fr = frame ∷ fr} refl inner (ap suc deep) (omega arith) (omega (arith, wraps)) refl
