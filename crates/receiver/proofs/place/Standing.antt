-- Where a receiver stands in the walk of the file: the streams that are open, what the walk still meets from there on, and what comes next.
use Rattle.std.proofs.Common.{◌≡◌, ℕ, suc, ◌+◌, ◌-◌, ◌%◌, ◌^◌, ◌<◌, ◌≤◌, Bool, true, false, cond, eqb, ltb, ◌⊎◌, List, [], ◌∷◌, length, get_or, sym, refl, ap, ◌∙◌, subst, ap₂, inl, inr, mod-eq_of_lt, arith, ltb-false, ltb-true, lt-ltb, eqb-true, le-leb}
use mathlib.Core.Option.{some}
use borrow.Author.Tests.{eqb-false}
use Rattle.sections.specs.Header.{head_at, Fault}
use Rattle.sections.specs.Partial.{bytes_for, needed}
use Rattle.sections.specs.Walk.{Trace, done, fault, and_then, aligned, after_padding}
use Rattle.sections.specs.declared.header.Mode.{Mode}
use Rattle.sections.proofs.partial.Views.{says_201, needed_three}
use Rattle.sections.proofs.walk.Starts.{walk_from, walk_end, walk_fault}
use Rattle.receiver.specs.Place.{placed, started, arrived, padding, Header, Body, Padding, Complete, Refused, Place}
use Rattle.receiver.specs.Received.{found_after, found_fault}
use Rattle.receiver.specs.Tally.{wrapped}
use Rattle.receiver.proofs.place.Padded.{InFile, padded, padded_zero, after_padded, padding_end, next_start}

-- a section that was entered: the stream that holds it, where that starts in the file, and the section's end in it
pub record Frame : Type 0 where
  pub s : List ℕ
  pub base : ℕ
  pub e : ℕ

-- what follows its padding has so many bytes in its stream
abbrev pub pad_of : Frame → ℕ
pad_of f = padding f.e (length f.s - f.e)

module _ (mode : Mode) (file : List ℕ) where
  -- what the walk meets once the streams that are open end, the innermost first
  unfoldable pub unwind : List Frame → Trace
  unwind [] = done
  unwind (f ∷ fr) = and_then (after_padding f.s f.base f.e (walk_from mode (7 - length fr) f.s f.base)) (unwind fr)

  -- and from a start of the innermost stream on
  abbrev pub rest : List ℕ → (base k : ℕ) → List Frame → Trace
  rest s base k fr = and_then (walk_from mode (7 - length fr) s base k) (unwind fr)

  -- each section that was entered ends where the stream inside it does
  abbrev pub Chained : (end : ℕ) → List Frame → Type 0
  Chained end [] = end ≡ length file
  Chained end (f ∷ fr) = (f.base + f.e ≡ end) × (f.e ≤ length f.s) × InFile file f.s f.base × Chained (f.base + length f.s) fr

  -- and the arrays hold what follows it
  abbrev pub Held : (lefts pads : List ℕ) → List Frame → Type 0
  Held lefts pads [] = Unit {0}
  Held lefts pads (f ∷ fr) = (get_or pads (length fr) 0 ≡ pad_of f) × (get_or lefts (length fr) 0 ≡ length f.s - (f.e + pad_of f)) × Held lefts pads fr

  -- at byte k of a stream
  pub record Stands (s : List ℕ) (base k : ℕ) (fr : List Frame) (at left : ℕ) (lefts pads : List ℕ) : Type 0 where
    pub stream : InFile file s base
    pub chained : Chained (base + length s) fr
    pub held : Held lefts pads fr
    pub place : at ≡ base + k
    pub inside : k ≤ length s
    pub behind : left ≡ length s - k
    pub start : 0 < left → k % 4 ≡ 0
    pub levels : 0 < left → length fr ≤ 7
    pub most : length fr ≤ 8
    pub lefts_8 : length lefts ≡ 8
    pub pads_8 : length pads ≡ 8

  -- the bytes of a header that came
  abbrev pub Window : List ℕ → (k have : ℕ) → (header : List ℕ) → Type 0
  Window s k have header = (j : ℕ) → j < have → get_or s (k + j) 0 ≡ get_or header j 0

  -- a place, where i bytes came, and what the walk still meets from there on
  pub data At (i : ℕ) (header : List ℕ) (p : Place) (x : Trace) : Type 0 where
    in_found : {n : ℕ} → p.phase ≡ Refused n → ((j : ℕ) → i ≤ j → found_fault mode file j x ≡ some n) → At i header p x
    in_whole : p.phase ≡ Complete → i ≡ length file → x ≡ done → At i header p x
    in_header_lem : {have : ℕ} {s : List ℕ} {base k : ℕ} {fr : List Frame} → p.phase ≡ Header have
        → Stands s base k fr p.at p.left p.lefts p.pads → p.depth ≡ length fr → i ≡ p.at + have → 4 ≤ p.left
        → have < needed mode p.left s k → Window s k have header → x ≡ rest s base k fr → At i header p x
    in_body : {n : ℕ} {s : List ℕ} {base k : ℕ} {fr : List Frame} → p.phase ≡ Body n
        → Stands s base k fr p.at p.left p.lefts p.pads → p.depth ≡ length fr → 0 < n → i + n ≡ p.at → x ≡ rest s base k fr → At i header p x
    in_padding : {n : ℕ} {s : List ℕ} {base k : ℕ} {fr : List Frame} → p.phase ≡ Padding n
        → Stands s base k fr p.at p.left p.lefts p.pads → p.depth ≡ length fr → 0 < n → i + n ≡ p.at
        → x ≡ and_then (padded file n i (base + length s) (walk_from mode (7 - length fr) s base k)) (unwind fr) → At i header p x

  -- at the end of a stream the walk goes on in the one that holds it
  pub ended : (s : List ℕ) (base k : ℕ) (fr : List Frame) → length s ≤ k → rest s base k fr ≡ unwind fr
  unfolding and_then
  ended s base k fr past = ap (λ (x : Trace). and_then x (unwind fr)) (walk_end mode (7 - length fr) s base k past)

  -- a fault that the walk comes to next, once the bytes came after which it is found
  pub is_found : (i n start e : ℕ) (y : Trace) → found_after mode file n start e ≤ i → (j : ℕ) → i ≤ j
      → found_fault mode file j (and_then (fault n start e) y) ≡ some n
  unfolding found_fault and_then
  is_found i n start e y h j k = rw (le-leb (found_after mode file n start e) j (omega arith))

  -- 201, which reads no byte
  head_201 : (s : List ℕ) (k : ℕ) → length s - k < 4 → head_at mode s k ≡ Fault 201
  unfolding head_at
  head_201 s k few = (says_201 mode (length s - k) s k few).0

  due_201 : (s : List ℕ) (base k : ℕ) → length s - k < 4 → found_after mode file 201 (base + k) (base + length s) ≡ base + k
  unfolding found_after bytes_for
  due_201 s base k few =
      let d : base + length s - (base + k) ≡ length s - k = omega arith in
      rw (d, lt-ltb (length s - k) 4 few) (omega arith)

  module _ (header : List ℕ) where
    -- at a start: 201, or a header
    arrive_start : (s : List ℕ) (base k : ℕ) (fr : List Frame) (at left : ℕ) (lefts pads : List ℕ) → Stands s base k fr at left lefts pads → 0 < left
        → At at header (started at left (length fr) lefts pads) (rest s base k fr)
    unfolding started
    arrive_start s base k fr at left lefts pads st more = go (ltb left 4) refl
      where
        go : (b : Bool) → ltb left 4 ≡ b
            → At at header (placed (cond b (Refused 201) (Header 0)) at left (length fr) lefts pads) (rest s base k fr)
        go true e =
            let few = ltb-true left 4 e in
            let b = st.behind in
            let a = st.place in
            let p = walk_fault mode (7 - length fr) s base k (omega arith) (head_201 s k (omega arith)) in
            let d = due_201 s base k (omega arith) in
            in_found refl (λ j h. ap (λ (x : Trace). found_fault mode file j (and_then x (unwind fr))) p ∙ is_found at 201 (base + k) (base + length s) (unwind fr) (omega arith) j h)
        go false e =
            let four = ltb-false left 4 e in
            let n = needed_three mode left s k four in
            in_header_lem {have = 0} {s = s} {base = base} {k = k} {fr = fr} refl st refl (omega arith) four (omega arith) (λ j h. absurd (omega arith)) refl

    -- at the end of a stream: in the one that holds it, behind the padding of the section that it is in
    outer : (s : List ℕ) (base k : ℕ) (f : Frame) (fr : List Frame) (at left at' : ℕ) (lefts pads : List ℕ) → Stands s base k (f ∷ fr) at left lefts pads
        → at' ≡ f.base + (f.e + pad_of f) → Stands f.s f.base (f.e + pad_of f) fr at' (get_or lefts (length fr) 0) lefts pads
    outer s base k f fr at left at' lefts pads st place =
        let c = st.chained in
        let h = st.held in
        let q = padding_end f.e (length f.s) c.1 in
        let m = st.most in
        record {
          stream = c.2;
          chained = c.3;
          held = h.2;
          place = place;
          inside = omega (arith, q.0, c.1);
          behind = h.1;
          start = λ more. multiple more q.2;
          levels = λ more. omega arith;
          most = omega arith;
          lefts_8 = st.lefts_8;
          pads_8 = st.pads_8;
        }
      where
        multiple : 0 < get_or lefts (length fr) 0
            → (((f.e + pad_of f ≡ aligned f.e) × (aligned f.e ≤ length f.s)) ⊎ ((f.e + pad_of f ≡ length f.s) × (length f.s ≤ aligned f.e)))
            → (f.e + pad_of f) % 4 ≡ 0
        multiple more (inl (p, q)) = rw p (omega arith)
        multiple more (inr (p, q)) = let h = st.held.1 in absurd (omega arith)

    -- what the walk meets there
    unwound : (f : Frame) (fr : List Frame) → f.e ≤ length f.s → InFile file f.s f.base
        → unwind (f ∷ fr)
        ≡ and_then (padded file (pad_of f) (f.base + f.e) (f.base + length f.s) (walk_from mode (7 - length fr) f.s f.base (f.e + pad_of f))) (unwind fr)
    unfolding unwind
    unwound f fr inside stream =
        ap (λ (x : Trace). and_then x (unwind fr))
        (after_padded file f.s f.base f.e (walk_from mode (7 - length fr) f.s f.base) stream
        ∙ ap (padded file (pad_of f) (f.base + f.e) (f.base + length f.s)) (next_start mode (7 - length fr) f.s f.base f.e inside))

    -- once every byte before byte `at` came
    pub arrive : (s : List ℕ) (base k : ℕ) (fr : List Frame) (at left : ℕ) (lefts pads : List ℕ) → Stands s base k fr at left lefts pads
        → at + 3 < 2 ^ 64 → At at header (arrived (length fr) at left lefts pads) (rest s base k fr)
    unfolding arrived unwind
    arrive s base k [] at left lefts pads st small = go (eqb left 0) refl
      where
        go : (b : Bool) → eqb left 0 ≡ b → At at header (cond b (placed Complete at left 0 lefts pads) (started at left 0 lefts pads)) (rest s base k [])
        go true e =
            let z = eqb-true left 0 e in
            let b = st.behind in
            let p = st.place in
            let i = st.inside in
            let c : base + length s ≡ length file = st.chained in
            in_whole refl (omega arith) (ended s base k [] (omega arith))
        go false e = let z = eqb-false left 0 e in arrive_start s base k [] at left lefts pads st (omega arith)
    arrive s base k (f ∷ fr) at left lefts pads st small =
        one (eqb left 0) refl (λ st'. arrive f.s f.base (f.e + pad_of f) fr at (get_or lefts (length fr) 0) lefts pads st' small)
      where
        pad : ℕ
        pad = get_or pads (length fr) 0

        Again : Type 0
        Again = Stands f.s f.base (f.e + pad_of f) fr at (get_or lefts (length fr) 0) lefts pads
            → At at header (arrived (length fr) at (get_or lefts (length fr) 0) lefts pads) (rest f.s f.base (f.e + pad_of f) fr)

        after : left ≡ 0 → at ≡ f.base + f.e
        after empty =
            let b = st.behind in
            let p = st.place in
            let i = st.inside in
            let c = st.chained.0 in
            omega arith

        met : left ≡ 0 → rest s base k (f ∷ fr)
            ≡ and_then (padded file (pad_of f) (f.base + f.e) (f.base + length f.s) (walk_from mode (7 - length fr) f.s f.base (f.e + pad_of f))) (unwind fr)
        met empty = let b = st.behind in ended s base k (f ∷ fr) (omega arith) ∙ unwound f fr st.chained.1 st.chained.2

        two : (b : Bool) → eqb pad 0 ≡ b → left ≡ 0 → Again
            → At at header (cond b (arrived (length fr) at (get_or lefts (length fr) 0) lefts pads)
            (placed (Padding pad) (wrapped (at + pad)) (get_or lefts (length fr) 0) (length fr) lefts pads)) (rest s base k (f ∷ fr))
        two true e empty again =
            let z : pad_of f ≡ 0 = sym st.held.0 ∙ eqb-true pad 0 e in
            let p = after empty in
            subst (At at header (arrived (length fr) at (get_or lefts (length fr) 0) lefts pads))
            (sym (met empty ∙ ap (λ (x : Trace). and_then x (unwind fr)) (padded_zero file (pad_of f) _ _ _ z)))
            (again (outer s base k f fr at left at lefts pads st (omega arith)))
        two false e empty again =
            let n = eqb-false pad 0 e in
            let h = st.held.0 in
            let q = (padding_end f.e (length f.s) st.chained.1).1 in
            let p = after empty in
            let w : wrapped (at + pad) ≡ at + pad = mod-eq_of_lt (omega arith) in
            in_padding {n = pad} {s = f.s} {base = f.base} {k = f.e + pad_of f} {fr = fr} refl
            (outer s base k f fr at left (wrapped (at + pad)) lefts pads st (w ∙ omega arith)) refl (omega arith) (sym w)
            (met empty ∙ ap₂ (λ (m i : ℕ). and_then (padded file m i (f.base + length f.s) (walk_from mode (7 - length fr) f.s f.base (f.e + pad_of f))) (unwind fr))
            (sym h) (sym p))

        one : (b : Bool) → eqb left 0 ≡ b → Again
            → At at header (cond b (cond (eqb pad 0) (arrived (length fr) at (get_or lefts (length fr) 0) lefts pads)
            (placed (Padding pad) (wrapped (at + pad)) (get_or lefts (length fr) 0) (length fr) lefts pads)) (started at left (suc (length fr)) lefts pads)) (rest s base k (f ∷ fr))
        one true e again = two (eqb pad 0) refl (eqb-true left 0 e) again
        one false e again = let z = eqb-false left 0 e in arrive_start s base k (f ∷ fr) at left lefts pads st (omega arith)
