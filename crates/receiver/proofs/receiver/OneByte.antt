-- One byte more: where a receiver stands in the walk of the file, it stands there with the next byte too.
use Rattle.std.proofs.Common.{◌≡◌, ℕ, suc, ◌+◌, ◌-◌, ◌^◌, ◌<◌, ◌≤◌, Bool, true, false, cond, eqb, ltb, leb, ◌⊎◌, List, [], ◌∷◌, length, get_or, drop, set, replicate, sym, refl, ap, ◌∙◌, subst, inl, inr, mod-eq_of_lt, zero-add, arith, length-drop, length-set, length-take-le, get_or-set_other, get_or-set_same, ltb-false, ltb-true, lt-ltb, eqb-true, leb-false, leb-true}
use borrow.Author.Tests.{eqb-false}
use lib.ListN.{length-replicate}
use Rattle.sections.specs.Header.{head_in, head_at, Head, Fault, Closed, Open}
use Rattle.sections.specs.Partial.{bytes_for_head, needed, decided, partial_of, Partial}
use Rattle.sections.specs.Search.{sections, first_fault}
use Rattle.sections.specs.Walk.{Trace, done, fault, section, and_then, after_padding, part, walk}
use Rattle.sections.specs.declared.header.Mode.{Mode}
use Rattle.sections.proofs.header.Decided.{own_least}
use Rattle.sections.proofs.header.Extent.{closed_within, open_within}
use Rattle.sections.proofs.header.Sizes.{header_range}
use Rattle.sections.proofs.partial.Agree.{moved as later, needed_left}
use Rattle.sections.proofs.partial.Views.{part_is, needed_most}
use Rattle.sections.proofs.walk.Parts.{part_in}
use Rattle.sections.proofs.walk.Starts.{walk_from, walk-from_start, walk_fault, walk_closed, walk_205, walk_open}
use Rattle.receiver.specs.Place.{with_phase, arrived, entered, Phase, Header, Body, Padding, Refused, Place}
use Rattle.receiver.specs.Received.{found_after, found_fault}
use Rattle.receiver.specs.Receiver.{moved, at_place, waiting, refused, met, looked, passed, padding_step, stepped, Receiver}
use Rattle.receiver.specs.Tally.{wrapped, visited, Tally}
use Rattle.receiver.proofs.place.Entering.{enter}
use Rattle.receiver.proofs.receiver.Heads.{needed_by, as_head, due, due_205, forward, backward}
use Rattle.receiver.proofs.place.Padded.{InFile, padded, padded_zero, padded_more, padded_207}
use Rattle.receiver.proofs.place.Standing.{Frame, unwind, rest, Stands, Window, ended, At, in_found, in_whole, in_header_lem, in_body, in_padding, is_found, arrive}
use Rattle.receiver.proofs.tally.Counts.{counts, visits, counts_one, tallied, tallied_more}

part_long : (s : List ℕ) (f e : ℕ) → f ≤ e → e ≤ length s → length (part f e s) ≡ e - f
part_long s f e order inside = length-take-le (e - f) (drop f s) (simp length-drop (omega arith))

then_assoc : (x y z : Trace) → and_then (and_then x y) z ≡ and_then x (and_then y z)
unfolding and_then
then_assoc done y z = refl
then_assoc (fault n p e) y z = refl
then_assoc (section t f e x) y z = ap (section t f e) (then_assoc x y z)

-- a part of a stream, and its bytes in the file
pub in_part : (file s : List ℕ) (base f e : ℕ) → InFile file s base → f ≤ e → e ≤ length s → InFile file (part f e s) (base + f)
in_part file s base f e stream order inside =
    record {
      bytes = λ j few. let l = long in let q : base + (f + j) ≡ base + f + j = omega arith in
          part_in f e s j (omega arith) ∙ stream.bytes (f + j) (omega arith) ∙ ap (λ (n : ℕ). get_or file n 0) q;
      within = let w = stream.within in let l = long in omega arith;
    }
  where
    long : length (part f e s) ≡ e - f
    long = part_long s f e order inside

-- what stands 0 bytes later is the same
later_zero : (v : Head) → later 0 v ≡ v
later_zero (Fault n) = refl
later_zero (Closed t f e) = rw (zero-add f, zero-add e)
later_zero (Open t f g e) = rw (zero-add f, zero-add g, zero-add e)

-- the walk of a file, and what is left of it for a receiver that met some of its sections
module _ (mode : Mode) (file : List ℕ) (want : ℕ) (before : Tally) (all : Trace) where
  pub record Same (a : Tally) (x : Trace) : Type 0 where
    pub found : (j : ℕ) → found_fault mode file j all ≡ found_fault mode file j x
    pub first : first_fault all ≡ first_fault x
    pub tally : tallied want before (sections all) ≡ tallied want a (sections x)

  -- where i bytes came
  pub record Reads (i : ℕ) (r : Receiver) : Type 0 where
    pub left : Trace
    pub stands : At mode file i r.header r.place left
    pub same : Same r.tally left
    pub count : r.tally.count ≤ i
    pub moded : r.mode ≡ mode
    pub wants : r.want ≡ want
    pub long : length r.header ≡ 28

  same_path : {a : Tally} {x y : Trace} → x ≡ y → Same a x → Same a y
  same_path {a} p s = subst (Same a) p s

  -- past a section
  same_section : {a : Tally} {t f e : ℕ} {x : Trace} → Same a (section t f e x) → Same (counts a want t f e) x
  unfolding found_fault first_fault sections
  same_section {a} {t} {f} {e} {x} s =
      record { found = s.found; first = s.first; tally = s.tally ∙ tallied_more want a (record { section_type = t; first = f; end = e }) (sections x) }

  module _ (i : ℕ) (r : Receiver) (reads : Reads i r) (more : i < length file) (small : length file + 3 < 2 ^ 64) where
    abbrev byte : ℕ
    byte = get_or file i 0

    -- at another place
    at_place_lem : {p : Place} {x : Trace} → At mode file (i + 1) r.header p x → Same r.tally x → Reads (i + 1) (at_place r p)
    at_place_lem {p} {x} a s =
        let c = reads.count in
        record { left = x; stands = a; same = s; count = omega arith; moded = reads.moded; wants = reads.wants; long = reads.long }

    -- in a body, and in padding that is zero: its last byte, or not
    module _ {n : ℕ} {s : List ℕ} {base k : ℕ} {fr : List Frame} (st : Stands mode file s base k fr r.place.at r.place.left r.place.lefts r.place.pads)
        (deep : r.place.depth ≡ length fr) (come : i + n ≡ r.place.at) where
      last_byte : n ≡ 1 → At mode file (i + 1) r.header
          (arrived r.place.depth r.place.at r.place.left r.place.lefts r.place.pads) (rest mode file s base k fr)
      last_byte one =
          let b = st.behind in
          let p = st.place in
          let q = st.inside in
          let w = st.stream.within in
          subst (λ (d : ℕ). At mode file (i + 1) r.header (arrived d r.place.at r.place.left r.place.lefts r.place.pads) (rest mode file s base k fr)) (sym deep)
          (subst (λ (m : ℕ). At mode file m r.header (arrived (length fr) r.place.at r.place.left r.place.lefts r.place.pads) (rest mode file s base k fr)) (omega arith)
          (arrive mode file r.header s base k fr r.place.at r.place.left r.place.lefts r.place.pads st (omega arith)))

      body_byte : 0 < n → reads.left ≡ rest mode file s base k fr → Reads (i + 1) (at_place r (passed r.place n Body))
      unfolding passed
      body_byte any x = go (leb n 1) refl
        where
          go : (b : Bool) → leb n 1 ≡ b → Reads (i + 1) (at_place r
              (cond b (arrived r.place.depth r.place.at r.place.left r.place.lefts r.place.pads) (with_phase r.place (Body (n - 1)))))
          go true e = let l = leb-true n 1 e in at_place_lem (last_byte (omega arith)) (same_path x reads.same)
          go false e =
              let l = leb-false n 1 e in
              at_place_lem (in_body {n = n - 1} {s = s} {base = base} {k = k} {fr = fr} refl st deep (omega arith) (omega arith) refl) (same_path x reads.same)

      padding_byte : 0 < n
          → reads.left ≡ and_then (padded file n i (base + length s) (walk_from mode (7 - length fr) s base k)) (unwind mode file fr)
          → Reads (i + 1) (at_place r (padding_step r.place n byte))
      unfolding passed padding_step found_after
      padding_byte any x = one (eqb byte 0) refl
        where
          walked : Trace
          walked = walk_from mode (7 - length fr) s base k

          two : (b : Bool) → leb n 1 ≡ b → byte ≡ 0 → Reads (i + 1) (at_place r
              (cond b (arrived r.place.depth r.place.at r.place.left r.place.lefts r.place.pads) (with_phase r.place (Padding (n - 1)))))
          two true e z =
              let l = leb-true n 1 e in
              let w = padded_more file n i (base + length s) walked any z ∙ padded_zero file (n - 1) (i + 1) (base + length s) walked (omega arith) in
              at_place_lem (last_byte (omega arith)) (same_path (x ∙ ap (λ (y : Trace). and_then y (unwind mode file fr)) w) reads.same)
          two false e z =
              let l = leb-false n 1 e in
              at_place_lem (in_padding {n = n - 1} {s = s} {base = base} {k = k} {fr = fr} refl st deep (omega arith) (omega arith) refl)
              (same_path (x ∙ ap (λ (y : Trace). and_then y (unwind mode file fr)) (padded_more file n i (base + length s) walked any z)) reads.same)

          one : (b : Bool) → eqb byte 0 ≡ b → Reads (i + 1) (at_place r
              (cond b (cond (leb n 1) (arrived r.place.depth r.place.at r.place.left r.place.lefts r.place.pads) (with_phase r.place (Padding (n - 1))))
              (with_phase r.place (Refused 207))))
          one true e = two (leb n 1) refl (eqb-true byte 0 e)
          one false e =
              at_place_lem (in_found refl (is_found mode file (i + 1) 207 i (base + length s) (unwind mode file fr) (omega (arith, due_207))))
              (same_path (x ∙ ap (λ (y : Trace). and_then y (unwind mode file fr)) (padded_207 file n i (base + length s) walked any e)) reads.same)
            where
              due_207 : found_after mode file 207 i (base + length s) ≡ i + 1
              due_207 = refl

    -- in a header: with its next byte in the window
    module _ {have : ℕ} {s : List ℕ} {base k : ℕ} {fr : List Frame} (st : Stands mode file s base k fr r.place.at r.place.left r.place.lefts r.place.pads)
        (deep : r.place.depth ≡ length fr) (come : i ≡ r.place.at + have) (four : 4 ≤ r.place.left) (few : have < needed mode r.place.left s k)
        (window : Window mode file s k have r.header) (x : reads.left ≡ rest mode file s base k fr) where
      abbrev header : List ℕ
      header = set r.header have byte

      abbrev left : ℕ
      left = r.place.left

      in_left : have < left
      in_left = let n = needed_left mode left s k four in omega arith

      window' : Window mode file s k (have + 1) header
      window' j h = go (eqb j have) refl
        where
          go : (b : Bool) → eqb j have ≡ b → get_or s (k + j) 0 ≡ get_or header j 0
          go true e =
              let q = eqb-true j have e in
              let l = reads.long in
              let m = needed_most mode left s k in
              let b = st.behind in
              let p : i ≡ base + (k + have) = come ∙ (let q = st.place in omega arith) in
              let here : get_or s (k + have) 0 ≡ byte = st.stream.bytes (k + have) (omega (arith, in_left)) ∙ ap (λ (n : ℕ). get_or file n 0) (sym p) in
              rw q (here ∙ sym (get_or-set_same r.header have byte 0 (omega arith)))
          go false e =
              let q = eqb-false j have e in
              window j (omega arith) ∙ sym (get_or-set_other r.header have j byte 0 (λ z. q z))

      -- too little yet
      waits : have + 1 < needed mode left header 0 → Reads (i + 1) (waiting r header (have + 1))
      waits short =
          let c = reads.count in
          record {
            left = rest mode file s base k fr;
            stands = in_header_lem {have = have + 1} {s = s} {base = base} {k = k} {fr = fr} refl st deep (omega arith) four enough window' refl;
            same = same_path x reads.same;
            count = omega arith;
            moded = reads.moded;
            wants = reads.wants;
            long = length-set r.header have byte ∙ reads.long;
          }
        where
          enough : have + 1 < needed mode left s k
          enough = go (ltb (have + 1) (needed mode left s k)) refl
            where
              go : (b : Bool) → ltb (have + 1) (needed mode left s k) ≡ b → have + 1 < needed mode left s k
              go true e = ltb-true (have + 1) (needed mode left s k) e
              go false e =
                  let l = ltb-false (have + 1) (needed mode left s k) e in
                  let q = backward mode file s base k left st.stream st.inside st.behind four header (have + 1) window' l in
                  absurd (omega arith)

      looks : Reads (i + 1) (waiting r header (have + 1)) → Reads (i + 1) (looked r header (have + 1) Partial.Waiting)
      unfolding looked
      looks w = w

      -- enough: what stands there in the stream is what the window says, and it needs just these bytes
      module _ (enough : needed mode left header 0 ≤ have + 1) where
        exact : needed mode left s k ≡ have + 1
        exact = let q = (forward mode file s base k left st.stream st.inside st.behind four header (have + 1) window' enough).1 in omega arith

        stood : {v : Head} → head_in mode left header 0 ≡ v → head_in mode left s k ≡ later k v
        stood {v} p = (forward mode file s base k left st.stream st.inside st.behind four header (have + 1) window' enough).0 ∙ ap (λ (v : Head). later k (later 0 v)) p ∙ ap (later k) (later_zero v)

        -- at another place, with no byte of a header
        moves : {a : Tally} {p : Place} {y : Trace} → At mode file (i + 1) (replicate {A = ℕ} 28 0) p y → Same a y → a.count ≤ i + 1 → Reads (i + 1) (moved r a p)
        moves {a} {p} {y} at same c =
            record { left = y; stands = at; same = same; count = c; moded = reads.moded; wants = reads.wants; long = length-replicate {A = ℕ} 28 0 }

        refuses : {n : ℕ} → walk_from mode (7 - length fr) s base k ≡ fault n (base + k) (base + length s)
            → found_after mode file n (base + k) (base + length s) ≡ base + k + needed mode left s k → Reads (i + 1) (refused r n)
        refuses {n} w d =
            let p = st.place in
            let e = exact in
            let c = reads.count in
            moves (in_found refl (is_found mode file (i + 1) n (base + k) (base + length s) (unwind mode file fr) (omega arith)))
            (same_path (x ∙ ap (λ (y : Trace). and_then y (unwind mode file fr)) w) reads.same) (omega arith)

        fails : {n : ℕ} → head_in mode left header 0 ≡ Fault n → Reads (i + 1) (refused r n)
        fails p =
            let h = stood p in
            let b = st.behind in
            refuses (walk_fault mode (7 - length fr) s base k (omega arith) (as_head mode file s base k left st.stream st.inside b four h))
            (due mode file s base k left st.stream st.inside b four h)

        -- a section: tallied, and entered
        meets : {t f g e : ℕ} {s' : List ℕ}
            → (reads.left ≡ section t (base + (k + f)) (base + (k + e)) (rest mode file s' (base + (k + g)) 0 (record { s = s; base = base; e = k + e } ∷ fr)))
            → k + e ≤ length s → f ≤ e → have + 1 ≤ g → g ≤ e → InFile file s' (base + (k + g)) → length s' ≡ e - g → (0 < e - g → length fr ≤ 6)
            → Reads (i + 1) (met r t f g e (have + 1))
        unfolding met
        meets {t} {f} {g} {e} {s'} w inside first came order stream long levels =
            let p = st.place in
            let b = st.behind in
            let l = st.stream.within in
            let c = reads.count in
            let a : wrapped (r.place.at + f) ≡ base + (k + f) = mod-eq_of_lt (omega arith) ∙ omega arith in
            let z : wrapped (r.place.at + e) ≡ base + (k + e) = mod-eq_of_lt (omega arith) ∙ omega arith in
            let v : visited r.tally r.want t (wrapped (r.place.at + f)) (wrapped (r.place.at + e)) ≡ counts r.tally want t (base + (k + f)) (base + (k + e)) =
            rw (a, z, reads.wants) (visits r.tally want t (base + (k + f)) (base + (k + e)) (omega arith)) in
            let n : i + 1 ≡ r.place.at + (have + 1) = omega arith in
            subst (λ (u : Tally). Reads (i + 1) (moved r u (entered r.place e g (have + 1)))) (sym v)
            (moves (subst (λ (m : ℕ). At mode file m (replicate {A = ℕ} 28 0) (entered r.place e g (have + 1))
            (rest mode file s' (base + (k + g)) 0 (record { s = s; base = base; e = k + e } ∷ fr))) (sym n)
            (enter mode file (replicate {A = ℕ} 28 0) r.place s base k fr st deep e g (have + 1) (omega arith) (omega arith) order came s' stream long levels (omega arith)))
            (same_section (same_path w reads.same))
            (omega (arith, counts_one r.tally want t (base + (k + f)) (base + (k + e)))))

        closes : {t f e : ℕ} → head_in mode left header 0 ≡ Closed t f e → Reads (i + 1) (cond (ltb r.place.depth 8) (met r t f e e (have + 1)) (refused r 205))
        unfolding and_then unwind bytes_for_head
        closes {t} {f} {e} p =
            let h = stood p in
            let b = st.behind in
            let head = as_head mode file s base k left st.stream st.inside b four h in
            let w = closed_within mode s k head in
            let n = needed_by mode left s k h in
            let o = own_least t in
            let q = header_range mode s k in
            let l = st.levels (omega arith) in
            let z = exact in
            let y = st.stream.within in
            rw (lt-ltb r.place.depth 8 (omega arith))
            (meets {s' = []}
            (x ∙ ap (λ (y : Trace). and_then y (unwind mode file fr)) (walk_closed mode (7 - length fr) s base k (omega arith) head)
            ∙ ap (section t (base + (k + f)) (base + (k + e))) (sym (ended mode file [] (base + (k + e)) 0 (record { s = s; base = base; e = k + e } ∷ fr) (omega arith))))
            (omega arith) (omega arith) (omega arith) (omega arith) (record { bytes = λ j few. absurd (omega arith); within = omega arith }) (omega arith) (λ more. omega arith))

        opens : {t f g e : ℕ} → head_in mode left header 0 ≡ Open t f g e → Reads (i + 1) (cond (ltb (r.place.depth + 1) 8) (met r t f g e (have + 1)) (refused r 205))
        unfolding and_then unwind bytes_for_head
        opens {t} {f} {g} {e} p = go (ltb (r.place.depth + 1) 8) refl
          where
            h : head_in mode left s k ≡ Open t (k + f) (k + g) (k + e)
            h = stood p

            head : head_at mode s k ≡ Open t (k + f) (k + g) (k + e)
            head = as_head mode file s base k left st.stream st.inside st.behind four h

            here : k < length s
            here = let b = st.behind in omega arith

            go : (b : Bool) → ltb (r.place.depth + 1) 8 ≡ b → Reads (i + 1) (cond b (met r t f g e (have + 1)) (refused r 205))
            go false y =
                let q = ltb-false (r.place.depth + 1) 8 y in
                let l = st.levels (omega arith) in
                let z : 7 - length fr ≡ 0 = omega arith in
                refuses (ap (λ (n : ℕ). walk_from mode n s base k) z ∙ walk_205 mode s base k here head) (due_205 mode file s base k left st.stream st.inside st.behind four h)
            go true y =
                let q = ltb-true (r.place.depth + 1) 8 y in
                let w = open_within mode s k head in
                let n = needed_by mode left s k h in
                let o = own_least t in
                let m = header_range mode s k in
                let z = exact in
                let u : suc (6 - length fr) ≡ 7 - length fr = omega arith in
                let v : 6 - length fr ≡ 7 - suc (length fr) = omega arith in
                let inner = walk mode (6 - length fr) (part (k + g) (k + e) s) (base + (k + g)) in
                let start : inner ≡ walk_from mode (7 - suc (length fr)) (part (k + g) (k + e) s) (base + (k + g)) 0 =
                walk-from_start mode (6 - length fr) (part (k + g) (k + e) s) (base + (k + g))
                ∙ ap (λ (n : ℕ). walk_from mode n (part (k + g) (k + e) s) (base + (k + g)) 0) v in
                let after = after_padding s base (k + e) (walk_from mode (7 - length fr) s base) in
                let opened : walk_from mode (7 - length fr) s base k ≡ section t (base + (k + f)) (base + (k + e)) (and_then inner after) =
                rw u at (walk_open mode (6 - length fr) s base k here head) in
                meets {s' = part (k + g) (k + e) s}
                (x ∙ ap (λ (y : Trace). and_then y (unwind mode file fr)) opened
                ∙ ap (section t (base + (k + f)) (base + (k + e)))
                (then_assoc inner after (unwind mode file fr) ∙ ap (λ (y : Trace). and_then y (and_then after (unwind mode file fr))) start))
                (omega arith) (omega arith) (omega arith) (omega arith)
                (in_part file s base (k + g) (k + e) st.stream (omega arith) (omega arith)) (part_long s (k + g) (k + e) (omega arith) (omega arith) ∙ omega arith)
                (λ more. omega arith)

        decides : (v : Head) → head_in mode left header 0 ≡ v → Reads (i + 1) (looked r header (have + 1) (decided v))
        unfolding looked decided
        decides (Fault n) p = fails p
        decides (Closed t f e) p = closes p
        decides (Open t f g e) p = opens p

      header_byte : Reads (i + 1) (stepped (Header have) r byte)
      unfolding stepped
      header_byte = subst (λ (m : Mode). Reads (i + 1) (looked r header (have + 1) (partial_of m header (have + 1) left))) (sym reads.moded) (go (part_is mode left header (have + 1)))
        where
          go : ((have + 1 < needed mode left header 0) × (partial_of mode header (have + 1) left ≡ Partial.Waiting))
              ⊎ ((needed mode left header 0 ≤ have + 1) × (partial_of mode header (have + 1) left ≡ decided (head_in mode left header 0)))
              → Reads (i + 1) (looked r header (have + 1) (partial_of mode header (have + 1) left))
          go (inl (short, p)) = subst (λ (v : Partial). Reads (i + 1) (looked r header (have + 1) v)) (sym p) (looks (waits short))
          go (inr (enough, p)) =
              subst (λ (v : Partial). Reads (i + 1) (looked r header (have + 1) v)) (sym p) (decides enough (head_in mode left header 0) refl)

    -- one byte more
    pub byte_more : Reads (i + 1) (stepped r.place.phase r byte)
    unfolding stepped
    byte_more = go reads.stands
      where
        by : {ph : Phase} → r.place.phase ≡ ph → Reads (i + 1) (stepped ph r byte) → Reads (i + 1) (stepped r.place.phase r byte)
        by p = subst (λ (ph : Phase). Reads (i + 1) (stepped ph r byte)) (sym p)

        go : At mode file i r.header r.place reads.left → Reads (i + 1) (stepped r.place.phase r byte)
        go (in_found p f) =
            let c = reads.count in
            by p (record {
              left = reads.left;
              stands = in_found p (λ j h. f j (omega arith));
              same = reads.same;
              count = omega arith;
              moded = reads.moded;
              wants = reads.wants;
              long = reads.long;
            })
        go (in_whole p all x) = absurd (omega arith)
        go (in_header_lem p st deep come four few window x) = by p (header_byte st deep come four few window x)
        go (in_body p st deep any come x) = by p (body_byte st deep come any x)
        go (in_padding p st deep any come x) = by p (padding_byte st deep come any x)
