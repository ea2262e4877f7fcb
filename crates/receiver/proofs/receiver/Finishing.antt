-- What a receiver answers that stands in the walk of the file, where so many bytes came.
use Rattle.std.proofs.Common.{◌≡◌, ℕ, zero, suc, ◌+◌, ◌-◌, ◌<◌, ◌≤◌, Bool, true, false, cond, eqb, List, [], ◌∷◌, length, get_or, refl, ap, ◌∙◌, arith}
use mathlib.Core.Option.{none, some}
use borrow.Author.Tests.{lt-leb}
use Rattle.common.specs.Answers.{refused}
use Rattle.sections.specs.Header.{head_in, head_at, Head, Fault, Closed, Open}
use Rattle.sections.specs.Partial.{needed, bytes_for_head}
use Rattle.sections.specs.Search.{sections, first_fault}
use Rattle.sections.specs.Walk.{Trace, done, fault, section, and_then, aligned, after_padding, part}
use Rattle.sections.specs.declared.header.Mode.{Mode}
use Rattle.sections.proofs.header.Decided.{own_least}
use Rattle.sections.proofs.header.Extent.{closed_within, open_within}
use Rattle.sections.proofs.header.Sizes.{header_range}
use Rattle.sections.proofs.partial.Agree.{needed_left}
use Rattle.sections.proofs.walk.Starts.{walk_from, walk-from_start, walk_fault, walk_closed, walk_205, walk_open}
use Rattle.receiver.specs.Received.{found_after, found_fault}
use Rattle.receiver.specs.Receiver.{no_tally, finish_at, found_in, Receiver}
use Rattle.receiver.specs.Place.{Phase, Complete, Refused}
use Rattle.receiver.specs.Tally.{Tally}
use Rattle.receiver.proofs.receiver.Heads.{needed_by, as_head, due, due_205}
use Rattle.receiver.proofs.receiver.Late.{Behind, behind_then, behind_less, behind_padding, behind_from, late}
use Rattle.receiver.proofs.place.Padded.{InFile, padded}
use Rattle.receiver.proofs.receiver.OneByte.{Reads}
use Rattle.receiver.proofs.place.Standing.{Frame, unwind, Chained, At, in_found, in_whole, in_header_lem, in_body, in_padding}
use Rattle.receiver.proofs.tally.Counts.{tallied, tallied_none}

module _ (mode : Mode) (file : List ℕ) where
  -- a fault that is found later
  late_fault : (came n start e : ℕ) → came < found_after mode file n start e → found_fault mode file came (fault n start e) ≡ none
  unfolding found_fault
  late_fault came n start e h = rw (lt-leb (found_after mode file n start e) came h)

  late_then : (came : ℕ) (x y : Trace) → found_fault mode file came x ≡ none → found_fault mode file came y ≡ none → found_fault mode file came (and_then x y) ≡ none
  unfolding found_fault and_then
  late_then came done y p q = q
  late_then came (fault n start e) y p q = p
  late_then came (section t f e x) y p q = late_then came x y p q

  late_section : (came t f e : ℕ) (x : Trace) → found_fault mode file came x ≡ none → found_fault mode file came (section t f e x) ≡ none
  unfolding found_fault
  late_section came t f e x p = p

  late_padded : (came n i e : ℕ) (x : Trace) → came ≤ i → found_fault mode file came x ≡ none → found_fault mode file came (padded file n i e x) ≡ none
  unfolding padded found_after
  late_padded came zero i e x h p = p
  late_padded came (suc n) i e x h p = go (eqb (get_or file i 0) 0) (late_padded came n (i + 1) e x (omega arith) p)
    where
      go : (b : Bool) → found_fault mode file came (padded file n (i + 1) e x) ≡ none
          → found_fault mode file came (cond b (padded file n (i + 1) e x) (fault 207 i e)) ≡ none
      go true q = q
      go false q = late_fault came 207 i e (omega arith)

  -- what follows the streams that are open
  behind_unwind : (end : ℕ) (fr : List Frame) → Chained mode file end fr → Behind end (unwind mode file fr)
  unfolding unwind
  behind_unwind end [] c = tt
  behind_unwind end (f ∷ fr) c =
      let a = c.0 in
      let b = c.1 in
      let from = behind_from mode (7 - length fr) f.s f.base (aligned f.e) in
      behind_then end (after_padding f.s f.base f.e (walk_from mode (7 - length fr) f.s f.base)) (unwind mode file fr)
      (behind_padding end f.s f.base f.e (walk_from mode (7 - length fr) f.s f.base) (omega arith)
      (behind_less (f.base + aligned f.e) end (walk_from mode (7 - length fr) f.s f.base (aligned f.e)) (omega arith) from))
      (behind_less (f.base + length f.s) end (unwind mode file fr) (omega arith) (behind_unwind (f.base + length f.s) fr c.3))

  module _ (s : List ℕ) (base k left : ℕ) (stream : InFile file s base) (inside : k ≤ length s) (behind : left ≡ length s - k) (four : 4 ≤ left)
      (came n : ℕ) (early : came < base + k + needed mode left s k) where
    here : k < length s
    here = omega arith

    -- at a start of whose section fewer bytes came than it needs
    late_padding : (e : ℕ) → came < base + e → found_fault mode file came (after_padding s base e (walk_from mode n s base)) ≡ none
    late_padding e h =
        late mode file came (base + e) (after_padding s base e (walk_from mode n s base)) h
        (behind_padding (base + e) s base e (walk_from mode n s base) (omega arith)
        (behind_less (base + aligned e) (base + e) (walk_from mode n s base (aligned e)) (omega arith) (behind_from mode n s base (aligned e))))

    late_head : (v : Head) → head_in mode left s k ≡ v → found_fault mode file came (walk_from mode n s base k) ≡ none
    unfolding bytes_for_head
    late_head (Fault m) p =
        let head = as_head mode file s base k left stream inside behind four p in
        let d = due mode file s base k left stream inside behind four p in
        ap (found_fault mode file came) (walk_fault mode n s base k here head) ∙ late_fault came m (base + k) (base + length s) (omega arith)
    late_head (Closed t f e) p =
        let head = as_head mode file s base k left stream inside behind four p in
        let w = closed_within mode s k head in
        let m = needed_by mode left s k p in
        let o = own_least t in
        let h = header_range mode s k in
        ap (found_fault mode file came) (walk_closed mode n s base k here head)
        ∙ late_section came t (base + f) (base + e) (after_padding s base e (walk_from mode n s base)) (late_padding e (omega arith))
    late_head (Open t f g e) p = go n refl
      where
        head : head_at mode s k ≡ Open t f g e
        head = as_head mode file s base k left stream inside behind four p

        go : (m : ℕ) → n ≡ m → found_fault mode file came (walk_from mode n s base k) ≡ none
        go zero z =
            let d = due_205 mode file s base k left stream inside behind four p in
            ap (λ (m : ℕ). found_fault mode file came (walk_from mode m s base k)) z
            ∙ ap (found_fault mode file came) (walk_205 mode s base k here head) ∙ late_fault came 205 (base + k) (base + length s) (omega arith)
        go (suc m) z =
            let w = open_within mode s k head in
            let q = needed_by mode left s k p in
            let o = own_least t in
            let h = header_range mode s k in
            let inner = walk_from mode m (part g e s) (base + g) 0 in
            let after = after_padding s base e (walk_from mode n s base) in
            let b : base + g ≤ base + g + 0 = omega arith in
            let opened : walk_from mode n s base k ≡ section t (base + f) (base + e) (and_then inner after) =
            rw (← z, walk-from_start mode m (part g e s) (base + g)) at (walk_open mode m s base k here head) in
            ap (found_fault mode file came) opened
            ∙ late_section came t (base + f) (base + e) (and_then inner after)
            (late_then came inner after
            (late mode file came (base + g) inner (omega arith) (behind_less (base + g + 0) (base + g) inner b (behind_from mode m (part g e s) (base + g) 0)))
            (late_padding e (omega arith)))

module _ (mode : Mode) (file : List ℕ) (want instance : ℕ) (all : Trace) (i : ℕ) (r : Receiver) (reads : Reads mode file want (no_tally instance) all i r) where
  -- where bytes are still to come, no fault is found
  pub data Answers : Type 0 where
    refuses : {n : ℕ} → r.place.phase ≡ Refused n → found_fault mode file i all ≡ some n → Answers
    completes : r.place.phase ≡ Complete → i ≡ length file → found_fault mode file i all ≡ none → first_fault all ≡ none
        → tallied want (no_tally instance) (sections all) ≡ r.tally → Answers
    waits : ((tally : Tally) → finish_at r.place.phase tally ≡ refused 208) → found_in r.place.phase ≡ 0 → i < length file → found_fault mode file i all ≡ none → Answers

  module _ {ph : Phase} (p : r.place.phase ≡ ph) where
    waiting : ((tally : Tally) → finish_at ph tally ≡ refused 208) → found_in ph ≡ 0 → i < length file → found_fault mode file i reads.left ≡ none → Answers
    waiting f z more l = waits (λ tally. ap (λ (q : Phase). finish_at q tally) p ∙ f tally) (ap found_in p ∙ z) more (reads.same.found i ∙ l)

  pub answers : Answers
  unfolding found_fault first_fault sections
  answers = go reads.stands
    where
      unwound : (s : List ℕ) (base : ℕ) (fr : List Frame) → Chained mode file (base + length s) fr → i < base + length s → found_fault mode file i (unwind mode file fr) ≡ none
      unwound s base fr c h = late mode file i (base + length s) (unwind mode file fr) h (behind_unwind mode file (base + length s) fr c)

      go : At mode file i r.header r.place reads.left → Answers
      go (in_found p f) = refuses p (reads.same.found i ∙ f i (omega arith))
      go (in_whole p e x) =
          completes p e (reads.same.found i ∙ ap (found_fault mode file i) x) (reads.same.first ∙ ap first_fault x)
          (reads.same.tally ∙ ap (λ (y : Trace). tallied want r.tally (sections y)) x ∙ tallied_none want r.tally)
      go (in_header_lem {have} {s} {base} {k} {fr} p st deep come four few window x) =
          let b = st.behind in
          let a = st.place in
          let w = st.stream.within in
          let n = needed_left mode r.place.left s k four in
          waiting p (λ tally. refl) refl (omega arith)
          (ap (found_fault mode file i) x
          ∙ late_then mode file i (walk_from mode (7 - length fr) s base k) (unwind mode file fr)
          (late_head mode file s base k r.place.left st.stream st.inside b four i (7 - length fr) (omega arith) (head_in mode r.place.left s k) refl)
          (unwound s base fr st.chained (omega arith)))
      go (in_body {n} {s} {base} {k} {fr} p st deep any come x) =
          let b = st.behind in
          let a = st.place in
          let w = st.stream.within in
          let z = st.inside in
          waiting p (λ tally. refl) refl (omega arith)
          (ap (found_fault mode file i) x
          ∙ late_then mode file i (walk_from mode (7 - length fr) s base k) (unwind mode file fr)
          (late mode file i (base + k) (walk_from mode (7 - length fr) s base k) (omega arith) (behind_from mode (7 - length fr) s base k))
          (unwound s base fr st.chained (omega arith)))
      go (in_padding {n} {s} {base} {k} {fr} p st deep any come x) =
          let b = st.behind in
          let a = st.place in
          let w = st.stream.within in
          let z = st.inside in
          waiting p (λ tally. refl) refl (omega arith)
          (ap (found_fault mode file i) x
          ∙ late_then mode file i (padded file n i (base + length s) (walk_from mode (7 - length fr) s base k)) (unwind mode file fr)
          (late_padded mode file i n i (base + length s) (walk_from mode (7 - length fr) s base k) (omega arith)
          (late mode file i (base + k) (walk_from mode (7 - length fr) s base k) (omega arith) (behind_from mode (7 - length fr) s base k)))
          (unwound s base fr st.chained (omega arith)))
