-- Which faults are found, by the bytes that came: whatever the rest of the file is, and whatever comes after.
use Rattle.std.proofs.Common.{◌≡◌, ℕ, ◌+◌, ◌-◌, ◌<◌, ◌≤◌, Bool, true, false, cond, eqb, ltb, leb, ◌↔◌, List, [], ◌∷◌, ◌++◌, length, take, drop, replicate, sym, refl, ap, ◌∙◌, subst, add-zero, arith, length-append, take-append-drop, length-take-le, ltb-false, ltb-true, le-ltb, lt-ltb, eq-eqb, ne_eqb, eqb-true, leb-true}
use mathlib.Core.Option.{Option, none, some}
use borrow.Author.Tests.{eqb-false}
use lib.ListN.{get_elem?, get_or-append}
use lib.Seq.{take-append-le, take-append_seam, take-length}
use Rattle.common.specs.Answers.{refused}
use Rattle.common.specs.Refusals.{unless_refused}
use Rattle.sections.specs.Header.{grown, header_length, type_at}
use Rattle.sections.specs.Partial.{bytes_for, contents_fields}
use Rattle.sections.specs.Search.{Section, sections, first_fault, of_type, part_answer, search_of}
use Rattle.sections.specs.Walk.{Trace, done, fault, section, stream_limit, stream_walk}
use Rattle.sections.specs.declared.header.Mode.{Mode}
use Rattle.sections.proofs.header.Decided.{own_fields_lem}
use Rattle.sections.proofs.header.Sizes.{header_range}
use Rattle.sections.proofs.walk.FaultNumbers as Numbers
use Rattle.receiver.specs.Received.{EndsIn, here, later, file_of, found_after, found_fault, found_of, fault_number, counted_answer, received_of, with_count}
use Rattle.receiver.specs.Receiver.{no_tally, announced, fed, sound, portion_of, portions_of, finish_at, finish_of, found_in, fault_of, Receiver}
use Rattle.receiver.specs.Place.{Phase, Header, Body, Padding, Complete, Exceeded, Refused}
use Rattle.receiver.specs.Tally.{Tally}
use Rattle.receiver.proofs.receiver.Fed.{fed-refused}
use Rattle.receiver.proofs.receiver.Finishing as F
use Rattle.receiver.proofs.receiver.OneByte.{Reads}
use Rattle.receiver.proofs.receiver.Portions as R
use Rattle.receiver.proofs.receiver.Portions.{Comes, comes, fed-append, nothing, found_more, found_first, none_found, reads_file}

-- ---- a receiver's phase has the fault that was found

abbrev phase_fault : Phase → Option ℕ
phase_fault (Header have) = none
phase_fault (Body n) = none
phase_fault (Padding n) = none
phase_fault Complete = none
phase_fault Exceeded = none
phase_fault (Refused n) = some n

number_refused : (n m : ℕ) → refused n ≡ refused m → n ≡ m
number_refused n m p = cc

not-refused : (ph : Phase) → ((tally : Tally) → finish_at ph tally ≡ refused 208) → found_in ph ≡ 0 → none ≡ phase_fault ph
not-refused (Header have) f z = refl
not-refused (Body n) f z = refl
not-refused (Padding n) f z = refl
not-refused Complete f z = refl
not-refused Exceeded f z = refl
not-refused (Refused n) f z = let q = number_refused n 208 (f (no_tally 0)) in absurd (omega arith)

fault_phase : (ph : Phase) (n : ℕ) → phase_fault ph ≡ some n → ph ≡ Refused n
fault_phase (Header have) n p = absurd (nothing p)
fault_phase (Body m) n p = absurd (nothing p)
fault_phase (Padding m) n p = absurd (nothing p)
fault_phase Complete n p = absurd (nothing p)
fault_phase Exceeded n p = absurd (nothing p)
fault_phase (Refused m) n p = let z : m ≡ n = cc in ap Refused z

-- a fault that a receiver has stays in it, whatever comes, and is what the finish answers
found_phase : (ph : Phase) (n : ℕ) → found_in ph ≡ n → (n ≡ 0 → ⊥) → ph ≡ Refused n
found_phase (Header have) n p f = absurd (f (sym p))
found_phase (Body m) n p f = absurd (f (sym p))
found_phase (Padding m) n p f = absurd (f (sym p))
found_phase Complete n p f = absurd (f (sym p))
found_phase Exceeded n p f = absurd (f (sym p))
found_phase (Refused m) n p f = ap Refused p

module _ (r : Receiver) {n : ℕ} (p : r.place.phase ≡ Refused n) where
  portion_kept : (bytes : List ℕ) → portion_of r bytes ≡ r
  unfolding portion_of
  portion_kept bytes = go (sound r)
    where
      go : (b : Bool) → cond b (fed r bytes) r ≡ r
      go true = fed-refused r bytes p
      go false = refl

  portions_kept : (portions : List (List ℕ)) → portions_of r portions ≡ r
  unfolding portions_of
  portions_kept [] = refl
  portions_kept (bytes ∷ portions) = ap (λ (x : Receiver). portions_of x portions) (portion_kept bytes) ∙ portions_kept portions

pub fault_final : (r : Receiver) (portions : List (List ℕ)) (n : ℕ) → fault_of r ≡ n → (n ≡ 0 → ⊥)
    → (fault_of (portions_of r portions) ≡ n) × (finish_of (portions_of r portions) ≡ refused n)
unfolding fault_of finish_of
fault_final r portions n p f =
    let q = found_phase r.place.phase n p f in
    let k = portions_kept r q portions in
    (ap fault_of k ∙ p, ap finish_of k ∙ ap (λ (ph : Phase). finish_at ph r.tally) q)

-- the receiver of a file after these bytes, whatever is wanted in it
abbrev after : Mode → (total : ℕ) → (came : List ℕ) → Receiver
after mode total came = fed (announced mode 0 0 total) came

phase_found : (mode : Mode) (total : ℕ) (came : List ℕ) → found_of mode total came ≡ phase_fault (after mode total came).place.phase
phase_found mode total came = go (comes mode 0 0 total came)
  where
    go : Comes mode 0 0 total came → found_of mode total came ≡ phase_fault (after mode total came).place.phase
    go (R.refuses p f) = f ∙ ap phase_fault (sym p)
    go (R.completes p e f first tally) = f ∙ ap phase_fault (sym p)
    go (R.differs f z other l) = l ∙ not-refused (after mode total came).place.phase f z

module _ (mode : Mode) where
  -- once found, it stays
  pub found_stays : (total : ℕ) (came more : List ℕ) (n : ℕ) → found_of mode total came ≡ some n → found_of mode total (came ++ more) ≡ some n
  found_stays total came more n p =
      let q = fault_phase (after mode total came).place.phase n (sym (phase_found mode total came) ∙ p) in
      phase_found mode total (came ++ more)
      ∙ ap (λ (r : Receiver). phase_fault r.place.phase) (fed-append (announced mode 0 0 total) came more ∙ fed-refused (after mode total came) more q)
      ∙ ap phase_fault q

  -- it is the fault of every file of the announced length that starts with the bytes that came
  pub any_file : (came rest : List ℕ) → found_of mode (length (came ++ rest)) came ≡ found_fault mode (came ++ rest) (length came) (stream_walk mode (came ++ rest))
  any_file came rest = go (ltb (stream_limit mode) (length file)) refl
    where
      file : List ℕ
      file = came ++ rest

      long : length file ≡ length came + length rest
      long = length-append came rest

      fits : length file ≤ stream_limit mode → found_fault mode file (length came) (stream_walk mode file) ≡ phase_fault (after mode (length file) came).place.phase
      fits few = at_phase_lem (F.answers mode file 0 0 (stream_walk mode file) (length came) (after mode (length file) came) reads)
        where
          reads : Reads mode file 0 (no_tally 0) (stream_walk mode file) (length came) (after mode (length file) came)
          reads = reads_file mode 0 0 came file few (omega (arith, long)) (λ j h. sym (get_or-append came rest 0 j h))

          at_phase_lem : F.Answers mode file 0 0 (stream_walk mode file) (length came) (after mode (length file) came) reads
              → found_fault mode file (length came) (stream_walk mode file) ≡ phase_fault (after mode (length file) came).place.phase
          at_phase_lem (F.refuses p f) = f ∙ ap phase_fault (sym p)
          at_phase_lem (F.completes p e f first tally) = f ∙ ap phase_fault (sym p)
          at_phase_lem (F.waits f z more l) = l ∙ not-refused (after mode (length file) came).place.phase f z

      go : (b : Bool) → ltb (stream_limit mode) (length file) ≡ b → found_of mode (length file) came ≡ found_fault mode file (length came) (stream_walk mode file)
      go true p = R.found_206 mode 0 0 (length file) came (ltb-true (stream_limit mode) (length file) p) ∙ sym (R.walk_206 mode file (length came) (ltb-true (stream_limit mode) (length file) p))
      go false p = phase_found mode (length file) came ∙ sym (fits (ltb-false (stream_limit mode) (length file) p))

  -- where all that was announced came, the bytes are the file
  pub file_whole : (came : List ℕ) → file_of (length came) came ≡ came
  unfolding file_of
  file_whole came = take-append_seam came (replicate {A = ℕ} (length came) 0)

  file_front : (total : ℕ) (came : List ℕ) → total ≤ length came → file_of total came ≡ take total came
  unfolding file_of
  file_front total came h = take-append-le total came (replicate {A = ℕ} total 0) h

  -- and every fault of it is found
  pub all_found : (came : List ℕ) → found_of mode (length came) came ≡ first_fault (stream_walk mode came)
  unfolding found_of
  all_found came = go (comes mode 0 0 (length came) came)
    where
      there : first_fault (stream_walk mode (file_of (length came) came)) ≡ first_fault (stream_walk mode came)
      there = ap (λ (s : List ℕ). first_fault (stream_walk mode s)) (file_whole came)

      go : Comes mode 0 0 (length came) came → found_of mode (length came) came ≡ first_fault (stream_walk mode came)
      go (R.refuses {n} p f) = f ∙ sym (found_first mode (file_of (length came) came) (length came) n (stream_walk mode (file_of (length came) came)) f) ∙ there
      go (R.completes p e f first tally) = f ∙ sym first ∙ there
      go (R.differs f z other l) = absurd (other refl)

  -- bytes past the announced length change nothing in it
  pub past_counts : (total : ℕ) (came : List ℕ) → total ≤ length came → found_of mode total came ≡ first_fault (stream_walk mode (take total came))
  unfolding found_of
  past_counts total came enough = rw (file_front total came enough) (go (first_fault (stream_walk mode front)) refl)
    where
      front : List ℕ
      front = take total came

      front_long : length front ≡ total
      front_long = length-take-le total came enough

      go : (x : Option ℕ) → first_fault (stream_walk mode front) ≡ x → found_fault mode front (length came) (stream_walk mode front) ≡ first_fault (stream_walk mode front)
      go none p = none_found mode front (length came) (stream_walk mode front) p ∙ sym p
      go (some n) p =
          let q : found_fault mode front (length front) (stream_walk mode front) ≡ some n =
          ap (λ (s : List ℕ). found_fault mode s (length front) (stream_walk mode s)) (sym (file_whole front)) ∙ all_found front ∙ p in
          found_more mode front (length front) (length came) n (stream_walk mode front) (omega (arith, front_long)) q ∙ sym p

-- ---- the fault in which a walk ends

module _ (mode : Mode) (file : List ℕ) where
  ends_found : (n start e came : ℕ) {x : Trace} → EndsIn n start e x → found_fault mode file came x ≡ cond (leb (found_after mode file n start e) came) (some n) none
  unfolding found_fault
  ends_found n start e came here = refl
  ends_found n start e came (later x) = ends_found n start e came x

  ends_first : (n start e : ℕ) {x : Trace} → EndsIn n start e x → first_fault x ≡ some n
  unfolding first_fault
  ends_first n start e here = refl
  ends_first n start e (later x) = ends_first n start e x

  -- with the first bytes of a file it is found exactly where they are as many as it needs
  pub found_exactly : (n start e : ℕ) → EndsIn n start e (stream_walk mode file) → (k : ℕ) → k ≤ length file
      → found_of mode (length file) (take k file) ≡ cond (leb (found_after mode file n start e) k) (some n) none
  found_exactly n start e ends k h =
      let l = length-take-le k file h in
      let all : take k file ++ drop k file ≡ file = take-append-drop k file in
      ap (λ (s : List ℕ). found_of mode (length s) (take k file)) (sym all)
      ∙ any_file mode (take k file) (drop k file)
      ∙ ap (λ (s : List ℕ). found_fault mode s (length (take k file)) (stream_walk mode s)) all
      ∙ ap (λ (i : ℕ). found_fault mode file i (stream_walk mode file)) l
      ∙ ends_found n start e k ends

  -- which are no more than the file has
  pub found_in_time : (n start e : ℕ) → EndsIn n start e (stream_walk mode file) → found_after mode file n start e ≤ length file
  found_in_time n start e ends = go (leb (found_after mode file n start e) (length file)) refl all
    where
      all : cond (leb (found_after mode file n start e) (length file)) (some n) none ≡ some n
      all =
          sym (found_exactly n start e ends (length file) (omega arith))
          ∙ ap (found_of mode (length file)) (take-length file) ∙ all_found mode file ∙ ends_first n start e ends

      go : (b : Bool) → leb (found_after mode file n start e) (length file) ≡ b → cond b (some n) none ≡ some n → found_after mode file n start e ≤ length file
      go true p q = leb-true (found_after mode file n start e) (length file) p
      go false p q = absurd (nothing q)

  -- its number is one of 01's
  pub fault_number_lem : (n start e : ℕ) → EndsIn n start e (stream_walk mode file) → (201 ≤ n) × (n ≤ 207)
  fault_number_lem n start e ends = Numbers.fault_number_lem mode file n (ends_first n start e ends)

  found_ends : (came n : ℕ) (x : Trace) → found_fault mode file came x ≡ some n → (start : ℕ) × (e : ℕ) × EndsIn n start e x
  unfolding found_fault
  found_ends came n done p = absurd (nothing p)
  found_ends came n (fault m start e) p = go (leb (found_after mode file m start e) came) p
    where
      go : (b : Bool) → cond b (some m) none ≡ some n → (s : ℕ) × (f : ℕ) × EndsIn n s f (fault m start e)
      go true q = let z : m ≡ n = cc in (start, e, subst (λ (k : ℕ). EndsIn k start e (fault m start e)) z here)
      go false q = absurd (nothing q)
  found_ends came n (section t first end x) p = let r = found_ends came n x p in (r.0, r.1, later r.2)

-- so a fault that was found is not 0, the number of none
pub found_number : (mode : Mode) (total : ℕ) (came : List ℕ) (n : ℕ) → found_of mode total came ≡ some n → (201 ≤ n) × (n ≤ 207)
unfolding found_of
found_number mode total came n p =
    let file = file_of total came in
    let r = found_ends mode file (length came) n (stream_walk mode file) p in
    fault_number_lem mode file n r.0 r.1 r.2

pub none_zero : (mode : Mode) (total : ℕ) (came : List ℕ) → (fault_number (found_of mode total came) ≡ 0) ↔ (found_of mode total came ≡ none)
none_zero mode total came = go (found_of mode total came) refl
  where
    go : (x : Option ℕ) → found_of mode total came ≡ x → (fault_number x ≡ 0) ↔ (x ≡ none)
    go none p = (λ z. refl, λ z. refl)
    go (some n) p = let r = found_number mode total came n p in (λ z. absurd (omega arith), λ z. let y : ◌≡◌ {A = ℕ} 0 1 = cc in omega arith)

-- ---- when each is found

module _ (mode : Mode) (file : List ℕ) (start e : ℕ) where
  abbrev h : ℕ
  h = header_length mode file start

  pub after_206 : found_after mode file 206 start e ≡ 0
  unfolding found_after
  after_206 = refl

  pub after_207 : found_after mode file 207 start e ≡ start + 1
  unfolding found_after
  after_207 = refl

  pub after_201 : e - start < 4 → found_after mode file 201 start e ≡ start
  unfolding found_after bytes_for
  after_201 few = rw (lt-ltb (e - start) 4 few) (add-zero start)

  pub after_201_long : 4 ≤ e - start → found_after mode file 201 start e ≡ start + 3
  unfolding found_after bytes_for
  after_201_long enough = rw (le-ltb (e - start) 4 enough)

  pub after_202 : found_after mode file 202 start e ≡ start + h
  unfolding found_after bytes_for
  after_202 = refl

  pub after_203 : found_after mode file 203 start e ≡ start + h
  unfolding found_after bytes_for
  after_203 = refl

  module _ (compressed : type_at file start ≡ 0x01) where
    pub after_204_compression : found_after mode file 204 start e ≡ start + grown h 9
    unfolding found_after bytes_for contents_fields
    after_204_compression = let r = header_range mode file start in rw (eq-eqb (type_at file start) 0x01 compressed) (omega arith)

    pub after_205_compression : found_after mode file 205 start e ≡ start + grown h 9
    unfolding found_after bytes_for
    after_205_compression = let r = header_range mode file start in let o = own_fields_lem.0 in rw compressed (omega arith)

  module _ (defined : type_at file start ≡ 0x02) where
    pub after_204_guid : found_after mode file 204 start e ≡ start + grown h 22
    unfolding found_after bytes_for contents_fields
    after_204_guid = let r = header_range mode file start in rw (ne_eqb (type_at file start) 0x01 (λ z. omega arith)) (omega arith)

    pub after_205_guid : found_after mode file 205 start e ≡ start + grown h 24
    unfolding found_after bytes_for
    after_205_guid = let r = header_range mode file start in let o = own_fields_lem.1 in rw defined (omega arith)

-- ---- the finish

module _ (mode : Mode) (t instance total : ℕ) (came : List ℕ) where
  pub finish_fault : {n : ℕ} → found_of mode total came ≡ some n → received_of mode t instance total came ≡ refused n
  unfolding received_of
  finish_fault p = rw p

  -- the other answers, by what they come from
  abbrev all : List Section
  all = sections (stream_walk mode (file_of total came))

  abbrev wanted : Option Section
  wanted = get_elem? (of_type t all) instance

  pub finish_208 : (received_of mode t instance total came ≡ refused 208) ↔ ((found_of mode total came ≡ none) × (length came ≡ total → ⊥))
  unfolding received_of
  finish_208 = (λ q. go (found_of mode total came) refl (eqb (length came) total) refl wanted q, λ p. rw (p.0, ne_eqb (length came) total p.1))
    where
      go : (x : Option ℕ) → found_of mode total came ≡ x → (b : Bool) → eqb (length came) total ≡ b → (y : Option Section)
          → unless_refused refused x (cond b (counted_answer (length all) y) (refused 208)) ≡ refused 208 → (found_of mode total came ≡ none) × (length came ≡ total → ⊥)
      go (some n) p b e y q = let r = found_number mode total came n p in let z : n ≡ 208 = number_refused n 208 q in absurd (omega arith)
      go none p true e none q = let z = number_refused 14 208 q in absurd (omega arith)
      go none p true e (some y) q = let z : ◌≡◌ {A = ℕ} 0 1 = cc in absurd (omega arith)
      go none p false e y q = (p, eqb-false (length came) total e)

  pub finish_14 : (received_of mode t instance total came ≡ refused 14) ↔ ((found_of mode total came ≡ none) × (length came ≡ total) × (wanted ≡ none))
  unfolding received_of
  finish_14 =
      (λ q. go (found_of mode total came) refl (eqb (length came) total) refl wanted refl q, λ p. rw (p.0, eq-eqb (length came) total p.1, p.2))
    where
      go : (x : Option ℕ) → found_of mode total came ≡ x → (b : Bool) → eqb (length came) total ≡ b → (y : Option Section) → wanted ≡ y
          → unless_refused refused x (cond b (counted_answer (length all) y) (refused 208)) ≡ refused 14
          → (found_of mode total came ≡ none) × (length came ≡ total) × (wanted ≡ none)
      go (some n) p b e y w q = let r = found_number mode total came n p in let z : n ≡ 14 = number_refused n 14 q in absurd (omega arith)
      go none p true e none w q = (p, eqb-true (length came) total e, w)
      go none p true e (some y) w q = let z : ◌≡◌ {A = ℕ} 0 1 = cc in absurd (omega arith)
      go none p false e y w q = let z = number_refused 208 14 q in absurd (omega arith)

-- where exactly the announced bytes came: the search, with the number of sections
pub finish_whole : (mode : Mode) (t instance : ℕ) (file : List ℕ)
    → received_of mode t instance (length file) file ≡ with_count (length (sections (stream_walk mode file))) (search_of mode file t instance)
unfolding received_of search_of
finish_whole mode t instance file =
    rw (all_found mode file, eq-eqb (length file) (length file) refl, file_whole mode file) (go (first_fault (stream_walk mode file)) (get_elem? (of_type t met) instance))
  where
    met : List Section
    met = sections (stream_walk mode file)

    go : (x : Option ℕ) (y : Option Section)
        → unless_refused refused x (counted_answer (length met) y) ≡ with_count (length met) (unless_refused refused x (part_answer y))
    go (some n) y = refl
    go none none = refl
    go none (some y) = refl
