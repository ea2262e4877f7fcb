-- The receiver of a file, portion after portion: what it answers is what the definition says of the bytes that came.
use Rattle.std.proofs.Common.{◌≡◌, ℕ, suc, ◌+◌, ◌<◌, ◌≤◌, Bool, true, false, cond, ltb, leb, List, [], ◌∷◌, ◌++◌, length, get_or, take, drop, replicate, sym, refl, ap, ◌∙◌, subst, add-zero, zero-add, arith, length-append, length-drop, take-append-drop, length-take-le, get_or-take, ltb-false, ltb-true, le-ltb, lt-ltb, eq-eqb, ne_eqb, le-leb, leb-true}
use mathlib.Core.Option.{Option, none, some}
use lib.ListN.{length-replicate, get_or-append}
use Rattle.common.specs.Answers.{refused}
use Rattle.sections.specs.Header.{is_pi}
use Rattle.sections.specs.Search.{sections, first_fault}
use Rattle.sections.specs.Walk.{Trace, done, fault, section, and_then, walk, stream_limit, stream_walk}
use Rattle.sections.specs.declared.header.Mode.{Mode}
use Rattle.sections.proofs.walk.Starts.{walk_from, walk-from_start}
use Rattle.receiver.specs.Place.{started, arrived, Phase, Complete, Exceeded, Refused}
use Rattle.receiver.specs.Received.{joined, file_of, found_after, found_fault, found_of, fault_number, received_of}
use Rattle.receiver.specs.Receiver.{no_tally, begun, not_announced, announced, stepped, fed, sound, portion_of, portions_of, tally_answer, finish_at, finish_of, found_in, fault_of, Receiver}
use Rattle.receiver.specs.Tally.{Tally}
use Rattle.receiver.proofs.receiver.Fed.{fed-refused, fed_complete}
use Rattle.receiver.proofs.receiver.Finishing as F
use Rattle.receiver.proofs.receiver.OneByte.{Reads, byte_more}
use Rattle.receiver.proofs.receiver.Sound.{sound_fits, fits_sound, arrived_fits, stepped_fits}
use Rattle.receiver.proofs.tally.Counts.{tallied, tally_answer_lem}
use Rattle.receiver.proofs.place.Standing.{Stands, unwind, rest, arrive}

-- the limits of a stream are far below what a number holds
limit_most : (mode : Mode) → stream_limit mode ≤ 67108864
unfolding stream_limit
limit_most mode = go (is_pi mode)
  where
    go : (b : Bool) → cond b 67108864 16777216 ≤ 67108864
    go true = omega arith
    go false = omega arith

limit_least : (mode : Mode) → 4 ≤ stream_limit mode
unfolding stream_limit
limit_least mode = go (is_pi mode)
  where
    go : (b : Bool) → 4 ≤ cond b 67108864 16777216
    go true = omega arith
    go false = omega arith

then_done : (x : Trace) → and_then x done ≡ x
unfolding and_then
then_done done = refl
then_done (fault n p e) = refl
then_done (section t f e x) = ap (section t f e) (then_done x)

module _ (mode : Mode) (file : List ℕ) (fits : length file ≤ stream_limit mode) (want instance : ℕ) where
  -- the whole walk
  walks : stream_walk mode file ≡ walk mode 7 file 0
  unfolding stream_walk
  walks = rw (le-ltb (stream_limit mode) (length file) fits)

  -- from the announcement on
  stands : Stands mode file file 0 0 [] 0 (length file) (replicate {A = ℕ} 8 0) (replicate {A = ℕ} 8 0)
  stands =
      record {
        stream = record { bytes = λ j h. ap (λ (n : ℕ). get_or file n 0) (sym (zero-add j)); within = omega arith };
        chained = zero-add (length file);
        held = tt;
        place = refl;
        inside = omega arith;
        behind = omega arith;
        start = λ more. refl;
        levels = λ more. omega arith;
        most = omega arith;
        lefts_8 = length-replicate {A = ℕ} 8 0;
        pads_8 = length-replicate {A = ℕ} 8 0;
      }

  pub begins : Reads mode file want (no_tally instance) (stream_walk mode file) 0 (announced mode want instance (length file))
  unfolding announced unwind
  begins =
      let all : stream_walk mode file ≡ rest mode file file 0 0 [] = walks ∙ walk-from_start mode 7 file 0 ∙ sym (then_done (walk_from mode 7 file 0 0)) in
      subst (λ (b : Bool). Reads mode file want (no_tally instance) (stream_walk mode file) 0
      (cond b not_announced (begun mode want instance (arrived 0 0 (length file) (replicate {A = ℕ} 8 0) (replicate {A = ℕ} 8 0)))))
      (sym (le-ltb (stream_limit mode) (length file) fits))
      (record {
        left = rest mode file file 0 0 [];
        stands = arrive mode file (replicate {A = ℕ} 28 0) file 0 0 [] 0 (length file) (replicate {A = ℕ} 8 0) (replicate {A = ℕ} 8 0) stands (omega arith);
        same = record {
          found = λ j. ap (found_fault mode file j) all;
          first = ap first_fault all;
          tally = ap (λ (x : Trace). tallied want (no_tally instance) (sections x)) all;
        };
        count = omega arith;
        moded = refl;
        wants = refl;
        long = length-replicate {A = ℕ} 28 0;
      })

  -- through the bytes of the file
  pub feeds : (i : ℕ) (r : Receiver) (l : List ℕ) → Reads mode file want (no_tally instance) (stream_walk mode file) i r → i + length l ≤ length file
      → ((j : ℕ) → j < length l → get_or l j 0 ≡ get_or file (i + j) 0) → Reads mode file want (no_tally instance) (stream_walk mode file) (i + length l) (fed r l)
  unfolding fed
  feeds i r [] reads few same = subst (λ (n : ℕ). Reads mode file want (no_tally instance) (stream_walk mode file) n r) (sym (add-zero i)) reads
  feeds i r (b ∷ l) reads few same =
      let m = limit_most mode in
      let q : i + 1 + length l ≡ i + suc (length l) = omega arith in
      let here : get_or file i 0 ≡ b = ap (λ (n : ℕ). get_or file n 0) (sym (add-zero i)) ∙ sym (same 0 (omega arith)) in
      let next : Reads mode file want (no_tally instance) (stream_walk mode file) (i + 1) (stepped r.place.phase r b) =
      subst (λ (c : ℕ). Reads mode file want (no_tally instance) (stream_walk mode file) (i + 1) (stepped r.place.phase r c)) here
      (byte_more mode file want (no_tally instance) (stream_walk mode file) i r reads (omega arith) (omega arith)) in
      subst (λ (n : ℕ). Reads mode file want (no_tally instance) (stream_walk mode file) n (fed (stepped r.place.phase r b) l)) q
      (feeds (i + 1) (stepped r.place.phase r b) l next (omega arith)
      (λ j h. let p : i + suc j ≡ i + 1 + j = omega arith in same (suc j) (omega arith) ∙ ap (λ (n : ℕ). get_or file n 0) p))

-- ---- bytes, and portions of them

pub fed-append : (r : Receiver) (a b : List ℕ) → fed r (a ++ b) ≡ fed (fed r a) b
unfolding fed
fed-append r [] b = refl
fed-append r (x ∷ a) b = fed-append (stepped r.place.phase r x) a b

fed-sound : (r : Receiver) (l : List ℕ) → sound r ≡ true → sound (fed r l) ≡ true
unfolding fed
fed-sound r [] s = s
fed-sound r (x ∷ l) s =
    let next = stepped r.place.phase r x in
    fed-sound next l (fits_sound next (stepped_fits r (sound_fits r s).0 x r.place.phase refl))

portions_fed : (r : Receiver) (portions : List (List ℕ)) → sound r ≡ true → portions_of r portions ≡ fed r (joined portions)
unfolding portions_of portion_of joined fed
portions_fed r [] s = refl
portions_fed r (bytes ∷ portions) s = rw s (portions_fed (fed r bytes) portions (fed-sound r bytes s) ∙ sym (fed-append r bytes (joined portions)))

announced-sound : (mode : Mode) (want instance total : ℕ) → sound (announced mode want instance total) ≡ true
unfolding announced
announced-sound mode want instance total = go (ltb (stream_limit mode) total)
  where
    eight : List ℕ
    eight = replicate {A = ℕ} 8 0

    go : (b : Bool) → sound (cond b not_announced (begun mode want instance (arrived 0 0 total eight eight))) ≡ true
    go true = fits_sound not_announced (omega arith, omega arith)
    go false = fits_sound (begun mode want instance (arrived 0 0 total eight eight)) (arrived_fits 0 0 total eight eight (omega arith))

-- so no announcement leads to a receiver whose places do not lie in its arrays
pub received_sound : (mode : Mode) (want instance total : ℕ) (portions : List (List ℕ)) → sound (portions_of (announced mode want instance total) portions) ≡ true
received_sound mode want instance total portions =
    let first = announced mode want instance total in
    ap sound (portions_fed first portions (announced-sound mode want instance total)) ∙ fed-sound first (joined portions) (announced-sound mode want instance total)

pub portions_received : (mode : Mode) (want instance total : ℕ) (portions : List (List ℕ))
    → portions_of (announced mode want instance total) portions ≡ fed (announced mode want instance total) (joined portions)
portions_received mode want instance total portions = portions_fed (announced mode want instance total) portions (announced-sound mode want instance total)

-- ---- the file

module _ (total : ℕ) (came : List ℕ) where
  pub file_length : length (file_of total came) ≡ total
  unfolding file_of
  file_length = length-take-le total (came ++ replicate {A = ℕ} total 0) (simp (length-append, length-replicate) (omega arith))

  pub file_bytes : (j : ℕ) → j < total → j < length came → get_or came j 0 ≡ get_or (file_of total came) j 0
  unfolding file_of
  file_bytes j low here = sym (get_or-take total (came ++ replicate {A = ℕ} total 0) j 0 low ∙ get_or-append came (replicate {A = ℕ} total 0) 0 j here)

-- ---- faults of a walk, found or not

pub nothing : {n : ℕ} → ◌≡◌ {A = Option ℕ} none (some n) → ⊥
nothing p = let z : ◌≡◌ {A = ℕ} 0 1 = cc in omega arith

module _ (mode : Mode) (file : List ℕ) where
  -- once found, it is found
  pub found_more : (i j n : ℕ) (x : Trace) → i ≤ j → found_fault mode file i x ≡ some n → found_fault mode file j x ≡ some n
  unfolding found_fault
  found_more i j n done h p = p
  found_more i j n (fault m start e) h p = go (leb (found_after mode file m start e) i) refl p
    where
      go : (b : Bool) → leb (found_after mode file m start e) i ≡ b → cond b (some m) none ≡ some n → cond (leb (found_after mode file m start e) j) (some m) none ≡ some n
      go true l q = let k = leb-true (found_after mode file m start e) i l in rw (le-leb (found_after mode file m start e) j (omega arith)) q
      go false l q = absurd (nothing q)
  found_more i j n (section t f e x) h p = found_more i j n x h p

  -- only what is at fault is found
  pub found_first : (i n : ℕ) (x : Trace) → found_fault mode file i x ≡ some n → first_fault x ≡ some n
  unfolding found_fault first_fault
  found_first i n done p = p
  found_first i n (fault m start e) p = go (leb (found_after mode file m start e) i) p
    where
      go : (b : Bool) → cond b (some m) none ≡ some n → some m ≡ some n
      go true q = q
      go false q = absurd (nothing q)
  found_first i n (section t f e x) p = found_first i n x p

  pub none_found : (i : ℕ) (x : Trace) → first_fault x ≡ none → found_fault mode file i x ≡ none
  unfolding found_fault first_fault
  none_found i done p = refl
  none_found i (fault m start e) p = absurd (nothing (sym p))
  none_found i (section t f e x) p = none_found i x p

-- ---- the receiver, by the bytes that came

-- where the announcement is refused, 206 was found, and stays
pub walk_206 : (mode : Mode) (file : List ℕ) (came : ℕ) → stream_limit mode < length file → found_fault mode file came (stream_walk mode file) ≡ some 206
unfolding stream_walk found_fault found_after
walk_206 mode file came over = rw (lt-ltb (stream_limit mode) (length file) over, le-leb 0 came (omega arith))

module _ (mode : Mode) (want instance total : ℕ) (came : List ℕ) (over : stream_limit mode < total) where
  refused_206 : (announced mode want instance total).place.phase ≡ Refused 206
  unfolding announced
  refused_206 = rw (lt-ltb (stream_limit mode) total over)

  pub found_206 : found_of mode total came ≡ some 206
  unfolding found_of
  found_206 = let l = file_length total came in walk_206 mode (file_of total came) (length came) (omega arith)

  stays_206 : fed (announced mode want instance total) came ≡ announced mode want instance total
  stays_206 = fed-refused (announced mode want instance total) came refused_206

-- the file holds what came of it, and all that a receiver knows is in these bytes
module _ (mode : Mode) (want instance : ℕ) (came : List ℕ) where
  -- up to the announced length
  pub reads_file : (file : List ℕ) → length file ≤ stream_limit mode → length came ≤ length file → ((j : ℕ) → j < length came → get_or came j 0 ≡ get_or file j 0)
      → Reads mode file want (no_tally instance) (stream_walk mode file) (length came) (fed (announced mode want instance (length file)) came)
  reads_file file fits within same =
      subst (λ (n : ℕ). Reads mode file want (no_tally instance) (stream_walk mode file) n (fed (announced mode want instance (length file)) came)) (zero-add (length came))
      (feeds mode file fits want instance 0 (announced mode want instance (length file)) came (begins mode file fits want instance) (omega arith)
      (λ j h. same j h ∙ ap (λ (n : ℕ). get_or file n 0) (sym (zero-add j))))

  pub reads_short : (total : ℕ) → total ≤ stream_limit mode → length came ≤ total
      → Reads mode (file_of total came) want (no_tally instance) (stream_walk mode (file_of total came)) (length came) (fed (announced mode want instance total) came)
  reads_short total fits within =
      let l = file_length total came in
      subst (λ (n : ℕ). Reads mode (file_of total came) want (no_tally instance) (stream_walk mode (file_of total came)) (length came) (fed (announced mode want instance n) came)) l
      (reads_file (file_of total came) (omega arith) (omega arith) (λ j h. file_bytes total came j (omega arith) h))

-- what it comes to
module _ (mode : Mode) (want instance total : ℕ) (came : List ℕ) where
  abbrev file : List ℕ
  file = file_of total came

  abbrev last : Receiver
  last = fed (announced mode want instance total) came

  -- a fault was found; or all came, and no fault is in the file; or more or fewer bytes came
  pub data Comes : Type 0 where
    refuses : {n : ℕ} → last.place.phase ≡ Refused n → found_of mode total came ≡ some n → Comes
    completes : last.place.phase ≡ Complete → length came ≡ total → found_of mode total came ≡ none → first_fault (stream_walk mode file) ≡ none
        → tallied want (no_tally instance) (sections (stream_walk mode file)) ≡ last.tally → Comes
    differs : ((tally : Tally) → finish_at last.place.phase tally ≡ refused 208) → found_in last.place.phase ≡ 0 → (length came ≡ total → ⊥)
        → found_of mode total came ≡ none → Comes

  -- fewer bytes than announced, or as many
  within : total ≤ stream_limit mode → length came ≤ total → Comes
  unfolding found_of
  within fits few = go (F.answers mode file want instance (stream_walk mode file) (length came) last (reads_short mode want instance came total fits few))
    where
      go : F.Answers mode file want instance (stream_walk mode file) (length came) last (reads_short mode want instance came total fits few) → Comes
      go (F.refuses p f) = refuses p f
      go (F.completes p e f first tally) = completes p (e ∙ file_length total came) f first tally
      go (F.waits f z more l) = differs f z (λ e. let n = file_length total came in omega arith) l

  -- more: those past the announced length only count
  beyond : total ≤ stream_limit mode → total < length came → Comes
  unfolding found_of
  beyond fits over = go (F.answers mode file want instance (stream_walk mode file) (length front) first reads)
    where
      front : List ℕ
      front = take total came

      front_long : length front ≡ total
      front_long = length-take-le total came (omega arith)

      first : Receiver
      first = fed (announced mode want instance (length file)) front

      reads : Reads mode file want (no_tally instance) (stream_walk mode file) (length front) first
      reads =
          let n = file_length total came in
          reads_file mode want instance front file (omega arith) (omega (arith, front_long))
          (λ j h. get_or-take total came j 0 (omega (arith, front_long)) ∙ file_bytes total came j (omega (arith, front_long)) (omega (arith, front_long)))

      joins : last ≡ fed first (drop total came)
      joins =
          ap (λ (n : ℕ). fed (announced mode want instance n) came) (sym (file_length total came))
          ∙ ap (fed (announced mode want instance (length file))) (sym (take-append-drop total came))
          ∙ fed-append (announced mode want instance (length file)) front (drop total came)

      go : F.Answers mode file want instance (stream_walk mode file) (length front) first reads → Comes
      go (F.refuses {n} p f) =
          refuses (ap (λ (r : Receiver). r.place.phase) (joins ∙ fed-refused first (drop total came) p) ∙ p)
          (found_more mode file (length front) (length came) n (stream_walk mode file) (omega (arith, front_long)) f)
      go (F.completes p e f none_at tally) =
          let more : 0 < length (drop total came) = rw (length-drop total came) (omega arith) in
          let past : last.place.phase ≡ Exceeded = ap (λ (r : Receiver). r.place.phase) (joins ∙ fed_complete first (drop total came) p more) in
          differs (λ tally. ap (λ (q : Phase). finish_at q tally) past) (ap found_in past) (λ e. omega arith)
          (none_found mode file (length came) (stream_walk mode file) none_at)
      go (F.waits f z more l) = let n = file_length total came in absurd (omega (arith, front_long))

  pub comes : Comes
  comes = go (ltb (stream_limit mode) total) refl (ltb total (length came)) refl
    where
      go : (b : Bool) → ltb (stream_limit mode) total ≡ b → (d : Bool) → ltb total (length came) ≡ d → Comes
      go true p d q =
          let over = ltb-true (stream_limit mode) total p in
          refuses (ap (λ (r : Receiver). r.place.phase) (stays_206 mode want instance total came over) ∙ refused_206 mode want instance total came over)
          (found_206 mode want instance total came over)
      go false p true q = beyond (ltb-false (stream_limit mode) total p) (ltb-true total (length came) q)
      go false p false q = within (ltb-false (stream_limit mode) total p) (ltb-false total (length came) q)

  -- the finish after these bytes
  pub finishes : finish_of last ≡ received_of mode want instance total came
  unfolding finish_of received_of
  finishes = go comes
    where
      go : Comes → finish_at last.place.phase last.tally ≡ received_of mode want instance total came
      go (refuses p f) = rw f (ap (λ (q : Phase). finish_at q last.tally) p)
      go (completes p e f first tally) =
          rw (f, eq-eqb (length came) total e)
          (ap (λ (q : Phase). finish_at q last.tally) p ∙ ap tally_answer (sym tally) ∙ tally_answer_lem want instance (sections (stream_walk mode file)))
      go (differs f z other l) = rw (l, ne_eqb (length came) total other) (f last.tally)

  -- the fault that was found in them
  pub faults : fault_of last ≡ fault_number (found_of mode total came)
  unfolding fault_of
  faults = go comes
    where
      go : Comes → found_in last.place.phase ≡ fault_number (found_of mode total came)
      go (refuses p f) = rw f (ap found_in p)
      go (completes p e f first tally) = rw f (ap found_in p)
      go (differs f z other l) = rw l z

-- with 1 to 3 bytes announced and none come
pub short_total : (mode : Mode) (want instance total : ℕ) → 0 < total → total < 4 → fault_of (announced mode want instance total) ≡ 201
unfolding fault_of announced arrived started
short_total mode want instance total one few =
    let limit : 4 ≤ stream_limit mode = limit_least mode in
    rw (le-ltb (stream_limit mode) total (omega arith), ne_eqb total 0 (λ z. omega arith), lt-ltb total 4 few)
