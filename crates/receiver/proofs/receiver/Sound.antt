-- Whatever a receiver takes, its places go on lying in its arrays.
use Rattle.std.proofs.Common.{◌≡◌, ℕ, zero, suc, ◌+◌, ◌-◌, ◌<◌, ◌≤◌, Bool, true, false, cond, not, ◌&&◌, eqb, ltb, leb, ◌⊎◌, List, get_or, set, sym, refl, ap, ◌∙◌, inl, inr, arith, ltb-true, lt-ltb, le-leb, leb-true}
use mathlib.Core.Option.{Option, none, some}
use Rattle.common.specs.Refusals.{first_refusal, unless_refused}
use Rattle.sections.specs.Header.{type_at, header_length, packed, is_holder, head_faults, section_of, head_in}
use Rattle.sections.specs.Types.{type_info}
use Rattle.sections.specs.Partial.{needed, decided, partial_of, Partial}
use Rattle.sections.specs.declared.header.Mode.{Mode}
use Rattle.sections.proofs.types.Rows.{both}
use Rattle.sections.proofs.partial.Views.{part_is, needed_most}
use Rattle.receiver.specs.Tally.{wrapped}
use Rattle.receiver.specs.Place.{placed, with_phase, started, arrived, onwards, padding, entered, Phase, Header, Body, Padding, Complete, Exceeded, Refused, Place}
use Rattle.receiver.specs.Receiver.{looked, met, refused, passed, padding_step, stepped, have_of, sound, Receiver}

-- as two facts
abbrev pub Fits : Place → Type 0
Fits p = (p.depth ≤ 8) × (have_of p.phase < 28)

module _ (r : Receiver) where
  pub sound_fits : sound r ≡ true → Fits r.place
  unfolding sound
  sound_fits e = let w = both (leb r.place.depth 8) (ltb (have_of r.place.phase) 28) e in (leb-true _ _ w.0, ltb-true _ _ w.1)

  pub fits_sound : Fits r.place → sound r ≡ true
  unfolding sound
  fits_sound f = rw (le-leb r.place.depth 8 f.0, lt-ltb (have_of r.place.phase) 28 f.1)

-- inside so many sections at the most, with no byte of a header
abbrev pub Fresh : ℕ → Place → Type 0
Fresh d p = (p.depth ≤ d) × (have_of p.phase ≡ 0)

module _ (lefts pads : List ℕ) where
  started_fresh : (at left d : ℕ) → Fresh d (started at left d lefts pads)
  unfolding started
  started_fresh at left d = go (ltb left 4)
    where
      go : (b : Bool) → Fresh d (placed (cond b (Refused 201) (Header 0)) at left d lefts pads)
      go true = (omega arith, refl)
      go false = (omega arith, refl)

  pub arrived_fresh : (d at left : ℕ) → Fresh d (arrived d at left lefts pads)
  unfolding arrived
  arrived_fresh zero at left = go (eqb left 0) (started_fresh at left 0)
    where
      go : (b : Bool) → Fresh 0 (started at left 0 lefts pads) → Fresh 0 (cond b (placed Complete at left 0 lefts pads) (started at left 0 lefts pads))
      go true s = (omega arith, refl)
      go false s = s
  arrived_fresh (suc d) at left =
      go (eqb left 0) (eqb (get_or pads d 0) 0) (arrived d at (get_or lefts d 0) lefts pads) (started at left (suc d) lefts pads)
      (arrived_fresh d at (get_or lefts d 0)) (started_fresh at left (suc d))
    where
      padded : Place
      padded = placed (Padding (get_or pads d 0)) (wrapped (at + get_or pads d 0)) (get_or lefts d 0) d lefts pads

      go : (a b : Bool) (p q : Place) → Fresh d p → Fresh (suc d) q → Fresh (suc d) (cond a (cond b p padded) q)
      go true true p q f g = (omega (arith, f.0), f.1)
      go true false p q f g = (omega arith, refl)
      go false b p q f g = g

pub arrived_fits : (d at left : ℕ) (lefts pads : List ℕ) → d ≤ 8 → Fits (arrived d at left lefts pads)
arrived_fits d at left lefts pads few = let f = arrived_fresh lefts pads d at left in (omega (arith, f.0), omega (arith, f.1))

module _ (p : Place) where
  abbrev there : Place
  there = onwards p

  pub there_fits : p.depth ≤ 8 → Fits there
  there_fits = arrived_fits p.depth p.at p.left p.lefts p.pads

  pub entered_fits : (size from have : ℕ) → p.depth < 8 → Fits (entered p size from have)
  unfolding entered
  entered_fits size from have few = go (leb from have)
    where
      pad : ℕ
      pad = padding size (p.left - size)

      lefts : List ℕ
      lefts = set p.lefts p.depth (p.left - size - pad)

      pads : List ℕ
      pads = set p.pads p.depth pad

      at : ℕ
      at = wrapped (p.at + from)

      body : Place
      body = placed (Body (from - have)) at (size - from) (suc p.depth) lefts pads

      go : (b : Bool) → Fits (cond b (arrived (suc p.depth) at (size - from) lefts pads) body)
      go true = arrived_fits (suc p.depth) at (size - from) lefts pads (omega arith)
      go false = (omega arith, omega arith)

  pub passed_fits : (n : ℕ) (phase : ℕ → Phase) → have_of (phase (n - 1)) ≡ 0 → p.depth ≤ 8 → Fits (passed p n phase)
  unfolding passed
  passed_fits n phase e few = go (leb n 1)
    where
      go : (b : Bool) → Fits (cond b there (with_phase p (phase (n - 1))))
      go true = there_fits few
      go false = (few, omega (arith, e))

  padding_fits : (n b : ℕ) → p.depth ≤ 8 → Fits (padding_step p n b)
  unfolding padding_step
  padding_fits n b few = go (eqb b 0)
    where
      go : (z : Bool) → Fits (cond z (passed p n Padding) (with_phase p (Refused 207)))
      go true = passed_fits n Padding refl few
      go false = (few, omega arith)

-- what was decided is no waiting: a fault, or a section
is_found : Partial → ℕ
is_found Partial.Waiting = 0
is_found (Partial.Fault n) = 1
is_found (Partial.Closed t first e) = 1
is_found (Partial.Open t first from e) = 1

refused_or : {A : Type 0} (P : A → Type 0) (f : ℕ → A) (o : Option ℕ) {x : A} → ((n : ℕ) → P (f n)) → P x → P (unless_refused f o x)
refused_or P f none p q = q
refused_or P f (some n) p q = p n

one_of : {A : Type 0} (P : A → Type 0) (b : Bool) {x y : A} → P x → P y → P (cond b x y)
one_of P true p q = p
one_of P false p q = q

module _ (mode : Mode) (left : ℕ) (s : List ℕ) where
  decided_found : is_found (decided (head_in mode left s 0)) ≡ 1
  unfolding is_found decided head_in section_of
  decided_found =
      refused_or (λ x. is_found (decided x) ≡ 1) _ (first_refusal (head_faults mode left s 0)) (λ n. refl)
      (one_of (λ x. is_found (decided x) ≡ 1) (is_holder (type_info (type_at s 0)).class && not (packed s 0 (type_at s 0) (header_length mode s 0))) refl refl)

  decided_some : decided (head_in mode left s 0) ≡ Partial.Waiting → ⊥
  unfolding is_found
  decided_some e = let z = sym decided_found ∙ ap is_found e in omega arith

-- 28 bytes are enough
pub waiting_few : (mode : Mode) (s : List ℕ) (have left : ℕ) → partial_of mode s have left ≡ Partial.Waiting → have < 28
waiting_few mode s have left e = go (part_is mode left s have)
  where
    go : ((have < needed mode left s 0) × (partial_of mode s have left ≡ Partial.Waiting))
        ⊎ ((needed mode left s 0 ≤ have) × (partial_of mode s have left ≡ decided (head_in mode left s 0))) → have < 28
    go (inl w) = let m = needed_most mode left s 0 in omega (arith, w.0)
    go (inr d) = absurd (decided_some mode left s (sym d.1 ∙ e))

module _ (r : Receiver) (few : r.place.depth ≤ 8) where
  pub looked_fits : (header : List ℕ) (have : ℕ) (look : Partial) → (look ≡ Partial.Waiting → have < 28) → Fits (looked r header have look).place
  unfolding looked met
  looked_fits header have Partial.Waiting w = (few, w refl)
  looked_fits header have (Partial.Fault n) w = (few, omega arith)
  looked_fits header have (Partial.Closed t first e) w = go (ltb r.place.depth 8) refl
    where
      go : (b : Bool) → ltb r.place.depth 8 ≡ b → Fits (cond b (met r t first e e have) (refused r 205)).place
      go true q = entered_fits r.place e e have (ltb-true _ _ q)
      go false q = (few, omega arith)
  looked_fits header have (Partial.Open t first from e) w = go (ltb (r.place.depth + 1) 8) refl
    where
      go : (b : Bool) → ltb (r.place.depth + 1) 8 ≡ b → Fits (cond b (met r t first from e have) (refused r 205)).place
      go true q = entered_fits r.place e from have (let d = ltb-true (r.place.depth + 1) 8 q in omega arith)
      go false q = (few, omega arith)

  pub stepped_fits : (b : ℕ) (ph : Phase) → r.place.phase ≡ ph → Fits (stepped ph r b).place
  unfolding stepped
  stepped_fits b (Header have) e =
      let header = set r.header have b in looked_fits header (have + 1) _ (waiting_few r.mode header (have + 1) r.place.left)
  stepped_fits b (Body n) e = passed_fits r.place n Body refl few
  stepped_fits b (Padding n) e = padding_fits r.place n b few
  stepped_fits b Complete e = (few, omega arith)
  stepped_fits b Exceeded e = (few, rw e (omega arith))
  stepped_fits b (Refused n) e = (few, rw e (omega arith))
