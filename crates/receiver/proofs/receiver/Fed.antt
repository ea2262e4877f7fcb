-- The bytes of a portion, one after the other: a byte more, the bytes of a body at once, and those that do not matter.
use Rattle.std.proofs.Common.{◌≡◌, ℕ, zero, suc, ◌-◌, ◌<◌, ◌≤◌, List, [], ◌∷◌, length, get_or, drop, refl, ap, ◌∙◌, arith, drop-cons, le-leb}
use borrow.Author.Tests.{lt-leb}
use Rattle.receiver.specs.Place.{with_phase, onwards, Phase, Body, Complete, Exceeded, Refused}
use Rattle.receiver.specs.Receiver.{at_place, passed, stepped, fed, Receiver}

-- a byte more, by what comes next
pub fed-step : (r : Receiver) (b : ℕ) (l : List ℕ) {ph : Phase} → r.place.phase ≡ ph → fed r (b ∷ l) ≡ fed (stepped ph r b) l
unfolding fed
fed-step r b l e = ap (λ (p : Phase). fed (stepped p r b) l) e

-- where no byte is left
pub fed_end : (r : Receiver) (s : List ℕ) → length s ≡ 0 → fed r s ≡ r
unfolding fed
fed_end r [] none = refl
fed_end r (b ∷ l) none = absurd (omega arith)

-- where what comes does not matter
pub fed_exceeded : (r : Receiver) (l : List ℕ) → r.place.phase ≡ Exceeded → fed r l ≡ r
unfolding fed stepped
fed_exceeded r [] e = refl
fed_exceeded r (b ∷ l) e = fed-step r b l e ∙ fed_exceeded r l e

pub fed-refused : (r : Receiver) (l : List ℕ) {n : ℕ} → r.place.phase ≡ Refused n → fed r l ≡ r
unfolding fed stepped
fed-refused r [] e = refl
fed-refused r (b ∷ l) e = fed-step r b l e ∙ fed-refused r l e

pub fed_complete : (r : Receiver) (l : List ℕ) → r.place.phase ≡ Complete → 0 < length l → fed r l ≡ at_place r (with_phase r.place Exceeded)
unfolding stepped
fed_complete r [] e some = absurd (omega arith)
fed_complete r (b ∷ l) e some = fed-step r b l e ∙ fed_exceeded (at_place r (with_phase r.place Exceeded)) l refl

-- in a body: some of its bytes, and its last one
pub fed_body : (k n : ℕ) (r : Receiver) (l : List ℕ) → r.place.phase ≡ Body n → k < n → k ≤ length l
    → fed r l ≡ fed (at_place r (with_phase r.place (Body (n - k)))) (drop k l)
unfolding stepped passed
fed_body zero n r l e few there =
    let q : n ≡ n - 0 = omega arith in ap (λ (p : Phase). fed (at_place r (with_phase r.place p)) l) (e ∙ ap Body q)
fed_body (suc k) n r [] e few there = absurd (omega arith)
fed_body (suc k) n r (b ∷ l) e few there =
    let q : n - 1 - k ≡ n - suc k = omega arith in
    fed-step r b l e
    ∙ rw (lt-leb n 1 (omega arith)) (fed_body k (n - 1) (at_place r (with_phase r.place (Body (n - 1)))) l refl (omega arith) (omega arith)
    ∙ ap (λ (m : ℕ). fed (at_place r (with_phase r.place (Body m))) (drop k l)) q)

module _ (r : Receiver) where
  abbrev pub there : Receiver
  there = at_place r (onwards r.place)

  fed_last : (n b : ℕ) (l : List ℕ) → r.place.phase ≡ Body n → n ≤ 1 → fed r (b ∷ l) ≡ fed there l
  unfolding stepped passed
  fed_last n b l e few = fed-step r b l e ∙ rw (le-leb n 1 few)

  pub fed_none : (l : List ℕ) → r.place.phase ≡ Body 0 → 1 ≤ length l → fed r l ≡ fed there (drop 1 l)
  fed_none [] e some = absurd (omega arith)
  fed_none (b ∷ l) e some = fed_last 0 b l e (omega arith)

pub fed_all : (r : Receiver) (n : ℕ) (l : List ℕ) → r.place.phase ≡ Body (suc n) → suc n ≤ length l → fed r l ≡ fed (there r) (drop (suc n) l)
fed_all r n l e enough =
    let p = with_phase r.place (Body (suc n - n)) in
    let a : drop n l ≡ get_or l n 0 ∷ drop (suc n) l = drop-cons l n 0 enough in
    fed_body n (suc n) r l e (omega arith) (omega arith)
    ∙ ap (λ (m : List ℕ). fed (at_place r p) m) a
    ∙ fed_last (at_place r p) (suc n - n) (get_or l n 0) (drop (suc n) l) refl (omega arith)
