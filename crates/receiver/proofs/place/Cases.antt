-- Where a receiver is, test by test: what comes next once every byte before a place came, and a section entered.
use Rattle.std.proofs.Common.{◌≡◌, ℕ, zero, suc, ◌-◌, ◌+◌, ◌<◌, ◌≤◌, List, get_or, set, refl, ◌∙◌, add-one, arith, lt-ltb, le-ltb, eq-eqb, ne_eqb, le-leb}
use Rattle.std.proofs.lemmas.List.{map-set}
use borrow.Author.Tests.{lt-leb}
use Rattle.std.proofs.Math.ListN.{get_or-map}
use Rattle.receiver.specs.Tally.{wrapped}
use Rattle.receiver.specs.Place.{Header, Body, Padding, Refused, Place, placed, place_of, lefts_of, pads_of, started, arrived, padding, entered}
use Rattle.receiver.specs.declared.place.Level.{Level}
use Rattle.receiver.specs.declared.place.Place as Code

module _ (levels : List Level) where
  -- what follows the innermost section but `d`, in the code's terms and the definitions'
  abbrev level : ℕ → Level
  level d = get_or levels d (record { left = 0; pad = 0 })

  left_at : (d : ℕ) → get_or (lefts_of levels) d 0 ≡ (level d).left
  left_at d = get_or-map (λ (l : Level). l.left) levels d (record { left = 0; pad = 0 })

  pad_at : (d : ℕ) → get_or (pads_of levels) d 0 ≡ (level d).pad
  pad_at d = get_or-map (λ (l : Level). l.pad) levels d (record { left = 0; pad = 0 })

  module _ (at left : ℕ) where
    pub at_padding : (depth : ℕ) → left ≡ 0 → (depth ≡ 0 → ⊥) → ((level (depth - 1)).pad ≡ 0 → ⊥)
        → placed (Padding (level (depth - 1)).pad) (wrapped (at + (level (depth - 1)).pad)) (level (depth - 1)).left (depth - 1) (lefts_of levels) (pads_of levels)
        ≡ arrived depth at left (lefts_of levels) (pads_of levels)
    unfolding arrived
    at_padding zero e d p = absurd (d refl)
    at_padding (suc n) e d p =
        let q : suc n - 1 ≡ n = omega arith in
        rw (q, eq-eqb left 0 e, left_at n, pad_at n, ne_eqb (level n).pad 0 (rw q at p))

    pub at_outwards : (depth : ℕ) → left ≡ 0 → (depth ≡ 0 → ⊥) → (level (depth - 1)).pad ≡ 0
        → arrived (depth - 1) at (level (depth - 1)).left (lefts_of levels) (pads_of levels) ≡ arrived depth at left (lefts_of levels) (pads_of levels)
    unfolding arrived
    at_outwards zero e d p = absurd (d refl)
    at_outwards (suc n) e d p = let q : suc n - 1 ≡ n = omega arith in rw (q, eq-eqb left 0 e, left_at n, pad_at n, eq-eqb (level n).pad 0 (rw q at p))

    pub at_201 : (depth : ℕ) → (left ≡ 0 → ⊥) → left < 4 → placed (Refused 201) at left depth (lefts_of levels) (pads_of levels) ≡ arrived depth at left (lefts_of levels) (pads_of levels)
    unfolding arrived started
    at_201 zero e few = rw (ne_eqb left 0 e, lt-ltb left 4 few)
    at_201 (suc n) e few = rw (ne_eqb left 0 e, lt-ltb left 4 few)

    pub at_header : (depth : ℕ) → 4 ≤ left → placed (Header 0) at left depth (lefts_of levels) (pads_of levels) ≡ arrived depth at left (lefts_of levels) (pads_of levels)
    unfolding arrived started
    at_header zero four = rw (ne_eqb left 0 (λ e. omega arith), le-ltb left 4 four)
    at_header (suc n) four = rw (ne_eqb left 0 (λ e. omega arith), le-ltb left 4 four)

-- into a section
module _ (p : Code.Place) (size from have : ℕ) {behind pad left : ℕ} (b : behind ≡ p.left - size) (w : pad ≡ padding size behind) (l : left ≡ size - from) where
  -- what follows it is written
  abbrev levels : List Level
  levels = set p.levels p.depth (record { left = behind - pad; pad = pad })

  lefts : lefts_of levels ≡ set (lefts_of p.levels) p.depth (behind - pad)
  lefts = map-set (λ (x : Level). x.left) p.levels p.depth (record { left = behind - pad; pad = pad })

  pads : pads_of levels ≡ set (pads_of p.levels) p.depth pad
  pads = map-set (λ (x : Level). x.pad) p.levels p.depth (record { left = behind - pad; pad = pad })

  pub entered_contents : {x : Place} → from ≤ have → x ≡ arrived (p.depth + 1) (wrapped (p.at + from)) left (lefts_of levels) (pads_of levels)
      → x ≡ entered (place_of p) size from have
  unfolding entered
  entered_contents f x = x ∙ rw (le-leb from have f, lefts, pads, w, b, l, add-one p.depth)

  pub entered_body : have < from → placed (Body (from - have)) (wrapped (p.at + from)) left (p.depth + 1) (lefts_of levels) (pads_of levels)
      ≡ entered (place_of p) size from have
  unfolding entered
  entered_body f = rw (lt-leb from have f, lefts, pads, w, b, l, add-one p.depth)
