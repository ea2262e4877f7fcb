-- At the terminator the list is good, and what was reached is all that it reaches; at a pair that does not fit, and at an end without the terminator, it is bad.
use Prim.Native.Nat.{ℕ, ◌+◌, ◌*◌, ◌<◌}
use mathlib.Core.Bool.{Bool, true, false, ◌||◌, or-false}
use mathlib.Core.List.{List}
use mathlib.Core.Path.{◌≡◌, sym, ◌∙◌}
use native.Mathlib.Omega.{arith}
use borrow.Author.Rules.{rules}
use lib.ListN.{length, get_or, drop}
use Rattle.std.specs.Prelude.{Ok, Err}
use Rattle.common.specs.declared.refusal.Refusal.TheVariants as R
use Rattle.block_service.specs.Erase.{end_of_list, good_list, reaches, judged_list}
use Rattle.block_service.proofs.erase.Lists.{fits_known, ends_good, ends-reaches, ended_within, not_ended, good_pair, reach_hit, reach_miss}
use Rattle.block_service.proofs.erase.list_reaches.Goals as goal
use Rattle.block_service.proofs.erase.list_reaches.Goals.{then-protected-first, else-protected-first}

-- what is said where the walk ends, at place i
module _ (total m : ℕ) (w : List ℕ) (i : ℕ) (reached : Bool) (good : good_list total (drop i w) ≡ good_list total w) (reach : (reached || reaches m (drop i w)) ≡ reaches m w) where
  ended : get_or w i 0 ≡ end_of_list → Ok reached ≡ judged_list (good_list total w) (reaches m w)
  ended e =
      let h = ended_within w i e in
      let all : true ≡ good_list total w = ends_good w i h e total ∙ good in
      let what : reached ≡ reaches m w = sym (or-false reached) ∙ (rw (ends-reaches w i h e m) at reach) in
      rw (← all, ← what)

  bad : false ≡ good_list total (drop i w) → Err R.InvalidParameter ≡ judged_list (good_list total w) (reaches m w)
  bad e = let none : false ≡ good_list total w = e ∙ good in rw (← none)

pub returns-then-first : goal.returns-then-first
returns-then-first g c = ended _ _ _ _ _ c.loop-j.invariant.good c.loop-j.invariant.reach (sym c.pair-first.ensures.0 ∙ search rules)

pub loop-j-preserved : goal.loop-j-preserved
loop-j-preserved g c =
    let w = g.L.EraseList.words c.args.list in
    let i = 2 * c.loop-j.j in
    let next : 2 * (c.loop-j.j + 1) ≡ i + 2 = omega arith in
    let h : i + 1 < length w = omega (arith, c.pairs-pairs.ensures) in
    let e : c.pair-first.result.0 ≡ end_of_list → ⊥ = search rules in
    let fits = fits_known _ _ _ _ c.pair_fits.ensures c.if-not-pair_fits.false in
    record {
      good = rw next (good_pair w i _ _ h c.pair-first.ensures.0 c.pair-first.ensures.1 e _ _ c.pair_fits.ensures c.if-not-pair_fits.false ∙ c.loop-j.invariant.good);
      reach = rw next (elim c.if-protected-first.branch [
        | then-protected-first x ↦ rw x.reached-is (reach_hit w i _ _ h c.pair-first.ensures.0 c.pair-first.ensures.1 e _ fits.0 c.loop-j.reached _ c.loop-j.invariant.reach (omega (arith, x.if-protected-first.true)))
        | else-protected-first x ↦ rw x.reached-is (reach_miss w i _ _ h c.pair-first.ensures.0 c.pair-first.ensures.1 e _ fits.0 c.loop-j.reached _ c.loop-j.invariant.reach (omega (arith, x.if-protected-first.false)))
      ]);
    }

-- past the pairs at most one word is left
pub returns-then-last : goal.returns-then-last
returns-then-last g c =
    let z : c.loop-j.j ≡ c.pairs-pairs.result = omega arith in
    ended _ _ _ _ _ (rw z at c.loop-j.invariant.good) (rw z at c.loop-j.invariant.reach) (sym c.pair-last.ensures.0 ∙ search rules)

pub returns-else-last : goal.returns-else-last
returns-else-last g c =
    let z : c.loop-j.j ≡ c.pairs-pairs.result = omega arith in
    let e : c.pair-last.result.0 ≡ end_of_list → ⊥ = search rules in
    let w = g.L.EraseList.words c.args.list in
    bad _ _ w _ c.loop-j.reached (rw z at c.loop-j.invariant.good) (rw z at c.loop-j.invariant.reach)
    (not_ended w (2 * c.pairs-pairs.result) _ (omega (arith, c.pairs-pairs.ensures)) (λ h. e (c.pair-last.ensures.0 ∙ h)))
