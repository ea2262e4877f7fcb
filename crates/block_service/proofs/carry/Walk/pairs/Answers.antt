-- What is left from pair j on, from the next byte's number on, is what was left at the start.
use Prim.Native.Nat.{◌+◌, ◌*◌, ◌<◌}
use mathlib.Core.Path.{◌≡◌, sym, ◌∙◌}
use native.Mathlib.Omega.{arith}
use borrow.Author.Rules.{rules}
use lib.ListN.{length}
use Rattle.block_service.specs.Erase.{end_of_list}
use Rattle.block_service.proofs.erase.Lists.{pair_good, good_end}
use Rattle.block_service.proofs.carry.Walks.{pair_told, pair_stored, rest_done}
use Rattle.block_service.proofs.carry.Walk.pairs.Goals as goal

pub returns-then-first-clause-walked : goal.returns-then-first-clause-walked
returns-then-first-clause-walked g c =
    let i = c.loop-j.invariant in
    rest_done _ _ _ _ _ _ _ _ _ _ _ _ _ (sym c.pair-first.ensures.0 ∙ search rules) i.told i.stored

pub pair-requires : goal.pair-requires
pair-requires g c =
    let i = c.loop-j.invariant in
    let w = g.L.EraseList.words c.args.list in
    let e : c.pair-first.result.0 ≡ end_of_list → ⊥ = search rules in
    let fits = pair_good w (2 * c.loop-j.j) _ _ (omega (arith, c.pairs-j-end.ensures)) c.pair-first.ensures.0 c.pair-first.ensures.1 e _ i.good in
    record { count_bound = (rw i.same_words fits.1, omega (arith, i.told, c.requires.tail_bound)) }

pub loop-j-preserved : goal.loop-j-preserved
loop-j-preserved g c =
    let i = c.loop-j.invariant in
    let p = c.pair.ensures in
    let w = g.L.EraseList.words c.args.list in
    let next : 2 * (c.loop-j.j + 1) ≡ 2 * c.loop-j.j + 2 = omega arith in
    let h : 2 * c.loop-j.j + 1 < length w = omega (arith, c.pairs-j-end.ensures) in
    let e : c.pair-first.result.0 ≡ end_of_list → ⊥ = search rules in
    let walked = rw (i.same_words, i.same_portion) at p.walked in
    record {
      same_reference = p.same_reference ∙ i.same_reference;
      same_words = p.same_words ∙ i.same_words;
      same_portion = p.same_portion ∙ i.same_portion;
      good = rw next (pair_good w (2 * c.loop-j.j) _ _ h c.pair-first.ensures.0 c.pair-first.ensures.1 e _ i.good).2;
      told = rw next (pair_told _ _ _ _ _ _ _ _ _ _ _ _ _ _ h c.pair-first.ensures.0 c.pair-first.ensures.1 e walked ∙ i.told);
      stored = rw next (pair_stored _ _ _ _ _ _ _ _ _ _ _ _ _ _ h c.pair-first.ensures.0 c.pair-first.ensures.1 e walked ∙ i.stored);
    }

pub returns-clause-walked : goal.returns-clause-walked
returns-clause-walked g c =
    let i = c.loop-j.invariant in
    let w = g.L.EraseList.words c.args.list in
    rest_done _ _ _ _ _ _ _ _ _ _ _ _ _ (good_end w (2 * c.loop-j.j) _ (omega (arith, c.pairs-j-end.ensures, c.requires.pairs_in_bounds.0)) i.good) i.told i.stored
