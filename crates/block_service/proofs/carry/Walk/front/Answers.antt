-- Whatever makes the rest of the walk whole from pair j on makes the order whole from the start, and every block named so far lies before `high`.
use Prim.Native.Nat.{ℕ, ◌+◌, ◌*◌, ◌≤◌, ◌<◌}
use mathlib.Core.Path.{◌≡◌, refl, ap, ◌∙◌}
use mathlib.Core.Bool.{true, false}
use mathlib.Core.List.{List}
use native.Mathlib.Omega.{arith}
use borrow.Author.Rules.{rules}
use lib.ListN.{length, get_or}
use Rattle.volume.specs.BlockMap.{blocks, bytes}
use Rattle.block_service.specs.Erase.{end_of_list, good_list}
use Rattle.block_service.specs.Carry.{names_first}
use Rattle.block_service.specs.Order.{firsts, named_blocks, bytes_of}
use Rattle.block_service.proofs.erase.Lists.{names_within, pair_good, ended_within, good_end}
use Rattle.block_service.proofs.carry.Orders.{order_short}
use Rattle.block_service.proofs.carry.Walks.{all_left, pair_told, pair_stored, front_pair, front_high, below_next}
use Rattle.block_service.proofs.carry.Walk.front.Goals as goal

-- the number of the next byte is at most that of the map's bytes
bound : (m w : List ℕ) (at rest : ℕ) → good_list (blocks m) w ≡ true → at + rest ≡ 0 + length (bytes_of m (firsts (names_first 0 w) (named_blocks w))) → at ≤ bytes m
unfolding names_first
bound m w at rest good told = omega (arith, told, ap (λ (l : List ℕ). length l) (all_left m w (λ x. false) (λ x. refl)), order_short m w (names_within _ w good))

pub loop-j-init : goal.loop-j-init
unfolding names_first
loop-j-init g c = record {
  same_reference = refl;
  same_words = refl;
  same_portion = refl;
  good = c.requires.list_value;
  fits = λ i h. absurd (omega arith);
  below = λ x h. refl;
  told = rw c.requires.at_start;
  stored = rw c.requires.at_start;
}

pub run-requires-clause-count_nonzero : goal.run-requires-clause-count_nonzero
run-requires-clause-count_nonzero g c =
    let i = c.loop-j.invariant in
    let w = g.L.EraseList.words c.args.list in
    let e : c.pair-first.result.0 ≡ end_of_list → ⊥ = search rules in
    let fits = pair_good w (2 * c.loop-j.j) _ _ (omega (arith, c.pairs-n.ensures)) c.pair-first.ensures.0 c.pair-first.ensures.1 e _ i.good in
    (fits.0, rw i.same_words fits.1)

pub run-requires-clause-at_bound : goal.run-requires-clause-at_bound
run-requires-clause-at_bound g c =
    omega (arith, bound _ (g.L.EraseList.words c.args.list) _ _ c.requires.list_value c.loop-j.invariant.told, c.args.self.now.words_bound)

pub overflow_add-high : goal.overflow_add-high
overflow_add-high g c =
    let w = g.L.EraseList.words c.args.list in
    let e : c.pair-first.result.0 ≡ end_of_list → ⊥ = search rules in
    omega (arith, (pair_good w (2 * c.loop-j.j) _ _ (omega (arith, c.pairs-n.ensures)) c.pair-first.ensures.0 c.pair-first.ensures.1 e _ c.loop-j.invariant.good).1, c.args.self.now.words_bound)

pub loop-j-preserved : goal.loop-j-preserved
loop-j-preserved g c =
    let i = c.loop-j.invariant in
    let w = g.L.EraseList.words c.args.list in
    let j = c.loop-j.j in
    let f = c.pair-first.ensures.0 in
    let k = c.pair-first.ensures.1 in
    let next : 2 * (j + 1) ≡ 2 * j + 2 = omega arith in
    let h : 2 * j + 1 < length w = omega (arith, c.pairs-n.ensures) in
    let e : c.pair-first.result.0 ≡ end_of_list → ⊥ = search rules in
    let past : c.loop-j.high ≤ c.pair-first.result.0 = search rules in
    let fits = pair_good w (2 * j) _ _ h f k e _ i.good in
    let told = rw i.same_words at c.run.ensures.told in
    let stored = rw (i.same_words, i.same_portion) at c.run.ensures.stored in
    let walked = front_pair _ _ _ _ _ w j c.loop-j.high _ _ _ _ _ h f k past i.below told stored in
    record {
      same_reference = c.run.ensures.same_reference ∙ i.same_reference;
      same_words = c.run.ensures.same_words ∙ i.same_words;
      same_portion = c.run.ensures.same_portion ∙ i.same_portion;
      good = rw next fits.2;
      fits = below_next (λ x. get_or w (2 * x) 0 + get_or w (2 * x + 1) 0 ≤ blocks c.args.self.now.words.now) j i.fits (omega (arith, f, k, fits.1));
      below = λ x q. front_high w j c.loop-j.high h (omega (arith, f, past)) i.below x (omega (arith, f, k));
      told = rw next (pair_told _ _ _ _ _ _ _ _ _ _ _ _ _ _ h f k e walked ∙ i.told);
      stored = rw next (pair_stored _ _ _ _ _ _ _ _ _ _ _ _ _ _ h f k e walked ∙ i.stored);
    }

pub returns-then-first-clause-walked : goal.returns-then-first-clause-walked
returns-then-first-clause-walked g c =
    let i = c.loop-j.invariant in
    record {
      within = omega (arith, c.pairs-n.ensures);
      good = i.good;
      fits = i.fits;
      rest = λ n u r. record { told = r.told ∙ i.told; stored = r.stored ∙ i.stored };
    }

pub returns-clause-walked : goal.returns-clause-walked
returns-clause-walked g c =
    let i = c.loop-j.invariant in
    let w = g.L.EraseList.words c.args.list in
    let z : c.pairs-n.result ≡ c.loop-j.j = omega arith in
    let end = good_end w (2 * c.loop-j.j) _ (omega (arith, c.pairs-n.ensures)) i.good in
    rw z (record {
      within = ended_within w (2 * c.loop-j.j) end;
      good = i.good;
      fits = i.fits;
      rest = λ n u r. record { told = r.told ∙ i.told; stored = r.stored ∙ i.stored };
    })
