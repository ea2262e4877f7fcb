-- The walk over the front, and where a pair is left after it, the walk over the rest.
use mathlib.Core.Path.{◌≡◌, sym, ◌∙◌}
use native.Mathlib.Omega.{arith}
use borrow.Author.Rules.{rules}
use Rattle.block_service.specs.Carry.{filled}
use Rattle.block_service.specs.Order.{erase_order, part}
use Rattle.block_service.proofs.carry.Orders.{order_short}
use Rattle.block_service.proofs.carry.Walks.{rest_whole, rest_end, rest_bound}
use Rattle.block_service.proofs.erase.Lists.{names_within}
use Rattle.block_service.proofs.carry.carry_list.Goals as goal

pub returns-then-first : goal.returns-then-first
returns-then-first g c =
    let f = c.front-pairs in
    let w = f.ensures.walked in
    let k = rest_whole _ _ _ _ _ _ _ _ (w.rest _ _ (rest_end _ _ _ _ _ _ _ _ _ w.within (sym c.pair-first.ensures.0 ∙ search rules))) in
    let a = c.args in
    let s : f.new.self.volume.now ≡ filled a.portion.value (part a.portion.from a.portion.to (erase_order a.words.now (g.L.EraseList.words a.list))) a.volume.now = k.1 in
    (k.0, search rules)

pub rest-requires-clause-tail_bound : goal.rest-requires-clause-tail_bound
rest-requires-clause-tail_bound g c =
    let f = c.front-pairs.ensures in
    let w = g.L.EraseList.words c.args.list in
    rw f.same_words (omega (arith, rest_bound _ _ _ _ _ _ _ _ _ _ f.walked.rest, order_short c.args.words.now w (names_within _ w c.requires.list_value), c.requires.words_bound.0))

pub returns : goal.returns
returns g c =
    let f = c.front-pairs.ensures in
    let a = c.args in
    let r = rw (f.same_words, f.same_portion) at c.rest.ensures.walked in
    let k = rest_whole _ _ _ _ _ _ _ _ (f.walked.rest _ _ r) in
    let s : c.rest.new.self.volume.now ≡ filled a.portion.value (part a.portion.from a.portion.to (erase_order a.words.now (g.L.EraseList.words a.list))) a.volume.now = k.1 in
    (k.0, search rules)
