-- `next_start` meets its contract: the bytes of the padding that are there are zero, or one is not.
use Prim.Native.Nat.{◌-◌}
use mathlib.Core.Path.{◌≡◌, sym, ap, ◌∙◌}
use lib.Dec.{eqb}
use lib.ListN.{take, drop}
use borrow.Author.Rules.{rules}
use borrow.Author.Tests.{tests}
use Rattle.std.proofs.lemmas.Iterator.{YieldsList-from_slice, YieldsList-from_take}
use Rattle.std.proofs.lemmas.Iterator.Search.{all_from_yields_List}
use Rattle.std.specs.Slice.Iter.{iter_rest}
use Rattle.sections.specs.Walk.{zeros}
use Rattle.sections.proofs.walk.Padding.{zeros_all, whole_rest}
use Rattle.sections.proofs.walk.next_start.Goals as goal
use Rattle.sections.proofs.walk.next_start.Goals.{After-all}

padded : (c : After-all) → c.all.result ≡ zeros c.args.s.now c.args.end (c.aligned-next.result - c.args.end)
padded c =
    all_from_yields_List {all = take (c.aligned-next.result - c.args.end) (drop c.args.end c.args.s.now)} (λ b. eqb b 0) _ _ c.all.result c.all.ensures.ran
    (YieldsList-from_take {s = c.take.result} _ (YieldsList-from_slice _ (ap iter_rest c.take.ensures.source ∙ c.iter.ensures.rest ∙ whole_rest c.args.s.now c.args.end)) c.take.ensures.count) (λ x b q k. search (rules, tests))
    ∙ sym (zeros_all _ _ _)

pub returns-then-all : goal.returns-then-all
returns-then-all c = (search rules, sym (padded (goal.at.returns-then-all c).After-all) ∙ c.if-all.true)

pub returns-else-all : goal.returns-else-all
returns-else-all c = (search rules, rw c.aligned-next.ensures at (sym (padded (goal.at.returns-else-all c).After-all) ∙ c.if-all.false))
