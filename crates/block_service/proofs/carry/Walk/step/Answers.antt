-- A run without a mark is stored and marked, and where there is none a run of marks is passed over, which has at least one block.
use Rattle.block_service.specs.Marks.{marked}
use Rattle.block_service.proofs.carry.Walks.{walk_fresh, walk-passed, moves}
use borrow.Author.Rules.{rules}
use Rattle.block_service.proofs.carry.Walk.step.Goals as goal

pub returns-then-b-t-clause-walked : goal.returns-then-b-t-clause-walked
returns-then-b-t-clause-walked c =
    let t = c.alike_end-t.ensures in
    walk_fresh _ _ _ _ _ _ _ _ _ _ _ _ t.0 t.2 c.run.ensures.told c.run.ensures.stored c.mark.ensures

pub returns-clause-next : goal.returns-clause-next
returns-clause-next c =
    let t = c.alike_end-t.ensures in
    let u = c.alike_end.ensures in
    (moves (marked c.args.marks.now.words) _ _ _ _ (search rules) t.0 (search rules) t.3 u.0 u.3, u.1)

pub returns-clause-walked : goal.returns-clause-walked
returns-clause-walked c = let u = c.alike_end.ensures in walk-passed _ _ _ _ _ _ _ _ _ u.0 u.2
