-- `fv::dependency_calls::guids_in` meets its contract: the rows stored so far and those left make the sixteen.
use mathlib.Core.Path.{refl, ◌∙◌}
use lib.ListN.{length-set}
use Rattle.fv.proofs.dependency_calls.Tables.{rows_next, rows_done, row_there, row_tail}
use borrow.Author.Rules.{rules}
use Rattle.fv.proofs.dependency_calls.guids_in.Goals as goal

pub loop-i-init : goal.loop-i-init
loop-i-init c = (search rules, refl)

pub guid_in-requires : goal.guid_in-requires
guid_in-requires c = row_there c.args.s.now c.loop-i.i (search rules) (search rules)

pub loop-i-preserved : goal.loop-i-preserved
loop-i-preserved c =
    let l = c.loop-i in
    let s = c.args.s.now in
    (length-set l.rows l.i c.guid_in.result ∙ l.invariant.0, rows_next s l.rows l.i l.invariant.0 l.invariant.1 _ _ (search rules) (row_tail s l.i) c.guid_in.ensures)

pub returns : goal.returns
returns c =
    let l = c.loop-i in
    rows_done c.args.s.now l.rows l.i l.invariant.0 l.invariant.1 (search rules)
