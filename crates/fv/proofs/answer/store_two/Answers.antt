-- `fv::answer::store_two` meets its contract: two stores in a row.
use Rattle.fv.proofs.answer.Answers.{two_stored_lem}
use Rattle.fv.proofs.answer.store_two.Goals as goal

pub returns : goal.returns
returns c = two_stored_lem _ _ _ _ c.args.answer.now c.requires c.store.ensures c.store-2.ensures
