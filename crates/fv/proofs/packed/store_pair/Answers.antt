-- `fv::packed::store_pair` meets its contract: two stores in a row.
use Rattle.fv.proofs.packed.store_pair.Goals as goal

pub returns : goal.returns
returns c = rw (c.store-2.ensures, c.store.ensures)
