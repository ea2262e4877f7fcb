-- `store_leaf` meets its contract: three runs of stores, one after another, are one.
use Prim.Native.Nat.{◌+◌, ◌-◌}
use borrow.Author.Rules.{rules}
use lib.ListN.{length}
use Rattle.sections.proofs.append.Stores.{either_least, leaf_stored}
use Rattle.sections.proofs.append.store_leaf.Goals as goal

pub store_header-requires : goal.store_header-requires
store_header-requires c = (either_least c.requires.0, search rules)

pub returns : goal.returns
returns c =
    let from = c.aligned-start.result + c.args.header in
    leaf_stored _ _ _ _ _ _ _ _ _ _ from (from + length c.args.body.now - from) c.requires.0 c.store.ensures
    c.store_header.ensures c.copy_from_slice.ensures.after c.aligned-start.ensures (search rules) (search rules) (search rules) (search rules)
