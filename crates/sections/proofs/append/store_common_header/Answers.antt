-- `store_common_header` meets its contract: the two stores are one run.
use borrow.Author.Rules.{rules}
use Rattle.sections.proofs.append.Stores.{common_stored}
use Rattle.sections.proofs.append.store_common_header.Goals as goal

pub returns : goal.returns
returns c =
    common_stored _ _ _ _ _ c.store.ensures c.store-2.ensures (search rules)
