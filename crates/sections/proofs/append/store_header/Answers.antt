-- `store_header` meets its contract: the stores, one after another, are one run.
use Prim.Native.Nat.{◌+◌, ◌-◌}
use borrow.Author.Rules.{rules}
use Rattle.sections.proofs.append.Stores.{short_stored, long_stored}
use Rattle.sections.proofs.append.store_header.Goals as goal

pub returns-then-header-eq-LONG_HEADER : goal.returns-then-header-eq-LONG_HEADER
returns-then-header-eq-LONG_HEADER c =
    let args = c.args in
    long_stored args.buffer.now _ _ args.start (args.start + 4 - args.start) _ _ _ _ _ c.store_common_header.ensures (search rules) (search rules) c.store.ensures
    (search rules) (search rules) (search rules)

pub returns : goal.returns
returns c =
    let args = c.args in
    short_stored args.buffer.now _ args.start (args.start + 4 - args.start) _ _ _ _ c.store_common_header-2.ensures (search rules) (search rules) (search rules) (search rules)
