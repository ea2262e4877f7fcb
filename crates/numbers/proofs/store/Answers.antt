-- `numbers::store` meets its contract: what is left to store makes the same list as the whole.
use Rattle.std.proofs.Common.{◌∙◌, sym, arith, rules}
use Rattle.numbers.proofs.LittleEndian.{store_whole, store_more, store_done}
use Rattle.numbers.proofs.store.Goals as goal

pub loop-i-init : goal.loop-i-init
loop-i-init c = (search rules, store_whole _ _ _ _)

pub loop-i-preserved : goal.loop-i-preserved
loop-i-preserved c =
    let l = c.loop-i in
    (search rules, store_more _ _ _ _ _ _ _ _ _ (omega arith) l.invariant.1 (omega arith) (omega arith) (omega arith))

pub returns : goal.returns
returns c = let l = c.loop-i in sym (l.invariant.1 ∙ store_done _ _ _ _ _ (omega arith))
