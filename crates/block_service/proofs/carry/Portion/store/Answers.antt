-- The bytes from `skip` up to `stop` of the run are those of the portion, and where there is none nothing is stored.
use Prim.Native.Nat.{◌+◌, ◌-◌, min}
use mathlib.Core.Path.{◌≡◌}
use borrow.Author.Rules.{rules}
use native.Mathlib.Omega.{arith}
use lib.ListN.{replicate}
use Rattle.block_service.proofs.carry.Fills.{window_store, window_none}
use Rattle.block_service.proofs.carry.Portion.store.Goals as goal

pub returns-then-skip-stop : goal.returns-then-skip-stop
returns-then-skip-stop c =
    let a = c.args in
    let n : c.min-stop.result ≡ min (a.self.to - a.at) (a.run.end - a.run.start) = omega arith in
    let s : c.fill.new.self ≡ replicate (a.run.start + c.min-stop.result - (a.run.start + c.saturating_sub-skip.result)) a.self.value = search rules in
    window_store _ _ _ _ _ _ _ _ _ (search rules) n (search rules) (search rules) s

pub returns-else-skip-stop : goal.returns-else-skip-stop
returns-else-skip-stop c =
    let a = c.args in
    let n : c.min-stop.result ≡ min (a.self.to - a.at) (a.run.end - a.run.start) = omega arith in
    window_none _ _ _ _ _ c.saturating_sub-skip.result c.min-stop.result _ (search rules) n (search rules)
