-- A run of blocks is a run of bytes.
use native.Mathlib.Omega.{arith}
use Prim.Native.Nat.{◌+◌, ◌-◌, ◌≤◌}
use mathlib.Core.Path.{◌≡◌}
use borrow.Author.Rules.{rules}
use Rattle.volume.specs.BlockMap.{blocks, bytes}
use Rattle.block_service.proofs.blocks.Places.{first_byte-le}
use Rattle.block_service.proofs.blocks.Runs.{first_byte_rises}
use Rattle.block_service.specs.Order.{up_from, bytes_of}
use Rattle.block_service.proofs.carry.OrderLists.{length-up_from}
use Rattle.block_service.proofs.carry.Orders.{run_at}
use Rattle.block_service.proofs.carry.Walk.run.Goals as goal
use Rattle.block_service.proofs.carry.Walk.run.Goals.{After-run_bytes-run}

-- where the run's bytes lie
module _ (c : After-run_bytes-run) where
  rises : c.run_bytes-run.result.start ≤ c.run_bytes-run.result.end
  rises = omega (arith, c.run_bytes-run.ensures.0, c.run_bytes-run.ensures.1, first_byte_rises c.args.self.now.words.now c.args.first c.args.count)

  fits : c.run_bytes-run.result.end ≤ bytes c.args.self.now.words.now
  fits = omega (arith, c.run_bytes-run.ensures.1, first_byte-le c.args.self.now.words.now (c.args.first + c.args.count))

  numbered : bytes_of c.args.self.now.words.now (up_from c.args.first c.args.count) ≡ up_from c.run_bytes-run.result.start (c.run_bytes-run.result.end - c.run_bytes-run.result.start)
  numbered = let h : c.args.first + c.args.count ≤ blocks c.args.self.now.words.now = search rules in run_at _ _ _ _ _ c.run_bytes-run.ensures.0 c.run_bytes-run.ensures.1 h

pub overflow_sub-len : goal.overflow_sub-len
overflow_sub-len c = rises (goal.at.overflow_sub-len c).After-run_bytes-run

pub store-requires : goal.store-requires
store-requires c = let k = (goal.at.store-requires c).After-run_bytes-run in (rises k, omega (arith, fits k, c.args.self.now.words_in_bounds))

pub overflow_add-self : goal.overflow_add-self
overflow_add-self c = let k = (goal.at.overflow_add-self c).After-run_bytes-run in omega (arith, rises k, fits k, c.args.self.now.words_bound, c.requires)

pub returns-clause-told : goal.returns-clause-told
returns-clause-told c = rw (numbered (goal.at.returns-clause-told c).After-run_bytes-run, length-up_from)

pub returns-clause-stored : goal.returns-clause-stored
returns-clause-stored c = rw (numbered (goal.at.returns-clause-stored c).After-run_bytes-run) c.store.ensures
