-- `fv::dependency_calls::guids_in` meets its contract: the rows stored so far and those left make the sixteen.
use Prim.Native.Nat.{◌-◌, ◌*◌}
use mathlib.Core.Path.{◌≡◌}
use mathlib.Core.List.{◌++◌}
use lib.ListN.{length, take, drop}
use Rattle.fv.specs.DependencyCalls.{guids_in}
use Rattle.fv.proofs.dependency_calls.guids_in.Given as goal

abbrev pub invariant-loop-i : goal.invariant-loop-i
invariant-loop-i l = (length l.rows ≡ 16) × (take l.i l.rows ++ guids_in (16 - l.i) (drop (16 * l.i) l.s) ≡ guids_in 16 l.s)
