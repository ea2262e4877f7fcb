-- The blocks of the first `j` pairs are marked.
use Prim.Native.Nat.{ℕ}
use mathlib.Core.Path.{◌≡◌}
use Rattle.block_service.specs.Marks.{marked}
use Rattle.block_service.specs.Carry.{names_first}
use Rattle.block_service.proofs.carry.mark_front.Given as goal

abbrev pub invariant-loop-j : goal.invariant-loop-j
invariant-loop-j g l = (x : ℕ) → marked l.marks.words x ≡ names_first l.j (g.L.EraseList.words l.list) x
