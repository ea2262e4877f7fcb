-- The blocks from `b` up to `i` are as wanted.
use Prim.Native.Nat.{ℕ, ◌-◌, ◌≤◌, ◌<◌}
use mathlib.Core.Path.{◌≡◌}
use Rattle.block_service.specs.Marks.{marked}
use Rattle.block_service.proofs.marks.Marks.alike_end.Given as goal

abbrev pub invariant-loop-i : goal.invariant-loop-i
invariant-loop-i l = record { after_b : l.b ≤ l.i; before_e : l.i ≤ l.e; alike : (x : ℕ) → l.b ≤ x → x < l.i → marked l.self.words x ≡ l.want }

abbrev pub decreases-loop-i : goal.decreases-loop-i
decreases-loop-i l = l.e - l.i
