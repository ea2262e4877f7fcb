-- The blocks from `b` up to `i` are marked, and no other mark changed.
use Prim.Native.Nat.{ℕ, ◌-◌, ◌≤◌}
use mathlib.Core.Bool.{◌&&◌, ◌||◌}
use mathlib.Core.Path.{◌≡◌}
use lib.Dec.{leb, ltb}
use Rattle.block_service.specs.Marks.{marked}
use Rattle.block_service.proofs.marks.Marks.mark.Given as goal

abbrev pub invariant-loop-i : goal.invariant-loop-i
invariant-loop-i l = record {
  after_b : l.b ≤ l.i;
  before_e : l.i ≤ l.e;
  marked_so_far : (x : ℕ) → marked l.self.words x ≡ (leb l.b x && ltb x l.i || marked l.initial.self.words x);
}

abbrev pub decreases-loop-i : goal.decreases-loop-i
decreases-loop-i l = l.e - l.i
