-- The blocks from the first up to `b` are walked over.
use Prim.Native.Nat.{◌-◌, ◌≤◌}
use mathlib.Core.Path.{◌≡◌}
use Rattle.block_service.specs.Marks.{marked}
use Rattle.block_service.specs.Carry.{Carried}
use Rattle.block_service.specs.Order.{up_from}
use Rattle.block_service.proofs.carry.Walk.pair.Given as goal

abbrev pub invariant-loop-b : goal.invariant-loop-b
invariant-loop-b l =
    let w = l.initial.self in
    record {
      after_first : l.first ≤ l.b;
      before_e : l.b ≤ l.e;
      same_reference : l.self.volume.ghost_name ≡ w.volume.ghost_name;
      same_words : l.self.words ≡ w.words;
      same_portion : l.self.portion ≡ w.portion;
      walked : Carried w.words.now w.portion.value w.portion.from w.portion.to w.at (marked l.initial.marks.words) (up_from l.first (l.b - l.first)) w.volume.now l.self.at l.self.volume.now (marked l.marks.words);
    }

abbrev pub decreases-loop-b : goal.decreases-loop-b
decreases-loop-b l = l.e - l.b
