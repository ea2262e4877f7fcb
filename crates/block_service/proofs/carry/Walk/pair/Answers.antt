-- The blocks from the first up to `b` are walked over.
use Prim.Native.Nat.{◌+◌, ◌-◌, ◌≤◌}
use mathlib.Core.Path.{refl, ◌∙◌}
use native.Mathlib.Omega.{arith}
use borrow.Author.Rules.{rules}
use Rattle.volume.specs.BlockMap.{blocks, bytes}
use Rattle.block_service.proofs.carry.Walks.{walk_start, walk-run, walk_bound}
use Rattle.block_service.proofs.carry.Walk.pair.Goals as goal
use Rattle.block_service.proofs.carry.Walk.pair.Goals.{At-loop-b}

-- the number is bounded by the bytes of the map
bound : (t : At-loop-b) → t.loop-b.self.at ≤ t.args.self.now.at + bytes t.args.self.now.words.now
bound t =
    let a = t.args in
    let h : a.first + (t.loop-b.b - a.first) ≤ blocks a.self.now.words.now = omega (arith, t.requires, t.loop-b.invariant.after_first, t.loop-b.invariant.before_e) in
    walk_bound a.self.now.words.now _ _ _ _ _ _ _ _ _ _ _ h t.loop-b.invariant.walked

pub loop-b-init : goal.loop-b-init
loop-b-init c = record {
  after_first = omega arith;
  before_e = omega arith;
  same_reference = refl;
  same_words = refl;
  same_portion = refl;
  walked = walk_start _ _ _ _ _ _ _ _;
}

pub step-b-requires : goal.step-b-requires
step-b-requires c =
    let i = c.loop-b.invariant in
    record { b_lt_e = (search rules, rw i.same_words c.requires.count_bound.0, omega (arith, bound (goal.at.step-b-requires c).At-loop-b, c.requires, c.args.self.now.words_bound)) }

pub loop-b-preserved : goal.loop-b-preserved
loop-b-preserved c =
    let i = c.loop-b.invariant in
    let s = c.step-b.ensures in
    record {
      after_first = omega (arith, s.next.0, i.after_first);
      before_e = s.next.1;
      same_reference = s.same_reference ∙ i.same_reference;
      same_words = s.same_words ∙ i.same_words;
      same_portion = s.same_portion ∙ i.same_portion;
      walked = walk-run _ _ _ _ _ _ _ _ _ _ _ _ _ _ _ _ i.after_first (omega (arith, s.next.0)) i.walked (rw (i.same_words, i.same_portion) at s.walked);
    }
