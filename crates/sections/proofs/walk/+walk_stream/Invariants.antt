-- The measures, the levels left below and what is left of the stream; and the loop's invariant: what is left of the walk from here on
-- gives the whole result.
use Rattle.std.proofs.Common.{length, ◌-◌, ◌≡◌}
use Rattle.sections.specs.Seek.{run, carried}
use Rattle.sections.specs.Walk.{walk}
use Rattle.sections.specs.declared.walk.Walk.TheVariants.{Ended}
use Rattle.sections.proofs.walk.Turns.{Going}
use Rattle.sections.proofs.walk.+walk_stream.Given as goal

abbrev pub decreases-walk_stream : goal.decreases-walk_stream
decreases-walk_stream l = l.below

abbrev pub invariant-loop-at : goal.invariant-loop-at
invariant-loop-at l = record {
  same : l.wanted.section_type ≡ l.initial.wanted.section_type;
  going : Going l.mode l.below l.s l.base l.initial.wanted.section_type
      (run l.initial.wanted.section_type (carried Ended l.initial.wanted) (walk l.mode l.below l.s l.base)) (carried Ended l.wanted) l.at;
}

abbrev pub decreases-loop-at : goal.decreases-loop-at
decreases-loop-at l = length l.s - l.at
