-- The blocks of the first `j` pairs are marked.
use native.Mathlib.Omega.{arith}
use Rattle.block_service.specs.Carry.{names_first}
use Rattle.block_service.proofs.carry.Walks.{first_marks_at}
use Rattle.block_service.proofs.carry.mark_front.Goals as goal

pub loop-j-init : goal.loop-j-init
unfolding names_first
loop-j-init g c = c.requires.marks_none

pub loop-j-preserved : goal.loop-j-preserved
loop-j-preserved g c =
    λ x. first_marks_at _ _ x _ _ _ _ (omega (arith, c.requires.pairs_in_bounds.0)) c.pair-first.ensures.0 c.pair-first.ensures.1 (c.mark.ensures x) (c.loop-j.invariant x)
