-- With the front's blocks marked, the marks are the test of what was named before.
use Prim.Native.Nat.{◌*◌}
use native.Mathlib.Omega.{arith}
use lib.ListN.{drop}
use Rattle.block_service.specs.Marks.{marked}
use Rattle.block_service.specs.Carry.{names_first}
use Rattle.block_service.specs.Order.{named_blocks}
use Rattle.block_service.proofs.carry.Walks.{rest_same, left_same}
use Rattle.block_service.proofs.carry.Walk.rest.Goals as goal

pub mark_front-requires : goal.mark_front-requires
mark_front-requires g c =
    record { marks_none = c.new-marks.ensures; pairs_in_bounds = (c.requires.pairs_in_bounds.0, c.requires.by_index) }

pub pairs-requires : goal.pairs-requires
pairs-requires g c =
    let m = c.mark_front in
    let w = g.L.EraseList.words c.args.list in
    record {
      pairs_in_bounds = c.requires.pairs_in_bounds;
      tail_bound = omega (arith, left_same c.args.self.now.words.now (marked m.new.marks.words) (names_first c.args.pairs w) (named_blocks (drop (2 * c.args.pairs) w)) m.ensures, c.requires.tail_bound);
    }

pub returns-clause-walked : goal.returns-clause-walked
returns-clause-walked g c = rest_same _ _ _ _ _ _ _ _ _ _ _ _ c.mark_front.ensures c.pairs.ensures.walked
