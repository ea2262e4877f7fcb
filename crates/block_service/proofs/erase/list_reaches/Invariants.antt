-- From pair j on the list is good where the whole is, and a pair passed or one from there on names a protected block where one of the whole list does.
use Prim.Native.Nat.{◌*◌}
use mathlib.Core.Bool.{◌||◌}
use mathlib.Core.Path.{◌≡◌}
use lib.ListN.{drop}
use Rattle.block_service.specs.Erase.{good_list, reaches}
use Rattle.block_service.proofs.erase.list_reaches.Given as goal

abbrev pub invariant-loop-j : goal.invariant-loop-j
invariant-loop-j g l =
    let w = g.L.EraseList.words l.list in
    record {
      good : good_list l.total (drop (2 * l.j) w) ≡ good_list l.total w;
      reach : (l.reached || reaches l.protected (drop (2 * l.j) w)) ≡ reaches l.protected w;
    }
