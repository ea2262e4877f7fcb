-- `block_service::blocks::find_place` meets its contract: the search from the entry at hand on is the whole search.
use Rattle.std.proofs.Common.{◌≡◌, ◌-◌, ◌*◌, ◌≤◌, leb, drop}
use Rattle.volume.specs.BlockMap.{blocks}
use Rattle.block_service.specs.Blocks.{place, place_from, outgrows}
use Rattle.block_service.proofs.blocks.find_place.Given as goal

abbrev pub invariant-loop-entry : goal.invariant-loop-entry
invariant-loop-entry l =
    let left = drop (2 * l.entry) l.words in
    record {
      lent : l.room ≤ l.lent;
      long : outgrows left l.rest l.room ≡ outgrows l.words l.block l.lent;
      there : leb (blocks left) l.rest ≡ leb (blocks l.words) l.block;
      place : place_from left l.entry (l.lent - l.room) l.rest ≡ place l.words l.block;
    }
