-- `block_service::blocks::run_end` meets its contract: where the rest of the run ends is where the whole does.
use Rattle.std.proofs.Common.{◌≡◌, ◌+◌, ◌*◌, drop, ◌∷◌}
use Rattle.block_service.specs.Blocks.{first_byte}
use Rattle.block_service.proofs.blocks.run_end.Given as goal

abbrev pub invariant-loop-before : goal.invariant-loop-before
invariant-loop-before l =
    l.end + first_byte (drop (2 * (l.before + 1)) l.words) l.rest
    ≡ l.place.start + first_byte (l.place.left ∷ l.place.len ∷ drop (2 * (l.place.entry + 1)) l.words) l.count
