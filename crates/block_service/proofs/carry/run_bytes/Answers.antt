-- The start is that of the first block, the end that of the run.
use mathlib.Core.Path.{◌≡◌, sym, ◌∙◌}
use mathlib.Core.Option.{none, some-ne-none}
use native.Mathlib.Omega.{arith}
use borrow.Author.Tests.{lt-leb}
use Rattle.common.specs.Refusals.{first_refusal}
use Rattle.common.proofs.Refusals.{row_passes, no_row}
use Rattle.block_service.specs.Blocks.{place_refusals}
use Rattle.block_service.proofs.blocks.Places.{found_start}
use Rattle.block_service.proofs.blocks.Runs.{found_entry, found_walk, walk_asks, fits}
use Rattle.block_service.proofs.carry.run_bytes.Goals as goal

-- a block that is there is found
pub returns-in_default : goal.returns-in_default
returns-in_default c =
    let a = c.args in
    let passes : first_refusal (place_refusals a.words.now a.first a.lent) ≡ none = row_passes _ _ _ _ (fits a.words.now a.first a.lent c.requires.words_in_bounds) (row_passes _ _ _ _ (lt-leb _ _ (omega (arith, c.requires.count_nonzero))) no_row) in
    absurd (some-ne-none _ (c.in_default.ensures.refused ∙ passes))

pub run_end-requires : goal.run_end-requires
run_end-requires c =
    let hit = sym c.in-Ok.ensures.found in
    record { in_bounds = (found_entry _ _ _ _ _ _ hit).0; count_bound = walk_asks _ _ _ _ _ _ hit _ c.requires.words_bound }

pub returns : goal.returns
returns c = let hit = sym c.in-Ok.ensures.found in (found_start _ _ _ _ _ _ hit, c.run_end.ensures ∙ found_walk _ _ _ _ _ _ hit _)
