-- `volume::block_map::all_zero` meets its contract: the fold is that of the list.
use Rattle.std.specs.Prelude.{fold}
use Rattle.std.proofs.Common.{◌≡◌, ℕ, eqb, ap, ◌∙◌, rules}
use lib.Bits.{bit_or}
use Rattle.volume.proofs.block_map.Words.{all_gathered}
use Rattle.volume.proofs.block_map.all_zero.Goals as goal

pub returns : goal.returns
returns c = let w = c.args.words.now in let e : c.fold.result ≡ fold bit_or 0 w = search rules in ap (λ (x : ℕ). eqb x 0) e ∙ all_gathered w
