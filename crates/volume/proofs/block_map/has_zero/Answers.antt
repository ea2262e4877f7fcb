-- `volume::block_map::has_zero` meets its contract: a zero is found or left where the words have one.
use Rattle.std.proofs.Common.{◌+◌, Bool, ◌||◌, eqb, drop, get_or, sym, ap, ◌∙◌, arith}
use mathlib.Core.Bool.{or-false, or_assoc}
use Rattle.volume.specs.BlockMap.{has_zero}
use Rattle.volume.proofs.block_map.Words.{has_zero_end, zero_next}
use Rattle.volume.proofs.block_map.has_zero.Goals as goal

pub loop-word-preserved : goal.loop-word-preserved
loop-word-preserved c =
    let l = c.loop-word in
    let w = c.args.words.now in
    or_assoc l.found (eqb (get_or w l.word-index 0) 0) (has_zero (drop (l.word-index + 1) w))
    ∙ ap (λ (x : Bool). l.found || x) (sym (zero_next w l.word-index (omega arith))) ∙ l.invariant

pub returns : goal.returns
returns c =
    let l = c.loop-word in
    sym (or-false l.found) ∙ ap (λ (x : Bool). l.found || x) (has_zero_end c.args.words.now l.word-index (omega arith)) ∙ l.invariant
