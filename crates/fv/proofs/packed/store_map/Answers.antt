-- `fv::packed::store_map` meets its contract: what is left of the map's bytes to store makes the same as the whole.
use Rattle.std.proofs.Common.{ℕ, ◌+◌, ◌*◌, List, [], ◌++◌, drop, sym, refl, ap, ◌∙◌, arith}
use mathlib.Core.List.{append-nil}
use Rattle.std.proofs.lemmas.List.Edits.{sets}
use Rattle.volume.specs.HeaderWriter.{words_bytes}
use Rattle.volume.proofs.header_writer.Stores.{words_next, words_end}
use Rattle.fv.proofs.packed.store_map.Goals as goal

pub loop-i-init : goal.loop-i-init
loop-i-init c = refl

pub loop-i-preserved : goal.loop-i-preserved
loop-i-preserved c =
    let l = c.loop-i in
    let m = c.args.map.now in
    l.invariant ∙ words_next m l.s [] 48 l.i (omega arith)
    ∙ ap (λ (x : List ℕ). sets x (48 + 4 * (l.i + 1)) (words_bytes (drop (l.i + 1) m) ++ [])) (sym (rw c.from.ensures at c.store.ensures))

pub returns : goal.returns
returns c =
    let l = c.loop-i in
    let m = c.args.map.now in
    sym (ap (λ (x : List ℕ). sets c.args.s.now 48 x) (sym (append-nil (words_bytes m))) ∙ l.invariant ∙ words_end m l.s [] (48 + 4 * l.i) l.i (omega arith))
