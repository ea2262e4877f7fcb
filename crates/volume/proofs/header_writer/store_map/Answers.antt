-- `volume::header_writer::store_map` meets its contract: what is left of the map's bytes to store makes the same room as the whole.
use Rattle.std.proofs.Common.{◌≡◌, ℕ, ◌+◌, ◌*◌, List, ◌++◌, length, drop, replicate, sym, refl, ap, ◌∙◌, arith}
use lib.Seq.{sets}
use Rattle.numbers.specs.LittleEndian.{le_bytes}
use Rattle.volume.specs.HeaderWriter.{words_bytes}
use Rattle.volume.proofs.header_writer.Stores.{words_next, words_end}
use Rattle.volume.proofs.header_writer.store_map.Goals as goal

pub loop-i-init : goal.loop-i-init
loop-i-init c = refl

pub loop-i-preserved : goal.loop-i-preserved
loop-i-preserved c =
    let l = c.loop-i in
    let m = c.args.map.now in
    l.invariant ∙ words_next m l.room (replicate 8 0) 56 l.i (omega arith)
    ∙ ap (λ (x : List ℕ). sets x (56 + 4 * (l.i + 1)) (words_bytes (drop (l.i + 1) m) ++ replicate 8 0)) (sym (rw c.from.ensures at c.store.ensures))

pub returns : goal.returns
unfolding le_bytes
returns c =
    let l = c.loop-i in
    let m = c.args.map.now in
    let z : length m ≡ l.i = omega arith in
    (rw z at c.store-2.ensures) ∙ sym (l.invariant ∙ words_end m l.room (replicate 8 0) (56 + 4 * l.i) l.i (omega arith))
