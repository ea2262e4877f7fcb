-- `fv::packed::words_in` meets its contract: the words stored so far and those left make all of them.
use Rattle.std.proofs.Common.{refl, sym, ◌∙◌, arith}
use lib.ListN.{length-set, length-replicate}
use Rattle.common.proofs.Lists.{fill_next, fill_done}
use Rattle.volume.specs.Header.{words_at}
use Rattle.volume.proofs.header.Fields.{length-words_at, words_at_at}
use Rattle.fv.proofs.packed.words_in.Goals as goal

pub loop-i-init : goal.loop-i-init
loop-i-init g c = (length-replicate g.row.N 0, refl)

pub loop-i-preserved : goal.loop-i-preserved
loop-i-preserved g c =
    let l = c.loop-i in
    let s = c.args.s.now in
    let long = length-words_at g.row.N s c.args.at in (
      simp length-set l.invariant.0,
      fill_next (words_at g.row.N s c.args.at) l.words l.i _ (omega arith) (omega arith) (words_at_at g.row.N s c.args.at l.i (omega arith) ∙ sym c.u32_at.ensures) l.invariant.1,
    )

pub returns : goal.returns
returns g c =
    let l = c.loop-i in
    let s = c.args.s.now in
    let long = length-words_at g.row.N s c.args.at in
    fill_done (words_at g.row.N s c.args.at) l.words l.i (omega arith) (omega arith) l.invariant.1
