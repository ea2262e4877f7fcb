-- `volume::header::word_sum` meets its contract: what the accumulator holds after the last whole word, and the odd byte that may be left.
use Rattle.std.proofs.Common.{◌≡◌, ℕ, ◌+◌, ◌-◌, ◌*◌, ◌%◌, List, length, take, refl, ap, ◌∙◌, arith, take_all}
use Rattle.numbers.proofs.LittleEndian.{le_two, le_last}
use Rattle.volume.specs.Header.{word_modulus, word_sum}
use Rattle.volume.proofs.header.Sums.{sum_so_far, sum_whole}
use Rattle.volume.proofs.header.word_sum.Goals as goal

pub loop-i-init : goal.loop-i-init
unfolding word_sum
loop-i-init c = refl

pub loop-i-preserved : goal.loop-i-preserved
loop-i-preserved c =
    let l = c.loop-i in
    let s = c.args.s.now in
    let word = c.u16_of.ensures ∙ le_two s (2 * l.i) _ (omega arith) in
    let next : 2 * (l.i + 1) ≡ 2 * l.i + 2 = omega arith in
    rw next (omega (arith, c.add_word-sum.ensures (word_sum (take (2 * l.i) s)) l.invariant, sum_so_far s (2 * l.i) (omega arith) (omega arith)))

pub returns-then-s-ne0 : goal.returns-then-s-ne0
returns-then-s-ne0 c =
    let l = c.loop-i in
    let s = c.args.s.now in
    let last : length s - 1 ≡ 2 * l.i = omega arith in
    let word = (rw last at c.u16_of-then-s-ne0.ensures) ∙ le_last s (2 * l.i) (omega arith) in
    omega (arith, c.add_word.ensures (word_sum (take (2 * l.i) s)) l.invariant, sum_whole s (2 * l.i) (omega arith) (omega arith) (omega arith))

pub returns : goal.returns
returns c =
    let l = c.loop-i in
    let s = c.args.s.now in
    l.invariant ∙ ap (λ (b : List ℕ). word_sum b % word_modulus) (take_all (2 * l.i) s (omega arith))
