-- `volume::header::read_map` meets its contract: the words stored so far and those left make the map, and what stood beyond them stays.
use Rattle.std.proofs.Common.{◌≡◌, ℕ, ◌+◌, ◌*◌, List, ◌++◌, drop, sym, refl, ap, ◌∙◌, arith, length-set, rules}
use Rattle.common.proofs.Lists.{beyond_next, fill_next, fill_front}
use Rattle.numbers.proofs.LittleEndian.{le_four}
use Rattle.volume.specs.Header.{map_start, words_at}
use Rattle.volume.proofs.header.Fields.{length-words_at, words_at_at}
use Rattle.volume.proofs.header.read_map.Goals as goal

pub loop-i-init : goal.loop-i-init
loop-i-init c = (refl, refl, refl)

pub loop-i-preserved : goal.loop-i-preserved
loop-i-preserved c =
    let l = c.loop-i in
    let a = c.args in
    let words = words_at (2 * a.n) a.s.now map_start in
    let long = length-words_at (2 * a.n) a.s.now map_start in
    let word = c.u32_of.ensures ∙ le_four a.s.now (map_start + 4 * l.i) _ _ _ (omega arith) (omega arith) (omega arith) in (
      simp length-set l.invariant.0,
      beyond_next l.map a.map.now l.i _ l.invariant.1,
      fill_next words l.map l.i _ (omega arith) (omega arith) (words_at_at (2 * a.n) a.s.now map_start l.i (search rules) ∙ sym word) l.invariant.2,
    )

pub returns : goal.returns
returns c =
    let l = c.loop-i in
    let a = c.args in
    let words = words_at (2 * a.n) a.s.now map_start in
    let z : l.i ≡ 2 * a.n = omega arith in
    fill_front words l.map l.i (omega (arith, length-words_at (2 * a.n) a.s.now map_start)) l.invariant.2
    ∙ ap (λ (x : List ℕ). words ++ x) (l.invariant.1 ∙ ap (λ (k : ℕ). drop k a.map.now) z)
