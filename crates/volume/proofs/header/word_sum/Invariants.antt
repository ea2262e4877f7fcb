-- `volume::header::word_sum` meets its contract: what the accumulator holds after the last whole word, and the odd byte that may be left.
use Rattle.std.proofs.Common.{◌≡◌, ◌*◌, ◌%◌, take}
use Rattle.volume.specs.Header.{word_modulus, word_sum}
use Rattle.volume.proofs.header.word_sum.Given as goal

-- 02, d: "after each word it holds the true sum so far modulo 65,536"; the words so far are the 2 * i bytes before the next one
abbrev pub invariant-loop-i : goal.invariant-loop-i
invariant-loop-i l = l.sum ≡ word_sum (take (2 * l.i) l.s) % word_modulus
