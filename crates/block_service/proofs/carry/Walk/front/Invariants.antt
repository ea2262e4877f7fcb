-- Whatever makes the rest of the walk whole from pair j on makes the order whole from the start, and every block named so far lies before `high`.
use Prim.Native.Nat.{ℕ, ◌+◌, ◌-◌, ◌*◌, ◌≤◌, ◌<◌}
use mathlib.Core.Path.{◌≡◌}
use mathlib.Core.Bool.{true, false}
use lib.ListN.{length, get_or, drop}
use Rattle.volume.specs.BlockMap.{blocks}
use Rattle.block_service.specs.Erase.{good_list}
use Rattle.block_service.specs.Carry.{filled, names_first}
use Rattle.block_service.specs.Order.{firsts, named_blocks, bytes_of, part}
use Rattle.block_service.proofs.carry.Walk.front.Given as goal

abbrev pub invariant-loop-j : goal.invariant-loop-j
invariant-loop-j g l =
    let w = g.L.EraseList.words l.list in
    let s = l.initial.self in
    let left = bytes_of s.words.now (firsts (names_first l.j w) (named_blocks (drop (2 * l.j) w))) in
    let all = bytes_of s.words.now (firsts (names_first 0 w) (named_blocks w)) in
    record {
      same_reference : l.self.volume.ghost_name ≡ s.volume.ghost_name;
      same_words : l.self.words ≡ s.words;
      same_portion : l.self.portion ≡ s.portion;
      good : good_list (blocks s.words.now) (drop (2 * l.j) w) ≡ true;
      fits : (i : ℕ) → i < l.j → get_or w (2 * i) 0 + get_or w (2 * i + 1) 0 ≤ blocks s.words.now;
      below : (x : ℕ) → l.high ≤ x → names_first l.j w x ≡ false;
      told : l.self.at + length left ≡ 0 + length all;
      stored : filled s.portion.value (part (s.portion.from - l.self.at) (s.portion.to - l.self.at) left) l.self.volume.now
          ≡ filled s.portion.value (part (s.portion.from - 0) (s.portion.to - 0) all) s.volume.now;
    }
