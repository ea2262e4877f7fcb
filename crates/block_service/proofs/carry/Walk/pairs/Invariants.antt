-- What is left from pair j on, from the next byte's number on, is what was left at the start.
use Prim.Native.Nat.{◌+◌, ◌-◌, ◌*◌}
use mathlib.Core.Path.{◌≡◌}
use mathlib.Core.Bool.{true}
use lib.ListN.{length, drop}
use Rattle.volume.specs.BlockMap.{blocks}
use Rattle.block_service.specs.Erase.{good_list}
use Rattle.block_service.specs.Marks.{marked}
use Rattle.block_service.specs.Carry.{filled}
use Rattle.block_service.specs.Order.{firsts, named_blocks, bytes_of, part}
use Rattle.block_service.proofs.carry.Walk.pairs.Given as goal

abbrev pub invariant-loop-j : goal.invariant-loop-j
invariant-loop-j g l =
    let w = g.L.EraseList.words l.list in
    let s = l.initial.self in
    let left = bytes_of s.words.now (firsts (marked l.marks.words) (named_blocks (drop (2 * l.j) w))) in
    let all = bytes_of s.words.now (firsts (marked l.initial.marks.words) (named_blocks (drop (2 * l.pairs) w))) in
    record {
      same_reference : l.self.volume.ghost_name ≡ s.volume.ghost_name;
      same_words : l.self.words ≡ s.words;
      same_portion : l.self.portion ≡ s.portion;
      good : good_list (blocks s.words.now) (drop (2 * l.j) w) ≡ true;
      told : l.self.at + length left ≡ s.at + length all;
      stored : filled s.portion.value (part (s.portion.from - l.self.at) (s.portion.to - l.self.at) left) l.self.volume.now
          ≡ filled s.portion.value (part (s.portion.from - s.at) (s.portion.to - s.at) all) s.volume.now;
    }
