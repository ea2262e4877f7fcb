-- A word of a list of bytes is eight of its bytes, also in the part of a pair.
use Prim.Native.Nat.{◌+◌, ◌≤◌, ◌/◌, ◌*◌}
use mathlib.Core.Path.{◌∙◌}
use lib.ListN.{length}
use native.Mathlib.Omega.{arith}
use Rattle.block_service.proofs.erase.ByteLists.{part_word, word_past}
use Rattle.block_service.proofs.erase.ByteWordsEraseList.pair.Goals as goal
use Rattle.block_service.proofs.erase.ByteWordsEraseList.pair.Goals.{else-j-bytes-2-via-then-j-bytes-2+else-bytes-ge8, else-j-bytes-2-via-else-j-bytes-2}

pub returns-then-j-bytes : goal.returns-then-j-bytes
returns-then-j-bytes c =
    let s = c.args.self.0.now in
    let j = c.args.j in (
      c.u64_at.ensures ∙ part_word s (16 * j) _ 0 (2 * j) (omega arith) (omega arith) (omega arith),
      c.u64_at-then-j-bytes.ensures ∙ part_word s (16 * j) _ 8 (2 * j + 1) (omega arith) (omega arith) (omega arith),
    )

pub returns-then-bytes-ge8 : goal.returns-then-bytes-ge8
returns-then-bytes-ge8 c =
    let s = c.args.self.0.now in
    let j = c.args.j in (
      c.u64_at-then-bytes-ge8.ensures ∙ part_word s (16 * j) _ 0 (2 * j) (omega arith) (omega arith) (omega arith),
      word_past s (2 * j + 1) (omega arith),
    )

pub returns : goal.returns
returns c =
    let s = c.args.self.0.now in
    let past : length s / 8 ≤ 2 * c.args.j = elim c.else-j-bytes-2.branch [
      | else-j-bytes-2-via-then-j-bytes-2+else-bytes-ge8 w ↦ omega (arith, w.if-bytes-ge8.false, w.if-j-bytes-2.true)
      | else-j-bytes-2-via-else-j-bytes-2 w ↦ omega (arith, w.if-j-bytes-2.false)
    ] in
    (word_past s (2 * c.args.j) past, word_past s (2 * c.args.j + 1) (omega arith))
