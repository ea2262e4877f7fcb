-- A write by the parts of a state that was judged before (for document 02, e, whose list of writes is judged once). Where 111, 5 and 15 for disabled writes are not
-- due, it is `step`'s write (proofs/Theorems, `judged_write_lem`). By other parts what it answers is our choice, and neither 111 nor the write status is asked: 5 where the map's
-- entries up to the block's have more bytes than are lent, so that every block that is written lies in the lent bytes.
use Rattle.std.specs.Prelude.{ℕ, ◌+◌, List, [], ◌∷◌, leb, length}
use Rattle.common.specs.Answers.{Answer, refused}
use Rattle.common.specs.Lists.{edit}
use Rattle.common.specs.Refusals.{Row, row, first_refusal, unless_refused}
use Rattle.volume.specs.BlockMap.{blocks}
use Rattle.block_service.specs.Access.{count_moved, changed_byte, write_change}
use Rattle.block_service.specs.Blocks.{place, start_of, length_of, outgrows}
use Rattle.block_service.specs.Service.{move_answer}

-- the refusals of such a write to a volume of n lent bytes, first that applies
unfoldable pub judged_refusals : List ℕ → ℕ → ℕ → ℕ → List Row
judged_refusals words protected n block =
    row (outgrows words block n) 5
    ∷ row (leb (blocks words) block) 2
    ∷ row (leb protected block) 15
    ∷ []

-- the answer to a write, and the volume afterwards
pub record Stored : Type 0 where
  pub answer : Answer
  pub volume : List ℕ

abbrev pub stored : Answer → List ℕ → Stored
stored answer volume = record { answer = answer; volume = volume }

-- the write
unfoldable pub judged_write : ℕ → ℕ → List ℕ → List ℕ → ℕ → ℕ → List ℕ → Stored
judged_write attributes protected words volume block offset new =
    let found = place words block in
    let count = count_moved (length_of found) offset (length new) in
    let after = edit (λ i old. changed_byte attributes (write_change (start_of found + offset) count new i) old) 0 volume in
    unless_refused (λ number. stored (refused number) volume) (first_refusal (judged_refusals words protected (length volume) block))
    (stored (move_answer count (length new)) after)
