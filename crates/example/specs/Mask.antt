-- The example's definitions: what putting a mask into a volume answers and leaves, by the library's definitions of its calls.
use Rattle.std.specs.Prelude.{ℕ, List, [], ◌∷◌}
use Rattle.common.specs.Answers.{Answer, refused, refusal_in}
use Rattle.common.specs.Refusals.{unless_refused}
use Rattle.volume.specs.Header.{open_volume}
use Rattle.block_service.specs.Erase.{end_of_list}
use Rattle.block_service.specs.Service.{step, erase_blocks, write}

-- the answer, and the volume afterwards
pub record Masked : Type 0 where
  pub answer : Answer
  pub volume : List ℕ

abbrev pub masked : Answer → List ℕ → Masked
masked answer volume = record { answer = answer; volume = volume }

-- a refusal ends the work, with its number and the volume as it was; else the work goes on
abbrev pub unless_refused_by : Answer → List ℕ → Masked → Masked
unless_refused_by answer volume next = unless_refused (λ n. masked (refused n) volume) (refusal_in answer) next

-- the volume is opened, the block erased, and the mask written at the block's start, each only where the one before was not refused
unfoldable pub put_mask : List ℕ → ℕ → ℕ → List ℕ → Masked
put_mask volume base block mask =
    let opened = open_volume volume base in
    let erased = step opened.state volume (erase_blocks (block ∷ 1 ∷ end_of_list ∷ [])) in
    let written = step opened.state erased.volume (write block 0 mask) in
    unless_refused_by opened.answer volume (unless_refused_by erased.answer volume (masked written.answer written.volume))
