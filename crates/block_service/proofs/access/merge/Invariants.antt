-- `block_service::access::merge` meets its contract: the first i bytes are merged, the others are as they were.
use Rattle.std.proofs.Common.{◌≡◌, ℕ, ◌≤◌, ◌<◌, length, get_or}
use Rattle.block_service.proofs.access.merge.Given as goal

abbrev pub invariant-loop-i : goal.invariant-loop-i
invariant-loop-i g l =
    (length l.initial.part ≡ length l.new)
    × ((k : ℕ) → k < l.i → goal.F-post g l.rule (get_or l.initial.part k 0) (get_or l.new k 0) (get_or l.part k 0))
    × ((k : ℕ) → l.i ≤ k → get_or l.part k 0 ≡ get_or l.initial.part k 0)
