-- Private to the code's contracts: what carrying a job on has in hand between its functions. A reader of the calls' contracts needs none of this.
use Rattle.std.specs.Prelude.{ℕ, zero, suc, ◌+◌, ◌-◌, ◌*◌, ◌≤◌, ◌<◌, ◌≡◌, Bool, true, false, not, cond, ◌||◌, ◌&&◌, List, [], ◌∷◌, ltb, leb, length, get_or, drop, Result}
use Rattle.common.specs.Answers.{refused}
use Rattle.common.specs.Lists.{edit}
use Rattle.common.specs.Refusals.{row, first_refusal, unless_refused}
use Rattle.volume.specs.BlockMap.{blocks}
use Rattle.block_service.specs.Erase.{good_list}
use Rattle.block_service.specs.Order.{member, firsts, part, named_blocks, bytes_of, erase_order, job_given, finishes}
use Rattle.block_service.specs.Service.{progress_answer, carry_answer}
use Rattle.block_service.specs.declared.jobs.Progress.{Progress}
use Rattle.common.specs.declared.refusal.Refusal.{Refusal}

-- the volume v with the value in the bytes whose numbers stand in the list
unfoldable pub filled : ℕ → List ℕ → List ℕ → List ℕ
filled value l v = edit (λ i old. cond (member i l) value old) 0 v

-- a walk over blocks l, of which those that the test `before` holds of were named before. It stores the bytes numbered from `from` on and below `to`, those of
-- these blocks having the numbers from `at` on; r is the number after them, u the volume then, and the test `after` knows these blocks too
pub record Carried (map : List ℕ) (value from to at : ℕ) (before : ℕ → Bool) (l v : List ℕ) (r : ℕ) (u : List ℕ) (after : ℕ → Bool) : Type 0 where
  pub told : r ≡ at + length (bytes_of map (firsts before l))
  pub stored : u ≡ filled value (part (from - at) (to - at) (bytes_of map (firsts before l))) v
  pub marks : (x : ℕ) → after x ≡ (member x l || before x)

-- one of the first j pairs of a list covers block x
unfoldable pub names_first : ℕ → List ℕ → ℕ → Bool
names_first zero w x = false
names_first (suc j) [] x = false
names_first (suc j) (first ∷ []) x = false
names_first (suc j) (first ∷ count ∷ rest) x = leb first x && ltb x (first + count) || names_first j rest x

-- what a walk has still to do with the blocks that the words of a list from place i on name: r is the number of bytes of the order, and u the volume then
pub record Rest (map : List ℕ) (value from to at : ℕ) (before : ℕ → Bool) (w : List ℕ) (i : ℕ) (v : List ℕ) (r : ℕ) (u : List ℕ) : Type 0 where
  pub told : r ≡ at + length (bytes_of map (firsts before (named_blocks (drop i w))))
  pub stored : u ≡ filled value (part (from - at) (to - at) (bytes_of map (firsts before (named_blocks (drop i w))))) v

-- what a walk over the first `pairs` pairs of a good list leaves: a word stands there, what follows is good, each of these pairs fits the map, and whatever does the
-- rest from number `at` on, these pairs' blocks having been named before, does the whole list
pub record FrontDone (map : List ℕ) (value from to : ℕ) (w v : List ℕ) (at pairs : ℕ) (u : List ℕ) : Type 0 where
  pub within : 2 * pairs < length w
  pub good : good_list (blocks map) (drop (2 * pairs) w) ≡ true
  pub fits : (j : ℕ) → j < pairs → get_or w (2 * j) 0 + get_or w (2 * j + 1) 0 ≤ blocks map
  pub rest : (n : ℕ) (x : List ℕ) → Rest map value from to at (names_first pairs w) w (2 * pairs) u n x → Rest map value from to 0 (names_first 0 w) w 0 v n x

-- what carrying a job of a good list on answers and leaves; the list reaches a protected block or not
pub record Progressed (map list : List ℕ) (value : ℕ) (reached : Bool) (job stores : ℕ) (v : List ℕ) (r : Result Progress Refusal) (u : List ℕ) : Type 0 where
  pub told : progress_answer r
      ≡ unless_refused (λ number. refused number) (first_refusal (row (not (job_given map list job)) 2 ∷ row reached 15 ∷ []))
      (carry_answer (finishes map list job stores) (job + stores))
  pub left : u
      ≡ unless_refused (λ number. v) (first_refusal (row (not (job_given map list job)) 2 ∷ row reached 15 ∷ []))
      (filled value (part job (job + stores) (erase_order map list)) v)
