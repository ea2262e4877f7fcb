-- The sections that a receiver met.
use Rattle.std.specs.Prelude.{ℕ, ◌+◌, ◌-◌, ◌%◌, ◌^◌, Bool, true, false, cond, ◌==◌, Option, Some, None}
use Rattle.sections.specs.declared.search.Part.{Part}
use Rattle.receiver.specs.declared.tally.Tally as Code

-- their number; how many of the type wanted are still to be passed; whether the one wanted is met, and the part that it shows, 0 and 0 before
pub record Tally : Type 0 where
  pub count : ℕ
  pub before : ℕ
  pub met : Bool
  pub first : ℕ
  pub end : ℕ

-- what the code's struct has, whose part is an Option
abbrev pub with_part : (count before : ℕ) → Option Part → Tally
with_part count before None = record { count = count; before = before; met = false; first = 0; end = 0 }
with_part count before (Some part) = record { count = count; before = before; met = true; first = part.first; end = part.end }

abbrev pub tally_of : Code.Tally → Tally
tally_of tally = with_part tally.count tally.before tally.part

-- the sum in 64 bits, which a receiver's fields have. Where an announcement led to it, it is the sum itself, as `received` says
abbrev pub wrapped : ℕ → ℕ
wrapped n = n % 2 ^ 64

-- another count, and another number of sections to be passed
abbrev pub counted : Tally → (count before : ℕ) → Tally
counted tally count before = record { count = count; before = before; met = tally.met; first = tally.first; end = tally.end }

-- at a section of a type whose part is from `first` to `e`: it counts, and one of the type wanted is the one wanted, where it is not met yet
-- and none is left before it
unfoldable pub visited : Tally → (want section_type first e : ℕ) → Tally
visited tally want t first e =
    let count = wrapped (tally.count + 1) in
    let wanted : Tally = record { count = count; before = 0; met = true; first = first; end = e } in
    let next = cond (tally.before == 0) wanted (counted tally count (tally.before - 1)) in
    cond (t == want) (cond tally.met (counted tally count tally.before) next) (counted tally count tally.before)
