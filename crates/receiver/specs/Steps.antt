-- What the code takes of a portion at once: private to the crate, and no part of what its calls promise.
use Rattle.std.specs.Prelude.{◌≡◌, ℕ, ◌+◌, ◌-◌, ◌<◌, ◌≤◌, true, cond, List, length, drop, ◌==◌, nat_lt}
use Rattle.sections.specs.Header.{own_fields}
use Rattle.sections.specs.Partial.{Partial, Waiting, Fault, Closed, Open}
use Rattle.receiver.specs.Tally.{wrapped}
use Rattle.receiver.specs.Place.{Body, Place, with_phase, onwards}
use Rattle.receiver.specs.Receiver.{Receiver, fed, sound}

-- a receiver that took some of the bytes comes to the same with the rest
pub record Taken (r : Receiver) (bytes : List ℕ) (x : Receiver) (used : ℕ) : Type 0 where
  pub same : fed r bytes ≡ fed x (drop used bytes)
  pub whole : sound x ≡ true
  pub some : 0 < used
  pub within : used ≤ length bytes

-- in a body of which n bytes are to come, with `there` bytes there
unfoldable pub body_place : Place → (n there : ℕ) → Place
body_place p n there = cond (nat_lt there n) (with_phase p (Body (n - there))) (onwards p)

unfoldable pub body_used : (n there : ℕ) → ℕ
body_used n there = cond (nat_lt there n) there (cond (n == 0) 1 n)

-- how many bytes a header takes that was found whole
unfoldable pub header_bytes : Partial → ℕ
header_bytes Waiting = 1
header_bytes (Fault n) = 1
header_bytes (Closed t first e) = wrapped (first + own_fields t)
header_bytes (Open t first from e) = wrapped (first + own_fields t)
