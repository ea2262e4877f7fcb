-- What each call does to a receiver, whatever its fields are: byte by byte, so that how a file is cut changes nothing.
use Rattle.std.specs.Prelude.{ℕ, ◌+◌, ◌-◌, Bool, false, cond, ◌&&◌, List, [], ◌∷◌, replicate, ◌==◌, nat_le, nat_lt, slice_set, Option, Some, None, Result, Ok, Err}
use Rattle.common.specs.Answers.{Answer, success}
use Rattle.common.specs.Answers as Answers
use Rattle.common.specs.Refusal.{number}
use Rattle.common.specs.declared.refusal.Refusal.{Refusal}
use Rattle.sections.specs.Partial.{partial_of, Partial, Waiting, Fault, Closed, Open}
use Rattle.sections.specs.Walk.{stream_limit}
use Rattle.sections.specs.declared.header.Mode.{Mode}
use Rattle.sections.specs.declared.header.Mode.TheVariants.{Framework}
use Rattle.receiver.specs.Tally.{Tally, tally_of, wrapped, visited}
use Rattle.receiver.specs.Place.{Phase, Header, Body, Padding, Complete, Exceeded, Refused, Place, placed, place_of, with_phase, arrived, entered}
use Rattle.receiver.specs.declared.receiver.Receiver as Code
use Rattle.receiver.specs.declared.receiver.Received.{Received}

-- the state between portions: what is wanted, what was met, where it is in the file, and the bytes that came of a header that is not whole yet, zero
-- behind them
pub record Receiver : Type 0 where
  pub mode : Mode
  pub want : ℕ
  pub tally : Tally
  pub place : Place
  pub header : List ℕ

-- the levels of a walk, and the bytes of the longest header
abbrev pub levels : ℕ
levels = 8

abbrev pub longest_header : ℕ
longest_header = 28

abbrev pub receiver : Mode → (want : ℕ) → Tally → Place → List ℕ → Receiver
receiver mode want tally place header = record { mode = mode; want = want; tally = tally; place = place; header = header }

-- what the code's struct has
abbrev pub receiver_of : Code.Receiver → Receiver
receiver_of r = receiver r.mode r.want (tally_of r.tally) (place_of r.place) r.header

-- the same receiver at another place, with no byte of a header
abbrev pub moved : Receiver → Tally → Place → Receiver
moved r tally place = receiver r.mode r.want tally place (replicate {A = ℕ} longest_header 0)

-- ---- the announcement

abbrev pub no_tally : (instance : ℕ) → Tally
no_tally instance = record { count = 0; before = instance; met = false; first = 0; end = 0 }

-- a receiver that met nothing yet
abbrev pub begun : Mode → (want instance : ℕ) → Place → Receiver
begun mode want instance place = receiver mode want (no_tally instance) place (replicate {A = ℕ} longest_header 0)

-- one in which a fault was found, and all else is zero
abbrev pub refused_by : (number : ℕ) → Receiver
refused_by n = let none = replicate {A = ℕ} levels 0 in begun Framework 0 0 (placed (Refused n) 0 0 0 none none)

-- beside a refusal: 206 was found
abbrev pub not_announced : Receiver
not_announced = refused_by 206

-- the receiver of a file of `total` bytes
unfoldable pub announced : Mode → (want instance total : ℕ) → Receiver
announced mode want instance total =
    let none = replicate {A = ℕ} levels 0 in
    cond (nat_lt (stream_limit mode) total) not_announced (begun mode want instance (arrived 0 0 total none none))

-- "206 at the announcement"
unfoldable pub announce_of : Mode → (total : ℕ) → Answer
announce_of mode total = cond (nat_lt (stream_limit mode) total) (Answers.refused 206) (success [])

-- what the code's announcement answers; and the receiver that goes on, of a refusal the one that has its number
abbrev pub announcement_answer : Result Code.Receiver Refusal → Answer
announcement_answer (Ok r) = success []
announcement_answer (Err refusal) = Answers.refused (number refusal)

abbrev pub announced_by : Result Code.Receiver Refusal → Receiver
announced_by (Ok r) = receiver_of r
announced_by (Err refusal) = refused_by (number refusal)

-- ---- a portion

-- with so many bytes of a header; and with a fault found in it
abbrev pub waiting : Receiver → (header : List ℕ) → (have : ℕ) → Receiver
waiting r header have = receiver r.mode r.want r.tally (with_phase r.place (Header have)) header

abbrev pub refused : Receiver → (number : ℕ) → Receiver
refused r n = moved r r.tally (with_phase r.place (Refused n))

-- at a section of which `have` bytes came: it is tallied, and entered
unfoldable pub met : Receiver → (section_type first from e have : ℕ) → Receiver
met r t first from e have =
    let shown = visited r.tally r.want t (wrapped (r.place.at + first)) (wrapped (r.place.at + e)) in
    moved r shown (entered r.place e from have)

-- with one byte more of a header, `have` of them now, by what they say. 205, "contents to be searched would lie on a ninth level". At a header
-- inside eight sections, to which no announcement leads, any section is refused so, since there is no place for a ninth
unfoldable pub looked : Receiver → (header : List ℕ) → (have : ℕ) → Partial → Receiver
looked r header have Waiting = waiting r header have
looked r header have (Fault n) = refused r n
looked r header have (Closed t first e) = cond (nat_lt r.place.depth levels) (met r t first e e have) (refused r 205)
looked r header have (Open t first from e) = cond (nat_lt (r.place.depth + 1) levels) (met r t first from e have) (refused r 205)

-- with one byte less to come, n before it
unfoldable pub passed : Place → (n : ℕ) → (ℕ → Phase) → Place
passed p n phase = cond (nat_le n 1) (arrived p.depth p.at p.left p.lefts p.pads) (with_phase p (phase (n - 1)))

-- "207 each padding byte by itself"
unfoldable pub padding_step : Place → (n byte : ℕ) → Place
padding_step p n b = cond (b == 0) (passed p n Padding) (with_phase p (Refused 207))

abbrev pub at_place : Receiver → Place → Receiver
at_place r place = receiver r.mode r.want r.tally place r.header

-- with one byte more, by what comes next
unfoldable pub stepped : Phase → Receiver → (byte : ℕ) → Receiver
stepped (Header have) r b =
    let header = slice_set r.header have b in looked r header (have + 1) (partial_of r.mode header (have + 1) r.place.left)
stepped (Body n) r b = at_place r (passed r.place n Body)
stepped (Padding n) r b = at_place r (padding_step r.place n b)
stepped Complete r b = at_place r (with_phase r.place Exceeded)
stepped Exceeded r b = r
stepped (Refused n) r b = r

-- with the bytes of a portion, one after the other
unfoldable pub fed : Receiver → (bytes : List ℕ) → Receiver
fed r [] = r
fed r (b ∷ bytes) = fed (stepped r.place.phase r b) bytes

-- the bytes of a header that a receiver holds
abbrev pub have_of : Phase → ℕ
have_of (Header have) = have
have_of (Body n) = 0
have_of (Padding n) = 0
have_of Complete = 0
have_of Exceeded = 0
have_of (Refused n) = 0

-- its places lie in its arrays. One of which they do not, to which no announcement leads (`received_sound`), stays as it is
unfoldable pub sound : Receiver → Bool
sound r = nat_le r.place.depth levels && nat_lt (have_of r.place.phase) longest_header

-- "portions are never refused": any bytes, and none too
unfoldable pub portion_of : Receiver → (bytes : List ℕ) → Receiver
portion_of r bytes = cond (sound r) (fed r bytes) r

-- one portion after the other
unfoldable pub portions_of : Receiver → (portions : List (List ℕ)) → Receiver
portions_of r [] = r
portions_of r (bytes ∷ portions) = portions_of (portion_of r bytes) portions

-- ---- the finish

-- where all that was announced came: count and part, or "then 14"
unfoldable pub tally_answer : Tally → Answer
tally_answer tally = cond tally.met (success (tally.count ∷ tally.first ∷ tally.end ∷ [])) (Answers.refused 14)

abbrev pub finish_at : Phase → Tally → Answer
finish_at (Header have) tally = Answers.refused 208
finish_at (Body n) tally = Answers.refused 208
finish_at (Padding n) tally = Answers.refused 208
finish_at Complete tally = tally_answer tally
finish_at Exceeded tally = Answers.refused 208
finish_at (Refused n) tally = Answers.refused n

-- what the finish answers
unfoldable pub finish_of : Receiver → Answer
finish_of r = finish_at r.place.phase r.tally

-- what the code's finish answers
abbrev pub received_answer : Result Received ℕ → Answer
received_answer (Ok received) = success (received.count ∷ received.part.first ∷ received.part.end ∷ [])
received_answer (Err n) = Answers.refused n

-- the fault that was found, or 0
abbrev pub found_in : Phase → ℕ
found_in (Header have) = 0
found_in (Body n) = 0
found_in (Padding n) = 0
found_in Complete = 0
found_in Exceeded = 0
found_in (Refused n) = n

-- the fault of a receiver, and what the code's `fault` answers
unfoldable pub fault_of : Receiver → ℕ
fault_of r = found_in r.place.phase

abbrev pub fault_answer : Option ℕ → ℕ
fault_answer None = 0
fault_answer (Some n) = n
