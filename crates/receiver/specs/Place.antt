-- Where in the file a receiver is, and what comes next there.
use Rattle.std.specs.Prelude.{ℕ, zero, suc, ◌+◌, ◌-◌, cond, List, map, ◌==◌, nat_le, nat_lt, slice_index, slice_index_or, slice_set}
use Rattle.sections.specs.Types.{common_header}
use Rattle.sections.specs.Walk.{aligned}
use Rattle.receiver.specs.Tally.{wrapped}
use Rattle.receiver.specs.declared.place.Level.{Level}
use Rattle.receiver.specs.declared.place.Phase as Code
use Rattle.receiver.specs.declared.place.Phase.TheVariants as P
use Rattle.receiver.specs.declared.place.Place as Held

-- what comes next: the rest of a section's header, of which so many bytes are there; so many bytes up to a section's contents or, where they are
-- not searched, its end; so many bytes of padding; nothing; more bytes than were announced came; or a fault was found
pub data Phase : Type 0 where
  Header : (have : ℕ) → Phase
  Body : (n : ℕ) → Phase
  Padding : (n : ℕ) → Phase
  Complete : Phase
  Exceeded : Phase
  Refused : (number : ℕ) → Phase

-- a byte of the file, how many bytes are left in the stream that it is in, and of each of `depth` sections that are entered what follows it in the
-- stream that holds it: padding, and the bytes behind that
pub record Place : Type 0 where
  pub phase : Phase
  pub at : ℕ
  pub left : ℕ
  pub depth : ℕ
  pub lefts : List ℕ
  pub pads : List ℕ

abbrev pub placed : Phase → (at left depth : ℕ) → (lefts pads : List ℕ) → Place
placed phase at left depth lefts pads = record { phase = phase; at = at; left = left; depth = depth; lefts = lefts; pads = pads }

-- what the code's enum and struct have, whose levels are structs
abbrev pub phase_of : Code.Phase → Phase
phase_of (P.Header have) = Header have
phase_of (P.Body n) = Body n
phase_of (P.Padding n) = Padding n
phase_of P.Complete = Complete
phase_of P.Exceeded = Exceeded
phase_of (P.Refused n) = Refused n

abbrev pub lefts_of : List Level → List ℕ
lefts_of levels = map (λ (l : Level). l.left) levels

abbrev pub pads_of : List Level → List ℕ
pads_of levels = map (λ (l : Level). l.pad) levels

abbrev pub place_of : Held.Place → Place
place_of p = placed (phase_of p.phase) p.at p.left p.depth (lefts_of p.levels) (pads_of p.levels)

-- the same place, with what comes next
abbrev pub with_phase : Place → Phase → Place
with_phase p phase = placed phase p.at p.left p.depth p.lefts p.pads

-- at a start where `left` bytes are left in its stream: 201, which reads no byte, or a header
unfoldable pub started : (at left depth : ℕ) → (lefts pads : List ℕ) → Place
started at left depth lefts pads = placed (cond (nat_lt left common_header) (Refused 201) (Header 0)) at left depth lefts pads

-- once every byte before byte `at` came, inside `depth` sections: where no byte is left in the stream, what follows the section that it is
-- in, its padding or, where it has none, what comes next in the stream that holds it; at the end of the outer one nothing; else a start
unfoldable pub arrived : (depth at left : ℕ) → (lefts pads : List ℕ) → Place
arrived zero at left lefts pads = cond (left == 0) (placed Complete at left 0 lefts pads) (started at left 0 lefts pads)
arrived (suc d) at left lefts pads =
    let pad = slice_index_or pads d 0 in
    let padded = placed (Padding pad) (wrapped (at + pad)) (slice_index lefts d) d lefts pads in
    let outwards = cond (pad == 0) (arrived d at (slice_index lefts d) lefts pads) padded in
    cond (left == 0) outwards (started at left (suc d) lefts pads)

-- the same of a place
abbrev pub onwards : Place → Place
onwards p = arrived p.depth p.at p.left p.lefts p.pads

-- the padding after a section of `size` bytes that starts on a multiple of 4, with `behind` bytes after it in its stream: "padding cut off by
-- the stream's end is fine"
unfoldable pub padding : (size behind : ℕ) → ℕ
padding size behind = cond (nat_lt behind (aligned size - size)) behind (aligned size - size)

-- into a section of `size` bytes at byte `at`, of which `have` came: its contents, from its byte `from` on, are a stream of their own, which
-- is empty where they are not searched
unfoldable pub entered : Place → (size from have : ℕ) → Place
entered p size from have =
    let pad = padding size (p.left - size) in
    let lefts = slice_set p.lefts p.depth (p.left - size - pad) in
    let pads = slice_set p.pads p.depth pad in
    let at = wrapped (p.at + from) in
    cond (nat_le from have) (arrived (suc p.depth) at (size - from) lefts pads)
    (placed (Body (from - have)) at (size - from) (suc p.depth) lefts pads)
