-- `lister::list` meets its contract: the text lies in the room that was lent, the room holds every listing, and what was read is the input's first bytes.
use Rattle.std.proofs.Common.{◌≡◌, ◌≤◌, arith, length, take, sym}
use native.Mathlib.Nat.{le_trans}
use lib.Dec.{lit≤}
use lib.Seq.{length-take-le}
use Rattle.listing.proofs.Room.{listed_fits, listed_within}
use Rattle.lister.proofs.Whole.{first_bytes, listed_text, listed_whole}
use Rattle.lister.proofs.list.Goals as goal
use Rattle.lister.proofs.list.Goals.{In-Ok}

-- the text lies in the room that was lent
within : (g : _) (c : In-Ok g) → c.in-Ok.k ≤ length c.list_volume.new.room
within g c =
    let h : c.in-Ok.k ≤ 4096 = listed_within _ _ _ _ c.list_volume.ensures.room_after _ c.in-Ok.is in
    omega arith

pub slice_bounds-text-end : goal.slice_bounds-text-end
slice_bounds-text-end g c = within g (goal.at.slice_bounds-text-end g c).In-Ok

pub slice_bounds-write_all-end : goal.slice_bounds-write_all-end
slice_bounds-write_all-end g c = sym (length-take-le _ _ (within g (goal.at.slice_bounds-write_all-end g c).In-Ok))

pub unreachable-requires : goal.unreachable-requires
unreachable-requires g c =
    let l = c.list_volume in
    absurd (listed_fits _ _ _ _ l.ensures.room_after _ (le_trans l.ensures.volume_len_bound (lit≤ tt)) c.in-Err.is)

pub returns : goal.returns
returns g c =
    let l = c.list_volume in
    let read = c.in_ok-n.ensures in
    let got = take c.in_ok-n.n c.read_full.new.buffer in
    let n : c.in_ok-n.n ≤ 65536 = omega arith in
    let long : length got ≡ c.in_ok-n.n = length-take-le _ _ (omega arith) in
    let first = first_bytes _ _ got 65536 read.bytes (omega arith) (λ h. read.end (omega arith)) in
    listed_whole _ _ _ _ got _ 65536 first (listed_text _ _ _ _ (le_trans l.ensures.volume_len_bound (lit≤ tt)) c.in-Ok.ensures.room_after) c.write_all.ensures.bytes
