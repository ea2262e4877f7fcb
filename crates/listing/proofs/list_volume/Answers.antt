-- `listing::list_volume` meets its contract: the room is too short for the listing, or starts with it.
use Rattle.std.proofs.Common.{◌≡◌, sym, ◌∙◌, rules}
use Rattle.listing.specs.Listing.{listed_answer}
use Rattle.listing.proofs.Room.{list_refused, list_done}
use Rattle.listing.proofs.list_volume.Goals as goal

pub returns-then-room-lines-clause-room_after : goal.returns-then-room-lines-clause-room_after
unfolding listed_answer
returns-then-room-lines-clause-room_after c =
    let e = c.as_bytes-lines.ensures ∙ c.list-listing.ensures.text in
    sym (list_refused c.args.volume.now c.args.room.now (rw e at c.if-room-lines.true))

pub returns-clause-room_after : goal.returns-clause-room_after
unfolding listed_answer
returns-clause-room_after c =
    let e = c.as_bytes-lines.ensures ∙ c.list-listing.ensures.text in
    let d = list_done c.args.volume.now c.args.room.now (rw e at c.if-room-lines.false) in
    let f : c.copy_from_slice.new.self ≡ c.as_bytes-lines.result.now = search rules in
    rw (f, e) (sym d)
