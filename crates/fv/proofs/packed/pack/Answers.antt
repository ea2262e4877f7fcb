-- `fv::packed::pack` meets its contract: the stores make the packed state at the room's start.
use Rattle.std.proofs.Common.{◌≡◌, length, rules}
use Rattle.fv.proofs.packed.Packing.{pack_stored, pack_done}
use Rattle.fv.proofs.packed.pack.Goals as goal
use Rattle.fv.proofs.packed.pack.Goals.{Start}

-- the arrays of a state
guid_length : (c : Start) → length c.args.state.now.guid ≡ 16
guid_length c = search rules

map-length : (c : Start) → length c.args.state.now.map ≡ 64
map-length c = search rules

pub returns : goal.returns
returns c =
    let st = c.args.state.now in
    let g = guid_length (goal.at.returns c).Start in
    let stored = pack_stored st c.args.room.now g _ _ _ _ _ _ c.store_bytes.ensures c.store.ensures c.store-2.ensures (rw (c.from.ensures, c.from-2.ensures) at c.store_pair.ensures) c.store_pair-2.ensures c.store_map.ensures in
    pack_done st c.args.room.now _ g (map-length (goal.at.returns c).Start) c.requires stored
