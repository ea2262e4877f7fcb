-- `volume::state::State::block_count` meets its contract: the map has 64 words.
use Rattle.std.proofs.Common.{◌*◌, length-take, rules}
use Rattle.volume.specs.State.{map_of}
use Rattle.volume.proofs.state.State.block_count.Goals as goal

pub count_blocks-requires : goal.count_blocks-requires
unfolding map_of
count_blocks-requires c = let st = c.args.self.now in rw (c.map_words.ensures, length-take (2 * st.entries) st.map) (search rules)
