-- `volume::state::State::map_words` meets its contract: the map has 64 words, so that more entries than it has room for are all its words.
use Rattle.std.proofs.Common.{arith, rules}
use Rattle.volume.specs.State.{map_of}
use Rattle.volume.proofs.block_map.Words.{words_there}
use Rattle.volume.proofs.state.State.map_words.Goals as goal

pub returns : goal.returns
unfolding map_of
returns c = let st = c.args.self.now in words_there st.map st.entries c.min.result (search rules) (omega arith)
