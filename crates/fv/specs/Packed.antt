-- A state packed into bytes (document 02, m: "the state packed into 304 bytes it lends: GUID, 64-bit length and base, 32-bit attributes, edition, mark
-- and entry count, 32 map pairs"), little endian, in that order. The mark is the first protected block.
--
--     bytes     field                         bytes     field
--     0..15     GUID                          36..39    edition
--     16..23    length                        40..43    first protected block
--     24..31    base                          44..47    number of map entries
--     32..35    attributes                    48..303   32 pairs of block count and block length
use Rattle.std.specs.Prelude.{ℕ, ◌<◌, ◌^◌, ◌≡◌, List, ◌++◌, ltb, length, get_or, take}
use Rattle.common.specs.Refusals.{Row, row}
use Rattle.numbers.specs.LittleEndian.{le, le_bytes}
use Rattle.volume.specs.Header.{words_at}
use Rattle.volume.specs.HeaderWriter.{words_bytes}
use Rattle.volume.specs.State.{state_with}
use Rattle.volume.specs.declared.state.State.{State}

-- the bytes of a packed state
abbrev pub state_bytes : ℕ
state_bytes = 304

-- "5 for state .. bytes too few"
abbrev pub few_state : (state : List ℕ) → Row
few_state state = row (ltb (length state) state_bytes) 5

-- the first byte of the map's words, and their number
abbrev pub packed_map_start : ℕ
packed_map_start = 48

abbrev pub map_words : ℕ
map_words = 64

-- the state that bytes hold; they may be no lawful one
unfoldable pub unpacked : List ℕ → State
unpacked s = state_with (take 16 s) (le 8 s 16) (le 4 s 32) (le 8 s 24) (le 4 s 36) (le 4 s 40) (le 4 s 44) (words_at map_words s packed_map_start)

-- the bytes of a state
unfoldable pub packed : State → List ℕ
packed st =
    st.guid
    ++ (le_bytes 8 st.length
    ++ (le_bytes 8 st.base
    ++ (le_bytes 4 st.attributes
    ++ (le_bytes 4 st.edition
    ++ (le_bytes 4 st.protected
    ++ (le_bytes 4 st.entries
    ++ words_bytes st.map))))))

-- for the theorems: what the types of the struct `State` say of its fields: arrays of 16 and 64, words of 64 and of 32 bits. The first protected block and the number of
-- entries have 64 bits there and 32 packed; in a lawful state they are small
pub record Typed (st : State) : Type 0 where
  pub guid : length st.guid ≡ 16
  pub map : length st.map ≡ map_words
  pub words : (i : ℕ) → get_or st.map i 0 < 2 ^ 32
  pub len : st.length < 2 ^ 64
  pub base : st.base < 2 ^ 64
  pub attributes : st.attributes < 2 ^ 32
  pub edition : st.edition < 2 ^ 32
