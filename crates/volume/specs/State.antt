-- The state (document 01: "opening answers a state: GUID, length, attributes, map, base"), with the header's edition (document 02, a) and the first
-- protected block (document 02, j: the mark). It is the struct `State` of src/state.rt.
use Rattle.std.specs.Prelude.{ℕ, ◌-◌, ◌*◌, Bool, not, List, [], ◌∷◌, ◌++◌, take, drop, replicate, nat_lt}
use Rattle.common.specs.Refusals.{any}
use Rattle.volume.specs.Attributes.{known_edition, attributes_fault, base_fault}
use Rattle.volume.specs.BlockMap.{blocks, has_zero, size_fault, all_zero}
use Rattle.volume.specs.declared.state.State.{State}

-- a state from its parts, its map as the 64 words that it holds
unfoldable pub state_with : List ℕ → ℕ → ℕ → ℕ → ℕ → ℕ → ℕ → List ℕ → State
state_with guid len attributes base edition protected n map =
    record { guid = guid; length = len; attributes = attributes; base = base; edition = edition; protected = protected; entries = n; map = map }

-- a state from its parts and the words of its n map entries, and zeros beyond them. No block is protected: the first protected block is "the number
-- of blocks where none is, as at opening" (02, j)
unfoldable pub state_of : List ℕ → ℕ → ℕ → ℕ → ℕ → ℕ → List ℕ → State
state_of guid len attributes base edition n words = state_with guid len attributes base edition (blocks words) n (words ++ replicate (64 - 2 * n) 0)

-- the zero state, which stands beside a refusal of opening
unfoldable pub zero_state : State
zero_state = state_of (replicate 16 0) 0 0 0 0 0 []

-- the block map of a state: the words of its entries
unfoldable pub map_of : State → List ℕ
map_of st = take (2 * st.entries) st.map

-- 111: a state whose edition is neither 1 nor 2, that breaks 106, 107, 108 or 110, is not zero beyond its entries, or whose first protected block is
-- "past the number of blocks" (02, j)
unfoldable pub unlawful : State → Bool
unlawful st =
    any
    (not (known_edition st.edition)
    ∷ has_zero (map_of st)
    ∷ size_fault st.entries (map_of st) st.length
    ∷ attributes_fault st.edition st.attributes
    ∷ base_fault st.attributes st.base
    ∷ not (all_zero (drop (2 * st.entries) st.map))
    ∷ nat_lt (blocks (map_of st)) st.protected
    ∷ [])
