-- Laws of the listing's lines: their length, the map's lines one entry at a time, and the lines of what opening answered.
use Prim.Native.Nat.{ℕ, ◌+◌, ◌*◌, ◌≤◌, ◌<◌}
use mathlib.Core.Path.{◌≡◌, refl}
use mathlib.Core.List.{List, [], ◌∷◌, ◌++◌}
use native.Mathlib.Omega.{arith}
use lib.ListN.{length, get_or, drop, length-append, length-drop}
use Rattle.common.proofs.Lists.{drop_two}
use Rattle.common.specs.Answers.{refused}
use Rattle.volume.specs.Header.{open_volume, opened}
use Rattle.volume.specs.State.{map_of}
use Rattle.volume.specs.declared.state.State.{State}
use Rattle.listing.specs.Listing.{lines_of, listing, map_line, map_lines, refused_line, volume_line}

pub line-length : (word f g h nl : List ℕ) → length (word ++ (f ++ (g ++ (h ++ nl)))) ≡ length word + (length f + (length g + (length h + length nl)))
line-length word f g h nl = simp length-append

-- the lines of a map's entries from place i on: that entry's, and then the rest; or none
pub map_next : (w : List ℕ) (first i : ℕ) → 2 * i + 1 < length w
    → map_lines first (drop (2 * i) w)
    ≡ map_line first (get_or w (2 * i) 0) (get_or w (2 * i + 1) 0) ++ map_lines (first + get_or w (2 * i) 0) (drop (2 * (i + 1)) w)
unfolding map_lines
map_next w first i h = let e : 2 * (i + 1) ≡ 2 * i + 2 = omega arith in rw (e, drop_two w (2 * i) h)

few_lines : (first : ℕ) (w : List ℕ) → length w ≤ 1 → map_lines first w ≡ []
unfolding map_lines
few_lines first [] h = refl
few_lines first (x ∷ []) h = refl
few_lines first (x ∷ y ∷ w) h = absurd (omega arith)

pub map_end : (w : List ℕ) (first i : ℕ) → length w ≤ 2 * i + 1 → map_lines first (drop (2 * i) w) ≡ []
map_end w first i h = few_lines first (drop (2 * i) w) (rw length-drop (omega arith))

-- ---- what opening answered

pub lines_opened : (s : List ℕ) (st : State) → open_volume s 0 ≡ opened st
    → listing s ≡ volume_line st.length st.attributes st.entries ++ map_lines 0 (map_of st)
unfolding listing lines_of
lines_opened s st e = rw e

pub lines_refused : (s : List ℕ) (n : ℕ) → (open_volume s 0).answer ≡ refused n → listing s ≡ refused_line n
unfolding listing lines_of
lines_refused s n e = rw e
