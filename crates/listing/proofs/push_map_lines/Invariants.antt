-- `listing::push_map_lines` meets its contract: the lines so far and those of the entries left are the map's.
use Rattle.std.proofs.Common.{◌≡◌, ◌+◌, ◌*◌, ◌≤◌, ◌++◌, drop}
use Rattle.listing.specs.Listing.{map_lines}
use Rattle.listing.specs.Text.{text_of}
use Rattle.listing.proofs.push_map_lines.Given as goal

abbrev pub invariant-loop-i : goal.invariant-loop-i
invariant-loop-i l =
    (l.first ≤ 4294967296 * l.i) × (l.text.len ≤ l.initial.text.len + 67 * l.i)
    × (text_of l.text ++ map_lines l.first (drop (2 * l.i) l.words) ≡ text_of l.initial.text ++ map_lines 0 l.words)
