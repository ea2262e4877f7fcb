-- What a reader wants of the listing, in the order of document 01's words on the lister.
use Prim.Native.Nat.{ℕ, ◌+◌, ◌/◌, ◌%◌, ◌≤◌, ◌<◌}
use mathlib.Core.Path.{◌≡◌}
use mathlib.Core.List.{List, [], ◌∷◌, ◌++◌}
use lib.ListN.{length, get_or, drop}
use Rattle.common.specs.Answers.{refused, success}
use Rattle.volume.specs.Header.{open_volume, opened}
use Rattle.volume.specs.State.{map_of}
use Rattle.volume.specs.declared.state.State.{State}
use Rattle.listing.specs.Decimal.{decimal, zero_digit}
use Rattle.listing.specs.Listing.{list_volume, listed_room, listing, map_lines, max_listing, refused_line, volume_line}
use Rattle.listing.proofs.Lines.{lines_opened, lines_refused}
use Rattle.listing.proofs.Longest.{listing_short}
use Rattle.listing.proofs.Room.{list_done, list_refused}
use Rattle.listing.proofs.text.Decimal.{decimal_more, decimal_one}

-- "the fields are length, attributes, entries; then first block, count, length"
pub opened_lists : (s : List ℕ) (st : State) → open_volume s 0 ≡ opened st
    → listing s ≡ volume_line st.length st.attributes st.entries ++ map_lines 0 (map_of st)
opened_lists = lines_opened

-- "a refusal prints `refused\t` and the number"
pub refusal_lists : (s : List ℕ) (n : ℕ) → (open_volume s 0).answer ≡ refused n → listing s ≡ refused_line n
refusal_lists = lines_refused

-- a number's text: one digit, or the text of a tenth of it and its last digit
pub one_digit : (n : ℕ) → n < 10 → decimal n ≡ (zero_digit + n) ∷ []
one_digit = decimal_one

pub more_digits : (n : ℕ) → 10 ≤ n → decimal n ≡ decimal (n / 10) ++ ((zero_digit + n % 10) ∷ [])
more_digits = decimal_more

-- 5: "output room too short"; "no lent byte changes"
pub room_too_short : (s room : List ℕ) → length room < length (listing s) → list_volume s room ≡ listed_room (refused 5) room
room_too_short = list_refused

-- else the room starts with the listing, its length is answered, and the bytes behind it stay
pub room_enough : (s room : List ℕ) → length (listing s) ≤ length room
    → list_volume s room ≡ listed_room (success (length (listing s) ∷ [])) (listing s ++ drop (length (listing s)) room)
room_enough = list_done

-- a room of `max_listing` bytes is enough for the listing of any bytes
pub longest : (s : List ℕ) → ((i : ℕ) → get_or s i 0 < 256) → length (listing s) ≤ max_listing
longest = listing_short
