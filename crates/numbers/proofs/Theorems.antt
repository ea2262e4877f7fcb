-- What a reader wants of little-endian numbers. Document 01: "All numbers are little endian."
use Prim.Native.Nat.{ℕ, ◌+◌, ◌^◌, ◌≤◌, ◌<◌}
use mathlib.Core.Path.{◌≡◌}
use mathlib.Core.List.{List, ◌++◌}
use lib.ListN.{length, get_or}
use lib.Seq.{sets}
use Rattle.numbers.specs.LittleEndian.{le, le_bytes}
use Rattle.numbers.proofs.LittleEndian.{le_bound, le_past, le_same, le_skip, le-stored, stored_before, stored_behind}

-- what was stored in n bytes at a place is read back there
pub read_back : (n x : ℕ) (s : List ℕ) (at : ℕ) → at + n ≤ length s → x < 256 ^ n → le n (sets s at (le_bytes n x)) at ≡ x
read_back = le-stored

-- a store leaves every byte before its place
pub before_stays : (v s : List ℕ) (at i : ℕ) → i < at → get_or (sets s at v) i 0 ≡ get_or s i 0
before_stays = stored_before

-- and every byte behind what it stores
pub behind_stays : (v s : List ℕ) (at i : ℕ) → at + length v ≤ i → get_or (sets s at v) i 0 ≡ get_or s i 0
behind_stays = stored_behind

-- a number is that of its own bytes, whatever the others are
pub own_bytes : (n : ℕ) (s t : List ℕ) (at : ℕ) → ((i : ℕ) → at ≤ i → i < at + n → get_or s i 0 ≡ get_or t i 0) → le n s at ≡ le n t at
own_bytes = le_same

-- of two strings in a row, the numbers of the second stand behind the first
pub in_second : (n : ℕ) (s t : List ℕ) (at : ℕ) → le n (s ++ t) (length s + at) ≡ le n t at
in_second = le_skip

-- n bytes hold less than 256 ^ n
pub below : (n : ℕ) (s : List ℕ) (at : ℕ) → ((i : ℕ) → get_or s i 0 < 256) → le n s at < 256 ^ n
below = le_bound

-- past the end every number is 0
pub past_end : (n : ℕ) (s : List ℕ) (at : ℕ) → length s ≤ at → le n s at ≡ 0
past_end = le_past
