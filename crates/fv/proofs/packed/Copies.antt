-- Laws of the copies that packing and unpacking begin and end with: the front of a list, copied to the front of a room.
use Prim.Native.Nat.{ℕ, ◌≤◌}
use mathlib.Core.Path.{◌≡◌}
use mathlib.Core.List.{List, ◌++◌}
use native.Mathlib.Omega.{arith}
use lib.ListN.{length, take, drop}
use lib.Seq.{length-take-le, take_all}

-- the first n elements
pub front_copied : (n : ℕ) (s room after : List ℕ) → n ≤ length s → after ≡ take (length (take n s)) (take n s) ++ drop (length (take n s)) room
    → after ≡ take n s ++ drop n room
front_copied n s room after h e =
    let long : length (take n s) ≡ n = length-take-le n s h in
    let all = take_all n (take n s) (rw long (omega arith)) in
    rw (long, all) at e
