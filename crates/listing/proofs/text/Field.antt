-- Laws of a field, for the function that stores one: a tab, then the digits.
use Prim.Native.Nat.{ℕ, suc}
use mathlib.Core.Path.{◌≡◌, ap}
use lib.ListN.{length}
use Rattle.listing.specs.Decimal.{places, decimal}
use Rattle.listing.specs.Listing.{field}
use Rattle.listing.proofs.text.Decimal.{length_digits}

pub length-field : (x : ℕ) → length (field x) ≡ suc (places x)
unfolding field decimal
length-field x = ap suc (length_digits (places x) x)
