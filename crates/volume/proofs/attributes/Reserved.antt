-- Edition 2's rule 108, bit by bit: attributes pass exactly where they have no reserved bit.
use Rattle.std.proofs.Common.{◌≡◌, ℕ, false, not, ap, eq-eqb, eqb-true}
use borrow.Author.Tests.{not-false}
use Rattle.common.proofs.Bits.{bit, apart_bit, bits_apart}
use Rattle.volume.specs.Attributes.{reserved_bits, attributes_fault}

pub reserved_zero : (a : ℕ) → attributes_fault 2 a ≡ false → (k : ℕ) → bit reserved_bits k ≡ 1 → bit a k ≡ 0
unfolding attributes_fault
reserved_zero a e k = apart_bit a reserved_bits (eqb-true _ _ (not-false _ e)) k

pub others_free : (a : ℕ) → ((k : ℕ) → bit reserved_bits k ≡ 1 → bit a k ≡ 0) → attributes_fault 2 a ≡ false
unfolding attributes_fault
others_free a h = ap not (eq-eqb _ _ (bits_apart a reserved_bits h))
