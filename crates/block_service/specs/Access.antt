-- Reading and writing (document 01, "Read and write").
use Rattle.std.specs.Prelude.{ℕ, ◌+◌, ◌-◌, min, cond, ◌&&◌, List, leb, ltb, get_or}
use Rattle.std.specs.Int.Bits.{bit_and, bit_or}
use Rattle.volume.specs.Attributes.{flag, sticky_write, erase_polarity}

-- the count, for a block of length `len` and n bytes of lent data: "the smaller of the lent data length and L minus offset, or 0 where
-- offset exceeds L"
unfoldable pub count_moved : ℕ → ℕ → ℕ → ℕ
count_moved len offset n = min n (len - offset)

-- a byte written over an old one: "A write replaces bytes on a volume without sticky write. With sticky write, each stored byte is old
-- AND new where the erase value is 1, old OR new where it is 0."
unfoldable pub written_byte : ℕ → ℕ → ℕ → ℕ
written_byte attributes old new =
    cond (flag attributes sticky_write) (cond (flag attributes erase_polarity) (bit_and old new) (bit_or old new)) new

-- an erased byte: every bit has the erase value
unfoldable pub erased_byte : ℕ → ℕ
erased_byte attributes = cond (flag attributes erase_polarity) 0xFF 0x00

-- what a call does to one byte of the volume: it keeps it, stores a byte by the volume's write rule, or erases it
pub data ByteChange : Type 0 where
  keep : ByteChange
  store : ℕ → ByteChange
  erase : ByteChange

-- a byte after its change
unfoldable pub changed_byte : ℕ → ByteChange → ℕ → ℕ
changed_byte attributes keep old = old
changed_byte attributes (store new) old = written_byte attributes old new
changed_byte attributes erase old = erased_byte attributes

-- a write of the first `count` bytes of `new` from byte `at` on
unfoldable pub write_change : ℕ → ℕ → List ℕ → ℕ → ByteChange
write_change at count new i = cond (leb at i && ltb i (at + count)) (store (get_or new (i - at) 0)) keep
