-- Volume attributes (document 01, Header: Attributes; 000's EFI_FVB_ATTRIBUTES), and those of the header's second edition (document 02, a). Document
-- 01 calls those that a call reads and sets the settings. An edition is the header's revision, 1 or 2.
use Rattle.std.specs.Prelude.{ℕ, ◌/◌, ◌%◌, Bool, cond, not, ◌&&◌, ◌||◌, List, [], ◌∷◌, ◌++◌, map, ◌==◌, bit_and}
use Rattle.common.specs.Refusals.{any}

-- the editions of the header: "for revisions other than 1 and 2" there are none (02, a)
unfoldable pub known_edition : ℕ → Bool
known_edition edition = edition == 1 || edition == 2

-- the attribute of value `bit` (a power of two) is set in `a`
abbrev pub flag : ℕ → ℕ → Bool
flag a bit = a / bit % 2 == 1

-- 1 read may be disabled; 2 read may be enabled; 4 read is enabled
abbrev pub read_disabled_cap : ℕ
read_disabled_cap = 0x1

abbrev pub read_enabled_cap : ℕ
read_enabled_cap = 0x2

abbrev pub read_status : ℕ
read_status = 0x4

-- 8, 0x10, 0x20 the same for write
abbrev pub write_disabled_cap : ℕ
write_disabled_cap = 0x8

abbrev pub write_enabled_cap : ℕ
write_enabled_cap = 0x10

abbrev pub write_status : ℕ
write_status = 0x20

-- 0x40 lock possible; 0x80 locked
abbrev pub lock_cap : ℕ
lock_cap = 0x40

abbrev pub lock_status : ℕ
lock_status = 0x80

-- 0x200 sticky write; 0x400 memory mapped; 0x800 erase value of every bit
abbrev pub sticky_write : ℕ
sticky_write = 0x200

abbrev pub memory_mapped : ℕ
memory_mapped = 0x400

abbrev pub erase_polarity : ℕ
erase_polarity = 0x800

-- edition 1: 0x8000 alignment supported
abbrev pub alignment_cap : ℕ
alignment_cap = 0x8000

-- edition 1: 0x10000 to 0x80000000, the alignments 2 to 64K
abbrev pub alignments : ℕ → ℕ
alignments a = a / 0x10000

-- edition 2: "0x1000 and 0x4000 let read and write status each be locked, 0x2000 and 0x8000 say they are"
abbrev pub read_lock_cap : ℕ
read_lock_cap = 0x1000

abbrev pub read_lock_status : ℕ
read_lock_status = 0x2000

abbrev pub write_lock_cap : ℕ
write_lock_cap = 0x4000

abbrev pub write_lock_status : ℕ
write_lock_status = 0x8000

-- edition 1: "others (0x100, 0x1000, 0x2000, 0x4000) must be zero"
abbrev pub must_be_zero : List ℕ
must_be_zero = 0x100 ∷ 0x1000 ∷ 0x2000 ∷ 0x4000 ∷ []

-- edition 2: "0x7FE00100 must be zero". Of the other bits above 0x8000, "0x1F0000 is the alignment exponent, 0x80000000 weak alignment"
abbrev pub reserved_bits : ℕ
reserved_bits = 0x7FE00100

-- 108, by edition: in edition 1 a bit that must be zero is set, or an alignment bit without 0x8000; in edition 2 a reserved bit is set
unfoldable pub attributes_fault : ℕ → ℕ → Bool
attributes_fault edition a =
    cond (edition == 2)
    (not (bit_and a reserved_bits == 0))
    (any (map (flag a) must_be_zero ++ ((not (flag a alignment_cap) && not (alignments a == 0)) ∷ [])))

-- 110: memory mapped and base not a multiple of 8
unfoldable pub base_fault : ℕ → ℕ → Bool
base_fault a base = flag a memory_mapped && not (base % 8 == 0)
