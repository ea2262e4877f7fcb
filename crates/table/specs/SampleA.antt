-- Document 01's sample A: 2,048 bytes, GUID zero, attributes 0x0E3F, header length 72, one entry of 4 blocks of 512, checksum bytes
-- C0 57, FF from byte 72 on.
use Rattle.std.specs.Prelude.{ℕ, List, [], ◌∷◌, ◌++◌, replicate}

-- its header: zero vector and GUID; length; signature; attributes; header length; checksum; reserved bytes and revision; map
unfoldable pub header_a : List ℕ
header_a =
    replicate 32 0
    ++ ((0x00 ∷ 0x08 ∷ replicate 6 0)
    ++ ((0x5F ∷ 0x46 ∷ 0x56 ∷ 0x48 ∷ [])
    ++ ((0x3F ∷ 0x0E ∷ 0x00 ∷ 0x00 ∷ [])
    ++ ((0x48 ∷ 0x00 ∷ [])
    ++ ((0xC0 ∷ 0x57 ∷ [])
    ++ ((0x00 ∷ 0x00 ∷ 0x00 ∷ 0x01 ∷ [])
    ++ ((0x04 ∷ 0x00 ∷ 0x00 ∷ 0x00 ∷ 0x00 ∷ 0x02 ∷ 0x00 ∷ 0x00 ∷ []) ++ replicate 8 0)))))))

unfoldable pub sample_a : List ℕ
sample_a = header_a ++ replicate 1976 0xFF

-- the 16-bit accumulator after each word of its header, as the boot block's listing has it (02, d)
unfoldable pub sums_a : List ℕ
sums_a =
    replicate 16 0
    ++ (0x0800 ∷ 0x0800 ∷ 0x0800 ∷ 0x0800 ∷ 0x4E5F ∷ 0x96B5 ∷ 0xA4F4 ∷ 0xA4F4 ∷ 0xA53C ∷ 0xFCFC ∷ 0xFCFC ∷ 0xFDFC ∷ 0xFE00 ∷ 0xFE00 ∷ replicate 6 0)

-- what the lister prints for it: `volume\t2048\t3647\t1` and `map\t0\t4\t512`, each line with its line feed
unfoldable pub lines_a : List ℕ
lines_a =
    118 ∷ 111 ∷ 108 ∷ 117 ∷ 109 ∷ 101 ∷ 9 ∷ 50 ∷ 48 ∷ 52 ∷ 56 ∷ 9 ∷ 51 ∷ 54 ∷ 52 ∷ 55 ∷ 9 ∷ 49 ∷ 10
    ∷ 109 ∷ 97 ∷ 112 ∷ 9 ∷ 48 ∷ 9 ∷ 52 ∷ 9 ∷ 53 ∷ 49 ∷ 50 ∷ 10 ∷ []
