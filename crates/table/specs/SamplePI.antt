-- A sample of edition 2 (document 02, a), beside document 01's: 256 bytes, GUID zero, attributes 0x5E3F, header length 72, two blocks of 128, and an extended
-- header of 32 bytes at byte 80, with an entry of 4 bytes and type 1 and one of 8 bytes and type 2. FF elsewhere.
use Rattle.std.specs.Prelude.{ℕ, List, [], ◌∷◌, ◌++◌, replicate}

-- its header: zero vector and GUID; length; signature; attributes; header length; checksum; offset, reserved byte and revision; map
unfoldable pub header_pi : List ℕ
header_pi =
    replicate 32 0
    ++ ((0x00 ∷ 0x01 ∷ replicate 6 0)
    ++ ((0x5F ∷ 0x46 ∷ 0x56 ∷ 0x48 ∷ [])
    ++ ((0x3F ∷ 0x5E ∷ 0x00 ∷ 0x00 ∷ [])
    ++ ((0x48 ∷ 0x00 ∷ [])
    ++ ((0xF2 ∷ 0x0E ∷ [])
    ++ ((0x50 ∷ 0x00 ∷ 0x00 ∷ 0x02 ∷ [])
    ++ ((0x02 ∷ 0x00 ∷ 0x00 ∷ 0x00 ∷ 0x80 ∷ 0x00 ∷ 0x00 ∷ 0x00 ∷ []) ++ replicate 8 0)))))))

-- its extended header: name GUID; size; the two entries
unfoldable pub extended_pi : List ℕ
extended_pi =
    replicate 16 0x11
    ++ ((0x20 ∷ 0x00 ∷ 0x00 ∷ 0x00 ∷ [])
    ++ ((0x04 ∷ 0x00 ∷ 0x01 ∷ 0x00 ∷ []) ++ (0x08 ∷ 0x00 ∷ 0x02 ∷ 0x00 ∷ 0xAA ∷ 0xAA ∷ 0xAA ∷ 0xAA ∷ [])))

unfoldable pub sample_pi : List ℕ
sample_pi = header_pi ++ (replicate 8 0xFF ++ (extended_pi ++ replicate 144 0xFF))
