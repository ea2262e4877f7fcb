-- Setting the settings (document 01, "Set settings"), by the header's edition (document 02, a). The settings are the state's attributes.
use Rattle.std.specs.Prelude.{ℕ, ◌+◌, Bool, not, cond, ◌&&◌, ◌||◌, List, [], ◌∷◌, eqb}
use Rattle.std.specs.Int.Bits.{bit_or}
use Rattle.common.specs.Refusals.{any, Row, row}
use Rattle.volume.specs.Attributes.{flag, read_disabled_cap, read_enabled_cap, read_status, write_disabled_cap, write_enabled_cap, write_status, lock_cap, lock_status, read_lock_cap, read_lock_status, write_lock_cap, write_lock_status}

-- the bits that may change: 4, 0x20 and 0x80, in edition 2 also 0x2000 and 0x8000
unfoldable pub status_bits : ℕ → ℕ
status_bits edition = cond (eqb edition 2) (read_status + write_status + lock_status + read_lock_status + write_lock_status) (read_status + write_status + lock_status)

-- "any bit changed other than" those: they differ also where those are raised in both. Bit by bit: `fixed_bits` and `bits_fixed` (proofs/Rules)
unfoldable pub changes_fixed : ℕ → ℕ → ℕ → Bool
changes_fixed edition old new = not (eqb (bit_or old (status_bits edition)) (bit_or new (status_bits edition)))

-- the bit is set by the change, or cleared by it
unfoldable pub raises : ℕ → ℕ → ℕ → Bool
raises old new bit = not (flag old bit) && flag new bit

unfoldable pub clears : ℕ → ℕ → ℕ → Bool
clears old new bit = flag old bit && not (flag new bit)

-- "where a status already locked would change or a lock bit be lowered" (02, a): the lock is set before the call, and is cleared or its status changes
unfoldable pub breaks_lock : ℕ → ℕ → ℕ → ℕ → Bool
breaks_lock old new lock status = flag old lock && (not (flag new lock) || (raises old new status || clears old new status))

-- 15: "locked and any bit changed", and in edition 2 "tested with the general lock" the locks of the read status and of the write status
unfoldable pub changes_locked : ℕ → ℕ → ℕ → Bool
changes_locked edition old new =
    any
    ((flag old lock_status && not (eqb old new))
    ∷ cond (eqb edition 2) (breaks_lock old new read_lock_status read_status ∷ breaks_lock old new write_lock_status write_status ∷ []) [])

-- "a change that lacks its capability (2 to raise 4, 1 to clear it, 0x10 and 8 likewise for 0x20, 0x40 to raise 0x80)"; in edition 2 "the new lock bits
-- may be raised where the capability stands", 0x1000 for 0x2000 and 0x4000 for 0x8000
unfoldable pub lacks_capability : ℕ → ℕ → ℕ → Bool
lacks_capability edition old new =
    any
    ((raises old new read_status && not (flag old read_enabled_cap))
    ∷ (clears old new read_status && not (flag old read_disabled_cap))
    ∷ (raises old new write_status && not (flag old write_enabled_cap))
    ∷ (clears old new write_status && not (flag old write_disabled_cap))
    ∷ (raises old new lock_status && not (flag old lock_cap))
    ∷ cond (eqb edition 2)
    ((raises old new read_lock_status && not (flag old read_lock_cap)) ∷ (raises old new write_lock_status && not (flag old write_lock_cap)) ∷ [])
    [])

-- "any bit changed other than 4, 0x20, 0x80: 2. Locked and any bit changed: 15. A change that lacks its capability: 2." With each edition's bits
unfoldable pub setting_refusals : ℕ → ℕ → ℕ → List Row
setting_refusals edition old new =
    row (changes_fixed edition old new) 2
    ∷ row (changes_locked edition old new) 15
    ∷ row (lacks_capability edition old new) 2
    ∷ []
