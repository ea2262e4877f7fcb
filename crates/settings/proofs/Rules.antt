-- The rules of setting: which bits the fixed ones are, and that settings that stay as they are break none.
use Prim.Native.Nat.{ℕ}
use mathlib.Core.Path.{◌≡◌, refl, sym, ap}
use mathlib.Core.List.{[], ◌∷◌}
use mathlib.Core.Bool.{Bool, true, false, not, cond, ◌&&◌, ◌||◌, and-false}
use borrow.Author.Tests.{eq-eqb, ne_eqb, eqb-true, eqb-false, not-false}
use lib.Bits.{bit_or}
use lib.Dec.{eqb}
use Rattle.common.specs.Refusals.{any}
use Rattle.common.proofs.Bits.{bit, masked_bit, bits_masked}
use Rattle.volume.specs.Attributes.{flag, read_status, write_status, lock_status, read_lock_status, write_lock_status}
use Rattle.settings.specs.Settings.{status_bits, changes_fixed, changes_locked, breaks_lock, lacks_capability, raises, clears}

-- whether two numbers differ, either way round
pub differ_comm : (a b : ℕ) → not (eqb a b) ≡ not (eqb b a)
differ_comm a b = go (eqb a b) refl
  where
    go : (t : Bool) → eqb a b ≡ t → not t ≡ not (eqb b a)
    go true e = ap not (sym (eq-eqb b a (sym (eqb-true a b e))))
    go false e = ap not (sym (ne_eqb b a (λ q. eqb-false a b e (sym q))))

-- ---- the fixed bits

-- where no fixed bit is changed the settings are the same once the statuses are raised in both
pub same_fixed : (edition old new : ℕ) → changes_fixed edition old new ≡ false → bit_or old (status_bits edition) ≡ bit_or new (status_bits edition)
unfolding changes_fixed
same_fixed edition old new e = eqb-true _ _ (not-false _ e)

-- so they agree at every bit but the statuses'
pub fixed_bits : (edition old new : ℕ) → changes_fixed edition old new ≡ false → (k : ℕ) → bit (status_bits edition) k ≡ 0 → bit old k ≡ bit new k
fixed_bits edition old new e = masked_bit old new (status_bits edition) (same_fixed edition old new e)

-- and two settings that do change no fixed bit
pub bits_fixed : (edition old new : ℕ) → ((k : ℕ) → bit (status_bits edition) k ≡ 0 → bit old k ≡ bit new k) → changes_fixed edition old new ≡ false
unfolding changes_fixed
bits_fixed edition old new h = ap not (eq-eqb _ _ (bits_masked old new (status_bits edition) h))

-- settings that stay as they are break no rule
pub fixed_none : (edition a : ℕ) → changes_fixed edition a a ≡ false
fixed_none edition a = bits_fixed edition a a (λ k e. refl)

-- no bit is set or cleared by a change to the same
none_raised : (a b : ℕ) → raises a a b ≡ false
unfolding raises
none_raised a b = go (flag a b)
  where
    go : (t : Bool) → (not t && t) ≡ false
    go true = refl
    go false = refl

none_cleared : (a b : ℕ) → clears a a b ≡ false
unfolding clears
none_cleared a b = go (flag a b)
  where
    go : (t : Bool) → (t && not t) ≡ false
    go true = refl
    go false = refl

kept_lock : (a lock status : ℕ) → breaks_lock a a lock status ≡ false
unfolding breaks_lock
kept_lock a lock status = rw (none_raised a status, none_cleared a status) (go (flag a lock))
  where
    go : (t : Bool) → (t && (not t || false)) ≡ false
    go true = refl
    go false = refl

pub locked_none : (edition a : ℕ) → changes_locked edition a a ≡ false
unfolding changes_locked any
locked_none edition a =
    rw (eq-eqb a a refl, and-false (flag a lock_status), kept_lock a read_lock_status read_status, kept_lock a write_lock_status write_status) (go (eqb edition 2))
  where
    go : (t : Bool) → any (cond t (false ∷ false ∷ []) []) ≡ false
    go true = refl
    go false = refl

pub lacks_none : (edition a : ℕ) → lacks_capability edition a a ≡ false
unfolding lacks_capability any
lacks_none edition a = simp (none_raised, none_cleared) (go (eqb edition 2))
  where
    go : (t : Bool) → any (cond t (false ∷ false ∷ []) []) ≡ false
    go true = refl
    go false = refl
