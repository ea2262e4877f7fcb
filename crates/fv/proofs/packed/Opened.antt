-- What opening answers fits the packed bytes: each field comes from as many bytes of the header, or is small.
use Prim.Native.Nat.{ℕ, zero, suc, ◌+◌, ◌-◌, ◌*◌, ◌≤◌, ◌<◌, ◌^◌}
use mathlib.Core.Path.{◌≡◌}
use mathlib.Core.Bool.{false}
use mathlib.Core.List.{List, [], ◌∷◌, ◌++◌}
use native.Mathlib.Omega.{arith}
use borrow.Author.Tests.{ltb-false}
use lib.Dec.{lit<}
use lib.ListN.{length, get_or, drop, replicate, length-append, length-drop, length-replicate}
use lib.Seq.{length-take-le}
use Rattle.common.specs.Answers.{success}
use Rattle.common.proofs.Refusals.{row-passed}
use Rattle.numbers.proofs.LittleEndian.{le_bound}
use Rattle.volume.specs.BlockMap.{max_entries}
use Rattle.volume.specs.Header.{min_header, header_length_at, entries_of, words_at, state_at, open_refusals, opened, open_volume}
use Rattle.volume.specs.State.{state_of, state_with, unlawful}
use Rattle.volume.specs.declared.state.State.{State}
use Rattle.volume.proofs.header.Fields.{length-words_at, opened-passed, opening_success, opened_entries}
use Rattle.volume.proofs.state.Lawful.{lawful}
use Rattle.fv.specs.Packed.{Typed}

-- a lawful state's first protected block and number of entries are small
pub lawful_small : (st : State) → unlawful st ≡ false → (st.protected < 2 ^ 32) × (st.entries < 2 ^ 32)
lawful_small st e = let l = lawful st e in (omega (arith, l.protected, l.blocks), omega (arith, l.entries))

-- lists whose every element is below a bound
below_append : (m : ℕ) (a b : List ℕ) → ((i : ℕ) → get_or a i 0 < m) → ((i : ℕ) → get_or b i 0 < m) → (i : ℕ) → get_or (a ++ b) i 0 < m
below_append m [] b p q i = q i
below_append m (x ∷ a) b p q zero = p 0
below_append m (x ∷ a) b p q (suc i) = below_append m a b (λ j. p (suc j)) q i

below_zeros : (k i : ℕ) → get_or (replicate k 0) i 0 < 2 ^ 32
below_zeros zero i = lit< tt
below_zeros (suc k) zero = lit< tt
below_zeros (suc k) (suc i) = below_zeros k i

module _ (v : List ℕ) (bytes : (i : ℕ) → get_or v i 0 < 256) where
  below_words : (k at i : ℕ) → get_or (words_at k v at) i 0 < 2 ^ 32
  unfolding words_at
  below_words zero at i = lit< tt
  below_words (suc k) at zero = le_bound 4 v at bytes
  below_words (suc k) at (suc i) = below_words k (at + 4) i

  module _ (base : ℕ) (small : base < 2 ^ 64) (success : (open_volume v base).answer ≡ success []) where
    long : min_header ≤ length v
    unfolding open_refusals
    long = ltb-false (length v) min_header (row-passed _ _ (opened-passed v base success)).0

    answered : open_volume v base ≡ opened (state_at v base)
    answered = opening_success v base (opened-passed v base success)

    few : entries_of (header_length_at v) ≤ max_entries
    unfolding state_at state_of state_with
    few = rw answered at (opened_entries v base)

    typed : Typed (state_at v base)
    unfolding state_at state_of state_with
    typed =
        let n = entries_of (header_length_at v) in record {
          guid = length-take-le 16 (drop 16 v) (rw (length-drop 16 v) (omega (arith, long)));
          map = simp (length-append, length-replicate, length-words_at) (omega (arith, few));
          words = below_append (2 ^ 32) (words_at (2 * n) v 56) (replicate (64 - 2 * n) 0) (below_words (2 * n) 56) (below_zeros (64 - 2 * n));
          len = le_bound 8 v 32 bytes;
          base = small;
          attributes = le_bound 4 v 44 bytes;
          edition = omega (arith, bytes 55);
        }

    pub opened-typed : Typed (open_volume v base).state
    opened-typed = rw answered typed
