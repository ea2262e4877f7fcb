-- Laws of packing and unpacking: the stores that make a packed state, its length, and that the first 304 bytes are all that unpacking reads.
use Prim.Native.Nat.{ℕ, zero, suc, ◌+◌, ◌*◌, ◌≤◌}
use mathlib.Core.Path.{◌≡◌, refl, sym, ap, ap₂, ◌∙◌}
use mathlib.Core.List.{List, ◌∷◌, ◌++◌}
use native.Mathlib.Omega.{arith}
use lib.ListN.{length, take, drop, length-append}
use lib.Seq.{sets, get_or-take, take_at, take-take}
use Rattle.common.proofs.Lists.{sets-append, sets_front}
use Rattle.numbers.specs.LittleEndian.{le, le_bytes}
use Rattle.numbers.proofs.LittleEndian.{length-le_bytes, le_same}
use Rattle.volume.specs.Header.{words_at}
use Rattle.volume.specs.HeaderWriter.{words_bytes}
use Rattle.volume.specs.State.{state_with}
use Rattle.volume.specs.declared.state.State.{State}
use Rattle.volume.proofs.header_writer.Stores.{length-words_bytes}
use Rattle.fv.specs.Packed.{packed, unpacked, state_bytes, map_words}

-- ---- packing

-- 304 bytes
pub length-packed : (st : State) → length st.guid ≡ 16 → length st.map ≡ map_words → length (packed st) ≡ state_bytes
unfolding packed
length-packed st g m = simp (length-append, length-le_bytes, length-words_bytes, g, m)

-- the stores in a row
pub pack_stored : (st : State) (r : List ℕ) → length st.guid ≡ 16
    → (r1 r0 r2 r3 r4 r5 : List ℕ) → r1 ≡ sets r 0 st.guid → r0 ≡ sets r1 16 (le_bytes 8 st.length) → r2 ≡ sets r0 24 (le_bytes 8 st.base)
    → r3 ≡ sets (sets r2 32 (le_bytes 4 st.attributes)) 36 (le_bytes 4 st.edition)
    → r4 ≡ sets (sets r3 40 (le_bytes 4 st.protected)) 44 (le_bytes 4 st.entries)
    → r5 ≡ sets r4 48 (words_bytes st.map)
    → r5 ≡ sets r 0 (packed st)
unfolding packed le_bytes
pack_stored st r g r1 r0 r2 r3 r4 r5 e1 e0 e2 e3 e4 e5 =
    let rest : List ℕ =
    le_bytes 8 st.length
    ++ (le_bytes 8 st.base
    ++ (le_bytes 4 st.attributes ++ (le_bytes 4 st.edition ++ (le_bytes 4 st.protected ++ (le_bytes 4 st.entries ++ words_bytes st.map))))) in
    rw (e5, e4, e3, e2, e0, e1) (sym (sets-append st.guid rest r 0 ∙ ap (λ (k : ℕ). sets (sets r 0 st.guid) (0 + k) rest) g))

-- on 304 bytes or more they leave the packed state, and what lies behind it
pub pack_done : (st : State) (r s : List ℕ) → length st.guid ≡ 16 → length st.map ≡ map_words → state_bytes ≤ length r → s ≡ sets r 0 (packed st)
    → s ≡ packed st ++ drop state_bytes r
pack_done st r s g m h e =
    let long = length-packed st g m in
    e ∙ sets_front (packed st) r (omega arith) ∙ ap (λ (k : ℕ). packed st ++ drop k r) long

-- ---- unpacking

-- a number of the first k bytes
le_front : (n k : ℕ) (s : List ℕ) (at : ℕ) → at + n ≤ k → le n (take k s) at ≡ le n s at
le_front n k s at h = le_same n (take k s) s at (λ i p q. get_or-take k s i 0 (omega arith))

pub words_front : (w k : ℕ) (s : List ℕ) (at : ℕ) → at + 4 * w ≤ k → words_at w (take k s) at ≡ words_at w s at
unfolding words_at
words_front zero k s at h = refl
words_front (suc w) k s at h = ap₂ (λ (x : ℕ) (l : List ℕ). x ∷ l) (le_front 4 k s at (omega arith)) (words_front w k s (at + 4) (omega arith))

-- unpacking reads no byte behind the first 304
pub unpacked_front : (s : List ℕ) → unpacked (take state_bytes s) ≡ unpacked s
unfolding unpacked state_with
unpacked_front s = λ i. record {
  guid = take-take 16 304 s (omega arith) i;
  length = le_front 8 304 s 16 (omega arith) i;
  base = le_front 8 304 s 24 (omega arith) i;
  attributes = le_front 4 304 s 32 (omega arith) i;
  edition = le_front 4 304 s 36 (omega arith) i;
  protected = le_front 4 304 s 40 (omega arith) i;
  entries = le_front 4 304 s 44 (omega arith) i;
  map = words_front 64 304 s 48 (omega arith) i;
}

pub unpacked-alike : (s t : List ℕ) → length s ≡ state_bytes → unpacked (s ++ t) ≡ unpacked s
unpacked-alike s t e = sym (unpacked_front (s ++ t)) ∙ ap unpacked (take_at s t state_bytes e)
