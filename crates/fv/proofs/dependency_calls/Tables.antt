-- The rows of a table of installed firmware, filled one after the other from its bytes.
use Prim.Native.Nat.{ℕ, zero, suc, ◌+◌, ◌-◌, ◌*◌, ◌≤◌, ◌<◌}
use mathlib.Core.Path.{◌≡◌, refl, sym, ap, ◌∙◌}
use mathlib.Core.List.{List, [], ◌∷◌, ◌++◌, append-nil}
use native.Mathlib.Numerals.{add-one}
use native.Mathlib.Omega.{arith}
use lib.ListN.{length, get_or, take, drop, set, length-drop}
use lib.Seq.{take-suc-set, append_snoc, drop-drop, take_all}
use Rattle.fv.specs.DependencyCalls.{guids_in}

-- where the rows stored so far and those that the bytes left hold make the table, the store of the next row makes it so of one more
module _ (s : List ℕ) (rows : List (List ℕ)) (i : ℕ) (l : length rows ≡ 16) (whole : take i rows ++ guids_in (16 - i) (drop (16 * i) s) ≡ guids_in 16 s) where
  pub rows_next : (rest row : List ℕ) → i < 16 → rest ≡ drop (16 * i) s → row ≡ take 16 rest
      → take (i + 1) (set rows i row) ++ guids_in (16 - (i + 1)) (drop (16 * (i + 1)) s) ≡ guids_in 16 s
  unfolding guids_in
  rows_next rest row h tail e =
      let n : 16 - i ≡ suc (16 - (i + 1)) = omega arith in
      let place : 16 * (i + 1) ≡ 16 * i + 16 = omega arith in
      let w : take i rows ++ (take 16 (drop (16 * i) s) ∷ guids_in (16 - (i + 1)) (drop 16 (drop (16 * i) s))) ≡ guids_in 16 s = rw n at whole in
      rw (add-one i, take-suc-set rows i row (omega arith), append_snoc (take i rows) row (guids_in (16 - suc i) (drop (16 * suc i) s)), ← add-one i, place, ← drop-drop 16 (16 * i) s, e, tail) w

  pub rows_done : 16 ≤ i → rows ≡ guids_in 16 s
  unfolding guids_in
  rows_done h =
      let n : 16 - i ≡ 0 = omega arith in
      let w : take i rows ++ [] ≡ guids_in 16 s = rw n at whole in
      sym (take_all i rows (omega arith)) ∙ sym (append-nil (take i rows)) ∙ w

-- the bytes from a row on, as the code cuts them out, are enough for a GUID
pub row_there : (s : List ℕ) (i : ℕ) → i < 16 → 256 ≤ length s → 16 ≤ length (take (length s - 16 * i) (drop (16 * i) s))
row_there s i h l = let d = length-drop (16 * i) s in rw (take_all (length s - 16 * i) (drop (16 * i) s) (omega arith)) (omega arith)

pub row_tail : (s : List ℕ) (i : ℕ) → take (length s - 16 * i) (drop (16 * i) s) ≡ drop (16 * i) s
row_tail s i = take_all (length s - 16 * i) (drop (16 * i) s) (rw length-drop (omega arith))

-- row i of a table
pub row_of : (n : ℕ) (s : List ℕ) (i : ℕ) → i < n → get_or (guids_in n s) i [] ≡ take 16 (drop (16 * i) s)
unfolding guids_in
row_of zero s i h = absurd (omega arith)
row_of (suc n) s zero h = refl
row_of (suc n) s (suc i) h =
    let place : 16 + 16 * i ≡ 16 * suc i = omega arith in
    row_of n (drop 16 s) i (omega arith) ∙ ap (take 16) (drop-drop (16 * i) 16 s ∙ ap (λ (k : ℕ). drop k s) place)
