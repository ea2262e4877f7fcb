-- What a lawful state is known to have: its entries, blocks and length keep the limits, its blocks make up its length, and its first protected
-- block is not past their number.
use Rattle.std.proofs.Common.{◌≡◌, ℕ, ◌*◌, ◌/◌, ◌≤◌, Bool, true, false, not, ◌||◌, ltb, List, length, length-take-le, take, drop, refl, arith, ltb-false, ap, take_all, length-drop, ◌-◌}
use mathlib.Core.Bool.{or-true, or-false}
use borrow.Author.Tests.{not-false}
use Rattle.common.specs.Refusals.{any}
use Rattle.common.proofs.Refusals.{any-passed}
use Rattle.volume.specs.Attributes.{known_edition, attributes_fault, base_fault}
use Rattle.volume.specs.BlockMap.{max_entries, max_blocks, max_length, blocks, bytes, has_zero, all_zero, size_fault}
use Rattle.volume.specs.State.{map_of, unlawful}
use Rattle.volume.specs.declared.state.State.{State}
use Rattle.volume.proofs.block_map.Words.{size_passed}

-- the first protected block is not past the number of blocks
abbrev InsideMap : State → Type 0
InsideMap st = st.protected ≤ blocks (map_of st)

pub record Lawful (st : State) : Type 0 where
  pub edition : known_edition st.edition ≡ true
  pub nonzero : has_zero (map_of st) ≡ false
  pub entries : st.entries ≤ max_entries
  pub blocks : blocks (map_of st) ≤ max_blocks
  pub length : st.length ≤ max_length
  pub total : bytes (map_of st) ≡ st.length
  pub attributes : attributes_fault st.edition st.attributes ≡ false
  pub protected : InsideMap st

pub lawful : (st : State) → unlawful st ≡ false → Lawful st
unfolding unlawful
lawful st e =
    let k = any-passed (not (known_edition st.edition)) _ e in
    let a = any-passed (has_zero (map_of st)) _ k.1 in
    let b = any-passed (size_fault st.entries (map_of st) st.length) _ a.1 in
    let c = any-passed (attributes_fault st.edition st.attributes) _ b.1 in
    let d = any-passed (base_fault st.attributes st.base) _ c.1 in
    let z = any-passed (not (all_zero (drop (2 * st.entries) st.map))) _ d.1 in
    let p = any-passed (ltb (blocks (map_of st)) st.protected) _ z.1 in
    let s = size_passed st.entries (map_of st) st.length b.0 in
    record {
      edition = not-false _ k.0;
      nonzero = a.0;
      entries = s.few_entries;
      blocks = s.few_blocks;
      length = s.short;
      total = s.total;
      attributes = c.0;
      protected = ltb-false (blocks (map_of st)) st.protected p.0;
    }

-- rule 111 as a state's parts are tested: the edition; the map at once, by 106 and 107 and with the first protected block; then the attributes, the base and
-- the words beyond the entries
pub unlawful_is : (st : State)
    → unlawful st
    ≡ (not (known_edition st.edition) || ((has_zero (map_of st) || (size_fault st.entries (map_of st) st.length || ltb (blocks (map_of st)) st.protected))
    || (attributes_fault st.edition st.attributes || (base_fault st.attributes st.base || not (all_zero (drop (2 * st.entries) st.map))))))
unfolding unlawful any
unlawful_is st = go (not (known_edition st.edition)) (has_zero (map_of st)) (size_fault st.entries (map_of st) st.length) (attributes_fault st.edition st.attributes) (base_fault st.attributes st.base) (not (all_zero (drop (2 * st.entries) st.map))) (ltb (blocks (map_of st)) st.protected)
  where
    go : (k h s a b z p : Bool) → (k || (h || (s || (a || (b || (z || (p || false))))))) ≡ (k || ((h || (s || p)) || (a || (b || z))))
    go true h s a b z p = refl
    go false true s a b z p = refl
    go false false true a b z p = refl
    go false false false a b z false = rw (or-false z)
    go false false false a b z true = rw (or-true z, or-true b) (or-true a)

-- the words of a map of 64 words that has room for the entries: their number, and what a test of them says of the state
module _ (st : State) (whole : length st.map ≡ 64) (room : st.entries ≤ max_entries) {w : List ℕ} (e : w ≡ map_of st) where
  pub words_long : length w ≡ 2 * st.entries
  unfolding map_of
  words_long = rw (e, length-take-le (2 * st.entries) st.map (omega arith))

  pub words_tested : {t : Bool} → t ≡ (has_zero w || (size_fault (length w / 2) w st.length || ltb (blocks w) st.protected))
      → t ≡ (has_zero (map_of st) || (size_fault st.entries (map_of st) st.length || ltb (blocks (map_of st)) st.protected))
  words_tested h = let n : length w / 2 ≡ st.entries = omega (arith, words_long) in rw (n, e) at h

-- and the words behind them are all that is left
pub rest_whole : (st : State) → length st.map ≡ 64 → all_zero (take (64 - 2 * st.entries) (drop (2 * st.entries) st.map)) ≡ all_zero (drop (2 * st.entries) st.map)
rest_whole st whole = ap all_zero (take_all (64 - 2 * st.entries) (drop (2 * st.entries) st.map) (rw length-drop (omega arith)))

-- the same of a map as it is lent: the first words of an array of 64
module _ (st : State) (k : Lawful st) where
  pub lent_bytes : bytes (take (2 * st.entries) st.map) ≤ max_length
  unfolding map_of
  lent_bytes = omega (arith, k.length, k.total)

  pub lent_within : (n : ℕ) → st.length ≤ n → bytes (take (2 * st.entries) st.map) ≤ n
  unfolding map_of
  lent_within n h = omega (arith, k.total)
