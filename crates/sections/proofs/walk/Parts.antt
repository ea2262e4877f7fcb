-- The bytes of a part of a stream, such as a holder's contents: those of the stream, and none past its end.
use Prim.Native.Nat.{ℕ, ◌+◌, ◌-◌, ◌≤◌, ◌<◌}
use mathlib.Core.Path.{◌≡◌, refl, sym, ◌∙◌}
use mathlib.Core.Bool.{Bool, true, false}
use mathlib.Core.List.{List}
use mathlib.Core.Logic.{◌⊎◌, inl, inr}
use native.Mathlib.Omega.{arith}
use borrow.Author.Tests.{ltb-true, ltb-false}
use lib.Dec.{ltb}
use lib.ListN.{get_or, drop, length-take, get_or-eq_default}
use lib.Seq.{get_or-take, get_or-drop}
use Rattle.sections.specs.Walk.{part}

module _ (f e : ℕ) (s : List ℕ) (j : ℕ) where
  pub part_in : j < e - f → get_or (part f e s) j 0 ≡ get_or s (f + j) 0
  part_in low = get_or-take (e - f) (drop f s) j 0 low ∙ get_or-drop f s j 0

  part_past : e - f ≤ j → get_or (part f e s) j 0 ≡ 0
  part_past past = get_or-eq_default (part f e s) 0 {n = j} (simp length-take (omega arith))

  pub part_byte : (get_or (part f e s) j 0 ≡ get_or s (f + j) 0) ⊎ (get_or (part f e s) j 0 ≡ 0)
  part_byte = go (ltb j (e - f)) refl
    where
      go : (b : Bool) → ltb j (e - f) ≡ b → (get_or (part f e s) j 0 ≡ get_or s (f + j) 0) ⊎ (get_or (part f e s) j 0 ≡ 0)
      go true c = inl (part_in (ltb-true j (e - f) c))
      go false c = inr (part_past (ltb-false j (e - f) c))

-- two parts are alike at a byte where the streams are
pub parts_alike : (f e : ℕ) (s s' : List ℕ) (j : ℕ) → (j < e - f → get_or s (f + j) 0 ≡ get_or s' (f + j) 0) → get_or (part f e s) j 0 ≡ get_or (part f e s') j 0
parts_alike f e s s' j h = go (ltb j (e - f)) refl
  where
    go : (b : Bool) → ltb j (e - f) ≡ b → get_or (part f e s) j 0 ≡ get_or (part f e s') j 0
    go true c = let low = ltb-true j (e - f) c in part_in f e s j low ∙ h low ∙ sym (part_in f e s' j low)
    go false c = let past = ltb-false j (e - f) c in part_past f e s j past ∙ sym (part_past f e s' j past)
