-- The order of the sections on the walk: two walks in a row, and a holder before its children.
use Prim.Native.Nat.{ℕ, suc, ◌+◌, ◌<◌}
use mathlib.Core.Path.{◌≡◌, refl, ap, ◌∙◌}
use mathlib.Core.List.{List, ◌∷◌, ◌++◌}
use mathlib.Core.Option.{none}
use native.Mathlib.Omega.{arith}
use lib.ListN.{length}
use Rattle.sections.specs.Header.{head_at}
use Rattle.sections.specs.Walk.{Trace, done, fault, section, and_then, part, after_padding, walk}
use Rattle.sections.specs.Search.{Section, sections, first_fault}
use Rattle.sections.specs.Header.{Open}
use Rattle.sections.specs.declared.header.Mode.{Mode}
use Rattle.sections.proofs.walk.Starts.{walk_from, walk_open}

-- the sections and the fault of two walks in a row, where the first has no fault
pub sections_then : (x u : Trace) → first_fault x ≡ none → sections (and_then x u) ≡ sections x ++ sections u
unfolding first_fault sections and_then
sections_then done u p = refl
sections_then (fault n _ _) u p = let z : ◌≡◌ {A = ℕ} 0 1 = cc in absurd (omega arith)
sections_then (section t f e rest) u p = ap (λ (l : List Section). record { section_type = t; first = f; end = e } ∷ l) (sections_then rest u p)

pub fault_then : (x u : Trace) → first_fault x ≡ none → first_fault (and_then x u) ≡ first_fault u
unfolding first_fault and_then
fault_then done u p = refl
fault_then (fault n _ _) u p = let z : ◌≡◌ {A = ℕ} 0 1 = cc in absurd (omega arith)
fault_then (section t f e rest) u p = fault_then rest u p

module _ (mode : Mode) where
  -- a holder stands before its children, and they before all that follows the holder
  pub holder_first : (n : ℕ) (s : List ℕ) (base at : ℕ) {t first f e : ℕ} → at < length s → head_at mode s at ≡ Open t first f e
      → first_fault (walk mode n (part f e s) (base + f)) ≡ none
      → sections (walk_from mode (suc n) s base at)
      ≡ record { section_type = t; first = base + first; end = base + e }
      ∷ (sections (walk mode n (part f e s) (base + f)) ++ sections (after_padding s base e (walk_from mode (suc n) s base)))
  unfolding sections
  holder_first n s base at {t} {first} {f} {e} h p q =
      ap sections (walk_open mode n s base at h p)
      ∙ ap (λ (l : List Section). record { section_type = t; first = base + first; end = base + e } ∷ l)
      (sections_then (walk mode n (part f e s) (base + f)) (after_padding s base e (walk_from mode (suc n) s base)) q)
