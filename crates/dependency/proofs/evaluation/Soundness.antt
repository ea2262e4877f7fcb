-- The test and the evaluation: the kinds of the stack's values are those that the test follows, so what passes the test is evaluated soundly, with any installed
-- firmware; and the reverse.
use Prim.Native.Nat.{ℕ, zero, suc}
use mathlib.Core.Path.{◌≡◌, refl, sym, ap, ap₂, ◌∙◌}
use mathlib.Core.List.{List, [], ◌∷◌, ◌++◌, map}
use mathlib.Core.Option.{Option, none, some, some-ne-none}
use lib.ListN.{length, take, drop, length-map}
use Rattle.common.specs.Refusals.{first_refusal}
use Rattle.dependency.specs.Opcodes.{Kind, version, truth, Installed, Result, OpcodeRow}
use Rattle.dependency.specs.Expression.{Reading, fault, ended, next, Ends}
use Rattle.dependency.specs.Validation.{result_kinds, kinds_after, stack_refusals, is_one_truth, fault_from}
use Rattle.dependency.specs.Evaluation.{Cell, kind_of, kinds, applied, cell_of, result_cells, step, run, Sound, Soundly}
use Rattle.dependency.proofs.validation.Passing.{on_top_lem, on_top_of, Passes, passes, passing, none_then, passed_or, one_truth, truth_one}

-- ---- lists

map-take : {A B : Type 0} (f : A → B) (n : ℕ) (l : List A) → map f (take n l) ≡ take n (map f l)
map-take f zero l = refl
map-take f (suc n) [] = refl
map-take f (suc n) (x ∷ l) = ap (λ r. f x ∷ r) (map-take f n l)

map-drop : {A B : Type 0} (f : A → B) (n : ℕ) (l : List A) → map f (drop n l) ≡ drop n (map f l)
map-drop f zero l = refl
map-drop f (suc n) [] = refl
map-drop f (suc n) (x ∷ l) = map-drop f n l

map-joined : {A B : Type 0} (f : A → B) (a b : List A) → map f (a ++ b) ≡ map f a ++ map f b
map-joined f [] b = refl
map-joined f (x ∷ a) b = ap (λ r. f x ∷ r) (map-joined f a b)

-- ---- a step

left_kinds : (l : Option Kind) (v : Result l) → kinds (result_cells l v) ≡ result_kinds l
unfolding result_cells cell_of
left_kinds none v = refl
left_kinds (some version) v = refl
left_kinds (some truth) v = refl

-- the kinds after a step are those that the test follows, whatever the values
pub step-kinds : (installed : Installed) (o : OpcodeRow) (operand : List ℕ) (st : List Cell) → kinds (step installed o operand st) ≡ kinds_after o.takes o.leaves (kinds st)
unfolding step kinds_after
step-kinds installed o operand st =
    map-joined kind_of (result_cells o.leaves (applied o.takes (o.meaning installed operand) st)) (drop (length o.takes) st)
    ∙ ap₂ (λ (a b : List Kind). a ++ b) (left_kinds o.leaves (applied o.takes (o.meaning installed operand) st)) (map-drop kind_of (length o.takes) st)

sound-step : (installed : Installed) (o : OpcodeRow) (operand : List ℕ) (st : List Cell)
    → Passes o.takes o.leaves (kinds st) → Sound o st (step installed o operand st)
sound-step installed o operand st p =
    record {
      enough = rw (← length-map st kind_of) p.enough;
      asked = map-take kind_of (length o.takes) st ∙ on_top_lem o.takes (kinds st) p.asked;
      within = rw (← length-map (step installed o operand st) kind_of, step-kinds installed o operand st) p.within;
    }

-- ---- the whole

-- what passes the test from the kinds of a stack is evaluated soundly from that stack
pub tested_sound : (installed : Installed) (r : Reading) (st : List Cell) → fault_from r (kinds st) ≡ none → Soundly installed r st
unfolding fault_from Soundly
tested_sound installed (fault n) st e = some-ne-none n e
tested_sound installed ended st e = one_truth (kinds st) (passed_or (is_one_truth (kinds st)) 305 e)
tested_sound installed (next o operand rest) st e =
    let p = none_then (first_refusal (stack_refusals o.takes o.leaves (kinds st))) (fault_from rest (kinds_after o.takes o.leaves (kinds st))) e in (
      sound-step installed o operand st (passes o.takes o.leaves (kinds st) p.0),
      tested_sound installed rest (step installed o operand st) (rw (step-kinds installed o operand st) p.1),
    )

-- and the reverse
sound_passes : (installed : Installed) (o : OpcodeRow) (operand : List ℕ) (st : List Cell)
    → Sound o st (step installed o operand st) → Passes o.takes o.leaves (kinds st)
sound_passes installed o operand st s =
    record {
      enough = rw (length-map st kind_of) s.enough;
      within = rw (← step-kinds installed o operand st, length-map (step installed o operand st) kind_of) s.within;
      asked = on_top_of o.takes (kinds st) (sym (map-take kind_of (length o.takes) st) ∙ s.asked);
    }

pub sound_tested : (installed : Installed) (r : Reading) (st : List Cell) → Soundly installed r st → fault_from r (kinds st) ≡ none
unfolding fault_from Soundly
sound_tested installed (fault n) st s = absurd s
sound_tested installed ended st s = rw (truth_one (kinds st) s)
sound_tested installed (next o operand rest) st s =
    rw (passing o.takes o.leaves (kinds st) (sound_passes installed o operand st s.0), ← step-kinds installed o operand st)
    (sound_tested installed rest (step installed o operand st) s.1)

-- a sound evaluation ends with one truth
pub sound_end : (installed : Installed) (r : Reading) (st : List Cell) → Soundly installed r st → kinds (run installed r st) ≡ truth ∷ []
unfolding Soundly run
sound_end installed (fault n) st s = absurd s
sound_end installed ended st s = s
sound_end installed (next o operand rest) st s = sound_end installed rest (step installed o operand st) s.1

-- what passes the test has an end
pub tested_ends : (r : Reading) (ks : List Kind) → fault_from r ks ≡ none → Ends r
unfolding fault_from Ends
tested_ends (fault n) ks e = some-ne-none n e
tested_ends ended ks e = tt
tested_ends (next o operand rest) ks e =
    tested_ends rest (kinds_after o.takes o.leaves ks)
    (none_then (first_refusal (stack_refusals o.takes o.leaves ks)) (fault_from rest (kinds_after o.takes o.leaves ks)) e).1
