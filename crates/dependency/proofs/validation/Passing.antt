-- Kinds on the stack: what an opcode that passes the test says of them.
use Prim.Native.Nat.{ℕ, ◌≤◌}
use mathlib.Core.Path.{◌≡◌, refl, sym, ap, ap₂, ◌∙◌}
use mathlib.Core.Bool.{Bool, true, false, cond, not, ◌&&◌, true≢false}
use mathlib.Core.List.{List, [], ◌∷◌, ◌++◌}
use mathlib.Core.Option.{Option, none, some, some-ne-none}
use borrow.Author.Tests.{ltb-false, le-ltb, not-false}
use lib.ListN.{length, take, drop, take-append-drop}
use Rattle.common.specs.Refusals.{first_refusal, unless_refused}
use Rattle.common.proofs.Refusals.{row-passed, row_passes, no_row}
use Rattle.dependency.specs.Opcodes.{Kind, version, truth}
use Rattle.dependency.specs.Validation.{stack_limit, kinds_after, same_kind, on_top, stack_refusals, is_one_truth}

pub both : (a b : Bool) → (a && b) ≡ true → (a ≡ true) × (b ≡ true)
both true b e = (refl, e)
both false b e = absurd (true≢false (sym e))

pub same_kind_lem : (k x : Kind) → same_kind k x ≡ true → x ≡ k
same_kind_lem version version e = refl
same_kind_lem version truth e = absurd (true≢false (sym e))
same_kind_lem truth version e = absurd (true≢false (sym e))
same_kind_lem truth truth e = refl

kind_same : (k : Kind) → same_kind k k ≡ true
kind_same version = refl
kind_same truth = refl

-- the kinds asked for are on top, as a list
pub on_top_lem : (asked ks : List Kind) → on_top asked ks ≡ true → take (length asked) ks ≡ asked
unfolding on_top
on_top_lem [] ks e = refl
on_top_lem (k ∷ asked) [] e = absurd (true≢false (sym e))
on_top_lem (k ∷ asked) (x ∷ ks) e =
    let p = both (same_kind k x) (on_top asked ks) e in
    ap₂ (λ (a : Kind) (b : List Kind). a ∷ b) (same_kind_lem k x p.0) (on_top_lem asked ks p.1)

pub top_on : (asked rest : List Kind) → on_top asked (asked ++ rest) ≡ true
unfolding on_top
top_on [] rest = refl
top_on (k ∷ asked) rest = rw (kind_same k) (top_on asked rest)

pub on_top_of : (asked ks : List Kind) → take (length asked) ks ≡ asked → on_top asked ks ≡ true
on_top_of asked ks e = let n = length asked in ap (on_top asked) (sym (take-append-drop n ks) ∙ ap (λ (l : List Kind). l ++ drop n ks) e) ∙ top_on asked (drop n ks)

pub not-on_top : (asked ks : List Kind) → (take (length asked) ks ≡ asked → ⊥) → on_top asked ks ≡ false
not-on_top asked ks n = go (on_top asked ks) refl
  where
    go : (b : Bool) → on_top asked ks ≡ b → b ≡ false
    go true q = absurd (n (on_top_lem asked ks q))
    go false q = refl

-- ---- an opcode that passes: enough on the stack, of the kinds asked for, and within the limit

pub record Passes (takes : List Kind) (leaves : Option Kind) (ks : List Kind) : Type 0 where
  pub enough : length takes ≤ length ks
  pub within : length (kinds_after takes leaves ks) ≤ stack_limit
  pub asked : on_top takes ks ≡ true

pub passes : (takes : List Kind) (leaves : Option Kind) (ks : List Kind) → first_refusal (stack_refusals takes leaves ks) ≡ none → Passes takes leaves ks
unfolding stack_refusals
passes takes leaves ks e =
    let a = row-passed _ _ e in
    let b = row-passed _ _ a.1 in
    let d = row-passed _ _ b.1 in
    record { enough = ltb-false _ _ a.0; within = ltb-false _ _ b.0; asked = not-false _ d.0 }

pub passing : (takes : List Kind) (leaves : Option Kind) (ks : List Kind) → Passes takes leaves ks → first_refusal (stack_refusals takes leaves ks) ≡ none
unfolding stack_refusals
passing takes leaves ks p =
    row_passes _ _ _ _ (le-ltb _ _ p.enough)
    (row_passes _ _ _ _ (le-ltb _ _ p.within)
    (row_passes _ _ _ _ (ap not p.asked) no_row))

-- a first answer that refuses nothing leaves the second
pub none_then : (a b : Option ℕ) → unless_refused some a b ≡ none → (a ≡ none) × (b ≡ none)
none_then none b e = (refl, e)
none_then (some n) b e = absurd (some-ne-none n e)

-- ---- the end

pub passed_or : (t : Bool) (n : ℕ) → cond t none (some n) ≡ none → t ≡ true
passed_or true n e = refl
passed_or false n e = absurd (some-ne-none n e)

pub one_truth : (ks : List Kind) → is_one_truth ks ≡ true → ks ≡ truth ∷ []
one_truth [] e = absurd (true≢false (sym e))
one_truth (version ∷ ks) e = absurd (true≢false (sym e))
one_truth (truth ∷ []) e = refl
one_truth (truth ∷ y ∷ ks) e = absurd (true≢false (sym e))

pub truth_one : (ks : List Kind) → ks ≡ truth ∷ [] → is_one_truth ks ≡ true
truth_one ks e = rw e
