-- The kinds on the stack as a number: what each shape of opcode makes of them.
use Prim.Native.Nat.{ℕ, zero, suc, ◌+◌, ◌-◌, ◌*◌, ◌/◌, ◌%◌, ◌^◌, ◌≤◌, ◌<◌}
use mathlib.Core.Path.{◌≡◌, refl, sym, ap, ap₂, ◌∙◌}
use mathlib.Core.Bool.{Bool, true, false, not, ◌&&◌, and-true}
use mathlib.Core.List.{List, [], ◌∷◌}
use mathlib.Core.Option.{Option, none, some}
use native.Mathlib.Numerals.{add-one}
use native.Mathlib.Nat.{pow-suc}
use native.Mathlib.Omega.{arith}
use borrow.Author.Tests.{lt-ltb, le-ltb, eqb-true, eqb-false, eq-eqb, ne_eqb}
use lib.Dec.{eqb, lit<}
use lib.ListN.{length, drop, length-drop}
use Rattle.common.specs.Refusals.{first_refusal}
use Rattle.common.proofs.Refusals.{row_applies, row_passes}
use Rattle.dependency.specs.Opcodes.{Kind, version, truth}
use Rattle.common.specs.Answers.{refused, success}
use Rattle.dependency.specs.Expression.{ended}
use Rattle.dependency.specs.Validation.{stack_limit, kinds_after, same_kind, on_top, stack_refusals, fault_from, validity}
use Rattle.std.specs.Prelude.{Ok}
use denote.Enum.Declared.{tag_of}
use Rattle.dependency.specs.contracts.validation.Kind.{the_type}
use Rattle.dependency.specs.declared.validation.Kind.{Kind as CodeKind}
use Rattle.dependency.specs.declared.validation.Kind.TheVariants as K
use Rattle.dependency.specs.Stack.{ended_of, value_kind, digit_kind, kinds_of, Follows}
use Rattle.dependency.proofs.validation.Passing.{passing}

-- ---- the rows of the test at one opcode

module _ (takes : List Kind) (leaves : Option Kind) (ks : List Kind) where
  pub short_stack : length ks < length takes → first_refusal (stack_refusals takes leaves ks) ≡ some 303
  unfolding stack_refusals
  short_stack h = row_applies _ _ _ (lt-ltb _ _ h)

  pub full_stack : length takes ≤ length ks → stack_limit < length (kinds_after takes leaves ks) → first_refusal (stack_refusals takes leaves ks) ≡ some 303
  unfolding stack_refusals
  full_stack e h = row_passes _ _ _ _ (le-ltb _ _ e) (row_applies _ _ _ (lt-ltb _ _ h))

  pub wrong_kind : length takes ≤ length ks → length (kinds_after takes leaves ks) ≤ stack_limit → on_top takes ks ≡ false → first_refusal (stack_refusals takes leaves ks) ≡ some 304
  unfolding stack_refusals
  wrong_kind e w o = row_passes _ _ _ _ (le-ltb _ _ e) (row_passes _ _ _ _ (le-ltb _ _ w) (row_applies _ _ _ (ap not o)))

-- ---- digits

pub kinds-length : (d b : ℕ) → length (kinds_of d b) ≡ d
unfolding kinds_of
kinds-length zero b = refl
kinds-length (suc d) b = ap suc (kinds-length d (b / 2))

kinds_push : (d b k : ℕ) → k < 2 → kinds_of (d + 1) (b * 2 + k) ≡ digit_kind k ∷ kinds_of d b
unfolding kinds_of
kinds_push d b k h =
    let low : (b * 2 + k) % 2 ≡ k = omega arith in
    let high : (b * 2 + k) / 2 ≡ b = omega arith in
    rw (add-one d, low, high)

pub kinds_top : (d b : ℕ) → 0 < d → kinds_of d b ≡ digit_kind (b % 2) ∷ kinds_of (d - 1) (b / 2)
unfolding kinds_of
kinds_top zero b h = absurd (omega arith)
kinds_top (suc d) b h = let e : suc d - 1 ≡ d = omega arith in rw e

kinds_two : (d b : ℕ) → 2 ≤ d → kinds_of d b ≡ digit_kind (b % 2) ∷ digit_kind (b / 2 % 2) ∷ kinds_of (d - 2) (b / 4)
kinds_two d b h =
    let e : d - 1 - 1 ≡ d - 2 = omega arith in
    let q : b / 2 / 2 ≡ b / 4 = omega arith in
    kinds_top d b (omega arith)
    ∙ ap (λ (l : List Kind). digit_kind (b % 2) ∷ l) (kinds_top (d - 1) (b / 2) (omega arith) ∙ ap₂ (λ (x y : ℕ). digit_kind (b / 2 % 2) ∷ kinds_of x y) e q)

same_digit : (k a : ℕ) → k < 2 → a < 2 → same_kind (digit_kind k) (digit_kind a) ≡ eqb k a
same_digit zero zero h l = refl
same_digit zero (suc zero) h l = refl
same_digit (suc zero) zero h l = refl
same_digit (suc zero) (suc zero) h l = refl
same_digit zero (suc (suc a)) h l = absurd (omega arith)
same_digit (suc zero) (suc (suc a)) h l = absurd (omega arith)
same_digit (suc (suc k)) a h l = absurd (omega arith)

-- the code's kinds as digits
pub digit_small : (k : CodeKind) → tag_of the_type k < 2
digit_small K.Version = lit< tt
digit_small K.Truth = lit< tt

digit_value : (k : CodeKind) → digit_kind (tag_of the_type k) ≡ value_kind k
digit_value K.Version = refl
digit_value K.Truth = refl

-- ---- the kinds on top, as digits

-- two digits are those of a number below 4
two_digits : (a x : ℕ) → a < 4 → x < 4 → (eqb (a % 2) (x % 2) && (eqb (a / 2 % 2) (x / 2 % 2) && true)) ≡ eqb a x
two_digits a x h l = go (eqb (a % 2) (x % 2)) refl (eqb (a / 2 % 2) (x / 2 % 2)) refl
  where
    go : (p : Bool) → eqb (a % 2) (x % 2) ≡ p → (q : Bool) → eqb (a / 2 % 2) (x / 2 % 2) ≡ q → (p && (q && true)) ≡ eqb a x
    go true e true f = let i = eqb-true _ _ e in let j = eqb-true _ _ f in let same : a ≡ x = omega arith in sym (eq-eqb a x same)
    go false e q f = let i = eqb-false _ _ e in let other : a ≡ x → ⊥ = λ z. i (ap (λ (y : ℕ). y % 2) z) in sym (ne_eqb a x other)
    go true e false f = let j = eqb-false _ _ f in let other : a ≡ x → ⊥ = λ z. j (ap (λ (y : ℕ). y / 2 % 2) z) in sym (ne_eqb a x other)

top_digits : (n a d b : ℕ) → n ≤ 2 → a < 2 ^ n → n ≤ d → on_top (kinds_of n a) (kinds_of d b) ≡ eqb a (b % 2 ^ n)
unfolding on_top kinds_of
top_digits zero a d b t s h = let e : a ≡ 0 = omega arith in let f : b % 1 ≡ 0 = omega arith in rw (e, f)
top_digits (suc zero) a d b t s h =
    let e : a % 2 ≡ a = omega arith in
    rw (kinds_top d b (omega arith), same_digit (a % 2) (b % 2) (omega arith) (omega arith), and-true, e)
top_digits (suc (suc zero)) a d b t s h =
    let low : b % 4 % 2 ≡ b % 2 = omega arith in
    let high : b % 4 / 2 % 2 ≡ b / 2 % 2 = omega arith in
    rw (kinds_two d b h, same_digit (a % 2) (b % 2) (omega arith) (omega arith), same_digit (a / 2 % 2) (b / 2 % 2) (omega arith) (omega arith), ← low, ← high)
    (two_digits a (b % 4) (omega arith) (omega arith))
top_digits (suc (suc (suc n))) a d b t s h = absurd (omega arith)

-- the kinds below are the digits above
below_digits : (n d b : ℕ) → n ≤ 2 → n ≤ d → drop n (kinds_of d b) ≡ kinds_of (d - n) (b / 2 ^ n)
below_digits zero d b t h = let e : d - 0 ≡ d = omega arith in let f : b / 1 ≡ b = omega arith in rw (e, f)
below_digits (suc zero) d b t h = rw (kinds_top d b (omega arith))
below_digits (suc (suc zero)) d b t h = rw (kinds_two d b h)
below_digits (suc (suc (suc n))) d b t h = absurd (omega arith)

-- ---- so many kinds are taken, and one is left

-- a shifted one is the power, as the code has it
pub power : (n : ℕ) → n ≤ 2 → 1 * 2 ^ n % 18446744073709551616 ≡ 2 ^ n
power zero h = refl
power (suc zero) h = refl
power (suc (suc zero)) h = refl
power (suc (suc (suc n))) h = absurd (omega arith)

module _ (n a d b : ℕ) (few : n ≤ 2) (digits : a < 2 ^ n) where
  pub replace_short : (k : Kind) → d < n → first_refusal (stack_refusals (kinds_of n a) (some k) (kinds_of d b)) ≡ some 303
  replace_short k h = let e = kinds-length d b in let f = kinds-length n a in short_stack _ _ _ (omega arith)

  module _ (h : n ≤ d) where
    after-length : (k : Kind) → length (kinds_after (kinds_of n a) (some k) (kinds_of d b)) ≡ d - n + 1
    unfolding kinds_after
    after-length k = let e = kinds-length d b in let f = kinds-length n a in let l = length-drop (length (kinds_of n a)) (kinds_of d b) in omega arith

    pub replace_full : (k : Kind) → 32 ≤ d - n → first_refusal (stack_refusals (kinds_of n a) (some k) (kinds_of d b)) ≡ some 303
    replace_full k w = let e = kinds-length d b in let f = kinds-length n a in let l = after-length k in full_stack _ _ _ (omega arith) (omega arith)

    module _ (w : d - n < 32) where
      pub replace_wrong : (k : Kind) → (b % 2 ^ n ≡ a → ⊥) → first_refusal (stack_refusals (kinds_of n a) (some k) (kinds_of d b)) ≡ some 304
      replace_wrong k other =
          let e = kinds-length d b in
          let f = kinds-length n a in
          let l = after-length k in
          wrong_kind _ _ _ (omega arith) (omega arith) (top_digits n a d b few digits h ∙ ne_eqb a (b % 2 ^ n) (λ z. other (sym z)))

      pub replace_follows : (k : CodeKind) → b % 2 ^ n ≡ a
          → Follows (Ok tt) (kinds_of n a) (some (value_kind k)) (kinds_of d b) (kinds_of (d - n + 1) (b / 2 ^ n * 2 + tag_of the_type k))
      unfolding Follows kinds_after
      replace_follows k same =
          let e = kinds-length d b in
          let f = kinds-length n a in
          let l = after-length (value_kind k) in (
            passing (kinds_of n a) (some (value_kind k)) (kinds_of d b)
                (record { enough = omega arith; within = omega arith; asked = top_digits n a d b few digits h ∙ eq-eqb a (b % 2 ^ n) (sym same) }),
            rw (← digit_value k, f, below_digits n d b few h) (kinds_push (d - n) (b / 2 ^ n) (tag_of the_type k) (digit_small k)),
          )

-- the digits after that are those of a stack so deep
pub replace_small : (n d b k : ℕ) → n ≤ 2 → n ≤ d → b < 2 ^ d → k < 2 → b / 2 ^ n * 2 + k < 2 ^ (d - n + 1)
replace_small zero d b k t h s l = let e : d - 0 + 1 ≡ suc d = omega arith in rw (e, pow-suc 2 d) (omega arith)
replace_small (suc zero) d b k t h s l =
    let e : d - 1 + 1 ≡ suc (d - 1) = omega arith in
    let deep : d ≡ suc (d - 1) = omega arith in
    let small : b < 2 ^ (d - 1) * 2 = rw (deep, pow-suc 2 (d - 1)) at s in
    rw (e, pow-suc 2 (d - 1)) (omega arith)
replace_small (suc (suc zero)) d b k t h s l =
    let e : d - 2 + 1 ≡ suc (d - 2) = omega arith in
    let deep : d ≡ suc (suc (d - 2)) = omega arith in
    let small : b < 2 ^ (d - 2) * 2 * 2 = rw (deep, pow-suc 2 (suc (d - 2)), pow-suc 2 (d - 2)) at s in
    rw (e, pow-suc 2 (d - 2)) (omega arith)
replace_small (suc (suc (suc n))) d b k t h s l = absurd (omega arith)

-- ---- the end

pub end_depth : (d b : ℕ) → (d ≡ 1 → ⊥) → refused 305 ≡ ended_of (kinds_of d b)
unfolding ended_of fault_from kinds_of
end_depth zero b n = refl
end_depth (suc zero) b n = absurd (n refl)
end_depth (suc (suc d)) b n = go (digit_kind (b % 2))
  where
    go : (k : Kind) → refused 305 ≡ validity (fault_from ended (k ∷ kinds_of (suc d) (b / 2)))
    go version = refl
    go truth = refl

pub end_kind : (d b : ℕ) → d ≡ 1 → b < 2 ^ d → (b ≡ 1 → ⊥) → refused 305 ≡ ended_of (kinds_of d b)
unfolding ended_of fault_from kinds_of
end_kind d b e s n = let t : b < 2 = rw e at s in let low : b ≡ 0 = omega arith in rw (e, low)

pub end_passed : (d b : ℕ) → d ≡ 1 → b ≡ 1 → success [] ≡ ended_of (kinds_of d b)
unfolding ended_of fault_from kinds_of
end_passed d b e low = rw (e, low)

-- ---- an opcode that takes and leaves nothing

pub leave_follows : (d b : ℕ) → d ≤ 32 → Follows (Ok tt) [] none (kinds_of d b) (kinds_of d b)
unfolding Follows kinds_after on_top
leave_follows d b w =
    let e = kinds-length d b in
    (passing [] none (kinds_of d b) (record { enough = omega arith; within = omega arith; asked = refl }), refl)
