-- Laws of refusal tables: what a passed table says of its rows, and a table made of two.
use Prim.Native.Nat.{ℕ}
use mathlib.Core.Path.{◌≡◌, refl, sym, ap, subst, ◌∙◌}
use mathlib.Core.Bool.{Bool, true, false, cond, ◌||◌, or_assoc, true≢false}
use mathlib.Core.List.{List, [], ◌∷◌, ◌++◌}
use mathlib.Core.Option.{Option, none, some, some-ne-none, none-ne-some}
use Rattle.common.specs.Refusals.{Row, row, first_refusal, any}

-- a table whose rows all pass: its first row's test is false, and the others pass
pub row-passed : (r : Row) (rest : List Row) → first_refusal (r ∷ rest) ≡ none → (r.test ≡ false) × (first_refusal rest ≡ none)
unfolding first_refusal
row-passed r rest = go r.test
  where
    go : (t : Bool) → cond t (some r.number) (first_refusal rest) ≡ none → (t ≡ false) × (first_refusal rest ≡ none)
    go true e = absurd (some-ne-none r.number e)
    go false e = (refl, e)

-- a table made of two: the second counts where the first passes
pub then_passed : (a b : List Row) → first_refusal a ≡ none → first_refusal (a ++ b) ≡ first_refusal b
unfolding first_refusal
then_passed [] b e = refl
then_passed (r ∷ rest) b e = let p = row-passed r rest e in rw p.0 (then_passed rest b p.1)

pub then_refused : (a b : List Row) (n : ℕ) → first_refusal a ≡ some n → first_refusal (a ++ b) ≡ some n
unfolding first_refusal
then_refused [] b n e = absurd (none-ne-some n e)
then_refused (r ∷ rest) b n e = go r.test (then_refused rest b n) e
  where
    go : (t : Bool) → (first_refusal rest ≡ some n → first_refusal (rest ++ b) ≡ some n)
        → cond t (some r.number) (first_refusal rest) ≡ some n → cond t (some r.number) (first_refusal (rest ++ b)) ≡ some n
    go true ih e = e
    go false ih e = ih e

pub front_passed : (a b : List Row) → first_refusal (a ++ b) ≡ none → first_refusal a ≡ none
unfolding first_refusal
front_passed [] b e = refl
front_passed (r ∷ rest) b e = let p = row-passed r (rest ++ b) e in rw p.0 (front_passed rest b p.1)

-- of two tests neither holds
pub neither : (a b : Bool) → (a || b) ≡ false → (a ≡ false) × (b ≡ false)
neither true b e = absurd (true≢false e)
neither false b e = (refl, e)

-- where no test of a list holds, its first does not, and none of the others
pub any-passed : (t : Bool) (rest : List Bool) → any (t ∷ rest) ≡ false → (t ≡ false) × (any rest ≡ false)
unfolding any
any-passed t rest e = neither t (any rest) e

-- the tests of two lists
pub any_append : (a b : List Bool) → any (a ++ b) ≡ (any a || any b)
unfolding any
any_append [] b = refl
any_append (t ∷ rest) b = ap (λ (x : Bool). t || x) (any_append rest b) ∙ sym (or_assoc t (any rest) (any b))

-- a table's first row applies, or the table is that of the rows after it
pub row_applies : (t : Bool) (n : ℕ) (rest : List Row) → t ≡ true → first_refusal (row t n ∷ rest) ≡ some n
unfolding first_refusal
row_applies t n rest e = rw e

pub row_passes : (t : Bool) (n : ℕ) (rest : List Row) (o : Option ℕ) → t ≡ false → first_refusal rest ≡ o → first_refusal (row t n ∷ rest) ≡ o
unfolding first_refusal
row_passes t n rest o e q = rw e q

-- a last row that applies only where the one before it does never speaks
pub idle_row : (a : List Row) (t u : Bool) (n m : ℕ) → (t ≡ false → u ≡ false) → first_refusal (a ++ (row t n ∷ row u m ∷ [])) ≡ first_refusal (a ++ (row t n ∷ []))
unfolding first_refusal
idle_row [] true u n m h = refl
idle_row [] false u n m h = rw (h refl)
idle_row (r ∷ rest) t u n m h = rw (idle_row rest t u n m h)

pub no_row : first_refusal [] ≡ none
unfolding first_refusal
no_row = refl

-- what holds of the number of every row of a table holds of the number that it refuses with
abbrev pub AllNumbers : (ℕ → Type 0) → List Row → Type 0
AllNumbers P [] = Unit {0}
AllNumbers P (r ∷ rest) = P r.number × AllNumbers P rest

pub refusal_number : (P : ℕ → Type 0) (rows : List Row) → AllNumbers P rows → (n : ℕ) → first_refusal rows ≡ some n → P n
unfolding first_refusal
refusal_number P [] all n e = absurd (none-ne-some n e)
refusal_number P (r ∷ rest) all n e = go r.test (refusal_number P rest all.1 n) e
  where
    go : (t : Bool) → (first_refusal rest ≡ some n → P n) → cond t (some r.number) (first_refusal rest) ≡ some n → P n
    go true later e = let z : r.number ≡ n = cc in subst P z all.0
    go false later e = later e
