-- The table of installed firmware: as the code goes through it, what it says of a GUID, and what it does not depend on.
use Prim.Native.Nat.{ℕ, zero, suc, ◌≤◌, ◌<◌}
use mathlib.Core.Path.{◌≡◌, refl, sym, ap, ap₂, fun_ext, ◌∙◌}
use mathlib.Core.Bool.{Bool, true, false, cond, ◌&&◌, true≢false}
use mathlib.Core.List.{List, [], ◌∷◌}
use mathlib.Core.Option.{Option, none, some, none-ne-some}
use native.Mathlib.Omega.{arith}
use borrow.Author.Tests.{eq-eqb, eqb-true}
use lib.Dec.{eqb}
use lib.Pointwise.{pointwise}
use lib.ListN.{length, get_or, take}
use lib.Seq.{get_or-take, length-take-le}
use Rattle.dependency.specs.Installed.{same, first_with, installed_in}
use Rattle.dependency.proofs.validation.Passing.{both}

-- ---- the code's search

-- `==` of byte strings
bytes_same : (a b : List ℕ) → pointwise eqb a b ≡ same a b
unfolding same
bytes_same [] [] = refl
bytes_same [] (y ∷ b) = refl
bytes_same (x ∷ a) [] = refl
bytes_same (x ∷ a) (y ∷ b) = ap (λ (t : Bool). eqb x y && t) (bytes_same a b)

-- the rows and versions left say what all of them say
module _ (rows : List (List ℕ)) (versions guid : List ℕ) (whole : Option ℕ) (left : first_with rows versions guid ≡ whole) where
  pub no_row : length rows ≡ 0 → none ≡ whole
  unfolding first_with
  no_row e = go rows e left
    where
      go : (rows : List (List ℕ)) → length rows ≡ 0 → first_with rows versions guid ≡ whole → none ≡ whole
      go [] e w = w
      go (r ∷ rows) e w = absurd (omega arith)

  pub no_version : length versions ≡ 0 → none ≡ whole
  unfolding first_with
  no_version e = go rows versions e left
    where
      go : (rows : List (List ℕ)) (versions : List ℕ) → length versions ≡ 0 → first_with rows versions guid ≡ whole → none ≡ whole
      go [] versions e w = w
      go (r ∷ rows) [] e w = w
      go (r ∷ rows) (v ∷ versions) e w = absurd (omega arith)

  module _ (r : List ℕ) (rest : List (List ℕ)) (v : ℕ) (more : List ℕ) (er : rows ≡ r ∷ rest) (ev : versions ≡ v ∷ more) where
    at_row : (b : Bool) → pointwise eqb r guid ≡ b → cond b (some v) (first_with rest more guid) ≡ whole
    unfolding first_with
    at_row b e = rw (← e, bytes_same r guid) (rw (er, ev) at left)

    pub row_hit : pointwise eqb r guid ≡ true → some v ≡ whole
    row_hit = at_row true

    pub row_next : pointwise eqb r guid ≡ false → first_with rest more guid ≡ whole
    row_next = at_row false

-- ---- what the table says of a GUID

-- two byte strings are the same exactly where they are equal
pub same_equal : (a b : List ℕ) → same a b ≡ true → a ≡ b
unfolding same
same_equal [] [] e = refl
same_equal [] (y ∷ b) e = absurd (true≢false (sym e))
same_equal (x ∷ a) [] e = absurd (true≢false (sym e))
same_equal (x ∷ a) (y ∷ b) e =
    let p = both (eqb x y) (same a b) e in
    ap₂ (λ (h : ℕ) (t : List ℕ). h ∷ t) (eqb-true x y p.0) (same_equal a b p.1)

pub equal_same : (a : List ℕ) → same a a ≡ true
unfolding same
equal_same [] = refl
equal_same (x ∷ a) = rw (eq-eqb x x refl) (equal_same a)

not_same : (a b : List ℕ) → (a ≡ b → ⊥) → same a b ≡ false
not_same a b n = go (same a b) refl
  where
    go : (x : Bool) → same a b ≡ x → x ≡ false
    go true q = absurd (n (same_equal a b q))
    go false q = refl

-- the first row that is the GUID counts
first_at : (rows : List (List ℕ)) (versions : List ℕ) (guid : List ℕ) (i : ℕ) → i < length rows → i < length versions
    → ((j : ℕ) → j < i → same (get_or rows j []) guid ≡ false) → same (get_or rows i []) guid ≡ true → first_with rows versions guid ≡ some (get_or versions i 0)
unfolding first_with
first_at [] versions guid i h v before e = absurd (omega arith)
first_at (r ∷ rows) [] guid i h v before e = absurd (omega arith)
first_at (r ∷ rows) (v ∷ versions) guid zero h l before e = rw e
first_at (r ∷ rows) (v ∷ versions) guid (suc i) h l before e = rw (before 0 (omega arith)) (first_at rows versions guid i (omega arith) (omega arith) (λ j q. before (suc j) (omega arith)) e)

-- some row is the GUID
some_found : (rows : List (List ℕ)) (versions : List ℕ) (guid : List ℕ) (i : ℕ) → i < length rows → i < length versions → get_or rows i [] ≡ guid
    → (v : ℕ) × (first_with rows versions guid ≡ some v)
unfolding first_with
some_found [] versions guid i h l e = absurd (omega arith)
some_found (r ∷ rows) [] guid i h l e = absurd (omega arith)
some_found (r ∷ rows) (v ∷ versions) guid i h l e = go (same r guid) refl i h l e (some_found rows versions guid)
  where
    go : (b : Bool) → same r guid ≡ b → (i : ℕ) → i < suc (length rows) → i < suc (length versions) → get_or (r ∷ rows) i [] ≡ guid
        → ((k : ℕ) → k < length rows → k < length versions → get_or rows k [] ≡ guid → (w : ℕ) × (first_with rows versions guid ≡ some w))
        → (w : ℕ) × (cond b (some v) (first_with rows versions guid) ≡ some w)
    go true p i h l e ih = (v, refl)
    go false p zero h l e ih = absurd (true≢false (sym (equal_same guid) ∙ ap (λ (x : List ℕ). same x guid) (sym e) ∙ p))
    go false p (suc i) h l e ih = ih i (omega arith) (omega arith) e

-- no row is the GUID
none_at : (rows : List (List ℕ)) (versions : List ℕ) (guid : List ℕ) → ((j : ℕ) → j < length rows → same (get_or rows j []) guid ≡ false) → first_with rows versions guid ≡ none
unfolding first_with
none_at [] versions guid other = refl
none_at (r ∷ rows) [] guid other = refl
none_at (r ∷ rows) (v ∷ versions) guid other = rw (other 0 (omega arith)) (none_at rows versions guid (λ j h. other (suc j) (omega arith)))

module _ (rows : List (List ℕ)) (versions : List ℕ) (used : ℕ) (guid : List ℕ) (l : used ≤ length rows) where
  taken : (j : ℕ) → j < used → get_or (take used rows) j [] ≡ get_or rows j []
  taken j h = get_or-take used rows j [] h

  pub first_row : (i : ℕ) → i < used → i < length versions → get_or rows i [] ≡ guid → ((j : ℕ) → j < i → get_or rows j [] ≡ guid → ⊥)
      → installed_in rows versions used guid ≡ some (get_or versions i 0)
  unfolding installed_in
  first_row i h v e before =
      let long = length-take-le used rows l in
      first_at (take used rows) versions guid i (omega arith) v
      (λ j q. rw (taken j (omega arith)) (not_same _ _ (before j q)))
      (rw (taken i h, e) (equal_same guid))

  pub no_used_row : ((j : ℕ) → j < used → get_or rows j [] ≡ guid → ⊥) → installed_in rows versions used guid ≡ none
  unfolding installed_in
  no_used_row other =
      let long = length-take-le used rows l in
      none_at (take used rows) versions guid (λ j q. rw (taken j (omega arith)) (not_same _ _ (other j (omega arith))))

-- where a GUID has a version, it is in a used row
some_at : (rows : List (List ℕ)) (versions : List ℕ) (guid : List ℕ) (v : ℕ) → first_with rows versions guid ≡ some v → (i : ℕ) × (i < length rows) × (get_or rows i [] ≡ guid)
unfolding first_with
some_at [] versions guid v e = absurd (none-ne-some v e)
some_at (r ∷ rows) [] guid v e = absurd (none-ne-some v e)
some_at (r ∷ rows) (w ∷ versions) guid v e = go (same r guid) refl e (some_at rows versions guid v)
  where
    go : (b : Bool) → same r guid ≡ b → cond b (some w) (first_with rows versions guid) ≡ some v
        → (first_with rows versions guid ≡ some v → (i : ℕ) × (i < length rows) × (get_or rows i [] ≡ guid))
        → (i : ℕ) × (i < suc (length rows)) × (get_or (r ∷ rows) i [] ≡ guid)
    go true p q ih = (0, omega arith, same_equal r guid p)
    go false p q ih = let t = ih q in (suc t.0, omega (arith, t.1), t.2)

pub first_of : (rows : List (List ℕ)) (versions : List ℕ) (used : ℕ) (guid : List ℕ) → used ≤ length rows → (v : ℕ) → installed_in rows versions used guid ≡ some v
    → (i : ℕ) × (i < used) × (get_or rows i [] ≡ guid)
unfolding installed_in
first_of rows versions used guid l v e =
    let t = some_at (take used rows) versions guid v e in
    let long = length-take-le used rows l in
    let h : t.0 < used = omega (arith, t.1) in
    (t.0, h, sym (get_or-take used rows t.0 [] h) ∙ t.2)

-- and a GUID in a used row has one
pub used_row : (rows : List (List ℕ)) (versions : List ℕ) (used : ℕ) (guid : List ℕ) → used ≤ length rows → used ≤ length versions → (i : ℕ) → i < used → get_or rows i [] ≡ guid
    → (v : ℕ) × (installed_in rows versions used guid ≡ some v)
unfolding installed_in
used_row rows versions used guid l m i h e =
    let long = length-take-le used rows l in
    some_found (take used rows) versions guid i (omega arith) (omega arith) (get_or-take used rows i [] h ∙ e)

-- no row and no version past the used number matters
used_versions : (rows : List (List ℕ)) (versions : List ℕ) (n : ℕ) (guid : List ℕ) → length rows ≤ n → first_with rows (take n versions) guid ≡ first_with rows versions guid
unfolding first_with
used_versions [] versions n guid h = refl
used_versions (r ∷ rows) [] zero guid h = refl
used_versions (r ∷ rows) [] (suc n) guid h = refl
used_versions (r ∷ rows) (v ∷ versions) zero guid h = absurd (omega arith)
used_versions (r ∷ rows) (v ∷ versions) (suc n) guid h = ap (cond (same r guid) (some v)) (used_versions rows versions n guid (omega arith))

taken-length : (n : ℕ) (rows : List (List ℕ)) → length (take n rows) ≤ n
taken-length zero rows = omega arith
taken-length (suc n) [] = omega arith
taken-length (suc n) (r ∷ rows) = let h = taken-length n rows in omega arith

pub unused_rows : (rows others : List (List ℕ)) (versions more : List ℕ) (used : ℕ) → take used rows ≡ take used others → take used versions ≡ take used more
    → installed_in rows versions used ≡ installed_in others more used
unfolding installed_in
unused_rows rows others versions more used e q =
    fun_ext (λ guid.
    sym (used_versions (take used rows) versions used guid (taken-length used rows))
    ∙ ap₂ (λ (a : List (List ℕ)) (b : List ℕ). first_with a b guid) e q
    ∙ used_versions (take used others) more used guid (taken-length used others))
