-- The refusals of appending: each row where it is the first that applies, what the answer and the buffer are by the first row that
-- applies, and what an answer with a used count says of the arguments.
use Prim.Native.Nat.{ℕ, ◌+◌, ◌≤◌, ◌<◌}
use mathlib.Core.Path.{◌≡◌, refl, ◌∙◌}
use mathlib.Core.Bool.{cond, Bool, true, false, not, ◌&&◌}
use mathlib.Core.List.{List, [], ◌∷◌}
use mathlib.Core.Logic.{◌⊎◌, inl, inr}
use mathlib.Core.Option.{Option, none, some}
use native.Mathlib.Omega.{arith}
use borrow.Author.Tests.{lt-ltb, le-ltb, eq-eqb, ne_eqb, ltb-false, le-leb, lt-leb}
use lib.Dec.{ltb, eqb}
use lib.ListN.{length, drop}
use lib.Seq.{sets}
use Rattle.common.specs.Answers.{refused, success, number_of}
use Rattle.common.specs.Refusals.{first_refusal, unless_refused}
use Rattle.common.proofs.Refusals.{row-passed, row_applies, row_passes, no_row}
use Rattle.sections.specs.Types.{compression, guid_defined, type_info}
use Rattle.sections.specs.Header.{is_pi, is_holder, largest_field}
use Rattle.sections.specs.Walk.{stream_limit}
use Rattle.sections.specs.Append.{short_size, used_after, added, append_refusals, append_of, buffer_after, needs_long, leaf_header}
use Rattle.sections.specs.declared.header.Mode.{Mode}
use Rattle.sections.specs.declared.header.Mode.TheVariants.{Framework, Pi}
use Rattle.sections.proofs.types.Rows.{not_holder}
use Rattle.sections.proofs.append.Stores.{least_header, buffer_stored}

-- the answer and the buffer, by the first refusal that applies
pub append-refused : (mode : Mode) (l : List ℕ) (used t : ℕ) (body : List ℕ) {n : ℕ} → first_refusal (append_refusals mode (length l) used t (length body)) ≡ some n
    → (refused n ≡ append_of mode (length l) used t (length body)) × (l ≡ buffer_after mode l used t body)
unfolding append_of buffer_after
append-refused mode l used t body e = (rw e, rw e)

pub append_done : (mode : Mode) (l l' : List ℕ) (used t u : ℕ) (body : List ℕ) → u ≡ used_after mode used (length body) → l' ≡ sets l used (added mode used t body)
    → used_after mode used (length body) ≤ length l → first_refusal (append_refusals mode (length l) used t (length body)) ≡ none
    → (success (u ∷ []) ≡ append_of mode (length l) used t (length body)) × (l' ≡ buffer_after mode l used t body)
unfolding append_of buffer_after
append_done mode l l' used t u body n stored h e = (rw (e, n), rw e (stored ∙ buffer_stored mode l used t body h))

-- a refusal leaves the buffer as it was
pub refused_keeps : (mode : Mode) (l : List ℕ) (used t : ℕ) (body : List ℕ) → (number_of (append_of mode (length l) used t (length body)) ≡ 0 → ⊥)
    → buffer_after mode l used t body ≡ l
unfolding append_of buffer_after number_of
refused_keeps mode l used t body = go (first_refusal (append_refusals mode (length l) used t (length body))) refl
  where
    go : (o : Option ℕ) → first_refusal (append_refusals mode (length l) used t (length body)) ≡ o
        → (number_of (append_of mode (length l) used t (length body)) ≡ 0 → ⊥) → buffer_after mode l used t body ≡ l
    go (some n) e h = rw e
    go none e h = absurd (h (rw e))

-- the refusals, in order: each where it is the first that applies
module _ (mode : Mode) (room used t m : ℕ) where
  pub append-compression : t ≡ compression → first_refusal (append_refusals mode room used t m) ≡ some 2
  unfolding append_refusals
  append-compression h = row_applies _ _ _ (eq-eqb t compression h)

  module _ (p₁ : t ≡ compression → ⊥) where
    pub append_guid : t ≡ guid_defined → first_refusal (append_refusals mode room used t m) ≡ some 2
    unfolding append_refusals
    append_guid h = row_passes _ _ _ _ (ne_eqb t compression p₁) (row_applies _ _ _ (eq-eqb t guid_defined h))

    module _ (p₂ : t ≡ guid_defined → ⊥) where
      -- past the holders
      leaf_rows : (o : Option ℕ) → first_refusal (drop 2 (append_refusals mode room used t m)) ≡ o → first_refusal (append_refusals mode room used t m) ≡ o
      unfolding append_refusals
      leaf_rows o e = row_passes _ _ _ o (ne_eqb t compression p₁) (row_passes _ _ _ o (ne_eqb t guid_defined p₂) e)

      pub append_used : room < used → first_refusal (append_refusals mode room used t m) ≡ some 2
      unfolding append_refusals
      append_used h = leaf_rows _ (row_applies _ _ _ (lt-ltb room used h))

      module _ (p₃ : used ≤ room) where
        pub append_202 : short_size m < (type_info t).least → first_refusal (append_refusals mode room used t m) ≡ some 202
        unfolding append_refusals
        append_202 h = leaf_rows _ (row_passes _ _ _ _ (le-ltb room used p₃) (row_applies _ _ _ (lt-ltb (short_size m) (type_info t).least h)))

        module _ (p₄ : (type_info t).least ≤ short_size m) where
          -- past 202
          sized_rows : (o : Option ℕ) → first_refusal (drop 4 (append_refusals mode room used t m)) ≡ o → first_refusal (append_refusals mode room used t m) ≡ o
          unfolding append_refusals
          sized_rows o e =
              leaf_rows o (row_passes _ _ _ o (le-ltb room used p₃) (row_passes _ _ _ o (le-ltb (short_size m) (type_info t).least p₄) e))

          pub append_206_size : (not (is_pi mode) && ltb largest_field (short_size m)) ≡ true → first_refusal (append_refusals mode room used t m) ≡ some 206
          unfolding append_refusals
          append_206_size h = sized_rows _ (row_applies _ _ _ h)

          module _ (p₅ : (not (is_pi mode) && ltb largest_field (short_size m)) ≡ false) where
            pub append_206_stream : stream_limit mode < used_after mode used m → first_refusal (append_refusals mode room used t m) ≡ some 206
            unfolding append_refusals
            append_206_stream h =
                sized_rows _ (row_passes _ _ _ _ p₅ (row_applies _ _ _ (lt-ltb (stream_limit mode) (used_after mode used m) h)))

            -- a body over the limit puts the stream over it
            pub append_206_body : stream_limit mode < short_size m → first_refusal (append_refusals mode room used t m) ≡ some 206
            append_206_body h = let n = least_header mode m in append_206_stream (omega arith)

            module _ (p₆ : used_after mode used m ≤ stream_limit mode) where
              -- past 206
              limited_rows : (o : Option ℕ) → first_refusal (drop 6 (append_refusals mode room used t m)) ≡ o → first_refusal (append_refusals mode room used t m) ≡ o
              unfolding append_refusals
              limited_rows o e =
                  sized_rows o
                  (row_passes _ _ _ o p₅ (row_passes _ _ _ o (le-ltb (stream_limit mode) (used_after mode used m) p₆) e))

              pub append_5 : room < used_after mode used m → first_refusal (append_refusals mode room used t m) ≡ some 5
              unfolding append_refusals
              append_5 h = limited_rows _ (row_applies _ _ _ (lt-ltb room (used_after mode used m) h))

              pub append_passes : used_after mode used m ≤ room → first_refusal (append_refusals mode room used t m) ≡ none
              unfolding append_refusals
              append_passes h = limited_rows _ (row_passes _ _ _ _ (le-ltb room (used_after mode used m) h) no_row)

-- the rows of 2 in one
pub append_2 : (mode : Mode) (room used t m : ℕ)
    → (t ≡ compression) ⊎ (((t ≡ compression → ⊥) × (t ≡ guid_defined)) ⊎ ((t ≡ compression → ⊥) × (t ≡ guid_defined → ⊥) × (room < used)))
    → first_refusal (append_refusals mode room used t m) ≡ some 2
append_2 mode room used t m (inl e) = append-compression mode room used t m e
append_2 mode room used t m (inr (inl (p₁, e))) = append_guid mode room used t m p₁ e
append_2 mode room used t m (inr (inr (p₁, p₂, h))) = append_used mode room used t m p₁ p₂ h

-- the two tests of the size that the code makes in one: the most bytes of a leaf with a short header
abbrev pub largest_leaf : Mode → ℕ
largest_leaf mode = cond (is_pi mode) (stream_limit mode) largest_field

module _ (mode : Mode) (room used t m : ℕ) where
  pub append_206_leaf : (t ≡ compression → ⊥) → (t ≡ guid_defined → ⊥) → used ≤ room → (type_info t).least ≤ short_size m → largest_leaf mode < short_size m
      → first_refusal (append_refusals mode room used t m) ≡ some 206
  append_206_leaf p₁ p₂ p₃ p₄ h = go (is_pi mode) refl
    where
      go : (b : Bool) → is_pi mode ≡ b → first_refusal (append_refusals mode room used t m) ≡ some 206
      go true e = append_206_body mode room used t m p₁ p₂ p₃ p₄ (rw e) (rw e at h)
      go false e = append_206_size mode room used t m p₁ p₂ p₃ p₄ (rw (e, lt-ltb largest_field (short_size m) (rw e at h)))

pub sized : (mode : Mode) (m : ℕ) → short_size m ≤ largest_leaf mode → (not (is_pi mode) && ltb largest_field (short_size m)) ≡ false
sized mode m h = go (is_pi mode) refl
  where
    go : (b : Bool) → is_pi mode ≡ b → (not (is_pi mode) && ltb largest_field (short_size m)) ≡ false
    go true e = rw e
    go false e = rw (e, le-ltb largest_field (short_size m) (rw e at h))

pub short_limit : (mode : Mode) (m : ℕ) → short_size m ≤ largest_leaf mode → short_size m ≤ 67108864
unfolding stream_limit
short_limit Framework m h = omega arith
short_limit Pi m h = omega arith

-- what an answer with a used count says of the arguments
pub record Accepted (mode : Mode) (room used t m u : ℕ) : Type 0 where
  pub leaves : is_holder (type_info t).class ≡ false
  pub inside : used ≤ room
  pub least : (type_info t).least ≤ short_size m
  pub sized : (not (is_pi mode) && ltb largest_field (short_size m)) ≡ false
  pub limit : used_after mode used m ≤ stream_limit mode
  pub room_left : used_after mode used m ≤ room
  pub answer : u ≡ used_after mode used m
  pub passed : first_refusal (append_refusals mode room used t m) ≡ none

pub accepted : (mode : Mode) (room used t m : ℕ) {u : ℕ} → append_of mode room used t m ≡ success (u ∷ []) → Accepted mode room used t m u
unfolding append_of append_refusals
accepted mode room used t m {u} p = go (first_refusal (append_refusals mode room used t m)) refl
  where
    go : (o : Option ℕ) → first_refusal (append_refusals mode room used t m) ≡ o → Accepted mode room used t m u
    go (some n) e =
        let q : refused n ≡ success (u ∷ []) = rw e at p in
        let z : ◌≡◌ {A = ℕ} 0 1 = cc in absurd (omega arith)
    go none e =
        let q : success (used_after mode used m ∷ []) ≡ success (u ∷ []) = rw e at p in
        let a = row-passed _ _ e in
        let b = row-passed _ _ a.1 in
        let c = row-passed _ _ b.1 in
        let d = row-passed _ _ c.1 in
        let f = row-passed _ _ d.1 in
        let g = row-passed _ _ f.1 in
        let h = row-passed _ _ g.1 in
        record {
          leaves = not_holder t a.0 b.0;
          inside = ltb-false room used c.0;
          least = ltb-false _ _ d.0;
          sized = f.0;
          limit = ltb-false _ _ g.0;
          room_left = ltb-false _ _ h.0;
          answer = cc;
          passed = e;
        }

-- which header is written
pub append_long : (m : ℕ) → 16777215 ≤ 4 + m → leaf_header Pi m ≡ 8
unfolding leaf_header needs_long
append_long m h = rw (le-leb 16777215 (4 + m) h)

pub append_short : (m : ℕ) → 4 + m < 16777215 → leaf_header Pi m ≡ 4
unfolding leaf_header needs_long
append_short m h = rw (lt-leb 16777215 (4 + m) h)

pub append_framework : (m : ℕ) → leaf_header Framework m ≡ 4
unfolding leaf_header needs_long
append_framework m = refl

-- in PI mode 206 is given only for the stream limit
pub pi_206 : (room used t m : ℕ) → used_after Pi used m ≤ 67108864 → append_of Pi room used t m ≡ refused 206 → ⊥
unfolding append_of append_refusals stream_limit first_refusal
pi_206 room used t m fits p =
    go (eqb t compression) (eqb t guid_defined) (ltb room used) (ltb (short_size m) (type_info t).least) (ltb room (used_after Pi used m))
    (rw (le-ltb 67108864 (used_after Pi used m) fits) at p)
  where
    go : (a b c d e : Bool)
        → unless_refused refused (cond a (some 2) (cond b (some 2) (cond c (some 2) (cond d (some 202) (cond e (some 5) none))))) (success (used_after Pi used m ∷ []))
        ≡ refused 206 → ⊥
    go true b c d e q = let z : ◌≡◌ {A = ℕ} 2 206 = cc in absurd (omega arith)
    go false true c d e q = let z : ◌≡◌ {A = ℕ} 2 206 = cc in absurd (omega arith)
    go false false true d e q = let z : ◌≡◌ {A = ℕ} 2 206 = cc in absurd (omega arith)
    go false false false true e q = let z : ◌≡◌ {A = ℕ} 202 206 = cc in absurd (omega arith)
    go false false false false true q = let z : ◌≡◌ {A = ℕ} 5 206 = cc in absurd (omega arith)
    go false false false false false q = let z : ◌≡◌ {A = ℕ} 0 1 = cc in absurd (omega arith)
