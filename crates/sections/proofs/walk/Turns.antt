-- The code's loop over one stream, turn by turn: what is left of the walk from here on gives the whole result.
use Prim.Native.Nat.{ℕ, suc, ◌+◌, ◌-◌, ◌≤◌, ◌<◌}
use mathlib.Core.Path.{◌≡◌, refl, sym, ap, ◌∙◌}
use mathlib.Core.Bool.{true, false}
use mathlib.Core.List.{List}
use native.Mathlib.Omega.{arith}
use lib.ListN.{length}
use Rattle.std.specs.Prelude.{Option as OptionOf, None, Some}
use Rattle.std.specs.Option.{is_some}
use Rattle.sections.specs.Header.{Fault, opened, head_at}
use Rattle.sections.specs.Walk.{Trace, done, section, and_then, aligned, zeros, part, after_padding, walk}
use Rattle.sections.specs.Seek.{Seek, visited, halted, run}
use Rattle.sections.specs.declared.header.Mode.{Mode}
use Rattle.sections.specs.declared.header.Section.{Section}
use Rattle.sections.proofs.walk.Carried.{Final, run_then}
use Rattle.sections.proofs.walk.Padding.{zeros_past, padding_zero, padding_207}
use Rattle.sections.proofs.walk.Starts.{walk_from, walk-from_start, walk_end, walk_fault, walk_closed, walk_205, walk_open}

module _ (mode : Mode) where
  -- the loop over one stream, at a start: the walk from here on gives the whole result x
  pub record Going (n : ℕ) (s : List ℕ) (base w : ℕ) (x a : Seek) (at : ℕ) : Type 0 where
    pub same : x ≡ run w a (walk_from mode n s base at)

  pub going_start : (n : ℕ) (s : List ℕ) (base w : ℕ) (a : Seek) → Going n s base w (run w a (walk mode n s base)) a 0
  going_start n s base w a = record { same = ap (run w a) (walk-from_start mode n s base) }

  -- the walk of the contents that are searched, up to byte e
  abbrev pub inner : (n : ℕ) (s : List ℕ) (base e : ℕ) → OptionOf ℕ → Trace
  inner n s base e None = done
  inner n s base e (Some from) = walk mode (n - 1) (part from e s) (base + from)

  pub no_inner : (n : ℕ) (s : List ℕ) (base e w : ℕ) (a : Seek) (o : OptionOf ℕ) → ((from : ℕ) → o ≡ Some from → ⊥) → a ≡ run w a (inner n s base e o)
  unfolding run
  no_inner n s base e w a None h = refl
  no_inner n s base e w a (Some from) h = absurd (h from refl)

  -- the walk at a start where a section stands, closed or, above the last level, open
  walk_section : (n : ℕ) (s : List ℕ) (base at t f e : ℕ) (o : OptionOf ℕ) → at < length s → opened t f e o ≡ head_at mode s at → (is_some o ≡ true → n ≡ 0 → ⊥)
      → walk_from mode n s base at ≡ section t (base + f) (base + e) (and_then (inner n s base e o) (after_padding s base e (walk_from mode n s base)))
  unfolding and_then
  walk_section n s base at t f e None here h deep = walk_closed mode n s base at here (sym h)
  walk_section n s base at t f e (Some from) here h deep =
      let nonzero = deep refl in
      let above : suc (n - 1) ≡ n = omega arith in
      rw above at (walk_open mode (n - 1) s base at here (sym h))

  module _ {n : ℕ} {s : List ℕ} {base w : ℕ} {x a : Seek} {at : ℕ} (g : Going n s base w x a at) where
    pub going_end : length s ≤ at → a ≡ x
    unfolding run
    going_end h = sym (g.same ∙ ap (run w a) (walk_end mode n s base at h))

    -- one turn, by what stands at the start
    module _ (here : at < length s) where
      pub turn_fault : {m : ℕ} → Fault m ≡ head_at mode s at → halted m a ≡ x
      unfolding run
      turn_fault h = sym (g.same ∙ ap (run w a) (walk_fault mode n s base at here (sym h)))

      module _ (k : Section) (h : opened k.section_type k.first k.end k.contents ≡ head_at mode s at) where
        pub turn_205 : is_some k.contents ≡ true → n ≡ 0 → halted 205 a ≡ x
        unfolding run
        turn_205 some z = go k.contents h some
          where
            go : (o : OptionOf ℕ) → opened k.section_type k.first k.end o ≡ head_at mode s at → is_some o ≡ true → halted 205 a ≡ x
            go None h some = let y : ◌≡◌ {A = ℕ} 0 1 = cc in absurd (omega arith)
            go (Some from) h some = sym (rw (z, walk_205 mode s base at here (sym h)) at g.same)

        -- after its children, with d to carry on: its padding, and the walk from the next start on
        abbrev pub Behind : Seek → Type 0
        Behind d = x ≡ run w d (after_padding s base k.end (walk_from mode n s base))

        -- b: after the section itself
        module _ (deep : is_some k.contents ≡ true → n ≡ 0 → ⊥) {b : Seek} (v : b ≡ visited w a k.section_type (base + k.first) (base + k.end)) where
          turned : x ≡ run w b (and_then (inner n s base k.end k.contents) (after_padding s base k.end (walk_from mode n s base)))
          unfolding run
          turned = rw v (g.same ∙ ap (run w a) (walk_section n s base at k.section_type k.first k.end k.contents here h deep))

          -- the walk stops at it
          pub turn_stop : Final w b → b ≡ x
          turn_stop ended = sym (turned ∙ ended _)

          -- d: after its children, run from b
          module _ {d : Seek} (children : d ≡ run w b (inner n s base k.end k.contents)) where
            pub turn_behind : Behind d
            turn_behind = turned ∙ run_then w b (inner n s base k.end k.contents) (after_padding s base k.end (walk_from mode n s base))
                ∙ ap (λ (y : Seek). run w y (after_padding s base k.end (walk_from mode n s base))) (sym children)

            -- it ended there
            pub turn_children : Final w d → d ≡ x
            turn_children ended = sym (turn_behind ∙ ended _)

        module _ (d : Seek) (behind : Behind d) where
          pub turn_next : {next : ℕ} → next ≡ aligned k.end → zeros s k.end (next - k.end) ≡ true → Going n s base w x d next
          turn_next up z = record { same = rw up (rw (padding_zero s base k.end (walk_from mode n s base) (rw up at z)) at behind) }

          pub turn_207 : zeros s k.end (aligned k.end - k.end) ≡ false → halted 207 d ≡ x
          unfolding run
          turn_207 z = sym (rw (padding_207 s base k.end (walk_from mode n s base) z) at behind)

          -- it ends the stream, so that no padding follows
          pub turn_end : length s ≤ k.end → d ≡ x
          unfolding run
          turn_end h =
              let z = zeros_past s k.end (aligned k.end - k.end) h in
              let up : length s ≤ aligned k.end = omega arith in
              sym (rw (padding_zero s base k.end (walk_from mode n s base) z) at behind ∙ ap (run w d) (walk_end mode n s base (aligned k.end) up))
