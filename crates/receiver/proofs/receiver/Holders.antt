-- 204 and 205 are faults of holders: where the walk of a file ends in one of them, a compression or a GUID-defined section starts there.
use Rattle.std.proofs.Common.{◌≡◌, ℕ, zero, suc, ◌+◌, ◌-◌, ◌<◌, ◌≤◌, Bool, true, false, cond, eqb, ltb, ◌⊎◌, List, length, get_or, sym, refl, ap, ◌∙◌, inl, inr, zero-add, arith, eqb-true}
use Rattle.sections.specs.Header.{type_at, header_length, size_at, is_holder, head_at, Head, Fault, Closed, Open}
use Rattle.sections.specs.Types.{compression, type_info}
use Rattle.sections.specs.Walk.{Trace, done, fault, section, and_then, aligned, zeros, first_nonzero, part, after_padding, meet, siblings, walk, stream_limit, stream_walk}
use Rattle.sections.specs.declared.header.Mode.{Mode}
use Rattle.sections.proofs.header.Cases.{Wrong, FirstFault, faults_exactly}
use Rattle.sections.proofs.header.Extent.{is_open, open_within}
use Rattle.sections.proofs.header.Sizes.{header_range}
use Rattle.sections.proofs.types.Rows.{holder_guid}
use Rattle.receiver.specs.Received.{EndsIn, here, later}
use Rattle.receiver.proofs.place.Padded.{InFile}
use Rattle.receiver.proofs.receiver.OneByte.{in_part}

abbrev pub HolderType : ℕ → Type 0
HolderType t = (t ≡ 0x01) ⊎ (t ≡ 0x02)

-- the two faults, and that another number is none of them
abbrev pub HolderFault : ℕ → Type 0
HolderFault n = (n ≡ 204) ⊎ (n ≡ 205)

no_holder_fault : (n : ℕ) → 205 < n → HolderFault n → ⊥
no_holder_fault n more (inl z) = omega arith
no_holder_fault n more (inr z) = omega arith

low_fault : (n : ℕ) → n < 204 → HolderFault n → ⊥
low_fault n less (inl z) = omega arith
low_fault n less (inr z) = omega arith

holder_type : (t : ℕ) → is_holder (type_info t).class ≡ true → HolderType t
holder_type t holds = go (eqb t compression) refl
  where
    go : (b : Bool) → eqb t compression ≡ b → HolderType t
    go true e = inl (eqb-true t compression e)
    go false e = inr (holder_guid t holds e)

module _ (file : List ℕ) where
  -- the fault of a walk, if it is one of these, stands at a holder
  abbrev AtHolder : Trace → Type 0
  AtHolder done = Unit {0}
  AtHolder (fault n start e) = HolderFault n → HolderType (type_at file start)
  AtHolder (section t f e rest) = AtHolder rest

  holder_then : (x y : Trace) → AtHolder x → AtHolder y → AtHolder (and_then x y)
  unfolding and_then
  holder_then done y p q = q
  holder_then (fault n start e) y p q = p
  holder_then (section t f e rest) y p q = holder_then rest y p q

  holder_padding : (s : List ℕ) (base e : ℕ) (rest : ℕ → Trace) → AtHolder (rest (aligned e)) → AtHolder (after_padding s base e rest)
  unfolding after_padding
  holder_padding s base e rest p = go (zeros s e (aligned e - e))
    where
      go : (b : Bool) → AtHolder (cond b (rest (aligned e)) (fault 207 (base + first_nonzero s e (aligned e - e)) (base + length s)))
      go true = p
      go false = λ z. absurd (no_holder_fault 207 (omega arith) z)

  module _ (mode : Mode) (n : ℕ) (inner : List ℕ → ℕ → Trace) (below : (l : List ℕ) (b : ℕ) → InFile file l b → AtHolder (inner l b)) (s : List ℕ) (base : ℕ)
      (stream : InFile file s base) where
    -- the type there is that in the file
    type_there : (at : ℕ) → at + 3 < length s → type_at s at ≡ type_at file (base + at)
    type_there at inside = let q : base + (at + 3) ≡ base + at + 3 = omega arith in stream.bytes (at + 3) inside ∙ ap (λ (i : ℕ). get_or file i 0) q

    fault_holder : (at m : ℕ) → FirstFault mode s at m → HolderFault m → HolderType (type_at file (base + at))
    fault_holder at m (inl (e, a)) z = absurd (low_fault m (omega arith) z)
    fault_holder at m (inr (inl (e, a, b))) z = absurd (low_fault m (omega arith) z)
    fault_holder at m (inr (inr (inl (e, a, b, d)))) z = absurd (low_fault m (omega arith) z)
    fault_holder at m (inr (inr (inr (e, a, b, d, w)))) z = let r = header_range mode s at in go (type_there at (omega arith)) w
      where
        go : type_at s at ≡ type_at file (base + at) → Wrong s at (type_at s at) (header_length mode s at) (size_at mode s at) → HolderType (type_at file (base + at))
        go same (inl w) = inl (sym same ∙ w.0)
        go same (inr w) = inr (sym same ∙ w.0)

    holder_meet : (at : ℕ) (rest : ℕ → Trace) (h : Head) → head_at mode s at ≡ h → ((next : ℕ) → AtHolder (rest next)) → AtHolder (meet n inner s base at h rest)
    unfolding meet
    holder_meet at rest (Fault m) p q = fault_holder at m ((faults_exactly mode s at m).0 p)
    holder_meet at rest (Closed t first e) p q = holder_padding s base e rest (q (aligned e))
    holder_meet at rest (Open t first f e) p q = go (eqb n 0)
      where
        w : (f ≤ e) × (e ≤ length s) × (at + 4 ≤ e)
        w = let x = open_within mode s at p in (omega arith, omega arith, omega arith)

        held : HolderType (type_at file (base + at))
        held =
            let same = type_there at (let x = w in omega arith) in
            moved same (holder_type (type_at s at) (is_open mode s at p).holds)
          where
            moved : type_at s at ≡ type_at file (base + at) → HolderType (type_at s at) → HolderType (type_at file (base + at))
            moved same (inl z) = inl (sym same ∙ z)
            moved same (inr z) = inr (sym same ∙ z)

        go : (b : Bool) → AtHolder (cond b (fault 205 (base + at) (base + length s))
            (section t (base + first) (base + e) (and_then (inner (part f e s) (base + f)) (after_padding s base e rest))))
        go true = λ z. held
        go false =
            holder_then (inner (part f e s) (base + f)) (after_padding s base e rest) (below (part f e s) (base + f) (in_part file s base f e stream w.0 w.1))
            (holder_padding s base e rest (q (aligned e)))

    holder_siblings : (fuel at : ℕ) → AtHolder (siblings mode n inner fuel s base at)
    unfolding siblings
    holder_siblings zero at = tt
    holder_siblings (suc fuel) at =
        go (ltb at (length s)) (holder_meet at (siblings mode n inner fuel s base) (head_at mode s at) refl (λ next. holder_siblings fuel next))
      where
        go : (b : Bool) → AtHolder (meet n inner s base at (head_at mode s at) (siblings mode n inner fuel s base))
            → AtHolder (cond b (meet n inner s base at (head_at mode s at) (siblings mode n inner fuel s base)) done)
        go true p = p
        go false p = tt

  holder_walk : (mode : Mode) (n : ℕ) (s : List ℕ) (base : ℕ) → InFile file s base → AtHolder (walk mode n s base)
  unfolding walk
  holder_walk mode zero s base stream = holder_siblings mode 0 (λ l b. done) (λ l b i. tt) s base stream (length s) 0
  holder_walk mode (suc n) s base stream = holder_siblings mode (suc n) (walk mode n) (holder_walk mode n) s base stream (length s) 0

  ends_holder : (n start e : ℕ) {x : Trace} → AtHolder x → EndsIn n start e x → HolderFault n → HolderType (type_at file start)
  ends_holder n start e p here = p
  ends_holder n start e p (later x) = ends_holder n start e p x

pub fault_at_holder : (mode : Mode) (file : List ℕ) (n start e : ℕ) → EndsIn n start e (stream_walk mode file) → HolderFault n → HolderType (type_at file start)
unfolding stream_walk
fault_at_holder mode file n start e = ends_holder file n start e (go (ltb (stream_limit mode) (length file)))
  where
    whole : InFile file file 0
    whole = record { bytes = λ j h. ap (λ (n : ℕ). get_or file n 0) (sym (zero-add j)); within = omega arith }

    go : (b : Bool) → AtHolder file (cond b (fault 206 0 (length file)) (walk mode 7 file 0))
    go true = λ z. absurd (no_holder_fault 206 (omega arith) z)
    go false = holder_walk file mode 7 file 0 whole
