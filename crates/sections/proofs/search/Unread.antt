-- Bytes that neither search reads: two streams of one length that agree outside what follows the own header of sections that are not opened
-- (leaves, and holders with packed contents), on every level, give the same walk and the same answers. What lies inside packed contents
-- changes no answer.
use Prim.Native.Nat.{ℕ, zero, suc, ◌+◌, ◌-◌, ◌≤◌, ◌<◌}
use mathlib.Core.Path.{◌≡◌, refl, ap, subst}
use mathlib.Core.Bool.{true}
use mathlib.Core.List.{List}
use mathlib.Core.Logic.{◌⊎◌, inl, inr}
use native.Mathlib.Omega.{arith}
use borrow.Author.Tests.{ne_eqb}
use lib.Dec.{ltb}
use lib.ListN.{length, get_or, length-take, length-drop}
use Rattle.sections.specs.Types.{type_info}
use Rattle.sections.specs.Header.{header_length, size_at, type_at, least_size, is_holder, contents_at, packed, head_at}
use Rattle.sections.specs.Walk.{Trace, done, aligned, part, after_padding, meet, siblings, walk, stream_walk}
use Rattle.sections.specs.Search.{search_of, first_answer, search_first_of}
use Rattle.sections.specs.Header.{Head, Fault, Closed, Open}
use Rattle.sections.specs.declared.header.Mode.{Mode}
use Rattle.sections.proofs.header.Decided.{own_least, head_same}
use Rattle.sections.proofs.header.Extent.{is_closed, is_open, closed_within, open_within, contents_within}
use Rattle.sections.proofs.header.Sizes.{header_range}
use Rattle.sections.proofs.walk.Padding.{zeros-same, nonzero_same}
use Rattle.sections.proofs.walk.Parts.{parts_alike}

module _ (mode : Mode) where
  -- byte i of a stream is one that P names of some section at the starts that follow one another from byte `at` on, whatever faults
  -- their padding or children have, with n levels left below: of the section that stands at `at`, of one at a later start, or of one
  -- inside a holder
  pub data OnWalk (P : List ℕ → ℕ → ℕ → Type 0) : (n : ℕ) → List ℕ → (at i : ℕ) → Type 0 where
    here : {n : ℕ} {s : List ℕ} {at i : ℕ} → P s at i → OnWalk P n s at i
    after_closed : {n : ℕ} {s : List ℕ} {at i t first e : ℕ} → head_at mode s at ≡ Closed t first e → OnWalk P n s (aligned e) i → OnWalk P n s at i
    inside : {n : ℕ} {s : List ℕ} {at i j t first f e : ℕ} → head_at mode s at ≡ Open t first f e → i ≡ f + j → OnWalk P n (part f e s) 0 j → OnWalk P (suc n) s at i
    after_open : {n : ℕ} {s : List ℕ} {at i t first f e : ℕ} → head_at mode s at ≡ Open t first f e → OnWalk P n s (aligned e) i → OnWalk P n s at i

  -- the body of a section that is not opened, after its type's own header: a leaf's body, or what a packed holder holds
  pub record Body (s : List ℕ) (at i : ℕ) : Type 0 where
    pub section_type : ℕ
    pub first : ℕ
    pub end : ℕ
    pub closed : head_at mode s at ≡ Closed section_type first end
    pub low : at + least_size (header_length mode s at) section_type ≤ i
    pub high : i < end

  -- the contents of a packed holder: a compression section of a kind other than 0, or a GUID-defined one with attribute bit 0 set
  pub record PackedContents (s : List ℕ) (at i : ℕ) : Type 0 where
    pub section_type : ℕ
    pub first : ℕ
    pub end : ℕ
    pub closed : head_at mode s at ≡ Closed section_type first end
    pub holds : is_holder (type_info section_type).class ≡ true
    pub packs : packed s at section_type (header_length mode s at) ≡ true
    pub low : contents_at s at section_type (header_length mode s at) ≤ i
    pub high : i < end

  abbrev pub Unread : (n : ℕ) → List ℕ → (at i : ℕ) → Type 0
  Unread = OnWalk Body

  packed_body : {s : List ℕ} {at i : ℕ} → PackedContents s at i → Body s at i
  packed_body {s} {at} {i} p =
      let c = is_closed mode s at p.closed in
      let w = contents_within mode s at c.whole (rw c.typed at p.holds) in
      let k : (type_info p.section_type).least ≡ (type_info (type_at s at)).least = rw c.typed in
      let a : contents_at s at (type_at s at) (header_length mode s at) ≤ i = rw c.typed at p.low in
      record { section_type = p.section_type; first = p.first; end = p.end; closed = p.closed; low = omega arith; high = p.high }

  -- packed contents, on every level, are such bodies
  packed-unread : {n : ℕ} {s : List ℕ} {at i : ℕ} → OnWalk PackedContents n s at i → Unread n s at i
  packed-unread (here p) = here (packed_body p)
  packed-unread (after_closed p u) = after_closed p (packed-unread u)
  packed-unread (inside p q u) = inside p q (packed-unread u)
  packed-unread (after_open p u) = after_open p (packed-unread u)

  -- two streams that agree, from byte `at` on, on all other bytes
  pub record SameBut (n : ℕ) (s s' : List ℕ) (at : ℕ) : Type 0 where
    pub long : length s ≡ length s'
    pub bytes : (i : ℕ) → at ≤ i → (Unread n s at i → ⊥) → get_or s i 0 ≡ get_or s' i 0

  -- no such byte lies in the header at the start, nor past the end
  unread_range : {n : ℕ} {s : List ℕ} {at i : ℕ} → Unread n s at i → (at + least_size (header_length mode s at) (type_at s at) ≤ i) × (at ≤ i) × (i < length s)
  unread_range {s = s} {at = at} (here x) =
      let c = is_closed mode s at x.closed in
      let k : (type_info x.section_type).least ≡ (type_info (type_at s at)).least = rw c.typed in
      let w = closed_within mode s at x.closed in
      (omega arith, omega arith, omega arith)
  unread_range {s = s} {at = at} (after_closed {t = t} p u) =
      let c = is_closed mode s at p in
      let k : (type_info t).least ≡ (type_info (type_at s at)).least = rw c.typed in
      let w = closed_within mode s at p in
      let r = unread_range u in
      (omega arith, omega arith, r.2)
  unread_range {s = s} {at = at} (inside {j = j} {t = t} {f = f} {e = e} p q u) =
      let c = is_open mode s at p in
      let k : (type_info t).least ≡ (type_info (type_at s at)).least = rw c.typed in
      let w = open_within mode s at p in
      let r : j < length (part f e s) = (unread_range u).2 in
      let l : length (part f e s) ≤ e - f = simp length-take (omega arith) in
      (omega arith, omega arith, omega arith)
  unread_range {s = s} {at = at} (after_open {t = t} p u) =
      let c = is_open mode s at p in
      let k : (type_info t).least ≡ (type_info (type_at s at)).least = rw c.typed in
      let w = open_within mode s at p in
      let r = unread_range u in
      (omega arith, omega arith, r.2)

  -- past the section at the start such a byte is one of the walk from the next start on; in a holder's contents it is one of theirs
  closed_after : {n : ℕ} {s : List ℕ} {at i : ℕ} (t first e : ℕ) → head_at mode s at ≡ Closed t first e → e ≤ i → Unread n s at i → Unread n s (aligned e) i
  closed_after t first e h low (here x) = let p = x.closed in let q : x.end ≡ e = cc in absurd (omega arith)
  closed_after {n} {s} {at} {i} t first e h low (after_closed {e = e'} p u) = let q : e' ≡ e = cc in subst (λ (x : ℕ). Unread n s (aligned x) i) q u
  closed_after t first e h low (inside p q u) = let z : ◌≡◌ {A = ℕ} 0 1 = cc in absurd (omega arith)
  closed_after t first e h low (after_open p u) = let z : ◌≡◌ {A = ℕ} 0 1 = cc in absurd (omega arith)

  unread_open : {n : ℕ} {s : List ℕ} {at i : ℕ} (t first f e : ℕ) → head_at mode s at ≡ Open t first f e → Unread n s at i
      → ((m : ℕ) × (j : ℕ) × (n ≡ suc m) × (i ≡ f + j) × Unread m (part f e s) 0 j) ⊎ Unread n s (aligned e) i
  unread_open t first f e h (here x) = let p = x.closed in let z : ◌≡◌ {A = ℕ} 0 1 = cc in absurd (omega arith)
  unread_open t first f e h (after_closed p u) = let z : ◌≡◌ {A = ℕ} 0 1 = cc in absurd (omega arith)
  unread_open {s = s} t first f e h (inside {n = m} {j = j} {f = f'} {e = e'} p q u) =
      let x : f' ≡ f = cc in
      let y : e' ≡ e = cc in
      inl (m, j, refl, omega arith, rw (x, y) at u)
  unread_open {n} {s} {at} {i} t first f e h (after_open {e = e'} p u) =
      let q : e' ≡ e = cc in inr (subst (λ (x : ℕ). Unread n s (aligned x) i) q u)

  open_after : {n : ℕ} {s : List ℕ} {at i : ℕ} (t first f e : ℕ) → head_at mode s at ≡ Open t first f e → e ≤ i → Unread n s at i → Unread n s (aligned e) i
  open_after {n} {s} {at} {i} t first f e h low u = go (unread_open t first f e h u)
    where
      go : ((m : ℕ) × (j : ℕ) × (n ≡ suc m) × (i ≡ f + j) × Unread m (part f e s) 0 j) ⊎ Unread n s (aligned e) i → Unread n s (aligned e) i
      go (inl x) =
          let w = open_within mode s at h in
          let r = (unread_range x.4).2 in
          let l : length (part f e s) ≤ e - f = simp length-take (omega arith) in
          let q = x.3 in
          absurd (omega arith)
      go (inr v) = v

  module _ (n : ℕ) (s s' : List ℕ) (at : ℕ) (b : SameBut n s s' at) where
    same_head : head_at mode s at ≡ head_at mode s' at
    same_head =
        head_same mode s s' at (λ i p q. b.bytes i p (λ u. let r = unread_range u in let o = own_least (type_at s at) in let h = header_range mode s at in omega arith))
        (ap (λ (l : ℕ). ltb (l - at) 4) b.long) (ap (λ (l : ℕ). ltb (l - at) (header_length mode s at)) b.long)
        (ap (λ (l : ℕ). ltb (l - at) (size_at mode s at)) b.long)

    -- the padding of the section at the start, and the stream from the next start on
    module _ (e : ℕ) (low : at ≤ e) (passed : (i : ℕ) → e ≤ i → Unread n s at i → Unread n s (aligned e) i) where
      same_bytes : (i : ℕ) → e ≤ i → i < e + (aligned e - e) → get_or s i 0 ≡ get_or s' i 0
      same_bytes i p q = b.bytes i (omega arith) (λ u. let r = unread_range (passed i p u) in omega arith)

      same-padding : (base : ℕ) (rest : ℕ → Trace) → after_padding s base e rest ≡ after_padding s' base e rest
      unfolding after_padding
      same-padding base rest = rw (zeros-same s s' e (aligned e - e) same_bytes, nonzero_same s s' e (aligned e - e) same_bytes, b.long)

      same_next : SameBut n s s' (aligned e)
      same_next = record { long = b.long; bytes = λ i p x. b.bytes i (omega arith) (λ u. x (passed i (omega arith) u)) }

    -- the contents of a holder, as streams of their own
    open_contents : (m t first f e : ℕ) → n ≡ suc m → head_at mode s at ≡ Open t first f e → SameBut m (part f e s) (part f e s') 0
    open_contents m t first f e z h =
        record {
          long = simp (length-take, length-drop) (rw b.long);
          bytes = λ j p x. parts_alike f e s s' j
              (λ a. let w = open_within mode s at h in b.bytes (f + j) (omega arith) (λ u. other j a x (unread_open t first f e h u)));
        }
      where
        other : (j : ℕ) → j < e - f → (Unread m (part f e s) 0 j → ⊥)
            → ((k : ℕ) × (j' : ℕ) × (n ≡ suc k) × (f + j ≡ f + j') × Unread k (part f e s) 0 j') ⊎ Unread n s (aligned e) (f + j) → ⊥
        other j a x (inl y) =
            let q = y.3 in
            let q₂ = y.2 in
            let j-same : y.1 ≡ j = omega (arith, y.3) in
            let k-same : y.0 ≡ m = omega (arith, y.2) in
            x (rw (j-same, k-same) at y.4)
        other j a x (inr u) = let w = open_within mode s at h in let r = unread_range u in omega arith

  module _ (n : ℕ) (inner : List ℕ → ℕ → Trace)
      (below : (m : ℕ) (l l' : List ℕ) (b : ℕ) → n ≡ suc m → SameBut m l l' 0 → inner l b ≡ inner l' b) where
    meet-unread : (s s' : List ℕ) (base at : ℕ) (rest rest' : ℕ → Trace) (h : Head) → head_at mode s at ≡ h → SameBut n s s' at
        → ((next : ℕ) → SameBut n s s' next → rest next ≡ rest' next) → meet n inner s base at h rest ≡ meet n inner s' base at h rest'
    unfolding meet after_padding
    meet-unread s s' base at rest rest' (Fault m) h b q = rw b.long
    meet-unread s s' base at rest rest' (Closed t first e) h b q =
        let w = closed_within mode s at h in
        rw (
          same-padding n s s' at b e (omega arith) (λ i p u. closed_after t first e h p u) base rest,
          q (aligned e) (same_next n s s' at b e (omega arith) (λ i p u. closed_after t first e h p u)),
        )
    meet-unread s s' base at rest rest' (Open t first f e) h b q = go n refl
      where
        go : (k : ℕ) → n ≡ k → meet n inner s base at (Open t first f e) rest ≡ meet n inner s' base at (Open t first f e) rest'
        go zero z = rw (z, b.long)
        go (suc k) z =
            let w = open_within mode s at h in
            rw (
              z,
              ne_eqb (suc k) 0 (λ x. omega arith),
              same-padding n s s' at b e (omega arith) (λ i p u. open_after t first f e h p u) base rest,
              q (aligned e) (same_next n s s' at b e (omega arith) (λ i p u. open_after t first f e h p u)),
              below k (part f e s) (part f e s') (base + f) z (open_contents n s s' at b k t first f e z h),
            )

    siblings-unread : (fuel : ℕ) (s s' : List ℕ) (base at : ℕ) → SameBut n s s' at → siblings mode n inner fuel s base at ≡ siblings mode n inner fuel s' base at
    unfolding siblings
    siblings-unread zero s s' base at b = refl
    siblings-unread (suc fuel) s s' base at b =
        rw (
          ← same_head n s s' at b,
          ← b.long,
          meet-unread s s' base at (siblings mode n inner fuel s base) (siblings mode n inner fuel s' base) (head_at mode s at) refl b
              (λ next x. siblings-unread fuel s s' base next x),
        )

  -- the walk does not read those bytes
  walk-unread : (n : ℕ) (s s' : List ℕ) (base : ℕ) → SameBut n s s' 0 → walk mode n s base ≡ walk mode n s' base
  unfolding walk
  walk-unread zero s s' base b = rw (← b.long) (siblings-unread 0 (λ l c. done) (λ m l l' c z x. refl) (length s) s s' base 0 b)
  walk-unread (suc n) s s' base b =
      rw (← b.long) (siblings-unread (suc n) (walk mode n)
      (λ m l l' c z x. walk-unread n l l' c (let e : m ≡ n = omega arith in rw e at x)) (length s) s s' base 0 b)

  stream_unread : (s s' : List ℕ) → SameBut 7 s s' 0 → stream_walk mode s ≡ stream_walk mode s'
  unfolding stream_walk
  stream_unread s s' b = rw (← b.long, walk-unread 7 s s' 0 b)

  -- nor does any search, nor the search for the first
  pub search_unread : (s s' : List ℕ) (t instance : ℕ) → SameBut 7 s s' 0 → search_of mode s t instance ≡ search_of mode s' t instance
  unfolding search_of
  search_unread s s' t instance b = rw (stream_unread s s' b)

  pub first_unread : (s s' : List ℕ) (t : ℕ) → SameBut 7 s s' 0 → search_first_of mode s t ≡ search_first_of mode s' t
  first_unread s s' t b = ap (first_answer t) (stream_unread s s' b)

  -- in particular, bytes inside packed contents change no answer
  module _ (s s' : List ℕ) (t : ℕ) (long : length s ≡ length s') (same : (i : ℕ) → (OnWalk PackedContents 7 s 0 i → ⊥) → get_or s i 0 ≡ get_or s' i 0) where
    same_but : SameBut 7 s s' 0
    same_but = record { long = long; bytes = λ i p x. same i (λ u. x (packed-unread u)) }

    pub search_packed : (instance : ℕ) → search_of mode s t instance ≡ search_of mode s' t instance
    search_packed instance = search_unread s s' t instance same_but

    pub first_packed : search_first_of mode s t ≡ search_first_of mode s' t
    first_packed = first_unread s s' t same_but
