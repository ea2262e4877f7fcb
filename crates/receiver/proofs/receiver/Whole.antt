-- A header that is whole among the bytes that come is taken at once.
use Rattle.std.proofs.Common.{◌≡◌, ℕ, zero, suc, ◌+◌, ◌-◌, ◌<◌, ◌≤◌, Bool, true, false, cond, not, ◌&&◌, eqb, ◌⊎◌, List, length, get_or, take, drop, set, sym, refl, ap, ◌∙◌, inl, inr, mod-eq_of_lt, zero-add, add-one, arith, length-set, drop-cons, get_or-set_other, get_or-take, get_or-set_same, eqb-true}
use mathlib.Core.Option.{Option, none, some}
use borrow.Author.Tests.{eqb-false}
use Rattle.common.specs.Refusals.{first_refusal, unless_refused}
use Rattle.sections.specs.Types.{type_info}
use Rattle.sections.specs.Header.{type_at, header_length, size_at, is_holder, own_fields, contents_at, packed, head_faults, section_of, head_in, Head, Fault, Closed, Open}
use Rattle.sections.specs.Partial.{bytes_for_head, needed, decided, partial_of, Partial, Waiting}
use Rattle.sections.specs.declared.header.Mode.{Mode}
use Rattle.sections.proofs.header.Sizes.{header_range}
use Rattle.sections.proofs.partial.Views.{needed_most, part_finds, part_is}
use Rattle.sections.proofs.partial.Agree.{moved, agree}
use Rattle.receiver.specs.Tally.{wrapped}
use Rattle.receiver.specs.Place.{with_phase, entered, Phase, Header}
use Rattle.receiver.specs.Receiver.{receiver, waiting, refused, met, looked, stepped, fed, Receiver}
use Rattle.receiver.specs.Steps.{header_bytes}
use Rattle.receiver.proofs.receiver.Fed.{fed-step, fed-refused}

-- what the longest header at the start of the bytes says
abbrev pub look_at : Receiver → List ℕ → Partial
look_at r l = partial_of r.mode (take 28 l) 28 r.place.left

-- a section that is shown needs its header with its own fields
abbrev Takes : ℕ → Head → Type 0
Takes n (Fault v) = Unit {0}
Takes n (Closed t first e) = (first + own_fields t ≡ n) × (0 < n)
Takes n (Open t first from e) = (first + own_fields t ≡ n) × (0 < n)

takes : (mode : Mode) (left : ℕ) (s : List ℕ) → Takes (needed mode left s 0) (head_in mode left s 0)
unfolding needed bytes_for_head head_in section_of
takes mode left s = go (first_refusal (head_faults mode left s 0)) (is_holder (type_info t).class && not (packed s 0 t h))
  where
    t : ℕ
    t = type_at s 0

    h : ℕ
    h = header_length mode s 0

    z : ℕ
    z = size_at mode s 0

    found : Option ℕ → Bool → Head
    found v b = unless_refused Fault v (cond b (Open t (0 + h) (contents_at s 0 t h) (0 + z)) (Closed t (0 + h) (0 + z)))

    go : (v : Option ℕ) (b : Bool) → Takes (bytes_for_head mode left s 0 (found v b)) (found v b)
    go (some n) b = tt
    go none true = let r = header_range mode s 0 in (rw (zero-add h), omega arith)
    go none false = let r = header_range mode s 0 in (rw (zero-add h), omega arith)

-- what was decided does not depend on the bytes of a header that a receiver holds
looked-same : (r : Receiver) (w header header' : List ℕ) (k have : ℕ) (v : Head)
    → looked (waiting r w k) header have (decided v) ≡ looked r header' have (decided v)
unfolding looked met entered decided
looked-same r w header header' k have (Fault n) = refl
looked-same r w header header' k have (Closed t first e) = refl
looked-same r w header header' k have (Open t first from e) = refl

-- what stands no byte later
moved_zero : (v : Head) → moved 0 v ≡ v
moved_zero (Fault n) = refl
moved_zero (Closed t first e) = rw (zero-add first, zero-add e)
moved_zero (Open t first from e) = rw (zero-add first, zero-add from, zero-add e)

module _ (mode : Mode) (left : ℕ) (y w : List ℕ) (k : ℕ) (same : (j : ℕ) → j < k → get_or w j 0 ≡ get_or y j 0) where
  -- the first bytes of a header wait while the header needs more, and then say what it says
  waits : k < needed mode left y 0 → partial_of mode w k left ≡ Waiting
  waits few = go (part_is mode left w k)
    where
      go : ((k < needed mode left w 0) × (partial_of mode w k left ≡ Waiting))
          ⊎ ((needed mode left w 0 ≤ k) × (partial_of mode w k left ≡ decided (head_in mode left w 0)))
          → partial_of mode w k left ≡ Waiting
      go (inl (more, p)) = p
      go (inr (enough, p)) =
          let a = agree mode left y w 0 k (λ j h. rw (zero-add j) (sym (same j h))) enough in
          absurd (omega (arith, a.1))

  finds : needed mode left y 0 ≤ k → partial_of mode w k left ≡ decided (head_in mode left y 0)
  finds enough =
      let a = agree mode left w y 0 k (λ j h. rw (zero-add j) (same j h)) enough in
      sym (part_finds mode left w k (a.0 ∙ moved_zero (head_in mode left y 0), a.1) enough)

module _ (r : Receiver) (l : List ℕ) (enough : 28 ≤ length l) where
  abbrev y : List ℕ
  y = take 28 l

  abbrev head : Head
  head = head_in r.mode r.place.left y 0

  abbrev n : ℕ
  n = needed r.mode r.place.left y 0

  -- the first k bytes are held
  abbrev Same : List ℕ → ℕ → Type 0
  Same w k = (j : ℕ) → j < k → get_or w j 0 ≡ get_or y j 0

  stored : (w : List ℕ) (k : ℕ) → length w ≡ 28 → k < 28 → Same w k → Same (set w k (get_or l k 0)) (k + 1)
  stored w k held few same j h = go (eqb j k) refl
    where
      go : (b : Bool) → eqb j k ≡ b → get_or (set w k (get_or l k 0)) j 0 ≡ get_or y j 0
      go true e = rw (eqb-true j k e) (get_or-set_same w k (get_or l k 0) 0 (omega arith) ∙ sym (get_or-take 28 l k 0 few))
      go false e = let o = eqb-false j k e in get_or-set_other w k j (get_or l k 0) 0 o ∙ same j (omega arith)

  -- a byte more, by what the bytes held then say
  more : (k : ℕ) (w : List ℕ) {look : Partial} → k < 28 → partial_of r.mode (set w k (get_or l k 0)) (k + 1) r.place.left ≡ look
      → fed (waiting r w k) (drop k l) ≡ fed (looked (waiting r w k) (set w k (get_or l k 0)) (k + 1) look) (drop (k + 1) l)
  unfolding stepped
  more k w few p =
      ap (fed (waiting r w k)) (drop-cons l k 0 (omega arith))
      ∙ fed-step (waiting r w k) (get_or l k 0) (drop (suc k) l) refl
      ∙ rw (p, add-one k)

  -- byte by byte, until the header is decided, after the first byte or later
  until : (d k : ℕ) (w : List ℕ) → length w ≡ 28 → Same w k → k + d ≡ n - 1
      → fed (waiting r w k) (drop k l) ≡ fed (looked r y (n - 1 + 1) (decided head)) (drop (n - 1 + 1) l)
  unfolding looked
  until zero k w held same e =
      let m = needed_most r.mode r.place.left y 0 in
      let all : n - 1 ≡ k = omega arith in
      let p = finds r.mode r.place.left y (set w k (get_or l k 0)) (k + 1) (stored w k held (omega arith) same) (omega arith) in
      more k w (omega arith) p ∙ rw all (ap (λ (x : Receiver). fed x (drop (k + 1) l)) (looked-same r w (set w k (get_or l k 0)) y k (k + 1) head))
  until (suc d) k w held same e =
      let m = needed_most r.mode r.place.left y 0 in
      let next = stored w k held (omega arith) same in
      let p = waits r.mode r.place.left y (set w k (get_or l k 0)) (k + 1) next (omega arith) in
      more k w (omega arith) p ∙ until d (k + 1) (set w k (get_or l k 0)) (length-set w k (get_or l k 0) ∙ held) next (omega arith)

-- the header is whole among the bytes
pub whole_header : (r : Receiver) (l : List ℕ) → r.place.phase ≡ Header 0 → length r.header ≡ 28 → 28 ≤ length l
    → (fed r l ≡ fed (looked r (take 28 l) (header_bytes (look_at r l)) (look_at r l)) (drop (header_bytes (look_at r l)) l))
    × (0 < header_bytes (look_at r l)) × (header_bytes (look_at r l) ≤ 28) × (look_at r l ≡ Waiting → ⊥)
unfolding header_bytes looked decided
whole_header r l e held enough = rw look (go (head_in mode left y 0) refl (takes mode left y))
  where
    mode : Mode
    mode = r.mode

    left : ℕ
    left = r.place.left

    y : List ℕ
    y = take 28 l

    n : ℕ
    n = needed mode left y 0

    most : n ≤ 28
    most = needed_most mode left y 0

    look : look_at r l ≡ decided (head_in mode left y 0)
    look = finds mode left y y 28 (λ j h. refl) most

    all : fed r l ≡ fed (looked r y (n - 1 + 1) (decided (head_in mode left y 0))) (drop (n - 1 + 1) l)
    all =
        ap (λ (p : Phase). fed (receiver r.mode r.want r.tally (with_phase r.place p) r.header) l) e
        ∙ until r l enough (n - 1) 0 r.header held (λ j h. absurd (omega arith)) (omega arith)

    Whole : Partial → Type 0
    Whole x = (fed r l ≡ fed (looked r y (header_bytes x) x) (drop (header_bytes x) l)) × (0 < header_bytes x) × (header_bytes x ≤ 28) × (x ≡ Waiting → ⊥)

    -- a section that is shown takes all the bytes that it needs
    shown : (v : Head) (b : ℕ) → head_in mode left y 0 ≡ v → (b ≡ n) × (0 < n) → header_bytes (decided v) ≡ wrapped b → (decided v ≡ Waiting → ⊥)
        → Whole (decided v)
    shown v b p (q, least) u o =
        let c : wrapped b ≡ n - 1 + 1 = mod-eq_of_lt (omega (arith, most)) ∙ omega arith in
        rw (u, c) (rw p at all, omega arith, omega (arith, most), o)

    -- and after a fault no byte matters
    go : (v : Head) → head_in mode left y 0 ≡ v → Takes n v → Whole (decided v)
    go (Fault v) p t = (
      rw p at all ∙ fed-refused (refused r v) (drop (n - 1 + 1) l) refl ∙ sym (fed-refused (refused r v) (drop 1 l) refl),
      omega arith,
      omega arith,
      λ o. let z : ◌≡◌ {A = ℕ} 0 1 = cc in absurd (omega arith),
    )
    go (Closed t first e) p q = shown (Closed t first e) (first + own_fields t) p q refl (λ o. let z : ◌≡◌ {A = ℕ} 0 1 = cc in absurd (omega arith))
    go (Open t first from e) p q = shown (Open t first from e) (first + own_fields t) p q refl (λ o. let z : ◌≡◌ {A = ℕ} 0 1 = cc in absurd (omega arith))
