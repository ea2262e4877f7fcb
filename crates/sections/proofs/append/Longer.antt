-- A leaf after a stream without a fault, holders included: the walk of the longer stream is the old one and then the new section.
use Prim.Native.Nat.{ℕ, zero, suc, ◌+◌, ◌-◌, ◌%◌, ◌≤◌, ◌<◌}
use mathlib.Core.Path.{◌≡◌, refl, sym, ap, ap₂, ◌∙◌}
use mathlib.Core.Bool.{Bool, true, false, not, ◌&&◌}
use mathlib.Core.List.{List, [], ◌∷◌, ◌++◌, append_assoc}
use mathlib.Core.Option.{Option, none, some}
use native.Mathlib.Omega.{arith}
use borrow.Author.Tests.{le-ltb, ltb-true, ltb-false, leb-false, ne_eqb}
use lib.Dec.{eqb, leb, ltb}
use lib.ListN.{length, get_or, take, drop, replicate, length-append, length-drop, length-replicate, get_or-replicate, get_or-append, get_or-eq_default}
use lib.Seq.{take-append-le, drop-append-le, get_or-append-add, drop-append-add, take-length}
use Rattle.numbers.specs.LittleEndian.{le, le_bytes}
use Rattle.numbers.proofs.LittleEndian.{le_skip, le-le_bytes}
use Rattle.sections.specs.Types.{type_info}
use Rattle.sections.specs.Header.{is_pi, size_field, largest_field, is_long, long_header, header_length, size_at, type_at, least_size, is_holder, head_at}
use Rattle.sections.specs.Walk.{Trace, done, fault, section, and_then, aligned, zeros, part, after_padding, walk, stream_limit}
use Rattle.sections.specs.Search.{first_fault}
use Rattle.sections.specs.Append.{short_size, needs_long, leaf_header, leaf_size, used_after, leaf_start, added_with, added}
use Rattle.sections.specs.declared.header.Mode.{Mode}
use Rattle.sections.specs.Header.{Head, Fault, Closed, Open}
use Rattle.sections.proofs.types.Rows.{both}
use Rattle.sections.proofs.append.Stores.{length-leaf_start, length-added, least_header, header_long, header_short, either_header, long_start, short_start, most_limit}
use Rattle.sections.proofs.header.Cases.{Whole}
use Rattle.sections.proofs.header.Decided.{own_least, head_same}
use Rattle.sections.proofs.header.Extent.{is_closed, is_open, closed_within, open_within}
use Rattle.sections.proofs.header.Sizes.{Fits, header_range, pi_long, short_header, short_size_lem, long_header_lem, long_size}
use Rattle.sections.proofs.header.Tests.{head_leaf}
use Rattle.sections.proofs.walk.Padding.{zeros-same, zeros_past, padding_zero, padding_none}
use Rattle.sections.proofs.walk.Starts.{walk_from, walk-from_start, walk_end, walk_fault, walk_closed, walk_205, walk_open}

then_assoc : (x u v : Trace) → and_then (and_then x u) v ≡ and_then x (and_then u v)
unfolding and_then
then_assoc done u v = refl
then_assoc (fault n _ _) u v = refl
then_assoc (section t f e rest) u v = ap (section t f e) (then_assoc rest u v)

none_then : (x u : Trace) → first_fault (and_then x u) ≡ none → first_fault u ≡ none
unfolding and_then first_fault
none_then done u p = p
none_then (fault n _ _) u p = let z : ◌≡◌ {A = ℕ} 0 1 = cc in absurd (omega arith)
none_then (section t f e rest) u p = none_then rest u p

-- the numbers in a leaf's header: in a long one FF FF FF and then the size, in a short one the size
long_bytes : (t z : ℕ) (body : List ℕ) → z < 4294967296
    → (le 3 ((le_bytes 3 largest_field ++ t ∷ le_bytes 4 z) ++ body) 0 ≡ largest_field) × (le 4 ((le_bytes 3 largest_field ++ t ∷ le_bytes 4 z) ++ body) 4 ≡ z)
unfolding le_bytes
long_bytes t z body small = (
  le-le_bytes 3 largest_field (t ∷ le_bytes 4 z ++ body) (omega arith),
  le_skip 4 (le_bytes 3 largest_field ++ t ∷ []) (le_bytes 4 z ++ body) 0 ∙ le-le_bytes 4 z body (omega arith),
)

short_bytes : (t z : ℕ) (body : List ℕ) → z < 16777216 → le 3 ((le_bytes 3 z ++ t ∷ []) ++ body) 0 ≡ z
unfolding le_bytes
short_bytes t z body small = le-le_bytes 3 z (t ∷ body) (omega arith)

-- a leaf after a stream s: the new stream, and the start and the end of the leaf in it
module _ (mode : Mode) (s : List ℕ) (section_type : ℕ) (body : List ℕ) where
  abbrev pub after : List ℕ
  after = s ++ added mode (length s) section_type body

  abbrev start : ℕ
  start = aligned (length s)

  abbrev finish : ℕ
  finish = used_after mode (length s) (length body)

  -- the leaf
  abbrev leaf_bytes : List ℕ
  leaf_bytes = leaf_start (leaf_header mode (length body)) section_type (length body) ++ body

  -- the stream with its padding, before the leaf
  abbrev padded : List ℕ
  padded = s ++ replicate (start - length s) 0

  padded_length : length padded ≡ start
  padded_length =
      let a = length-append s (replicate (start - length s) 0) in
      let b : length (replicate {A = ℕ} (start - length s) 0) ≡ start - length s = length-replicate (start - length s) 0 in
      omega arith

  after_padded : after ≡ padded ++ leaf_bytes
  unfolding added_with
  after_padded = sym (append_assoc s (replicate (start - length s) 0) (leaf_bytes))

  pub after-length : length after ≡ finish
  after-length =
      let a = length-append s (added mode (length s) section_type body) in
      let b = length-added mode (length s) section_type body in
      omega arith

  -- up to the leaf nothing but padding is new
  same_before : (i : ℕ) → i < start → get_or s i 0 ≡ get_or after i 0
  same_before i h = go (ltb i (length s)) refl
    where
      go : (b : Bool) → ltb i (length s) ≡ b → get_or s i 0 ≡ get_or after i 0
      go true e = sym (get_or-append s (added mode (length s) section_type body) 0 i (ltb-true i (length s) e))
      go false e =
          let past = ltb-false i (length s) e in
          let c = padded_length in
          let at : length s + (i - length s) ≡ i = omega arith in
          let zero-byte : get_or padded i 0 ≡ 0 =
          ap (λ (k : ℕ). get_or padded k 0) (sym at)
          ∙ get_or-append-add s (replicate (start - length s) 0) (i - length s) 0
          ∙ get_or-replicate (start - length s) (i - length s) 0 0 (omega arith) in
          get_or-eq_default s 0 {n = i} past ∙ sym zero-byte
          ∙ sym (ap (λ (l : List ℕ). get_or l i 0) after_padded ∙ get_or-append padded (leaf_bytes) 0 i (omega arith))

  same-part : (f e : ℕ) → f ≤ e → e ≤ length s → part f e after ≡ part f e s
  same-part f e a b =
      ap (take (e - f)) (drop-append-le f s (added mode (length s) section_type body) (omega arith))
      ∙ take-append-le (e - f) (drop f s) (added mode (length s) section_type body) (simp length-drop (omega arith))

  -- the length of the leaf's header, and what stands in it
  abbrev m : ℕ
  m = length body

  abbrev header : ℕ
  header = leaf_header mode m

  leaf_number : (n i : ℕ) → le n after (start + i) ≡ le n (leaf_bytes) i
  leaf_number n i =
      let c = padded_length in
      let at : start + i ≡ length padded + i = omega arith in
      ap (λ (l : List ℕ). le n l (start + i)) after_padded
      ∙ ap (le n (padded ++ leaf_bytes)) at
      ∙ le_skip n padded (leaf_bytes) i

  leaf_field : size_field after start ≡ le 3 (leaf_bytes) 0
  leaf_field = let at : start ≡ start + 0 = omega arith in ap (le 3 after) at ∙ leaf_number 3 0

  leaf_type : type_at after start ≡ section_type
  unfolding leaf_start le_bytes
  leaf_type =
      let c = padded_length in
      let at : start + 3 ≡ length padded + 3 = omega arith in
      ap (λ (l : List ℕ). get_or l (start + 3) 0) after_padded
      ∙ ap (λ (i : ℕ). get_or (padded ++ leaf_bytes) i 0) at
      ∙ get_or-append-add padded (leaf_bytes) 3 0
      ∙ fourth (eqb header long_header) refl
    where
      fourth : (b : Bool) → eqb header long_header ≡ b → get_or leaf_bytes 3 0 ≡ section_type
      fourth true e = rw e
      fourth false e = rw e

  -- the part that the leaf shows is its body
  pub leaf_body : part (start + header) finish after ≡ body
  leaf_body =
      let c = padded_length in
      let d = length-leaf_start header section_type m (either_header mode m refl) in
      let k : length (padded ++ leaf_start header section_type m) ≡ start + header =
      length-append padded (leaf_start header section_type m) ∙ ap₂ (λ (a b : ℕ). a + b) c d in
      let at : start + header ≡ length (padded ++ leaf_start header section_type m) + 0 = omega arith in
      let n : finish - (start + header) ≡ m = omega arith in
      let whole : after ≡ (padded ++ leaf_start header section_type m) ++ body =
      after_padded ∙ sym (append_assoc padded (leaf_start header section_type m) body) in
      ap₂ (λ (k : ℕ) (l : List ℕ). take k (drop (start + header) l)) n whole
      ∙ ap (λ (i : ℕ). take m (drop i ((padded ++ leaf_start header section_type m) ++ body))) at
      ∙ ap (take m) (drop-append-add (padded ++ leaf_start header section_type m) body 0)
      ∙ take-length body

  -- a section that lies whole in the old stream is the same in the new one
  kept_head : (at : ℕ) → Whole mode s at → head_at mode after at ≡ head_at mode s at
  kept_head at w =
      let l = after-length in
      let f = w.fit in
      let o = own_least (type_at s at) in
      let r = header_range mode s at in
      sym (head_same mode s after at (λ i p q. same_before i (omega arith))
      (le-ltb (length s - at) 4 f.four ∙ sym (le-ltb (length after - at) 4 (omega arith)))
      (le-ltb (length s - at) (header_length mode s at) f.headed ∙ sym (le-ltb (length after - at) (header_length mode s at) (omega arith)))
      (le-ltb (length s - at) (size_at mode s at) f.fits ∙ sym (le-ltb (length after - at) (size_at mode s at) (omega arith))))

  kept_padding : (e : ℕ) → e ≤ length s → zeros s e (aligned e - e) ≡ true → zeros after e (aligned e - e) ≡ true
  kept_padding e h z = sym (zeros-same s after e (aligned e - e) (λ i p q. same_before i (omega arith))) ∙ z

  module _ (leaves : is_holder (type_info section_type).class ≡ false) (least : (type_info section_type).least ≤ short_size m)
      (small : (not (is_pi mode) && ltb largest_field (short_size m)) ≡ false) (limit : finish ≤ stream_limit mode) where
    -- the header that is written is the header that is read
    short_fits : needs_long mode m ≡ false → (short_size m ≤ largest_field) × (is_pi mode ≡ true → short_size m < largest_field)
    unfolding needs_long
    short_fits = go (is_pi mode) small
      where
        go : (b : Bool) → (not b && ltb largest_field (short_size m)) ≡ false → (b && leb largest_field (short_size m)) ≡ false
            → (short_size m ≤ largest_field) × (b ≡ true → short_size m < largest_field)
        go true p q = let r : short_size m < largest_field = leb-false largest_field (short_size m) q in (omega arith, λ e. r)
        go false p q = (ltb-false _ _ p, λ e. let z : ◌≡◌ {A = ℕ} 0 1 = cc in absurd (omega arith))

    is_pi_lem : needs_long mode m ≡ true → is_pi mode ≡ true
    unfolding needs_long
    is_pi_lem e = (both (is_pi mode) (leb largest_field (short_size m)) e).0

    leaf_long : needs_long mode m ≡ true → (header_length mode after start ≡ header) × (size_at mode after start ≡ leaf_size mode m)
    leaf_long e =
        let h = header_long mode m e in
        let pi = is_pi_lem e in
        let q : stream_limit mode ≤ 67108864 = most_limit mode refl in
        let bytes = long_bytes section_type (leaf_size mode m) body (omega arith) in
        let is : leaf_start header section_type m ≡ le_bytes 3 largest_field ++ section_type ∷ le_bytes 4 (leaf_size mode m) =
        long_start header section_type m h in
        let field : size_field after start ≡ largest_field = leaf_field ∙ rw is bytes.0 in
        let long = pi_long mode after start pi field in
        (long_header_lem mode after start long ∙ sym h, long_size mode after start long ∙ leaf_number 4 4 ∙ rw is bytes.1)

    leaf_short : needs_long mode m ≡ false → (header_length mode after start ≡ header) × (size_at mode after start ≡ leaf_size mode m)
    unfolding is_long
    leaf_short e =
        let fits = short_fits e in
        let h = header_short mode m e in
        let is : leaf_start header section_type m ≡ le_bytes 3 (leaf_size mode m) ++ section_type ∷ [] = short_start header section_type m (λ z. omega arith) in
        let field : size_field after start ≡ leaf_size mode m = leaf_field ∙ rw is (short_bytes section_type (leaf_size mode m) body (omega arith)) in
        let short : is_long mode (size_field after start) ≡ false = go (is_pi mode) fits.1 (omega arith) in
        (short_header mode after start short ∙ sym h, short_size_lem mode after start short ∙ field)
      where
        go : (b : Bool) → (b ≡ true → short_size m < largest_field) → size_field after start ≡ short_size m → (b && eqb (size_field after start) largest_field) ≡ false
        go true less field = let l : short_size m < largest_field = less refl in ne_eqb (size_field after start) largest_field (λ z. omega arith)
        go false less field = refl

    leaf_reads : (header_length mode after start ≡ header) × (size_at mode after start ≡ leaf_size mode m)
    leaf_reads = go (needs_long mode m) refl
      where
        go : (b : Bool) → needs_long mode m ≡ b → (header_length mode after start ≡ header) × (size_at mode after start ≡ leaf_size mode m)
        go true e = leaf_long e
        go false e = leaf_short e

    leaf_head : head_at mode after start ≡ Closed section_type (start + header) finish
    leaf_head =
        let n = after-length in
        let r = leaf_reads in
        let q = least_header mode m in
        let t = leaf_type in
        let k : least_size (header_length mode after start) (type_at after start) ≡ least_size header section_type = rw (r.0, t) in
        let fits : Fits mode (length after - start) after start =
        record { four = omega arith; headed = omega arith; least = omega arith; fits = omega arith } in
        head_leaf mode after start fits (rw t leaves) ∙ rw (t, r.0, r.1) (ap (Closed section_type (start + header)) (omega arith))

    -- the new section on the walk
    abbrev new : ℕ → Trace
    new base = section section_type (base + (start + header)) (base + finish) done

    walk_leaf : (n base : ℕ) → walk_from mode n after base start ≡ new base
    walk_leaf n base =
        let l = after-length in
        let q = least_header mode m in
        walk_closed mode n after base start (omega arith) leaf_head
        ∙ ap (section section_type (base + (start + header)) (base + finish))
        (padding_zero after base finish (walk_from mode n after base) (zeros_past after finish (aligned finish - finish) (omega arith))
        ∙ walk_end mode n after base (aligned finish) (omega arith))

    -- the walk at a start inside the old stream, in the new one, where the walk from each later start has the new section at its end
    kept : (n base at : ℕ) (h : Head) → head_at mode s at ≡ h → at < length s
        → ((next : ℕ) → at + 4 ≤ next → next % 4 ≡ 0 → next ≤ start → first_fault (walk_from mode n s base next) ≡ none
        → walk_from mode n after base next ≡ and_then (walk_from mode n s base next) (new base))
        → first_fault (walk_from mode n s base at) ≡ none → walk_from mode n after base at ≡ and_then (walk_from mode n s base at) (new base)
    unfolding and_then first_fault
    kept n base at (Fault m) p inside later well =
        let q : ◌≡◌ {A = Option ℕ} (some m) none = rw (walk_fault mode n s base at inside p) at well in
        let z : ◌≡◌ {A = ℕ} 0 1 = cc in absurd (omega arith)
    kept n base at (Closed t first e) p inside later well =
        let w = closed_within mode s at p in
        let l = after-length in
        let rest = walk_from mode n s base in
        let old = walk_closed mode n s base at inside p in
        let pad = padding_none s base e rest (rw old at well) in
        let next = later (aligned e) (omega arith) (omega arith) (omega arith) pad.1 in
        walk_closed mode n after base at (omega arith) (kept_head at (is_closed mode s at p).whole ∙ p)
        ∙ ap (section t (base + first) (base + e))
        (padding_zero after base e (walk_from mode n after base) (kept_padding e w.4 pad.0) ∙ next
        ∙ ap (λ (x : Trace). and_then x (new base)) (sym (padding_zero s base e rest pad.0)))
        ∙ sym (ap (λ (x : Trace). and_then x (new base)) old)
    kept zero base at (Open t first f e) p inside later well =
        let q : ◌≡◌ {A = Option ℕ} (some 205) none = rw (walk_205 mode s base at inside p) at well in
        let z : ◌≡◌ {A = ℕ} 0 1 = cc in absurd (omega arith)
    kept (suc n) base at (Open t first f e) p inside later well =
        let w = open_within mode s at p in
        let l = after-length in
        let rest = walk_from mode (suc n) s base in
        let children = walk mode n (part f e s) (base + f) in
        let old = walk_open mode n s base at inside p in
        let pad = padding_none s base e rest (none_then children (after_padding s base e rest) (rw old at well)) in
        let next = later (aligned e) (omega arith) (omega arith) (omega arith) pad.1 in
        walk_open mode n after base at (omega arith) (kept_head at (is_open mode s at p).whole ∙ p)
        ∙ ap₂ (λ (l : List ℕ) (x : Trace). section t (base + first) (base + e) (and_then (walk mode n l (base + f)) x))
        (same-part f e w.4 w.5)
        (padding_zero after base e (walk_from mode (suc n) after base) (kept_padding e w.5 pad.0) ∙ next
        ∙ ap (λ (x : Trace). and_then x (new base)) (sym (padding_zero s base e rest pad.0)))
        ∙ ap (section t (base + first) (base + e)) (sym (then_assoc children (after_padding s base e rest) (new base)))
        ∙ sym (ap (λ (x : Trace). and_then x (new base)) old)

    longer : (fuel n base at : ℕ) → length s ≤ at + fuel → at % 4 ≡ 0 → at ≤ start → first_fault (walk_from mode n s base at) ≡ none
        → walk_from mode n after base at ≡ and_then (walk_from mode n s base at) (new base)
    unfolding and_then
    longer zero n base at enough multiple low well =
        let same : at ≡ start = omega arith in
        rw (walk_end mode n s base at (omega arith)) (ap (walk_from mode n after base) same ∙ walk_leaf n base)
    longer (suc fuel) n base at enough multiple low well =
        go (ltb at (length s)) refl (λ next a b c d. longer fuel n base next (omega arith) b c d)
      where
        go : (b : Bool) → ltb at (length s) ≡ b
            → ((next : ℕ) → at + 4 ≤ next → next % 4 ≡ 0 → next ≤ start → first_fault (walk_from mode n s base next) ≡ none
            → walk_from mode n after base next ≡ and_then (walk_from mode n s base next) (new base))
            → walk_from mode n after base at ≡ and_then (walk_from mode n s base at) (new base)
        go true e later = kept n base at (head_at mode s at) refl (ltb-true at (length s) e) later well
        go false e later =
            let past = ltb-false at (length s) e in
            let same : at ≡ start = omega arith in
            rw (walk_end mode n s base at past) (ap (walk_from mode n after base) same ∙ walk_leaf n base)

    -- the walk of the new stream is the old one and then the new section
    pub appended_walk : (n base : ℕ) → first_fault (walk mode n s base) ≡ none
        → walk mode n after base ≡ and_then (walk mode n s base) (section section_type (base + (start + header)) (base + finish) done)
    appended_walk n base well =
        walk-from_start mode n after base
        ∙ longer (length s) n base 0 (omega arith) refl (omega arith) (rw (walk-from_start mode n s base) at well)
        ∙ ap (λ (x : Trace). and_then x (new base)) (sym (walk-from_start mode n s base))
