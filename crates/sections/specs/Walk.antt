-- The walk through a section stream and its holders (01, "Sections"; 02, i and c): depth first, left to right, through at most eight levels.
use Rattle.std.specs.Prelude.{ℕ, zero, suc, ◌+◌, ◌-◌, ◌*◌, ◌/◌, Bool, true, cond, ◌&&◌, List, eqb, ltb, length, get_or, take, drop}
use Rattle.sections.specs.Header.{Head, Fault, Closed, Open, is_pi, head_at}
use Rattle.sections.specs.declared.header.Mode.{Mode}

-- what the walk meets, in walk order: sections, each with its type and the first byte and the end of what follows its header,
-- counted in the outer stream; at the end nothing more, or the first fault, with the first byte of the section at fault, of 207 the padding
-- byte, and of 206 the stream's first, and the end of the stream that holds it, counted in the outer stream too
pub data Trace : Type 0 where
  done : Trace
  fault : (number start end : ℕ) → Trace
  section : (section_type first end : ℕ) → Trace → Trace

-- the one and, unless it ends in a fault, then the other
unfoldable pub and_then : Trace → Trace → Trace
and_then done u = u
and_then (fault n start e) u = fault n start e
and_then (section t f e rest) u = section t f e (and_then rest u)

-- "sections start on multiples of 4 counted from the start of the stream that holds them": the first such place from n on
abbrev pub aligned : ℕ → ℕ
aligned n = (n + 3) / 4 * 4

-- n bytes from byte `at` on are zero; a byte past the end counts as 0
unfoldable pub zeros : List ℕ → ℕ → ℕ → Bool
zeros s at zero = true
zeros s at (suc n) = eqb (get_or s at 0) 0 && zeros s (at + 1) n

-- the first of them that is not zero, where one is
unfoldable pub first_nonzero : List ℕ → ℕ → ℕ → ℕ
first_nonzero s at zero = at
first_nonzero s at (suc n) = cond (eqb (get_or s at 0) 0) (first_nonzero s (at + 1) n) at

-- after a section that ends at byte e: 207 for "nonzero padding" ("padding cut off by the stream's end is fine"), or the walk
-- on from the next start
unfoldable pub after_padding : List ℕ → (base e : ℕ) → (ℕ → Trace) → Trace
after_padding s base e rest =
    let next = rest (aligned e) in
    cond (zeros s e (aligned e - e)) next (fault 207 (base + first_nonzero s e (aligned e - e)) (base + length s))

-- the bytes of a stream from one place up to another
abbrev pub part : (from end : ℕ) → List ℕ → List ℕ
part from e s = take (e - from) (drop from s)

-- the walk at one start, byte `at` of a stream, by what stands there: its fault; or the section, then the children of an open one, then its padding
-- and `rest` from the next start on. `below` is the number of levels left below this one; where it is 0, 205 ("contents to be
-- searched would lie on a ninth level") stands instead of the holder. `inner` is the walk one level down; `base` is where the
-- stream starts in the outer one
unfoldable pub meet : (below : ℕ) → (inner : List ℕ → ℕ → Trace) → List ℕ → (base at : ℕ) → Head → (rest : ℕ → Trace) → Trace
meet below inner s base at (Fault n) rest = fault n (base + at) (base + length s)
meet below inner s base at (Closed t first e) rest = section t (base + first) (base + e) (after_padding s base e rest)
meet below inner s base at (Open t first from e) rest =
    let children = inner (part from e s) (base + from) in
    let all = section t (base + first) (base + e) (and_then children (after_padding s base e rest)) in
    cond (eqb below 0) (fault 205 (base + at) (base + length s)) all

-- the sections of one stream from byte `at` on, at most `fuel` of them; a stream of n bytes has at most n, and
-- proofs/walk/Starts.antt has the laws without this number
unfoldable pub siblings : Mode → (below : ℕ) → (inner : List ℕ → ℕ → Trace) → (fuel : ℕ) → List ℕ → (base at : ℕ) → Trace
siblings mode below inner zero s base at = done
siblings mode below inner (suc fuel) s base at =
    let here = meet below inner s base at (head_at mode s at) (siblings mode below inner fuel s base) in
    cond (ltb at (length s)) here done

-- the walk through a stream that starts at byte `base` of the outer one, with `below` levels left below it; on the last level
-- nothing is opened
unfoldable pub walk : Mode → (below : ℕ) → List ℕ → (base : ℕ) → Trace
walk mode zero s base = siblings mode 0 (λ l b. done) (length s) s base 0
walk mode (suc below) s base = siblings mode (suc below) (walk mode below) (length s) s base 0

-- "206: stream over 16,777,216 bytes"; in PI mode "the stream limit becomes 64 MiB"
unfoldable pub stream_limit : Mode → ℕ
stream_limit mode = cond (is_pi mode) 67108864 16777216

-- the walk through a whole stream: eight levels, the outer stream the first
unfoldable pub stream_walk : Mode → List ℕ → Trace
stream_walk mode s = let whole = walk mode 7 s 0 in cond (ltb (stream_limit mode) (length s)) (fault 206 0 (length s)) whole
