-- The stores of appending: a header's fields one after another are the header, padding, header and body one after another are the leaf
-- with its padding, and it takes the bytes up to the new used count.
use Prim.Native.Nat.{ℕ, zero, suc, ◌+◌, ◌-◌, ◌%◌, ◌≤◌, ◌<◌}
use mathlib.Core.Path.{◌≡◌, refl, sym, ap, ◌∙◌}
use mathlib.Core.Bool.{Bool, true, false, cond}
use mathlib.Core.List.{List, [], ◌∷◌, ◌++◌, append_assoc, append-nil}
use mathlib.Core.Logic.{◌⊎◌, inl, inr}
use native.Mathlib.Nat.{zero-add}
use native.Mathlib.Omega.{arith}
use borrow.Author.Tests.{eq-eqb, ne_eqb}
use lib.ListN.{length, take, drop, replicate, length-append, length-drop, length-replicate, drop_of_length-le}
use lib.Seq.{sets, length-sets, sets-eq, drop-drop, length-take-le}
use Rattle.common.proofs.Lists.{sets-append}
use Rattle.numbers.specs.LittleEndian.{le_bytes}
use Rattle.numbers.proofs.LittleEndian.{length-le_bytes}
use Rattle.sections.specs.Types.{common_header}
use Rattle.sections.specs.Header.{largest_field, long_header}
use Rattle.sections.specs.Walk.{aligned, stream_limit}
use Rattle.sections.specs.Append.{needs_long, leaf_header, used_after, leaf_start, added_with, added}
use Rattle.sections.specs.declared.header.Mode.{Mode}
use Rattle.sections.specs.declared.header.Mode.TheVariants.{Framework, Pi}

-- what is put over a part that is as long is a run of stores into the whole
sets-part : (b l : List ℕ) (at n : ℕ) → n ≡ length b → at + n ≤ length l → take at l ++ (b ++ drop n (drop at l)) ≡ sets l at b
sets-part b l at n e h = rw (drop-drop, e) (sym (sets-eq b l at (omega arith) ∙ append_assoc (take at l) b (drop (at + length b) l)))

-- stores over a whole list
sets_whole : (b l : List ℕ) → length b ≡ length l → sets l 0 b ≡ b
sets_whole b l e = sets-eq b l 0 (omega arith) ∙ rw (zero-add, drop_of_length-le l {i = length b} (omega arith)) (append-nil b)

zero_bytes : (n : ℕ) → le_bytes n 0 ≡ replicate n 0
unfolding le_bytes
zero_bytes zero = refl
zero_bytes (suc n) = ap (λ (l : List ℕ). 0 ∷ l) (zero_bytes n)

one_byte : (x : ℕ) → x < 256 → le_bytes 1 x ≡ x ∷ []
unfolding le_bytes
one_byte x h = let e : x % 256 ≡ x = omega arith in rw e

-- stores that begin where those before them end
then_sets : (a b l m : List ℕ) (i j : ℕ) → m ≡ sets l i a → j ≡ i + length a → sets m j b ≡ sets l i (a ++ b)
then_sets a b l m i j e q = rw (e, q) (sym (sets-append a b l i))

-- bounds of a leaf's header and of the stream limit
pub most_header : (mode : Mode) (m : ℕ) {header : ℕ} → header ≡ leaf_header mode m → header ≤ long_header
unfolding leaf_header
most_header mode m e = go (needs_long mode m) e
  where
    go : (long : Bool) {header : ℕ} → header ≡ cond long long_header common_header → header ≤ long_header
    go true e = omega arith
    go false e = omega arith

pub least_header : (mode : Mode) (m : ℕ) → common_header ≤ leaf_header mode m
unfolding leaf_header
least_header mode m = go (needs_long mode m)
  where
    go : (long : Bool) → common_header ≤ cond long long_header common_header
    go true = omega arith
    go false = omega arith

pub most_limit : (mode : Mode) {limit : ℕ} → limit ≡ stream_limit mode → limit ≤ 67108864
unfolding stream_limit
most_limit Framework e = omega arith
most_limit Pi e = omega arith

-- which header it is
pub header_long : (mode : Mode) (m : ℕ) → needs_long mode m ≡ true → leaf_header mode m ≡ long_header
unfolding leaf_header
header_long mode m e = rw e

pub header_short : (mode : Mode) (m : ℕ) → needs_long mode m ≡ false → leaf_header mode m ≡ common_header
unfolding leaf_header
header_short mode m e = rw e

pub either_header : (mode : Mode) (m : ℕ) {header : ℕ} → header ≡ leaf_header mode m → (header ≡ 4) ⊎ (header ≡ 8)
unfolding leaf_header
either_header mode m e = go (needs_long mode m) e
  where
    go : (long : Bool) {header : ℕ} → header ≡ cond long long_header common_header → (header ≡ 4) ⊎ (header ≡ 8)
    go true e = inr e
    go false e = inl e

pub either_least : {header : ℕ} → (header ≡ 4) ⊎ (header ≡ 8) → 4 ≤ header
either_least (inl e) = omega arith
either_least (inr e) = omega arith

-- what a leaf's header holds, by its length
pub short_start : (header t m : ℕ) → (header ≡ 8 → ⊥) → leaf_start header t m ≡ le_bytes 3 (header + m) ++ t ∷ []
unfolding leaf_start
short_start header t m short = rw (ne_eqb header long_header short)

pub long_start : (header t m : ℕ) → header ≡ 8 → leaf_start header t m ≡ le_bytes 3 largest_field ++ t ∷ le_bytes 4 (header + m)
unfolding leaf_start
long_start header t m long = rw (eq-eqb header long_header long)

-- a size field and a type stored one after another
pub common_stored : (l l₁ l₂ : List ℕ) (field t : ℕ) → l₁ ≡ sets l 0 (le_bytes 3 field) → l₂ ≡ sets l₁ 3 (le_bytes 1 t) → t < 256
    → l₂ ≡ sets l 0 (le_bytes 3 field ++ t ∷ [])
common_stored l l₁ l₂ field t e₁ e₂ small =
    e₂ ∙ rw (one_byte t small) (then_sets (le_bytes 3 field) (t ∷ []) l l₁ 0 3 e₁ (omega (arith, length-le_bytes 3 field)))

common_length : (field t : ℕ) → length (le_bytes 3 field ++ t ∷ []) ≡ 4
unfolding le_bytes
common_length field t = refl

-- the same over the first 4 bytes of a header, in the buffer
common_there : (l part : List ℕ) (start n field t : ℕ) → part ≡ sets (take n (drop start l)) 0 (le_bytes 3 field ++ t ∷ []) → n ≡ 4 → start + 4 ≤ length l
    → take start l ++ (part ++ drop n (drop start l)) ≡ sets l start (le_bytes 3 field ++ t ∷ [])
common_there l part start n field t e four h =
    let b : List ℕ = le_bytes 3 field ++ t ∷ [] in
    let lb : length b ≡ 4 = common_length field t in
    let lp : length (take n (drop start l)) ≡ n = length-take-le n (drop start l) (simp length-drop (omega arith)) in
    rw (e ∙ sets_whole b (take n (drop start l)) (omega arith)) (sets-part b l start n (omega arith) (omega arith))

-- a short header is that; a long one has FF FF FF there and a 32-bit size behind it
pub short_stored : (l part : List ℕ) (start n header m size t : ℕ) → part ≡ sets (take n (drop start l)) 0 (le_bytes 3 size ++ t ∷ []) → n ≡ 4
    → start + 4 ≤ length l → (header ≡ 8 → ⊥) → size ≡ header + m
    → take start l ++ (part ++ drop n (drop start l)) ≡ sets l start (leaf_start header t m)
short_stored l part start n header m size t e four h short se =
    common_there l part start n size t e four h ∙ rw (short_start header t m short, se)

pub long_stored : (l part after : List ℕ) (start n behind header m size t : ℕ)
    → part ≡ sets (take n (drop start l)) 0 (le_bytes 3 largest_field ++ t ∷ []) → n ≡ 4 → start + 4 ≤ length l
    → after ≡ sets (take start l ++ (part ++ drop n (drop start l))) behind (le_bytes 4 size) → header ≡ 8 → size ≡ header + m → behind ≡ start + 4
    → after ≡ sets l start (leaf_start header t m)
unfolding le_bytes
long_stored l part after start n behind header m size t e four h ea long se be =
    ea ∙ then_sets (le_bytes 3 largest_field ++ t ∷ []) (le_bytes 4 size) l _ start behind (common_there l part start n largest_field t e four h) be
    ∙ rw (se, long_start header t m long)

-- the padding and the leaf take the bytes up to the new used count
pub length-leaf_start : (header t m : ℕ) → (header ≡ 4) ⊎ (header ≡ 8) → length (leaf_start header t m) ≡ header
unfolding leaf_start le_bytes
length-leaf_start header t m (inl e) = rw e
length-leaf_start header t m (inr e) = rw e

pub length-added : (mode : Mode) (used t : ℕ) (body : List ℕ) → used + length (added mode used t body) ≡ used_after mode used (length body)
unfolding added_with
length-added mode used t body =
    let start = leaf_start (leaf_header mode (length body)) t (length body) in
    let a = length-append (replicate (aligned used - used) 0) (start ++ body) in
    let b : length (replicate {A = ℕ} (aligned used - used) 0) ≡ aligned used - used = length-replicate (aligned used - used) 0 in
    let c = length-append start body in
    let d : length start ≡ leaf_header mode (length body) = length-leaf_start _ t (length body) (either_header mode (length body) refl) in
    omega arith

-- padding, header and body stored one after another, each where the one before ends, are the leaf stored with its padding
pub leaf_stored : (l l₁ l₂ body w : List ℕ) (header used pad start t from k : ℕ) → (header ≡ 4) ⊎ (header ≡ 8)
    → l₁ ≡ sets l used (le_bytes pad 0) → l₂ ≡ sets l₁ start (leaf_start header t (length body))
    → w ≡ body
    → start ≡ aligned used → pad ≡ start - used → from ≡ start + header → k ≡ length body → from + k ≤ length l
    → take from l₂ ++ (w ++ drop k (drop from l₂)) ≡ sets l used (added_with header used t body)
unfolding added_with
leaf_stored l l₁ l₂ body w header used pad start t from k either e₁ e₂ ew sa pe fe n fits =
    let z : List ℕ = le_bytes pad 0 in
    let h : List ℕ = leaf_start header t (length body) in
    let lz : length z ≡ pad = length-le_bytes pad 0 in
    let lh : length h ≡ header = length-leaf_start header t (length body) either in
    let lzh : length (z ++ h) ≡ length z + length h = length-append z h in
    let s₂ : l₂ ≡ sets l used (z ++ h) = e₂ ∙ then_sets z h l l₁ used start e₁ (omega arith) in
    let s₃ : sets l₂ from body ≡ sets l used ((z ++ h) ++ body) = then_sets (z ++ h) body l l₂ used from s₂ (omega arith) in
    let l₂-length : length l₂ ≡ length l = ap length s₂ ∙ length-sets l used (z ++ h) in
    let padding : z ≡ replicate (aligned used - used) 0 = zero_bytes pad ∙ rw (pe, sa) in
    let bytes : (z ++ h) ++ body ≡ replicate (aligned used - used) 0 ++ (h ++ body) = rw padding (simp append_assoc) in
    rw ew (sets-part body l₂ from k n (omega arith)) ∙ s₃ ∙ ap (sets l used) bytes

-- the buffer with the padding and the leaf stored
pub buffer_stored : (mode : Mode) (l : List ℕ) (used t : ℕ) (body : List ℕ) → used_after mode used (length body) ≤ length l
    → sets l used (added mode used t body) ≡ take used l ++ added mode used t body ++ drop (used_after mode used (length body)) l
buffer_stored mode l used t body h =
    let n = length-added mode used t body in
    sets-eq (added mode used t body) l used (omega arith) ∙ ap (λ (k : ℕ). take used l ++ added mode used t body ++ drop k l) n
