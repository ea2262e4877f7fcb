-- An operand's length is found in its own bytes: others behind them, or none, make no difference. So what was written is read back, and what was
-- read is written back.
use Prim.Native.Nat.{ℕ, suc, ◌+◌, ◌-◌, ◌^◌, ◌≤◌, ◌<◌}
use mathlib.Core.Path.{◌≡◌, refl, sym, ap, ap₂, ◌∙◌}
use mathlib.Core.Bool.{Bool, true, false, cond}
use mathlib.Core.List.{List, [], ◌∷◌, ◌++◌, append_assoc, append-nil}
use mathlib.Core.Option.{Option, none, some}
use native.Mathlib.Numerals.{add-one}
use native.Mathlib.Omega.{arith}
use borrow.Author.Tests.{ne_eqb, le-ltb, ltb-false, eqb-false}
use lib.Dec.{eqb}
use lib.ListN.{length, get_or, take, drop, length-append, take-append-drop}
use lib.Seq.{take-append-le, length-take-le, take_all, get_or-take}
use Rattle.numbers.specs.LittleEndian.{le, le_bytes}
use Rattle.numbers.proofs.LittleEndian.{le_past, le_same, le_skip, le-le_bytes, length-le_bytes}
use Rattle.common.specs.Answers.{refused, success}
use Rattle.common.specs.Refusals.{first_refusal, unless_refused}
use Rattle.common.proofs.Refusals.{row-passed, row_passes, no_row}
use Rattle.dependency.specs.Opcodes.{Operand, bare, guid, version32, text, end_code, opcodes, row_among, row_of, text_width, width, operand_refusals, code_at, after, operand_of, read_refusals, read_opcode, opcode_bytes, write_refusals, OpcodeWritten, wrote, write_opcode}
use Rattle.dependency.proofs.opcodes.Rows.{bare_row, known-opcode, opcode-known}
use Rattle.dependency.proofs.opcodes.Single.{opened, opcode-length, writes}

-- ---- texts

text_more : (u t : List ℕ) → text_width u ≤ length u → text_width (u ++ t) ≡ text_width u
unfolding text_width
text_more [] t h = absurd (omega arith)
text_more (x ∷ u) t h = go (eqb x 0) (text_more u t) h
  where
    go : (b : Bool) → (text_width u ≤ length u → text_width (u ++ t) ≡ text_width u) → cond b 1 (text_width u + 1) ≤ suc (length u)
        → cond b 1 (text_width (u ++ t) + 1) ≡ cond b 1 (text_width u + 1)
    go true ih h = refl
    go false ih h = ap (λ (n : ℕ). n + 1) (ih (omega arith))

text_alone : (u : List ℕ) → text_width u ≤ length u → text_width (take (text_width u) u) ≡ text_width u
unfolding text_width
text_alone [] h = absurd (omega arith)
text_alone (x ∷ u) h = go (eqb x 0) refl (text_alone u) h
  where
    go : (b : Bool) → eqb x 0 ≡ b → (text_width u ≤ length u → text_width (take (text_width u) u) ≡ text_width u) → cond b 1 (text_width u + 1) ≤ suc (length u)
        → text_width (take (cond b 1 (text_width u + 1)) (x ∷ u)) ≡ cond b 1 (text_width u + 1)
    go true e ih h = rw e
    go false e ih h = rw (add-one (text_width u), e) (ap (λ (n : ℕ). n + 1) (ih (omega arith)) ∙ add-one (text_width u))

-- ---- operands

pub width_more : (o : Operand) (u t : List ℕ) → width o u ≤ length u → width o (u ++ t) ≡ width o u
unfolding width
width_more bare u t h = refl
width_more guid u t h = refl
width_more version32 u t h = refl
width_more text u t h = text_more u t h

pub width_alone : (o : Operand) (u : List ℕ) → width o u ≤ length u → width o (take (width o u) u) ≡ width o u
unfolding width
width_alone bare u h = refl
width_alone guid u h = refl
width_alone version32 u h = refl
width_alone text u h = text_alone u h

-- ---- the round trips

-- an opcode with its operand and any bytes behind reads as itself
reads_bytes : (c : ℕ) (u t : List ℕ) → c ≤ end_code → width (row_of c).operand u ≡ length u
    → (read_opcode (c ∷ (u ++ t)) ≡ success (c ∷ (1 + length u) ∷ [])) × (operand_of (c ∷ (u ++ t)) ≡ u)
unfolding read_opcode read_refusals operand_refusals after operand_of
reads_bytes c u t h e =
    let w : width (row_of c).operand (u ++ t) ≡ length u = width_more (row_of c).operand u t (omega arith) ∙ e in
    let l = length-append u t in
    let fits : width (row_of c).operand (u ++ t) ≤ length (u ++ t) = omega arith in
    let some_bytes : (suc (length (u ++ t)) ≡ 0 → ⊥) = λ z. omega arith in
    let passed : first_refusal (read_refusals (c ∷ (u ++ t))) ≡ none =
    row_passes _ _ _ _ (ne_eqb _ _ some_bytes) (row_passes _ _ _ _ (known-opcode _ h) (row_passes _ _ _ _ (le-ltb _ _ fits) no_row)) in
    (rw (passed, w), rw (w, take-append-le (length u) u t (omega arith)) (take_all (length u) u (omega arith)))

-- a writer that answers a count was not refused, and the count is that of the opcode's bytes
written_none : (c : ℕ) (operand room : List ℕ) (n : ℕ) → (write_opcode c operand room).answer ≡ success (n ∷ [])
    → (first_refusal (write_refusals c operand room) ≡ none) × (length (opcode_bytes c operand) ≡ n)
unfolding write_opcode
written_none c operand room n = go (first_refusal (write_refusals c operand room))
  where
    stored : OpcodeWritten
    stored = wrote (success (length (opcode_bytes c operand) ∷ [])) (opcode_bytes c operand ++ drop (length (opcode_bytes c operand)) room)

    go : (o : Option ℕ) → (unless_refused (λ m. wrote (refused m) room) o stored).answer ≡ success (n ∷ []) → (o ≡ none) × (length (opcode_bytes c operand) ≡ n)
    go none q = (refl, cc)
    go (some m) q = let z : ◌≡◌ {A = ℕ} 0 1 = cc in absurd (omega arith)

module _ (c : ℕ) (operand room : List ℕ) (n : ℕ) (ok : (write_opcode c operand room).answer ≡ success (n ∷ [])) where
  abbrev own : List ℕ
  own = take (width (row_of c).operand operand) operand

  -- the parts of what was written
  pub record Written : Type 0 where
    pub known : c ≤ end_code
    pub there : width (row_of c).operand operand ≤ length operand
    pub count : 1 + width (row_of c).operand operand ≡ n
    pub fits : n ≤ length room
    pub stored : (write_opcode c operand room).room ≡ c ∷ (own ++ drop n room)

  pub written : Written
  unfolding write_refusals operand_refusals opcode_bytes
  written =
      let passed = written_none c operand room n ok in
      let first = row-passed _ _ passed.0 in
      let second = row-passed _ _ first.1 in
      let third = row-passed _ _ second.1 in
      let there : width (row_of c).operand operand ≤ length operand = ltb-false _ _ second.0 in
      let long = opcode-length c operand there in
      let many = passed.1 in
      let fit : 1 + width (row_of c).operand operand ≤ length room = ltb-false _ _ third.0 in
      let stored : (write_opcode c operand room).room ≡ opcode_bytes c operand ++ drop n room = ap (λ (w : OpcodeWritten). w.room) (writes c operand room passed.0) ∙ ap (λ (k : ℕ). opcode_bytes c operand ++ drop k room) many in
      record { known = opcode-known _ first.0; there = there; count = omega arith; fits = omega arith; stored = stored }

  -- what was written reads back: the same opcode, the same operand, and the count as the place after it
  pub written_back : (read_opcode (write_opcode c operand room).room ≡ success (c ∷ n ∷ [])) × (operand_of (write_opcode c operand room).room ≡ take (n - 1) operand)
  written_back =
      let w = written in
      let count = w.count in
      let l : length own ≡ width (row_of c).operand operand = length-take-le _ operand w.there in
      let alone : width (row_of c).operand own ≡ length own = width_alone (row_of c).operand operand w.there ∙ sym l in
      let r = reads_bytes c own (drop n room) w.known alone in
      let place : 1 + length own ≡ n = omega arith in
      let many : width (row_of c).operand operand ≡ n - 1 = omega arith in
      (rw w.stored r.0 ∙ ap (λ (k : ℕ). success (c ∷ k ∷ [])) place, rw w.stored r.1 ∙ ap (λ (k : ℕ). take k operand) many)

-- what follows an operand is dropped
module _ (c : ℕ) (operand more room : List ℕ) (h : width (row_of c).operand operand ≤ length operand) where
  same_bytes : opcode_bytes c (operand ++ more) ≡ opcode_bytes c operand
  unfolding opcode_bytes
  same_bytes = rw (width_more (row_of c).operand operand more h, take-append-le (width (row_of c).operand operand) operand more h)

  same_refusal : first_refusal (write_refusals c (operand ++ more) room) ≡ first_refusal (write_refusals c operand room)
  unfolding write_refusals operand_refusals
  same_refusal =
      let l = length-append operand more in
      let longer : width (row_of c).operand operand ≤ length (operand ++ more) = omega arith in
      rw (width_more (row_of c).operand operand more h, le-ltb _ _ h, le-ltb _ _ longer)

  pub write_more : write_opcode c (operand ++ more) room ≡ write_opcode c operand room
  unfolding write_opcode
  write_more = rw (same_refusal, same_bytes)

-- the first byte and those of the operand are those up to the place after it
front : (l : List ℕ) (w : ℕ) → (length l ≡ 0 → ⊥) → get_or l 0 0 ∷ take w (drop 1 l) ≡ take (1 + w) l
front [] w n = absurd (n refl)
front (x ∷ l) w n = let q : 1 + w ≡ suc w = omega arith in rw q

-- the parts of what was read
pub record Parts (s : List ℕ) (c a : ℕ) : Type 0 where
  pub known : c ≤ end_code
  pub place : 1 + length (operand_of s) ≡ a
  pub alone : width (row_of c).operand (operand_of s) ≡ length (operand_of s)
  pub bytes : c ∷ operand_of s ≡ take a s

pub parts : (s : List ℕ) (c a : ℕ) → read_opcode s ≡ success (c ∷ a ∷ []) → Parts s c a
unfolding read_refusals operand_refusals operand_of after
parts s c a e =
    let o = opened s c a e in
    let first = row-passed _ _ o.passed in
    let second = row-passed _ _ first.1 in
    let third = row-passed _ _ second.1 in
    let some_bytes : length s ≡ 0 → ⊥ = eqb-false _ _ first.0 in
    let w : ℕ = width (row_of (code_at s)).operand (drop 1 s) in
    let fits : w ≤ length (drop 1 s) = ltb-false _ _ third.0 in
    let long : length (take w (drop 1 s)) ≡ w = length-take-le w (drop 1 s) fits in
    let place : 1 + w ≡ a = o.place in
    record {
      known = rw (← o.code) (opcode-known _ second.0);
      place = omega arith;
      alone = rw (← o.code) (width_alone (row_of (code_at s)).operand (drop 1 s) fits ∙ sym long);
      bytes = rw (← place, ← o.code) (front s w some_bytes);
    }

-- the operand that was read is what lies between the opcode and the place after it
pub operand_between : (s : List ℕ) (c a : ℕ) → read_opcode s ≡ success (c ∷ a ∷ []) → operand_of s ≡ take (a - 1) (drop 1 s)
unfolding operand_of after
operand_between s c a e =
    let o = opened s c a e in
    let place = o.place in
    let w : width (row_of (code_at s)).operand (drop 1 s) ≡ a - 1 = omega arith in
    ap (λ (k : ℕ). take k (drop 1 s)) w

-- the place after a GUID, and a version: the number in the four bytes after its opcode
pub read_place : (s : List ℕ) (c a : ℕ) → read_opcode s ≡ success (c ∷ a ∷ []) → a ≡ 1 + width (row_of c).operand (drop 1 s)
unfolding after
read_place s c a e = let o = opened s c a e in sym o.place ∙ ap (λ (k : ℕ). 1 + width (row_of k).operand (drop 1 s)) o.code

pub place_guid : (s : List ℕ) → 1 + width (row_of 0x00).operand (drop 1 s) ≡ 17
unfolding opcodes row_among row_of width
place_guid s = refl

le_front : (t : List ℕ) → le 4 (take 4 t) 0 ≡ le 4 t 0
le_front t = le_same 4 (take 4 t) t 0 (λ i l h. get_or-take 4 t i 0 (omega arith))

le_later : (s : List ℕ) → le 4 (drop 1 s) 0 ≡ le 4 s 1
le_later [] = le_past 4 [] 0 (omega arith) ∙ sym (le_past 4 [] 1 (omega arith))
le_later (x ∷ t) = sym (le_skip 4 (x ∷ []) t 0)

pub read_bare : (s : List ℕ) (c a : ℕ) → read_opcode s ≡ success (c ∷ a ∷ []) → 3 ≤ c → a ≡ 1
unfolding width
read_bare s c a e h = read_place s c a e ∙ rw (bare_row c h)

place_version : (s : List ℕ) → 1 + width (row_of 0x01).operand (drop 1 s) ≡ 5
unfolding opcodes row_among row_of width
place_version s = refl

pub read_version : (s : List ℕ) (a : ℕ) → read_opcode s ≡ success (0x01 ∷ a ∷ []) → (a ≡ 5) × (le 4 (operand_of s) 0 ≡ le 4 s 1)
read_version s a e =
    let p : a ≡ 5 = read_place s 0x01 a e ∙ place_version s in
    let between : operand_of s ≡ take 4 (drop 1 s) = operand_between s 0x01 a e ∙ ap (λ (k : ℕ). take (k - 1) (drop 1 s)) p in
    (p, ap (λ (l : List ℕ). le 4 l 0) between ∙ le_front (drop 1 s) ∙ le_later s)

width_version : (l : List ℕ) → width (row_of 0x01).operand l ≡ 4
unfolding opcodes row_among row_of width
width_version l = refl

-- a version that was written reads back
module _ (v : ℕ) (room : List ℕ) (small : v < 2 ^ 32) (h : 5 ≤ length room) where
  wrote_version : (write_opcode 0x01 (le_bytes 4 v) room).answer ≡ success (5 ∷ [])
  unfolding write_refusals operand_refusals
  wrote_version =
      let l = length-le_bytes 4 v in
      let w = width_version (le_bytes 4 v) in
      let there : width (row_of 0x01).operand (le_bytes 4 v) ≤ length (le_bytes 4 v) = omega arith in
      let fits : 1 + width (row_of 0x01).operand (le_bytes 4 v) ≤ length room = omega arith in
      let passed : first_refusal (write_refusals 0x01 (le_bytes 4 v) room) ≡ none = row_passes _ _ _ _ (known-opcode 1 (omega arith)) (row_passes _ _ _ _ (le-ltb _ _ there) (row_passes _ _ _ _ (le-ltb _ _ fits) no_row)) in
      let long : length (opcode_bytes 0x01 (le_bytes 4 v)) ≡ 5 = opcode-length 0x01 (le_bytes 4 v) there ∙ omega arith in
      ap (λ (o : OpcodeWritten). o.answer) (writes 0x01 (le_bytes 4 v) room passed) ∙ ap (λ (k : ℕ). success (k ∷ [])) long

  pub version_back : ((write_opcode 0x01 (le_bytes 4 v) room).answer ≡ success (5 ∷ [])) × (le 4 (operand_of (write_opcode 0x01 (le_bytes 4 v) room).room) 0 ≡ v)
  version_back =
      let back = (written_back 0x01 (le_bytes 4 v) room 5 wrote_version).1 in
      let l = length-le_bytes 4 v in
      let whole : take 4 (le_bytes 4 v) ≡ le_bytes 4 v ++ [] = take_all 4 (le_bytes 4 v) (omega arith) ∙ sym (append-nil (le_bytes 4 v)) in
      (wrote_version, ap (λ (o : List ℕ). le 4 o 0) (back ∙ whole) ∙ le-le_bytes 4 v [] (omega arith))

-- what was read writes back to the same bytes
read_bytes : (s : List ℕ) (c a : ℕ) → read_opcode s ≡ success (c ∷ a ∷ []) → opcode_bytes c (operand_of s) ≡ take a s
unfolding opcode_bytes
read_bytes s c a e =
    let p = parts s c a e in
    rw (p.alone, take_all (length (operand_of s)) (operand_of s) (omega arith)) p.bytes

pub read_back : (s : List ℕ) (c a : ℕ) → read_opcode s ≡ success (c ∷ a ∷ []) → (room : List ℕ) → a ≤ length room
    → write_opcode c (operand_of s) room ≡ wrote (success (a ∷ [])) (take a s ++ drop a room)
unfolding write_refusals operand_refusals
read_back s c a e room h =
    let p = parts s c a e in
    let place = p.place in
    let alone = p.alone in
    let there : width (row_of c).operand (operand_of s) ≤ length (operand_of s) = omega arith in
    let fits : 1 + width (row_of c).operand (operand_of s) ≤ length room = omega arith in
    let passed : first_refusal (write_refusals c (operand_of s) room) ≡ none = row_passes _ _ _ _ (known-opcode _ p.known) (row_passes _ _ _ _ (le-ltb _ _ there) (row_passes _ _ _ _ (le-ltb _ _ fits) no_row)) in
    let long : length (opcode_bytes c (operand_of s)) ≡ a = opcode-length c (operand_of s) there ∙ omega arith in
    writes c (operand_of s) room passed ∙ ap₂ (λ (k : ℕ) (l : List ℕ). wrote (success (k ∷ [])) (l ++ drop k room)) long (read_bytes s c a e)

-- and bytes behind it make no difference
module _ (s t : List ℕ) (c a : ℕ) (e : read_opcode s ≡ success (c ∷ a ∷ [])) where
  whole : s ++ t ≡ c ∷ (operand_of s ++ (drop a s ++ t))
  whole =
      let p = parts s c a e in
      ap (λ (l : List ℕ). l ++ t) (sym (take-append-drop a s) ∙ ap (λ (l : List ℕ). l ++ drop a s) (sym p.bytes))
      ∙ ap (λ (l : List ℕ). c ∷ l) (append_assoc (operand_of s) (drop a s) t)

  pub more_read : (read_opcode (s ++ t) ≡ success (c ∷ a ∷ [])) × (operand_of (s ++ t) ≡ operand_of s)
  more_read =
      let p = parts s c a e in
      let r = reads_bytes c (operand_of s) (drop a s ++ t) p.known p.alone in
      (rw whole r.0 ∙ ap (λ (n : ℕ). success (c ∷ n ∷ [])) p.place, ap operand_of whole ∙ r.1)
