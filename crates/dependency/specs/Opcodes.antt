-- The opcodes of a dependency expression (004, EFI_FMP_DEP_PUSH_GUID to EFI_FMP_DEP_END; document 02, k: "opcodes 0x00 to 0x0D of 004 and no other, their
-- meanings from UEFI 2.10"): one list, off which reader, writer, test and evaluation are read; and a single opcode in bytes.
--
-- Refusals of a single opcode: 301 unknown opcode, 302 cut operand or text without its zero, 305 no bytes to read, 5 the writer's room.
use Rattle.std.specs.Prelude as std
use Rattle.std.specs.Prelude.{ℕ, ◌+◌, ◌<◌, ◌≡◌, MatchResult, Ok, Err, Bool, true, false, cond, not, ◌&&◌, ◌||◌, List, [], ◌∷◌, ◌++◌, ◌⊎◌, eqb, ltb, leb, length, get_or, take, drop}
use Rattle.std.proofs.Math.Option.{Option, none, some}
use Rattle.common.specs.Answers.{Answer, refused, success}
use Rattle.common.specs.Refusals.{Row, row, first_refusal, unless_refused}
use Rattle.numbers.specs.LittleEndian.{le}
use Rattle.common.specs.Refusal.{number}
use Rattle.common.specs.declared.refusal.Refusal.{Refusal}
use Rattle.common.specs.declared.refusal.Refusal.TheVariants.{UnknownOpcode}
use Rattle.dependency.specs.declared.opcodes.Read.{Read}
use Rattle.dependency.specs.declared.opcodes.Opcode.{Opcode}
use Rattle.dependency.specs.declared.opcodes.Opcode.TheVariants as O

-- ---- the list of opcodes

-- what stands on the stack: versions, which are numbers, and truths
pub data Kind : Type 0 where
  version : Kind
  truth : Kind

abbrev pub Value : Kind → Type 0
Value version = ℕ
Value truth = Bool

-- what follows an opcode: nothing, a GUID of 16 bytes, a version of 4 bytes, or a text up to and with its zero
pub data Operand : Type 0 where
  bare : Operand
  guid : Operand
  version32 : Operand
  text : Operand

-- the installed firmware: the version of each GUID, where there is one
abbrev pub Installed : Type 0
Installed = List ℕ → Option ℕ

-- a function of values of these kinds, the first of them the one taken first, the top of the stack
abbrev pub From : List Kind → Type 0 → Type 0
From [] A = A
From (k ∷ kinds) A = Value k → From kinds A

-- what an opcode leaves on the stack: nothing, or one value of a kind
abbrev pub Result : Option Kind → Type 0
Result none = Unit {0}
Result (some k) = Value k

-- a row of the list: the opcode, its operand, the kinds that it takes (the one taken first stands first), the kind that it leaves, and which value that is, by
-- the installed firmware, the operand's bytes and the values taken. The type of `meaning` follows the two columns before it: a row cannot take a version for a truth
pub record OpcodeRow : Type 0 where
  pub code : ℕ
  pub operand : Operand
  pub takes : List Kind
  pub leaves : Option Kind
  pub meaning : Installed → List ℕ → From takes (Result leaves)

abbrev pub opcode : ℕ → Operand → (takes : List Kind) (leaves : Option Kind) → (Installed → List ℕ → From takes (Result leaves)) → OpcodeRow
opcode c o t l m = record { code = c; operand = o; takes = t; leaves = l; meaning = m }

abbrev pub nothing : List Kind
nothing = []

abbrev pub one_truth : List Kind
one_truth = truth ∷ []

abbrev pub two_truths : List Kind
two_truths = truth ∷ truth ∷ []

abbrev pub two_versions : List Kind
two_versions = version ∷ version ∷ []

-- a version that may be missing; where one is, the evaluation is refused with 14 (Evaluation `lacks`), and this 0 is not answered
abbrev pub known : Option ℕ → ℕ
known none = 0
known (some v) = v

-- the last opcode, which ends an expression: "the end taking nothing"
abbrev pub end_code : ℕ
end_code = 0x0D

abbrev pub end_row : OpcodeRow
end_row = opcode end_code bare nothing none (λ installed operand. tt)

-- opcode, operand, what it takes, what it leaves, under 004's names. In a comparison the value taken first stands on the left
unfoldable pub opcodes : List OpcodeRow
opcodes =
    opcode 0x00 guid nothing (some version) (λ installed operand. known (installed operand))  -- PUSH_GUID
    ∷ opcode 0x01 version32 nothing (some version) (λ installed operand. le 4 operand 0)  -- PUSH_VERSION
    ∷ opcode 0x02 text nothing none (λ installed operand. tt)  -- VERSION_STR
    ∷ opcode 0x03 bare two_truths (some truth) (λ installed operand left right. left && right)  -- AND
    ∷ opcode 0x04 bare two_truths (some truth) (λ installed operand left right. left || right)  -- OR
    ∷ opcode 0x05 bare one_truth (some truth) (λ installed operand top. not top)  -- NOT
    ∷ opcode 0x06 bare nothing (some truth) (λ installed operand. true)  -- TRUE
    ∷ opcode 0x07 bare nothing (some truth) (λ installed operand. false)  -- FALSE
    ∷ opcode 0x08 bare two_versions (some truth) (λ installed operand left right. eqb left right)  -- EQ
    ∷ opcode 0x09 bare two_versions (some truth) (λ installed operand left right. ltb right left)  -- GT
    ∷ opcode 0x0A bare two_versions (some truth) (λ installed operand left right. leb right left)  -- GTE
    ∷ opcode 0x0B bare two_versions (some truth) (λ installed operand left right. ltb left right)  -- LT
    ∷ opcode 0x0C bare two_versions (some truth) (λ installed operand left right. leb left right)  -- LTE
    ∷ end_row  -- END
    ∷ []

-- whether a list has a row of this opcode
unfoldable pub listed : List OpcodeRow → (code : ℕ) → Bool
listed [] code = false
listed (r ∷ rows) code = eqb r.code code || listed rows code

-- that row; where there is none, which is refused with 301, END's
unfoldable pub row_among : List OpcodeRow → (code : ℕ) → OpcodeRow
row_among [] code = end_row
row_among (r ∷ rows) code = cond (eqb r.code code) r (row_among rows code)

-- "opcodes 0x00 to 0x0D of 004 and no other"
abbrev pub is_opcode : (code : ℕ) → Bool
is_opcode code = listed opcodes code

unfoldable pub row_of : (code : ℕ) → OpcodeRow
row_of code = row_among opcodes code

-- the number of each case of the code's enum
abbrev pub code_of : Opcode → ℕ
code_of O.PushGuid = 0x00
code_of O.PushVersion = 0x01
code_of O.VersionStr = 0x02
code_of O.And = 0x03
code_of O.Or = 0x04
code_of O.Not = 0x05
code_of O.True = 0x06
code_of O.False = 0x07
code_of O.Eq = 0x08
code_of O.Gt = 0x09
code_of O.Gte = 0x0A
code_of O.Lt = 0x0B
code_of O.Lte = 0x0C
code_of O.End = 0x0D

-- the result is the case of this number, or 301 for a number past the end's
abbrev pub Decodes : (code : ℕ) → std.Result Opcode Refusal → Type 0
Decodes code r = MatchResult r (λ o. code_of o ≡ code) (λ e. (e ≡ UnknownOpcode) × (end_code < code))

-- the length of a text with its zero; where it has none, one more than there are bytes
unfoldable pub text_width : List ℕ → ℕ
text_width [] = 1
text_width (x ∷ rest) = cond (eqb x 0) 1 (text_width rest + 1)

-- the length of an operand that stands at the start of these bytes
unfoldable pub width : Operand → List ℕ → ℕ
width bare s = 0
width guid s = 16
width version32 s = 4
width text s = text_width s

-- "301 unknown opcode, 302 cut operand or text without its zero": an opcode with its operand at the start of these bytes
unfoldable pub operand_refusals : (code : ℕ) → List ℕ → List Row
operand_refusals code s = row (not (is_opcode code)) 301 ∷ row (ltb (length s) (width (row_of code).operand s)) 302 ∷ []

-- ---- reading a single opcode at the start of a byte string

abbrev pub code_at : List ℕ → ℕ
code_at s = get_or s 0 0

-- the place after an opcode and its operand
unfoldable pub after : List ℕ → ℕ
after s = 1 + width (row_of (code_at s)).operand (drop 1 s)

-- the operand's bytes: those between the opcode and that place
unfoldable pub operand_of : List ℕ → List ℕ
operand_of s = take (width (row_of (code_at s)).operand (drop 1 s)) (drop 1 s)

-- "the reader gives 305 on no bytes", then 301 and 302
unfoldable pub read_refusals : List ℕ → List Row
read_refusals s = row (eqb (length s) 0) 305 ∷ operand_refusals (code_at s) (drop 1 s)

-- the reader: the opcode, and the place after its operand. The operand is the bytes from 1 up to that place (`read_operand`, proofs/Theorems)
unfoldable pub read_opcode : List ℕ → Answer
read_opcode s = unless_refused refused (first_refusal (read_refusals s)) (success (code_at s ∷ after s ∷ []))

-- the answer that the code's result stands for
abbrev pub read_answer : std.Result Read Refusal → Answer
read_answer (Ok read) = success (code_of read.opcode ∷ read.after ∷ [])
read_answer (Err e) = refused (number e)

-- ---- writing a single opcode into a room

-- what is stored: the opcode and its operand; "it drops what follows an operand"
unfoldable pub opcode_bytes : (code : ℕ) → List ℕ → List ℕ
opcode_bytes code operand = code ∷ take (width (row_of code).operand operand) operand

-- "5 for the writer's room, after 301 and 302"
unfoldable pub write_refusals : (code : ℕ) → List ℕ → (room : List ℕ) → List Row
write_refusals code operand room = operand_refusals code operand ++ (row (ltb (length room) (1 + width (row_of code).operand operand)) 5 ∷ [])

-- what the writer answers, and the room that it leaves
pub record OpcodeWritten : Type 0 where
  pub answer : Answer
  pub room : List ℕ

abbrev pub wrote : Answer → List ℕ → OpcodeWritten
wrote answer room = record { answer = answer; room = room }

-- the writer: how many bytes were stored, and the room with exactly these at its start; a refusal leaves it as it was
unfoldable pub write_opcode : (code : ℕ) → (operand room : List ℕ) → OpcodeWritten
write_opcode code operand room =
    let stored = opcode_bytes code operand in
    unless_refused (λ n. wrote (refused n) room) (first_refusal (write_refusals code operand room))
    (wrote (success (length stored ∷ [])) (stored ++ drop (length stored) room))

-- the answer that the code's result stands for
abbrev pub written_answer : std.Result ℕ Refusal → Answer
written_answer (Ok count) = success (count ∷ [])
written_answer (Err e) = refused (number e)

-- ---- for the theorems: the numbers that reader and writer refuse with

abbrev pub OfReader : ℕ → Type 0
OfReader n = (n ≡ 301) ⊎ ((n ≡ 302) ⊎ (n ≡ 305))

abbrev pub OfWriter : ℕ → Type 0
OfWriter n = (n ≡ 301) ⊎ ((n ≡ 302) ⊎ (n ≡ 5))
