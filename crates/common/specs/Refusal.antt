-- The code's refusals: document 01's and 02's number of each, and the refusal that a result is.
use Rattle.std.specs.Prelude.{ℕ, Result, Ok, Err}
use Rattle.std.proofs.Math.Option.{Option, none, some}
use Rattle.common.specs.declared.refusal.Refusal.{Refusal}
use Rattle.common.specs.declared.refusal.Refusal.TheVariants as R

-- the documents' number
abbrev pub number : Refusal → ℕ
number R.InvalidParameter = 2
number R.Unsupported = 3
number R.BufferTooSmall = 5
number R.NotFound = 14
number R.AccessDenied = 15
number R.NoHeader = 101
number R.WrongSignature = 102
number R.UnknownRevision = 103
number R.WrongHeaderLength = 104
number R.WrongWordSum = 105
number R.WrongBlockMap = 106
number R.WrongLength = 107
number R.WrongAttributes = 108
number R.VolumeCut = 109
number R.UnalignedBase = 110
number R.UnlawfulState = 111
number R.WrongExtendedHeader = 112
number R.SectionCut = 201
number R.SectionTooShort = 202
number R.SectionTooLong = 203
number R.WrongContents = 204
number R.TooDeep = 205
number R.StreamTooLong = 206
number R.NonzeroPadding = 207
number R.WrongTotal = 208
number R.UnknownOpcode = 301
number R.OperandCut = 302
number R.StackExceeded = 303
number R.WrongKind = 304
number R.NoEnd = 305

-- the number of the refusal that a result is, where it is one
abbrev pub refusal_of : {A : Type 0} → Result A Refusal → Option ℕ
refusal_of (Ok value) = none
refusal_of (Err refusal) = some (number refusal)
