-- The listing of an extended header's entries (document 02, a): "a listing that opens the volume itself and gives the first byte in the volume, size and
-- type of the entry numbered, from 0, or 14".
use Rattle.std.specs.Prelude.{ℕ, zero, suc, cond, List, [], ◌∷◌, ◌==◌, Result, Ok, Err}
use Rattle.std.proofs.Math.Option.{Option, none, some}
use Rattle.common.specs.Answers.{Answer, refused, success, refusal_in}
use Rattle.common.specs.Refusal.{number}
use Rattle.common.specs.declared.refusal.Refusal.{Refusal}
use Rattle.common.specs.Refusals.{unless_refused}
use Rattle.volume.specs.ExtendedHeader.{Entry, ext_offset, ext_entries}
use Rattle.volume.specs.Header.{revision_at, open_volume}
use Rattle.volume.specs.declared.extended_entry.ExtEntry.{ExtEntry}

-- the entries that are good; where one is at fault opening refuses the volume, and none is listed
unfoldable pub entries_listed : Option (List Entry) → List Entry
entries_listed none = []
entries_listed (some entries) = entries

-- the entries of a volume's extended header; none in edition 1, and none where the offset is 0
unfoldable pub ext_entries_of : List ℕ → List Entry
ext_entries_of s = let o = ext_offset (revision_at s) s in cond (o == 0) [] (entries_listed (ext_entries s o))

-- the answer for the entry of number n, from 0: its first byte, size and type, or 14
unfoldable pub entry_of : List Entry → ℕ → Answer
entry_of [] n = refused 14
entry_of (e ∷ rest) zero = success (e.first ∷ e.size ∷ e.type ∷ [])
entry_of (e ∷ rest) (suc n) = entry_of rest n

-- the listing "opens the volume itself", at base 0: opening's refusal, or the entry
unfoldable pub ext_entry : List ℕ → ℕ → Answer
ext_entry s n = unless_refused (λ number. refused number) (refusal_in (open_volume s 0).answer) (entry_of (ext_entries_of s) n)

-- what the code answers: the values of an entry, or a refusal with its number
unfoldable pub entry_answer : Result ExtEntry Refusal → Answer
entry_answer (Ok e) = success (e.first ∷ e.size ∷ e.entry_type ∷ [])
entry_answer (Err e) = refused (number e)
