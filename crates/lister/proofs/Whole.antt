-- What the lister reads is the first bytes of its input, and what it writes is their listing.
use Rattle.std.proofs.Common.{◌≡◌, ℕ, ◌<◌, ◌≤◌, Bool, true, false, List, [], ◌++◌, length, take, drop, None, Some, IfSome, Result, Ok, Err, OnOk, arith, refl, sym, ap, ◌∙◌, subst, append-nil, take_all}
use borrow.Author.Tests.{ltb-true, ltb-false}
use lib.Dec.{ltb}
use lib.Seq.{take-append-le}
use Rattle.std.specs.declared.option.Option.{Option}
use Rattle.std.specs.Io.KnownBytes.{Appends, Consumes, IsAtEnd}
use Rattle.listing.specs.Listing.{listing, ListedRoom, listed_room, listed_answer, list_volume}
use Rattle.listing.proofs.Room.{list_done}

-- a reader gave `got`, at most `most` bytes, and where it gave fewer it is at its end
pub first_bytes : (a b : Option (List ℕ)) (got : List ℕ) (most : ℕ) → Consumes a b got → length got ≤ most → (length got < most → IsAtEnd b)
    → IfSome a (λ xs. take most xs ≡ got)
first_bytes None b got most p h e = tt
first_bytes (Some xs) None got most p h e = absurd p
first_bytes (Some xs) (Some ys) got most p h e = ap (take most) p ∙ go (ltb (length got) most) refl
  where
    go : (t : Bool) → ltb (length got) most ≡ t → take most (got ++ ys) ≡ got
    go true q =
        let none : ys ≡ [] = e (ltb-true _ _ q) in
        ap (λ l. take most (got ++ l)) none ∙ ap (take most) (append-nil got) ∙ take_all most got h
    go false q =
        let less = ltb-false (length got) most q in
        take-append-le most got ys less ∙ take_all most got h

-- a text that was stored in a room that holds the listing is the listing
pub listed_text : (s room after : List ℕ) (k : ℕ) → length (listing s) ≤ length room
    → listed_room (listed_answer (Ok k)) after ≡ list_volume s room → take k after ≡ listing s
unfolding listed_answer
listed_text s room after k h call =
    let both = call ∙ list_done s room h in
    let text : after ≡ listing s ++ drop (length (listing s)) room = ap (λ (l : ListedRoom). l.room) both in
    let answer = ap (λ (l : ListedRoom). l.answer) both in
    let same : k ≡ length (listing s) = cc in
    ap (take k) text ∙ take-append-le k (listing s) (drop (length (listing s)) room) (omega arith) ∙ take_all k (listing s) (omega arith)

-- what was written is the listing of the first bytes, where these are known
pub listed_whole : {T E : Type 0} (r : Result T E) (a old new : Option (List ℕ)) (got text : List ℕ) (most : ℕ)
    → IfSome a (λ xs. take most xs ≡ got) → text ≡ listing got → OnOk r (Appends old new text)
    → OnOk r (IfSome a (λ xs. Appends old new (listing (take most xs))))
listed_whole (Ok v) None old new got text most p q w = tt
listed_whole (Ok v) (Some xs) old new got text most p q w = subst (Appends old new) (q ∙ ap listing (sym p)) w
listed_whole (Err e) a old new got text most p q w = tt
