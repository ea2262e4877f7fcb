-- Laws of decimal text: without the counter of `places_from`, and for the loop that makes digits.
use Prim.Native.Nat.{ℕ, zero, suc, ◌+◌, ◌-◌, ◌/◌, ◌%◌, ◌^◌, ◌≤◌, ◌<◌, suc-le-suc}
use mathlib.Core.Path.{◌≡◌, refl, sym, ap, ap₂, ◌∙◌}
use mathlib.Core.Bool.{Bool, true, false, cond}
use mathlib.Core.List.{List, [], ◌∷◌, ◌++◌, append_assoc, append-nil}
use native.Mathlib.Nat.{pow-suc}
use native.Mathlib.Omega.{arith}
use borrow.Author.Tests.{ltb-true, ltb-false, lt-ltb, le-ltb}
use lib.Dec.{ltb}
use native.Mathlib.Numerals.{add-one}
use lib.ListN.{length, set, drop, length-append, length-set, drop_of_length-le}
use lib.Seq.{drop-cons, drop-set-lt}
use Rattle.std.proofs.Common.{get_or-set_same}
use Rattle.listing.specs.Decimal.{places_from, places, digits, decimal, max_digits, zero_digit}

-- any counter that is at least the number gives the same
places_same : (k m n : ℕ) → n ≤ k → n ≤ m → places_from k n ≡ places_from m n
unfolding places_from
places_same zero zero n p q = refl
places_same zero (suc m) n p q = rw (lt-ltb n 10 (omega arith))
places_same (suc k) zero n p q = rw (lt-ltb n 10 (omega arith))
places_same (suc k) (suc m) n p q = go (ltb n 10) refl (λ h. places_same k m (n / 10) (omega arith) (omega arith))
  where
    go : (t : Bool) → ltb n 10 ≡ t → (10 ≤ n → places_from k (n / 10) ≡ places_from m (n / 10))
        → cond t 1 (suc (places_from k (n / 10))) ≡ cond t 1 (suc (places_from m (n / 10)))
    go true e f = refl
    go false e f = ap suc (f (ltb-false n 10 e))

-- a number below 10 has one digit; a larger one has one more than a tenth of it
places_one : (n : ℕ) → n < 10 → places n ≡ 1
unfolding places places_from
places_one zero h = refl
places_one (suc n) h = rw (lt-ltb (suc n) 10 h)

pub places_more : (n : ℕ) → 10 ≤ n → places n ≡ suc (places (n / 10))
unfolding places places_from
places_more zero h = omega arith
places_more (suc n) h = rw (le-ltb (suc n) 10 h) (ap suc (places_same n (suc n / 10) (suc n / 10) (omega arith) (omega arith)))

-- so the text of a number is its digit, or the text of a tenth of it and its last digit
pub decimal_one : (n : ℕ) → n < 10 → decimal n ≡ (zero_digit + n) ∷ []
unfolding decimal digits
decimal_one n h = let z : n % 10 ≡ n = omega arith in rw (places_one n h, z)

pub decimal_more : (n : ℕ) → 10 ≤ n → decimal n ≡ decimal (n / 10) ++ ((zero_digit + n % 10) ∷ [])
unfolding decimal digits
decimal_more n h = rw (places_more n h)

-- a number below 10 to the k has at most k digits
pub places_bound : (k n : ℕ) → n < 10 ^ suc k → places n ≤ suc k
places_bound zero n h = rw (places_one n h) (omega arith)
places_bound (suc k) n h = go (ltb n 10) refl (places_bound k (n / 10))
  where
    go : (t : Bool) → ltb n 10 ≡ t → (n / 10 < 10 ^ suc k → places (n / 10) ≤ suc k) → places n ≤ suc (suc k)
    go true e f = rw (places_one n (ltb-true n 10 e)) (omega arith)
    go false e f =
        let w = rw (pow-suc 10 (suc k)) at h in
        rw (places_more n (ltb-false n 10 e)) (suc-le-suc (f (omega arith)))

-- and none has no digit
places_positive : (n : ℕ) → 1 ≤ places n
places_positive n = go (ltb n 10) refl
  where
    go : (t : Bool) → ltb n 10 ≡ t → 1 ≤ places n
    go true e = rw (places_one n (ltb-true n 10 e)) (omega arith)
    go false e = rw (places_more n (ltb-false n 10 e)) (omega arith)

pub length_digits : (k n : ℕ) → length (digits k n) ≡ k
unfolding digits
length_digits zero n = refl
length_digits (suc k) n = rw (length-append (digits k (n / 10)) ((zero_digit + n % 10) ∷ []), length_digits k (n / 10)) (omega arith)

-- a digit that is put before others
put_before : (buffer : List ℕ) (start v : ℕ) → start < length buffer → drop start (set buffer start v) ≡ v ∷ drop (start + 1) buffer
put_before buffer start v h =
    drop-cons (set buffer start v) start 0 (rw (length-set buffer start v) h)
    ∙ ap₂ (λ (x : ℕ) (l : List ℕ). x ∷ l) (get_or-set_same buffer start v 0 h) (drop-set-lt (suc start) buffer start v (omega arith) ∙ rw add-one)

-- where a loop that makes digits from the last to the first stands: those of `rest` are left, and place `start` is for the next
pub record Spelled (x rest start : ℕ) (buffer : List ℕ) : Type 0 where
  pub most : places x ≤ max_digits
  pub within : start < max_digits
  pub room : start + 1 + places x ≡ max_digits + places rest
  pub same : decimal x ≡ decimal rest ++ drop (start + 1) buffer

pub spelled_start : (x : ℕ) (buffer : List ℕ) → length buffer ≡ max_digits → places x ≤ max_digits → Spelled x x 19 buffer
spelled_start x buffer long most =
    record { most = most; within = omega arith; room = refl; same = sym (ap (λ (l : List ℕ). decimal x ++ l) (drop_of_length-le buffer {i = 20} (omega arith)) ∙ append-nil (decimal x)) }

module _ (x rest start : ℕ) (buffer : List ℕ) (long : length buffer ≡ max_digits) (s : Spelled x rest start buffer) where
  -- a number of two digits has room for another
  pub room_left : 10 ≤ rest → 1 ≤ start
  room_left h = let m = places_more rest h in let p = s.most in let r = s.room in let one = places_positive (rest / 10) in omega arith

  pub spelled_next : 10 ≤ rest → Spelled x (rest / 10) (start - 1) (set buffer start (zero_digit + rest % 10))
  spelled_next h =
      let d = zero_digit + rest % 10 in
      let left = room_left h in
      let next : start - 1 + 1 ≡ start = omega arith in
      let m = places_more rest h in
      let p = s.room in
      let q = s.within in
      record {
        most = s.most;
        within = omega arith;
        room = omega arith;
        same =
            s.same
            ∙ ap (λ (l : List ℕ). l ++ drop (start + 1) buffer) (decimal_more rest h)
            ∙ append_assoc (decimal (rest / 10)) (d ∷ []) (drop (start + 1) buffer)
            ∙ ap (λ (l : List ℕ). decimal (rest / 10) ++ l) (sym (put_before buffer start d (omega arith)))
            ∙ ap (λ (k : ℕ). decimal (rest / 10) ++ drop k (set buffer start d)) (sym next);
      }

  pub spelled_end : rest < 10 → drop start (set buffer start (zero_digit + rest)) ≡ decimal x
  spelled_end h =
      let q = s.within in
      put_before buffer start (zero_digit + rest) (omega arith) ∙ sym (s.same ∙ ap (λ (l : List ℕ). l ++ drop (start + 1) buffer) (decimal_one rest h))
