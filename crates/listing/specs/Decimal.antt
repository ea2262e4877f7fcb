-- Numbers as decimal text, in ASCII.
use Rattle.std.specs.Prelude.{ℕ, zero, suc, ◌+◌, ◌/◌, ◌%◌, cond, List, [], ◌∷◌, ◌++◌, ltb}

-- a number of 64 bits has at most 20 digits
abbrev pub max_digits : ℕ
max_digits = 20

-- the digit 0
abbrev pub zero_digit : ℕ
zero_digit = 48

-- how many digits n has, where `fuel` is at least n; `places_one` and `places_more` of proofs/text/Decimal are the laws without fuel
unfoldable pub places_from : ℕ → ℕ → ℕ
places_from zero n = 1
places_from (suc fuel) n = let more = places_from fuel (n / 10) in cond (ltb n 10) 1 (suc more)

unfoldable pub places : ℕ → ℕ
places n = places_from n n

-- the last k digits of n, the highest first
unfoldable pub digits : ℕ → ℕ → List ℕ
digits zero n = []
digits (suc k) n = digits k (n / 10) ++ ((zero_digit + n % 10) ∷ [])

-- n in decimal; `one_digit` and `more_digits` of proofs/Theorems are the laws that a reader expects
unfoldable pub decimal : ℕ → List ℕ
decimal n = digits (places n) n
