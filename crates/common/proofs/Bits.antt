-- Laws of numbers bit by bit: what a mask's OR and AND hold, and when two numbers are the same under one.
use Prim.Native.Nat.{ℕ, zero, suc, ◌+◌, ◌*◌, ◌/◌, ◌%◌, ◌^◌, ◌≤◌, min, max}
use mathlib.Core.Path.{◌≡◌, refl, sym, ap, ap₂, ◌∙◌}
use native.Mathlib.Nat.{div-one, div-div-eq-div-mul, zero-div}
use native.Mathlib.Omega.{arith}
use lib.Bits.{bit_and, bit_or, or_step, and_step, or_zero_r}

-- the bit of value 2 ^ k
abbrev pub bit : ℕ → ℕ → ℕ
bit a k = a / 2 ^ k % 2

-- one place up
shift : (a k : ℕ) → a / 2 / 2 ^ k ≡ a / 2 ^ suc k
shift a k = let e : 2 ^ suc k ≡ 2 * 2 ^ k = omega arith in rw (e, div-div-eq-div-mul a 2 (2 ^ k))

-- 0 has no bit
zero_bit : (k : ℕ) → bit 0 k ≡ 0
zero_bit k = rw (zero-div (2 ^ k))

-- numbers that agree at every bit are equal
bits_below : (n a b : ℕ) → a ≤ n → b ≤ n → ((k : ℕ) → bit a k ≡ bit b k) → a ≡ b
bits_below zero a b p q h = omega arith
bits_below (suc n) a b p q h =
    let low : a % 2 ≡ b % 2 = rw (div-one, div-one) at (h 0) in
    let half : a / 2 ≡ b / 2 = bits_below n (a / 2) (b / 2) (omega arith) (omega arith) (λ k. ap (λ (x : ℕ). x % 2) (shift a k) ∙ h (suc k) ∙ ap (λ (x : ℕ). x % 2) (sym (shift b k))) in
    omega arith

pub bits_same : (a b : ℕ) → ((k : ℕ) → bit a k ≡ bit b k) → a ≡ b
bits_same a b h = bits_below (a + b) a b (omega arith) (omega arith) h

-- OR and AND, halved and at the lowest bit
or_half : (a b : ℕ) → bit_or a b / 2 ≡ bit_or (a / 2) (b / 2)
or_half a b = let e = or_step a b in omega arith

or_low : (a b : ℕ) → bit_or a b % 2 ≡ max (a % 2) (b % 2)
or_low a b = let e = or_step a b in omega arith

and_half : (a b : ℕ) → bit_and a b / 2 ≡ bit_and (a / 2) (b / 2)
and_half a b = let e = and_step a b in omega arith

and_low : (a b : ℕ) → bit_and a b % 2 ≡ min (a % 2) (b % 2)
and_low a b = let e = and_step a b in omega arith

-- at every bit, and above it
pub or_above : (k a b : ℕ) → bit_or a b / 2 ^ k ≡ bit_or (a / 2 ^ k) (b / 2 ^ k)
or_above zero a b = rw (div-one, div-one, div-one)
or_above (suc k) a b =
    sym (shift (bit_or a b) k) ∙ ap (λ (x : ℕ). x / 2 ^ k) (or_half a b) ∙ or_above k (a / 2) (b / 2) ∙ ap₂ bit_or (shift a k) (shift b k)

and_above : (k a b : ℕ) → bit_and a b / 2 ^ k ≡ bit_and (a / 2 ^ k) (b / 2 ^ k)
and_above zero a b = rw (div-one, div-one, div-one)
and_above (suc k) a b =
    sym (shift (bit_and a b) k) ∙ ap (λ (x : ℕ). x / 2 ^ k) (and_half a b) ∙ and_above k (a / 2) (b / 2) ∙ ap₂ bit_and (shift a k) (shift b k)

pub or_bit : (k a b : ℕ) → bit (bit_or a b) k ≡ max (bit a k) (bit b k)
or_bit k a b = ap (λ (x : ℕ). x % 2) (or_above k a b) ∙ or_low (a / 2 ^ k) (b / 2 ^ k)

pub and_bit : (k a b : ℕ) → bit (bit_and a b) k ≡ min (bit a k) (bit b k)
and_bit k a b = ap (λ (x : ℕ). x % 2) (and_above k a b) ∙ and_low (a / 2 ^ k) (b / 2 ^ k)

-- ---- numbers that are the same once a mask is raised in both

module _ (a b mask : ℕ) where
  -- agree at every bit that the mask has not
  pub masked_bit : bit_or a mask ≡ bit_or b mask → (k : ℕ) → bit mask k ≡ 0 → bit a k ≡ bit b k
  masked_bit e k none_there =
      let p = or_bit k a mask in
      let q = or_bit k b mask in
      let r : bit (bit_or a mask) k ≡ bit (bit_or b mask) k = ap (λ (x : ℕ). bit x k) e in
      omega arith

  -- and those that do are the same
  pub bits_masked : ((k : ℕ) → bit mask k ≡ 0 → bit a k ≡ bit b k) → bit_or a mask ≡ bit_or b mask
  bits_masked h = bits_same (bit_or a mask) (bit_or b mask) (λ k. each k (bit mask k) refl)
    where
      each : (k m : ℕ) → bit mask k ≡ m → bit (bit_or a mask) k ≡ bit (bit_or b mask) k
      each k zero e = let p = or_bit k a mask in let q = or_bit k b mask in let s = h k e in omega arith
      each k (suc m) e = let p = or_bit k a mask in let q = or_bit k b mask in omega arith

  -- above the mask they are equal
  pub above_mask : bit_or a mask ≡ bit_or b mask → (k : ℕ) → mask / 2 ^ k ≡ 0 → a / 2 ^ k ≡ b / 2 ^ k
  above_mask e k over =
      let p : bit_or a mask / 2 ^ k ≡ a / 2 ^ k = or_above k a mask ∙ ap (λ (x : ℕ). bit_or (a / 2 ^ k) x) over ∙ or_zero_r (a / 2 ^ k) in
      let q : bit_or b mask / 2 ^ k ≡ b / 2 ^ k = or_above k b mask ∙ ap (λ (x : ℕ). bit_or (b / 2 ^ k) x) over ∙ or_zero_r (b / 2 ^ k) in
      sym p ∙ ap (λ (x : ℕ). x / 2 ^ k) e ∙ q

  -- and under a mask that has no bit of the first they are the same
  pub apart_mask : bit_or a mask ≡ bit_or b mask → (other : ℕ) → bit_and other mask ≡ 0 → bit_and a other ≡ bit_and b other
  apart_mask e other apart = bits_same (bit_and a other) (bit_and b other) (λ k. each k (bit mask k) refl)
    where
      each : (k m : ℕ) → bit mask k ≡ m → bit (bit_and a other) k ≡ bit (bit_and b other) k
      each k zero q = let p = and_bit k a other in let r = and_bit k b other in let s = masked_bit e k q in omega arith
      each k (suc m) q =
          let p = and_bit k a other in
          let r = and_bit k b other in
          let s = and_bit k other mask in
          let z : bit (bit_and other mask) k ≡ 0 = ap (λ (x : ℕ). bit x k) apart ∙ zero_bit k in
          omega arith

-- ---- numbers that have no bit in common

pub apart_bit : (a b : ℕ) → bit_and a b ≡ 0 → (k : ℕ) → bit b k ≡ 1 → bit a k ≡ 0
apart_bit a b e k on =
    let p = and_bit k a b in
    let z : bit (bit_and a b) k ≡ 0 = ap (λ (x : ℕ). bit x k) e ∙ zero_bit k in
    omega arith

pub bits_apart : (a b : ℕ) → ((k : ℕ) → bit b k ≡ 1 → bit a k ≡ 0) → bit_and a b ≡ 0
bits_apart a b h = bits_same (bit_and a b) 0 (λ k. each k (bit b k) refl ∙ sym (zero_bit k))
  where
    each : (k m : ℕ) → bit b k ≡ m → bit (bit_and a b) k ≡ 0
    each k zero e = let p = and_bit k a b in omega arith
    each k (suc m) e = let p = and_bit k a b in let one : bit b k ≡ 1 = omega arith in let z = h k one in omega arith
