-- A status without its spare bits.
use Rattle.std.proofs.Common.{◌≡◌, ℕ, suc, ◌+◌, ◌-◌, ◌/◌, ◌%◌, ◌^◌, ◌<◌, ◌≤◌, List, length, get_or, set, inl, inr, arith, length-set, get_or-set_other, get_or-set_same, pow_mono}
use native.Mathlib.Nat.{div-eq_of_lt}
use lib.Bits.{bit_and}
use Rattle.std.proofs.lemmas.Nat.{mod-pow-add, field_of, mod_below, pow_pos}
use Rattle.std.proofs.lemmas.List.{set_past}
use Rattle.std.proofs.lemmas.Bool.{cases_eq, cases_lt}
use Rattle.status.specs.Bits.{octets_for, bit_at, SameBits, cleared}
use Rattle.status.proofs.Bits.{bit_past, masked}

-- a remainder keeps the bits below
low_kept : (x d i : ℕ) → x % 2 ^ (suc d + i) / 2 ^ i % 2 ≡ x / 2 ^ i % 2
low_kept x d i =
    let y = x / 2 ^ i in
    let a : suc d ≡ d + 1 = omega arith in
    let e = mod-pow-add y d 1 in
    rw (field_of, a, e) (omega arith)

bit_low : (x j i : ℕ) → i ≤ j → x % 2 ^ (j + 1) / 2 ^ i % 2 ≡ x / 2 ^ i % 2
bit_low x j i h = let e : j + 1 ≡ suc (j - i) + i = omega arith in rw (e, low_kept)

-- and has none above
bit_high : (x j i : ℕ) → j < i → x % 2 ^ (j + 1) / 2 ^ i % 2 ≡ 0
bit_high x j i h =
    let l : x % 2 ^ (j + 1) < 2 ^ (j + 1) = mod_below x (2 ^ (j + 1)) (pow_pos (j + 1)) in
    let m : 2 ^ (j + 1) ≤ 2 ^ i = pow_mono (omega arith) in
    let z : x % 2 ^ (j + 1) < 2 ^ i = omega arith in
    rw (div-eq_of_lt z)

pub cleared_same : (r : ℕ) (xs : List ℕ) → SameBits r xs (cleared r xs)
cleared_same r xs k h =
    elim (cases_eq (k / 8) (r / 8)) [
      | inl p ↦ elim (cases_lt (r / 8) (length xs)) [
        | inl l ↦ rw (p, get_or-set_same, bit_low (get_or xs (r / 8) 0) (r % 8) (k % 8) (omega arith))
        | inr l ↦ rw set_past
      ]
      | inr ne ↦ rw get_or-set_other
    ]

pub cleared_spare : (r : ℕ) (xs : List ℕ) → length xs ≡ octets_for r → (k : ℕ) → r < k → bit_at (cleared r xs) k ≡ 0
cleared_spare r xs l k h =
    let in-it : r / 8 < length xs = omega arith in
    elim (cases_eq (k / 8) (r / 8)) [
      | inl p ↦ rw (p, get_or-set_same, bit_high (get_or xs (r / 8) 0) (r % 8) (k % 8) (omega arith))
      | inr ne ↦ bit_past (cleared r xs) k (simp length-set (omega arith))
    ]

-- as a mask clears them
pub cleared_by_mask : (r : ℕ) (xs : List ℕ) → set xs (r / 8) (bit_and (get_or xs (r / 8) 0) (255 / 2 ^ (7 - r % 8))) ≡ cleared r xs
cleared_by_mask r xs = rw (masked (get_or xs (r / 8) 0) (r % 8) (omega arith))
