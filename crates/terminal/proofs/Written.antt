-- Words of digits.
use Rattle.std.proofs.Common.{ℕ, zero, suc, ◌^◌, ◌<◌, ◌≤◌, List, [], ◌∷◌, length, IsUtf8, IsAscii, arith}
use native.Mathlib.Nat.{pow-le-pow_right}
use Rattle.std.proofs.lemmas.Int.Digits.{digits_value-lt}
use Rattle.std.proofs.lemmas.Str.{IsUtf8-from_ascii}
use Rattle.std.proofs.lemmas.Bool.Decides.{nat_tests}
use Rattle.std.specs.Str.Parse.{AllDigits, digits_value}
use Rattle.std.specs.Char.{digit_value}

-- only bytes of ASCII are digits
ascii_digit : (c : ℕ) → digit_value c < 36 → c < 128
ascii_digit c d = grind (arith, nat_tests)

ascii_digits : (radix : ℕ) → radix ≤ 36 → (ds : List ℕ) → AllDigits radix ds → IsAscii ds
ascii_digits radix h [] d i = omega arith
ascii_digits radix h (c ∷ cs) d zero = let k : digit_value c < 36 = omega (arith, d.0) in omega (arith, ascii_digit c k)
ascii_digits radix h (c ∷ cs) d (suc i) = ascii_digits radix h cs d.1 i

-- so digits are text
pub digits_are_text : (radix : ℕ) → radix ≤ 36 → (ds : List ℕ) → AllDigits radix ds → IsUtf8 ds
digits_are_text radix h ds d = IsUtf8-from_ascii ds (ascii_digits radix h ds d)

-- n hexadecimal digits write a number below 16 ^ n
pub hex_below : (n : ℕ) (ds : List ℕ) → AllDigits 16 ds → length ds ≤ n → digits_value 16 ds < 16 ^ n
hex_below n ds d l =
    let p : 0 < 16 = omega arith in
    omega (arith, digits_value-lt 16 ds d, pow-le-pow_right p l)
