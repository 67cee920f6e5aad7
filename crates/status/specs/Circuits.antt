-- Circuit identification codes.
use Rattle.std.specs.Prelude.{ℕ, ◌+◌, ◌*◌, ◌%◌, min}

-- eight low bits, and four high ones in the low half of the second octet
abbrev pub cic_of : ℕ → ℕ → ℕ
cic_of low high = low + high % 16 * 256

-- the circuit n places after m, or 65,535 where 16 bits do not hold its number
abbrev pub circuit_at : ℕ → ℕ → ℕ
circuit_at m n = min (m + n) 65535
