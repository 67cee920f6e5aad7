-- The status of a range: a bit for each circuit, lowest first.
use Rattle.std.specs.Prelude.{◌≡◌, ℕ, zero, suc, ◌+◌, ◌/◌, ◌%◌, ◌^◌, ◌≤◌, Bool, ◌&&◌, List, ◌==◌, nat_le, slice_index, slice_set}

-- a bit for each of r + 1 circuits, rounded up to whole octets
abbrev pub octets_for : ℕ → ℕ
octets_for r = (r + 1 + 7) / 8

-- bit n, 0 or 1
abbrev pub bit_at : List ℕ → ℕ → ℕ
bit_at xs n = slice_index xs (n / 8) / 2 ^ (n % 8) % 2

-- how many of the first n bits are set
abbrev pub set_bits : List ℕ → ℕ → ℕ
set_bits xs zero = 0
set_bits xs (suc n) = set_bits xs n + bit_at xs n

-- whether the range r has a circuit n, and its bit is set
abbrev pub is_named : ℕ → List ℕ → ℕ → Bool
is_named r xs n = nat_le n r && bit_at xs n == 1

-- two statuses of the range r differ in spare bits at most
abbrev pub SameBits : ℕ → List ℕ → List ℕ → Type 0
SameBits r xs ys = (k : ℕ) → k ≤ r → bit_at xs k ≡ bit_at ys k

-- a status of the range r with the spare bits of its last octet 0
abbrev pub cleared : ℕ → List ℕ → List ℕ
cleared r xs = slice_set xs (r / 8) (slice_index xs (r / 8) % 2 ^ (r % 8 + 1))
