-- What the octets of a cause say.
use Rattle.std.specs.Prelude.{ℕ, ◌%◌, List, Option, option_map, slice_get}

-- the low four bits of the first octet
abbrev pub location_in : List ℕ → Option ℕ
location_in xs = option_map (λ octet. octet % 16) (slice_get xs 0)

-- the low seven bits of the second
abbrev pub value_in : List ℕ → Option ℕ
value_in xs = option_map (λ octet. octet % 128) (slice_get xs 1)
