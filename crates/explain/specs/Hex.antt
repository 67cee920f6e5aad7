-- Octets written as hexadecimal digits: two digits for each octet, with spaces between.
use Rattle.std.specs.Prelude.{ℕ, ◌+◌, ◌-◌, ◌*◌, cond, ◌&&◌, ◌||◌, List, [], ◌∷◌, ◌++◌, length, take, Some, None, vec_items, Option, Vec, ◌==◌, nat_le, nat_lt, slice_index}
use Rattle.std.specs.declared.alloc.Global.{Global}

-- 0 to 9, A to F, a to f
abbrev pub digit_of : ℕ → Option ℕ
digit_of b =
    cond (nat_le 48 b && nat_le b 57) (Some (b - 48))
    (cond (nat_le 65 b && nat_le b 70) (Some (b - 65 + 10))
    (cond (nat_le 97 b && nat_le b 102) (Some (b - 97 + 10))
    None))

-- the value of two digits
abbrev pub two_digits : Option ℕ → Option ℕ → Option ℕ
two_digits None d = None
two_digits (Some h) None = None
two_digits (Some h) (Some l) = Some (16 * h + l)

-- the octet at the front of a text: two digits, and then a space or the end
abbrev pub octet_front : List ℕ → Option ℕ
octet_front xs = cond (nat_le 2 (length xs) && (length xs == 2 || slice_index xs 2 == 32))
    (two_digits (digit_of (slice_index xs 0)) (digit_of (slice_index xs 1))) None

-- an octet and those after it
abbrev pub before : Option ℕ → Option (List ℕ) → Option (List ℕ)
before None o = None
before (Some x) None = None
before (Some x) (Some xs) = Some (x ∷ xs)

-- the octets of a line, if it has nothing else
abbrev pub hex_octets : List ℕ → Option (List ℕ)
hex_octets [] = Some []
hex_octets (a ∷ []) = cond (a == 32) (Some []) None
hex_octets (a ∷ b ∷ xs) = cond (a == 32) (hex_octets (b ∷ xs)) (before (octet_front (a ∷ b ∷ xs)) (hex_octets xs))

-- what the code found, as a list
abbrev pub listed : Option (Vec ℕ Global) → Option (List ℕ)
listed None = None
listed (Some v) = Some (vec_items v)

-- octets found so far, and those still to come
abbrev pub onto : List ℕ → Option (List ℕ) → Option (List ℕ)
onto ys None = None
onto ys (Some xs) = Some (ys ++ xs)

-- without the byte b at the end
abbrev pub without_last : ℕ → List ℕ → List ℕ
without_last b xs = cond (nat_lt 0 (length xs) && slice_index xs (length xs - 1) == b) (take (length xs - 1) xs) xs

-- without a line feed at the end, nor a carriage return before it
abbrev pub without_end : List ℕ → List ℕ
without_end xs = cond (nat_lt (length (without_last 10 xs)) (length xs)) (without_last 13 (without_last 10 xs)) (without_last 10 xs)
