-- The format in its own words: which octets represent which message.
use Rattle.std.specs.Prelude.{◌≡◌, ℕ, ◌+◌, ◌*◌, ◌<◌, ◌≤◌, ◌⊎◌, List, [], ◌∷◌, ◌++◌, length}
use Rattle.status.specs.Bits.{octets_for, set_bits}
use Rattle.message.specs.Encode.{type_in}
use Rattle.message.specs.Msg.{Msg, single, release_complete, group_reset, group_reset_ack, grouped, release, call, cic_in}

-- the head: the low eight bits of the CIC, its high four under four spare ones, and the type
abbrev pub Headed : ℕ → ℕ → List ℕ → List ℕ → Type 0
Headed c t rest xs = (low : ℕ) × (high : ℕ) × (spare : ℕ) × (high < 16) × (c ≡ low + 256 * high)
    × (xs ≡ (low ∷ (high + 16 * spare) ∷ t ∷ []) ++ rest)

-- length, range and status; the length counts the last two
abbrev pub Parameter : ℕ → List ℕ → List ℕ → Type 0
Parameter r s xs = (length s ≡ octets_for r) × (xs ≡ ((1 + octets_for r) ∷ r ∷ []) ++ s)

-- what follows the type: the indicator has six spare bits over two, pointers are 01, 02, 00 or 04
abbrev pub Follows : Msg → List ℕ → Type 0
Follows (single c k) xs = xs ≡ []
Follows (release_complete c) xs = (xs ≡ []) ⊎ (xs ≡ 0 ∷ [])
Follows (group_reset c r) xs = xs ≡ 1 ∷ 1 ∷ r ∷ []
Follows (group_reset_ack c r s) xs = (p : List ℕ) × Parameter r s p × (xs ≡ 1 ∷ p)
Follows (grouped c k i r s) xs = (spare : ℕ) × (p : List ℕ) × (i < 4) × Parameter r s p × (xs ≡ (i + 4 * spare) ∷ 1 ∷ p)
Follows (release c x) xs = (length x ≡ 2) × ((xs ≡ (2 ∷ 0 ∷ 2 ∷ []) ++ x) ⊎ ((more : List ℕ) × (1 ≤ length more) × (xs ≡ (2 ∷ 4 ∷ 2 ∷ []) ++ x ++ more)))
Follows (call c k x) xs = (1 ≤ length x) × (xs ≡ x)

-- the octets have the layout of the message
abbrev pub LaidOut : List ℕ → Msg → Type 0
LaidOut xs m = (rest : List ℕ) × Headed (cic_in m) (type_in m) rest xs × Follows m rest

-- the limits of indicator, range and number of set bits
abbrev pub Limits : Msg → Type 0
Limits (single c k) = Unit {0}
Limits (release_complete c) = Unit {0}
Limits (group_reset c r) = (1 ≤ r) × (r ≤ 31)
Limits (group_reset_ack c r s) = (1 ≤ r) × (r ≤ 31)
Limits (grouped c k i r s) = (i ≤ 1) × (1 ≤ r) × (r ≤ 255) × (set_bits s (r + 1) ≤ 32)
Limits (release c x) = Unit {0}
Limits (call c k x) = Unit {0}

abbrev pub Represents : List ℕ → Msg → Type 0
Represents xs m = LaidOut xs m × Limits m
