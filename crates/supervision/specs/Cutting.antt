-- The messages in the octets that an operation wrote, by the words that it told.
use Rattle.std.specs.Prelude.{◌≡◌, ℕ, ◌+◌, ◌/◌, ◌%◌, Bool, cond, ◌==◌, List, [], ◌∷◌, take, drop}

-- a word that tells of a message
abbrev pub is_send : ℕ → Bool
is_send word = word / 0x1000_0000 == 1

-- its place in the octets
abbrev pub place_told : ℕ → ℕ
place_told word = word / 65536 % 4096

-- its length
abbrev pub length_told : ℕ → ℕ
length_told word = word % 65536

-- the messages that words tell of, cut out of the octets by place and length
abbrev pub cut : List ℕ → List ℕ → List (List ℕ)
cut [] octets = []
cut (w ∷ ws) octets = cond (is_send w) (take (length_told w) (drop (place_told w) octets) ∷ cut ws octets) (cut ws octets)

-- messages follow one another without a gap, from the octet `at` to `end`
abbrev pub Gapless : ℕ → List ℕ → ℕ → Type 0
Gapless at [] end = at ≡ end
Gapless at (w ∷ ws) end = cond (is_send w) ((place_told w ≡ at) × Gapless (at + length_told w) ws end) (Gapless at ws end)
