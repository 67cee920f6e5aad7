-- What is lent to an operation, and what it leaves there.
use Rattle.std.specs.Prelude.{◌≡◌, ℕ, ◌*◌, ◌≤◌, Bool, true, false, List, [], ◌∷◌, ◌++◌, map, length, drop, None, Ok, Err, Result}
use Rattle.message.specs.Decode.{decode}
use Rattle.message.specs.Encode.{encode, plain, refusal_of}
use Rattle.message.specs.Msg.{Msg}
use Rattle.circuit.specs.Circuits.{is_open}
use Rattle.words.specs.Words.{number_of}
use Rattle.circuit.specs.declared.record.Circuit.{Circuit}
use Rattle.refusal.specs.declared.reasons.Refusal.{Refusal}
use Rattle.supervision.specs.declared.trunk.Config.{Config}
use Rattle.supervision.specs.Moves.{Move, table_of, words_of, octets_of}
use Rattle.supervision.specs.declared.limits.TheConstants.{OCTETS, SLOTS, WORDS}

-- the table, the policy's set and both outputs
pub record Lent : Type 0 where
  pub table : List Circuit
  pub held : List Bool
  pub words : List ℕ
  pub octets : List ℕ

abbrev pub lent : List Circuit → List Bool → List ℕ → List ℕ → Lent
lent t h w o = record { table = t; held = h; words = w; octets = o }

-- enough is lent: 32 places for each PCM system, a policy that takes as many, and room for all that an operation writes
pub record Suffices (t : Config) (room : ℕ) (before : Lent) : Type 0 where
  pub table : length before.table ≡ t.systems * SLOTS
  pub places : length before.table ≤ room
  pub words : WORDS ≤ length before.words
  pub octets : OCTETS ≤ length before.octets

-- a message that can be sent: it keeps the limits of its type, and fits the octets that are lent
pub record Sendable (m : Msg) : Type 0 where
  pub allowed : refusal_of m ≡ None
  pub short : length (encode m) ≤ OCTETS

-- written from the start of an output, the rest as it was
abbrev pub over : {X : Type 0} → List X → List X → List X
over out before = out ++ drop (length out) before

-- whether a place is held, from whether its circuit was open before and is open after:
-- what opened is offered, what closed is withdrawn
abbrev pub kept : Bool → Bool → Bool → Bool
kept h true true = h
kept h true false = false
kept h false true = true
kept h false false = h

-- the same of each place
abbrev pub settled : List Bool → List Circuit → List Circuit → List Bool
settled [] bs cs = []
settled (h ∷ hs) [] cs = h ∷ hs
settled (h ∷ hs) (b ∷ bs) [] = h ∷ hs
settled (h ∷ hs) (b ∷ bs) (c ∷ cs) = kept h (is_open b) (is_open c) ∷ settled hs bs cs

-- what is lent, after a move
abbrev pub carried : Config → Move → Lent → Lent
carried t m before =
    lent
    (table_of m before.table)
    (settled before.held before.table (table_of m before.table))
    (over (map number_of (words_of t m before.table)) before.words)
    (over (octets_of m) before.octets)

-- how many words and octets are written
abbrev pub counts_of : Config → Move → Lent → ℕ × ℕ
counts_of t m before = (length (words_of t m before.table), length (octets_of m))

-- each may be written, and is then read as it was meant, its spare bits 0
abbrev pub AreRead : List Msg → Type 0
AreRead [] = Unit {0}
AreRead (m ∷ ms) = ((refusal_of m ≡ None) × (decode (encode m) ≡ Ok (plain m))) × AreRead ms

-- a move is done: n counts what is written, all of it within the outputs
pub record Performed (t : Config) (m : Move) (n : ℕ × ℕ) (before after : Lent) : Type 0 where
  pub counts : n ≡ counts_of t m before
  pub carries : after ≡ carried t m before
  pub within : (n.0 ≤ length before.words) × (n.1 ≤ length before.octets)
  -- it takes no more than has to be lent, and what it sends is read
  pub few : (n.0 ≤ WORDS) × (n.1 ≤ OCTETS)
  pub read : AreRead m.sent

-- what an operation does, by what the rules answer: refused, all is as it was; accepted, all is as the move says
abbrev pub Done : Config → Result Move Refusal → Result (ℕ × ℕ) Refusal → Lent → Lent → Type 0
Done t (Err e) r before after = (r ≡ Err e) × (after ≡ before)
Done t (Ok m) r before after = (r ≡ Ok (counts_of t m before)) × (after ≡ carried t m before)
