-- The steps that the code takes, one place at a time.
use Rattle.std.specs.Prelude.{◌≡◌, ℕ, ◌-◌, Bool, true, false, ◌&&◌, List, ◌++◌, map, length, None, slice_set, nat_le}
use Rattle.status.specs.Bits.{is_named, set_bits}
use Rattle.message.specs.Msg.{Msg}
use Rattle.words.specs.Words.{number_of}
use Rattle.circuit.specs.Orders.{applied}
use Rattle.circuit.specs.Signals.{on_gra, on_signal}
use Rattle.circuit.specs.declared.record.Circuit.{Circuit}
use Rattle.circuit.specs.declared.rules.Change.{Change}
use Rattle.supervision.specs.declared.slots.Effect.{Effect}
use Rattle.supervision.specs.declared.slots.Effect.TheVariants.{Marked, Heard, Every, Acknowledged}
use Rattle.supervision.specs.declared.slots.Slots.{Slots}
use Rattle.supervision.specs.declared.trunk.Config.{Config}
use Rattle.supervision.specs.Lending.{Lent, Performed, lent, over, settled}
use Rattle.supervision.specs.Moves.{Move, each_from, told_from}
use Rattle.supervision.specs.Trunks.{covers}

-- the set after the circuit at the place k went from open or not to open or not
abbrev pub settled_at : List Bool → ℕ → Bool → Bool → List Bool
settled_at h k true true = h
settled_at h k true false = slice_set h k false
settled_at h k false true = slice_set h k true
settled_at h k false false = h

-- the places that slots name
abbrev pub named_by : Slots → ℕ → Bool
named_by slots = covers slots.first.0 slots.group.range.0 slots.group.status.now

-- what is left once each circuit of a table T is changed by its place: the table, the set, the words, and their count
abbrev pub Stood : Config → (ℕ → Circuit → Change) → List Circuit → List Bool → List ℕ → List Circuit → List Bool → List ℕ → ℕ → Type 0
Stood t f T H W table held words n =
    (table ≡ each_from f 0 T)
    × (held ≡ settled H T (each_from f 0 T))
    × (words ≡ over (map number_of (told_from t f 0 T)) W)
    × (n ≡ length (told_from t f 0 T))

-- the places of the range of slots
abbrev pub spanned : Slots → ℕ → Bool
spanned slots k = nat_le slots.first.0 k && nat_le (k - slots.first.0) slots.group.range.0

-- the places where an effect does something
abbrev pub touched : Effect → Slots → ℕ → Bool
touched (Marked rule) slots = named_by slots
touched (Heard signal) slots = named_by slots
touched (Every signal) slots = spanned slots
touched Acknowledged slots = spanned slots

-- what it does there
abbrev pub rule_by : Effect → Slots → ℕ → Circuit → Change
rule_by (Marked rule) slots k = applied rule
rule_by (Heard signal) slots k = on_signal signal
rule_by (Every signal) slots k = on_signal signal
rule_by Acknowledged slots k = on_gra (is_named slots.group.range.0 slots.group.status.now (k - slots.first.0))

-- how many of the first n circuits of the range that are
abbrev pub tally : Effect → Slots → ℕ → ℕ
tally (Marked rule) slots n = set_bits slots.group.status.now n
tally (Heard signal) slots n = set_bits slots.group.status.now n
tally (Every signal) slots n = n
tally Acknowledged slots n = n

-- a move that sends these messages too
abbrev pub sending : List Msg → Move → Move
sending ms m = record m { sent = m.sent ++ ms }

-- where a move without an alert was done, what was written of it is now what is written of more
abbrev pub Extends : (Move → Move) → ℕ × ℕ → List ℕ → List ℕ → ℕ × ℕ → List ℕ → List ℕ → Type 0
Extends more n words octets n' words' octets' =
    (t : Config) (m : Move) (before : Lent) (table : List Circuit) (held : List Bool) → m.alert ≡ None
    → Performed t m n before (lent table held words octets) → Performed t (more m) n' before (lent table held words' octets')
