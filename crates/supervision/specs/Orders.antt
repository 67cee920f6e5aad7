-- What the rules answer to the orders of our side: a refusal, or a move.
use Rattle.std.specs.Prelude.{ℕ, ◌+◌, ◌-◌, ◌/◌, ◌%◌, ◌^◌, Bool, cond, not, ◌&&◌, ◌||◌, List, [], ◌∷◌, length, None, Ok, Result, ◌==◌, nat_le, nat_lt}
use Rattle.status.specs.declared.cic.Cic.{Cic}
use Rattle.message.specs.Meaning.{indicator_of}
use Rattle.message.specs.Msg.{Msg, single, release, grouped, group_reset}
use Rattle.message.specs.declared.kinds.BlockType.{BlockType}
use Rattle.message.specs.declared.kinds.BlockType.TheVariants.{Maintenance, Hardware}
use Rattle.message.specs.declared.kinds.Grouped.{Grouped}
use Rattle.message.specs.declared.kinds.Grouped.TheVariants.{Cgb, Cgu}
use Rattle.message.specs.declared.kinds.Single.TheVariants.{Rsc, Blo, Ubl}
use Rattle.circuit.specs.Circuits.{vacant}
use Rattle.circuit.specs.Laws.{allows}
use Rattle.circuit.specs.Orders.{applied}
use Rattle.circuit.specs.declared.record.CauseOctets.{CauseOctets}
use Rattle.circuit.specs.declared.record.Circuit.{Circuit}
use Rattle.circuit.specs.declared.record.Reset.TheVariants as reset
use Rattle.circuit.specs.declared.rules.Rule.{Rule}
use Rattle.circuit.specs.declared.rules.Rule.TheVariants.{Release, Block, Unblock, Reset}
use Rattle.refusal.specs.declared.reasons.Refusal.{Refusal}
use Rattle.refusal.specs.declared.reasons.Refusal.TheVariants.{Places, Buffers, Argument, Address, State}
use Rattle.supervision.specs.declared.trunk.Config.{Config}
use Rattle.supervision.specs.Lending.{Lent}
use Rattle.supervision.specs.Moves.{Move, some_from}
use Rattle.refusal.specs.Refusals.{unless, and_then}
use Rattle.supervision.specs.Trunks.{places, first_of, placed}
use Rattle.supervision.specs.declared.limits.TheConstants.{OCTETS, SLOTS, WORDS}

-- what every operation on an open trunk refuses first
abbrev pub admitted : Config → ℕ → Lent → Result (Unit {0}) Refusal
admitted t room lent =
    unless (nat_lt room (length lent.table)) Places
    (unless (not (length lent.table == places t) || (nat_lt (length lent.words) WORDS || nat_lt (length lent.octets) OCTETS)) Buffers
    (Ok tt))

-- the circuit of a CIC; where the table has no such place, one that is not equipped
abbrev pub circuit_of : Config → Cic → List Circuit → Circuit
circuit_of t cic table = cond (nat_le t.first.0 cic.0) (placed table (cic.0 - t.first.0)) vacant

-- an order's move: a rule for the places named, and one message
abbrev pub ordered : (ℕ → Bool) → Rule → Msg → Move
ordered named rule message = record { named = named; rule = λ _. applied rule; sent = message ∷ []; alert = None }

-- the place of a CIC alone
abbrev pub only : Config → Cic → ℕ → Bool
only t cic k = k == cic.0 - t.first.0

-- an order for one circuit
abbrev pub singly : Config → Cic → Rule → Msg → List Circuit → Result Move Refusal
singly t cic rule message table =
    unless (not (circuit_of t cic table).equipped) Address
    (unless (not (allows rule (circuit_of t cic table))) State
    (Ok (ordered (only t cic) rule message)))

abbrev pub blocking : Config → ℕ → Cic → Lent → Result Move Refusal
blocking t room cic lent = and_then (admitted t room lent) (λ _. singly t cic (Block Maintenance) (single cic.0 Blo) lent.table)

abbrev pub unblocking : Config → ℕ → Cic → Lent → Result Move Refusal
unblocking t room cic lent = and_then (admitted t room lent) (λ _. singly t cic (Unblock Maintenance) (single cic.0 Ubl) lent.table)

abbrev pub resetting : Config → ℕ → Cic → Lent → Result Move Refusal
resetting t room cic lent = and_then (admitted t room lent) (λ _. singly t cic (Reset reset.Single) (single cic.0 Rsc) lent.table)

-- location 0 to 15 and cause 0 to 127, as the two octets that are kept and sent
abbrev pub cause_of : ℕ → ℕ → Result CauseOctets Refusal
cause_of location value =
    unless (nat_lt 15 location || nat_lt 127 value) Argument (Ok (record { location_octet = 0x80 + location; value_octet = 0x80 + value }))

-- our release, with the two octets of its cause
abbrev pub release_message : ℕ → CauseOctets → Msg
release_message c cause = release c (cause.location_octet ∷ cause.value_octet ∷ [])

abbrev pub releasing : Config → ℕ → Cic → ℕ → ℕ → Lent → Result Move Refusal
releasing t room cic location value lent =
    and_then (admitted t room lent)
    (λ _. and_then (cause_of location value)
    (λ cause. singly t cic (Release cause) (release_message cic.0 cause) lent.table))

-- the time slots of a PCM system whose mask bits are set
abbrev pub slots : ℕ → ℕ → ℕ → Bool
slots system mask k = k / SLOTS == system && mask / 2 ^ (k % SLOTS) % 2 == 1

-- all time slots but 0, which is no circuit
abbrev pub every_slot : ℕ
every_slot = 0xffff_fffe

-- the status from time slot 1 on, range 30: its bit n is that of time slot n + 1
abbrev pub status_of : ℕ → List ℕ
status_of mask = (mask / 2 % 256) ∷ (mask / 2 / 256 % 256) ∷ (mask / 2 / 65536 % 256) ∷ (mask / 2 / 16777216 % 256) ∷ []

-- our group messages cover a PCM system, from time slot 1 with range 30
abbrev pub group_message : Config → ℕ → Grouped → BlockType → ℕ → Msg
group_message t system what why mask = grouped (first_of t system) what (indicator_of why) 30 (status_of mask)

abbrev pub reset_message : Config → ℕ → Msg
reset_message t system = group_reset (first_of t system) 30

-- an order for circuits of a PCM system; time slot 0 is none
abbrev pub groupwise : Config → ℕ → ℕ → Rule → Msg → List Circuit → Result Move Refusal
groupwise t system mask rule message table =
    unless (nat_le t.systems system) Address
    (unless (mask % 2 == 1) Address
    (unless (some_from (λ k c. slots system mask k && not c.equipped) 0 table) Address
    (unless (some_from (λ k c. slots system mask k && not (allows rule c)) 0 table) State
    (Ok (ordered (slots system mask) rule message)))))

-- type 0 is maintenance, 1 hardware; a mask names at least one circuit
abbrev pub why_of : ℕ → BlockType
why_of kind = cond (kind == 0) Maintenance Hardware

abbrev pub type_of : ℕ → ℕ → Result BlockType Refusal
type_of kind mask = unless (nat_lt 1 kind || mask == 0) Argument (Ok (why_of kind))

-- an order of a type for the circuits of a mask, with the rule that it is for that type
abbrev pub typed : (BlockType → Rule) → Grouped → Config → ℕ → ℕ → ℕ → ℕ → Lent → Result Move Refusal
typed rule what t room kind system mask lent =
    and_then (admitted t room lent)
    (λ _. and_then (type_of kind mask)
    (λ why. groupwise t system mask (rule why) (group_message t system what why mask) lent.table))

abbrev pub group_blocking : Config → ℕ → ℕ → ℕ → ℕ → Lent → Result Move Refusal
group_blocking t room kind system mask lent = typed Block Cgb t room kind system mask lent

abbrev pub group_unblocking : Config → ℕ → ℕ → ℕ → ℕ → Lent → Result Move Refusal
group_unblocking t room kind system mask lent = typed Unblock Cgu t room kind system mask lent

-- a group reset names every circuit of the PCM system
abbrev pub clearing : Config → ℕ → Result Move Refusal
clearing t system =
    unless (nat_le t.systems system) Address
    (Ok (ordered (slots system every_slot) (Reset reset.Group) (reset_message t system)))

abbrev pub group_resetting : Config → ℕ → ℕ → Lent → Result Move Refusal
group_resetting t room system lent = and_then (admitted t room lent) (λ _. clearing t system)
