-- What an operation is to one circuit: the event there.
use Rattle.std.specs.Prelude.{ℕ, zero, suc, ◌+◌, ◌-◌, ◌/◌, ◌%◌, ◌^◌, Bool, cond, not, ◌&&◌, List, Some, None, Ok, Err, Option, Result, ◌==◌, nat_le}
use Rattle.status.specs.Bits.{is_named}
use Rattle.message.specs.Decode.{decode}
use Rattle.message.specs.Msg.{Msg, single, release_complete, group_reset, group_reset_ack, grouped, release, call}
use Rattle.message.specs.declared.fault.MessageFault.{MessageFault}
use Rattle.message.specs.declared.kinds.BlockType.{BlockType}
use Rattle.message.specs.declared.kinds.BlockType.TheVariants.{Maintenance, Hardware}
use Rattle.message.specs.declared.kinds.CallKind.TheVariants.{Iam, Acm, Con, Anm, Cpg}
use Rattle.message.specs.declared.kinds.Grouped.TheVariants.{Cgb, Cgu, Cgba, Cgua}
use Rattle.message.specs.declared.kinds.Single.TheVariants.{Rsc, Blo, Ubl, Bla, Uba}
use Rattle.circuit.specs.declared.record.CauseOctets.{CauseOctets}
use Rattle.words.specs.Words.{timer_of}
use Rattle.words.specs.declared.kinds.Timer.{Timer}
use Rattle.words.specs.declared.kinds.Timer.TheVariants.{T1, T5, T12, T13, T14, T15, T16, T17, T18, T19, T20, T21, T22, T23}
use Rattle.refusal.specs.declared.reasons.Refusal.{Refusal}
use Rattle.supervision.specs.Answering.{Order, answer}
use Rattle.supervision.specs.Answering as of
use Rattle.supervision.specs.Expiring.{expiring}
use Rattle.supervision.specs.Lending.{Lent}
use Rattle.supervision.specs.Moves.{Move}
use Rattle.supervision.specs.Receiving.{receiving}
use Rattle.supervision.specs.declared.trunk.Config.{Config}
use Rattle.supervision.specs.declared.limits.TheConstants.{SLOTS}

-- an operation of an open trunk
pub data Operation : Type 0 where
  order : Order → Operation
  -- the octets of a message of the far exchange
  receive : List ℕ → Operation
  -- the timer, the CIC or the PCM system, and the type
  expire : ℕ → ℕ → ℕ → Operation

-- what the rules answer
abbrev pub answered : Config → ℕ → Operation → Lent → Result Move Refusal
answered t room (order o) lent = answer t room o lent
answered t room (receive octets) lent = receiving t room octets lent
answered t room (expire timer at kind) lent = expiring t room timer at kind lent

pub data Event : Type 0 where
  -- orders of our side
  seized : Event
  released : CauseOctets → Event
  blocked unblocked : BlockType → Event
  circuit_reset system_reset : Event
  -- messages; progress is ACM, CON, ANM or CPG
  iam progress rel rlc rsc grs : Event
  -- BLO, UBL, BLA and UBA for maintenance, or CGB, CGU, CGBA and CGUA for their type
  blo ubl bla uba : BlockType → Event
  -- a GRA that counts, with the status bit
  gra : Bool → Event
  -- T5, the last timer of a release
  t5 : Event
  nothing : Event

abbrev pub when : Bool → Event → Event
when b e = cond b e nothing

-- the type of a number: 0 is maintenance
abbrev pub type_told : ℕ → BlockType
type_told zero = Maintenance
type_told (suc n) = Hardware

-- the CICs c to c + r
abbrev pub within : ℕ → ℕ → ℕ → Bool
within c r cic = nat_le c cic && nat_le cic (c + r)

-- those of them whose status bit is set
abbrev pub names : ℕ → ℕ → List ℕ → ℕ → Bool
names c r status cic = nat_le c cic && is_named r status (cic - c)

-- the time slots of a PCM system whose mask bit is set, by their place
abbrev pub in_mask : ℕ → ℕ → ℕ → Bool
in_mask system mask k = k / SLOTS == system && mask / 2 ^ (k % SLOTS) % 2 == 1

-- all its time slots but 0
abbrev pub in_system : ℕ → ℕ → Bool
in_system system k = k / SLOTS == system && not (k % SLOTS == 0)

-- a GRA counts only from time slot 1 with range 30
abbrev pub counts : ℕ → ℕ → ℕ → Bool
counts first c r = (c - first) % SLOTS == 1 && r == 30

-- an order, to the circuit at the place k; `first` is the first CIC of the trunk
abbrev pub ordered : ℕ → Order → ℕ → Event
ordered first (of.seize body None) k = nothing
ordered first (of.seize body (Some place)) k = when (place.0 == k) seized
ordered first (of.release cic location value) k =
    when (cic.0 == first + k) (released (record { location_octet = 0x80 + location; value_octet = 0x80 + value }))
ordered first (of.block cic) k = when (cic.0 == first + k) (blocked Maintenance)
ordered first (of.unblock cic) k = when (cic.0 == first + k) (unblocked Maintenance)
ordered first (of.reset cic) k = when (cic.0 == first + k) circuit_reset
ordered first (of.group_block kind system mask) k = when (in_mask system mask k) (blocked (type_told kind))
ordered first (of.group_unblock kind system mask) k = when (in_mask system mask k) (unblocked (type_told kind))
ordered first (of.group_reset system) k = when (in_system system k) system_reset

-- a message, to the circuit with that CIC
abbrev pub heard_as : ℕ → Msg → ℕ → Event
heard_as first (call c Iam body) cic = when (c == cic) iam
heard_as first (call c Acm body) cic = when (c == cic) progress
heard_as first (call c Con body) cic = when (c == cic) progress
heard_as first (call c Anm body) cic = when (c == cic) progress
heard_as first (call c Cpg body) cic = when (c == cic) progress
heard_as first (release c cause) cic = when (c == cic) rel
heard_as first (release_complete c) cic = when (c == cic) rlc
heard_as first (single c Rsc) cic = when (c == cic) rsc
heard_as first (single c Blo) cic = when (c == cic) (blo Maintenance)
heard_as first (single c Ubl) cic = when (c == cic) (ubl Maintenance)
heard_as first (single c Bla) cic = when (c == cic) (bla Maintenance)
heard_as first (single c Uba) cic = when (c == cic) (uba Maintenance)
heard_as first (grouped c Cgb i r s) cic = when (names c r s cic) (blo (type_told i))
heard_as first (grouped c Cgu i r s) cic = when (names c r s cic) (ubl (type_told i))
heard_as first (grouped c Cgba i r s) cic = when (names c r s cic) (bla (type_told i))
heard_as first (grouped c Cgua i r s) cic = when (names c r s cic) (uba (type_told i))
heard_as first (group_reset c r) cic = when (within c r cic) grs
heard_as first (group_reset_ack c r s) cic = when (counts first c r && within c r cic) (gra (is_named r s (cic - c)))

abbrev pub read_as : ℕ → Result Msg MessageFault → ℕ → Event
read_as first (Err fault) cic = nothing
read_as first (Ok message) cic = heard_as first message cic

-- of the timers only T5 does more than repeat a message
abbrev pub expired_as : Option Timer → ℕ → ℕ → Event
expired_as None at cic = nothing
expired_as (Some T1) at cic = nothing
expired_as (Some T5) at cic = when (at == cic) t5
expired_as (Some T12) at cic = nothing
expired_as (Some T13) at cic = nothing
expired_as (Some T14) at cic = nothing
expired_as (Some T15) at cic = nothing
expired_as (Some T16) at cic = nothing
expired_as (Some T17) at cic = nothing
expired_as (Some T18) at cic = nothing
expired_as (Some T19) at cic = nothing
expired_as (Some T20) at cic = nothing
expired_as (Some T21) at cic = nothing
expired_as (Some T22) at cic = nothing
expired_as (Some T23) at cic = nothing

-- an operation, to the circuit at the place k
abbrev pub event : ℕ → Operation → ℕ → Event
event first (order o) k = ordered first o k
event first (receive octets) k = read_as first (decode octets) (first + k)
event first (expire timer at kind) k = expired_as (timer_of timer) at (first + k)
