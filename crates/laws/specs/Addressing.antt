-- Which messages, orders and expiries are accepted.
use Rattle.std.specs.Prelude.{◌↔◌, ◌≡◌, ◌≢◌, ℕ, ◌+◌, ◌-◌, ◌*◌, ◌%◌, ◌<◌, ◌≤◌, true, List, length, is_ok, Some, None, Ok, Option}
use Rattle.status.specs.Bits.{is_named}
use Rattle.message.specs.Decode.{decode}
use Rattle.message.specs.Msg.{Msg, single, release_complete, group_reset, group_reset_ack, grouped, release, call}
use Rattle.circuit.specs.declared.record.Call.TheVariants.{Releasing}
use Rattle.circuit.specs.declared.record.Circuit.{Circuit}
use Rattle.circuit.specs.declared.record.Reset.TheVariants as reset
use Rattle.words.specs.Words.{timer_of}
use Rattle.words.specs.declared.kinds.Timer.{Timer}
use Rattle.words.specs.declared.kinds.Timer.TheVariants.{T1, T5, T12, T13, T14, T15, T16, T17, T18, T19, T20, T21, T22, T23}
use Rattle.supervision.specs.Answering as of
use Rattle.supervision.specs.Answering.{Order, answer}
use Rattle.supervision.specs.Expiring.{expiring}
use Rattle.supervision.specs.Lending.{Lent, Suffices}
use Rattle.supervision.specs.Receiving.{receiving}
use Rattle.supervision.specs.Trunks.{placed}
use Rattle.supervision.specs.declared.trunk.Config.{Config}
use Rattle.laws.specs.Calls.{Connected, Open}
use Rattle.laws.specs.Events.{in_mask}
use Rattle.supervision.specs.declared.limits.TheConstants.{SLOTS}

-- the CIC is that of a circuit
abbrev pub IsCircuit : Config → List Circuit → ℕ → Type 0
IsCircuit t T c = (t.first.0 ≤ c) × ((placed T (c - t.first.0)).equipped ≡ true)

-- the CICs c to c + r are all of the table
abbrev pub IsRange : Config → ℕ → ℕ → Type 0
IsRange t c r = (t.first.0 ≤ c) × (c + r < t.first.0 + t.systems * SLOTS)

-- so, and each set bit is that of a circuit
abbrev pub IsNamed : Config → List Circuit → ℕ → ℕ → List ℕ → Type 0
IsNamed t T c r s = IsRange t c r × ((n : ℕ) → is_named r s n ≡ true → (placed T (c - t.first.0 + n)).equipped ≡ true)

abbrev pub Addressed : Config → List Circuit → Msg → Type 0
Addressed t T (single c kind) = IsCircuit t T c
Addressed t T (release_complete c) = IsCircuit t T c
Addressed t T (release c cause) = IsCircuit t T c
Addressed t T (call c kind body) = IsCircuit t T c
Addressed t T (grouped c kind i r s) = IsNamed t T c r s
Addressed t T (group_reset c r) = IsRange t c r
Addressed t T (group_reset_ack c r s) = IsNamed t T c r s

-- where enough is lent, a message that can be read is accepted exactly where it is addressed to such circuits
abbrev pub MessagesAccepted : Type 0
MessagesAccepted = (t : Config) (room : ℕ) (octets : List ℕ) (lent : Lent) (message : Msg) → Suffices t room lent → decode octets ≡ Ok message
    → ((is_ok (receiving t room octets lent) ≡ true) ↔ (Addressed t lent.table message))

-- each time slot of a mask is a circuit without a waiting reset; time slot 0 is none
pub record IsMask (t : Config) (T : List Circuit) (system mask : ℕ) : Type 0 where
  pub inside : system < t.systems
  pub even : mask % 2 ≢ 1
  pub circuits : (k : ℕ) → k < length T → in_mask system mask k ≡ true → (placed T k).equipped ≡ true
  pub no_resets : (k : ℕ) → k < length T → in_mask system mask k ≡ true → (placed T k).reset ≡ reset.None

abbrev pub Acceptable : Config → List Circuit → Order → Type 0
-- the policy chose a circuit that is open
Acceptable t T (of.seize body None) = ⊥
Acceptable t T (of.seize body (Some place)) = ((1 ≤ length body) × (length body ≤ 256)) × Open (placed T place.0)
Acceptable t T (of.release cic location value) =
    ((location ≤ 15) × (value ≤ 127)) × (IsCircuit t T cic.0 × Connected (placed T (cic.0 - t.first.0)).call)
Acceptable t T (of.block cic) = IsCircuit t T cic.0 × ((placed T (cic.0 - t.first.0)).reset ≡ reset.None)
Acceptable t T (of.unblock cic) = IsCircuit t T cic.0 × ((placed T (cic.0 - t.first.0)).reset ≡ reset.None)
Acceptable t T (of.reset cic) = IsCircuit t T cic.0 × ((placed T (cic.0 - t.first.0)).reset ≢ reset.Group)
Acceptable t T (of.group_block kind system mask) = ((kind ≤ 1) × (mask ≢ 0)) × IsMask t T system mask
Acceptable t T (of.group_unblock kind system mask) = ((kind ≤ 1) × (mask ≢ 0)) × IsMask t T system mask
Acceptable t T (of.group_reset system) = system < t.systems

-- where enough is lent, an order is accepted exactly if it is acceptable
abbrev pub OrdersAccepted : Type 0
OrdersAccepted = (t : Config) (room : ℕ) (o : Order) (lent : Lent) → Suffices t room lent
    → ((is_ok (answer t room o lent) ≡ true) ↔ (Acceptable t lent.table o))

-- the CIC of a circuit, or a PCM system of the trunk and a type, as the timer asks
abbrev pub Expirable : Config → List Circuit → Option Timer → ℕ → ℕ → Type 0
Expirable t T None at kind = ⊥
Expirable t T (Some T1) at kind = IsCircuit t T at
-- what T5 does may not be ordered while a group reset waits
Expirable t T (Some T5) at kind =
    IsCircuit t T at × ((placed T (at - t.first.0)).call ≡ Releasing → (placed T (at - t.first.0)).reset ≢ reset.Group)
Expirable t T (Some T12) at kind = IsCircuit t T at
Expirable t T (Some T13) at kind = IsCircuit t T at
Expirable t T (Some T14) at kind = IsCircuit t T at
Expirable t T (Some T15) at kind = IsCircuit t T at
Expirable t T (Some T16) at kind = IsCircuit t T at
Expirable t T (Some T17) at kind = IsCircuit t T at
Expirable t T (Some T18) at kind = (kind ≤ 1) × (at < t.systems)
Expirable t T (Some T19) at kind = (kind ≤ 1) × (at < t.systems)
Expirable t T (Some T20) at kind = (kind ≤ 1) × (at < t.systems)
Expirable t T (Some T21) at kind = (kind ≤ 1) × (at < t.systems)
Expirable t T (Some T22) at kind = at < t.systems
Expirable t T (Some T23) at kind = at < t.systems

-- where enough is lent, an expiry is accepted exactly if it names such
abbrev pub ExpiriesAccepted : Type 0
ExpiriesAccepted = (t : Config) (room timer at kind : ℕ) (lent : Lent) → Suffices t room lent
    → ((is_ok (expiring t room timer at kind lent) ≡ true) ↔ (Expirable t lent.table (timer_of timer) at kind))
