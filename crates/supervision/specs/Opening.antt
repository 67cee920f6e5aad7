-- Opening a trunk.
use Rattle.std.specs.Prelude.{◌≡◌, ℕ, ◌+◌, ◌*◌, ◌/◌, ◌%◌, ◌^◌, Bool, not, ◌&&◌, List, map, length, Ok, Err, Result, ◌==◌, nat_le, nat_lt, slice_index}
use Rattle.std.specs.List.{list_all, range_with_len}
use Rattle.status.specs.declared.cic.Cic.{Cic}
use Rattle.policy.specs.Sets.{Follows}
use Rattle.policy.specs.declared.interface.Update.{Update}
use Rattle.circuit.specs.Circuits.{fresh, is_open}
use Rattle.circuit.specs.declared.record.Circuit.{Circuit}
use Rattle.refusal.specs.declared.reasons.Refusal.{Refusal}
use Rattle.refusal.specs.declared.reasons.Refusal.TheVariants.{Opening, Places}
use Rattle.supervision.specs.declared.trunk.Config.{Config}
use Rattle.supervision.specs.declared.trunk.Trunk.{Trunk}
use Rattle.supervision.specs.Laws.{AllSound, SetIsOpen}
use Rattle.supervision.specs.Trunks.{placed}
use Rattle.supervision.specs.Telling.{Tells, withdrawals, unopened}
use Rattle.refusal.specs.Refusals.{unless}
use Rattle.supervision.specs.declared.limits.TheConstants.{MOST_SYSTEMS, SLOTS}

-- an equipment word has bit 0 clear and bits 1 and 31 set
abbrev pub is_equipment : ℕ → Bool
is_equipment w = w % 2 == 0 && (w / 2 % 2 == 1 && w / 2 ^ 31 % 2 == 1)

abbrev pub are_equipment : List ℕ → Bool
are_equipment ws = list_all is_equipment ws

-- from a multiple of 32 on, 1 to 16 PCM systems of 32 places, and no CIC past 4,095
abbrev pub fits_trunk : ℕ → List ℕ → ℕ → Bool
fits_trunk first ws places =
    (first % SLOTS == 0) && (nat_le 1 (length ws) && (nat_le (length ws) MOST_SYSTEMS && (nat_le (first + length ws * SLOTS) 4096
    && (places == length ws * SLOTS && are_equipment ws))))

abbrev pub opening : ℕ → Cic → List ℕ → Bool → ℕ → Result Config Refusal
opening room first ws higher places =
    unless (not (fits_trunk first.0 ws places)) Opening
    (unless (nat_lt room places) Places
    (Ok (record { first = first; systems = length ws; higher = higher })))

-- bit k of a PCM system's word says that time slot k is a circuit
abbrev pub equipped_at : List ℕ → ℕ → Bool
equipped_at ws k = slice_index ws (k / SLOTS) / 2 ^ (k % SLOTS) % 2 == 1

-- the table of a trunk newly opened
abbrev pub open_table : List ℕ → List Circuit
open_table ws = map (λ k. fresh (equipped_at ws k)) (range_with_len 0 (length ws * SLOTS))

-- the set of the open circuits, as a mark for each place that the policy takes
abbrev pub open_set : ℕ → List Circuit → List Bool
open_set room table = map (λ k. is_open (placed table k)) (range_with_len 0 room)

-- the numbers of the trunk that was opened
abbrev pub config_of : Result Trunk Refusal → Result Config Refusal
config_of (Err e) = Err e
config_of (Ok trunk) = Ok trunk.config

-- what opening leaves: refused, all is as it was
abbrev pub OpenedIf : Result Config Refusal → ℕ → List ℕ → List Circuit → List Bool → List Circuit → List Bool → Type 0
OpenedIf (Err e) room ws table held table' held' = (table' ≡ table) × (held' ≡ held)
OpenedIf (Ok t) room ws table held table' held' = (table' ≡ open_table ws) × (held' ≡ open_set room (open_table ws))

-- a trunk newly opened has sound records, and the policy's set is exactly the open circuits
abbrev pub OpenLaws : Result Config Refusal → List Circuit → List Bool → Type 0
OpenLaws (Err e) table held = Unit {0}
OpenLaws (Ok t) table held = AllSound table × SetIsOpen table held × ((k : ℕ) → placed table k ≡ fresh (placed table k).equipped)

-- what opening tells the policy: every place is withdrawn, and then what opened is offered
abbrev pub TellsOpen : {P : Type 0} → (Update → P → P → Type 0) → Result Config Refusal → ℕ → List ℕ → P → P → Type 0
TellsOpen {P} obeys (Err e) room ws p q = q ≡ p
TellsOpen {P} obeys (Ok t) room ws p q = (m : P) × Follows obeys (withdrawals room) p m × Tells obeys (unopened (open_table ws)) (open_table ws) m q
