-- A trunk's places, CICs and time slots, and the circuits there.
use Rattle.std.specs.Prelude.{ℕ, ◌+◌, ◌-◌, ◌*◌, ◌%◌, Bool, true, false, cond, not, ◌&&◌, Some, None, Option, ◌==◌, nat_le, nat_lt, List, slice_index_or}
use Rattle.status.specs.Bits.{is_named}
use Rattle.status.specs.declared.cic.Cic.{Cic}
use Rattle.circuit.specs.Circuits.{vacant}
use Rattle.circuit.specs.declared.record.Circuit.{Circuit}
use Rattle.policy.specs.declared.interface.Place.{Place}
use Rattle.supervision.specs.declared.trunk.Config.{Config}
use Rattle.supervision.specs.declared.limits.TheConstants.{SLOTS}

-- 32 places for each PCM system
abbrev pub places : Config → ℕ
places t = t.systems * SLOTS

-- the place of a CIC is its CIC minus the first
abbrev pub place_of : Config → Cic → Option Place
place_of t cic =
    cond (nat_le t.first.0 cic.0 && nat_lt cic.0 (t.first.0 + places t)) (Some (record { 0 = cic.0 - t.first.0 })) None

-- the CIC of a place of the table
abbrev pub cic_of : Config → Place → Option Cic
cic_of t place = cond (nat_lt place.0 (places t)) (Some (record { 0 = t.first.0 + place.0 })) None

-- the CIC at the place k
abbrev pub cic_at : Config → ℕ → Cic
cic_at t k = record { 0 = t.first.0 + k }

-- both or neither
abbrev pub same : Bool → Bool → Bool
same true b = b
same false b = not b

-- with the higher point code we control the even CICs, otherwise the odd ones
abbrev pub controls : Config → Cic → Bool
controls t cic = same (cic.0 % 2 == 0) t.higher

-- the CIC of time slot 1 of a PCM system, from which our group messages count
abbrev pub first_of : Config → ℕ → ℕ
first_of t system = t.first.0 + system * SLOTS + 1

-- the circuit at a place
abbrev pub placed : List Circuit → ℕ → Circuit
placed table k = slice_index_or table k vacant

-- the places from `first` on that a status of the range r names
abbrev pub covers : ℕ → ℕ → List ℕ → ℕ → Bool
covers first r status k = nat_le first k && is_named r status (k - first)
