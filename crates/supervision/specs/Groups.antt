-- Group messages of our own, and status bits by what the circuits say.
use Rattle.std.specs.Prelude.{ℕ, zero, suc, ◌+◌, ◌*◌, ◌^◌, Bool, cond, ◌&&◌, List, [], ◌∷◌, ◌++◌, ◌==◌, nat_le, nat_lt}
use Rattle.message.specs.Msg.{Msg}
use Rattle.message.specs.declared.kinds.BlockType.{BlockType}
use Rattle.message.specs.declared.kinds.Grouped.{Grouped}
use Rattle.circuit.specs.declared.record.Circuit.{Circuit}
use Rattle.status.specs.Bits.{octets_for}
use Rattle.supervision.specs.declared.trunk.Config.{Config}
use Rattle.supervision.specs.Trunks.{placed}
use Rattle.supervision.specs.Orders.{group_message}
use Rattle.supervision.specs.declared.limits.TheConstants.{SLOTS}

-- the number whose bits below n are set where the test holds
abbrev pub bits_below : (ℕ → Bool) → ℕ → ℕ
bits_below p zero = 0
bits_below p (suc n) = bits_below p n + cond (p n) (2 ^ n) 0

-- the mask of the circuits of a PCM system that are as the test says; time slot 0 is never one
abbrev pub mask_by : (ℕ → Circuit → Bool) → ℕ → List Circuit → ℕ
mask_by p system table = bits_below (λ slot. nat_lt 0 slot && p (system * SLOTS + slot) (placed table (system * SLOTS + slot))) 32

-- our message for the time slots of a mask, if it has any
abbrev pub asking : Config → Grouped → BlockType → ℕ → ℕ → List Msg
asking t what why system mask = cond (mask == 0) [] (group_message t system what why mask ∷ [])

-- our message for such circuits, if there are any
abbrev pub group_for : Config → Grouped → BlockType → (ℕ → Circuit → Bool) → ℕ → List Circuit → List Msg
group_for t what why p system table = asking t what why system (mask_by p system table)

-- one for each of the first n PCM systems concerned, rising
abbrev pub groups_below : Config → Grouped → BlockType → (ℕ → Circuit → Bool) → ℕ → List Circuit → List Msg
groups_below t what why p zero table = []
groups_below t what why p (suc n) table = groups_below t what why p n table ++ group_for t what why p n table

-- one for each PCM system concerned
abbrev pub groups : Config → Grouped → BlockType → (ℕ → Circuit → Bool) → List Circuit → List Msg
groups t what why p table = groups_below t what why p t.systems table

-- octets of status bits, from octet i on
abbrev pub status_from : (ℕ → Bool) → ℕ → ℕ → List ℕ
status_from p i zero = []
status_from p i (suc n) = bits_below (λ b. p (8 * i + b)) 8 ∷ status_from p (suc i) n

-- the status of a range, its spare bits 0
abbrev pub status_by : (ℕ → Bool) → ℕ → List ℕ
status_by p r = status_from (λ n. nat_le n r && p n) 0 (octets_for r)
