use Rattle.std.proofs.Common.{◌≡◌, ◌+◌, ◌-◌, ◌/◌, ◌%◌, ◌^◌, ◌<◌, ◌≤◌, Bool}
use Rattle.circuit.specs.declared.record.Circuit.{Circuit}
use Rattle.supervision.proofs.Passing.{PassBelow}
use Rattle.supervision.proofs.slots.Slots.all.Given as goal

abbrev pub invariant-loop-rest : goal.invariant-loop-rest
invariant-loop-rest g l =
    ((p : Circuit → Bool) → ((c : Circuit) (r : Bool) → goal.F-post g l.passes c r → r ≡ p c) → PassBelow l.self p l.table l.n)
    × (l.past ≤ l.n)
    × (l.n ≤ l.past + 32)
    × (l.n ≤ l.end)
    × (l.rest ≡ l.bits / 2 ^ (l.n - l.past))

abbrev pub decreases-loop-rest : goal.decreases-loop-rest
decreases-loop-rest g l = l.past + 32 - l.n

abbrev pub invariant-loop-past : goal.invariant-loop-past
invariant-loop-past g l =
    ((p : Circuit → Bool) → ((c : Circuit) (r : Bool) → goal.F-post g l.passes c r → r ≡ p c) → PassBelow l.self p l.table l.past)
    × (l.past < l.end → l.past % 32 ≡ 0)
    × (l.past ≤ l.end)

abbrev pub decreases-loop-past : goal.decreases-loop-past
decreases-loop-past g l = l.end - l.past
