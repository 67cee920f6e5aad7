use Rattle.std.proofs.Common.{◌≡◌, ℕ, ◌+◌, ◌*◌, ◌<◌, get_or}
use Rattle.circuit.specs.Circuits.{fresh, vacant}
use Rattle.supervision.specs.Opening.{equipped_at}
use Rattle.supervision.proofs.opening.fill.Given as goal

abbrev pub invariant-loop-system : goal.invariant-loop-system
invariant-loop-system l = (k : ℕ) → k < l.system * 32 → get_or l.table k vacant ≡ fresh (equipped_at l.equipment k)

abbrev pub invariant-loop-slot : goal.invariant-loop-slot
invariant-loop-slot l = (k : ℕ) → k < l.system * 32 + l.slot → get_or l.table k vacant ≡ fresh (equipped_at l.equipment k)
