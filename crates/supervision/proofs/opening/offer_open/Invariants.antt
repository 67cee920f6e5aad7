use Rattle.std.proofs.Common.{◌≡◌, ℕ, false, ◌&&◌, ltb, get_or, take}
use Rattle.circuit.specs.Circuits.{is_open}
use Rattle.supervision.specs.Trunks.{placed}
use Rattle.supervision.specs.Lending.{over}
use Rattle.supervision.specs.Telling.{Tells, unopened}
use Rattle.supervision.proofs.opening.offer_open.Given as goal

abbrev pub invariant-loop-place : goal.invariant-loop-place
invariant-loop-place g l =
    ((k : ℕ) → get_or (g.P.Policy.held l.policy) k false ≡ (ltb k l.place && is_open (placed l.table k)))
    × Tells g.P.Policy.obeys (unopened l.table) (over (take l.place l.table) (unopened l.table)) l.initial.policy l.policy
