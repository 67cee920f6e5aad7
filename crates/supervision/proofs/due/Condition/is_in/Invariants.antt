use Rattle.std.proofs.Common.{◌≡◌, ℕ, ◌+◌, ◌*◌, ◌<◌, false, ◌&&◌, ltb}
use Rattle.supervision.specs.Due.{holds}
use Rattle.supervision.specs.Trunks.{placed}
use Rattle.supervision.proofs.due.Condition.is_in.Given as goal

abbrev pub invariant-loop-slot : goal.invariant-loop-slot
invariant-loop-slot l =
    (j : ℕ) → j < l.slot → (ltb 0 j && ((placed l.table (l.system * 32 + j)).equipped && holds l.self (placed l.table (l.system * 32 + j)))) ≡ false
