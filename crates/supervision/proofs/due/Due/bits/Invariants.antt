use Rattle.std.proofs.Common.{◌≡◌, ◌+◌, ◌&&◌, leb}
use Rattle.supervision.specs.Due.{is_due}
use Rattle.supervision.specs.Groups.{bits_below}
use Rattle.supervision.specs.Trunks.{placed}
use Rattle.supervision.proofs.due.Due.bits.Given as goal

abbrev pub invariant-loop-n : goal.invariant-loop-n
invariant-loop-n l = l.bits ≡ bits_below (λ n. leb l.start n && is_due l.self (l.from.0 + n) (placed l.table (l.from.0 + n))) l.n
