use Rattle.std.proofs.Common.{rules}
use Rattle.supervision.proofs.trunk.Trunk.order_single.Goals as goal

pub returns-clause-outcome : goal.returns-clause-outcome
returns-clause-outcome g c = λ r is.
    let h = c.order_one.ensures.outcome r is in
    search (rules, h)
