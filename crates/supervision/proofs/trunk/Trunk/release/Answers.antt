use Rattle.std.proofs.Common.{rules}
use Rattle.circuit.specs.declared.rules.Rule.TheVariants.{Release}
use Rattle.supervision.proofs.trunk.Trunk.release.Goals as goal

pub returns-clause-outcome : goal.returns-clause-outcome
returns-clause-outcome g c =
    let h = c.order_one.ensures.outcome (Release c.in_ok-cause.cause) (λ x p. search rules) in
    search (rules, h)
