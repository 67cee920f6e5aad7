use Rattle.std.proofs.Common.{rules}
use Rattle.message.specs.declared.kinds.BlockType.TheVariants.{Maintenance, Hardware}
use Rattle.supervision.proofs.trunk.Trunk.order_typed.Goals as goal

pub returns-in-Maintenance-clause-outcome : goal.returns-in-Maintenance-clause-outcome
returns-in-Maintenance-clause-outcome g c = λ of is.
    let h = c.order_group.ensures.outcome (of Maintenance) (λ x p. search (rules, is)) in
    search (rules, h)

pub returns-in-Maintenance-clause-group : goal.returns-in-Maintenance-clause-group
returns-in-Maintenance-clause-group g c = λ of is.
    let h = c.order_group.ensures.group (of Maintenance) (λ x p. search (rules, is)) in
    search (rules, h)

pub returns-clause-outcome : goal.returns-clause-outcome
returns-clause-outcome g c = λ of is.
    let h = c.order_group-in-Hardware.ensures.outcome (of Hardware) (λ x p. search (rules, is)) in
    search (rules, h)

pub returns-clause-group : goal.returns-clause-group
returns-clause-group g c = λ of is.
    let h = c.order_group-in-Hardware.ensures.group (of Hardware) (λ x p. search (rules, is)) in
    search (rules, h)
