use Rattle.std.proofs.Common.{rules}
use Rattle.message.specs.declared.kinds.BlockType.TheVariants.{Maintenance, Hardware}
use Rattle.supervision.proofs.trunk.Trunk.hear_typed.Goals as goal

pub returns-in-Maintenance-clause-outcome : goal.returns-in-Maintenance-clause-outcome
returns-in-Maintenance-clause-outcome g c = λ what is. rw c.in-Maintenance.is (c.hear_group.ensures.outcome (what, Maintenance) (λ x p. search (rules, is)))

pub returns-clause-outcome : goal.returns-clause-outcome
returns-clause-outcome g c = λ what is. rw c.in-Hardware.is (c.hear_group-in-Hardware.ensures.outcome (what, Hardware) (λ x p. search (rules, is)))
