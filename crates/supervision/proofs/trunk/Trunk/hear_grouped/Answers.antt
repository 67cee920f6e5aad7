use Rattle.std.proofs.Common.{rules}
use Rattle.message.specs.declared.kinds.Grouped.TheVariants.{Cgb, Cgu, Cgba, Cgua}
use Rattle.supervision.proofs.trunk.Trunk.hear_grouped.Goals as goal

pub returns-in-Cgb-clause-outcome : goal.returns-in-Cgb-clause-outcome
returns-in-Cgb-clause-outcome g c = rw c.in-Cgb.is (c.hear_typed.ensures.outcome Cgb (λ x p. search rules))

pub returns-in-Cgu-clause-outcome : goal.returns-in-Cgu-clause-outcome
returns-in-Cgu-clause-outcome g c = rw c.in-Cgu.is (c.hear_typed-in-Cgu.ensures.outcome Cgu (λ x p. search rules))

pub returns-in-Cgba-clause-outcome : goal.returns-in-Cgba-clause-outcome
returns-in-Cgba-clause-outcome g c = rw c.in-Cgba.is (c.hear_typed-in-Cgba.ensures.outcome Cgba (λ x p. search rules))

pub returns-in-Cgua-clause-outcome : goal.returns-in-Cgua-clause-outcome
returns-in-Cgua-clause-outcome g c = rw c.in-Cgua.is (c.hear_typed-in-Cgua.ensures.outcome Cgua (λ x p. search rules))
