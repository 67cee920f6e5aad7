use Rattle.std.proofs.Common.{rules}
use Rattle.circuit.specs.declared.signals.Signal.TheVariants.{Rel, Rlc}
use Rattle.supervision.proofs.trunk.Trunk.hear.Goals as goal

pub returns-in-ReleaseComplete-clause-outcome : goal.returns-in-ReleaseComplete-clause-outcome
returns-in-ReleaseComplete-clause-outcome g c = rw c.in-ReleaseComplete.is (c.hear_one.ensures.outcome Rlc (λ x p. search rules))

pub returns-in-Release-clause-outcome : goal.returns-in-Release-clause-outcome
returns-in-Release-clause-outcome g c = rw c.in-Release.is (c.hear_one-in-Release.ensures.outcome Rel (λ x p. search rules))

pub returns-in-Call-clause-outcome : goal.returns-in-Call-clause-outcome
returns-in-Call-clause-outcome g c = rw c.in-Call.is (c.hear_call.ensures.outcome c.in-Call.field-2.now)
