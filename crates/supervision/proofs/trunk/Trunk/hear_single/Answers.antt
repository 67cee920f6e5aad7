use Rattle.std.proofs.Common.{rules}
use Rattle.message.specs.declared.kinds.BlockType.TheVariants.{Maintenance}
use Rattle.circuit.specs.declared.signals.Signal.TheVariants.{Block, Unblock, BlockAck, UnblockAck}
use Rattle.supervision.proofs.trunk.Trunk.hear_single.Goals as goal

pub returns-in-Blo-clause-outcome : goal.returns-in-Blo-clause-outcome
returns-in-Blo-clause-outcome g c = rw c.in-Blo.is (c.hear_one.ensures.outcome (Block Maintenance) (λ x p. search rules))

pub returns-in-Ubl-clause-outcome : goal.returns-in-Ubl-clause-outcome
returns-in-Ubl-clause-outcome g c = rw c.in-Ubl.is (c.hear_one-in-Ubl.ensures.outcome (Unblock Maintenance) (λ x p. search rules))

pub returns-in-Bla-clause-outcome : goal.returns-in-Bla-clause-outcome
returns-in-Bla-clause-outcome g c = rw c.in-Bla.is (c.hear_one-in-Bla.ensures.outcome (BlockAck Maintenance) (λ x p. search rules))

pub returns-in-Uba-clause-outcome : goal.returns-in-Uba-clause-outcome
returns-in-Uba-clause-outcome g c = rw c.in-Uba.is (c.hear_one-in-Uba.ensures.outcome (UnblockAck Maintenance) (λ x p. search rules))
