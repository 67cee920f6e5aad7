use Rattle.circuit.proofs.Keeping.{iam_keeps}
use Rattle.circuit.proofs.signals.Signal.apply.Goals as goal

pub returns-in-Iam-clause-keeps : goal.returns-in-Iam-clause-keeps
returns-in-Iam-clause-keeps c = rw c.called.ensures (iam_keeps c.in-Iam.controlled c.args.circuit)
