use Rattle.std.proofs.Common.{rules}
use Rattle.circuit.specs.declared.signals.Signal.TheVariants.{Iam, Progress}
use Rattle.supervision.specs.Lending.{lent}
use Rattle.supervision.specs.Trunks.{controls}
use Rattle.supervision.proofs.Ranges.{progress_outcome}
use Rattle.supervision.proofs.trunk.Trunk.hear_call.Goals as goal

pub returns-in-Iam-clause-outcome : goal.returns-in-Iam-clause-outcome
returns-in-Iam-clause-outcome g c = λ body.
    rw c.in-Iam.is (c.hear_one.ensures.outcome (Iam (controls c.args.self.config c.args.cic)) (λ x p. search (rules, c.controls-controlled.ensures)))

pub returns-in-Acm : goal.returns-in-Acm
returns-in-Acm g c = record {
  outcome = λ body.
      progress_outcome c.args.self.config c.args.cic.0 c.args.kind body c.hear_one-in-Acm.result
      (lent c.args.table.now (g.P.Policy.held c.args.policy.now) c.args.words.now c.args.octets.now)
      (lent c.hear_one-in-Acm.new.table (g.P.Policy.held c.hear_one-in-Acm.new.policy) c.hear_one-in-Acm.new.words c.hear_one-in-Acm.new.octets)
      c.in-Acm.is (c.hear_one-in-Acm.ensures.outcome Progress (λ x p. search rules));
  policy = c.hear_one-in-Acm.ensures.policy;
}
