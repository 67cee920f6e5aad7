use Rattle.std.proofs.Common.{[], refl, rules}
use Rattle.supervision.specs.Receiving.{moving}
use Rattle.circuit.specs.Orders.{applied}
use Rattle.supervision.specs.declared.slots.Effect.TheVariants.{Marked}
use Rattle.supervision.specs.Steps.{named_by}
use Rattle.supervision.specs.Lending.{lent}
use Rattle.supervision.proofs.trunk.Trunk.perform.Goals as goal

pub returns-clause-done : goal.returns-clause-done
returns-clause-done g c = λ r is.
    c.send.ensures.sends c.args.self.config (moving (named_by c.args.slots) (λ _. applied r) [])
    (lent c.args.table.now (g.P.Policy.held c.args.policy.now) c.args.words.now c.args.octets.now) c.sweep-told.new.table (g.P.Policy.held c.sweep-told.new.policy) refl
    (c.sweep-told.ensures.done (Marked r) (λ x p. search (rules, is)) c.args.octets.now)
