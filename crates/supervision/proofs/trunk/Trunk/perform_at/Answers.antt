use Rattle.std.proofs.Common.{[], eqb, refl}
use Rattle.supervision.specs.Receiving.{moving}
use Rattle.circuit.specs.Orders.{applied}
use Rattle.supervision.specs.Lending.{lent}
use Rattle.supervision.proofs.trunk.Trunk.perform_at.Goals as goal

pub returns-clause-done : goal.returns-clause-done
returns-clause-done g c = λ rule is.
    c.send.ensures.sends c.args.self.config (moving (λ k. eqb k c.args.place.0) (λ _. applied rule) [])
    (lent c.args.table.now (g.P.Policy.held c.args.policy.now) c.args.words.now c.args.octets.now) c.change_at-told.new.table (g.P.Policy.held c.change_at-told.new.policy) refl
    (c.change_at-told.ensures.done (applied rule) is c.args.octets.now)
