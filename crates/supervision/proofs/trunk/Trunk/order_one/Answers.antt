use Rattle.std.proofs.Common.{◌≡◌, ◌-◌, Ok, refl}
use Rattle.message.specs.Meaning.{meaning}
use Rattle.circuit.specs.Laws.{allows}
use Rattle.supervision.specs.Lending.{Lent, lent}
use Rattle.supervision.specs.Orders.{circuit_of, only, ordered, singly}
use Rattle.supervision.proofs.Allowing.{singly_allowed}
use Rattle.supervision.proofs.Keeping.{outcome_of}
use Rattle.supervision.proofs.Finishing.{passed}
use Rattle.supervision.proofs.trunk.Trunk.order_one.Goals as goal

pub returns-clause-outcome : goal.returns-clause-outcome
returns-clause-outcome g c = λ r is.
    let t = c.args.self.config in
    let T = c.args.table.now in
    let here = circuit_of t c.args.cic T in
    let given = is c.rule-rule.result c.rule-rule.ensures in
    let v = passed here.equipped (allows r here) c.in_ok-place.place (record { 0 = c.args.cic.0 - t.first.0 }) (rw given at c.in_ok-place.ensures.value) in
    let before = lent T (g.P.Policy.held c.args.policy.now) c.args.words.now c.args.octets.now in
    let after = lent c.perform_at.new.table (g.P.Policy.held c.perform_at.new.policy) c.perform_at.new.words c.perform_at.new.octets in
    let msg = meaning c.args.message in
    let m = ordered (only t c.args.cic) r msg in
    let a : singly t c.args.cic r msg T ≡ Ok m = rw (v.0, v.1) refl in
    outcome_of t (λ (b : Lent). singly t c.args.cic r msg b.table) m c.perform_at.result before after
    (rw (g.met.P.Policy.sized c.args.policy.now) c.requires.enough.places)
    (singly_allowed t c.args.cic r msg T m a) a
    (rw v.2 at (c.perform_at.ensures.done r (rw given at c.apply-change.ensures.value)))
