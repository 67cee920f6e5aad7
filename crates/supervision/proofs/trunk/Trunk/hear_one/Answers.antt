use Rattle.std.proofs.Common.{◌≡◌, ℕ, ◌-◌, eqb, [], refl}
use Rattle.circuit.specs.Signals.{on_signal}
use Rattle.circuit.proofs.Keeping.{signal_keeps}
use Rattle.supervision.specs.Lending.{Lent, lent}
use Rattle.supervision.specs.Orders.{circuit_of, only}
use Rattle.supervision.specs.Receiving.{moving, to_one}
use Rattle.supervision.specs.Replies.{reply_to}
use Rattle.supervision.specs.Trunks.{placed}
use Rattle.supervision.proofs.Allowing.{at_place}
use Rattle.supervision.proofs.Finishing.{found}
use Rattle.supervision.proofs.Keeping.{outcome_of}
use Rattle.supervision.proofs.trunk.Trunk.hear_one.Goals as goal

pub returns-clause-outcome : goal.returns-clause-outcome
returns-clause-outcome g c = λ s is.
    let t = c.args.self.config in
    let e : c.signal-signal.result ≡ s = is c.signal-signal.result c.signal-signal.ensures in
    let n = c.args.cic.0 in
    let T = c.args.table.now in
    let before = lent T (g.P.Policy.held c.args.policy.now) c.args.words.now c.args.octets.now in
    let after = lent c.change_at-told.new.table (g.P.Policy.held c.change_at-told.new.policy) c.reply.new.words c.reply.new.octets in
    let here = circuit_of t c.args.cic T in
    let v = found here.equipped c.in_ok-place.place (record { 0 = n - t.first.0 }) c.in_ok-place.ensures.value in
    let act = λ (_ : ℕ). on_signal s in
    let m = moving (only t c.args.cic) act (reply_to n s here) in
    let at : here ≡ placed T (n - t.first.0) = at_place t c.args.cic T v.0 in
    let done = (rw e at c.reply.ensures.sends) t (moving (λ k. eqb k c.in_ok-place.place.0) act []) before c.change_at-told.new.table (g.P.Policy.held c.change_at-told.new.policy) refl
    (c.change_at-told.ensures.done (on_signal s) (rw e at (c.requires.same c.signal-signal.result _ c.change.result c.signal-signal.ensures c.change.ensures)) c.args.octets.now) in
    outcome_of t (λ (b : Lent). to_one t n (on_signal s) (reply_to n s) b.table) m c.reply.result before after
    (rw (g.met.P.Policy.sized c.args.policy.now) c.requires.enough.places)
    (λ k _ _. signal_keeps s (placed T k))
    (rw v.0 refl)
    (rw at (rw v.1 at done))
