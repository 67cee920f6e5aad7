use Rattle.std.proofs.Common.{◌≡◌, ◌-◌, [], ◌∷◌, None, ◌∙◌, ap, refl, sym, subst}
use Rattle.message.specs.Msg.{Msg, release}
use Rattle.circuit.specs.declared.record.Circuit.{Circuit}
use Rattle.supervision.specs.declared.due.Condition.TheVariants.{Releasing}
use Rattle.supervision.specs.Due.{holds}
use Rattle.supervision.specs.Expiring.{repeating}
use Rattle.supervision.specs.Lending.{Performed, lent}
use Rattle.supervision.specs.Orders.{circuit_of, release_message}
use Rattle.supervision.specs.Trunks.{placed}
use Rattle.supervision.proofs.Allowing.{at_place}
use Rattle.supervision.proofs.Finishing.{found}
use Rattle.supervision.proofs.Repeating.{one_nothing, one_repeated}
use Rattle.supervision.proofs.trunk.Trunk.repeat_release.Goals as goal

pub returns-then-not-holds : goal.returns-then-not-holds
returns-then-not-holds c = λ H l.
    let t = c.args.self.config in
    let n = c.args.cic.0 in
    let T = c.args.table.now in
    let here = circuit_of t c.args.cic T in
    let v = found here.equipped c.in_ok-place.place (record { 0 = n - t.first.0 }) c.in_ok-place.ensures.value in
    let at : here ≡ placed T (n - t.first.0) = at_place t c.args.cic T v.0 in
    one_nothing t n (holds Releasing) (λ x. release_message n x.cause) None (lent T H c.args.words.now c.args.octets.now) l v.0
    (rw (at, ← v.1) (sym c.holds.ensures ∙ c.if-not-holds.true))

pub returns : goal.returns
returns c = λ H l.
    let t = c.args.self.config in
    let n = c.args.cic.0 in
    let T = c.args.table.now in
    let here = circuit_of t c.args.cic T in
    let v = found here.equipped c.in_ok-place.place (record { 0 = n - t.first.0 }) c.in_ok-place.ensures.value in
    let at : here ≡ placed T (n - t.first.0) = at_place t c.args.cic T v.0 in
    let before = lent T H c.args.words.now c.args.octets.now in
    let after = lent T H c.repeat.new.words c.repeat.new.octets in
    let same : placed T c.in_ok-place.place.0 ≡ here = rw (v.1, at) refl in
    let msg : release n c.from-cause.result ≡ release_message n here.cause = rw c.from-cause.ensures (ap (λ (x : Circuit). release_message n x.cause) same) in
    one_repeated t n (holds Releasing) (λ x. release_message n x.cause) None c.repeat.result before after l v.0
    (rw (at, ← v.1) (sym c.holds.ensures ∙ c.if-not-holds.false))
    (subst (λ (m : Msg). Performed t (repeating (m ∷ []) None) c.repeat.result before after) msg (c.repeat.ensures t T H))
