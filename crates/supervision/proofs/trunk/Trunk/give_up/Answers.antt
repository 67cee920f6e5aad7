use Rattle.std.proofs.Common.{◌≡◌, ◌-◌, true, false, not, eqb, [], ◌∷◌, Ok, sym, refl, ap, ◌∙◌}
use Rattle.message.specs.Msg.{single}
use Rattle.message.specs.declared.kinds.Single.TheVariants.{Rsc}
use Rattle.circuit.specs.Circuits.{is_releasing}
use Rattle.circuit.specs.Laws.{allows}
use Rattle.circuit.specs.Orders.{applied}
use Rattle.circuit.specs.declared.record.Reset.TheVariants as reset
use Rattle.circuit.specs.declared.rules.Rule.TheVariants.{Reset}
use Rattle.words.specs.declared.kinds.Timer.TheVariants.{T5}
use Rattle.supervision.specs.Expiring.{alerting, alert_at, gives_up}
use Rattle.supervision.specs.Lending.{Lent, lent}
use Rattle.supervision.specs.Orders.{circuit_of, only, ordered}
use Rattle.supervision.specs.Receiving.{moving}
use Rattle.supervision.specs.Steps.{sending}
use Rattle.supervision.specs.Trunks.{placed}
use Rattle.supervision.proofs.Allowing.{at_place}
use Rattle.supervision.proofs.Finishing.{found}
use Rattle.supervision.proofs.Hearing.{given_up}
use Rattle.supervision.proofs.Keeping.{outcome_of}
use Rattle.supervision.proofs.Repeating.{outcome_nothing}
use Rattle.supervision.proofs.trunk.Trunk.give_up.Goals as goal

pub returns-then-not-holds-clause-outcome : goal.returns-then-not-holds-clause-outcome
returns-then-not-holds-clause-outcome g c =
    let t = c.args.self.config in
    let n = c.args.cic.0 in
    let T = c.args.table.now in
    let here = circuit_of t c.args.cic T in
    let v = found here.equipped c.in_ok-place.place (record { 0 = n - t.first.0 }) c.in_ok-place.ensures.value in
    let at : here ≡ placed T (n - t.first.0) = at_place t c.args.cic T v.0 in
    let idle : is_releasing here.call ≡ false = rw (at, ← v.1) (sym c.holds.ensures ∙ c.if-not-holds.true) in
    outcome_nothing t (λ (b : Lent). gives_up t n b.table) (lent T (g.P.Policy.held c.args.policy.now) c.args.words.now c.args.octets.now)
    (rw (g.met.P.Policy.sized c.args.policy.now) c.requires.enough.places)
    (rw (v.0, idle) refl)

pub returns-clause-outcome : goal.returns-clause-outcome
returns-clause-outcome g c =
    let t = c.args.self.config in
    let n = c.args.cic.0 in
    let T = c.args.table.now in
    let U = c.change_at-told.new.table in
    let H = g.P.Policy.held c.change_at-told.new.policy in
    let before = lent T (g.P.Policy.held c.args.policy.now) c.args.words.now c.args.octets.now in
    let after = lent U H c.alert.new.words c.send-written.new.octets in
    let here = circuit_of t c.args.cic T in
    let v = found here.equipped c.in_ok-place.place (record { 0 = n - t.first.0 }) c.in_ok-place.ensures.value in
    let at : here ≡ placed T (n - t.first.0) = at_place t c.args.cic T v.0 in
    let busy : is_releasing here.call ≡ true = rw (at, ← v.1) (sym c.holds.ensures ∙ c.if-not-holds.false) in
    let may : allows (Reset reset.Single) here ≡ true = rw (at, ← v.1) (ap not (sym c.is_group.ensures ∙ c.if-is_group.false)) in
    let first = moving (λ k. eqb k c.in_ok-place.place.0) (λ _. applied (Reset reset.Single)) [] in
    let m = alerting (alert_at T5 n) (ordered (only t c.args.cic) (Reset reset.Single) (single n Rsc)) in
    let accepted : gives_up t n T ≡ Ok m = rw (v.0, busy, may) refl in
    let done = c.alert.ensures.alerts c.send-written.new.octets t (sending (single n Rsc ∷ []) first) before U H refl
    (c.send-written.ensures.sends t first before U H refl (c.change_at-told.ensures.done (applied (Reset reset.Single)) c.apply-change.ensures.value c.args.octets.now)) in
    outcome_of t (λ (b : Lent). gives_up t n b.table) m c.alert.result before after
    (rw (g.met.P.Policy.sized c.args.policy.now) c.requires.enough.places)
    (given_up t n T m accepted) accepted
    (rw v.1 at done)
