use Rattle.std.proofs.Common.{Some, None, ap, ◌∙◌, sym}
use Rattle.message.specs.declared.kinds.Grouped.TheVariants.{Cgb, Cgu}
use Rattle.words.specs.Words.{timer_of}
use Rattle.words.specs.declared.kinds.Timer.TheVariants.{T18, T19, T20, T21, T22, T23}
use Rattle.supervision.specs.Expiring.{alert_at, asked_for, lifting_for, expiring, repeats_group, repeats_reset}
use Rattle.supervision.specs.Lending.{Lent, lent}
use Rattle.supervision.specs.Trunks.{first_of}
use Rattle.supervision.proofs.Repeating.{expiring_at}
use Rattle.supervision.proofs.Keeping.{outcome_as}
use Rattle.supervision.proofs.trunk.Trunk.expire.Goals as goal

pub returns-in-T18-clause-outcome : goal.returns-in-T18-clause-outcome
returns-in-T18-clause-outcome g c =
    let t = c.args.self.config in
    let at = c.args.at in
    let kind = c.args.kind in
    let H = g.P.Policy.held c.args.policy.now in
    let before = lent c.args.table.now H c.args.words.now c.args.octets.now in
    let after = lent c.args.table.now H c.repeat_blocks.new.words c.repeat_blocks.new.octets in
    outcome_as t (expiring t g.P.Policy.PLACES c.args.timer at kind) (λ (b : Lent). repeats_group t at kind Cgb asked_for None b.table) c.repeat_blocks.result before after
    (expiring_at t g.P.Policy.PLACES c.args.timer T18 at kind before c.in_ok-admit.ensures.value (ap Some (sym c.in-T18.is) ∙ c.in-Ok.ensures ∙ ap timer_of c.from.ensures))
    (c.repeat_blocks.ensures H (rw (g.met.P.Policy.sized c.args.policy.now) c.in_ok-admit.ensures.enough.places))

pub returns-in-T19-clause-outcome : goal.returns-in-T19-clause-outcome
returns-in-T19-clause-outcome g c =
    let t = c.args.self.config in
    let at = c.args.at in
    let kind = c.args.kind in
    let H = g.P.Policy.held c.args.policy.now in
    let before = lent c.args.table.now H c.args.words.now c.args.octets.now in
    let after = lent c.args.table.now H c.repeat_blocks-in-T19.new.words c.repeat_blocks-in-T19.new.octets in
    outcome_as t (expiring t g.P.Policy.PLACES c.args.timer at kind) (λ (b : Lent). repeats_group t at kind Cgb asked_for (alert_at T19 (first_of t at)) b.table) c.repeat_blocks-in-T19.result before after
    (expiring_at t g.P.Policy.PLACES c.args.timer T19 at kind before c.in_ok-admit.ensures.value (ap Some (sym c.in-T19.is) ∙ c.in-Ok.ensures ∙ ap timer_of c.from.ensures))
    (rw c.in-T19.is at (c.repeat_blocks-in-T19.ensures H (rw (g.met.P.Policy.sized c.args.policy.now) c.in_ok-admit.ensures.enough.places)))

pub returns-in-T20-clause-outcome : goal.returns-in-T20-clause-outcome
returns-in-T20-clause-outcome g c =
    let t = c.args.self.config in
    let at = c.args.at in
    let kind = c.args.kind in
    let H = g.P.Policy.held c.args.policy.now in
    let before = lent c.args.table.now H c.args.words.now c.args.octets.now in
    let after = lent c.args.table.now H c.repeat_blocks-in-T20.new.words c.repeat_blocks-in-T20.new.octets in
    outcome_as t (expiring t g.P.Policy.PLACES c.args.timer at kind) (λ (b : Lent). repeats_group t at kind Cgu lifting_for None b.table) c.repeat_blocks-in-T20.result before after
    (expiring_at t g.P.Policy.PLACES c.args.timer T20 at kind before c.in_ok-admit.ensures.value (ap Some (sym c.in-T20.is) ∙ c.in-Ok.ensures ∙ ap timer_of c.from.ensures))
    (c.repeat_blocks-in-T20.ensures H (rw (g.met.P.Policy.sized c.args.policy.now) c.in_ok-admit.ensures.enough.places))

pub returns-in-T21-clause-outcome : goal.returns-in-T21-clause-outcome
returns-in-T21-clause-outcome g c =
    let t = c.args.self.config in
    let at = c.args.at in
    let kind = c.args.kind in
    let H = g.P.Policy.held c.args.policy.now in
    let before = lent c.args.table.now H c.args.words.now c.args.octets.now in
    let after = lent c.args.table.now H c.repeat_blocks-in-T21.new.words c.repeat_blocks-in-T21.new.octets in
    outcome_as t (expiring t g.P.Policy.PLACES c.args.timer at kind) (λ (b : Lent). repeats_group t at kind Cgu lifting_for (alert_at T21 (first_of t at)) b.table) c.repeat_blocks-in-T21.result before after
    (expiring_at t g.P.Policy.PLACES c.args.timer T21 at kind before c.in_ok-admit.ensures.value (ap Some (sym c.in-T21.is) ∙ c.in-Ok.ensures ∙ ap timer_of c.from.ensures))
    (rw c.in-T21.is at (c.repeat_blocks-in-T21.ensures H (rw (g.met.P.Policy.sized c.args.policy.now) c.in_ok-admit.ensures.enough.places)))

pub returns-in-T22-clause-outcome : goal.returns-in-T22-clause-outcome
returns-in-T22-clause-outcome g c =
    let t = c.args.self.config in
    let at = c.args.at in
    let kind = c.args.kind in
    let H = g.P.Policy.held c.args.policy.now in
    let before = lent c.args.table.now H c.args.words.now c.args.octets.now in
    let after = lent c.args.table.now H c.repeat_group_reset.new.words c.repeat_group_reset.new.octets in
    outcome_as t (expiring t g.P.Policy.PLACES c.args.timer at kind) (λ (b : Lent). repeats_reset t at None b.table) c.repeat_group_reset.result before after
    (expiring_at t g.P.Policy.PLACES c.args.timer T22 at kind before c.in_ok-admit.ensures.value (ap Some (sym c.in-T22.is) ∙ c.in-Ok.ensures ∙ ap timer_of c.from.ensures))
    (c.repeat_group_reset.ensures H (rw (g.met.P.Policy.sized c.args.policy.now) c.in_ok-admit.ensures.enough.places))

pub returns-in-T23-clause-outcome : goal.returns-in-T23-clause-outcome
returns-in-T23-clause-outcome g c =
    let t = c.args.self.config in
    let at = c.args.at in
    let kind = c.args.kind in
    let H = g.P.Policy.held c.args.policy.now in
    let before = lent c.args.table.now H c.args.words.now c.args.octets.now in
    let after = lent c.args.table.now H c.repeat_group_reset-in-T23.new.words c.repeat_group_reset-in-T23.new.octets in
    outcome_as t (expiring t g.P.Policy.PLACES c.args.timer at kind) (λ (b : Lent). repeats_reset t at (alert_at T23 (first_of t at)) b.table) c.repeat_group_reset-in-T23.result before after
    (expiring_at t g.P.Policy.PLACES c.args.timer T23 at kind before c.in_ok-admit.ensures.value (ap Some (sym c.in-T23.is) ∙ c.in-Ok.ensures ∙ ap timer_of c.from.ensures))
    (rw c.in-T23.is at (c.repeat_group_reset-in-T23.ensures H (rw (g.met.P.Policy.sized c.args.policy.now) c.in_ok-admit.ensures.enough.places)))
