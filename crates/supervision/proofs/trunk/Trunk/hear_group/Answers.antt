use Rattle.std.proofs.Common.{◌≡◌, ℕ, ◌-◌, not, ◌&&◌, [], ◌∷◌, Err, refl, ap, ◌∙◌, rules}
use Rattle.std.proofs.lemmas.Result.{err_from_is_err_and}
use Rattle.message.specs.Meaning.{indicator_of}
use Rattle.message.specs.Msg.{grouped}
use Rattle.message.specs.declared.kinds.Grouped.TheVariants.{Cgb, Cgu, Cgba, Cgua}
use Rattle.circuit.specs.Signals.{on_signal}
use Rattle.supervision.specs.Lending.{Lent, lent}
use Rattle.supervision.specs.Moves.{some_from, table_of}
use Rattle.supervision.specs.Receiving.{moving, is_range, marked, heard}
use Rattle.supervision.specs.declared.due.Due.{Due}
use Rattle.supervision.specs.Due.{is_due}
use Rattle.supervision.specs.Groups.{groups}
use Rattle.supervision.specs.declared.due.Condition.TheVariants.{Unblocked, Standing}
use Rattle.supervision.specs.declared.slots.Effect.TheVariants.{Heard}
use Rattle.supervision.specs.Replies.{signal_of}
use Rattle.supervision.proofs.Keeping.{outcome_refused}
use Rattle.supervision.proofs.Ranges.{spans, not_spanned, group_move, group_heard, due_group, group_outcome, signal_equips, ack_unblocked, unlock_stands}
use Rattle.supervision.proofs.trunk.Trunk.hear_group.Goals as goal

pub returns-in_err-slots-clause-outcome : goal.returns-in_err-slots-clause-outcome
returns-in_err-slots-clause-outcome g c = λ w is.
    let what = w.0 in
    let why = w.1 in
    let t = c.args.self.config in
    let n = c.args.cic.0 in
    let r = c.args.group.range.0 in
    let s = c.args.group.status.now in
    let T = c.args.table.now in
    let before = lent T (g.P.Policy.held c.args.policy.now) c.args.words.now c.args.octets.now in
    let p = err_from_is_err_and c.from_residual.result c.from_residual.ensures.1 in
    let a : heard t (grouped n what (indicator_of why) r s) T ≡ Err p.0 =
    group_heard t n what why r s T
    ∙ rw p.2 (not_spanned (not (is_range t n r)) (some_from (λ k x. marked t n r s k && not x.equipped) 0 T) _ (record { first = record { 0 = n - t.first.0 }; group = c.args.group }) (group_move t n what why r s T) c.in_err-slots.ensures.value) in
    outcome_refused t (λ (b : Lent). heard t (grouped n what (indicator_of why) r s) b.table) p.0 c.from_residual.result before a p.1

pub returns-in-Cgb-clause-outcome : goal.returns-in-Cgb-clause-outcome
returns-in-Cgb-clause-outcome g c = λ w is.
    let heard = c.what-heard.result in
    let given : heard ≡ w = is heard c.what-heard.ensures in
    let what = heard.0 in
    let why = heard.1 in
    let t = c.args.self.config in
    let n = c.args.cic.0 in
    let r = c.args.group.range.0 in
    let s = c.args.group.status.now in
    let T = c.args.table.now in
    let before = lent T (g.P.Policy.held c.args.policy.now) c.args.words.now c.args.octets.now in
    let after = lent c.sweep-told.new.table (g.P.Policy.held c.sweep-told.new.policy) c.send.new.words c.send.new.octets in
    let v = spans (is_range t n r) (some_from (λ k x. marked t n r s k && not x.equipped) 0 T) c.in_ok-slots.slots (record { first = record { 0 = n - t.first.0 }; group = c.args.group }) c.in_ok-slots.ensures.value in
    let act = λ (_ : ℕ). on_signal (signal_of what why) in
    let swept = rw v.2 at (c.sweep-told.ensures.done (Heard (signal_of what why)) (λ x p. search (rules, is, given)) c.args.octets.now) in
    let done = c.send.ensures.sends t (moving (marked t n r s) act []) before c.sweep-told.new.table (g.P.Policy.held c.sweep-told.new.policy) refl swept in
    rw (← given)
    (group_outcome t n what why r s (grouped n Cgba (indicator_of why) r s ∷ []) c.send.result before after v.0 v.1
    (rw (g.met.P.Policy.sized c.args.policy.now) c.requires.enough.places) (rw c.in-Cgb.is refl) done)

pub returns-in-Cgu-clause-outcome : goal.returns-in-Cgu-clause-outcome
returns-in-Cgu-clause-outcome g c = λ w is.
    let heard = c.what-heard.result in
    let given : heard ≡ w = is heard c.what-heard.ensures in
    let what = heard.0 in
    let why = heard.1 in
    let t = c.args.self.config in
    let n = c.args.cic.0 in
    let r = c.args.group.range.0 in
    let s = c.args.group.status.now in
    let T = c.args.table.now in
    let before = lent T (g.P.Policy.held c.args.policy.now) c.args.words.now c.args.octets.now in
    let after = lent c.sweep-told.new.table (g.P.Policy.held c.sweep-told.new.policy) c.send-in-Cgu.new.words c.send-in-Cgu.new.octets in
    let v = spans (is_range t n r) (some_from (λ k x. marked t n r s k && not x.equipped) 0 T) c.in_ok-slots.slots (record { first = record { 0 = n - t.first.0 }; group = c.args.group }) c.in_ok-slots.ensures.value in
    let act = λ (_ : ℕ). on_signal (signal_of what why) in
    let swept = rw v.2 at (c.sweep-told.ensures.done (Heard (signal_of what why)) (λ x p. search (rules, is, given)) c.args.octets.now) in
    let done = c.send-in-Cgu.ensures.sends t (moving (marked t n r s) act []) before c.sweep-told.new.table (g.P.Policy.held c.sweep-told.new.policy) refl swept in
    rw (← given)
    (group_outcome t n what why r s (grouped n Cgua (indicator_of why) r s ∷ []) c.send-in-Cgu.result before after v.0 v.1
    (rw (g.met.P.Policy.sized c.args.policy.now) c.requires.enough.places) (rw c.in-Cgu.is refl) done)

pub returns-in-Cgba-clause-outcome : goal.returns-in-Cgba-clause-outcome
returns-in-Cgba-clause-outcome g c = λ w is.
    let heard = c.what-heard.result in
    let given : heard ≡ w = is heard c.what-heard.ensures in
    let what = heard.0 in
    let why = heard.1 in
    let t = c.args.self.config in
    let n = c.args.cic.0 in
    let r = c.args.group.range.0 in
    let s = c.args.group.status.now in
    let T = c.args.table.now in
    let before = lent T (g.P.Policy.held c.args.policy.now) c.args.words.now c.args.octets.now in
    let after = lent c.sweep-told.new.table (g.P.Policy.held c.sweep-told.new.policy) c.send_groups.new.words c.send_groups.new.octets in
    let v = spans (is_range t n r) (some_from (λ k x. marked t n r s k && not x.equipped) 0 T) c.in_ok-slots.slots (record { first = record { 0 = n - t.first.0 }; group = c.args.group }) c.in_ok-slots.ensures.value in
    let act = λ (_ : ℕ). on_signal (signal_of what why) in
    let swept = rw v.2 at (c.sweep-told.ensures.done (Heard (signal_of what why)) (λ x p. search (rules, is, given)) c.args.octets.now) in
    let done = c.send_groups.ensures.sends t (moving (marked t n r s) act []) before c.sweep-told.new.table (g.P.Policy.held c.sweep-told.new.policy) refl swept in
    let due : Due = record { slots = c.in_ok-slots.slots; effect = c.effect_of-effect.result; condition = Unblocked why } in
    let is : due ≡ record { slots = record { first = record { 0 = n - t.first.0 }; group = c.args.group }; effect = Heard (signal_of what why); condition = Unblocked why } = rw (v.2, c.effect_of-effect.ensures) refl in
    let inside = rw v.2 at c.in_ok-slots.ensures.inside.1 in
    let table : c.sweep-told.new.table ≡ table_of (moving (marked t n r s) act []) T = ap (λ (l : Lent). l.table) swept.carries in
    let same = due_group t n c.args.group (signal_of what why) (Unblocked why) Cgu why T c.sweep-told.new.table table (signal_equips (signal_of what why)) (λ x. rw c.in-Cgba.is (ack_unblocked why x)) v.1 inside in
    rw (← given)
    (group_outcome t n what why r s (groups t Cgu why (is_due due) c.sweep-told.new.table) c.send_groups.result before after v.0 v.1
    (rw (g.met.P.Policy.sized c.args.policy.now) c.requires.enough.places) (ap (λ (d : Due). groups t Cgu why (is_due d) c.sweep-told.new.table) is ∙ same ∙ rw c.in-Cgba.is refl) done)

pub returns-clause-outcome : goal.returns-clause-outcome
returns-clause-outcome g c = λ w is.
    let heard = c.what-heard.result in
    let given : heard ≡ w = is heard c.what-heard.ensures in
    let what = heard.0 in
    let why = heard.1 in
    let t = c.args.self.config in
    let n = c.args.cic.0 in
    let r = c.args.group.range.0 in
    let s = c.args.group.status.now in
    let T = c.args.table.now in
    let before = lent T (g.P.Policy.held c.args.policy.now) c.args.words.now c.args.octets.now in
    let after = lent c.sweep-told.new.table (g.P.Policy.held c.sweep-told.new.policy) c.send_groups-in-Cgua.new.words c.send_groups-in-Cgua.new.octets in
    let v = spans (is_range t n r) (some_from (λ k x. marked t n r s k && not x.equipped) 0 T) c.in_ok-slots.slots (record { first = record { 0 = n - t.first.0 }; group = c.args.group }) c.in_ok-slots.ensures.value in
    let act = λ (_ : ℕ). on_signal (signal_of what why) in
    let swept = rw v.2 at (c.sweep-told.ensures.done (Heard (signal_of what why)) (λ x p. search (rules, is, given)) c.args.octets.now) in
    let done = c.send_groups-in-Cgua.ensures.sends t (moving (marked t n r s) act []) before c.sweep-told.new.table (g.P.Policy.held c.sweep-told.new.policy) refl swept in
    let due : Due = record { slots = c.in_ok-slots.slots; effect = c.effect_of-effect.result; condition = Standing why } in
    let is : due ≡ record { slots = record { first = record { 0 = n - t.first.0 }; group = c.args.group }; effect = Heard (signal_of what why); condition = Standing why } = rw (v.2, c.effect_of-effect.ensures) refl in
    let inside = rw v.2 at c.in_ok-slots.ensures.inside.1 in
    let table : c.sweep-told.new.table ≡ table_of (moving (marked t n r s) act []) T = ap (λ (l : Lent). l.table) swept.carries in
    let same = due_group t n c.args.group (signal_of what why) (Standing why) Cgb why T c.sweep-told.new.table table (signal_equips (signal_of what why)) (λ x. rw c.in-Cgua.is (unlock_stands why x)) v.1 inside in
    rw (← given)
    (group_outcome t n what why r s (groups t Cgb why (is_due due) c.sweep-told.new.table) c.send_groups-in-Cgua.result before after v.0 v.1
    (rw (g.met.P.Policy.sized c.args.policy.now) c.requires.enough.places) (ap (λ (d : Due). groups t Cgb why (is_due d) c.sweep-told.new.table) is ∙ same ∙ rw c.in-Cgua.is refl) done)
