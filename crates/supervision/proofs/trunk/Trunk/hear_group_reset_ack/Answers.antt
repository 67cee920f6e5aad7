use Rattle.std.proofs.Common.{◌≡◌, ℕ, ◌-◌, Bool, true, false, not, ◌&&◌, [], refl, sym, ap, ◌∙◌, subst, rules}
use Rattle.status.specs.Bits.{is_named}
use Rattle.status.specs.declared.group.Group.{Group}
use Rattle.message.specs.Msg.{group_reset_ack}
use Rattle.circuit.specs.Signals.{on_gra}
use Rattle.supervision.specs.declared.slots.Effect.TheVariants.{Acknowledged}
use Rattle.supervision.specs.Lending.{Performed, lent}
use Rattle.supervision.specs.Moves.{some_from}
use Rattle.supervision.specs.Receiving.{moving, nothing, is_range, in_range, is_counted, marked}
use Rattle.supervision.proofs.Extending.{nothing_done}
use Rattle.supervision.proofs.Ranges.{spans, range_outcome}
use Rattle.supervision.proofs.Resets.{spans_range}
use Rattle.supervision.proofs.trunk.Trunk.hear_group_reset_ack.Goals as goal

pub returns-then-not-is_system-clause-outcome : goal.returns-then-not-is_system-clause-outcome
returns-then-not-is_system-clause-outcome g c =
    let t = c.args.self.config in
    let n = c.args.cic.0 in
    let r = c.args.group.range.0 in
    let s = c.args.group.status.now in
    let T = c.args.table.now in
    let slots = c.in_ok-slots.slots in
    let before = lent T (g.P.Policy.held c.args.policy.now) c.args.words.now c.args.octets.now in
    let v = spans (is_range t n r) (some_from (λ k x. marked t n r s k && not x.equipped) 0 T) slots _ c.in_ok-slots.ensures.value in
    let counts : is_counted t n r ≡ false =
    rw (← c.in_ok-slots.ensures.first, ← ap (λ (x : Group). x.range.0) c.in_ok-slots.ensures.group) (sym c.is_system.ensures ∙ c.if-not-is_system.true) in
    range_outcome t (group_reset_ack n r s) n r s nothing (0, 0) before before (rw counts refl) v.0 v.1
    (rw (g.met.P.Policy.sized c.args.policy.now) c.requires.enough.places)
    (nothing_done t before)

pub returns-clause-outcome : goal.returns-clause-outcome
returns-clause-outcome g c =
    let t = c.args.self.config in
    let n = c.args.cic.0 in
    let r = c.args.group.range.0 in
    let s = c.args.group.status.now in
    let T = c.args.table.now in
    let slots = c.in_ok-slots.slots in
    let before = lent T (g.P.Policy.held c.args.policy.now) c.args.words.now c.args.octets.now in
    let after = lent c.sweep-told.new.table (g.P.Policy.held c.sweep-told.new.policy) c.sweep-told.new.words c.args.octets.now in
    let v = spans (is_range t n r) (some_from (λ k x. marked t n r s k && not x.equipped) 0 T) slots _ c.in_ok-slots.ensures.value in
    let at = c.in_ok-slots.ensures.first in
    let e = ap (λ (x : Group). x.range.0) c.in_ok-slots.ensures.group in
    let counts : is_counted t n r ≡ true = rw (← at, ← e) (sym c.is_system.ensures ∙ c.if-not-is_system.false) in
    let act = λ (k : ℕ). on_gra (is_named r s (k - (n - t.first.0))) in
    let swept = rw (c.in_ok-slots.ensures.group, at) at (c.sweep-told.ensures.done Acknowledged (λ x p. search rules) c.args.octets.now) in
    range_outcome t (group_reset_ack n r s) n r s (moving (in_range t n r) act []) (c.sweep-told.result, 0) before after (rw counts refl) v.0 v.1
    (rw (g.met.P.Policy.sized c.args.policy.now) c.requires.enough.places)
    (subst (λ (f : ℕ → Bool). Performed t (moving f act []) (c.sweep-told.result, 0) before after)
    (spans_range t n r (record { first = record { 0 = n - t.first.0 }; group = c.args.group }) refl refl) swept)
