use Rattle.std.proofs.Common.{◌≡◌, ◌+◌, ◌*◌, ◌%◌, Ok, Err, refl, subst, add_assoc, arith}
use Rattle.std.proofs.lemmas.Result.{err_from_is_err_and}
use Rattle.message.specs.Meaning.{indicator_of}
use Rattle.message.specs.Msg.{Msg, grouped}
use Rattle.circuit.specs.declared.rules.Rule.{Rule}
use Rattle.supervision.specs.Laws.{Outcome}
use Rattle.supervision.specs.Lending.{Lent, Performed, lent}
use Rattle.supervision.specs.Orders.{groupwise, status_of, ordered}
use Rattle.supervision.specs.Steps.{named_by}
use Rattle.supervision.specs.Trunks.{first_of, covers}
use Rattle.supervision.proofs.Alike.{group_order}
use Rattle.supervision.proofs.Allowing.{groupwise_allowed}
use Rattle.supervision.proofs.Grouping.{group_answer}
use Rattle.supervision.proofs.Keeping.{outcome_of, outcome_refused}
use Rattle.supervision.proofs.Turning.{tells_same}
use Rattle.supervision.proofs.trunk.Trunk.order_group.Goals as goal

pub returns-in_err-judge : goal.returns-in_err-judge
returns-in_err-judge g c =
    let t = c.args.self.config in
    let T = c.args.table.now in
    let msg = grouped (first_of t c.args.system) c.args.what (indicator_of c.args.why) 30 (status_of c.args.mask) in
    let even : c.args.mask % 2 ≡ 0 = omega arith in
    let p = err_from_is_err_and c.from_residual.result c.from_residual.ensures.1 in
    let a : (r : Rule) → c.rule.result ≡ r → groupwise t c.args.system c.args.mask r msg T ≡ Err p.0 = λ r e.
    rw p.2 (group_answer t c.args.system c.args.mask r msg T c.to_le_bytes-status.result (Err c.in_err-judge.field-0.0)
    (omega arith) even c.to_le_bytes-status.ensures (rw (e, c.slots_of-slots.ensures.first, c.slots_of-slots.ensures.range, c.slots_of-slots.ensures.status) at c.in_err-judge.ensures)) in
    record {
      outcome = λ r is. outcome_refused t (λ (b : Lent). groupwise t c.args.system c.args.mask r msg b.table) p.0 c.from_residual.result
          (lent T (g.P.Policy.held c.args.policy.now) c.args.words.now c.args.octets.now) (a r (is c.rule.result c.rule.ensures)) p.1;
      group = λ r is. rw (a r (is c.rule.result c.rule.ensures)) refl;
      policy = tells_same g.P.Policy.obeys T c.args.policy.now;
    }

pub returns : goal.returns
returns g c =
    let t = c.args.self.config in
    let T = c.args.table.now in
    let msg = grouped (first_of t c.args.system) c.args.what (indicator_of c.args.why) 30 (status_of c.args.mask) in
    let even : c.args.mask % 2 ≡ 0 = omega arith in
    let named = covers (c.args.system * 32 + 1) 30 c.to_le_bytes-status.result in
    let before = lent T (g.P.Policy.held c.args.policy.now) c.args.words.now c.args.octets.now in
    let after = lent c.perform.new.table (g.P.Policy.held c.perform.new.policy) c.perform.new.words c.perform.new.octets in
    let sent : grouped (t.first.0 + (c.args.system * 32 + 1)) c.args.what (indicator_of c.args.why) 30 c.to_le_bytes-status.result ≡ msg =
    rw (c.to_le_bytes-status.ensures, add_assoc t.first.0 (c.args.system * 32) 1) refl in
    let slots = c.slots_of-slots.result in
    let written = grouped c.cic_at-cic.result.0 c.args.what (indicator_of c.args.why) slots.group.range.0 slots.group.status.now in
    let outcome : (r : Rule) → c.rule.result ≡ r → Performed t (ordered (named_by slots) r written) c.perform.result before after → Outcome t (λ (b : Lent). groupwise t c.args.system c.args.mask r msg b.table) (Ok c.perform.result) before after = λ r e done.
    let m = ordered named r msg in
    let a : groupwise t c.args.system c.args.mask r msg T ≡ Ok m =
    group_answer t c.args.system c.args.mask r msg T c.to_le_bytes-status.result (Ok tt)
    (omega arith) even c.to_le_bytes-status.ensures (rw (e, c.slots_of-slots.ensures.first, c.slots_of-slots.ensures.range, c.slots_of-slots.ensures.status) at c.in_ok-judge.ensures) in
    outcome_of t (λ (b : Lent). groupwise t c.args.system c.args.mask r msg b.table) m c.perform.result before after
    (rw (g.met.P.Policy.sized c.args.policy.now) c.requires.enough.places)
    (groupwise_allowed t c.args.system c.args.mask r msg T m a) a
    (subst (λ (x : Msg). Performed t (ordered named r x) c.perform.result before after) sent (rw (c.cic_at-cic.ensures, c.slots_of-slots.ensures.first, c.slots_of-slots.ensures.range, c.slots_of-slots.ensures.status) at done)) in
    record {
      outcome = λ r is. outcome r (is c.rule.result c.rule.ensures) (c.perform.ensures.done r is);
      policy = c.perform.ensures.policy;
      group = λ r is. group_order t c.args.system c.args.mask r msg before after (Ok c.perform.result) (outcome r (is c.rule.result c.rule.ensures) (c.perform.ensures.done r is)).done;
    }
