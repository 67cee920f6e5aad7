use Rattle.std.proofs.Common.{◌≡◌, ℕ, ◌+◌, ◌*◌, ◌≤◌, false, cond, ◌&&◌, eqb, leb, List, [], ◌∷◌, length, Ok, sym, refl, ap, ◌∙◌, subst, arith}
use Rattle.std.proofs.lemmas.Bool.{ne_eqb, lt-leb}
use Rattle.message.specs.Meaning.{indicator_of}
use Rattle.message.specs.Msg.{Msg, grouped}
use Rattle.circuit.specs.declared.record.Circuit.{Circuit}
use Rattle.refusal.specs.declared.reasons.Refusal.TheVariants.{Address}
use Rattle.refusal.specs.Refusals.{unless}
use Rattle.supervision.specs.Due.{alert_for, holds, is_due}
use Rattle.supervision.specs.Expiring.{repeating}
use Rattle.supervision.specs.Groups.{mask_by, group_for}
use Rattle.supervision.specs.Lending.{Lent, Performed, lent}
use Rattle.supervision.specs.Orders.{group_message, status_of}
use Rattle.supervision.specs.Receiving.{nothing}
use Rattle.supervision.specs.Trunks.{first_of, placed}
use Rattle.supervision.proofs.Repeating.{outcome_nothing, outcome_repeated}
use Rattle.supervision.proofs.Systems.{mask_same}
use Rattle.supervision.proofs.Writable.{own_group}
use Rattle.supervision.proofs.trunk.Trunk.repeat_group.Goals as goal

pub repeat-requires-clause-writable : goal.repeat-requires-clause-writable
repeat-requires-clause-writable c =
    let t = c.args.self.config in
    let fits : t.first.0 + t.systems * 32 ≤ 4096 = c.args.self.ok.3 in
    let below = c.if-system-self.false in
    let size : length c.slots_of-slots.result.group.status.now ≡ 4 = ap length c.slots_of-slots.ensures.status ∙ ap length c.to_le_bytes-status.ensures in
    rw (c.cic_at.ensures, c.slots_of-slots.ensures.first, c.slots_of-slots.ensures.range)
    (own_group (t.first.0 + (c.args.system * 32 + 1)) c.args.what c.args.why c.slots_of-slots.result.group.status.now (omega (arith, fits, below)) size)

pub returns-then-mask-eq0 : goal.returns-then-mask-eq0
returns-then-mask-eq0 c = λ H l.
    let t = c.args.self.config in
    let T = c.args.table.now in
    let p = λ (_ : ℕ) (x : Circuit). x.equipped && holds c.args.condition x in
    let zero : mask_by p c.args.system T ≡ 0 =
    sym (mask_same (is_due c.of_system.result) p c.args.system T T (λ k e. c.of_system.ensures.due k (placed T k) e)) ∙ (sym c.mask-mask.ensures ∙ c.if-mask-eq0.true) in
    outcome_nothing t
    (λ (b : Lent). unless (leb t.systems c.args.system) Address (Ok (cond (eqb (mask_by p c.args.system b.table) 0) nothing (repeating (group_for t c.args.what c.args.why p c.args.system b.table) (alert_for c.args.timer (first_of t c.args.system))))))
    (lent T H c.args.words.now c.args.octets.now) l
    (rw (lt-leb t.systems c.args.system (omega (arith, c.if-system-self.false)), zero) refl)

pub returns : goal.returns
returns c = λ H l.
    let t = c.args.self.config in
    let T = c.args.table.now in
    let system = c.args.system in
    let p = λ (_ : ℕ) (x : Circuit). x.equipped && holds c.args.condition x in
    let mask = mask_by p system T in
    let is : c.mask-mask.result ≡ mask =
    c.mask-mask.ensures ∙ mask_same (is_due c.of_system.result) p system T T (λ k e. c.of_system.ensures.due k (placed T k) e) in
    let some : eqb mask 0 ≡ false = ne_eqb mask 0 (λ e. c.if-mask-eq0.false (is ∙ e)) in
    let before = lent T H c.args.words.now c.args.octets.now in
    let after = lent T H c.repeat.new.words c.repeat.new.octets in
    let sent = group_for t c.args.what c.args.why p system T in
    let one : sent ≡ group_message t system c.args.what c.args.why mask ∷ [] = rw some refl in
    let status : c.slots_of-slots.result.group.status.now ≡ status_of mask = c.slots_of-slots.ensures.status ∙ (c.to_le_bytes-status.ensures ∙ ap status_of is) in
    let same : grouped (first_of t system) c.args.what (indicator_of c.args.why) 30 c.slots_of-slots.result.group.status.now ≡ group_message t system c.args.what c.args.why mask = rw status refl in
    let from : t.first.0 + (system * 32 + 1) ≡ first_of t system = omega arith in
    let done = rw from at (rw (c.cic_at.ensures, c.slots_of-slots.ensures.first, c.slots_of-slots.ensures.range) at (c.repeat.ensures t T H)) in
    outcome_repeated t
    (λ (b : Lent). unless (leb t.systems system) Address (Ok (cond (eqb (mask_by p system b.table) 0) nothing (repeating (group_for t c.args.what c.args.why p system b.table) (alert_for c.args.timer (first_of t c.args.system))))))
    sent (alert_for c.args.timer (first_of t c.args.system)) c.repeat.result before after l
    (rw (lt-leb t.systems system (omega (arith, c.if-system-self.false)), some) refl)
    (subst (λ (ms : List Msg). Performed t (repeating ms (alert_for c.args.timer (first_of t c.args.system))) c.repeat.result before after) (ap (λ (x : Msg). x ∷ []) same ∙ sym one) done)

pub mask-mask-requires-clause-inside : goal.mask-mask-requires-clause-inside
mask-mask-requires-clause-inside c =
    let inside = c.of_system.ensures.inside in
    let size = c.requires.table in
    omega (arith, inside, size, c.if-system-self.false)
