use Rattle.std.proofs.Common.{◌≡◌, ℕ, ◌+◌, ◌*◌, true, false, ◌&&◌, eqb, [], ◌∷◌, sym, refl, ◌∙◌, arith}
use Rattle.std.proofs.lemmas.Bool.{lt-leb, not-false, not-true}
use Rattle.circuit.specs.Circuits.{is_group}
use Rattle.circuit.specs.declared.record.Circuit.{Circuit}
use Rattle.supervision.specs.Due.{alert_for}
use Rattle.supervision.specs.Expiring.{repeats_reset}
use Rattle.supervision.specs.Groups.{mask_by}
use Rattle.supervision.specs.Lending.{Lent, lent}
use Rattle.supervision.specs.Orders.{reset_message}
use Rattle.supervision.specs.Trunks.{first_of}
use Rattle.supervision.proofs.Repeating.{outcome_nothing, outcome_repeated}
use Rattle.supervision.proofs.trunk.Trunk.repeat_group_reset.Goals as goal

pub returns-then-not-is_in : goal.returns-then-not-is_in
returns-then-not-is_in c = λ H l.
    let t = c.args.self.config in
    let T = c.args.table.now in
    let zero : eqb (mask_by (λ (_ : ℕ) (x : Circuit). x.equipped && is_group x.reset) c.args.system T) 0 ≡ true = not-false _ (sym c.is_in.ensures ∙ c.if-not-is_in.true) in
    outcome_nothing t (λ (b : Lent). repeats_reset t c.args.system (alert_for c.args.timer (first_of t c.args.system)) b.table) (lent T H c.args.words.now c.args.octets.now) l
    (rw (lt-leb t.systems c.args.system (omega (arith, c.if-system-self.false)), zero) refl)

pub returns : goal.returns
returns c = λ H l.
    let t = c.args.self.config in
    let T = c.args.table.now in
    let system = c.args.system in
    let some : eqb (mask_by (λ (_ : ℕ) (x : Circuit). x.equipped && is_group x.reset) system T) 0 ≡ false = not-true _ (sym c.is_in.ensures ∙ c.if-not-is_in.false) in
    let before = lent T H c.args.words.now c.args.octets.now in
    let after = lent T H c.repeat.new.words c.repeat.new.octets in
    let from : t.first.0 + (system * 32 + 1) ≡ first_of t system = omega arith in
    outcome_repeated t (λ (b : Lent). repeats_reset t system (alert_for c.args.timer (first_of t c.args.system)) b.table) (reset_message t system ∷ []) (alert_for c.args.timer (first_of t c.args.system)) c.repeat.result before after l
    (rw (lt-leb t.systems system (omega (arith, c.if-system-self.false)), some) refl)
    (rw from at (rw (c.cic_at.ensures, c.slots_of.ensures.first) at (c.repeat.ensures t T H)))
