use Rattle.std.proofs.Common.{◌≡◌, ℕ, ◌+◌, ◌*◌, Bool, false, leb, Ok, refl, ap, ◌∙◌, subst, add_assoc, arith, rules}
use Rattle.std.proofs.lemmas.Bool.{lt-leb}
use Rattle.message.specs.Msg.{Msg, group_reset}
use Rattle.circuit.proofs.Keeping.{order_keeps}
use Rattle.circuit.specs.declared.record.Reset.TheVariants as reset
use Rattle.circuit.specs.declared.rules.Rule.TheVariants.{Reset}
use Rattle.supervision.specs.Lending.{Lent, Performed, lent}
use Rattle.supervision.specs.Moves.{Move}
use Rattle.supervision.specs.Orders.{clearing, ordered, slots, every_slot, status_of}
use Rattle.supervision.specs.Trunks.{first_of, placed, covers}
use Rattle.supervision.proofs.Alike.{resets_alike}
use Rattle.supervision.proofs.Keeping.{outcome_of}
use Rattle.supervision.proofs.Masks.{named-slots}
use Rattle.supervision.proofs.trunk.Trunk.clear.Goals as goal

pub returns : goal.returns
returns g c =
    let t = c.args.self.config in
    let system = c.args.system in
    let T = c.args.table.now in
    let msg = group_reset (first_of t system) 30 in
    let rule = Reset reset.Group in
    let move = ordered (slots system every_slot) rule msg in
    let before = lent T (g.P.Policy.held c.args.policy.now) c.args.words.now c.args.octets.now in
    let after = lent c.perform.new.table (g.P.Policy.held c.perform.new.policy) c.perform.new.words c.perform.new.octets in
    let far : leb t.systems system ≡ false = lt-leb t.systems system (omega arith) in
    let sent : group_reset (t.first.0 + (system * 32 + 1)) 30 ≡ msg = rw (add_assoc t.first.0 (system * 32) 1) in
    let names = named-slots system every_slot refl in
    let covered = covers (system * 32 + 1) 30 (status_of every_slot) in
    let all : ordered covered rule (group_reset (t.first.0 + (system * 32 + 1)) 30) ≡ move =
    ap (λ (m : Msg). ordered covered rule m) sent ∙ ap (λ (f : ℕ → Bool). ordered f rule msg) names in
    let status : c.slots_of-slots.result.group.status.now ≡ status_of every_slot = c.slots_of-slots.ensures.status in
    let done = subst (λ (m : Move). Performed t m c.perform.result before after) all (rw (c.cic_at.ensures, c.slots_of-slots.ensures.first, c.slots_of-slots.ensures.range, status) at (c.perform.ensures.done rule (λ x p. search rules))) in
    let a : clearing t system ≡ Ok move = rw far refl in
    record {
      policy = c.perform.ensures.policy;
      outcome = outcome_of t (λ (_ : Lent). clearing t system) move c.perform.result before after
          (rw (g.met.P.Policy.sized c.args.policy.now) c.requires.enough.places) (λ k n e. order_keeps rule (placed T k) refl) a done;
      alike = rw a (λ k n l e. let w = resets_alike t system msg T k n l e in (ap (λ (y : Lent). placed y.table k) done.carries ∙ w.0, w.1));
    }
