use Rattle.std.proofs.Common.{◌≡◌, ℕ, suc, ◌+◌, ◌-◌, ◌/◌, List, sym, refl, ap, ◌∙◌, subst, arith}
use Rattle.std.proofs.lemmas.Bool.{and_left}
use Rattle.message.specs.Msg.{Msg}
use Rattle.supervision.specs.Due.{is_due}
use Rattle.supervision.specs.Groups.{group_for, groups_below}
use Rattle.supervision.specs.Steps.{touched, sending, Extends}
use Rattle.supervision.proofs.Systems.{extends_none, extends_both, groups_none, groups_all}
use Rattle.supervision.proofs.Touching.{touched_below, touched_past}
use Rattle.supervision.proofs.trunk.Trunk.send_groups.Goals as goal

pub loop-system-init : goal.loop-system-init
loop-system-init c =
    let t = c.args.self.config in
    let due = c.args.due in
    let T = c.args.table.now in
    let first = due.slots.first.0 / 32 in
    let none = groups_none t c.args.what c.args.why (is_due due) first T
    (λ k l. and_left (touched due.effect due.slots k) _ (touched_below due.effect due.slots k (omega (arith, l)))) in (
      subst (λ (ms : List Msg). Extends (sending ms) c.args.written c.args.words.now c.args.octets.now c.args.written c.args.words.now c.args.octets.now) (sym none)
          (extends_none c.args.written c.args.words.now c.args.octets.now),
      omega arith,
      omega arith,
      refl,
      refl,
    )

pub loop-system-preserved : goal.loop-system-preserved
loop-system-preserved c =
    let t = c.args.self.config in
    let due = c.args.due in
    let T = c.args.table.now in
    let n = c.loop-system.system in
    let e : n + 1 ≡ suc n = omega arith in
    let i = c.loop-system.invariant in
    let told = c.send_mask-written.ensures.told in
    let sent = c.send_mask-written.ensures.sent in (
      rw e
          (extends_both (groups_below t c.args.what c.args.why (is_due due) n T) (group_for t c.args.what c.args.why (is_due due) n T)
          c.args.written c.loop-system.written c.send_mask-written.result c.args.words.now c.args.octets.now c.loop-system.words c.loop-system.octets c.send_mask-written.new.words c.send_mask-written.new.octets
          i.0 (rw c.mask-mask.ensures at c.send_mask-written.ensures.sends)),
      omega (arith, i.1, told),
      omega (arith, i.2, sent),
      c.send_mask-written.ensures.words ∙ i.3,
      c.send_mask-written.ensures.octets ∙ i.4,
    )

pub returns-clause-sends : goal.returns-clause-sends
returns-clause-sends c =
    let t = c.args.self.config in
    let due = c.args.due in
    let T = c.args.table.now in
    let n = c.loop-system.system in
    let inside = c.requires.inside in
    let d : n + (t.systems - n) ≡ t.systems = omega (arith, inside) in
    let all = groups_all t c.args.what c.args.why (is_due due) n (t.systems - n) T
    (λ k l. and_left (touched due.effect due.slots k) _ (touched_past due.effect due.slots k (omega (arith, l)))) in
    subst (λ (ms : List Msg). Extends (sending ms) c.args.written c.args.words.now c.args.octets.now c.loop-system.written c.loop-system.words c.loop-system.octets)
    (sym (ap (λ (j : ℕ). groups_below t c.args.what c.args.why (is_due due) j T) (sym d) ∙ all)) c.loop-system.invariant.0
