use Rattle.std.proofs.Common.{◌≡◌, ◌+◌, ◌*◌, ◌≤◌, false, eqb, ◌∷◌, [], List, length, sym, refl, ap, ◌∙◌, subst, add_assoc, arith}
use Rattle.std.proofs.lemmas.Bool.{ne_eqb}
use Rattle.message.specs.Meaning.{indicator_of}
use Rattle.message.specs.Msg.{Msg, grouped}
use Rattle.supervision.specs.Groups.{asking}
use Rattle.supervision.specs.Orders.{group_message, status_of}
use Rattle.supervision.specs.Steps.{sending, Extends}
use Rattle.supervision.proofs.Systems.{extends_none}
use Rattle.supervision.proofs.Writable.{own_group}
use Rattle.supervision.proofs.trunk.Trunk.send_mask.Goals as goal

pub send-requires-clause-writable : goal.send-requires-clause-writable
send-requires-clause-writable c =
    let t = c.args.self.config in
    let fits : t.first.0 + t.systems * 32 ≤ 4096 = c.args.self.ok.3 in
    let below = c.requires.system in
    let size : length c.slots_of-slots.result.group.status.now ≡ 4 = ap length c.slots_of-slots.ensures.status ∙ ap length c.to_le_bytes-status.ensures in
    rw (c.cic_at.ensures, c.slots_of-slots.ensures.first, c.slots_of-slots.ensures.range)
    (own_group (t.first.0 + (c.args.system * 32 + 1)) c.args.what c.args.why c.slots_of-slots.result.group.status.now (omega (arith, fits, below)) size)

pub returns-then-mask-eq0-clause-sends : goal.returns-then-mask-eq0-clause-sends
returns-then-mask-eq0-clause-sends c = rw c.if-mask-eq0.true (extends_none c.args.written c.args.words.now c.args.octets.now)

pub returns-clause-sends : goal.returns-clause-sends
returns-clause-sends c =
    let t = c.args.self.config in
    let system = c.args.system in
    let mask = c.args.mask in
    let some : eqb mask 0 ≡ false = ne_eqb mask 0 c.if-mask-eq0.false in
    let one : asking t c.args.what c.args.why system mask ≡ group_message t system c.args.what c.args.why mask ∷ [] = rw some refl in
    let status : c.slots_of-slots.result.group.status.now ≡ status_of mask = c.slots_of-slots.ensures.status ∙ c.to_le_bytes-status.ensures in
    let same : grouped (t.first.0 + (system * 32 + 1)) c.args.what (indicator_of c.args.why) 30 c.slots_of-slots.result.group.status.now ≡ group_message t system c.args.what c.args.why mask =
    rw (status, add_assoc t.first.0 (system * 32) 1) refl in
    let sent = rw (c.cic_at.ensures, c.slots_of-slots.ensures.first, c.slots_of-slots.ensures.range) at c.send.ensures.sends in
    subst (λ (ms : List Msg). Extends (sending ms) c.args.written c.args.words.now c.args.octets.now c.send.result c.send.new.words c.send.new.octets) (sym (one ∙ ap (λ (x : Msg). x ∷ []) (sym same))) sent
