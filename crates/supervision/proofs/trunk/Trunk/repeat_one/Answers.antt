use Rattle.std.proofs.Common.{◌≡◌, ◌-◌, ◌∙◌, sym}
use Rattle.message.specs.Msg.{single}
use Rattle.supervision.specs.Due.{alert_for, holds}
use Rattle.supervision.specs.Lending.{lent}
use Rattle.supervision.specs.Orders.{circuit_of}
use Rattle.supervision.specs.Trunks.{placed}
use Rattle.supervision.proofs.Allowing.{at_place}
use Rattle.supervision.proofs.Finishing.{found}
use Rattle.supervision.proofs.Repeating.{one_nothing, one_repeated}
use Rattle.supervision.proofs.trunk.Trunk.repeat_one.Goals as goal

pub returns-then-not-holds : goal.returns-then-not-holds
returns-then-not-holds c = λ H l.
    let t = c.args.self.config in
    let n = c.args.cic.0 in
    let T = c.args.table.now in
    let here = circuit_of t c.args.cic T in
    let v = found here.equipped c.in_ok-place.place (record { 0 = n - t.first.0 }) c.in_ok-place.ensures.value in
    let at : here ≡ placed T (n - t.first.0) = at_place t c.args.cic T v.0 in
    one_nothing t n (holds c.args.condition) (λ _. single n c.args.kind) (alert_for c.args.timer n) (lent T H c.args.words.now c.args.octets.now) l v.0
    (rw (at, ← v.1) (sym c.holds.ensures ∙ c.if-not-holds.true))

pub returns : goal.returns
returns c = λ H l.
    let t = c.args.self.config in
    let n = c.args.cic.0 in
    let T = c.args.table.now in
    let here = circuit_of t c.args.cic T in
    let v = found here.equipped c.in_ok-place.place (record { 0 = n - t.first.0 }) c.in_ok-place.ensures.value in
    let at : here ≡ placed T (n - t.first.0) = at_place t c.args.cic T v.0 in
    let before = lent T H c.args.words.now c.args.octets.now in
    one_repeated t n (holds c.args.condition) (λ _. single n c.args.kind) (alert_for c.args.timer n) c.repeat.result before (lent T H c.repeat.new.words c.repeat.new.octets) l v.0
    (rw (at, ← v.1) (sym c.holds.ensures ∙ c.if-not-holds.false)) (c.repeat.ensures t T H)
