use Rattle.std.proofs.Common.{refl}
use Rattle.std.proofs.lemmas.Result.{err_from_is_err_and}
use Rattle.supervision.specs.Answering.{answer}
use Rattle.supervision.specs.Ordering.{meant}
use Rattle.exchange.specs.Exchange.{lends}
use Rattle.exchange.proofs.Alerting.{order_fits}
use Rattle.exchange.proofs.Telling.{is_told, not_told, order_size}
use Rattle.exchange.proofs.exchange.Exchange.order.Goals as goal

pub returns : goal.returns
returns g c =
    let held = g.P.Policy.held in
    let room = g.P.Policy.PLACES in
    let old = c.args.self.now in
    let t = old.trunk.config in
    let o = c.in_ok-told.ensures in
    let order = meant o.choice c.args.order in
    record {
      ordered = o;
      told = is_told held (answer t room order (lends held old)) old _ o.outcome.done o.outcome.few.1 old.trunk.ok.3
          (order_size t room order (lends held old)) (order_fits t room order (lends held old));
      same = record { trunk = refl; table = refl; policy = refl; words = refl; octets = refl };
    }

pub returns-in_err-told : goal.returns-in_err-told
returns-in_err-told g c =
    let held = g.P.Policy.held in
    let room = g.P.Policy.PLACES in
    let old = c.args.self.now in
    let t = old.trunk.config in
    let p = err_from_is_err_and c.from_residual.result c.from_residual.ensures.1 in
    let o = rw (← p.2) at c.in_err-told.ensures in
    let order = meant o.choice c.args.order in
    rw p.1 (record {
      ordered = o;
      told = not_told held (answer t room order (lends held old)) p.0 old _ o.outcome.done refl refl;
      same = record { trunk = refl; table = refl; policy = refl; words = refl; octets = refl };
    })
