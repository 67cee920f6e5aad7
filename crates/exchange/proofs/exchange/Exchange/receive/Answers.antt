use Rattle.std.proofs.Common.{refl}
use Rattle.std.proofs.lemmas.Result.{err_from_is_err_and}
use Rattle.supervision.specs.Receiving.{receiving}
use Rattle.exchange.specs.Exchange.{lends}
use Rattle.exchange.proofs.Alerting.{receipt_fits}
use Rattle.exchange.proofs.Telling.{is_told, not_told, tested_size}
use Rattle.exchange.proofs.exchange.Exchange.receive.Goals as goal

pub returns : goal.returns
returns g c =
    let held = g.P.Policy.held in
    let old = c.args.self.now in
    let t = old.trunk.config in
    let o = c.in_ok-told.ensures in
    let l = lends held old in
    record {
      outcome = o.outcome;
      policy = o.policy;
      told = is_told held (receiving t g.P.Policy.PLACES c.args.received.now l) old _ o.outcome.done o.outcome.few.1 old.trunk.ok.3
          (tested_size t g.P.Policy.PLACES l _) (receipt_fits t g.P.Policy.PLACES c.args.received.now l);
      same = record { trunk = refl; table = refl; policy = refl; words = refl; octets = refl };
    }

pub returns-in_err-told : goal.returns-in_err-told
returns-in_err-told g c =
    let held = g.P.Policy.held in
    let old = c.args.self.now in
    let t = old.trunk.config in
    let p = err_from_is_err_and c.from_residual.result c.from_residual.ensures.1 in
    let o = rw (← p.2) at c.in_err-told.ensures in
    rw p.1 (record {
      outcome = o.outcome;
      policy = o.policy;
      told = not_told held (receiving t g.P.Policy.PLACES c.args.received.now (lends held old)) p.0 old _ o.outcome.done refl refl;
      same = record { trunk = refl; table = refl; policy = refl; words = refl; octets = refl };
    })
