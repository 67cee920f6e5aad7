use Rattle.std.proofs.Common.{◌+◌, set, refl, ap}
use Rattle.supervision.proofs.Extending.{one_alert}
use Rattle.supervision.proofs.sending.alert.Goals as goal

pub returns-clause-alerts : goal.returns-clause-alerts
returns-clause-alerts c = λ O t m before table held e p.
    one_alert t m c.args.timer c.args.cic before table held c.args.written (c.args.written.0 + 1, c.args.written.1) c.args.words.now O (set c.args.words.now c.args.written.0 c.from.result)
    e p c.requires.word c.requires.words (ap (set c.args.words.now c.args.written.0) c.from.ensures.0) refl
