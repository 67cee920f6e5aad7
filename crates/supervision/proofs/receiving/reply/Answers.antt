use Rattle.std.proofs.Common.{List, subst}
use Rattle.message.specs.Msg.{Msg}
use Rattle.supervision.specs.Steps.{sending, Extends}
use Rattle.supervision.proofs.receiving.reply.Goals as goal

pub returns-clause-sends : goal.returns-clause-sends
returns-clause-sends c =
    subst (λ (ms : List Msg). Extends (sending ms) c.args.written c.args.words.now c.args.octets.now c.send.result c.send.new.words c.send.new.octets)
    c.in-Some.ensures.value c.send.ensures.sends
