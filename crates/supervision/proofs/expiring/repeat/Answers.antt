use Rattle.std.proofs.Common.{[], ◌∷◌, refl}
use Rattle.message.specs.Meaning.{meaning}
use Rattle.supervision.specs.Lending.{lent}
use Rattle.supervision.specs.Receiving.{nothing}
use Rattle.supervision.specs.Steps.{sending}
use Rattle.supervision.proofs.Extending.{nothing_done}
use Rattle.supervision.proofs.expiring.repeat.Goals as goal

pub returns-in-Some : goal.returns-in-Some
returns-in-Some c = λ t T H.
    let before = lent T H c.args.words.now c.args.octets.now in
    rw (c.in-Some.is, ← c.cic.ensures)
    (c.alert.ensures.alerts c.send-written.new.octets t (sending (meaning c.args.message ∷ []) nothing) before T H refl
    (c.send-written.ensures.sends t nothing before T H refl (nothing_done t before)))

pub returns-in-None : goal.returns-in-None
returns-in-None c = λ t T H.
    let before = lent T H c.args.words.now c.args.octets.now in
    rw c.in-None.is (c.send-written.ensures.sends t nothing before T H refl (nothing_done t before))
