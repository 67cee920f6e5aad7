use Rattle.std.proofs.Common.{arith}
use Rattle.supervision.proofs.Walking.{word_bit}
use Rattle.supervision.proofs.slots.Slots.word.Goals as goal

pub returns : goal.returns
returns c = λ j l.
    let b = c.octet-2.ensures.small in
    let d = c.octet-3.ensures.small in
    let e = c.octet-4.ensures.small in
    word_bit c.args.self.group.status.now c.args.n _ j c.requires l
    c.octet.result c.octet-2.result c.octet-3.result c.octet-4.result c.octet.ensures.small b d e
    c.octet.ensures.value c.octet-2.ensures.value c.octet-3.ensures.value c.octet-4.ensures.value
    (omega (arith, b, d, e))
