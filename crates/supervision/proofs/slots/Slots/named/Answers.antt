use Rattle.std.proofs.Common.{◌+◌, ◌&&◌, eqb, leb, sym, ap, ◌∙◌}
use Rattle.supervision.proofs.Naming.{covers_in}
use Rattle.supervision.proofs.slots.Slots.named.Goals as goal

pub returns : goal.returns
returns c = λ j l.
    let s = c.args.self in
    c.within.ensures j l
    ∙ ap (λ x. leb (c.args.n + j) s.group.range.0 && eqb x 1) (c.word.ensures j l)
    ∙ sym (covers_in s.first.0 s.group.range.0 s.group.status.now (c.args.n + j))
