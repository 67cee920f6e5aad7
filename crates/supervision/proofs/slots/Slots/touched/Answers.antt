use Rattle.std.proofs.Common.{◌+◌, ◌∙◌, ⊎_elim}
use Rattle.supervision.proofs.Touching.{spanned_in}
use Rattle.supervision.proofs.slots.Slots.touched.Goals as goal

pub returns-in-Every : goal.returns-in-Every
returns-in-Every c = λ j l.
    let is = c.within.ensures j l ∙ spanned_in c.args.self (c.args.n + j) j l in
    ⊎_elim (λ (w : _). rw w.1 is) (λ w. rw w is) c.in-Every.is
