use Rattle.std.proofs.Common.{◌-◌, ◌*◌, refl, arith}
use Rattle.std.proofs.lemmas.Bool.{le-leb}
use Rattle.supervision.proofs.due.Due.of_system.Goals as goal

pub returns-clause-due : goal.returns-clause-due
returns-clause-due c = λ k x e.
    rw (le-leb (c.args.system * 32) k (omega (arith, e)), le-leb (k - c.args.system * 32) 31 (omega (arith, e))) refl
