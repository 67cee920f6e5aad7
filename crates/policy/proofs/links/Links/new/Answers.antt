use Rattle.std.proofs.Common.{refl}
use Rattle.policy.proofs.Ordering.{none_marked}
use Rattle.policy.proofs.links.Links.new.Goals as goal

pub returns-clause-order : goal.returns-clause-order
returns-clause-order c e =
    let a = c.join.ensures in
    let b = c.join-2.ensures in
    rw (b.newer, b.older, b.marks, a.newer, a.older, a.marks) (none_marked, tt, (refl, refl), (refl, refl))
