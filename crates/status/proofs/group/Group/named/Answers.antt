use Rattle.std.proofs.Common.{◌∙◌}
use Rattle.status.proofs.Names.{whole_range, names_same}
use Rattle.status.proofs.group.Group.named.Goals as goal

pub returns-clause-spare : goal.returns-clause-spare
returns-clause-spare c ys s =
    let xs = c.args.self.status.now in
    let r = c.args.self.range.0 in
    whole_range c.args.first.0 r xs ∙ names_same c.args.first.0 xs ys r s
