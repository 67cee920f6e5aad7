use mathlib.Core.Logic.{∥∥₁_map}
use Rattle.policy.specs.Orders.{withdrawn}
use Rattle.policy.proofs.release.ReleaseOrderPolicy.withdraw.Goals as goal

pub invariant_of-self : goal.invariant_of-self
invariant_of-self c =
    let me = c.args.self.now in
    record {
      ok = (c.withdraw.ensures.size, ∥∥₁_map me.ok.1 (λ z. (withdrawn c.args.place.0 z.0, c.withdraw.ensures.order me.even z.0 z.1)));
    }
