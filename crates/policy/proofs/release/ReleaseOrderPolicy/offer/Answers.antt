use mathlib.Core.Logic.{∥∥₁_map}
use Rattle.policy.specs.Orders.{offered}
use Rattle.policy.proofs.release.ReleaseOrderPolicy.offer.Goals as goal

pub invariant_of-self : goal.invariant_of-self
invariant_of-self c =
    record {
      ok = (c.offer.ensures.size, ∥∥₁_map c.args.self.now.ok.1 (λ z. (offered c.args.place.0 z.0, c.offer.ensures.order z.0 z.1)));
    }
