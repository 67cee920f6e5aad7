use Rattle.std.proofs.Common.{[], refl}
use Rattle.policy.proofs.release.ReleaseOrder.new.Goals as goal

pub invariant_of-result : goal.invariant_of-result
invariant_of-result c = record { ok = (c.new.ensures.size, ∣ ([], c.new.ensures.order c.args.even) ∣₁) }

pub returns : goal.returns
returns c = record { parity = refl; none = c.new.ensures.none; order = c.new.ensures.order c.args.even }
