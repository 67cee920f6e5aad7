use Rattle.std.proofs.Common.{◌≡◌, take}
use Rattle.policy.specs.Sets.{Follows, after}
use Rattle.policy.proofs.interface.follow.Given as goal

abbrev pub invariant-loop-update : goal.invariant-loop-update
invariant-loop-update g l =
    (g.P.Policy.held l.policy ≡ after (take l.update-index l.updates) (g.P.Policy.held l.initial.policy))
    × Follows g.P.Policy.obeys (take l.update-index l.updates) l.initial.policy l.policy
