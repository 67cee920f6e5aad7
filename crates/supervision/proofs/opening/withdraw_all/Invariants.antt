use Rattle.std.proofs.Common.{◌≡◌, ℕ, ◌<◌, false, get_or}
use Rattle.policy.specs.Sets.{Follows}
use Rattle.supervision.specs.Telling.{withdrawals}
use Rattle.supervision.proofs.opening.withdraw_all.Given as goal

abbrev pub invariant-loop-place : goal.invariant-loop-place
invariant-loop-place g l =
    ((k : ℕ) → k < l.place → get_or (g.P.Policy.held l.policy) k false ≡ false)
    × Follows g.P.Policy.obeys (withdrawals l.place) l.initial.policy l.policy
