use Rattle.std.proofs.Common.{◌≡◌, ◌+◌, ◌-◌, ◌*◌, ◌/◌, ◌%◌, ◌^◌, ◌<◌, ◌≤◌}
use Rattle.supervision.specs.Moves.{where_named}
use Rattle.supervision.specs.Steps.{touched, rule_by, tally}
use Rattle.supervision.specs.Telling.{Tells}
use Rattle.supervision.proofs.Stepping.{Stands}
use Rattle.supervision.proofs.effects.sweep.Given as goal

abbrev pub invariant-loop-rest : goal.invariant-loop-rest
invariant-loop-rest g l =
    Stands l.trunk.config (where_named (touched l.effect l.slots) (rule_by l.effect l.slots)) (l.slots.first.0 + l.n)
    l.fn.table (g.P.Policy.held l.fn.policy) l.fn.words
    l.table (g.P.Policy.held l.policy) l.words l.count
    × (l.count ≤ tally l.effect l.slots l.n * 2)
    × Tells g.P.Policy.obeys l.fn.table l.table l.fn.policy l.policy
    × (l.past ≤ l.n)
    × (l.n ≤ l.past + 32)
    × (l.n ≤ l.end)
    × (l.rest ≡ l.bits / 2 ^ (l.n - l.past))

abbrev pub decreases-loop-rest : goal.decreases-loop-rest
decreases-loop-rest g l = l.past + 32 - l.n

abbrev pub invariant-loop-past : goal.invariant-loop-past
invariant-loop-past g l =
    Stands l.trunk.config (where_named (touched l.effect l.slots) (rule_by l.effect l.slots)) (l.slots.first.0 + l.past)
    l.fn.table (g.P.Policy.held l.fn.policy) l.fn.words
    l.table (g.P.Policy.held l.policy) l.words l.count
    × (l.count ≤ tally l.effect l.slots l.past * 2)
    × Tells g.P.Policy.obeys l.fn.table l.table l.fn.policy l.policy
    × (l.past < l.end → l.past % 32 ≡ 0)
    × (l.past ≤ l.end)

abbrev pub decreases-loop-past : goal.decreases-loop-past
decreases-loop-past g l = l.end - l.past
