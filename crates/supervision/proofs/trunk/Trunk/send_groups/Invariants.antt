use Rattle.std.proofs.Common.{◌≡◌, ◌+◌, ◌-◌, ◌*◌, ◌/◌, ◌≤◌, length}
use Rattle.supervision.specs.Due.{is_due}
use Rattle.supervision.specs.Groups.{groups_below}
use Rattle.supervision.specs.Steps.{sending, Extends}
use Rattle.supervision.proofs.trunk.Trunk.send_groups.Given as goal

abbrev pub invariant-loop-system : goal.invariant-loop-system
invariant-loop-system l =
    Extends (sending (groups_below l.self.config l.what l.why (is_due l.due) l.system l.table)) l.initial.written l.initial.words l.initial.octets l.written l.words l.octets
    × (l.written.0 ≤ l.initial.written.0 + (l.system - l.due.slots.first.0 / 32))
    × (l.written.1 ≤ l.initial.written.1 + 11 * (l.system - l.due.slots.first.0 / 32))
    × (length l.words ≡ length l.initial.words)
    × (length l.octets ≡ length l.initial.octets)
