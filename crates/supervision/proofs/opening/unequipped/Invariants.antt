use Rattle.std.proofs.Common.{◌≡◌, true, take}
use Rattle.std.specs.List.{list_all}
use Rattle.supervision.specs.Opening.{is_equipment}
use Rattle.supervision.proofs.opening.unequipped.Given as goal

abbrev pub invariant-loop-system : goal.invariant-loop-system
invariant-loop-system l = list_all is_equipment (take l.system l.equipment) ≡ true
