use Rattle.std.proofs.Common.{◌≡◌, ◌*◌, ◌≤◌}
use Rattle.status.specs.Bits.{set_bits}
use Rattle.status.proofs.group.ones_in.Given as goal

abbrev pub invariant-loop-octet : goal.invariant-loop-octet
invariant-loop-octet l = (l.count ≡ set_bits l.octets (8 * l.octet-index)) × (l.count ≤ 8 * l.octet-index)
