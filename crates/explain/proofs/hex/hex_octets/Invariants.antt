use Rattle.std.proofs.Common.{◌≡◌, length, vec_items}
use Rattle.explain.specs.Hex.{hex_octets, onto}
use Rattle.explain.proofs.hex.hex_octets.Given as goal

abbrev pub invariant-loop-rest : goal.invariant-loop-rest
invariant-loop-rest l = onto (vec_items l.octets) (hex_octets l.rest) ≡ hex_octets l.line

abbrev pub decreases-loop-rest : goal.decreases-loop-rest
decreases-loop-rest l = length l.rest
