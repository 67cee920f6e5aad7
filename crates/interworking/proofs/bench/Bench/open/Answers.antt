use Rattle.interworking.proofs.Going.{from_opening}
use Rattle.interworking.proofs.bench.Bench.open.Goals as goal

pub invariant_of-result : goal.invariant_of-result
invariant_of-result g c = record {
  run = ∣ from_opening g.P.Policy.PLACES g.Q.Policy.PLACES c.args.first c.args.equipment.now c.args.higher c.in_ok-near.near c.in_ok-far.far c.in_ok-near.ensures c.in_ok-far.ensures ∣₁;
}
