use Rattle.laws.proofs.Accept.{orders_accepted}
use Rattle.laws.proofs.orders_accepted.Goals as goal

pub returns : goal.returns
returns c = orders_accepted
