use Rattle.laws.proofs.Accept.{expiries_accepted}
use Rattle.laws.proofs.expiries_accepted.Goals as goal

pub returns : goal.returns
returns c = expiries_accepted
