use Rattle.laws.proofs.Expiry.{expiries_repeat}
use Rattle.laws.proofs.expiries_repeat.Goals as goal

pub returns : goal.returns
returns c = expiries_repeat
