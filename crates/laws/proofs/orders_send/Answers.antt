use Rattle.laws.proofs.Send.{orders_send}
use Rattle.laws.proofs.orders_send.Goals as goal

pub returns : goal.returns
returns c = orders_send
