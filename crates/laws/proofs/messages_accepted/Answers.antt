use Rattle.laws.proofs.Address.{messages_accepted}
use Rattle.laws.proofs.messages_accepted.Goals as goal

pub returns : goal.returns
returns c = messages_accepted
