use Rattle.laws.proofs.Send.{messages_answered}
use Rattle.laws.proofs.messages_answered.Goals as goal

pub returns : goal.returns
returns c = messages_answered
