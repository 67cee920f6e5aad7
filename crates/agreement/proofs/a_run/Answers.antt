use Rattle.agreement.proofs.Played.{played}
use Rattle.agreement.proofs.a_run.Goals as goal

pub returns : goal.returns
returns c = played
