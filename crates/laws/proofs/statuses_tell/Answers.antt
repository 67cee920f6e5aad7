use Rattle.laws.proofs.Name.{statuses_tell}
use Rattle.laws.proofs.statuses_tell.Goals as goal

pub returns : goal.returns
returns c = statuses_tell
