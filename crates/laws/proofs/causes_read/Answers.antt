use Rattle.laws.proofs.Cause.{cause_read}
use Rattle.laws.proofs.causes_read.Goals as goal

pub returns : goal.returns
returns c = cause_read
