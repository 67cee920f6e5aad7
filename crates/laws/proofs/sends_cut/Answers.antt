use Rattle.laws.proofs.Shown.{sends_cut}
use Rattle.laws.proofs.sends_cut.Goals as goal

pub returns : goal.returns
returns c = sends_cut
