use Rattle.laws.proofs.Name.{groups_name}
use Rattle.laws.proofs.groups_name.Goals as goal

pub returns : goal.returns
returns c = groups_name
