use Rattle.laws.proofs.Decide.{calls_decided}
use Rattle.laws.proofs.Shown.{calls_live, causes_kept, unequipped_stay}
use Rattle.laws.proofs.calls_live.Goals as goal

pub returns : goal.returns
returns c = record { life = calls_live; decided = calls_decided; cause = causes_kept; unequipped = unequipped_stay }
