use Rattle.laws.proofs.Shown.{blocks_move}
use Rattle.laws.proofs.blocks_move.Goals as goal

pub returns : goal.returns
returns c = blocks_move
