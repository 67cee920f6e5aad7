use Rattle.laws.proofs.Words.{words_follow}
use Rattle.laws.proofs.words_follow.Goals as goal

pub returns : goal.returns
returns c = words_follow
