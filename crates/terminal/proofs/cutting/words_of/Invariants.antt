use Rattle.std.proofs.Common.{◌≤◌, length}
use Rattle.terminal.proofs.cutting.words_of.Given as goal

-- a word with its space is gone, and then the rest of a gap
abbrev pub decreases-loop-end : goal.decreases-loop-end
decreases-loop-end l = length l.rest

abbrev pub invariant-loop-rest : goal.invariant-loop-rest
invariant-loop-rest l = length l.rest ≤ length l.initial.rest

abbrev pub decreases-loop-rest : goal.decreases-loop-rest
decreases-loop-rest l = length l.rest
