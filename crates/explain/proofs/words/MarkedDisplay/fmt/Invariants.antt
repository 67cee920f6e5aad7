use denote.Text.{Utf8}
use denote.Shadow.{shadow}
use Rattle.explain.proofs.words.MarkedDisplay.fmt.Given as goal

-- the gap is text
abbrev pub invariant-loop-circuit : goal.invariant-loop-circuit
invariant-loop-circuit g l =
    (goal.iterator-loop-circuit g).can_next l.circuit-iterator ×
    (goal.iterator-loop-circuit g).is_finite l.circuit-iterator ×
    shadow (Utf8 l.gap)
