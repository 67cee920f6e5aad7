use Rattle.std.proofs.Common.{take}
use Rattle.interworking.specs.Stepping.{Ran}
use Rattle.interworking.proofs.bench.Bench.run.Given as goal

abbrev pub invariant-loop-side : goal.invariant-loop-side
invariant-loop-side g l = record {
  done : Ran (take l.side-index l.steps) l.initial.self.near l.initial.self.far l.self.near l.self.far;
}
