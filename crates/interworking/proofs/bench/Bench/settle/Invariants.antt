use Rattle.interworking.specs.Settling.{Receives}
use Rattle.interworking.proofs.bench.Bench.settle.Given as goal

abbrev pub invariant-loop-count : goal.invariant-loop-count
invariant-loop-count g l = record {
  received : Receives l.initial.self.near l.initial.self.far l.count l.self.near l.self.far;
}
