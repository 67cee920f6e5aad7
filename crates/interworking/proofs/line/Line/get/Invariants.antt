use Rattle.std.proofs.Common.{◌≡◌, take}
use Rattle.std.specs.List.{sum}
use Rattle.interworking.proofs.line.Line.get.Given as goal

abbrev pub invariant-loop-before : goal.invariant-loop-before
invariant-loop-before l = record {
  summed : l.start ≡ sum (take l.before-index l.self.sizes.items);
}
