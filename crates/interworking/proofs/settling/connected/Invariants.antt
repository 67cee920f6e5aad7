use Rattle.std.proofs.Common.{◌≡◌, ◌+◌, ◌≤◌, drop}
use Rattle.agreement.specs.Settling.{connected}
use Rattle.interworking.proofs.settling.connected.Given as goal

abbrev pub invariant-loop-circuit : goal.invariant-loop-circuit
invariant-loop-circuit l = record {
  counted : l.count + connected (drop l.circuit-index l.table) ≡ connected l.table;
  few : l.count ≤ l.circuit-index;
}
