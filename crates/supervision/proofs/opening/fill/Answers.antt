use Rattle.std.proofs.Common.{◌*◌, length, arith}
use Rattle.std.proofs.lemmas.List.FromFn.{fill_by_all}
use Rattle.circuit.specs.Circuits.{fresh, vacant}
use Rattle.supervision.specs.Opening.{equipped_at}
use Rattle.supervision.proofs.opening.fill.Goals as goal

pub returns : goal.returns
returns c =
    let ws = c.args.equipment.now in
    fill_by_all (λ k. fresh (equipped_at ws k)) c.loop-system.table (length ws * 32) vacant (omega arith) (λ k h. c.loop-system.invariant k (omega arith))
