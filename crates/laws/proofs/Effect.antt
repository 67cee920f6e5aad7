-- What the rules do to one circuit at each event.
use Rattle.std.proofs.Common.{Bool, true, cond, not, ◌||◌}
use Rattle.circuit.specs.Changes.{quiet}
use Rattle.circuit.specs.Circuits.{is_connected, is_group, is_open, is_releasing, is_waiting}
use Rattle.circuit.specs.Orders.{on_seize, on_release, on_block, on_unblock, on_reset}
use Rattle.circuit.specs.Signals.{on_iam, on_progress, on_rel, on_rlc, on_far_block, on_far_unblock, on_block_ack, on_unblock_ack, on_rsc, on_grs, on_gra}
use Rattle.circuit.specs.declared.record.Circuit.{Circuit}
use Rattle.circuit.specs.declared.record.Reset.TheVariants as reset
use Rattle.circuit.specs.declared.rules.Change.{Change}
use Rattle.laws.specs.Events as on
use Rattle.laws.specs.Events.{Event}

abbrev pub effect : Bool → Event → Circuit → Change
effect ours on.seized c = on_seize c
effect ours (on.released cause) c = on_release cause c
effect ours (on.blocked why) c = on_block why c
effect ours (on.unblocked why) c = on_unblock why c
effect ours on.circuit_reset c = on_reset reset.Single c
effect ours on.system_reset c = on_reset reset.Group c
effect ours on.iam c = on_iam ours c
effect ours on.progress c = on_progress c
effect ours on.rel c = on_rel c
effect ours on.rlc c = on_rlc c
effect ours on.rsc c = on_rsc c
effect ours on.grs c = on_grs c
effect ours (on.blo why) c = on_far_block why c
effect ours (on.ubl why) c = on_far_unblock why c
effect ours (on.bla why) c = on_block_ack why c
effect ours (on.uba why) c = on_unblock_ack why c
effect ours (on.gra bit) c = on_gra bit c
effect ours on.t5 c = cond (is_releasing c.call) (on_reset reset.Single c) (quiet c)
effect ours on.nothing c = quiet c

-- what is known of the circuit where the operation was accepted
abbrev pub may : Event → Circuit → Bool
may on.seized c = is_open c
may (on.released cause) c = is_connected c.call
may (on.blocked why) c = not (is_waiting c.reset)
may (on.unblocked why) c = not (is_waiting c.reset)
may on.circuit_reset c = not (is_group c.reset)
may on.system_reset c = true
may on.iam c = true
may on.progress c = true
may on.rel c = true
may on.rlc c = true
may on.rsc c = true
may on.grs c = true
may (on.blo why) c = true
may (on.ubl why) c = true
may (on.bla why) c = true
may (on.uba why) c = true
may (on.gra bit) c = true
may on.t5 c = not (is_releasing c.call) || not (is_group c.reset)
may on.nothing c = true
