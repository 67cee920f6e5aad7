-- Each rule keeps equipment and soundness, and tells words that fit the call.
use Rattle.std.proofs.Common.{◌≡◌, Bool, true, arith}
use Rattle.message.specs.declared.kinds.BlockType.{BlockType}
use Rattle.circuit.specs.declared.record.Circuit.{Circuit}
use Rattle.circuit.specs.declared.record.Reset.{Reset}
use Rattle.circuit.specs.declared.rules.Rule.{Rule}
use Rattle.circuit.specs.declared.rules.Rule.TheVariants as rule
use Rattle.circuit.specs.declared.signals.Signal.{Signal}
use Rattle.circuit.specs.declared.signals.Signal.TheVariants as signal
use Rattle.circuit.specs.Laws.{Keeps, allows}
use Rattle.circuit.specs.Orders.{applied, on_reset}
use Rattle.circuit.specs.Signals.{on_iam, on_progress, on_rel, on_rlc, on_far_block, on_far_unblock, on_block_ack, on_unblock_ack, on_rsc, on_grs, on_gra, on_signal}

pub iam_keeps : (b : Bool) (c : Circuit) → Keeps c (on_iam b c)
iam_keeps b c = search arith

pub progress_keeps : (c : Circuit) → Keeps c (on_progress c)
progress_keeps c = search arith

pub rel_keeps : (c : Circuit) → Keeps c (on_rel c)
rel_keeps c = search arith

pub rlc_keeps : (c : Circuit) → Keeps c (on_rlc c)
rlc_keeps c = search arith

pub far_block_keeps : (why : BlockType) (c : Circuit) → Keeps c (on_far_block why c)
far_block_keeps why c = search arith

pub far_unblock_keeps : (why : BlockType) (c : Circuit) → Keeps c (on_far_unblock why c)
far_unblock_keeps why c = search arith

pub block_ack_keeps : (why : BlockType) (c : Circuit) → Keeps c (on_block_ack why c)
block_ack_keeps why c = search arith

pub unblock_ack_keeps : (why : BlockType) (c : Circuit) → Keeps c (on_unblock_ack why c)
unblock_ack_keeps why c = search arith

pub rsc_keeps : (c : Circuit) → Keeps c (on_rsc c)
rsc_keeps c = search arith

pub grs_keeps : (c : Circuit) → Keeps c (on_grs c)
grs_keeps c = search arith

pub gra_keeps : (b : Bool) (c : Circuit) → Keeps c (on_gra b c)
gra_keeps b c = search arith

-- a reset keeps them at any circuit
pub reset_keeps : (how : Reset) (c : Circuit) → Keeps c (on_reset how c)
reset_keeps how c = search arith

pub signal_keeps : (s : Signal) (c : Circuit) → Keeps c (on_signal s c)
signal_keeps (signal.Iam b) c = iam_keeps b c
signal_keeps signal.Progress c = progress_keeps c
signal_keeps signal.Rel c = rel_keeps c
signal_keeps signal.Rlc c = rlc_keeps c
signal_keeps (signal.Block why) c = far_block_keeps why c
signal_keeps (signal.Unblock why) c = far_unblock_keeps why c
signal_keeps (signal.BlockAck why) c = block_ack_keeps why c
signal_keeps (signal.UnblockAck why) c = unblock_ack_keeps why c
signal_keeps signal.Rsc c = rsc_keeps c
signal_keeps signal.Grs c = grs_keeps c
signal_keeps (signal.Gra b) c = gra_keeps b c

pub order_keeps : (r : Rule) (c : Circuit) → allows r c ≡ true → Keeps c (applied r c)
order_keeps rule.Seize c h = search arith
order_keeps (rule.Release x) c h = search arith
order_keeps (rule.Block why) c h = search arith
order_keeps (rule.Unblock why) c h = search arith
order_keeps (rule.Reset how) c h = search arith
