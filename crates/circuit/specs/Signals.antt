-- What the messages of the far exchange do to one circuit.
use Rattle.std.specs.Prelude.{Bool, true, false, cond, not, ◌||◌, Some, None}
use Rattle.message.specs.declared.kinds.BlockType.{BlockType}
use Rattle.message.specs.declared.kinds.BlockType.TheVariants.{Maintenance, Hardware}
use Rattle.circuit.specs.declared.record.Call.{Call}
use Rattle.circuit.specs.declared.record.Call.TheVariants.{Idle, Calling, Talking, Releasing}
use Rattle.circuit.specs.declared.record.LocalBlock.{LocalBlock}
use Rattle.circuit.specs.declared.record.LocalBlock.TheVariants as local
use Rattle.circuit.specs.declared.record.Reset.TheVariants as reset
use Rattle.circuit.specs.declared.record.CauseOctets.{CauseOctets}
use Rattle.circuit.specs.declared.record.Circuit.{Circuit}
use Rattle.circuit.specs.declared.rules.Change.{Change}
use Rattle.circuit.specs.declared.signals.Signal.{Signal}
use Rattle.circuit.specs.declared.signals.Signal.TheVariants as signal
use Rattle.words.specs.declared.kinds.Direction.TheVariants.{Incoming}
use Rattle.words.specs.declared.kinds.EndCause.TheVariants as end
use Rattle.circuit.specs.Circuits.{is_none, is_set, is_waiting, is_calling, is_connected, is_group, is_single, block_of, with_block, no_far}
use Rattle.circuit.specs.Changes.{with_call, with_locals, with_fars, with_reset, with_cause, change, quiet, ending, under_block}

-- IAM does nothing while the call is talking or releasing, nor on a calling circuit that we control
abbrev pub passes_call : Bool → Call → Bool
passes_call control Idle = false
passes_call control Calling = control
passes_call control Talking = true
passes_call control Releasing = true

-- nor while a reset waits, the local hardware block is not none, or the local maintenance block is set
abbrev pub passes_iam : Bool → Circuit → Bool
passes_iam control c =
    is_waiting c.reset || (not (is_none c.local.hardware) || (is_set c.local.maintenance || passes_call control c.call))

-- otherwise a calling one is ended by dual seizure; then a call begins, and both far blocks are removed
abbrev pub on_iam : Bool → Circuit → Change
on_iam control c =
    cond (passes_iam control c) (quiet c)
    (change (with_fars no_far (with_call Talking c)) (cond (is_calling c.call) (Some end.DualSeizure) None) (Some Incoming))

-- ACM, CON, ANM, CPG make calling talking
abbrev pub on_progress : Circuit → Change
on_progress c = cond (is_calling c.call) (quiet (with_call Talking c)) (quiet c)

-- REL ends a calling or talking call
abbrev pub on_rel : Circuit → Change
on_rel c = cond (is_connected c.call) (ending end.ReleaseReceived c) (quiet c)

-- the cause of a release that answers an unexpected RLC
abbrev pub unexpected : CauseOctets
unexpected = record { location_octet = 0x87; value_octet = 0x9f }

-- where no single reset waits: RLC ends a releasing call, and makes a calling or talking one releasing
abbrev pub on_rlc_call : Call → Circuit → Change
on_rlc_call Idle c = quiet c
on_rlc_call Calling c = quiet (with_cause unexpected (with_call Releasing c))
on_rlc_call Talking c = quiet (with_cause unexpected (with_call Releasing c))
on_rlc_call Releasing c = ending end.ReleaseComplete c

-- RLC ends a single reset
abbrev pub on_rlc : Circuit → Change
on_rlc c = cond (is_single c.reset) (quiet (with_reset reset.None c)) (on_rlc_call c.call c)

-- BLO, and CGB for its type: the far block is set; one for hardware ends the call
abbrev pub on_far_block : BlockType → Circuit → Change
on_far_block why c = under_block why (with_fars (with_block why true c.far) c)

-- UBL, and CGU for its type: the far block is removed
abbrev pub on_far_unblock : BlockType → Circuit → Change
on_far_unblock why c = quiet (with_fars (with_block why false c.far) c)

-- BLA, and CGBA for its type: asked becomes set
abbrev pub acknowledged : LocalBlock → LocalBlock
acknowledged local.None = local.None
acknowledged local.Asked = local.Set
acknowledged local.Set = local.Set
acknowledged local.Lifting = local.Lifting

abbrev pub on_block_ack : BlockType → Circuit → Change
on_block_ack why c = quiet (with_locals (with_block why (acknowledged (block_of why c.local)) c.local) c)

-- a block that is asked or set is asked again
abbrev pub asked_again : LocalBlock → LocalBlock
asked_again local.None = local.None
asked_again local.Asked = local.Asked
asked_again local.Set = local.Asked
asked_again local.Lifting = local.Lifting

-- UBA, and CGUA for its type: lifting becomes none, asked or set becomes asked
abbrev pub unlocked : LocalBlock → LocalBlock
unlocked local.None = local.None
unlocked local.Asked = local.Asked
unlocked local.Set = local.Asked
unlocked local.Lifting = local.None

abbrev pub on_unblock_ack : BlockType → Circuit → Change
on_unblock_ack why c = quiet (with_locals (with_block why (unlocked (block_of why c.local)) c.local) c)

-- RSC ends the call and removes both far blocks; our own blocks are asked again
abbrev pub on_rsc : Circuit → Change
on_rsc c = ending end.Reset (with_fars no_far (with_locals
    (record { maintenance = asked_again c.local.maintenance; hardware = asked_again c.local.hardware }) c))

-- GRS does so too, but the local maintenance block stays
abbrev pub on_grs : Circuit → Change
on_grs c = ending end.Reset (with_fars no_far (with_locals (with_block Hardware (asked_again c.local.hardware) c.local) c))

-- GRA: a group reset that waits ends, and the status bit becomes the far maintenance block
abbrev pub on_gra : Bool → Circuit → Change
on_gra bit c = cond (is_group c.reset) (quiet (with_reset reset.None (with_fars (with_block Maintenance bit c.far) c))) (quiet c)

-- a message as a circuit that it names sees it
abbrev pub on_signal : Signal → Circuit → Change
on_signal (signal.Iam control) c = on_iam control c
on_signal signal.Progress c = on_progress c
on_signal signal.Rel c = on_rel c
on_signal signal.Rlc c = on_rlc c
on_signal (signal.Block why) c = on_far_block why c
on_signal (signal.Unblock why) c = on_far_unblock why c
on_signal (signal.BlockAck why) c = on_block_ack why c
on_signal (signal.UnblockAck why) c = on_unblock_ack why c
on_signal signal.Rsc c = on_rsc c
on_signal signal.Grs c = on_grs c
on_signal (signal.Gra bit) c = on_gra bit c
