-- What the orders of our side do to one circuit.
use Rattle.std.specs.Prelude.{Some, None}
use Rattle.message.specs.declared.kinds.BlockType.{BlockType}
use Rattle.circuit.specs.declared.record.Call.TheVariants.{Calling, Releasing}
use Rattle.circuit.specs.declared.record.LocalBlock.{LocalBlock}
use Rattle.circuit.specs.declared.record.LocalBlock.TheVariants as local
use Rattle.circuit.specs.declared.record.Reset.{Reset}
use Rattle.circuit.specs.declared.record.CauseOctets.{CauseOctets}
use Rattle.circuit.specs.declared.record.Circuit.{Circuit}
use Rattle.circuit.specs.declared.rules.Change.{Change}
use Rattle.circuit.specs.declared.rules.Rule.{Rule}
use Rattle.circuit.specs.declared.rules.Rule.TheVariants as rule
use Rattle.words.specs.declared.kinds.Direction.TheVariants.{Outgoing}
use Rattle.words.specs.declared.kinds.EndCause.TheVariants as end
use Rattle.circuit.specs.Circuits.{block_of, with_block, no_local, no_far}
use Rattle.circuit.specs.Changes.{with_call, with_locals, with_fars, with_reset, with_cause, change, quiet, ending, under_block}

-- seizing: begun, calling
abbrev pub on_seize : Circuit → Change
on_seize c = change (with_call Calling c) None (Some Outgoing)

-- releasing: the cause is kept
abbrev pub on_release : CauseOctets → Circuit → Change
on_release cause c = quiet (with_cause cause (with_call Releasing c))

-- blocking: asked; a hardware block ends the call
abbrev pub on_block : BlockType → Circuit → Change
on_block why c = under_block why (with_locals (with_block why local.Asked c.local) c)

-- none stays none
abbrev pub lifted : LocalBlock → LocalBlock
lifted local.None = local.None
lifted local.Asked = local.Lifting
lifted local.Set = local.Lifting
lifted local.Lifting = local.Lifting

-- unblocking: lifting
abbrev pub on_unblock : BlockType → Circuit → Change
on_unblock why c = quiet (with_locals (with_block why (lifted (block_of why c.local)) c.local) c)

-- a reset ends the call, clears all four blocks and waits for its answer
abbrev pub on_reset : Reset → Circuit → Change
on_reset how c = ending end.Reset (with_reset how (with_fars no_far (with_locals no_local c)))

-- what an order does to a circuit
abbrev pub applied : Rule → Circuit → Change
applied rule.Seize c = on_seize c
applied (rule.Release cause) c = on_release cause c
applied (rule.Block why) c = on_block why c
applied (rule.Unblock why) c = on_unblock why c
applied (rule.Reset how) c = on_reset how c
