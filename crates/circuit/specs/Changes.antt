-- Parts of a rule: one field of a record changed, a call ended.
use Rattle.std.specs.Prelude.{Bool, cond, Some, None, Option}
use Rattle.message.specs.declared.kinds.BlockType.{BlockType}
use Rattle.message.specs.declared.kinds.BlockType.TheVariants.{Maintenance, Hardware}
use Rattle.circuit.specs.declared.record.Call.{Call}
use Rattle.circuit.specs.declared.record.Call.TheVariants.{Idle}
use Rattle.circuit.specs.declared.record.LocalBlock.{LocalBlock}
use Rattle.circuit.specs.declared.record.Blocks.{Blocks}
use Rattle.circuit.specs.declared.record.Reset.{Reset}
use Rattle.circuit.specs.declared.record.CauseOctets.{CauseOctets}
use Rattle.circuit.specs.declared.record.Circuit.{Circuit}
use Rattle.circuit.specs.declared.rules.Change.{Change}
use Rattle.words.specs.declared.kinds.Direction.{Direction}
use Rattle.words.specs.declared.kinds.EndCause.{EndCause}
use Rattle.words.specs.declared.kinds.EndCause.TheVariants as end
use Rattle.circuit.specs.Circuits.{is_idle}

abbrev pub with_call : Call → Circuit → Circuit
with_call x c = record c { call = x }

abbrev pub with_locals : Blocks LocalBlock → Circuit → Circuit
with_locals x c = record c { local = x }

abbrev pub with_fars : Blocks Bool → Circuit → Circuit
with_fars x c = record c { far = x }

abbrev pub with_reset : Reset → Circuit → Circuit
with_reset x c = record c { reset = x }

abbrev pub with_cause : CauseOctets → Circuit → Circuit
with_cause x c = record c { cause = x }

-- the end that is told where a call is ended: none of an idle one
abbrev pub ended_if : EndCause → Call → Option EndCause
ended_if cause call = cond (is_idle call) None (Some cause)

abbrev pub change : Circuit → Option EndCause → Option Direction → Change
change c e b = record { circuit = c; ended = e; begun = b }

-- nothing is told of the call
abbrev pub quiet : Circuit → Change
quiet c = change c None None

-- the call is ended
abbrev pub ending : EndCause → Circuit → Change
ending cause c = change (with_call Idle c) (ended_if cause c.call) None

-- what a block does to the call: one for hardware ends it, one for maintenance lets it go on
abbrev pub under_block : BlockType → Circuit → Change
under_block Maintenance c = quiet c
under_block Hardware c = ending end.HardwareBlock c
