-- What is answered to a message for one circuit, from the record before.
use Rattle.std.specs.Prelude.{ℕ, List, [], ◌∷◌, Some, None, Option}
use Rattle.message.specs.Meaning.{meaning}
use Rattle.message.specs.declared.content.Message.{Message}
use Rattle.message.specs.Msg.{Msg, single, release_complete}
use Rattle.message.specs.declared.kinds.BlockType.{BlockType}
use Rattle.message.specs.declared.kinds.Grouped.{Grouped}
use Rattle.message.specs.declared.kinds.Grouped.TheVariants.{Cgb, Cgu, Cgba, Cgua}
use Rattle.message.specs.declared.kinds.Single.TheVariants.{Blo, Ubl, Bla, Uba}
use Rattle.circuit.specs.Circuits.{block_of, is_none, is_standing}
use Rattle.circuit.specs.Signals.{unexpected}
use Rattle.circuit.specs.declared.record.Circuit.{Circuit}
use Rattle.circuit.specs.declared.signals.Signal.{Signal}
use Rattle.circuit.specs.declared.signals.Signal.TheVariants as signal
use Rattle.supervision.specs.Orders.{release_message}
use Rattle.supervision.specs.Receiving.{if_so, is_unexpected}

-- the message that goes back at once; RSC has more to answer, and messages for a range answer as one
abbrev pub reply_to : ℕ → Signal → Circuit → List Msg
reply_to c (signal.Iam control) x = []
reply_to c signal.Progress x = []
reply_to c signal.Rel x = release_complete c ∷ []
reply_to c signal.Rlc x = if_so (is_unexpected x) (release_message c unexpected)
reply_to c (signal.Block why) x = single c Bla ∷ []
reply_to c (signal.Unblock why) x = single c Uba ∷ []
reply_to c (signal.BlockAck why) x = if_so (is_none (block_of why x.local)) (single c Ubl)
reply_to c (signal.UnblockAck why) x = if_so (is_standing (block_of why x.local)) (single c Blo)
reply_to c signal.Rsc x = if_so (is_standing x.local.maintenance) (single c Blo)
reply_to c signal.Grs x = []
reply_to c (signal.Gra bit) x = []

-- a group message of a type as a circuit that it names sees it
abbrev pub signal_of : Grouped → BlockType → Signal
signal_of Cgb why = signal.Block why
signal_of Cgu why = signal.Unblock why
signal_of Cgba why = signal.BlockAck why
signal_of Cgua why = signal.UnblockAck why

-- an answer of the code, with the octets that it points to
abbrev pub replied : Option Message → List Msg
replied None = []
replied (Some m) = meaning m ∷ []
