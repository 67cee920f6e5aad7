-- What the code's messages mean, with the octets that their references point to.
use Rattle.std.specs.Prelude.{ℕ, Ok, Err, Result}
use Rattle.message.specs.Msg.{Msg, single, release_complete, group_reset, group_reset_ack, grouped, release, call}
use Rattle.message.specs.declared.content.Message.{Message}
use Rattle.message.specs.declared.content.Message.TheVariants as m
use Rattle.message.specs.declared.fault.MessageFault.{MessageFault}
use Rattle.message.specs.declared.kinds.BlockType.{BlockType}
use Rattle.message.specs.declared.kinds.BlockType.TheVariants.{Maintenance, Hardware}

abbrev pub indicator_of : BlockType → ℕ
indicator_of Maintenance = 0
indicator_of Hardware = 1

abbrev pub meaning : Message → Msg
meaning (m.Single c k) = single c.0 k
meaning (m.ReleaseComplete c) = release_complete c.0
meaning (m.GroupReset c r) = group_reset c.0 r.0
meaning (m.GroupResetAck c g) = group_reset_ack c.0 g.range.0 g.status.now
meaning (m.Grouped c k b g) = grouped c.0 k (indicator_of b) g.range.0 g.status.now
meaning (m.Release c x) = release c.0 x.0.now
meaning (m.Call c k x) = call c.0 k x.now

abbrev pub seen : Result Message MessageFault → Result Msg MessageFault
seen (Ok m) = Ok (meaning m)
seen (Err f) = Err f
