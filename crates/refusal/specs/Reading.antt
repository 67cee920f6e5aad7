-- What was read, with the octets that its references point to.
use Rattle.std.specs.Prelude.{Ok, Err, Result}
use Rattle.message.specs.Meaning.{meaning}
use Rattle.message.specs.Msg.{Msg}
use Rattle.message.specs.declared.content.Message.{Message}
use Rattle.refusal.specs.declared.reasons.Refusal.{Refusal}

abbrev pub heard_as : Result Message Refusal → Result Msg Refusal
heard_as (Err e) = Err e
heard_as (Ok m) = Ok (meaning m)
