-- Faults and their numbers.
use Rattle.std.specs.Prelude.{ℕ, Some, None, Option}
use Rattle.status.specs.declared.fault.ParamFault.{ParamFault}
use Rattle.status.specs.declared.fault.ParamFault.TheVariants as param
use Rattle.message.specs.declared.fault.MessageFault.{MessageFault}
use Rattle.message.specs.declared.fault.MessageFault.TheVariants.{NoRoom, Short, Unknown, Layout, Limit}

-- a parameter's fault as the message's
abbrev pub raised : ParamFault → MessageFault
raised (param.Layout t) = Layout t
raised (param.Limit t) = Limit t

abbrev pub number_of : MessageFault → ℕ
number_of NoRoom = 3
number_of Short = 4
number_of (Unknown t) = 5
number_of (Layout t) = 6
number_of (Limit t) = 7

-- the type octet that a fault carries
abbrev pub type_of_fault : MessageFault → Option ℕ
type_of_fault NoRoom = None
type_of_fault Short = None
type_of_fault (Unknown t) = Some t
type_of_fault (Layout t) = Some t
type_of_fault (Limit t) = Some t
