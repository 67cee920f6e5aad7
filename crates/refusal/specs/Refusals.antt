-- Refusals and their numbers.
use Rattle.std.specs.Prelude.{ℕ, Bool, cond, Some, None, Ok, Err, Option, Result}
use Rattle.message.specs.Msg.{Msg}
use Rattle.message.specs.declared.fault.MessageFault.{MessageFault}
use Rattle.message.specs.declared.fault.MessageFault.TheVariants as fault
use Rattle.refusal.specs.declared.reasons.Refusal.{Refusal}
use Rattle.refusal.specs.declared.reasons.Refusal.TheVariants.{Opening, Places, Buffers, Short, Unknown, Layout, Limit, Argument, Address, State, NoneOpen, Choice}

abbrev pub number_of : Refusal → ℕ
number_of Opening = 1
number_of Places = 2
number_of Buffers = 3
number_of Short = 4
number_of (Unknown t) = 5
number_of (Layout t) = 6
number_of (Limit t) = 7
number_of Argument = 8
number_of Address = 9
number_of State = 10
number_of NoneOpen = 11
number_of Choice = 12

-- the type octet of a refused message
abbrev pub type_in : Refusal → Option ℕ
type_in Opening = None
type_in Places = None
type_in Buffers = None
type_in Short = None
type_in (Unknown t) = Some t
type_in (Layout t) = Some t
type_in (Limit t) = Some t
type_in Argument = None
type_in Address = None
type_in State = None
type_in NoneOpen = None
type_in Choice = None

-- a fault of the message part as the operation's own
abbrev pub refused_as : MessageFault → Refusal
refused_as fault.NoRoom = Buffers
refused_as fault.Short = Short
refused_as (fault.Unknown t) = Unknown t
refused_as (fault.Layout t) = Layout t
refused_as (fault.Limit t) = Limit t

-- refused where the test holds, else what follows
abbrev pub unless : {X : Type 0} → Bool → Refusal → Result X Refusal → Result X Refusal
unless b e x = cond b (Err e) x

-- the second, unless the first was refused
abbrev pub and_then : {X Y : Type 0} → Result X Refusal → (X → Result Y Refusal) → Result Y Refusal
and_then (Err e) f = Err e
and_then (Ok x) f = f x

-- a fault of the message part comes up as the operation's own
abbrev pub raised : Result Msg MessageFault → Result Msg Refusal
raised (Err f) = Err (refused_as f)
raised (Ok m) = Ok m
