-- What words tell, with the octets of each message.
use Rattle.std.specs.Prelude.{ℕ, ◌+◌, cond, List, map, take, drop, length, Some, None, Option, nat_le}
use Rattle.status.specs.declared.cic.Cic.{Cic}
use Rattle.words.specs.Words.{word_of}
use Rattle.words.specs.declared.kinds.Direction.{Direction}
use Rattle.words.specs.declared.kinds.EndCause.{EndCause}
use Rattle.words.specs.declared.kinds.Timer.{Timer}
use Rattle.words.specs.declared.kinds.Word.{Word}
use Rattle.words.specs.declared.kinds.Word.TheVariants as word
use Rattle.exchange.specs.declared.events.Event.{Event}
use Rattle.exchange.specs.declared.events.Event.TheVariants as event
use Rattle.exchange.specs.declared.events.Events.{Events}

-- what is told, a message as its octets
pub data Meant : Type 0 where
  Send : List ℕ → Meant
  Begun : Direction → Cic → Meant
  Ended : EndCause → Cic → Meant
  Alert : Timer → Cic → Meant
  Unknown : Meant

abbrev pub meant_by : Event → Meant
meant_by (event.Send octets) = Send octets.now
meant_by (event.Begun way cic) = Begun way cic
meant_by (event.Ended cause cic) = Ended cause cic
meant_by (event.Alert timer cic) = Alert timer cic
meant_by event.Unknown = Unknown

-- a send names a part of the octets
abbrev pub told_in : List ℕ → Option Word → Meant
told_in octets None = Unknown
told_in octets (Some (word.Send place len)) = cond (nat_le (place + len) (length octets)) (Send (take len (drop place octets))) Unknown
told_in octets (Some (word.Begun way cic)) = Begun way cic
told_in octets (Some (word.Ended cause cic)) = Ended cause cic
told_in octets (Some (word.Alert timer cic)) = Alert timer cic

-- what a word tells beside those octets
abbrev pub says : List ℕ → ℕ → Meant
says octets n = told_in octets (word_of n)

-- what is left to tell
abbrev pub left : Events → List Meant
left t = map (says t.octets.now) t.words.now
