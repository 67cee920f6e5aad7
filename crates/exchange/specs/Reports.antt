-- What an accepted operation tells, in the words of the trunk.
use Rattle.std.specs.Prelude.{List, [], ◌∷◌, ◌++◌, map, Some, None, Option}
use Rattle.status.specs.declared.cic.Cic.{Cic}
use Rattle.circuit.specs.declared.record.Circuit.{Circuit}
use Rattle.message.specs.Encode.{encode}
use Rattle.words.specs.declared.kinds.Timer.{Timer}
use Rattle.words.specs.declared.kinds.Word.{Word}
use Rattle.words.specs.declared.kinds.Word.TheVariants as word
use Rattle.supervision.specs.declared.trunk.Config.{Config}
use Rattle.supervision.specs.Moves.{Move, call_words}
use Rattle.exchange.specs.Events.{Meant, Send, Begun, Ended, Alert}

-- the words of calls among words, as they read
abbrev pub call_events : List Word → List Meant
call_events [] = []
call_events (word.Begun way cic ∷ ws) = Begun way cic ∷ call_events ws
call_events (word.Ended cause cic ∷ ws) = Ended cause cic ∷ call_events ws
call_events (word.Send place len ∷ ws) = call_events ws
call_events (word.Alert timer cic ∷ ws) = call_events ws

abbrev pub alerts : Option (Timer × Cic) → List Meant
alerts None = []
alerts (Some (timer, cic)) = Alert timer cic ∷ []

-- the calls that end and begin, then each message as it is encoded, then the alert
abbrev pub reports : Config → Move → List Circuit → List Meant
reports t m table = call_events (call_words t m table) ++ (map (λ x. Send (encode x)) m.sent ++ alerts m.alert)
