-- What an accepted operation does: which circuits it names, what is done to each, what is sent, and the alert.
use Rattle.std.specs.Prelude.{ℕ, suc, ◌+◌, Bool, false, cond, ◌&&◌, ◌||◌, List, [], ◌∷◌, ◌++◌, length, Some, None, Option}
use Rattle.std.specs.List.{flat_map}
use Rattle.status.specs.declared.cic.Cic.{Cic}
use Rattle.message.specs.Encode.{encode}
use Rattle.message.specs.Msg.{Msg}
use Rattle.circuit.specs.Changes.{quiet}
use Rattle.circuit.specs.Laws.{told_of}
use Rattle.circuit.specs.declared.record.Circuit.{Circuit}
use Rattle.circuit.specs.declared.rules.Change.{Change}
use Rattle.words.specs.declared.kinds.Timer.{Timer}
use Rattle.words.specs.declared.kinds.Word.{Word}
use Rattle.words.specs.declared.kinds.Word.TheVariants.{Send, Alert}
use Rattle.supervision.specs.declared.trunk.Config.{Config}
use Rattle.supervision.specs.Trunks.{cic_at}

pub record Move : Type 0 where
  -- the places named
  pub named : ℕ → Bool
  -- what is done to the circuit at a named place
  pub rule : ℕ → Circuit → Change
  -- the messages, in their order
  pub sent : List Msg
  -- the alert, if there is one: the timer and a CIC
  pub alert : Option (Timer × Cic)

-- what a rule does where it is named; a place that is not equipped is never changed
abbrev pub where_named : (ℕ → Bool) → (ℕ → Circuit → Change) → ℕ → Circuit → Change
where_named named rule k c = cond (c.equipped && named k) (rule k c) (quiet c)

-- each circuit changed by its place, from the place k on
abbrev pub each_from : (ℕ → Circuit → Change) → ℕ → List Circuit → List Circuit
each_from f k [] = []
each_from f k (c ∷ cs) = (f k c).circuit ∷ each_from f (suc k) cs

-- what is told of the calls of each, by rising CIC
abbrev pub told_from : Config → (ℕ → Circuit → Change) → ℕ → List Circuit → List Word
told_from t f k [] = []
told_from t f k (c ∷ cs) = told_of (cic_at t k) (f k c) ++ told_from t f (suc k) cs

-- a word for each message, by its place in the octets
abbrev pub sends_from : ℕ → List Msg → List Word
sends_from at [] = []
sends_from at (m ∷ ms) = Send at (length (encode m)) ∷ sends_from (at + length (encode m)) ms

abbrev pub step_of : Move → ℕ → Circuit → Change
step_of m = where_named m.named m.rule

-- the table afterwards
abbrev pub table_of : Move → List Circuit → List Circuit
table_of m table = each_from (step_of m) 0 table

-- the begun and ended words
abbrev pub call_words : Config → Move → List Circuit → List Word
call_words t m table = told_from t (step_of m) 0 table

abbrev pub alert_word : Option (Timer × Cic) → List Word
alert_word None = []
alert_word (Some (timer, cic)) = Alert timer cic ∷ []

-- the words told: begun and ended, then the sends, then the alert
abbrev pub words_of : Config → Move → List Circuit → List Word
words_of t m table = call_words t m table ++ (sends_from 0 m.sent ++ alert_word m.alert)

-- the octets written, message after message
abbrev pub octets_of : Move → List ℕ
octets_of m = flat_map encode m.sent

-- some circuit is as the test says, by its place from k on
abbrev pub some_from : (ℕ → Circuit → Bool) → ℕ → List Circuit → Bool
some_from p k [] = false
some_from p k (c ∷ cs) = p k c || some_from p (suc k) cs
