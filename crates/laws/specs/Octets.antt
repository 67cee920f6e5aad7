-- What is told to send, in the octets written.
use Rattle.std.specs.Prelude.{◌≡◌, ℕ, ◌+◌, ◌≤◌, List, [], ◌∷◌, map, length, None, Ok}
use Rattle.message.specs.Decode.{decode}
use Rattle.message.specs.Encode.{encode, plain, refusal_of}
use Rattle.message.specs.Msg.{Msg}
use Rattle.circuit.specs.declared.record.Circuit.{Circuit}
use Rattle.words.specs.Words.{number_of}
use Rattle.words.specs.declared.kinds.Word.{Word}
use Rattle.words.specs.declared.kinds.Word.TheVariants.{Send, Begun, Ended, Alert}
use Rattle.supervision.specs.Cutting.{cut, Gapless}
use Rattle.supervision.specs.Moves.{Move, words_of, octets_of}
use Rattle.supervision.specs.declared.trunk.Config.{Config}

-- words cut messages out of octets
pub record Cuts (words octets : List ℕ) (messages : List Msg) : Type 0 where
  -- each send word tells place and length of its message, in the order of the messages
  pub cuts : cut words octets ≡ map encode messages
  -- from the first octet to the last, without a gap
  pub gapless : Gapless 0 words (length octets)
  -- each that may be written is read as it was meant
  pub read : (message : Msg) → refusal_of message ≡ None → decode (encode message) ≡ Ok (plain message)

-- sends, and then the alert
abbrev pub Sends : List Word → Type 0
Sends [] = Unit {0}
Sends (Send place length ∷ ws) = Sends ws
Sends (Alert timer cic ∷ ws) = ws ≡ []
Sends (Begun way cic ∷ ws) = ⊥
Sends (Ended cause cic ∷ ws) = ⊥

-- begun and ended words by rising CIC from `low` on, the end of a circuit's call before the beginning of another; then the sends
abbrev pub Rises : ℕ → List Word → Type 0
Rises low [] = Unit {0}
Rises low (Ended cause cic ∷ ws) = (low ≤ cic.0) × Rises cic.0 ws
Rises low (Begun way cic ∷ ws) = (low ≤ cic.0) × Rises (cic.0 + 1) ws
Rises low (Send place length ∷ ws) = Sends ws
Rises low (Alert timer cic ∷ ws) = ws ≡ []

abbrev pub WordsFollow : Type 0
WordsFollow = (t : Config) (m : Move) (table : List Circuit) → Rises t.first.0 (words_of t m table)

-- any move, as far as the place of a message fits its word
abbrev pub SendsCut : Type 0
SendsCut = (t : Config) (m : Move) (table : List Circuit) → length (octets_of m) ≤ 4096 → Cuts (map number_of (words_of t m table)) (octets_of m) m.sent
