-- Two exchanges that some run led to, and what is promised of them.
use Rattle.std.specs.Prelude.{◌≡◌, ℕ, not, List, map}
use Rattle.words.specs.Words.{number_of}
use Rattle.words.specs.declared.kinds.Word.{Word}
use Rattle.agreement.specs.Agreeing.{Promised}
use Rattle.agreement.specs.Reading.{read}
use Rattle.agreement.specs.Runs.{State, Reaches, trunk}
use Rattle.interworking.specs.Exchanges.{Exchange}

-- an exchange with words told
abbrev pub state : Exchange → List Word → State
state x ws = record { table = x.table; held = x.held; told = ws; line = x.line }

-- some run of two exchanges with the same first CIC and equipment led here
pub record Reached (a b : Exchange) : Type 0 where
  pub equipment : List ℕ
  pub near_numbers : a.config ≡ trunk a.config.first equipment a.config.higher
  pub far_numbers : b.config ≡ trunk a.config.first equipment (not a.config.higher)
  pub near_words : List Word
  pub far_words : List Word
  pub near_told : a.told ≡ map number_of near_words
  pub far_told : b.told ≡ map number_of far_words
  pub run : Reaches a.config.first equipment a.config.higher (state a near_words) (state b far_words)

-- so all that is promised of runs holds, of the words that the numbers told say
abbrev pub Agrees : Exchange → Exchange → Type 0
Agrees a b = Promised a.config b.config (state a (read a.told)) (state b (read b.told))
