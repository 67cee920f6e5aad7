-- An exchange as the contracts see it, and what an accepted operation makes of it.
use Rattle.std.specs.Prelude.{◌≡◌, ℕ, Bool, List, ◌++◌, map, length, replicate, Ok, Result}
use Rattle.message.specs.Encode.{encode}
use Rattle.circuit.specs.declared.record.Circuit.{Circuit}
use Rattle.words.specs.Words.{number_of}
use Rattle.refusal.specs.declared.reasons.Refusal.{Refusal}
use Rattle.supervision.specs.declared.trunk.Config.{Config}
use Rattle.supervision.specs.Lending.{Lent, lent, settled}
use Rattle.supervision.specs.Moves.{Move, table_of, words_of}
use Rattle.supervision.specs.declared.limits.TheConstants.{OCTETS, WORDS}

pub record Exchange : Type 0 where
  -- the numbers of its trunk
  pub config : Config
  -- its circuits
  pub table : List Circuit
  -- the policy's set
  pub held : List Bool
  -- the numbers told since opening
  pub told : List ℕ
  -- the line out of it, message after message
  pub line : List (List ℕ)

-- what it lends to its operations: its own table and policy, and outputs of full size
abbrev pub lends : Exchange → Lent
lends x = lent x.table x.held (replicate WORDS 0) (replicate OCTETS 0)

-- after an accepted move: its words are told, its messages are on the line
abbrev pub after_move : Move → Exchange → Exchange
after_move m x = record {
  config = x.config;
  table = table_of m x.table;
  held = settled x.held x.table (table_of m x.table);
  told = x.told ++ map number_of (words_of x.config m x.table);
  line = x.line ++ map encode m.sent;
}

-- the same exchange with another line out of it
abbrev pub with_line : List (List ℕ) → Exchange → Exchange
with_line l x = record x { line = l }

-- the rules accept: all is as their move says, and n words are told
pub record Moved (rules : Lent → Result Move Refusal) (n : ℕ) (x after : Exchange) : Type 0 where
  pub move : Move
  pub answered : rules (lends x) ≡ Ok move
  pub count : n ≡ length (words_of x.config move x.table)
  pub moved : after ≡ after_move move x
