-- Runs of two exchanges over two lines: from newly opened, step by step.
use Rattle.std.specs.Prelude.{◌≡◌, ℕ, ◌*◌, ◌≤◌, Bool, true, false, not, List, [], ◌∷◌, ◌++◌, map, length, Ok}
use Rattle.status.specs.declared.cic.Cic.{Cic}
use Rattle.message.specs.Encode.{encode}
use Rattle.message.specs.Msg.{call}
use Rattle.message.specs.declared.kinds.CallKind.{CallKind}
use Rattle.message.specs.declared.kinds.CallKind.TheVariants.{Iam, Acm, Con, Anm, Cpg}
use Rattle.circuit.specs.declared.record.Circuit.{Circuit}
use Rattle.words.specs.declared.kinds.Word.{Word}
use Rattle.supervision.specs.declared.trunk.Config.{Config}
use Rattle.supervision.specs.Answering.{Order, answer, ByPolicy}
use Rattle.supervision.specs.Expiring.{expiring}
use Rattle.supervision.specs.Lending.{Lent, lent, settled}
use Rattle.supervision.specs.Moves.{Move, table_of, words_of}
use Rattle.supervision.specs.Opening.{opening, open_table, open_set}
use Rattle.supervision.specs.Orders.{circuit_of}
use Rattle.supervision.specs.Receiving.{as_cic, receiving}
use Rattle.supervision.specs.declared.limits.TheConstants.{SLOTS}

-- the state of one exchange, whatever its policy is
pub record State : Type 0 where
  -- its circuits
  pub table : List Circuit
  -- the policy's set
  pub held : List Bool
  -- the words told since opening
  pub told : List Word
  -- the line out of it, message after message
  pub line : List (List ℕ)

-- what an exchange lends to its operations: its own table and policy, and some outputs
abbrev pub lends : State → List ℕ → List ℕ → Lent
lends s words octets = lent s.table s.held words octets

-- after an accepted move: its words are told, its messages are on the line
abbrev pub after_move : Config → Move → State → State
after_move t m s = record {
  table = table_of m s.table;
  held = settled s.held s.table (table_of m s.table);
  told = s.told ++ words_of t m s.table;
  line = s.line ++ map encode m.sent;
}

-- the call messages that a host sends by itself
abbrev pub of_host : CallKind → Bool
of_host Iam = false
of_host Acm = true
of_host Con = true
of_host Anm = true
of_host Cpg = true

-- an exchange takes a step: its state and the line into it, before and after.
-- A step that is refused changes nothing, so it is none. Words and octets are any outputs
pub data Steps (t : Config) : State → List (List ℕ) → State → List (List ℕ) → Type 0 where
  -- an order of its host, seizing with what the policy chose
  ordered : (s : State) (into : List (List ℕ)) (words octets : List ℕ) (o : Order) (m : Move)
      → ByPolicy s.held o → answer t (length s.held) o (lends s words octets) ≡ Ok m → Steps t s into (after_move t m s) into
  -- an expiry, by the numbers of timer, CIC or PCM system, and type
  expired : (s : State) (into : List (List ℕ)) (words octets : List ℕ) (timer at kind : ℕ) (m : Move)
      → expiring t (length s.held) timer at kind (lends s words octets) ≡ Ok m → Steps t s into (after_move t m s) into
  -- the message at the front of the line into it, which is taken off
  received : (s : State) (into : List (List ℕ)) (words octets : List ℕ) (front : List ℕ) (m : Move)
      → receiving t (length s.held) front (lends s words octets) ≡ Ok m → Steps t s (front ∷ into) (after_move t m s) into
  -- a call message of its host's own, for an equipped CIC
  called : (s : State) (into : List (List ℕ)) (c : ℕ) (kind : CallKind) (body : List ℕ)
      → of_host kind ≡ true → 1 ≤ length body → (circuit_of t (as_cic c) s.table).equipped ≡ true
      → Steps t s into (record s { line = s.line ++ (encode (call c kind body) ∷ []) }) into

-- the numbers of an exchange
abbrev pub trunk : Cic → List ℕ → Bool → Config
trunk first ws higher = record { first = first; systems = length ws; higher = higher }

-- newly opened, with a policy that takes so many places
abbrev pub fresh_state : ℕ → List ℕ → State
fresh_state room ws = record { table = open_table ws; held = open_set room (open_table ws); told = []; line = [] }

-- the same exchange with another line out of it
abbrev pub with_line : List (List ℕ) → State → State
with_line l s = record s { line = l }

-- what runs reach, of two exchanges with the same first CIC and equipment; `higher` says whether the near one has the higher point code
pub data Reaches (first : Cic) (ws : List ℕ) (higher : Bool) : State → State → Type 0 where
  -- both newly opened, the lines empty
  opened : (room room' : ℕ) → opening room first ws higher (length ws * SLOTS) ≡ Ok (trunk first ws higher)
      → opening room' first ws (not higher) (length ws * SLOTS) ≡ Ok (trunk first ws (not higher))
      → Reaches first ws higher (fresh_state room ws) (fresh_state room' ws)
  -- a step of the near one, and of the far one
  near : (a b a' : State) (l : List (List ℕ)) → Reaches first ws higher a b → Steps (trunk first ws higher) a b.line a' l → Reaches first ws higher a' (with_line l b)
  far : (a b b' : State) (l : List (List ℕ)) → Reaches first ws higher a b → Steps (trunk first ws (not higher)) b a.line b' l → Reaches first ws higher (with_line l a) b'
