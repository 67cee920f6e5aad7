-- If nobody orders anything any more and the exchanges only receive, both lines empty.
use Rattle.std.specs.Prelude.{◌≡◌, ℕ, ◌+◌, ◌*◌, ◌<◌, ◌≤◌, Bool, cond, not, List, [], ◌∷◌, length, Ok}
use Rattle.status.specs.declared.cic.Cic.{Cic}
use Rattle.circuit.specs.Circuits.{is_connected}
use Rattle.circuit.specs.declared.record.Circuit.{Circuit}
use Rattle.supervision.specs.declared.trunk.Config.{Config}
use Rattle.supervision.specs.Moves.{Move}
use Rattle.supervision.specs.Receiving.{receiving}
use Rattle.agreement.specs.Agreeing.{Promised}
use Rattle.agreement.specs.Runs.{State, Reaches, after_move, lends, trunk, with_line}

-- an exchange takes the message at the front of the line into it: its state and that line, before and after
pub record Receives (t : Config) (s : State) (into : List (List ℕ)) (after : State) (left : List (List ℕ)) : Type 0 where
  pub front : List ℕ
  pub words : List ℕ
  pub octets : List ℕ
  pub move : Move
  pub stood : into ≡ front ∷ left
  pub taken : receiving t (length s.held) front (lends s words octets) ≡ Ok move
  pub moved : after ≡ after_move t move s

-- what so many receives lead to, whatever turns the two take
pub data Later (first : Cic) (ws : List ℕ) (higher : Bool) (a b : State) : ℕ → State → State → Type 0 where
  at_once : Later first ws higher a b 0 a b
  near_receives : (n : ℕ) (x y x' : State) (l : List (List ℕ)) → Later first ws higher a b n x y → Receives (trunk first ws higher) x y.line x' l
      → Later first ws higher a b (n + 1) x' (with_line l y)
  far_receives : (n : ℕ) (x y y' : State) (l : List (List ℕ)) → Later first ws higher a b n x y → Receives (trunk first ws (not higher)) y x.line y' l
      → Later first ws higher a b (n + 1) (with_line l x) y'

-- the messages on both lines
abbrev pub messages : State → State → ℕ
messages a b = length a.line + length b.line

-- the circuits of a table that are calling or talking
abbrev pub connected : List Circuit → ℕ
connected [] = 0
connected (c ∷ cs) = cond (is_connected c.call) 1 0 + connected cs

-- six receives for each message that stands on a line, and two for each end of a call that is calling or talking
abbrev pub bound : State → State → ℕ
bound a b = 6 * messages a b + 2 * (connected a.table + connected b.table)

-- how much is left to be received: it falls with each receive, of either exchange
pub record Measure (first : Cic) (ws : List ℕ) (higher : Bool) : Type 0 where
  pub work : State → State → ℕ
  pub falls_near : (a b a' : State) (l : List (List ℕ)) → Reaches first ws higher a b → Receives (trunk first ws higher) a b.line a' l → work a' (with_line l b) < work a b
  pub falls_far : (a b b' : State) (l : List (List ℕ)) → Reaches first ws higher a b → Receives (trunk first ws (not higher)) b a.line b' l → work (with_line l a) b' < work a b
  pub at_least : (a b : State) → Reaches first ws higher a b → messages a b ≤ work a b
  pub at_most : (a b : State) → Reaches first ws higher a b → work a b ≤ bound a b

-- of a state that is reached
pub record Settled (first : Cic) (ws : List ℕ) (higher : Bool) (a b : State) : Type 0 where
  -- there are no more receives than the bound, with each message that still stands counted as one
  pub bounded : (n : ℕ) (x y : State) → Later first ws higher a b n x y → n + messages x y ≤ bound a b
  -- all that is promised holds on the way: each message is accepted, and with the lines empty the two agree and rest
  pub promised : (n : ℕ) (x y : State) → Later first ws higher a b n x y → Promised (trunk first ws higher) (trunk first ws (not higher)) x y
  -- and receiving can empty the lines
  pub empties : (n : ℕ) × (x : State) × (y : State) × Later first ws higher a b n x y × (x.line ≡ []) × (y.line ≡ [])

pub record Settling (first : Cic) (ws : List ℕ) (higher : Bool) : Type 0 where
  pub measure : Measure first ws higher
  pub settled : (a b : State) → Reaches first ws higher a b → Settled first ws higher a b

abbrev pub Settles : Type 0
Settles = (first : Cic) (ws : List ℕ) (higher : Bool) → Settling first ws higher
