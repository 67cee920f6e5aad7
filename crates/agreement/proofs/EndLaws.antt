-- The laws of an end at its table: all that an exchange has to keep in a move for two exchanges to agree.
-- Other rules may stand at either end, if their moves keep these.
use Rattle.std.proofs.Common.{◌≡◌, ℕ, ◌/◌, Bool, true, List}
use Rattle.message.specs.Msg.{Msg}
use Rattle.circuit.specs.Circuits.{is_group}
use Rattle.circuit.specs.declared.record.Circuit.{Circuit}
use Rattle.supervision.specs.declared.trunk.Config.{Config}
use Rattle.supervision.specs.Moves.{Move, table_of}
use Rattle.supervision.specs.Trunks.{placed}
use Rattle.supervision.proofs.Keeping.{Allowed}
use Rattle.agreement.proofs.Event.{event, shown}
use Rattle.agreement.proofs.Laws.{OwnLaws, HeardBy}
use Rattle.agreement.proofs.Passing.{Sends, Each}

-- ## Who waits for a group reset

-- each circuit waits for a group reset as it did, up to what the move does to its PCM system
abbrev pub Shift : (ℕ → Bool) → List Circuit → Move → Type 0
Shift E T m = (g : ℕ → Bool → Bool) × ((k : ℕ) → E k ≡ true → is_group (placed (table_of m T) k).reset ≡ g (k / 32) (is_group (placed T k).reset))

abbrev pub Steady : (ℕ → Bool) → List Circuit → Move → Type 0
Steady E T m = (k : ℕ) → E k ≡ true → is_group (placed (table_of m T) k).reset ≡ is_group (placed T k).reset

pub shift_of : (E : ℕ → Bool) (T : List Circuit) (m : Move) → Steady E T m → Shift E T m
shift_of E T m h = ((λ _ b. b), h)

-- ## The laws

-- in each move: every rule may be applied where it is, group resets begin and end for whole PCM systems, and what is sent is accepted
pub record Kept (t : Config) (E : ℕ → Bool) (T : List Circuit) (m : Move) : Type 0 where
  pub allowed : Allowed m T
  pub shift : Shift E T m
  pub sent : Each (Sends t E) m.sent

-- in what it does by itself: also the laws on each circuit
pub record Acted (t : Config) (E : ℕ → Bool) (T : List Circuit) (m : Move) : Type 0 where
  pub kept : Kept t E T m
  pub own : (k : ℕ) → E k ≡ true → OwnLaws (placed T k) (placed (table_of m T) k) (shown t.first.0 k m.sent)

-- and with a message of the other end
pub record Heard (t : Config) (E : ℕ → Bool) (T : List Circuit) (msg : Msg) (m : Move) : Type 0 where
  pub kept : Kept t E T m
  pub heard : (k : ℕ) → E k ≡ true → HeardBy (event t.first.0 k msg) (placed T k) (placed (table_of m T) k) (shown t.first.0 k m.sent)
