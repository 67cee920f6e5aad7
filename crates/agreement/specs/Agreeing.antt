-- What is promised of two exchanges.
use Rattle.std.specs.Prelude.{◌≡◌, ℕ, ◌+◌, ◌<◌, ◌≤◌, ◌||◌, Bool, true, false, cond, not, ◌==◌, List, [], ◌∷◌, length, is_ok, Some, Ok, Err, Option}
use Rattle.status.specs.declared.cic.Cic.{Cic}
use Rattle.message.specs.declared.kinds.BlockType.{BlockType}
use Rattle.policy.specs.Sets.{Chosen}
use Rattle.policy.specs.declared.interface.Place.{Place}
use Rattle.circuit.specs.Circuits.{block_of, is_engaged, is_none, is_open, is_set, is_waiting, is_releasing, is_standing}
use Rattle.circuit.specs.Laws.{Turns}
use Rattle.circuit.specs.declared.record.Circuit.{Circuit}
use Rattle.words.specs.declared.kinds.Direction.TheVariants.{Outgoing}
use Rattle.words.specs.declared.kinds.Word.TheVariants.{Begun}
use Rattle.refusal.specs.declared.reasons.Refusal.TheVariants.{Choice}
use Rattle.supervision.specs.declared.trunk.Config.{Config}
use Rattle.supervision.specs.Laws.{about, SetIsOpen}
use Rattle.supervision.specs.Moves.{Move, some_from, words_of}
use Rattle.supervision.specs.Receiving.{receiving}
use Rattle.supervision.specs.Trunks.{cic_at, placed}
use Rattle.supervision.specs.Answering.{answer, seize}
use Rattle.agreement.specs.Runs.{State, Reaches, lends, trunk}
use Rattle.supervision.specs.declared.limits.TheConstants.{OCTETS, WORDS}

-- the circuit at a place
abbrev pub at : State → ℕ → Circuit
at s k = placed s.table k

-- y has a far block exactly where x has a local block asked or set, for each circuit and each type
abbrev pub Knows : State → State → Type 0
Knows x y = (k : ℕ) (why : BlockType) → block_of why (at y k).far ≡ is_standing (block_of why (at x k).local)

-- the begun and ended words told of each circuit take turns, begun first, and it is engaged exactly when the last is begun
abbrev pub TakesTurns : Cic → State → Type 0
TakesTurns first s = (k : ℕ) → k < length s.table → Turns false (about (first.0 + k) s.told) (is_engaged (at s k))

-- the octets are accepted where they are received, with outputs of full size
abbrev pub IsTaken : Config → State → List ℕ → Type 0
IsTaken t s front =
    (words octets : List ℕ) → WORDS ≤ length words → OCTETS ≤ length octets
    → is_ok (receiving t (length s.held) front (lends s words octets)) ≡ true

-- each message of a line is
abbrev pub AreTaken : Config → State → List (List ℕ) → Type 0
AreTaken t s [] = Unit {0}
AreTaken t s (o ∷ l) = IsTaken t s o × AreTaken t s l

-- no answer is waited for
pub record Rests (c : Circuit) : Type 0 where
  pub no_reset : is_waiting c.reset ≡ false
  pub no_block : (why : BlockType) → (is_none (block_of why c.local) || is_set (block_of why c.local)) ≡ true
  pub no_release : is_releasing c.call ≡ false

-- a lawful seizure: what a policy may have chosen, a body of 1 to 256 octets, outputs of full size
pub record Asks (s : State) (body : List ℕ) (choice : Option Place) (words octets : List ℕ) : Type 0 where
  pub chosen : Chosen s.held choice
  pub long : 1 ≤ length body
  pub short : length body ≤ 256
  pub room_of_words : WORDS ≤ length words
  pub room_of_octets : OCTETS ≤ length octets

pub record Seizes (t : Config) (s : State) : Type 0 where
  -- the policy's set is exactly the open circuits
  pub set : SetIsOpen s.table s.held
  -- a lawful seizure is accepted exactly if some circuit is open
  pub exactly : (body : List ℕ) (choice : Option Place) (words octets : List ℕ) → Asks s body choice words octets
      → is_ok (answer t (length s.held) (seize body choice) (lends s words octets)) ≡ some_from (λ _. is_open) 0 s.table
  -- no seizure is refused because what the policy chose is not open
  pub fits : (body : List ℕ) (choice : Option Place) (words octets : List ℕ) → Chosen s.held choice
      → answer t (length s.held) (seize body choice) (lends s words octets) ≡ Err Choice → ⊥
  -- an accepted one takes an open circuit, and tells its begun word and nothing else about calls
  pub takes : (body : List ℕ) (place : Place) (words octets : List ℕ) (m : Move) → answer t (length s.held) (seize body (Some place)) (lends s words octets) ≡ Ok m
      → (is_open (at s place.0) ≡ true)
      × ((j : ℕ) → j < length s.table → about (t.first.0 + j) (words_of t m s.table) ≡ cond (j == place.0) (Begun Outgoing (cic_at t place.0) ∷ []) [])

-- of two exchanges with these numbers, the lines out of them being a.line and b.line
pub record Promised (t u : Config) (a b : State) : Type 0 where
  -- with both lines empty, each knows the blocks of the other
  pub agree : a.line ≡ [] → b.line ≡ [] → Knows a b × Knows b a
  -- at each, begun and ended words take turns
  pub turns : TakesTurns t.first a × TakesTurns u.first b
  -- at each, a circuit is seized exactly when one is open
  pub seizes : Seizes t a × Seizes u b
  -- no message on a line is refused
  pub taken : AreTaken u b a.line × AreTaken t a b.line
  -- with both lines empty, nothing is waited for
  pub rest : a.line ≡ [] → b.line ≡ [] → (k : ℕ) → Rests (at a k) × Rests (at b k)

-- of every state that runs reach
abbrev pub Agreement : Type 0
Agreement =
    (first : Cic) (ws : List ℕ) (higher : Bool) (a b : State) → Reaches first ws higher a b
    → Promised (trunk first ws higher) (trunk first ws (not higher)) a b
