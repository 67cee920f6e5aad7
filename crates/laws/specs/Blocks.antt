-- How blocks and waiting resets move: from which state, by which event, to which.
use Rattle.std.specs.Prelude.{◌≡◌, ◌≢◌, ◌⊎◌, ℕ, ◌+◌, Bool, true, false, Ok}
use Rattle.message.specs.declared.kinds.BlockType.{BlockType}
use Rattle.message.specs.declared.kinds.BlockType.TheVariants.{Maintenance, Hardware}
use Rattle.circuit.specs.declared.record.Blocks.{Blocks}
use Rattle.circuit.specs.declared.record.Call.TheVariants.{Releasing}
use Rattle.circuit.specs.declared.record.Circuit.{Circuit}
use Rattle.circuit.specs.declared.record.LocalBlock.{LocalBlock}
use Rattle.circuit.specs.declared.record.LocalBlock.TheVariants as local
use Rattle.circuit.specs.declared.record.Reset.{Reset}
use Rattle.circuit.specs.declared.record.Reset.TheVariants as reset
use Rattle.supervision.specs.Lending.{Lent}
use Rattle.supervision.specs.Moves.{Move, table_of}
use Rattle.supervision.specs.Trunks.{placed}
use Rattle.supervision.specs.declared.trunk.Config.{Config}
use Rattle.laws.specs.Calls.{Barred, is_ours}
use Rattle.laws.specs.Events as on
use Rattle.laws.specs.Events.{Event, Operation, answered, event}

-- the block of a type
abbrev pub of_type : {X : Type 0} → BlockType → Blocks X → X
of_type Maintenance b = b.maintenance
of_type Hardware b = b.hardware

-- asked or set
abbrev pub Standing : LocalBlock → Type 0
Standing b = (b ≡ local.Asked) ⊎ (b ≡ local.Set)

-- our reset of a circuit: ordered, or by T5 of a release
pub data Clears (c : Circuit) : Event → Type 0 where
  by_circuit : Clears c on.circuit_reset
  by_system : Clears c on.system_reset
  by_timer : c.call ≡ Releasing → Clears c on.t5

-- where a local block of the type `why` moves; no order for it names a circuit with a waiting reset
pub data LocalMoves (why : BlockType) (c : Circuit) : Event → LocalBlock → LocalBlock → Type 0 where
  is_asked : c.reset ≡ reset.None → (b : LocalBlock) → LocalMoves why c (on.blocked why) b local.Asked
  is_set : LocalMoves why c (on.bla why) local.Asked local.Set
  is_lifted : c.reset ≡ reset.None → (b : LocalBlock) → b ≢ local.None → LocalMoves why c (on.unblocked why) b local.Lifting
  is_gone : LocalMoves why c (on.uba why) local.Lifting local.None
  is_cleared : (e : Event) (b : LocalBlock) → Clears c e → LocalMoves why c e b local.None
  -- asked again where the far exchange says that it has none, or was reset; GRA shows a maintenance block to a GRS
  by_uba : (b : LocalBlock) → Standing b → LocalMoves why c (on.uba why) b local.Asked
  by_rsc : (b : LocalBlock) → Standing b → LocalMoves why c on.rsc b local.Asked
  by_grs : (b : LocalBlock) → Standing b → why ≡ Hardware → LocalMoves why c on.grs b local.Asked

-- to what the far block of the type `why` moves
pub data FarMoves (why : BlockType) (ours : Bool) (c : Circuit) : Event → Bool → Type 0 where
  sets : FarMoves why ours c (on.blo why) true
  removes : FarMoves why ours c (on.ubl why) false
  rsc_removes : FarMoves why ours c on.rsc false
  grs_removes : FarMoves why ours c on.grs false
  reset_removes : (e : Event) → Clears c e → FarMoves why ours c e false
  iam_removes : (Barred ours c → ⊥) → FarMoves why ours c on.iam false
  -- the answer to a group reset shows the maintenance blocks
  gra_shows : c.reset ≡ reset.Group → (bit : Bool) → why ≡ Maintenance → FarMoves why ours c (on.gra bit) bit

-- to what the waiting reset moves
pub data ResetMoves (c : Circuit) : Event → Reset → Type 0 where
  waits_for_rlc : c.reset ≢ reset.Group → ResetMoves c on.circuit_reset reset.Single
  waits_for_gra : ResetMoves c on.system_reset reset.Group
  waits_after_t5 : c.call ≡ Releasing → ResetMoves c on.t5 reset.Single
  rlc_comes : c.reset ≡ reset.Single → ResetMoves c on.rlc reset.None
  gra_comes : c.reset ≡ reset.Group → (bit : Bool) → ResetMoves c (on.gra bit) reset.None

-- it moves so, or, where nothing moves it, stays
abbrev pub Becomes : {X : Type 0} → (X → Type 0) → X → X → Type 0
Becomes {X} Moves before after = Moves after ⊎ (((x : X) → Moves x → ⊥) × (after ≡ before))

-- blocks and reset of a circuit before and after an event
pub record BlocksMove (ours : Bool) (e : Event) (c d : Circuit) : Type 0 where
  pub locals : (why : BlockType) → Becomes (LocalMoves why c e (of_type why c.local)) (of_type why c.local) (of_type why d.local)
  pub fars : (why : BlockType) → Becomes (FarMoves why ours c e) (of_type why c.far) (of_type why d.far)
  pub resets : Becomes (ResetMoves c e) c.reset d.reset

-- every accepted operation, at every circuit
abbrev pub AllBlocksMove : Type 0
AllBlocksMove = (t : Config) (room : ℕ) (o : Operation) (lent : Lent) (m : Move) → answered t room o lent ≡ Ok m
    → (k : ℕ) → (placed lent.table k).equipped ≡ true
    → BlocksMove (is_ours t.higher (t.first.0 + k)) (event t.first.0 o k) (placed lent.table k) (placed (table_of m lent.table) k)
