-- The life of a call: from which call, by which event, to which call, and what is told.
use Rattle.std.specs.Prelude.{◌≡◌, ◌≢◌, ◌⊎◌, ℕ, ◌+◌, ◌<◌, ◌%◌, Bool, true, false, List, [], ◌∷◌, length, Ok, ◌==◌}
use Rattle.status.specs.declared.cic.Cic.{Cic}
use Rattle.message.specs.declared.kinds.BlockType.{BlockType}
use Rattle.message.specs.declared.kinds.BlockType.TheVariants.{Maintenance, Hardware}
use Rattle.circuit.specs.declared.record.Call.{Call}
use Rattle.circuit.specs.declared.record.Call.TheVariants.{Idle, Calling, Talking, Releasing}
use Rattle.circuit.specs.declared.record.LocalBlock.TheVariants as local
use Rattle.circuit.specs.declared.record.Reset.TheVariants as reset
use Rattle.circuit.specs.declared.record.CauseOctets.{CauseOctets}
use Rattle.circuit.specs.declared.record.Circuit.{Circuit}
use Rattle.words.specs.declared.kinds.Direction.TheVariants.{Outgoing, Incoming}
use Rattle.words.specs.declared.kinds.EndCause.TheVariants as end
use Rattle.words.specs.declared.kinds.Word.{Word}
use Rattle.words.specs.declared.kinds.Word.TheVariants.{Begun, Ended}
use Rattle.supervision.specs.Laws.{about}
use Rattle.supervision.specs.Lending.{Lent}
use Rattle.supervision.specs.Moves.{Move, table_of, words_of}
use Rattle.supervision.specs.Trunks.{cic_at, placed}
use Rattle.supervision.specs.declared.trunk.Config.{Config}
use Rattle.laws.specs.Events as on
use Rattle.laws.specs.Events.{Event, Operation, answered, event}

-- calling or talking
abbrev pub Connected : Call → Type 0
Connected call = (call ≡ Calling) ⊎ (call ≡ Talking)

-- with the higher point code we control the even CICs, otherwise the odd ones
abbrev pub is_ours : Bool → ℕ → Bool
is_ours true cic = cic % 2 == 0
is_ours false cic = cic % 2 == 1

-- equipped, idle, without a waiting reset and without any block
pub record Open (c : Circuit) : Type 0 where
  pub equipped : c.equipped ≡ true
  pub idle : c.call ≡ Idle
  pub no_reset : c.reset ≡ reset.None
  pub no_local : (c.local.maintenance ≡ local.None) × (c.local.hardware ≡ local.None)
  pub no_far : (c.far.maintenance ≡ false) × (c.far.hardware ≡ false)

-- why an IAM does nothing
pub data Barred (ours : Bool) (c : Circuit) : Type 0 where
  by_reset : c.reset ≢ reset.None → Barred ours c
  by_hardware_block : c.local.hardware ≢ local.None → Barred ours c
  by_maintenance_block : c.local.maintenance ≡ local.Set → Barred ours c
  by_talking : c.call ≡ Talking → Barred ours c
  by_releasing : c.call ≡ Releasing → Barred ours c
  by_control : c.call ≡ Calling → ours ≡ true → Barred ours c

-- a reset of either side
pub data Resets : Event → Type 0 where
  circuit_reset : Resets on.circuit_reset
  system_reset : Resets on.system_reset
  rsc : Resets on.rsc
  grs : Resets on.grs

-- a hardware block of either side
pub data HardwareBlocks : Event → Type 0 where
  hardware_blocked : HardwareBlocks (on.blocked Hardware)
  hardware_blo : HardwareBlocks (on.blo Hardware)

-- an event that leaves the call as it is
pub data Untouched (ours : Bool) (c : Circuit) : Event → Type 0 where
  barred : Barred ours c → Untouched ours c on.iam
  not_calling : c.call ≢ Calling → Untouched ours c on.progress
  not_connected : (Connected c.call → ⊥) → Untouched ours c on.rel
  of_reset : c.reset ≡ reset.Single → Untouched ours c on.rlc
  of_idle : c.call ≡ Idle → Untouched ours c on.rlc
  not_reset : c.call ≡ Idle → (e : Event) → Resets e → Untouched ours c e
  not_blocked : c.call ≡ Idle → (e : Event) → HardwareBlocks e → Untouched ours c e
  not_given_up : c.call ≢ Releasing → Untouched ours c on.t5
  blocked : Untouched ours c (on.blocked Maintenance)
  unblocked : (why : BlockType) → Untouched ours c (on.unblocked why)
  blo : Untouched ours c (on.blo Maintenance)
  ubl : (why : BlockType) → Untouched ours c (on.ubl why)
  bla : (why : BlockType) → Untouched ours c (on.bla why)
  uba : (why : BlockType) → Untouched ours c (on.uba why)
  gra : (bit : Bool) → Untouched ours c (on.gra bit)
  nothing : Untouched ours c on.nothing

-- what becomes of the call of c, and what is told
pub data Lives (ours : Bool) (cic : Cic) (c : Circuit) : Event → List Word → Call → Type 0 where
  -- a call begins by a seizure of an open circuit, or by an IAM that is not barred
  seizes : Open c → Lives ours cic c on.seized (Begun Outgoing cic ∷ []) Calling
  arrives : (Barred ours c → ⊥) → c.call ≡ Idle → Lives ours cic c on.iam (Begun Incoming cic ∷ []) Talking
  -- dual seizure: ours is ended, and theirs begins
  gives_way : (Barred ours c → ⊥) → c.call ≡ Calling → Lives ours cic c on.iam (Ended end.DualSeizure cic ∷ Begun Incoming cic ∷ []) Talking
  -- the far exchange was heard
  progresses : c.call ≡ Calling → Lives ours cic c on.progress [] Talking
  -- we release, or answer an RLC that nothing waits for by a release
  releases : Connected c.call → (cause : CauseOctets) → Lives ours cic c (on.released cause) [] Releasing
  is_unexpected : Connected c.call → c.reset ≢ reset.Single → Lives ours cic c on.rlc [] Releasing
  -- a call ends, by its cause
  is_released : Connected c.call → Lives ours cic c on.rel (Ended end.ReleaseReceived cic ∷ []) Idle
  completes : c.call ≡ Releasing → c.reset ≢ reset.Single → Lives ours cic c on.rlc (Ended end.ReleaseComplete cic ∷ []) Idle
  is_reset : c.call ≢ Idle → (e : Event) → Resets e → Lives ours cic c e (Ended end.Reset cic ∷ []) Idle
  is_given_up : c.call ≡ Releasing → Lives ours cic c on.t5 (Ended end.Reset cic ∷ []) Idle
  is_blocked : c.call ≢ Idle → (e : Event) → HardwareBlocks e → Lives ours cic c e (Ended end.HardwareBlock cic ∷ []) Idle
  -- nothing else touches a call
  goes_on : (e : Event) → Untouched ours c e → Lives ours cic c e [] c.call

-- the cause that is kept changes only by our release, ordered or in answer to an unexpected RLC, to what is sent
pub data Keeps (c : Circuit) : Event → CauseOctets → Type 0 where
  of_release : (cause : CauseOctets) → Keeps c (on.released cause) cause
  of_unexpected : Connected c.call → c.reset ≢ reset.Single → Keeps c on.rlc (record { location_octet = 0x87; value_octet = 0x9f })
  of_rlc : (Connected c.call → c.reset ≡ reset.Single) → Keeps c on.rlc c.cause
  of_others : (e : Event) → e ≢ on.rlc → ((cause : CauseOctets) → e ≢ on.released cause) → Keeps c e c.cause

-- every accepted operation, at every circuit
abbrev pub CallsLive : Type 0
CallsLive = (t : Config) (room : ℕ) (o : Operation) (lent : Lent) (m : Move) → answered t room o lent ≡ Ok m
    → (k : ℕ) → (placed lent.table k).equipped ≡ true
    → Lives (is_ours t.higher (t.first.0 + k)) (cic_at t k) (placed lent.table k) (event t.first.0 o k)
    (about (t.first.0 + k) (words_of t m lent.table)) (placed (table_of m lent.table) k).call

abbrev pub CausesKept : Type 0
CausesKept = (t : Config) (room : ℕ) (o : Operation) (lent : Lent) (m : Move) → answered t room o lent ≡ Ok m
    → (k : ℕ) → (placed lent.table k).equipped ≡ true
    → Keeps (placed lent.table k) (event t.first.0 o k) (placed (table_of m lent.table) k).cause

-- what is said decides: one event has one outcome
abbrev pub CallsDecided : Type 0
CallsDecided = (ours : Bool) (cic : Cic) (c : Circuit) (e : Event) (told told' : List Word) (call call' : Call)
    → Lives ours cic c e told call → Lives ours cic c e told' call' → (told ≡ told') × (call ≡ call')

-- a place that is not equipped stays as it is, and nothing is told of it
abbrev pub UnequippedStay : Type 0
UnequippedStay = (t : Config) (m : Move) (table : List Circuit) (k : ℕ) → (placed table k).equipped ≡ false
    → (placed (table_of m table) k ≡ placed table k) × (k < length table → about (t.first.0 + k) (words_of t m table) ≡ [])
