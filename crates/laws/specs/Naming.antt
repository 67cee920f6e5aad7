-- Which circuits our statuses and group messages name.
use Rattle.std.specs.Prelude.{◌↔◌, ◌≡◌, ℕ, zero, suc, ◌+◌, ◌*◌, ◌<◌, ◌≤◌, Bool, true, List, [], ◌∷◌, ◌++◌, length}
use Rattle.status.specs.Bits.{bit_at, octets_for}
use Rattle.message.specs.Meaning.{indicator_of}
use Rattle.message.specs.Msg.{Msg, grouped}
use Rattle.message.specs.declared.kinds.BlockType.{BlockType}
use Rattle.message.specs.declared.kinds.Grouped.{Grouped}
use Rattle.circuit.specs.declared.record.Circuit.{Circuit}
use Rattle.supervision.specs.Groups.{groups, status_by}
use Rattle.supervision.specs.Trunks.{placed}
use Rattle.supervision.specs.declared.trunk.Config.{Config}
use Rattle.supervision.specs.declared.limits.TheConstants.{SLOTS}

-- bit n of a status is set exactly where P holds of n, within the range; the others are 0
pub record Tells (P : ℕ → Type 0) (r : ℕ) (status : List ℕ) : Type 0 where
  pub size : length status ≡ octets_for r
  pub bits : (n : ℕ) → n ≤ r → ((bit_at status n ≡ 1) ↔ (P n))
  pub spare : (n : ℕ) → r < n → bit_at status n ≡ 0

-- a group message of ours, from time slot 1 with range 30: it names exactly the circuits of the PCM system that are as P says
pub record Names (t : Config) (what : Grouped) (why : BlockType) (P : ℕ → Circuit → Type 0) (T : List Circuit) (system : ℕ) (message : Msg) : Type 0 where
  pub status : List ℕ
  pub is : message ≡ grouped (t.first.0 + system * SLOTS + 1) what (indicator_of why) 30 status
  pub tells : Tells (λ n. P (system * SLOTS + 1 + n) (placed T (system * SLOTS + 1 + n))) 30 status

-- some circuit of a PCM system is so
pub record Concerned (P : ℕ → Circuit → Type 0) (T : List Circuit) (system : ℕ) : Type 0 where
  pub slot : ℕ
  pub is_slot : (1 ≤ slot) × (slot ≤ 31)
  pub is_so : P (system * SLOTS + slot) (placed T (system * SLOTS + slot))

-- one message for each PCM system concerned, and none for another, rising
pub data EachNames (t : Config) (what : Grouped) (why : BlockType) (P : ℕ → Circuit → Type 0) (T : List Circuit) : ℕ → List Msg → Type 0 where
  none : EachNames t what why P T zero []
  concerned : (system : ℕ) (ms : List Msg) (message : Msg) → EachNames t what why P T system ms → Concerned P T system → Names t what why P T system message
      → EachNames t what why P T (suc system) (ms ++ message ∷ [])
  unconcerned : (system : ℕ) (ms : List Msg) → EachNames t what why P T system ms → (Concerned P T system → ⊥) → EachNames t what why P T (suc system) ms

abbrev pub StatusesTell : Type 0
StatusesTell = (q : ℕ → Bool) (r : ℕ) → Tells (λ n. q n ≡ true) r (status_by q r)

abbrev pub GroupsName : Type 0
GroupsName = (t : Config) (what : Grouped) (why : BlockType) (p : ℕ → Circuit → Bool) (T : List Circuit) → EachNames t what why (λ k x. p k x ≡ true) T t.systems (groups t what why p T)
