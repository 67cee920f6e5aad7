-- What every operation keeps, over any table.
use Rattle.std.specs.Prelude.{◌≡◌, ℕ, ◌+◌, ◌*◌, ◌<◌, ◌≤◌, Bool, true, false, cond, List, [], ◌∷◌, length, IfOk, Ok, Err, Result, ◌==◌, slice_index_or}
use Rattle.status.specs.Bits.{is_named}
use Rattle.message.specs.Msg.{Msg}
use Rattle.circuit.specs.Changes.{with_reset}
use Rattle.circuit.specs.Circuits.{is_open, is_sound, is_engaged}
use Rattle.circuit.specs.Laws.{Turns, told_of}
use Rattle.circuit.specs.Orders.{on_reset}
use Rattle.circuit.specs.declared.record.Circuit.{Circuit}
use Rattle.circuit.specs.declared.record.Reset.TheVariants as reset
use Rattle.circuit.specs.declared.rules.Rule.{Rule}
use Rattle.words.specs.declared.kinds.Word.{Word}
use Rattle.words.specs.declared.kinds.Word.TheVariants.{Send, Begun, Ended, Alert}
use Rattle.refusal.specs.declared.reasons.Refusal.{Refusal}
use Rattle.supervision.specs.declared.trunk.Config.{Config}
use Rattle.supervision.specs.Lending.{AreRead, Lent, kept, Done}
use Rattle.supervision.specs.Moves.{Move, table_of, words_of}
use Rattle.supervision.specs.Orders.{singly, slots, every_slot, status_of}
use Rattle.supervision.specs.Trunks.{cic_at, placed}
use Rattle.supervision.specs.declared.limits.TheConstants.{OCTETS, SLOTS, WORDS}

-- every record is sound
abbrev pub AllSound : List Circuit → Type 0
AllSound table = (k : ℕ) → is_sound (placed table k) ≡ true

-- the policy's set is exactly the open circuits
abbrev pub SetIsOpen : List Circuit → List Bool → Type 0
SetIsOpen table held = (k : ℕ) → slice_index_or held k false ≡ is_open (placed table k)

-- the begun and ended words of one circuit
abbrev pub about : ℕ → List Word → List Word
about n [] = []
about n (Send place len ∷ ws) = about n ws
about n (Begun way cic ∷ ws) = cond (cic.0 == n) (Begun way cic ∷ about n ws) (about n ws)
about n (Ended cause cic ∷ ws) = cond (cic.0 == n) (Ended cause cic ∷ about n ws) (about n ws)
about n (Alert timer cic ∷ ws) = about n ws

pub record Lawful (t : Config) (m : Move) (before after : Lent) : Type 0 where
  -- the table has as many places
  pub size : length after.table ≡ length before.table
  -- a circuit that is not named is as it was
  pub others : (k : ℕ) → m.named k ≡ false → placed after.table k ≡ placed before.table k
  -- and so is a place that is not equipped
  pub unequipped : (k : ℕ) → (placed before.table k).equipped ≡ false → placed after.table k ≡ placed before.table k
  -- each other circuit is what the rule makes of it
  pub named : (k : ℕ) → m.named k ≡ true → (placed before.table k).equipped ≡ true → placed after.table k ≡ (m.rule k (placed before.table k)).circuit
  -- equipment does not change
  pub equipment : (k : ℕ) → (placed after.table k).equipped ≡ (placed before.table k).equipped
  -- a table of sound records stays one
  pub sound : AllSound before.table → AllSound after.table
  -- what opened is in the policy's set, what closed is not, and each other place is as it was
  pub set : (k : ℕ) → k < length before.held → slice_index_or after.held k false ≡ kept (slice_index_or before.held k false) (is_open (placed before.table k)) (is_open (placed after.table k))
  -- so a set that was exactly the open circuits is so again
  pub opens : SetIsOpen before.table before.held → SetIsOpen after.table after.held
  -- the begun and ended words of each circuit fit its call before and after
  pub turns : (k : ℕ) → k < length before.table → Turns (is_engaged (placed before.table k)) (about (t.first.0 + k) (words_of t m before.table)) (is_engaged (placed after.table k))

-- what an operation keeps, by what the rules answer
abbrev pub Laws : Config → Result Move Refusal → Lent → Lent → Type 0
Laws t (Err e) before after = after ≡ before
Laws t (Ok m) before after = Lawful t m before after

-- what an accepted operation sends is read as it was meant
abbrev pub Readable : Result Move Refusal → Type 0
Readable (Err e) = Unit {0}
Readable (Ok m) = AreRead m.sent

-- what an operation promises, by what the rules answer to what is lent
pub record Outcome (t : Config) (answer : Lent → Result Move Refusal) (r : Result (ℕ × ℕ) Refusal) (before after : Lent) : Type 0 where
  pub done : Done t (answer before) r before after
  pub laws : Laws t (answer before) before after
  -- what is written is within the outputs
  pub within : IfOk r (λ n. (n.0 ≤ length before.words) × (n.1 ≤ length before.octets))
  -- and takes no more than has to be lent
  pub few : IfOk r (λ n. (n.0 ≤ WORDS) × (n.1 ≤ OCTETS))
  -- each message that is sent may be written, and is read as it was meant
  pub read : Readable (answer before)

-- a group order that was accepted
pub record GroupOrder (t : Config) (system mask : ℕ) (rule : Rule) (m : Move) (before after : Lent) : Type 0 where
  -- each named circuit could have had the order alone, is as that would leave it, and is told of as that would tell
  pub alike : (k : ℕ) → slots system mask k ≡ true → k < length before.table → (message : Msg)
      → (one : Move) × (singly t (cic_at t k) rule message before.table ≡ Ok one) × (placed after.table k ≡ placed (table_of one before.table) k)
      × (about (t.first.0 + k) (words_of t m before.table) ≡ about (t.first.0 + k) (words_of t one before.table))
  -- the status of the message names exactly the circuits of the mask
  pub names : (n : ℕ) → n ≤ 30 → is_named 30 (status_of mask) n ≡ slots system mask (system * SLOTS + 1 + n)

abbrev pub GroupLaws : Config → ℕ → ℕ → Rule → Result Move Refusal → Lent → Lent → Type 0
GroupLaws t system mask rule (Err e) before after = after ≡ before
GroupLaws t system mask rule (Ok m) before after = GroupOrder t system mask rule m before after

-- a group reset leaves each circuit of the PCM system as a circuit reset does, but that the group's answer is waited for,
-- and tells of it as that does
abbrev pub ResetAlike : Config → ℕ → Result Move Refusal → Lent → Lent → Type 0
ResetAlike t system (Err e) before after = after ≡ before
ResetAlike t system (Ok m) before after =
    (k : ℕ) → slots system every_slot k ≡ true → k < length before.table → (placed before.table k).equipped ≡ true
    → (placed after.table k ≡ with_reset reset.Group (on_reset reset.Single (placed before.table k)).circuit)
    × (about (t.first.0 + k) (words_of t m before.table) ≡ told_of (cic_at t k) (on_reset reset.Single (placed before.table k)))
