-- Seizing: the policy chooses, and the choice has to be open.
use Rattle.std.specs.Prelude.{◌↔◌, ◌≡◌, ℕ, ◌+◌, true, not, ◌||◌, List, length, is_ok, Some, None, Ok, Err, Option, Result, nat_eq, nat_lt}
use Rattle.policy.specs.Sets.{Chosen}
use Rattle.policy.specs.declared.interface.Place.{Place}
use Rattle.policy.specs.declared.interface.Update.{Update}
use Rattle.message.specs.Msg.{call}
use Rattle.message.specs.declared.kinds.CallKind.TheVariants.{Iam}
use Rattle.circuit.specs.Circuits.{is_open}
use Rattle.circuit.specs.declared.record.Circuit.{Circuit}
use Rattle.circuit.specs.declared.rules.Rule.TheVariants.{Seize}
use Rattle.refusal.specs.declared.reasons.Refusal.{Refusal}
use Rattle.refusal.specs.declared.reasons.Refusal.TheVariants.{Argument, NoneOpen, Choice}
use Rattle.supervision.specs.declared.trunk.Config.{Config}
use Rattle.supervision.specs.Laws.{SetIsOpen, Outcome}
use Rattle.supervision.specs.Trunks.{placed}
use Rattle.supervision.specs.Lending.{Lent}
use Rattle.supervision.specs.Moves.{Move}
use Rattle.supervision.specs.Orders.{admitted, ordered}
use Rattle.supervision.specs.Telling.{Tells}
use Rattle.refusal.specs.Refusals.{unless, and_then}

-- what is refused before the policy is asked: the body has 1 to 256 octets
abbrev pub may_ask : Config → ℕ → List ℕ → Lent → Result (Unit {0}) Refusal
may_ask t room body lent =
    and_then (admitted t room lent) (λ _. unless (nat_lt (length body) 1 || nat_lt 256 (length body)) Argument (Ok tt))

-- the place that a choice gives
abbrev pub seizable : Option Place → List Circuit → Result Place Refusal
seizable None table = Err NoneOpen
seizable (Some place) table = unless (not (is_open (placed table place.0))) Choice (Ok place)

-- the call begins there, and IAM is sent
abbrev pub seizing : Config → List ℕ → Option Place → List Circuit → Result Move Refusal
seizing t body choice table =
    and_then (seizable choice table)
    (λ place. Ok (ordered (λ k. nat_eq k place.0) Seize (call (t.first.0 + place.0) Iam body)))

-- a seizure by a policy: which member it names is free
pub record Seizure {P : Type 0} (picks : Option Place → P → P → Type 0) (obeys : Update → P → P → Type 0) (t : Config) (body : List ℕ) (r : Result (ℕ × ℕ) Refusal) (before after : Lent) (old new : P) : Type 0 where
  pub choice : Option Place
  -- it is a member, or none exactly if there is none
  pub chosen : Chosen before.held choice
  -- the policy is asked once, and then told what closed
  pub asked : (at : P) × picks choice old at × Tells obeys before.table after.table at new
  pub outcome : Outcome t (λ b. seizing t body choice b.table) r before after
  -- where the set is the open circuits, a seizure is accepted exactly if some circuit is open
  pub fair : SetIsOpen before.table before.held → ((is_ok r ≡ true) ↔ ((k : ℕ) × (is_open (placed before.table k) ≡ true)))

abbrev pub SeizedIf : {P : Type 0} → (Option Place → P → P → Type 0) → (Update → P → P → Type 0) → Config → List ℕ → Result (Unit {0}) Refusal → Result (ℕ × ℕ) Refusal → Lent → Lent → P → P → Type 0
SeizedIf picks obeys t body (Err e) r before after old new = (r ≡ Err e) × (after ≡ before) × (new ≡ old)
SeizedIf picks obeys t body (Ok u) r before after old new = Seizure picks obeys t body r before after old new

abbrev pub Seized : {P : Type 0} → (Option Place → P → P → Type 0) → (Update → P → P → Type 0) → Config → ℕ → List ℕ → Result (ℕ × ℕ) Refusal → Lent → Lent → P → P → Type 0
Seized picks obeys t room body r before after old new = SeizedIf picks obeys t body (may_ask t room body before) r before after old new
