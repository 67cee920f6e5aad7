-- What any order of our side does.
use Rattle.std.specs.Prelude.{◌≡◌, ◌↔◌, ℕ, Bool, true, false, is_ok, Option, Result}
use Rattle.circuit.specs.Circuits.{is_open}
use Rattle.circuit.specs.declared.rules.Rule.TheVariants as rule
use Rattle.policy.specs.declared.interface.Place.{Place}
use Rattle.policy.specs.declared.interface.Update.{Update}
use Rattle.refusal.specs.declared.reasons.Refusal.{Refusal}
use Rattle.supervision.specs.Answering as rules
use Rattle.supervision.specs.Answering.{answer, ByPolicy}
use Rattle.supervision.specs.declared.ordering.Order.{Order}
use Rattle.supervision.specs.declared.ordering.Order.TheVariants.{Seize, Release, Block, Unblock, Reset, GroupBlock, GroupUnblock, GroupReset}
use Rattle.supervision.specs.declared.trunk.Config.{Config}
use Rattle.supervision.specs.Laws.{GroupLaws, Outcome, ResetAlike, SetIsOpen}
use Rattle.supervision.specs.Lending.{Lent}
use Rattle.supervision.specs.Orders.{group_blocking, group_resetting, group_unblocking, why_of}
use Rattle.supervision.specs.Seizing.{may_ask}
use Rattle.supervision.specs.Telling.{Tells}
use Rattle.supervision.specs.Trunks.{placed}

-- an order as the rules know it, a seizure with what the policy chose
abbrev pub meant : Option Place → Order → rules.Order
meant choice (Seize body) = rules.seize body.now choice
meant choice (Release cic location value) = rules.release cic location value
meant choice (Block cic) = rules.block cic
meant choice (Unblock cic) = rules.unblock cic
meant choice (Reset cic) = rules.reset cic
meant choice (GroupBlock kind system mask) = rules.group_block kind system mask
meant choice (GroupUnblock kind system mask) = rules.group_unblock kind system mask
meant choice (GroupReset system) = rules.group_reset system

-- whether the policy is asked for a place
abbrev pub asks : Config → ℕ → Order → Lent → Bool
asks t room (Seize body) before = is_ok (may_ask t room body.now before)
asks t room o before = false

-- the policy is told what opened and what closed, once it has named its choice if it is asked
abbrev pub ToldIf : {P : Type 0} → (Option Place → P → P → Type 0) → (Update → P → P → Type 0) → Bool → Option Place → Lent → Lent → P → P → Type 0
ToldIf picks obeys false choice before after old new = Tells obeys before.table after.table old new
ToldIf {P} picks obeys true choice before after old new = (at : P) × picks choice old at × Tells obeys before.table after.table at new

-- where the policy is asked, and its set is the open circuits, a seizure is accepted exactly if some circuit is open
abbrev pub FairIf : Bool → Result (ℕ × ℕ) Refusal → Lent → Type 0
FairIf false r before = Unit {0}
FairIf true r before = SetIsOpen before.table before.held → ((is_ok r ≡ true) ↔ ((k : ℕ) × (is_open (placed before.table k) ≡ true)))

-- what an order for a group does to a circuit that it names is what the order for that circuit alone does
abbrev pub AsAlone : Config → ℕ → Order → Lent → Lent → Type 0
AsAlone t room (GroupBlock kind system mask) before after =
    GroupLaws t system mask (rule.Block (why_of kind)) (group_blocking t room kind system mask before) before after
AsAlone t room (GroupUnblock kind system mask) before after =
    GroupLaws t system mask (rule.Unblock (why_of kind)) (group_unblocking t room kind system mask before) before after
AsAlone t room (GroupReset system) before after = ResetAlike t system (group_resetting t room system before) before after
AsAlone t room o before after = Unit {0}

-- an order that is done, or refused, with a choice that the policy's set allows
pub record Ordered {P : Type 0} (picks : Option Place → P → P → Type 0) (obeys : Update → P → P → Type 0) (t : Config) (room : ℕ) (o : Order) (r : Result (ℕ × ℕ) Refusal) (before after : Lent) (old new : P) : Type 0 where
  pub choice : Option Place
  pub by_policy : ByPolicy before.held (meant choice o)
  pub outcome : Outcome t (answer t room (meant choice o)) r before after
  pub told : ToldIf picks obeys (asks t room o before) choice before after old new
  pub fair : FairIf (asks t room o before) r before
  pub alone : AsAlone t room o before after
