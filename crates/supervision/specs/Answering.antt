-- The orders of our side, and what the rules answer to each.
use Rattle.std.specs.Prelude.{ℕ, Bool, List, Option, Result}
use Rattle.status.specs.declared.cic.Cic.{Cic}
use Rattle.policy.specs.Sets.{Chosen}
use Rattle.policy.specs.declared.interface.Place.{Place}
use Rattle.refusal.specs.declared.reasons.Refusal.{Refusal}
use Rattle.refusal.specs.Refusals.{and_then}
use Rattle.supervision.specs.declared.trunk.Config.{Config}
use Rattle.supervision.specs.Lending.{Lent}
use Rattle.supervision.specs.Moves.{Move}
use Rattle.supervision.specs.Orders.{blocking, unblocking, resetting, releasing, group_blocking, group_unblocking, group_resetting}
use Rattle.supervision.specs.Seizing.{may_ask, seizing}

-- an order with all that it is given; a seizure also with what the policy chose
pub data Order : Type 0 where
  -- the body of the IAM
  seize : List ℕ → Option Place → Order
  -- the location and the value of the cause
  release : Cic → ℕ → ℕ → Order
  block unblock reset : Cic → Order
  -- the type, the PCM system and the mask
  group_block group_unblock : ℕ → ℕ → ℕ → Order
  group_reset : ℕ → Order

abbrev pub answer : Config → ℕ → Order → Lent → Result Move Refusal
answer t room (seize body choice) lent = and_then (may_ask t room body lent) (λ _. seizing t body choice lent.table)
answer t room (release cic location value) lent = releasing t room cic location value lent
answer t room (block cic) lent = blocking t room cic lent
answer t room (unblock cic) lent = unblocking t room cic lent
answer t room (reset cic) lent = resetting t room cic lent
answer t room (group_block kind system mask) lent = group_blocking t room kind system mask lent
answer t room (group_unblock kind system mask) lent = group_unblocking t room kind system mask lent
answer t room (group_reset system) lent = group_resetting t room system lent

-- what a policy with this set may have chosen: a member, or none exactly if there is none; other orders ask for no choice
abbrev pub ByPolicy : List Bool → Order → Type 0
ByPolicy held (seize body choice) = Chosen held choice
ByPolicy held (release cic location value) = Unit {0}
ByPolicy held (block cic) = Unit {0}
ByPolicy held (unblock cic) = Unit {0}
ByPolicy held (reset cic) = Unit {0}
ByPolicy held (group_block kind system mask) = Unit {0}
ByPolicy held (group_unblock kind system mask) = Unit {0}
ByPolicy held (group_reset system) = Unit {0}
