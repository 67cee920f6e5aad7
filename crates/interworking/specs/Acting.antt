-- What the operations of a trunk make of an exchange.
use Rattle.std.specs.Prelude.{ℕ, Bool, List, length, Option, Result}
use Rattle.exchange.specs.Exchange.{lends, Same}
use Rattle.exchange.specs.declared.exchange.Exchange.{Exchange as Lending}
use Rattle.policy.specs.declared.interface.Place.{Place}
use Rattle.refusal.specs.declared.reasons.Refusal.{Refusal}
use Rattle.supervision.specs.Answering.{answer, ByPolicy}
use Rattle.supervision.specs.Expiring.{expiring}
use Rattle.supervision.specs.Laws.{Outcome}
use Rattle.supervision.specs.Lending.{Lent}
use Rattle.supervision.specs.Moves.{Move}
use Rattle.supervision.specs.Ordering.{meant}
use Rattle.supervision.specs.Receiving.{receiving}
use Rattle.supervision.specs.declared.trunk.Config.{Config}
use Rattle.interworking.specs.Exchanges.{Exchange}
use Rattle.interworking.specs.Stepping.{Comes}
use Rattle.interworking.specs.declared.fault.Fault.{Fault}
use Rattle.interworking.specs.declared.step.Task.{Task}
use Rattle.interworking.specs.declared.step.Task.TheVariants.{Order, Expire, Receive}

-- what the rules answer to it, with what the policy chose
abbrev pub rules_of : Config → ℕ → Option Place → Task → Lent → Result Move Refusal
rules_of t room choice (Order o) = answer t room (meant choice o)
rules_of t room choice (Expire timer at kind) = expiring t room timer at kind
rules_of t room choice (Receive octets) = receiving t room octets.now

-- a choice that the policy's set allows
abbrev pub Allowed : List Bool → Option Place → Task → Type 0
Allowed held choice (Order o) = ByPolicy held (meant choice o)
Allowed held choice task = Unit {0}

pub record Acted (task : Task) (r : Result ℕ Fault) (x after : Exchange) : Type 0 where
  pub choice : Option Place
  pub by_policy : Allowed x.held choice task
  pub comes : Comes (rules_of x.config (length x.held) choice task) r x after

-- the same of what is lent
pub record Performed (t : Config) (room : ℕ) (task : Task) (r : Result (ℕ × ℕ) Refusal) (before after : Lent) : Type 0 where
  pub choice : Option Place
  pub by_policy : Allowed before.held choice task
  pub outcome : Outcome t (rules_of t room choice task) r before after

-- the same of an exchange to which they are lent
pub record Gives {P : Type 0} (held : P → List Bool) (room : ℕ) (task : Task) (r : Result (ℕ × ℕ) Refusal) (old new : Lending P) : Type 0 where
  pub performed : Performed old.trunk.config room task r (lends held old) (lends held new)
  pub same : Same old new
