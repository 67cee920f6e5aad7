-- What an exchange's operations do.
use Rattle.std.specs.Prelude.{◌≡◌, ℕ, Bool, List, map, Option, Result, Ok, Err}
use Rattle.exchange.specs.declared.exchange.Exchange.{Exchange}
use Rattle.exchange.specs.Exchange.{lends, counted, told_by, sent_by, events_by, Same}
use Rattle.exchange.specs.Reports.{reports}
use Rattle.policy.specs.declared.interface.Place.{Place}
use Rattle.policy.specs.declared.interface.Update.{Update}
use Rattle.refusal.specs.declared.reasons.Refusal.{Refusal}
use Rattle.words.specs.Words.{number_of}
use Rattle.supervision.specs.Answering.{answer}
use Rattle.supervision.specs.declared.ordering.Order.{Order}
use Rattle.supervision.specs.declared.trunk.Config.{Config}
use Rattle.supervision.specs.Laws.{Outcome}
use Rattle.supervision.specs.Lending.{Lent}
use Rattle.supervision.specs.Moves.{Move, words_of, octets_of}
use Rattle.supervision.specs.Ordering.{Ordered, meant}
use Rattle.supervision.specs.Telling.{Tells}

-- what is told of a move: its words, its octets, and that they read as what it reports
pub record Told {P : Type 0} (m : Move) (old new : Exchange P) : Type 0 where
  pub words : told_by new ≡ map number_of (words_of old.trunk.config m old.table.now)
  pub octets : sent_by new ≡ octets_of m
  pub events : events_by new ≡ reports old.trunk.config m old.table.now

-- the same by what the rules answer; nothing new is told where they refuse
abbrev pub IsTold : {P : Type 0} → Result Move Refusal → Exchange P → Exchange P → Type 0
IsTold (Err e) old new = (told_by new ≡ told_by old) × (sent_by new ≡ sent_by old)
IsTold (Ok m) old new = Told m old new

-- an operation ends as the rules answer, and the policy is told just that
pub record Does {P : Type 0} (held : P → List Bool) (obeys : Update → P → P → Type 0) (answer : Config → Lent → Result Move Refusal) (r : Result (Unit {0}) Refusal) (old new : Exchange P) : Type 0 where
  pub outcome : Outcome old.trunk.config (answer old.trunk.config) (counted r new) (lends held old) (lends held new)
  pub policy : Tells obeys old.table.now new.table.now old.policy.now new.policy.now
  pub told : IsTold (answer old.trunk.config (lends held old)) old new
  pub same : Same old new

-- an order ends as the rules answer to it, a seizure with the choice of the policy
pub record Orders {P : Type 0} (held : P → List Bool) (picks : Option Place → P → P → Type 0) (obeys : Update → P → P → Type 0) (room : ℕ) (o : Order) (r : Result (Unit {0}) Refusal) (old new : Exchange P) : Type 0 where
  pub ordered : Ordered picks obeys old.trunk.config room o (counted r new) (lends held old) (lends held new) old.policy.now new.policy.now
  pub told : IsTold (answer old.trunk.config room (meant ordered.choice o) (lends held old)) old new
  pub same : Same old new
