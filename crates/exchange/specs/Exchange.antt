-- An exchange, and what it lends and keeps.
use Rattle.std.specs.Prelude.{◌≡◌, ℕ, Bool, List, map, take, Result, Ok, Err}
use Rattle.exchange.specs.declared.exchange.Exchange.{Exchange}
use Rattle.exchange.specs.Events.{Meant, says}
use Rattle.refusal.specs.declared.reasons.Refusal.{Refusal}
use Rattle.supervision.specs.Lending.{Lent, lent}

-- what an exchange lends to an operation
abbrev pub lends : {P : Type 0} → (P → List Bool) → Exchange P → Lent
lends held x = lent x.table.now (held x.policy.now) x.words.now x.octets.now

-- the same trunk, and the same table, policy and outputs are lent
pub record Same {P : Type 0} (old new : Exchange P) : Type 0 where
  pub trunk : new.trunk ≡ old.trunk
  pub table : new.table.ghost_name ≡ old.table.ghost_name
  pub policy : new.policy.ghost_name ≡ old.policy.ghost_name
  pub words : new.words.ghost_name ≡ old.words.ghost_name
  pub octets : new.octets.ghost_name ≡ old.octets.ghost_name

-- the words and the octets of the last accepted operation, and what they tell
abbrev pub told_by : {P : Type 0} → Exchange P → List ℕ
told_by x = take x.told x.words.now

abbrev pub sent_by : {P : Type 0} → Exchange P → List ℕ
sent_by x = take x.sent x.octets.now

abbrev pub events_by : {P : Type 0} → Exchange P → List Meant
events_by x = map (says (sent_by x)) (told_by x)

-- how an operation ended, with its counts
abbrev pub counted : {P : Type 0} → Result (Unit {0}) Refusal → Exchange P → Result (ℕ × ℕ) Refusal
counted (Err e) new = Err e
counted (Ok _) new = Ok (new.told, new.sent)
