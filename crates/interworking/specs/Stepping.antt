-- What a step of either exchange does.
use Rattle.std.specs.Prelude.{◌≡◌, ℕ, not, ◌||◌, List, [], ◌∷◌, ◌++◌, length, Ok, Err, Option, Result, ◌==◌}
use Rattle.status.specs.declared.cic.Cic.{Cic}
use Rattle.message.specs.Encode.{encode}
use Rattle.message.specs.Msg.{call}
use Rattle.message.specs.declared.kinds.CallKind.{CallKind}
use Rattle.policy.specs.declared.interface.Place.{Place}
use Rattle.circuit.specs.declared.record.Circuit.{Circuit}
use Rattle.refusal.specs.Refusals.{unless}
use Rattle.refusal.specs.declared.reasons.Refusal.{Refusal}
use Rattle.refusal.specs.declared.reasons.Refusal.TheVariants.{Argument, Address}
use Rattle.supervision.specs.Answering.{answer, ByPolicy}
use Rattle.supervision.specs.Expiring.{expiring}
use Rattle.supervision.specs.Lending.{Lent}
use Rattle.supervision.specs.Moves.{Move}
use Rattle.supervision.specs.Ordering.{meant}
use Rattle.supervision.specs.Orders.{circuit_of}
use Rattle.supervision.specs.Receiving.{receiving}
use Rattle.supervision.specs.declared.ordering.Order.{Order}
use Rattle.supervision.specs.declared.trunk.Config.{Config}
use Rattle.agreement.specs.Runs.{of_host}
use Rattle.interworking.specs.Exchanges.{Exchange, Moved, lends, with_line}
use Rattle.interworking.specs.declared.fault.Fault.{Fault}
use Rattle.interworking.specs.declared.fault.Fault.TheVariants.{Refused, Empty, Memory}
use Rattle.interworking.specs.declared.step.Side.{Side}
use Rattle.interworking.specs.declared.step.Side.TheVariants.{Near, Far}
use Rattle.interworking.specs.declared.step.Step.{Step}
use Rattle.interworking.specs.declared.step.Step.TheVariants.{Order as Ordering, Expire, Receive, Call}

-- what an operation comes to: refused, or where memory is wanting, nothing changes
abbrev pub Comes : (Lent → Result Move Refusal) → Result ℕ Fault → Exchange → Exchange → Type 0
Comes rules (Ok n) x after = Moved rules n x after
Comes rules (Err (Refused e)) x after = (rules (lends x) ≡ Err e) × (after ≡ x)
Comes rules (Err Empty) x after = ⊥
Comes rules (Err Memory) x after = after ≡ x

-- an order of the host, a seizure with a choice that the policy's set allows
pub record Ordered (o : Order) (r : Result ℕ Fault) (x after : Exchange) : Type 0 where
  pub choice : Option Place
  pub by_policy : ByPolicy x.held (meant choice o)
  pub comes : Comes (answer x.config (length x.held) (meant choice o)) r x after

-- the front message of the line into an exchange: it is taken off only if it is accepted
abbrev pub Received : Result ℕ Fault → Exchange → List (List ℕ) → Exchange → List (List ℕ) → Type 0
Received (Ok n) x into after left = (front : List ℕ) × (into ≡ front ∷ left) × Moved (receiving x.config (length x.held) front) n x after
Received (Err (Refused e)) x into after left =
    ((front : List ℕ) × (rest : List (List ℕ)) × (into ≡ front ∷ rest) × (receiving x.config (length x.held) front (lends x) ≡ Err e))
    × (after ≡ x) × (left ≡ into)
Received (Err Empty) x into after left = (into ≡ []) × (after ≡ x) × (left ≡ into)
Received (Err Memory) x into after left = (after ≡ x) × (left ≡ into)

-- a host sends ACM, CON, ANM or CPG, with a body, for an equipped circuit
abbrev pub calling : Config → Cic → CallKind → List ℕ → List Circuit → Result (Unit {0}) Refusal
calling t cic kind body table =
    unless (not (of_host kind) || length body == 0) Argument
    (unless (not (circuit_of t cic table).equipped) Address (Ok tt))

abbrev pub Called : Cic → CallKind → List ℕ → Result ℕ Fault → Exchange → Exchange → Type 0
Called cic kind body (Ok n) x after =
    (calling x.config cic kind body x.table ≡ Ok tt) × (n ≡ 0)
    × (after ≡ with_line (x.line ++ encode (call cic.0 kind body) ∷ []) x)
Called cic kind body (Err (Refused e)) x after = (calling x.config cic kind body x.table ≡ Err e) × (after ≡ x)
Called cic kind body (Err Empty) x after = ⊥
Called cic kind body (Err Memory) x after = after ≡ x

-- a step of one exchange, and the other one: of that only the line may change, by the message that is taken off
abbrev pub Steps : Step → Result ℕ Fault → Exchange → Exchange → Exchange → Exchange → Type 0
Steps (Ordering o) r x other after other' = Ordered o r x after × (other' ≡ other)
Steps (Expire timer at kind) r x other after other' = Comes (expiring x.config (length x.held) timer at kind) r x after × (other' ≡ other)
Steps Receive r x other after other' = Received r x other.line after other'.line × (other' ≡ with_line other'.line other)
Steps (Call cic kind body) r x other after other' = Called cic kind body.now r x after × (other' ≡ other)

-- a step of either
abbrev pub Stepped : Side → Step → Result ℕ Fault → Exchange → Exchange → Exchange → Exchange → Type 0
Stepped Near step r a b a' b' = Steps step r a b a' b'
Stepped Far step r a b a' b' = Steps step r b a b' a'

-- steps in a row, each of them accepted or not
abbrev pub Ran : List (Side × Step) → Exchange → Exchange → Exchange → Exchange → Type 0
Ran [] a b a' b' = (a' ≡ a) × (b' ≡ b)
Ran (s ∷ ss) a b a' b' =
    (r : Result ℕ Fault) × (x : Exchange) × (y : Exchange) × Stepped s.0 s.1 r a b x y × Ran ss x y a' b'
