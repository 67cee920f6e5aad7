-- Receiving until both lines are empty.
use Rattle.std.specs.Prelude.{◌≡◌, ℕ, ◌+◌, ◌≤◌, List, [], Ok, Err, Result}
use Rattle.agreement.specs.Settling.{bound}
use Rattle.interworking.specs.Exchanges.{Exchange}
use Rattle.interworking.specs.Runs.{state}
use Rattle.interworking.specs.Stepping.{Stepped}
use Rattle.interworking.specs.declared.fault.Fault.{Fault}
use Rattle.interworking.specs.declared.fault.Fault.TheVariants.{Memory}
use Rattle.interworking.specs.declared.step.Side.{Side}
use Rattle.interworking.specs.declared.step.Side.TheVariants.{Near, Far}
use Rattle.interworking.specs.declared.step.Step.TheVariants.{Receive}

-- the line into an exchange is that out of the other one
abbrev pub into : Side → Exchange → Exchange → List (List ℕ)
into Near a b = b.line
into Far a b = a.line

-- so many receives of either exchange, all of them accepted
pub data Receives (a b : Exchange) : ℕ → Exchange → Exchange → Type 0 where
  none : Receives a b 0 a b
  one_more : (n told : ℕ) (side : Side) (x y x' y' : Exchange) → Receives a b n x y
      → Stepped side Receive (Ok told) x y x' y' → Receives a b (n + 1) x' y'

-- the most receives that empty both lines: six for each message that stands on one, and two for each end of a call that is
-- calling or talking
abbrev pub most_receives : Exchange → Exchange → ℕ
most_receives a b = bound (state a []) (state b [])

-- n receives emptied both lines; or else memory was wanting after some
abbrev pub Settled : Result ℕ Fault → Exchange → Exchange → Exchange → Exchange → Type 0
Settled (Ok n) a b a' b' = Receives a b n a' b' × (n ≤ most_receives a b) × (a'.line ≡ []) × (b'.line ≡ [])
Settled (Err f) a b a' b' = (f ≡ Memory) × ((n : ℕ) × Receives a b n a' b')
