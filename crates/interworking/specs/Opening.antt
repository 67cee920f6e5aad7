-- Opening both ends.
use Rattle.std.specs.Prelude.{◌≡◌, ℕ, ◌*◌, Bool, not, List, [], length, Ok, Err, Result}
use Rattle.status.specs.declared.cic.Cic.{Cic}
use Rattle.refusal.specs.declared.reasons.Refusal.{Refusal}
use Rattle.supervision.specs.Opening.{opening, open_table, open_set}
use Rattle.supervision.specs.declared.trunk.Config.{Config}
use Rattle.interworking.specs.Exchanges.{Exchange}
use Rattle.interworking.specs.declared.fault.Fault.{Fault}
use Rattle.interworking.specs.declared.fault.Fault.TheVariants.{Refused, Empty, Memory}
use Rattle.supervision.specs.declared.limits.TheConstants.{SLOTS}

-- newly opened, with a policy that takes so many places
pub record Fresh (room : ℕ) (first : Cic) (ws : List ℕ) (higher : Bool) (x : Exchange) : Type 0 where
  pub accepted : opening room first ws higher (length ws * SLOTS) ≡ Ok x.config
  pub table : x.table ≡ open_table ws
  pub held : x.held ≡ open_set room (open_table ws)
  pub told : x.told ≡ []
  pub line : x.line ≡ []

-- an end opens, or is refused as the rules say, or memory is wanting
abbrev pub Furnished : ℕ → Cic → List ℕ → Bool → Result Exchange Fault → Type 0
Furnished room first ws higher (Ok x) = Fresh room first ws higher x
Furnished room first ws higher (Err (Refused e)) = opening room first ws higher (length ws * SLOTS) ≡ Err e
Furnished room first ws higher (Err Empty) = ⊥
Furnished room first ws higher (Err Memory) = Unit {0}

-- the refusal of both: that of the near one, or else that of the far one
abbrev pub refusal_of_both : Result Config Refusal → Result Config Refusal → Result (Unit {0}) Refusal
refusal_of_both (Err e) far = Err e
refusal_of_both (Ok t) (Err e) = Err e
refusal_of_both (Ok t) (Ok u) = Ok tt

-- both open with the same first CIC and equipment, one of them with the higher point code
abbrev pub opening_both : ℕ → ℕ → Cic → List ℕ → Bool → Result (Unit {0}) Refusal
opening_both room room' first ws higher =
    refusal_of_both (opening room first ws higher (length ws * SLOTS)) (opening room' first ws (not higher) (length ws * SLOTS))

-- why they do not open
abbrev pub NotOpened : ℕ → ℕ → Cic → List ℕ → Bool → Fault → Type 0
NotOpened room room' first ws higher (Refused e) = opening_both room room' first ws higher ≡ Err e
NotOpened room room' first ws higher Empty = ⊥
NotOpened room room' first ws higher Memory = Unit {0}
