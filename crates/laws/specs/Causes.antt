-- The cause of a release of ours, as whoever reads its REL gets it.
use Rattle.std.specs.Prelude.{◌≡◌, ℕ, List, [], ◌∷◌, Some, Ok}
use Rattle.status.specs.declared.cic.Cic.{Cic}
use Rattle.message.specs.Causes.{location_in, value_in}
use Rattle.message.specs.Msg.{release}
use Rattle.supervision.specs.declared.trunk.Config.{Config}
use Rattle.supervision.specs.Lending.{Lent}
use Rattle.supervision.specs.Moves.{Move}
use Rattle.supervision.specs.Orders.{releasing}

-- the location and the value that were ordered
abbrev pub CausesRead : Type 0
CausesRead =
    (t : Config) (room : ℕ) (cic : Cic) (location value : ℕ) (l : Lent) (m : Move) → releasing t room cic location value l ≡ Ok m
    → (x : List ℕ) × (m.sent ≡ release cic.0 x ∷ []) × (location_in x ≡ Some location) × (value_in x ≡ Some value)
