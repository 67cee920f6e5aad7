-- Looking for a member from one end.
use Rattle.std.specs.Prelude.{◌≡◌, ℕ, ◌<◌, Bool, false, List, Some, None, Option, slice_index_or}
use Rattle.policy.specs.declared.interface.Place.{Place}
use Rattle.policy.specs.declared.one_end.End.{End}
use Rattle.policy.specs.declared.one_end.End.TheVariants.{Low, High}

-- no member lies nearer to the end than the one that is chosen
abbrev pub Nearest : End → List Bool → Option Place → Type 0
Nearest e h None = Unit {0}
Nearest Low h (Some p) = (k : ℕ) → k < p.0 → slice_index_or h k false ≡ false
Nearest High h (Some p) = (k : ℕ) → p.0 < k → slice_index_or h k false ≡ false
