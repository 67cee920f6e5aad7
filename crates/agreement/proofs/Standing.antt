-- What holds of a table in any state.
use Rattle.std.proofs.Common.{◌≡◌, ℕ, ◌+◌, ◌*◌, ◌/◌, ◌%◌, ◌<◌, ◌≤◌, Bool, true, false, List, length}
use Rattle.circuit.specs.Circuits.{vacant, is_group}
use Rattle.circuit.specs.declared.record.Circuit.{Circuit}
use Rattle.supervision.specs.declared.trunk.Config.{Config}
use Rattle.supervision.specs.Laws.{AllSound}
use Rattle.supervision.specs.Trunks.{placed}

-- which places are circuits: none at time slot 0, none past the trunk, and all its CICs fit 12 bits
pub record Fitting (t : Config) (E : ℕ → Bool) : Type 0 where
  pub slots : (k : ℕ) → E k ≡ true → 0 < k % 32
  pub inside : (k : ℕ) → E k ≡ true → k < t.systems * 32
  pub last : t.first.0 + t.systems * 32 ≤ 4096

-- a table in any state: its circuits are those; its records are sound; a group reset waits for all circuits of a PCM system or for none
pub record Standing (t : Config) (E : ℕ → Bool) (T : List Circuit) : Type 0 where
  pub size : length T ≡ t.systems * 32
  pub equipment : (k : ℕ) → (placed T k).equipped ≡ E k
  pub sound : AllSound T
  pub empty : (k : ℕ) → E k ≡ false → placed T k ≡ vacant
  pub whole : (f : ℕ → Bool) × ((k : ℕ) → E k ≡ true → is_group (placed T k).reset ≡ f (k / 32))
