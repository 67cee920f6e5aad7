-- The circuits that a status names.
use Rattle.std.specs.Prelude.{◌≡◌, ℕ, zero, suc, ◌+◌, ◌-◌, cond, List, [], ◌∷◌, Some, None, Option, ◌==◌}
use Rattle.status.specs.Bits.{bit_at}
use Rattle.status.specs.Circuits.{circuit_at}
use Rattle.status.specs.declared.cic.Cic.{Cic}
use Rattle.status.specs.declared.naming.Named.{Named}

-- of n circuits, the first of them k places after m, those whose bits are set, rising
abbrev pub named : ℕ → List ℕ → ℕ → ℕ → List Cic
named m xs k zero = []
named m xs k (suc n) = cond (bit_at xs k == 1) (record { 0 = circuit_at m k } ∷ named m xs (suc k) n) (named m xs (suc k) n)

-- those of the range r from m on
abbrev pub circuits_of : ℕ → ℕ → List ℕ → List Cic
circuits_of m r xs = named m xs 0 (r + 1)

-- those of the range from its k-th circuit on
abbrev pub named_from : ℕ → ℕ → List ℕ → ℕ → List Cic
named_from m r xs k = named m xs k (r + 1 - k)

-- what an iterator has yet to name
abbrev pub left_named : Named → List Cic
left_named s = named_from s.first.0 s.group.range.0 s.group.status.now s.next

-- n is the first bit from k on that names a circuit
abbrev pub NextSet : ℕ → List ℕ → ℕ → Option ℕ → Type 0
NextSet r xs k None = (m : ℕ) → named_from m r xs k ≡ []
NextSet r xs k (Some n) = (m : ℕ) → named_from m r xs k ≡ record { 0 = circuit_at m n } ∷ named_from m r xs (n + 1)
