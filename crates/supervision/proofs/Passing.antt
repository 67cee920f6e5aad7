-- What is found of the circuits that a status names.
use Rattle.std.proofs.Common.{◌≡◌, ℕ, ◌+◌, ◌<◌, ◌≤◌, Bool, true, false, not, ◌&&◌, List, length, refl, ⊎_elim, arith}
use Rattle.std.proofs.lemmas.Bool.{cases_lt, cases_eq}
use Rattle.circuit.specs.declared.record.Circuit.{Circuit}
use Rattle.supervision.specs.declared.slots.Slots.{Slots}
use Rattle.supervision.specs.Moves.{some_from}
use Rattle.supervision.specs.Steps.{named_by}
use Rattle.supervision.specs.Trunks.{placed}
use Rattle.supervision.proofs.Naming.{covers_in, covers_none}
use Rattle.supervision.proofs.Some.{none, some}

-- of the first n circuits of a range, each that is named passes
abbrev pub PassBelow : Slots → (Circuit → Bool) → List Circuit → ℕ → Type 0
PassBelow s p T n = (j : ℕ) → j < n → (named_by s (s.first.0 + j) && not (p (placed T (s.first.0 + j)))) ≡ false

-- one more
pub pass_more : (s : Slots) (p : Circuit → Bool) (T : List Circuit) (n : ℕ)
    → PassBelow s p T n → (named_by s (s.first.0 + n) && not (p (placed T (s.first.0 + n)))) ≡ false → PassBelow s p T (n + 1)
pass_more s p T n h e j l = ⊎_elim
    (λ (q : j ≡ n). rw q e)
    (λ (q : j ≡ n → ⊥). h j (⊎_elim (λ (y : j < n). y) (λ (y : n ≤ j). absurd (q (omega arith))) (cases_lt j n)))
    (cases_eq j n)

-- and those that are not named
pub pass_quiet : (s : Slots) (p : Circuit → Bool) (T : List Circuit) (n m : ℕ)
    → PassBelow s p T n → ((j : ℕ) → n ≤ j → j < m → named_by s (s.first.0 + j) ≡ false) → PassBelow s p T m
pass_quiet s p T n m h q j l = ⊎_elim
    (λ (b : j < n). h j b)
    (λ (b : n ≤ j). rw (q j b l) refl)
    (cases_lt j n)

-- all of them
pub pass_all : (s : Slots) (p : Circuit → Bool) (T : List Circuit)
    → PassBelow s p T (s.group.range.0 + 1) → some_from (λ k c. named_by s k && not (p c)) 0 T ≡ false
pass_all s p T h =
    none (λ k c. named_by s k && not (p c)) T
    (λ j l. covers_none s.first.0 s.group.range.0 s.group.status.now (λ k. not (p (placed T k)))
    (λ n m. rw (← covers_in s.first.0 s.group.range.0 s.group.status.now n) (h n m)) j)

-- one that does not
pub pass_not : (s : Slots) (p : Circuit → Bool) (T : List Circuit) (n : ℕ)
    → s.first.0 + n < length T → named_by s (s.first.0 + n) ≡ true → p (placed T (s.first.0 + n)) ≡ false
    → some_from (λ k c. named_by s k && not (p c)) 0 T ≡ true
pass_not s p T n l e f = some (λ k c. named_by s k && not (p c)) T (s.first.0 + n) l (rw (e, f) refl)
