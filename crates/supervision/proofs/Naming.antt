-- Which places are named, and what is done there.
use Rattle.std.proofs.Common.{◌≡◌, ℕ, ◌+◌, ◌-◌, ◌<◌, ◌≤◌, Bool, true, false, ◌&&◌, eqb, leb, List, refl, ap, ◌∙◌, ⊎_elim, arith}
use Rattle.std.proofs.lemmas.Bool.{and_left, and_right, lt-leb, le-leb, cases_lt}
use Rattle.status.specs.Bits.{is_named, bit_at}
use Rattle.circuit.specs.Changes.{quiet}
use Rattle.circuit.specs.declared.record.Circuit.{Circuit}
use Rattle.circuit.specs.declared.rules.Change.{Change}
use Rattle.supervision.specs.Moves.{where_named}
use Rattle.supervision.specs.Trunks.{covers}

pub covers_below : (first r : ℕ) (s : List ℕ) (k : ℕ) → k < first → covers first r s k ≡ false
covers_below first r s k l = and_left (leb first k) (is_named r s (k - first)) (lt-leb first k l)

pub covers_past : (first r : ℕ) (s : List ℕ) (k : ℕ) → first + r < k → covers first r s k ≡ false
covers_past first r s k l =
    and_right (leb first k) (is_named r s (k - first)) (and_left (leb (k - first) r) (eqb (bit_at s (k - first)) 1) (lt-leb (k - first) r (omega arith)))

pub covers_in : (first r : ℕ) (s : List ℕ) (n : ℕ) → covers first r s (first + n) ≡ is_named r s n
covers_in first r s n =
    let a : leb first (first + n) ≡ true = le-leb first (first + n) (omega arith) in
    let b : first + n - first ≡ n = omega arith in
    rw (a, b) refl

pub unnamed : (named : ℕ → Bool) (rule : ℕ → Circuit → Change) (k : ℕ) (c : Circuit) → named k ≡ false → where_named named rule k c ≡ quiet c
unnamed named rule k c e = rw (e, and_right c.equipped false refl) refl

pub unequipped : (named : ℕ → Bool) (rule : ℕ → Circuit → Change) (k : ℕ) (c : Circuit) → c.equipped ≡ false → where_named named rule k c ≡ quiet c
unequipped named rule k c e = rw e refl

pub acts : (named : ℕ → Bool) (rule : ℕ → Circuit → Change) (k : ℕ) (c : Circuit) → named k ≡ true → c.equipped ≡ true → where_named named rule k c ≡ rule k c
acts named rule k c e q = rw (e, q) refl

-- what holds of no named place from `first` on holds of no named place
pub covers_none : (first r : ℕ) (s : List ℕ) (q : ℕ → Bool)
    → ((n : ℕ) → n < r + 1 → (is_named r s n && q (first + n)) ≡ false)
    → (j : ℕ) → (covers first r s j && q j) ≡ false
covers_none first r s q h j = ⊎_elim
    (λ (l : j < first). and_left (covers first r s j) (q j) (covers_below first r s j l))
    (λ (l : first ≤ j). ⊎_elim
    (λ (m : first + r < j). and_left (covers first r s j) (q j) (covers_past first r s j m))
    (λ (m : j ≤ first + r).
    let e : j ≡ first + (j - first) = omega arith in
    rw e (ap (λ b. b && q (first + (j - first))) (covers_in first r s (j - first)) ∙ h (j - first) (omega arith)))
    (cases_lt (first + r) j))
    (cases_lt j first)
