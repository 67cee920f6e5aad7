-- The circuits that a status names, one after another.
use Rattle.std.proofs.Common.{◌≡◌, ℕ, zero, suc, ◌+◌, ◌-◌, ◌<◌, ◌≤◌, true, false, cond, eqb, List, [], ◌∷◌, length, refl, ◌∙◌, inl, inr, MatchOption, Some, None, Option, add-zero, zero-add, add-one, arith}
use native.Mathlib.Nat.{sub-zero}
use Rattle.std.proofs.lemmas.Bool.{cases_lt}
use Rattle.std.proofs.lemmas.Bool.Decides.{nat_tests, eqb_tells}
use Rattle.status.specs.Bits.{bit_at, set_bits, is_named, SameBits}
use Rattle.status.specs.Circuits.{circuit_at}
use Rattle.status.specs.Naming.{named, named_from, circuits_of, NextSet}

-- the k-th circuit, and those after it
from_step : (m r : ℕ) (xs : List ℕ) (k : ℕ) → k < r + 1 →
    named_from m r xs k ≡ cond (eqb (bit_at xs k) 1) (record { 0 = circuit_at m k } ∷ named_from m r xs (k + 1)) (named_from m r xs (k + 1))
from_step m r xs k h =
    let a : r + 1 - k ≡ suc (r - k) = omega arith in
    let b : r + 1 - suc k ≡ r - k = omega arith in
    rw (a, add-one, b)

-- a circuit of the range is named exactly when its bit is set
bit_of : (r : ℕ) (xs : List ℕ) (k : ℕ) → k < r + 1 → eqb (bit_at xs k) 1 ≡ is_named r xs k
bit_of r xs k h = grind (arith, nat_tests)

pub from_set : (m r : ℕ) (xs : List ℕ) (k : ℕ) → k < r + 1 → is_named r xs k ≡ true →
    named_from m r xs k ≡ record { 0 = circuit_at m k } ∷ named_from m r xs (k + 1)
from_set m r xs k h e = from_step m r xs k h ∙ rw (bit_of r xs k h ∙ e)

pub from_clear : (m r : ℕ) (xs : List ℕ) (k : ℕ) → k < r + 1 → is_named r xs k ≡ false →
    named_from m r xs k ≡ named_from m r xs (k + 1)
from_clear m r xs k h e = from_step m r xs k h ∙ rw (bit_of r xs k h ∙ e)

pub from_end : (m r : ℕ) (xs : List ℕ) (k : ℕ) → r + 1 ≤ k → named_from m r xs k ≡ []
from_end m r xs k h = let z : r + 1 - k ≡ 0 = omega arith in rw z

-- those between that are not set are skipped
skipped : (m r : ℕ) (xs : List ℕ) (k n : ℕ) → k + n ≤ r + 1 → ((j : ℕ) → k ≤ j → j < k + n → is_named r xs j ≡ false) →
    named_from m r xs k ≡ named_from m r xs (k + n)
skipped m r xs k zero h c = rw add-zero
skipped m r xs k (suc n) h c =
    let e : k + suc n ≡ k + n + 1 = omega arith in
    skipped m r xs k n (omega arith) (λ j a b. c j a (omega arith)) ∙ from_clear m r xs (k + n) (omega arith) (c (k + n) (omega arith) (omega arith)) ∙ rw e

-- the first that is set, or none
pub first_set : (r : ℕ) (xs : List ℕ) (k : ℕ) (o : Option ℕ) →
    MatchOption o ((j : ℕ) → k ≤ j → j < r + 1 → is_named r xs j ≡ false)
    (λ i. (k ≤ i) × (i < r + 1) × (is_named r xs i ≡ true) × ((j : ℕ) → k ≤ j → j < i → is_named r xs j ≡ false)) → NextSet r xs k o
first_set r xs k None h = λ m. elim (cases_lt k (r + 1)) [
  | inl l ↦ let e : k + (r + 1 - k) ≡ r + 1 = omega arith in
      skipped m r xs k (r + 1 - k) (omega arith) (λ j a b. h j a (omega arith)) ∙ rw e (from_end m r xs (r + 1) (omega arith))
  | inr g ↦ from_end m r xs k g
]
first_set r xs k (Some i) (a, b, t, h) = λ m.
    let e : k + (i - k) ≡ i = omega arith in
    skipped m r xs k (i - k) (omega arith) (λ j c d. h j c (omega arith)) ∙ rw e (from_set m r xs i b t)

-- from its first circuit on, a range is whole
pub whole_range : (m r : ℕ) (xs : List ℕ) → named_from m r xs 0 ≡ circuits_of m r xs
whole_range m r xs = rw sub-zero

-- as many circuits are named as bits are set
counted : (m : ℕ) (xs : List ℕ) (k n : ℕ) → length (named m xs k n) + set_bits xs k ≡ set_bits xs (k + n)
counted m xs k zero = rw (add-zero, zero-add)
counted m xs k (suc n) =
    let e = counted m xs (suc k) n in
    let a : k + suc n ≡ suc k + n = omega arith in
    elim (eqb_tells (bit_at xs k) 1) [
      | inl p ↦ rw (p.0, a) (omega (arith, e, p.1))
      | inr p ↦ rw (p.0, a) (omega (arith, e, p.1))
    ]

pub names_counted : (m r : ℕ) (xs : List ℕ) → set_bits xs (r + 1) ≡ length (circuits_of m r xs)
names_counted m r xs = let e = counted m xs 0 (r + 1) in let z : 0 + (r + 1) ≡ r + 1 = omega arith in omega (arith, rw z at e)

-- spare bits change neither the number nor the names
set_same : (xs ys : List ℕ) (r n : ℕ) → SameBits r xs ys → n ≤ r + 1 → set_bits xs n ≡ set_bits ys n
set_same xs ys r zero s h = refl
set_same xs ys r (suc n) s h = rw (set_same xs ys r n s (omega arith), s n (omega arith))

pub count_same : (xs ys : List ℕ) (r : ℕ) → SameBits r xs ys → set_bits xs (r + 1) ≡ set_bits ys (r + 1)
count_same xs ys r s = set_same xs ys r (r + 1) s (omega arith)

named_same : (m : ℕ) (xs ys : List ℕ) (r k n : ℕ) → SameBits r xs ys → k + n ≤ r + 1 → named m xs k n ≡ named m ys k n
named_same m xs ys r k zero s h = refl
named_same m xs ys r k (suc n) s h = rw (s k (omega arith), named_same m xs ys r (suc k) n s (omega arith))

pub names_same : (m : ℕ) (xs ys : List ℕ) (r : ℕ) → SameBits r xs ys → circuits_of m r xs ≡ circuits_of m r ys
names_same m xs ys r s = named_same m xs ys r 0 (r + 1) s (omega arith)
