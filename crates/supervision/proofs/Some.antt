-- Some circuit, or none, is as a test says.
use Rattle.std.proofs.Common.{◌≡◌, ℕ, zero, suc, ◌+◌, ◌<◌, Bool, true, false, not, ◌&&◌, ◌||◌, List, [], ◌∷◌, length, get_or, refl, add-zero, arith}
use Rattle.std.proofs.lemmas.Bool.{or_left, or_right, or_from, or_parts}
use Rattle.circuit.specs.Circuits.{vacant}
use Rattle.circuit.specs.declared.record.Circuit.{Circuit}
use Rattle.supervision.specs.Moves.{some_from}

shift : (p : ℕ → Circuit → Bool) (k j : ℕ) (x : Circuit) (b : Bool) → p (k + suc j) x ≡ b → p (suc k + j) x ≡ b
shift p k j x b e = let q : suc k + j ≡ k + suc j = omega arith in rw q e

none_from : (p : ℕ → Circuit → Bool) (k : ℕ) (t : List Circuit) → ((j : ℕ) → j < length t → p (k + j) (get_or t j vacant) ≡ false) → some_from p k t ≡ false
none_from p k [] h = refl
none_from p k (c ∷ cs) h =
    or_from (p k c) (some_from p (suc k) cs) (rw (add-zero k) at (h 0 (omega arith)))
    (none_from p (suc k) cs (λ j l. shift p k j (get_or cs j vacant) false (h (suc j) (omega arith))))

some_from_lem : (p : ℕ → Circuit → Bool) (k : ℕ) (t : List Circuit) (j : ℕ) → j < length t → p (k + j) (get_or t j vacant) ≡ true → some_from p k t ≡ true
some_from_lem p k [] j l e = absurd (omega arith)
some_from_lem p k (c ∷ cs) zero l e = or_left (p k c) (some_from p (suc k) cs) (rw (add-zero k) at e)
some_from_lem p k (c ∷ cs) (suc j) l e = or_right (p k c) (some_from p (suc k) cs) (some_from_lem p (suc k) cs j (omega arith) (shift p k j (get_or cs j vacant) true e))

none_at_from : (p : ℕ → Circuit → Bool) (k : ℕ) (t : List Circuit) (j : ℕ) → j < length t → some_from p k t ≡ false → p (k + j) (get_or t j vacant) ≡ false
none_at_from p k [] j l e = absurd (omega arith)
none_at_from p k (c ∷ cs) zero l e = rw (add-zero k) (or_parts (p k c) (some_from p (suc k) cs) e).0
none_at_from p k (c ∷ cs) (suc j) l e =
    let q : k + suc j ≡ suc k + j = omega arith in
    rw q (none_at_from p (suc k) cs j (omega arith) (or_parts (p k c) (some_from p (suc k) cs) e).1)

open_zero : (p : ℕ → Circuit → Bool) (j : ℕ) (x : Circuit) (b : Bool) → p j x ≡ b → p (0 + j) x ≡ b
open_zero p j x b e = let q : 0 + j ≡ j = omega arith in rw q e

-- none, as no place is
pub none : (p : ℕ → Circuit → Bool) (t : List Circuit) → ((j : ℕ) → j < length t → p j (get_or t j vacant) ≡ false) → some_from p 0 t ≡ false
none p t h = none_from p 0 t (λ j l. open_zero p j (get_or t j vacant) false (h j l))

-- some, as one place is
pub some : (p : ℕ → Circuit → Bool) (t : List Circuit) (j : ℕ) → j < length t → p j (get_or t j vacant) ≡ true → some_from p 0 t ≡ true
some p t j l e = some_from_lem p 0 t j l (open_zero p j (get_or t j vacant) true e)

-- no place, as there is none
pub none_at : (p : ℕ → Circuit → Bool) (t : List Circuit) (j : ℕ) → j < length t → some_from p 0 t ≡ false → p j (get_or t j vacant) ≡ false
none_at p t j l e = let q : 0 + j ≡ j = omega arith in rw q at (none_at_from p 0 t j l e)

both_tests : (a b d x y : Bool) → (a && not (b && d) || (x || y)) ≡ (((a && not b) || x) || ((a && not d) || y))
both_tests false b d x y = refl
both_tests true false d x y = refl
both_tests true true true x y = refl
both_tests true true false true y = refl
both_tests true true false false y = refl

fails_from : (n : ℕ → Bool) (p q : Circuit → Bool) (k : ℕ) (t : List Circuit)
    → some_from (λ j c. n j && not (p c && q c)) k t ≡ (some_from (λ j c. n j && not (p c)) k t || some_from (λ j c. n j && not (q c)) k t)
fails_from n p q k [] = refl
fails_from n p q k (c ∷ cs) =
    rw (fails_from n p q (suc k) cs) (both_tests (n k) (p c) (q c) (some_from (λ j x. n j && not (p x)) (suc k) cs) (some_from (λ j x. n j && not (q x)) (suc k) cs))

-- some fails one of two tests at once, as it fails the one or the other
pub fails_one : (n : ℕ → Bool) (p q : Circuit → Bool) (t : List Circuit)
    → some_from (λ j c. n j && not (p c && q c)) 0 t ≡ (some_from (λ j c. n j && not (p c)) 0 t || some_from (λ j c. n j && not (q c)) 0 t)
fails_one n p q t = fails_from n p q 0 t
