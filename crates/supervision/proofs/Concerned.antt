-- The masks of our group messages: which circuits they name.
use Rattle.std.proofs.Common.{◌≡◌, ℕ, ◌+◌, ◌-◌, ◌*◌, ◌/◌, ◌%◌, ◌^◌, ◌<◌, ◌≤◌, Bool, true, false, ◌&&◌, eqb, ltb, List, sym, refl, ap, ◌∙◌, ⊎_elim, arith}
use Rattle.std.proofs.lemmas.Bool.{cases_lt, cases_eq, eqb-true, ne_eqb, lt-ltb, and_left, and_right, and_parts}
use Rattle.circuit.specs.declared.record.Circuit.{Circuit}
use Rattle.supervision.specs.declared.trunk.Config.{Config}
use Rattle.supervision.specs.Groups.{mask_by}
use Rattle.supervision.specs.Orders.{slots, every_slot}
use Rattle.supervision.specs.Trunks.{first_of, placed}
use Rattle.supervision.proofs.Bits.{bit_below, test_below, every_slot_bit}

pub start_of : (t : Config) (system : ℕ) → first_of t system - t.first.0 ≡ system * 32 + 1
start_of t system = let f = t.first.0 in omega arith

-- the test of a mask, at a time slot
abbrev slot_test : (ℕ → Circuit → Bool) → ℕ → List Circuit → ℕ → Bool
slot_test p system T slot = ltb 0 slot && p (system * 32 + slot) (placed T (system * 32 + slot))

pub mask_even : (p : ℕ → Circuit → Bool) (system : ℕ) (T : List Circuit) → mask_by p system T % 2 ≡ 0
mask_even p system T = let e = bit_below (slot_test p system T) 32 0 (omega arith) in omega (arith, e)

-- a mask by a test names the circuits of the PCM system that are as the test says; k is no time slot 0
pub mask_names : (p : ℕ → Circuit → Bool) (system : ℕ) (T : List Circuit) (k : ℕ) → 0 < k % 32
    → slots system (mask_by p system T) k ≡ (eqb (k / 32) system && p k (placed T k))
mask_names p system T k h = ⊎_elim
    (λ (e : k / 32 ≡ system).
    let z : system * 32 + k % 32 ≡ k = omega arith in
    let b : ltb 0 (k % 32) ≡ true = lt-ltb 0 (k % 32) h in
    ap (λ x. eqb (k / 32) system && x) (test_below (slot_test p system T) 32 (k % 32) (omega arith) ∙ rw (b, z) refl))
    (λ (e : k / 32 ≡ system → ⊥).
    let n = ne_eqb (k / 32) system e in
    and_left (eqb (k / 32) system) _ n ∙ sym (and_left (eqb (k / 32) system) (p k (placed T k)) n))
    (cases_eq (k / 32) system)

-- no bit is set in 0
pub mask_none : (p : ℕ → Circuit → Bool) (system : ℕ) (T : List Circuit) (k : ℕ) → 0 < k % 32 → eqb (mask_by p system T) 0 ≡ true
    → (eqb (k / 32) system && p k (placed T k)) ≡ false
mask_none p system T k h e =
    sym (mask_names p system T k h)
    ∙ and_right (eqb (k / 32) system) _ (rw (eqb-true (mask_by p system T) 0 e) (zero_bit (k % 32)))
  where
    zero_bit : (j : ℕ) → eqb (0 / 2 ^ j % 2) 1 ≡ false
    zero_bit j = grind arith

-- bit 0 of an even mask names nothing
pub slot_positive : (system mask j : ℕ) → mask % 2 ≡ 0 → slots system mask j ≡ true → 0 < j % 32
slot_positive system mask j even h = ⊎_elim
    (λ (l : 0 < j % 32). l)
    (λ (l : j % 32 ≤ 0).
    let z : j % 32 ≡ 0 = omega arith in
    let b = (and_parts (eqb (j / 32) system) (eqb (mask / 2 ^ (j % 32) % 2) 1) h).1 in
    absurd (odd mask even (rw z at (eqb-true (mask / 2 ^ (j % 32) % 2) 1 b))))
    (cases_lt 0 (j % 32))
  where
    odd : (n : ℕ) → n % 2 ≡ 0 → n / 2 ^ 0 % 2 ≡ 1 → ⊥
    odd n e h = omega (arith, e, h)

-- the mask of all time slots names the PCM system
pub every_slot_names : (system k : ℕ) → 0 < k % 32 → slots system every_slot k ≡ eqb (k / 32) system
every_slot_names system k h =
    let b : eqb (every_slot / 2 ^ (k % 32) % 2) 1 ≡ true = every_slot_bit (k % 32) (omega arith) ∙ lt-ltb 0 (k % 32) h in
    rw b (and_true (eqb (k / 32) system))
  where
    and_true : (x : Bool) → (x && true) ≡ x
    and_true true = refl
    and_true false = refl
