-- The bits of a mask, and of the status that a group message has of it.
use Rattle.std.proofs.Common.{◌≡◌, ℕ, zero, suc, ◌+◌, ◌-◌, ◌*◌, ◌/◌, ◌%◌, ◌^◌, ◌<◌, ◌≤◌, eqb, get_or, sym, refl, ap, ◌∙◌, ⊎_elim, arith}
use mathlib.Core.Path.{fun_ext}
use Rattle.std.proofs.lemmas.Nat.{shr-shr}
use Rattle.std.proofs.lemmas.Bool.{and_left, and_right, cases_eq, cases_lt, eq-eqb, ne_eqb, le-leb}
use Rattle.status.specs.Bits.{bit_at}
use Rattle.supervision.specs.Orders.{slots, status_of}
use Rattle.supervision.specs.Trunks.{covers}
use Rattle.supervision.proofs.Naming.{covers_below, covers_past, covers_in}

octet_bit : (x m : ℕ) → m < 8 → x % 256 / 2 ^ m % 2 ≡ x / 2 ^ m % 2
octet_bit x zero l = omega arith
octet_bit x (suc zero) l = omega arith
octet_bit x (suc (suc zero)) l = omega arith
octet_bit x (suc (suc (suc zero))) l = omega arith
octet_bit x (suc (suc (suc (suc zero)))) l = omega arith
octet_bit x (suc (suc (suc (suc (suc zero))))) l = omega arith
octet_bit x (suc (suc (suc (suc (suc (suc zero)))))) l = omega arith
octet_bit x (suc (suc (suc (suc (suc (suc (suc zero))))))) l = omega arith
octet_bit x (suc (suc (suc (suc (suc (suc (suc (suc m)))))))) l = absurd (omega arith)

octet_at : (mask i m : ℕ) → i < 4 → m < 8 → get_or (status_of mask) i 0 / 2 ^ m % 2 ≡ mask / 2 / 2 ^ (8 * i + m) % 2
octet_at mask zero m l h = octet_bit (mask / 2) m h ∙ let e : 0 + m ≡ m = omega arith in rw e refl
octet_at mask (suc zero) m l h = octet_bit (mask / 2 / 256) m h ∙ ap (λ x. x % 2) (shr-shr (mask / 2) 8 m)
octet_at mask (suc (suc zero)) m l h = octet_bit (mask / 2 / 65536) m h ∙ ap (λ x. x % 2) (shr-shr (mask / 2) 16 m)
octet_at mask (suc (suc (suc zero))) m l h = octet_bit (mask / 2 / 16777216) m h ∙ ap (λ x. x % 2) (shr-shr (mask / 2) 24 m)
octet_at mask (suc (suc (suc (suc i)))) m l h = absurd (omega arith)

-- status bit n is mask bit n + 1
pub status_bit : (mask n : ℕ) → n < 32 → bit_at (status_of mask) n ≡ mask / 2 ^ (n + 1) % 2
status_bit mask n l =
    let e : 8 * (n / 8) + n % 8 ≡ n = omega arith in
    let s : 1 + n ≡ n + 1 = omega arith in
    octet_at mask (n / 8) (n % 8) (omega arith) (omega arith) ∙ rw (e, shr-shr mask 1 n, s) refl

-- the status from time slot 1 on names the time slots of the mask
covers-slots : (system mask k : ℕ) → mask % 2 ≡ 0 → covers (system * 32 + 1) 30 (status_of mask) k ≡ slots system mask k
covers-slots system mask k even = ⊎_elim
    (λ (e : k / 32 ≡ system). ⊎_elim
    (λ (z : k % 32 ≡ 0).
    covers_below (system * 32 + 1) 30 (status_of mask) k (omega arith)
    ∙ sym (and_right (eqb (k / 32) system) (eqb (mask / 2 ^ (k % 32) % 2) 1) (ne_eqb (mask / 2 ^ (k % 32) % 2) 1 (rw z (λ h. omega (arith, h))))))
    (λ (z : k % 32 ≡ 0 → ⊥).
    let n = k % 32 - 1 in
    let p : 0 < k % 32 = ⊎_elim (λ l. l) (λ (l : k % 32 ≤ 0). absurd (z (omega arith))) (cases_lt 0 (k % 32)) in
    let at : k ≡ system * 32 + 1 + n = omega arith in
    let b : n + 1 ≡ k % 32 = omega arith in
    ap (covers (system * 32 + 1) 30 (status_of mask)) at ∙ covers_in (system * 32 + 1) 30 (status_of mask) n
    ∙ rw (le-leb n 30 (omega arith), status_bit mask n (omega arith), b, eq-eqb (k / 32) system e) refl)
    (cases_eq (k % 32) 0))
    (λ (e : k / 32 ≡ system → ⊥).
    ⊎_elim
    (λ (l : k < system * 32 + 1). covers_below (system * 32 + 1) 30 (status_of mask) k l)
    (λ (l : system * 32 + 1 ≤ k).
    let far : system * 32 + 1 + 30 < k = ⊎_elim (λ h. h) (λ (h : k ≤ system * 32 + 1 + 30). absurd (e (omega arith))) (cases_lt (system * 32 + 1 + 30) k) in
    covers_past (system * 32 + 1) 30 (status_of mask) k far)
    (cases_lt k (system * 32 + 1))
    ∙ sym (and_left (eqb (k / 32) system) (eqb (mask / 2 ^ (k % 32) % 2) 1) (ne_eqb (k / 32) system e)))
    (cases_eq (k / 32) system)

pub named-slots : (system mask : ℕ) → mask % 2 ≡ 0 → covers (system * 32 + 1) 30 (status_of mask) ≡ slots system mask
named-slots system mask even = fun_ext (λ k. covers-slots system mask k even)
