-- Which circuits an operation names: by place in the rules, by CIC in the laws.
use Rattle.std.proofs.Common.{◌≡◌, ℕ, zero, suc, ◌+◌, ◌-◌, ◌/◌, ◌%◌, ◌<◌, ◌≤◌, Bool, true, false, ◌&&◌, eqb, ltb, leb, List, sym, refl, ◌∙◌, ⊎_elim, arith}
use Rattle.std.proofs.lemmas.Bool.{cases_lt, eqb-true, eq-eqb, leb-true, le-leb, ne_eqb, and_parts, false≢true}
use Rattle.status.specs.declared.cic.Cic.{Cic}
use Rattle.circuit.specs.declared.record.Circuit.{Circuit}
use Rattle.supervision.specs.Orders.{circuit_of, slots, every_slot, why_of}
use Rattle.supervision.specs.Receiving.{is_range, in_range, marked}
use Rattle.supervision.specs.Trunks.{controls, places}
use Rattle.supervision.specs.declared.trunk.Config.{Config}
use Rattle.supervision.proofs.Concerned.{every_slot_names}
use Rattle.laws.specs.Calls.{is_ours}
use Rattle.laws.specs.Events.{type_told, within, names, in_system}

-- two tests that hold of the same
pub same_test : (a b : Bool) → (a ≡ true → b ≡ true) → (b ≡ true → a ≡ true) → a ≡ b
same_test true b f g = sym (f refl)
same_test false true f g = g refl
same_test false false f g = refl

-- a CIC that names a circuit is not below the first
pub not_below : (t : Config) (cic : Cic) (T : List Circuit) → (circuit_of t cic T).equipped ≡ true → t.first.0 ≤ cic.0
not_below t cic T e = ⊎_elim
    (λ (l : cic.0 < t.first.0). absurd (false≢true (let z : leb t.first.0 cic.0 ≡ false = lt l in rw z at e)))
    (λ (l : t.first.0 ≤ cic.0). l)
    (cases_lt cic.0 t.first.0)
  where
    lt : cic.0 < t.first.0 → leb t.first.0 cic.0 ≡ false
    lt l = grind arith

pub one_named : (first c k : ℕ) → first ≤ c → eqb k (c - first) ≡ eqb c (first + k)
one_named first c k l = same_test (eqb k (c - first)) (eqb c (first + k))
    (λ h. let e : k ≡ c - first = eqb-true k (c - first) h in eq-eqb c (first + k) (omega (arith, e, l)))
    (λ h. let e : c ≡ first + k = eqb-true c (first + k) h in eq-eqb k (c - first) (omega (arith, e)))

from_first : (first c k : ℕ) → first ≤ c → leb (c - first) k ≡ leb c (first + k)
from_first first c k l = same_test (leb (c - first) k) (leb c (first + k))
    (λ h. let e : c - first ≤ k = leb-true (c - first) k h in le-leb c (first + k) (omega (arith, e, l)))
    (λ h. let e : c ≤ first + k = leb-true c (first + k) h in le-leb (c - first) k (omega (arith, e)))

to_last : (first c r k : ℕ) → first ≤ c → leb k (c - first + r) ≡ leb (first + k) (c + r)
to_last first c r k l = same_test (leb k (c - first + r)) (leb (first + k) (c + r))
    (λ h. let e : k ≤ c - first + r = leb-true k (c - first + r) h in le-leb (first + k) (c + r) (omega (arith, e, l)))
    (λ h. let e : first + k ≤ c + r = leb-true (first + k) (c + r) h in le-leb k (c - first + r) (omega (arith, e, l)))

pub range_from : (t : Config) (c r : ℕ) → is_range t c r ≡ true → t.first.0 ≤ c
range_from t c r e = leb-true t.first.0 c (and_parts (leb t.first.0 c) (ltb (c + r) (t.first.0 + places t)) e).0

pub range_named : (t : Config) (c r k : ℕ) → t.first.0 ≤ c → in_range t c r k ≡ within c r (t.first.0 + k)
range_named t c r k l = rw (from_first t.first.0 c k l, to_last t.first.0 c r k l) refl

pub offset : (first c k : ℕ) → first ≤ c → k - (c - first) ≡ first + k - c
offset first c k l = omega (arith, l)

pub status_named : (t : Config) (c r : ℕ) (s : List ℕ) (k : ℕ) → t.first.0 ≤ c → marked t c r s k ≡ names c r s (t.first.0 + k)
status_named t c r s k l = rw (from_first t.first.0 c k l, offset t.first.0 c k l) refl

pub system_named : (system k : ℕ) → slots system every_slot k ≡ in_system system k
system_named system k = ⊎_elim
    (λ (l : 0 < k % 32).
    let n : eqb (k % 32) 0 ≡ false = ne_eqb (k % 32) 0 (λ e. omega (arith, l, e)) in
    every_slot_names system k l ∙ rw n (sym (and_true (eqb (k / 32) system))))
    (λ (l : k % 32 ≤ 0).
    let z : k % 32 ≡ 0 = omega (arith, l) in
    rw z refl)
    (cases_lt 0 (k % 32))
  where
    and_true : (x : Bool) → (x && true) ≡ x
    and_true true = refl
    and_true false = refl

pub type_named : (kind : ℕ) → why_of kind ≡ type_told kind
type_named zero = refl
type_named (suc n) = rw (ne_eqb (suc n) 0 (λ e. omega (arith, e))) refl

pub control_named : (t : Config) (cic : Cic) → controls t cic ≡ is_ours t.higher cic.0
control_named t cic = go t.higher
  where
    go : (h : Bool) → controls (record t { higher = h }) cic ≡ is_ours h cic.0
    go true = grind arith
    go false = grind arith
