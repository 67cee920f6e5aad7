-- One circuit changed, and what is found before it is.
use Rattle.std.proofs.Common.{◌≡◌, ℕ, ◌+◌, ◌<◌, ◌≤◌, Bool, true, false, not, eqb, List, map, length, get_or, take, set, Ok, sym, refl, ap, ◌∙◌, zero-add, arith}
use Rattle.std.proofs.lemmas.Bool.{ne_eqb, eq-eqb}
use Rattle.policy.specs.declared.interface.Place.{Place}
use Rattle.circuit.specs.Circuits.{is_open, vacant}
use Rattle.circuit.specs.Laws.{told_of}
use Rattle.words.specs.Words.{number_of}
use Rattle.circuit.specs.declared.record.Circuit.{Circuit}
use Rattle.circuit.specs.declared.rules.Change.{Change}
use Rattle.supervision.specs.declared.trunk.Config.{Config}
use Rattle.refusal.specs.declared.reasons.Refusal.TheVariants.{Address, State}
use Rattle.refusal.specs.Refusals.{unless}
use Rattle.supervision.specs.Lending.{over}
use Rattle.supervision.specs.Moves.{where_named, told_from}
use Rattle.supervision.specs.Steps.{settled_at, Stood}
use Rattle.supervision.specs.Trunks.{cic_at}
use Rattle.supervision.proofs.Naming.{unnamed, acts}
use Rattle.supervision.proofs.Stepping.{stands_from, stands_more, stands_all, told_short}

-- one circuit changed
pub stood_one : (t : Config) (p : ℕ) (rule : Circuit → Change) (x : Change) (T : List Circuit) (H : List Bool) (W : List ℕ) (table : List Circuit) (held : List Bool) (words : List ℕ) (n : ℕ)
    → x ≡ rule (get_or T p vacant)
    → p < length T
    → 2 ≤ length W
    → (get_or T p vacant).equipped ≡ true
    → table ≡ set T p x.circuit
    → held ≡ settled_at H p (is_open (get_or T p vacant)) (is_open x.circuit)
    → words ≡ over (map number_of (told_of (cic_at t p) x)) W
    → n ≡ length (told_of (cic_at t p) x)
    → Stood t (where_named (λ k. eqb k p) (λ _. rule)) T H W table held words n
stood_one t p rule x T H W table held words n is lt lw eq it ih iw im =
    let named = λ (k : ℕ). eqb k p in
    let f = where_named named (λ _. rule) in
    let c = get_or T p vacant in
    let e : f p c ≡ x = acts named (λ _. rule) p c (eq-eqb p p refl) eq ∙ sym is in
    let start = stands_from t f p T H W (omega arith) (λ j a b y. unnamed named (λ _. rule) j y (ne_eqb j p (λ z. omega (arith, z)))) in
    let short = told_short (cic_at t p) x in
    let none : length (told_from t f 0 (take p T)) ≡ 0 = sym start.3 in
    let next = stands_more t f p T H W T table H held W words 0 n start lt (rw (e, none) (omega arith)) (rw e it) (rw e ih) (rw e iw) (rw e (im ∙ sym (zero-add _))) in
    stands_all t f (p + 1) T H W table held words n next (omega arith) (λ j a y. unnamed named (λ _. rule) j y (ne_eqb j p (λ z. omega (arith, z))))

-- what the judge found
pub passed : (a b : Bool) (p q : Place) → Ok p ≡ unless (not a) Address (unless (not b) State (Ok q)) → (a ≡ true) × (b ≡ true) × (p.0 ≡ q.0)
passed true true p q e = (refl, refl, let z : p ≡ q = cc in ap (λ x. x.0) z)
passed true false p q e = let z : ◌≡◌ {A = ℕ} 0 1 = cc in absurd (omega arith)
passed false b p q e = let z : ◌≡◌ {A = ℕ} 0 1 = cc in absurd (omega arith)

-- what was found is there
pub found : (a : Bool) (p q : Place) → Ok p ≡ unless (not a) Address (Ok q) → (a ≡ true) × (p.0 ≡ q.0)
found true p q e = (refl, let z : p ≡ q = cc in ap (λ x. x.0) z)
found false p q e = let z : ◌≡◌ {A = ℕ} 0 1 = cc in absurd (omega arith)
