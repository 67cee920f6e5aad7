-- What an accepted order says of the circuits that it names.
use Rattle.std.proofs.Common.{◌≡◌, ℕ, ◌-◌, ◌%◌, ◌<◌, ◌≤◌, Bool, true, false, cond, not, ◌&&◌, eqb, leb, List, length, Ok, Err, Result, sym, refl, ap, ◌∙◌, subst, ⊎_elim, arith}
use Rattle.std.proofs.lemmas.List.{get_or_past}
use Rattle.std.proofs.lemmas.Bool.{eqb-true, false≢true, not-false, cases_lt}
use Rattle.status.specs.declared.cic.Cic.{Cic}
use Rattle.message.specs.Msg.{Msg}
use Rattle.circuit.specs.Circuits.{vacant}
use Rattle.circuit.specs.Laws.{allows}
use Rattle.circuit.specs.declared.record.Circuit.{Circuit}
use Rattle.circuit.specs.declared.rules.Rule.{Rule}
use Rattle.circuit.proofs.Keeping.{order_keeps}
use Rattle.refusal.specs.declared.reasons.Refusal.{Refusal}
use Rattle.refusal.specs.declared.reasons.Refusal.TheVariants.{Address, State}
use Rattle.supervision.specs.declared.trunk.Config.{Config}
use Rattle.supervision.specs.Trunks.{placed}
use Rattle.supervision.specs.Moves.{Move, some_from}
use Rattle.supervision.specs.Orders.{circuit_of, ordered, only, singly, slots, groupwise}
use Rattle.refusal.specs.Refusals.{unless, and_then}
use Rattle.supervision.proofs.Keeping.{Allowed}
use Rattle.supervision.proofs.Some.{none_at}

-- accepted: the test did not hold, and what follows is accepted
pub past : {X : Type 0} (b : Bool) (e : Refusal) (x : Result X Refusal) (m : X) → unless b e x ≡ Ok m → (b ≡ false) × (x ≡ Ok m)
past true e x m h = let z : ◌≡◌ {A = ℕ} 0 1 = cc in absurd (omega arith)
past false e x m h = (refl, h)

-- each part is accepted
pub and_ok : {X Y : Type 0} (r : Result X Refusal) (f : X → Result Y Refusal) (y : Y) → and_then r f ≡ Ok y → (x : X) × (r ≡ Ok x) × (f x ≡ Ok y)
and_ok (Err e) f y h = let z : ◌≡◌ {A = ℕ} 0 1 = cc in absurd (omega arith)
and_ok (Ok x) f y h = (x, refl, h)

pub same_move : (m n : Move) → ◌≡◌ {A = Result Move Refusal} (Ok m) (Ok n) → m ≡ n
same_move m n e = cc

-- a circuit that is equipped is at the place of its CIC
pub at_place : (t : Config) (cic : Cic) (T : List Circuit) → (circuit_of t cic T).equipped ≡ true → circuit_of t cic T ≡ placed T (cic.0 - t.first.0)
at_place t cic T e = go (leb t.first.0 cic.0) e
  where
    go : (b : Bool) → (cond b (placed T (cic.0 - t.first.0)) vacant).equipped ≡ true → cond b (placed T (cic.0 - t.first.0)) vacant ≡ placed T (cic.0 - t.first.0)
    go true h = refl
    go false h = absurd (false≢true h)

-- an order for one circuit may name it
pub singly_allowed : (t : Config) (cic : Cic) (rule : Rule) (msg : Msg) (T : List Circuit) (m : Move) → singly t cic rule msg T ≡ Ok m → Allowed m T
singly_allowed t cic rule msg T m h =
    let c = circuit_of t cic T in
    let found = past (not c.equipped) Address _ m h in
    let fit = past (not (allows rule c)) State _ m found.1 in
    let at = at_place t cic T (not-false c.equipped found.0) in
    let may : allows rule (placed T (cic.0 - t.first.0)) ≡ true = rw (← at) (not-false (allows rule c) fit.0) in
    subst (λ (x : Move). Allowed x T) (same_move (ordered (only t cic) rule msg) m fit.1)
    (λ k n e. let q : k ≡ cic.0 - t.first.0 = eqb-true k (cic.0 - t.first.0) n in
    order_keeps rule (placed T k) (rw q may))

pub past_both : (a b : Bool) → (a && not b) ≡ false → a ≡ true → b ≡ true
past_both true true e h = refl
past_both true false e h = absurd (false≢true (sym e))
past_both false b e h = absurd (false≢true h)

-- an accepted group order names equipped circuits that allow it
pub accepted : (t : Config) (system mask : ℕ) (rule : Rule) (msg : Msg) (T : List Circuit) (m : Move) → groupwise t system mask rule msg T ≡ Ok m
    → (m ≡ ordered (slots system mask) rule msg) × (eqb (mask % 2) 1 ≡ false)
    × ((k : ℕ) → slots system mask k ≡ true → k < length T → ((placed T k).equipped ≡ true) × (allows rule (placed T k) ≡ true))
accepted t system mask rule msg T m h =
    let inside = past (leb t.systems system) Address _ m h in
    let even = past (eqb (mask % 2) 1) Address _ m inside.1 in
    let p = λ (k : ℕ) (c : Circuit). slots system mask k && not c.equipped in
    let found = past (some_from p 0 T) Address _ m even.1 in
    let q = λ (k : ℕ) (c : Circuit). slots system mask k && not (allows rule c) in
    let fit = past (some_from q 0 T) State _ m found.1 in (
      sym (same_move (ordered (slots system mask) rule msg) m fit.1),
      even.0,
      λ k n l. (past_both (slots system mask k) (placed T k).equipped (none_at p T k l found.0) n, past_both (slots system mask k) (allows rule (placed T k)) (none_at q T k l fit.0) n),
    )

-- so an order for circuits of a PCM system may name each of them
pub groupwise_allowed : (t : Config) (system mask : ℕ) (rule : Rule) (msg : Msg) (T : List Circuit) (m : Move) → groupwise t system mask rule msg T ≡ Ok m → Allowed m T
groupwise_allowed t system mask rule msg T m h =
    let w = accepted t system mask rule msg T m h in
    subst (λ (x : Move). Allowed x T) (sym w.0)
    (λ k n e. ⊎_elim
    (λ (l : k < length T). order_keeps rule (placed T k) (w.2 k n l).1)
    (λ (l : length T ≤ k). absurd (false≢true (sym (ap (λ c. c.equipped) (get_or_past T k vacant l)) ∙ e)))
    (cases_lt k (length T)))
