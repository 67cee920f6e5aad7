-- What an accepted answer says: of the circuit that a CIC names, of the table afterwards, of what is sent.
use Rattle.std.proofs.Common.{◌≡◌, ℕ, ◌-◌, ◌-◌, ◌<◌, ◌≤◌, Bool, true, false, cond, not, ◌&&◌, leb, List, length, Ok, sym, refl, ap, ◌∙◌, ⊎_elim, subst, arith}
use Rattle.std.proofs.lemmas.List.{get_or_past}
use Rattle.std.proofs.lemmas.Bool.{not-false, cases_lt, false≢true}
use Rattle.status.specs.declared.cic.Cic.{Cic}
use Rattle.message.specs.Msg.{Msg, single}
use Rattle.message.specs.declared.kinds.Single.TheVariants.{Rsc}
use Rattle.circuit.specs.Circuits.{vacant, is_releasing}
use Rattle.circuit.specs.declared.record.Circuit.{Circuit}
use Rattle.circuit.specs.declared.record.Reset.TheVariants as reset
use Rattle.circuit.specs.declared.rules.Rule.TheVariants.{Reset}
use Rattle.circuit.specs.declared.rules.Change.{Change}
use Rattle.words.specs.declared.kinds.Timer.TheVariants.{T5}
use Rattle.refusal.specs.declared.reasons.Refusal.TheVariants.{Address}
use Rattle.refusal.specs.Refusals.{and_then}
use Rattle.supervision.specs.declared.trunk.Config.{Config}
use Rattle.supervision.specs.Moves.{Move, table_of, some_from}
use Rattle.supervision.specs.Expiring.{alert_at, alerting, gives_up}
use Rattle.supervision.specs.Orders.{circuit_of, only, singly}
use Rattle.supervision.specs.Receiving.{as_cic, moving, nothing, to_one, is_range, marked, to_range}
use Rattle.supervision.specs.Trunks.{placed}
use Rattle.supervision.proofs.Allowing.{past, same_move, and_ok}
use Rattle.supervision.proofs.Keeping.{table_at}
use Rattle.supervision.proofs.Naming.{unnamed, acts}

-- the circuit of a CIC that is found is that of a place, and the CIC is not below the first
pub found_at : (t : Config) (cic : Cic) (T : List Circuit) → (circuit_of t cic T).equipped ≡ true → (t.first.0 ≤ cic.0) × (circuit_of t cic T ≡ placed T (cic.0 - t.first.0))
found_at t cic T e = ⊎_elim
    (λ (l : cic.0 < t.first.0). absurd (false≢true (let z : leb t.first.0 cic.0 ≡ false = lt l in rw z at e)))
    (λ (l : t.first.0 ≤ cic.0). (l, let z : leb t.first.0 cic.0 ≡ true = le l in rw z refl))
    (cases_lt cic.0 t.first.0)
  where
    lt : cic.0 < t.first.0 → leb t.first.0 cic.0 ≡ false
    lt l = grind arith

    le : t.first.0 ≤ cic.0 → leb t.first.0 cic.0 ≡ true
    le l = grind arith

-- a circuit is at a place of the table
pub equipped_inside : (T : List Circuit) (k : ℕ) → (placed T k).equipped ≡ true → k < length T
equipped_inside T k e = ⊎_elim
    (λ (l : k < length T). l)
    (λ (l : length T ≤ k). absurd (false≢true (sym (ap (λ c. c.equipped) (get_or_past T k vacant l)) ∙ e)))
    (cases_lt k (length T))

-- a place after a move, named or not
pub after_unnamed : (m : Move) (T : List Circuit) (k : ℕ) → m.named k ≡ false → placed (table_of m T) k ≡ placed T k
after_unnamed m T k n = table_at m T k ∙ ap (λ d. d.circuit) (unnamed m.named m.rule k (placed T k) n)

pub after_named : (m : Move) (T : List Circuit) (k : ℕ) → m.named k ≡ true → (placed T k).equipped ≡ true → placed (table_of m T) k ≡ (m.rule k (placed T k)).circuit
after_named m T k n e = table_at m T k ∙ ap (λ d. d.circuit) (acts m.named m.rule k (placed T k) n e)

-- T5 does nothing, or a circuit reset and an alert
pub gave_up : (P : Move → Type 0) (t : Config) (c : ℕ) (T : List Circuit) (m : Move) → gives_up t c T ≡ Ok m → P nothing
    → ((x : Move) → singly t (as_cic c) (Reset reset.Single) (single c Rsc) T ≡ Ok x → P (alerting (alert_at T5 c) x)) → P m
gave_up P t c T m e idle done =
    go (is_releasing (circuit_of t (as_cic c) T).call)
    (past (not (circuit_of t (as_cic c) T).equipped) Address _ m e).1
  where
    go : (b : Bool) → cond b (and_then (singly t (as_cic c) (Reset reset.Single) (single c Rsc) T) (λ x. Ok (alerting (alert_at T5 c) x))) (Ok nothing) ≡ Ok m → P m
    go false h = subst P (same_move nothing m h) idle
    go true h =
        let x = and_ok (singly t (as_cic c) (Reset reset.Single) (single c Rsc) T) (λ x. Ok (alerting (alert_at T5 c) x)) m h in
        subst P (same_move (alerting (alert_at T5 c) x.0) m x.2) (done x.0 x.1)

-- what is sent in reply to a message for one circuit, and to one for a range
pub one_reply : (t : Config) (c : ℕ) (rule : Circuit → Change) (ans : Circuit → List Msg) (T : List Circuit) (m : Move) → to_one t c rule ans T ≡ Ok m → m.sent ≡ ans (placed T (c - t.first.0))
one_reply t c rule ans T m h =
    let x = circuit_of t (as_cic c) T in
    let found = past (not x.equipped) Address _ m h in
    let at = found_at t (as_cic c) T (not-false x.equipped found.0) in
    ap (λ (y : Move). y.sent) (sym (same_move (moving (only t (as_cic c)) (λ _. rule) (ans x)) m found.1)) ∙ ap ans at.1

pub range_reply : (t : Config) (c r : ℕ) (s : List ℕ) (x : Move) (T : List Circuit) (m : Move) → to_range t c r s x T ≡ Ok m → m.sent ≡ x.sent
range_reply t c r s x T m h =
    let inside = past (not (is_range t c r)) Address _ m h in
    let found = past (some_from (λ j y. marked t c r s j && not y.equipped) 0 T) Address _ m inside.1 in
    ap (λ (y : Move). y.sent) (sym (same_move x m found.1))
