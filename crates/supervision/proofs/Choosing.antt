-- What the policy's choice leads to.
use Rattle.std.proofs.Common.{◌↔◌, ◌≡◌, ℕ, ◌+◌, ◌≤◌, Bool, true, eqb, List, length, is_ok, Some, None, Ok, Err, Option, Result, sym, refl, ◌∙◌, subst}
use Rattle.std.proofs.lemmas.Bool.{false≢true, eqb-true}
use Rattle.policy.specs.Sets.{Chosen}
use Rattle.policy.specs.declared.interface.Place.{Place}
use Rattle.policy.specs.declared.interface.Update.{Update}
use Rattle.message.specs.Msg.{call}
use Rattle.message.specs.declared.kinds.CallKind.TheVariants.{Iam}
use Rattle.circuit.proofs.Keeping.{order_keeps}
use Rattle.circuit.specs.Circuits.{is_open}
use Rattle.circuit.specs.declared.record.Circuit.{Circuit}
use Rattle.circuit.specs.declared.rules.Rule.TheVariants.{Seize}
use Rattle.refusal.specs.declared.reasons.Refusal.{Refusal}
use Rattle.supervision.specs.declared.trunk.Config.{Config}
use Rattle.supervision.specs.Laws.{SetIsOpen}
use Rattle.supervision.specs.Trunks.{placed}
use Rattle.supervision.specs.Lending.{Lent, Performed}
use Rattle.supervision.specs.Orders.{ordered}
use Rattle.supervision.specs.Telling.{Tells}
use Rattle.supervision.specs.Seizing.{seizable, seizing, Seizure}
use Rattle.supervision.proofs.Keeping.{outcome_of, outcome_refused}
use Rattle.supervision.proofs.Turning.{tells_same}

-- where the set is the open circuits, there is a place exactly if some circuit is open
fair_choice : (T : List Circuit) (H : List Bool) (choice : Option Place) → Chosen H choice → SetIsOpen T H
    → ((is_ok (seizable choice T) ≡ true) ↔ ((k : ℕ) × (is_open (placed T k) ≡ true)))
fair_choice T H None chosen set =
    ((λ e. absurd (false≢true e)), λ (k, e). absurd (false≢true (sym (chosen k) ∙ set k ∙ e)))
fair_choice T H (Some p) chosen set =
    let open-there : is_open (placed T p.0) ≡ true = sym (set p.0) ∙ chosen in
    ((λ e. (p.0, open-there)), λ x. rw open-there refl)

-- accepted: the call begins at the chosen place
pub seizure_accepted : {P : Type 0} (picks : Option Place → P → P → Type 0) (obeys : Update → P → P → Type 0) (t : Config) (body : List ℕ) (choice : Option Place) (place : Place) (n : ℕ × ℕ) (before after : Lent) (old at new : P)
    → Chosen before.held choice
    → picks choice old at
    → Tells obeys before.table after.table at new
    → Ok place ≡ seizable choice before.table
    → length before.table ≤ length before.held
    → is_open (placed before.table place.0) ≡ true
    → Performed t (ordered (λ k. eqb k place.0) Seize (call (t.first.0 + place.0) Iam body)) n before after
    → Seizure picks obeys t body (Ok n) before after old new
seizure_accepted picks obeys t body choice place n before after old at new chosen picked told v l o p =
    let m = ordered (λ k. eqb k place.0) Seize (call (t.first.0 + place.0) Iam body) in
    record {
      choice = choice;
      chosen = chosen;
      asked = (at, picked, told);
      outcome = outcome_of t (λ b. seizing t body choice b.table) m n before after l
          (λ k h e. order_keeps Seize (placed before.table k) (rw (eqb-true k place.0 h) o)) (rw (← v) refl) p;
      fair = λ set. subst (λ (s : Result Place Refusal). ((is_ok s ≡ true) ↔ ((k : ℕ) × (is_open (placed before.table k) ≡ true)))) (sym v) (fair_choice before.table before.held choice chosen set);
    }

-- refused: the policy was asked, and nothing else is done
pub seizure_refused : {P : Type 0} (picks : Option Place → P → P → Type 0) (obeys : Update → P → P → Type 0) (t : Config) (body : List ℕ) (choice : Option Place) (e : Refusal) (r : Result (ℕ × ℕ) Refusal) (before : Lent) (old new : P)
    → Chosen before.held choice
    → picks choice old new
    → Err e ≡ seizable choice before.table
    → r ≡ Err e
    → Seizure picks obeys t body r before before old new
seizure_refused picks obeys t body choice e r before old new chosen picked v q =
    record {
      choice = choice;
      chosen = chosen;
      asked = (new, picked, tells_same obeys before.table new);
      outcome = outcome_refused t (λ b. seizing t body choice b.table) e r before (rw (← v) refl) q;
      fair = λ set. rw q (subst (λ (s : Result Place Refusal). ((is_ok s ≡ true) ↔ ((k : ℕ) × (is_open (placed before.table k) ≡ true)))) (sym v) (fair_choice before.table before.held choice chosen set));
    }
