-- A seizure as an order like others.
use Rattle.std.proofs.Common.{◌≡◌, ℕ, zero, suc, Bool, true, false, List, [], ◌∷◌, is_ok, Some, None, Ok, Err, Option, Result, slice_index_or, sym, refl, subst}
use Rattle.policy.specs.Sets.{Chosen}
use Rattle.policy.specs.declared.interface.Place.{Place}
use Rattle.policy.specs.declared.interface.Update.{Update}
use Rattle.refusal.specs.declared.reasons.Refusal.{Refusal}
use Rattle.supervision.specs.Answering.{answer, seize}
use Rattle.supervision.specs.declared.trunk.Config.{Config}
use Rattle.supervision.specs.Laws.{Outcome}
use Rattle.supervision.specs.Lending.{Lent}
use Rattle.supervision.specs.Ordering.{FairIf, ToldIf}
use Rattle.supervision.specs.Seizing.{may_ask, seizing, Seized, SeizedIf}
use Rattle.supervision.proofs.Keeping.{outcome_as, outcome_refused}
use Rattle.supervision.proofs.Turning.{tells_same}

behind : (h : List Bool) → (choice : Option Place) × Chosen h choice → (choice : Option Place) × Chosen (false ∷ h) choice
behind h (Some p, e) = (Some (record { 0 = suc p.0 }), e)
behind h (None, e) = (None, none)
  where
    none : (k : ℕ) → slice_index_or (false ∷ h) k false ≡ false
    none zero = refl
    none (suc k) = e k

-- every set allows some choice
pub some_choice : (h : List Bool) → (choice : Option Place) × Chosen h choice
some_choice [] = (None, λ k. refl)
some_choice (true ∷ h) = (Some (record { 0 = 0 }), refl)
some_choice (false ∷ h) = behind h (some_choice h)

pub seized : {P : Type 0} (picks : Option Place → P → P → Type 0) (obeys : Update → P → P → Type 0) (t : Config) (room : ℕ) (body : List ℕ) (r : Result (ℕ × ℕ) Refusal) (before after : Lent) (old new : P)
    → Seized picks obeys t room body r before after old new
    → (choice : Option Place) × Chosen before.held choice × Outcome t (answer t room (seize body choice)) r before after
    × ToldIf picks obeys (is_ok (may_ask t room body before)) choice before after old new
    × FairIf (is_ok (may_ask t room body before)) r before
seized {P} picks obeys t room body r before after old new h = go (may_ask t room body before) refl h
  where
    go : (a : Result (Unit {0}) Refusal) → may_ask t room body before ≡ a → SeizedIf picks obeys t body a r before after old new
        → (choice : Option Place) × Chosen before.held choice × Outcome t (answer t room (seize body choice)) r before after
        × ToldIf picks obeys (is_ok (may_ask t room body before)) choice before after old new
        × FairIf (is_ok (may_ask t room body before)) r before
    go (Err e) q d =
        let c = some_choice before.held in
        let rules = answer t room (seize body c.0) in (
          c.0,
          c.1,
          subst (λ (x : Lent). Outcome t rules r before x) (sym d.1) (outcome_refused t rules e r before (rw q refl) d.0),
          rw (q, d.1, d.2) (tells_same obeys before.table old),
          rw q tt,
        )
    go (Ok u) q d = (
      d.choice,
      d.chosen,
      outcome_as t (answer t room (seize body d.choice)) (λ b. seizing t body d.choice b.table) r before after (rw q refl) d.outcome,
      rw q d.asked,
      rw q d.fair,
    )
