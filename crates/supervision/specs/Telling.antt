-- What an operation tells the policy: what opened is offered, what closed is withdrawn, by rising place.
use Rattle.std.specs.Prelude.{ℕ, zero, suc, Bool, true, false, List, [], ◌∷◌, ◌++◌, map}
use Rattle.std.specs.List.{range_with_len}
use Rattle.circuit.specs.Circuits.{is_open, vacant}
use Rattle.circuit.specs.declared.record.Circuit.{Circuit}
use Rattle.policy.specs.Sets.{Follows}
use Rattle.policy.specs.declared.interface.Update.{Update}
use Rattle.policy.specs.declared.interface.Update.TheVariants.{Offer, Withdraw}

-- the word about the place k, from whether its circuit was open before and is open after; none where that is as it was
abbrev pub update_at : ℕ → Bool → Bool → List Update
update_at k true true = []
update_at k true false = Withdraw (record { 0 = k }) ∷ []
update_at k false true = Offer (record { 0 = k }) ∷ []
update_at k false false = []

-- the words about each place from k on
abbrev pub updates_from : ℕ → List Circuit → List Circuit → List Update
updates_from k [] cs = []
updates_from k (b ∷ bs) [] = []
updates_from k (b ∷ bs) (c ∷ cs) = update_at k (is_open b) (is_open c) ++ updates_from (suc k) bs cs

-- a policy is told just this, of a table before and after
abbrev pub Tells : {P : Type 0} → (Update → P → P → Type 0) → List Circuit → List Circuit → P → P → Type 0
Tells obeys before after p q = Follows obeys (updates_from zero before after) p q

-- every place is withdrawn, by rising place
abbrev pub withdrawals : ℕ → List Update
withdrawals room = map (λ k. Withdraw (record { 0 = k })) (range_with_len 0 room)

-- as many places, of which none is open
abbrev pub unopened : List Circuit → List Circuit
unopened table = map (λ _. vacant) table
