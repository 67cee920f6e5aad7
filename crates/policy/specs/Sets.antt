-- A policy's set, as a mark for each place, and what is done to it.
use Rattle.std.specs.Prelude.{◌≡◌, ℕ, Bool, true, false, cond, List, [], ◌∷◌, Some, None, Option, ◌==◌, slice_index_or, slice_set}
use Rattle.policy.specs.declared.interface.Place.{Place}
use Rattle.policy.specs.declared.interface.Update.{Update}
use Rattle.policy.specs.declared.interface.Update.TheVariants.{Offer, Withdraw}

-- a choice names a member, and none exactly if there is none
abbrev pub Chosen : List Bool → Option Place → Type 0
Chosen h None = (k : ℕ) → slice_index_or h k false ≡ false
Chosen h (Some p) = slice_index_or h p.0 false ≡ true

-- the set after one update; past the last place it changes nothing
abbrev pub updated : Update → List Bool → List Bool
updated (Offer p) h = slice_set h p.0 true
updated (Withdraw p) h = slice_set h p.0 false

-- the set after updates, the first one first
abbrev pub after : List Update → List Bool → List Bool
after [] h = h
after (u ∷ us) h = after us (updated u h)

-- the mark of the place k after one update, where it was b
abbrev pub mark_after : Update → ℕ → Bool → Bool
mark_after (Offer p) k b = cond (p.0 == k) true b
mark_after (Withdraw p) k b = cond (p.0 == k) false b

-- the mark that the last update on the place k leaves; b if there is none
abbrev pub last_update : List Update → ℕ → Bool → Bool
last_update [] k b = b
last_update (u ∷ us) k b = last_update us k (mark_after u k b)

-- what becomes of a policy that is told updates, the first one first, where `obeys` says what each makes of it
abbrev pub Follows : {P : Type 0} → (Update → P → P → Type 0) → List Update → P → P → Type 0
Follows {P} obeys [] p q = p ≡ q
Follows {P} obeys (u ∷ us) p q = (m : P) × obeys u p m × Follows obeys us m q
