-- What an update does to a policy of release order, and what it chooses.
use Rattle.std.specs.Prelude.{◌≡◌, ℕ, List, Option}
use Rattle.policy.specs.Orders.{Ordered, offered, withdrawn, preferred}
use Rattle.policy.specs.declared.interface.Place.{Place}
use Rattle.policy.specs.declared.interface.Update.{Update}
use Rattle.policy.specs.declared.interface.Update.TheVariants.{Offer, Withdraw}
use Rattle.policy.specs.declared.release.ReleaseOrder.{ReleaseOrder}

-- the order of offers after an update
abbrev pub reordered : Update → List ℕ → List ℕ
reordered (Offer p) zs = offered p.0 zs
reordered (Withdraw p) zs = withdrawn p.0 zs

-- every order that the links keep becomes the next one; the parity stays
pub record Reorders (update : Update) (old new : ReleaseOrder) : Type 0 where
  pub order : (zs : List ℕ) → Ordered old.even old.links.links zs → Ordered new.even new.links.links (reordered update zs)
  pub parity : new.even ≡ old.even

-- the choice is the preferred member of whatever order the links keep, and nothing changes
pub record TakesPreferred (choice : Option Place) (old new : ReleaseOrder) : Type 0 where
  pub turn : (zs : List ℕ) → Ordered old.even old.links.links zs → choice ≡ preferred old.even zs
  pub kept : new ≡ old
