-- What an update does to a policy that looks from one end, and what it chooses.
use Rattle.std.specs.Prelude.{◌≡◌, Bool, true, false, Option, slice_set}
use Rattle.policy.specs.Ends.{Nearest}
use Rattle.policy.specs.declared.interface.Place.{Place}
use Rattle.policy.specs.declared.interface.Update.{Update}
use Rattle.policy.specs.declared.interface.Update.TheVariants.{Offer, Withdraw}
use Rattle.policy.specs.declared.one_end.Sequential.{Sequential}

-- one place is marked as held or not; the end that is looked at stays
pub record MarksPlace (place : Place) (held : Bool) (old new : Sequential) : Type 0 where
  pub set : new.marks ≡ slice_set old.marks place.0 held
  pub end : new.end ≡ old.end

abbrev pub MarksUpdate : Update → Sequential → Sequential → Type 0
MarksUpdate (Offer p) old new = MarksPlace p true old new
MarksUpdate (Withdraw p) old new = MarksPlace p false old new

-- no member lies nearer to the end than the chosen one, and nothing changes
pub record TakesNearest (choice : Option Place) (old new : Sequential) : Type 0 where
  pub nearest : Nearest old.end old.marks choice
  pub kept : new ≡ old
