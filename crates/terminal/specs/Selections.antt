-- A policy of either method: its set, what an update makes of it, and what it chooses.
use Rattle.std.specs.Prelude.{◌≡◌, Bool, List, length, Option}
use Rattle.policy.specs.Fields.{marks-length}
use Rattle.policy.specs.Marks.{MarksUpdate, TakesNearest}
use Rattle.policy.specs.Orders.{marks}
use Rattle.policy.specs.Turns.{Reorders, TakesPreferred}
use Rattle.policy.specs.declared.interface.Place.{Place}
use Rattle.policy.specs.declared.interface.TheConstants.{MOST_PLACES}
use Rattle.policy.specs.declared.interface.Update.{Update}
use Rattle.terminal.specs.declared.methods.Method.{Method}
use Rattle.terminal.specs.declared.methods.Method.TheVariants as method
use Rattle.terminal.specs.declared.selection.Selection.{Selection}
use Rattle.terminal.specs.declared.selection.Selection.TheVariants.{OneEnd, ReleaseOrder}

abbrev pub held_by : Selection → List Bool
held_by (OneEnd p) = p.marks
held_by (ReleaseOrder p) = marks p.links.links

pub held_by-length : (s : Selection) → length (held_by s) ≡ MOST_PLACES
held_by-length (OneEnd p) = p.ok
held_by-length (ReleaseOrder p) = marks-length p.links.links p.ok.0

-- as the method says; it stays of that method
abbrev pub obeys_by : Update → Selection → Selection → Type 0
obeys_by u (OneEnd p) (OneEnd q) = MarksUpdate u p q
obeys_by u (OneEnd p) (ReleaseOrder q) = ⊥
obeys_by u (ReleaseOrder p) (OneEnd q) = ⊥
obeys_by u (ReleaseOrder p) (ReleaseOrder q) = Reorders u p q

abbrev pub picks_by : Option Place → Selection → Selection → Type 0
picks_by o (OneEnd p) (OneEnd q) = TakesNearest o p q
picks_by o (OneEnd p) (ReleaseOrder q) = ⊥
picks_by o (ReleaseOrder p) (OneEnd q) = ⊥
picks_by o (ReleaseOrder p) (ReleaseOrder q) = TakesPreferred o p q

-- a new one: of the method asked for, and with the higher point code the even places are controlled
abbrev pub made_by : Method → Bool → Selection → Type 0
made_by (method.OneEnd e) higher (OneEnd p) = p.end ≡ e
made_by (method.OneEnd e) higher (ReleaseOrder p) = ⊥
made_by method.ReleaseOrder higher (OneEnd p) = ⊥
made_by method.ReleaseOrder higher (ReleaseOrder p) = p.even ≡ higher
