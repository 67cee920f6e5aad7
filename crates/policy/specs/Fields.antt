-- A link that is free, and how many marks links have.
use Rattle.std.specs.Prelude.{◌≡◌, suc, false, List, [], ◌∷◌, map, length, refl}
use Rattle.std.proofs.Common.{ap, arith}
use Rattle.std.proofs.lemmas.List.{length-take-le}
use Rattle.policy.specs.Orders.{marks}
use Rattle.policy.specs.declared.interface.TheConstants.{MOST_PLACES}
use Rattle.policy.specs.declared.links.Link.{Link}
use Rattle.policy.specs.declared.links.TheConstants.{LINKS}

abbrev pub blank : Link
blank = record { linked = false; older = 0; newer = 0 }

pub field_length : {X : Type 0} (f : Link → X) (ls : List Link) → length (map f ls) ≡ length ls
field_length f [] = refl
field_length f (l ∷ ls) = ap suc (field_length f ls)

pub marks-length : (ls : List Link) → length ls ≡ LINKS → length (marks ls) ≡ MOST_PLACES
marks-length ls l = let n = field_length (λ (k : Link). k.linked) ls in length-take-le MOST_PLACES _ (omega arith)
