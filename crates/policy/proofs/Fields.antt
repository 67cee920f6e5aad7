-- One field of one link is written.
use Rattle.std.specs.Prelude.{◌≡◌, ℕ, ◌<◌, false, zero, suc, List, [], ◌∷◌, map, take, slice_index_or, slice_set, refl}
use Rattle.std.proofs.Common.{ap, ◌∙◌}
use Rattle.std.proofs.lemmas.List.{get_or-take}
use Rattle.policy.specs.Fields.{blank}
use Rattle.policy.specs.Orders.{marks}
use Rattle.policy.specs.declared.interface.TheConstants.{MOST_PLACES}
use Rattle.policy.specs.declared.links.Link.{Link}

pub field_at : {X : Type 0} (f : Link → X) (ls : List Link) (i : ℕ) (d : Link) → slice_index_or (map f ls) i (f d) ≡ f (slice_index_or ls i d)
field_at f [] i d = refl
field_at f (l ∷ ls) zero d = refl
field_at f (l ∷ ls) (suc i) d = field_at f ls i d

-- a field that is written
pub field_set : {X : Type 0} (f : Link → X) (ls : List Link) (i : ℕ) (l : Link) → map f (slice_set ls i l) ≡ slice_set (map f ls) i (f l)
field_set f [] i l = refl
field_set f (m ∷ ls) zero l = refl
field_set f (m ∷ ls) (suc i) l = ap (λ t. f m ∷ t) (field_set f ls i l)

-- a field that stays
pub field_kept : {X : Type 0} (f : Link → X) (ls : List Link) (i : ℕ) (l d : Link) → f l ≡ f (slice_index_or ls i d) → map f (slice_set ls i l) ≡ map f ls
field_kept f [] i l d e = refl
field_kept f (m ∷ ls) zero l d e = ap (λ t. t ∷ map f ls) e
field_kept f (m ∷ ls) (suc i) l d e = ap (λ t. f m ∷ t) (field_kept f ls i l d e)

-- one of the first places
pub take-set : {X : Type 0} (n : ℕ) (xs : List X) (i : ℕ) (x : X) → take n (slice_set xs i x) ≡ slice_set (take n xs) i x
take-set zero xs i x = refl
take-set (suc n) [] i x = refl
take-set (suc n) (y ∷ xs) zero x = refl
take-set (suc n) (y ∷ xs) (suc i) x = ap (λ t. y ∷ t) (take-set n xs i x)

-- the mark of a place
pub mark_at : (ls : List Link) (i : ℕ) → i < MOST_PLACES → slice_index_or (marks ls) i false ≡ (slice_index_or ls i blank).linked
mark_at ls i h = get_or-take MOST_PLACES _ i false h ∙ field_at (λ (l : Link). l.linked) ls i blank
