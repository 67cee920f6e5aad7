-- The order of offers, and the links that keep it.
use Rattle.std.specs.Prelude.{◌≡◌, ℕ, ◌%◌, Bool, false, cond, not, ◌||◌, List, [], ◌∷◌, ◌++◌, map, take, Some, None, filter, Option, ◌==◌, nat_le, slice_index, slice_index_or}
use Rattle.policy.specs.declared.interface.Place.{Place}
use Rattle.policy.specs.declared.interface.TheConstants.{MOST_PLACES}
use Rattle.policy.specs.declared.links.Link.{Link}
use Rattle.policy.specs.declared.links.TheConstants.{CONTROLLED, UNCONTROLLED}

-- whether the place k is in a list
abbrev pub has : List ℕ → ℕ → Bool
has [] k = false
has (x ∷ xs) k = x == k || has xs k

-- no place is in the list twice
abbrev pub Once : List ℕ → Type 0
Once [] = Unit {0}
Once (x ∷ xs) = (has xs x ≡ false) × Once xs

-- offered again, a member keeps its turn; past the last place nothing changes
abbrev pub offered : ℕ → List ℕ → List ℕ
offered p zs = cond (nat_le MOST_PLACES p || has zs p) zs (zs ++ p ∷ [])

abbrev pub withdrawn : ℕ → List ℕ → List ℕ
withdrawn p zs = filter (λ k. not (k == p)) zs

-- even places are controlled, or odd ones
abbrev pub controlled : Bool → ℕ → Bool
controlled even k = k % 2 == cond even 0 1

abbrev pub uncontrolled : Bool → ℕ → Bool
uncontrolled even k = not (controlled even k)

-- the end of the line that a place is on
abbrev pub end_for : Bool → ℕ → ℕ
end_for even p = cond (controlled even p) CONTROLLED UNCONTROLLED

abbrev pub first_of : List ℕ → Option Place → Option Place
first_of [] o = o
first_of (x ∷ xs) o = Some (record { 0 = x })

abbrev pub last_of : List ℕ → Option Place
last_of [] = None
last_of (x ∷ []) = Some (record { 0 = x })
last_of (x ∷ y ∷ xs) = last_of (y ∷ xs)

-- the controlled member offered longest ago, else the uncontrolled one offered last
abbrev pub preferred : Bool → List ℕ → Option Place
preferred even zs = first_of (filter (controlled even) zs) (last_of (filter (uncontrolled even) zs))

-- the three fields of the links, each as a list
abbrev pub newers : List Link → List ℕ
newers ls = map (λ (l : Link). l.newer) ls

abbrev pub olders : List Link → List ℕ
olders ls = map (λ (l : Link). l.older) ls

abbrev pub marks : List Link → List Bool
marks ls = take MOST_PLACES (map (λ (l : Link). l.linked) ls)

-- from a by way of xs to b, each next to the one before in both directions
abbrev pub Run : List ℕ → List ℕ → ℕ → List ℕ → ℕ → Type 0
Run ns os a [] b = (slice_index ns a ≡ b) × (slice_index os b ≡ a)
Run ns os a (x ∷ xs) b = (slice_index ns a ≡ x) × (slice_index os x ≡ a) × Run ns os x xs b

-- the links keep the places zs, from the one offered longest ago on: they are the marked ones, and each line runs through its
-- places from its end back to its end, so that no link leads elsewhere and none is left out
abbrev pub Ordered : Bool → List Link → List ℕ → Type 0
Ordered even ls zs =
    ((k : ℕ) → slice_index_or (marks ls) k false ≡ has zs k)
    × Once zs
    × Run (newers ls) (olders ls) CONTROLLED (filter (controlled even) zs) CONTROLLED
    × Run (newers ls) (olders ls) UNCONTROLLED (filter (uncontrolled even) zs) UNCONTROLLED

-- there is such an order
abbrev pub InOrder : Bool → List Link → Type 0
InOrder even ls = ∥ ((zs : List ℕ) × Ordered even ls zs) ∥₁
