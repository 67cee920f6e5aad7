-- What the policy is told, from place to place.
use Rattle.std.proofs.Common.{◌≡◌, ℕ, suc, ◌+◌, ◌<◌, ◌≤◌, Bool, true, false, List, [], ◌∷◌, ◌++◌, length, get_or, take, drop, set, sym, refl, ap, ◌∙◌, append_assoc, add-zero, zero-add, arith}
use Rattle.std.proofs.lemmas.List.{append-nil, length-take-le, take-append-drop, take_more, take_all, drop_all, length-map, get_or-map}
use Rattle.circuit.specs.Circuits.{is_open, vacant}
use Rattle.circuit.specs.declared.record.Circuit.{Circuit}
use Rattle.policy.proofs.Updates.{follows_append}
use Rattle.policy.specs.Sets.{Follows}
use Rattle.policy.specs.declared.interface.Update.{Update}
use Rattle.supervision.specs.Lending.{over}
use Rattle.supervision.specs.Telling.{update_at, updates_from, Tells, unopened}
use Rattle.supervision.proofs.Writing.{push_at, ahead_at}

update_at-same : (k : ℕ) (b : Bool) → update_at k b b ≡ []
update_at-same k true = refl
update_at-same k false = refl

updates_from-same : (k : ℕ) (bs : List Circuit) → updates_from k bs bs ≡ []
updates_from-same k [] = refl
updates_from-same k (b ∷ bs) = rw (update_at-same k (is_open b), updates_from-same (suc k) bs) refl

-- nothing changed: nothing is told
pub tells_same : {P : Type 0} (obeys : Update → P → P → Type 0) (T : List Circuit) (p : P) → Tells obeys T T p p
tells_same obeys T p = rw (updates_from-same 0 T) refl

-- one place more
updates_more : (j : ℕ) (out T : List Circuit) (x : Circuit) → length out < length T
    → updates_from j T (over (out ++ x ∷ []) T) ≡ updates_from j T (over out T) ++ update_at (j + length out) (is_open (get_or T (length out) vacant)) (is_open x)
updates_more j out [] x l = absurd (omega arith)
updates_more j [] (c ∷ cs) x l =
    rw (add-zero j, updates_from-same (suc j) cs, update_at-same j (is_open c)) (append-nil (update_at j (is_open c) (is_open x)))
updates_more j (y ∷ ys) (c ∷ cs) x l =
    let e : suc j + length ys ≡ j + suc (length ys) = omega arith in
    let head = update_at j (is_open c) (is_open y) in
    let rest = updates_from (suc j) cs (over ys cs) in
    let last = λ (k : ℕ). update_at k (is_open (get_or cs (length ys) vacant)) (is_open x) in
    ap (λ ws. head ++ ws) (updates_more (suc j) ys cs x (omega arith)) ∙ sym (append_assoc head rest (last (suc j + length ys))) ∙ ap (λ k. head ++ rest ++ last k) e

-- the first places are changed, and then the next one
pub tells_more : {P : Type 0} (obeys : Update → P → P → Type 0) (out T table table' : List Circuit) (x : Circuit) (m : ℕ) (p r q : P)
    → table ≡ over out T
    → length out ≡ m
    → m < length T
    → table' ≡ set table m x
    → Tells obeys T table p r
    → Follows obeys (update_at m (is_open (get_or table m vacant)) (is_open x)) r q
    → Tells obeys T table' p q
tells_more obeys out T table table' x m p r q it len l pt told next =
    let at : get_or table m vacant ≡ get_or T m vacant = ap (λ y. get_or y m vacant) it ∙ ahead_at out T vacant m len (omega arith) in
    let grown : table' ≡ over (out ++ x ∷ []) T = pt ∙ ap (λ y. set y m x) it ∙ push_at out T x m len l in
    let words : updates_from 0 T (over (out ++ x ∷ []) T) ≡ updates_from 0 T (over out T) ++ update_at m (is_open (get_or T m vacant)) (is_open x) =
    updates_more 0 out T x (omega arith) ∙ rw (zero-add (length out), len) refl in
    rw (grown, words) (follows_append obeys (updates_from 0 T (over out T)) (update_at m (is_open (get_or T m vacant)) (is_open x)) p r q (rw it at told) (rw at at next))

-- one place alone
pub tells_one : {P : Type 0} (obeys : Update → P → P → Type 0) (T : List Circuit) (x : Circuit) (m : ℕ) (p q : P)
    → m < length T
    → Follows obeys (update_at m (is_open (get_or T m vacant)) (is_open x)) p q
    → Tells obeys T (set T m x) p q
tells_one obeys T x m p q l next =
    let n : length (take m T) ≡ m = length-take-le m T (omega arith) in
    let whole : T ≡ over (take m T) T = rw n (sym (take-append-drop m T)) in
    tells_more obeys (take m T) T T (set T m x) x m p p q whole n l refl (tells_same obeys T p) next

-- one place more of a table whose open circuits are offered
pub offers_more : {P : Type 0} (obeys : Update → P → P → Type 0) (T : List Circuit) (m : ℕ) (p r q : P)
    → m < length T
    → Tells obeys (unopened T) (over (take m T) (unopened T)) p r
    → Follows obeys (update_at m false (is_open (get_or T m vacant))) r q
    → Tells obeys (unopened T) (over (take (m + 1) T) (unopened T)) p q
offers_more obeys T m p r q l told next =
    let V = unopened T in
    let x = get_or T m vacant in
    let n : length (take m T) ≡ m = length-take-le m T (omega arith) in
    let inside : m < length V = rw length-map l in
    let closed : get_or (over (take m T) V) m vacant ≡ vacant = ahead_at (take m T) V vacant m n (omega arith) ∙ get_or-map (λ _. vacant) T m vacant vacant l in
    let grown : over (take (m + 1) T) V ≡ set (over (take m T) V) m x = ap (λ ys. over ys V) (take_more T m vacant l) ∙ sym (push_at (take m T) V x m n inside) in
    rw grown (tells_more obeys (take m T) V (over (take m T) V) (set (over (take m T) V) m x) x m p r q refl n inside refl told (rw closed next))

-- and all of them
pub offers_all : {P : Type 0} (obeys : Update → P → P → Type 0) (T : List Circuit) (m : ℕ) (p q : P)
    → length T ≤ m
    → Tells obeys (unopened T) (over (take m T) (unopened T)) p q
    → Tells obeys (unopened T) T p q
offers_all obeys T m p q l told =
    let all : take m T ≡ T = take_all m T l in
    let none : drop (length T) (unopened T) ≡ [] = drop_all (length T) (unopened T) (rw length-map (omega arith)) in
    let whole : over (take m T) (unopened T) ≡ T = rw (all, none) (append-nil T) in
    rw whole at told
