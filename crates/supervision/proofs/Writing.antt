-- What is written from the start of a list, and more after it.
use Rattle.std.proofs.Common.{◌≡◌, ℕ, suc, ◌+◌, ◌-◌, ◌<◌, ◌≤◌, List, [], ◌∷◌, ◌++◌, length, get_or, take, drop, set, sym, refl, ap, ◌∙◌, length-drop, arith}
use borrow.Rule.Slice.PartMut.{post_of, put_mid}
use Rattle.std.proofs.lemmas.List.{append-nil, drop_all, get_or_append_left, get_or-append_right, length-take-le, set-append_left, set-append_right, take_rest}
use Rattle.supervision.specs.Lending.{over}

-- one more
pub over_push : {X : Type 0} (out w : List X) (x : X) → length out < length w → set (over out w) (length out) x ≡ over (out ++ x ∷ []) w
over_push [] [] x l = absurd (omega arith)
over_push [] (y ∷ w) x l = refl
over_push (a ∷ out) [] x l = absurd (omega arith)
over_push (a ∷ out) (y ∷ w) x l = ap (λ t. a ∷ t) (over_push out w x (omega arith))

-- several more
over_more : {X : Type 0} (out xs w : List X) → length out + length xs ≤ length w
    → take (length out) (over out w) ++ over xs (drop (length out) (over out w)) ≡ over (out ++ xs) w
over_more [] xs w l = refl
over_more (a ∷ out) xs [] l = absurd (omega arith)
over_more (a ∷ out) xs (y ∷ w) l = ap (λ t. a ∷ t) (over_more out xs w (omega arith))

-- past what is written stands what stood there
pub over_ahead : {X : Type 0} (out w : List X) (d : X) → length out ≤ length w → get_or (over out w) (length out) d ≡ get_or w (length out) d
over_ahead [] w d l = refl
over_ahead (a ∷ out) [] d l = absurd (omega arith)
over_ahead (a ∷ out) (y ∷ w) d l = over_ahead out w d (omega arith)

pub length_over : {X : Type 0} (out w : List X) → length out ≤ length w → length (over out w) ≡ length w
length_over [] w l = refl
length_over (a ∷ out) [] l = absurd (omega arith)
length_over (a ∷ out) (y ∷ w) l = ap suc (length_over out w (omega arith))

-- the same, n being how much is written
pub push_at : {X : Type 0} (out w : List X) (x : X) (n : ℕ) → length out ≡ n → n < length w → set (over out w) n x ≡ over (out ++ x ∷ []) w
push_at out w x n e l = rw (← e) (over_push out w x (omega arith))

pub ahead_at : {X : Type 0} (out w : List X) (d : X) (n : ℕ) → length out ≡ n → n ≤ length w → get_or (over out w) n d ≡ get_or w n d
ahead_at out w d n e l = rw (← e) (over_ahead out w d (omega arith))

pub more_at : {X : Type 0} (out xs w : List X) (n : ℕ) → length out ≡ n → n + length xs ≤ length w
    → take n (over out w) ++ over xs (drop n (over out w)) ≡ over (out ++ xs) w
more_at out xs w n e l = rw (← e) (over_more out xs w (omega arith))

-- how long the part from a on is
pub rest_length : {X : Type 0} (a : ℕ) (w : List X) → length (take (length w - a) (drop a w)) ≡ length w - a
rest_length a w = length-take-le (length w - a) (drop a w) (omega (arith, length-drop a w))

-- in the part from a on
pub part_at : {X : Type 0} (a : ℕ) (xs w ys : List X) → a ≤ length w → ys ≡ over xs (take (length w - a) (drop a w))
    → put_mid a (length w - a) w ys ≡ take a w ++ over xs (drop a w)
part_at a xs w ys l e =
    let none : drop (length w - a) (drop a w) ≡ [] = drop_all (length w - a) (drop a w) (simp length-drop (omega arith)) in
    rw (e, none, take_rest w a, append-nil (over xs (drop a w))) refl

-- the part's own places, in the whole
pub get_in_part : {X : Type 0} (a k : ℕ) (w ys : List X) (j : ℕ) (d : X) → a ≤ length w → j < length ys
    → get_or (put_mid a k w ys) (a + j) d ≡ get_or ys j d
get_in_part a k w ys j d l h =
    let size : length (take a w) ≡ a = length-take-le a w l in
    let here : a + j - a ≡ j = omega arith in
    get_or-append_right (take a w) (ys ++ post_of a k w) a (a + j) d size (omega arith) ∙ rw here (get_or_append_left ys (post_of a k w) d j h)

pub set_in_part : {X : Type 0} (a k : ℕ) (w ys : List X) (j : ℕ) (x : X) → a ≤ length w → j < length ys
    → put_mid a k w (set ys j x) ≡ set (put_mid a k w ys) (a + j) x
set_in_part a k w ys j x l h =
    let size : length (take a w) ≡ a = length-take-le a w l in
    let here : a + j - a ≡ j = omega arith in
    let moved : set (ys ++ post_of a k w) (a + j - a) x ≡ set ys j x ++ post_of a k w = rw here (set-append_left ys (post_of a k w) j x h) in
    sym (set-append_right (take a w) (ys ++ post_of a k w) a (a + j) x size (omega arith) ∙ ap (λ t. take a w ++ t) moved)
