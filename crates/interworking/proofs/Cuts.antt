-- Octets in a row, cut by the sizes of their messages.
use Rattle.std.proofs.Common.{◌≡◌, ℕ, zero, suc, ◌+◌, ◌-◌, ◌<◌, ◌≤◌, get_or, List, [], ◌∷◌, ◌++◌, length, take, drop, Bool, true, false, cond, ltb, Some, None, Ok, Err, Option, Result, sym, refl, ap, ◌∙◌, take_at, arith}
use borrow.Rule.Slice.PartMut.{post_of}
use Rattle.message.specs.Encode.{leaves, written, unless_refused}
use Rattle.message.specs.declared.fault.MessageFault.{MessageFault}
use Rattle.message.specs.declared.fault.MessageFault.TheVariants.{NoRoom}
use Rattle.std.proofs.lemmas.List.{append-nil, drop-drop, take_more, drop_all, take_all, take-append-le, drop-append-le, length-drop, length-take-le}
use Rattle.std.proofs.lemmas.List.Sums.{sum_by-cons, sum_by_push, sum_by-take-le}
use Rattle.std.specs.List.{sum}
use Rattle.interworking.specs.Lines.{messages}

pub length_messages : (ns o : List ℕ) → length (messages ns o) ≡ length ns
length_messages [] o = refl
length_messages (n ∷ ns) o = ap suc (length_messages ns (drop n o))

-- messages behind others
pub messages_append : (ns ms o p : List ℕ) → sum ns ≡ length o → messages (ns ++ ms) (o ++ p) ≡ messages ns o ++ messages ms p
messages_append [] ms [] p e = refl
messages_append [] ms (x ∷ o) p e = let z : sum [] ≡ 0 = refl in absurd (omega (arith, e, z))
messages_append (n ∷ ns) ms o p e =
    let all : sum (n ∷ ns) ≡ n + sum ns = sum_by-cons (λ x. x) n ns in
    let long : n ≤ length o = omega (arith, e, all) in
    let left : length (drop n o) + n ≡ length o = omega (arith, length-drop n o, long) in
    let rest : sum ns ≡ length (drop n o) = omega (arith, e, all, left) in
    rw (take-append-le n o p long, drop-append-le n o p long)
    (ap (λ (l : List (List ℕ)). take n o ∷ l) (messages_append ns ms (drop n o) p rest))

-- what is written is counted
count_is : (w : List ℕ) (f : Option MessageFault) (k n : ℕ) → written w f k ≡ Ok n → length w ≡ n
count_is w f k n e = go (ltb k (length w)) f e
  where
    go : (b : Bool) (f : Option MessageFault) → cond b (Err NoRoom) (unless_refused w f) ≡ Ok n → length w ≡ n
    go true f q = let z : ◌≡◌ {A = ℕ} 0 1 = cc in absurd (omega arith)
    go false (Some f) q = let z : ◌≡◌ {A = ℕ} 0 1 = cc in absurd (omega arith)
    go false None q = cc

-- octets written behind others, into as much room as they need
pub written_behind : (old zeros now out enc : List ℕ) (start size : ℕ) (r : Result ℕ MessageFault) (n : ℕ) (f : Option MessageFault) (k : ℕ)
    → now ≡ take (start + size) old ++ zeros → start ≡ length old → length now ≡ start + size → length enc ≡ size
    → out ≡ leaves enc (take (length now - start) (drop start now)) r → r ≡ Ok n → r ≡ written enc f k
    → take start now ++ (out ++ post_of start (length now - start) now) ≡ old ++ enc
written_behind old zeros now out enc start size r n f room' e s l k o q v =
    let count = count_is enc f room' n (sym v ∙ q) in
    let whole : take (start + size) old ≡ old = take_all (start + size) old (omega (arith, s)) in
    let now' : now ≡ old ++ zeros = e ∙ ap (λ z. z ++ zeros) whole in
    let front : take start now ≡ old = ap (take start) now' ∙ take_at old zeros start (sym s) in
    let left = length now - start in
    let room = take left (drop start now) in
    let behind = length-drop start now in
    let past : post_of start left now ≡ [] = drop_all left (drop start now) (omega (arith, behind)) in
    let filled : drop n room ≡ [] = drop_all n room (omega (arith, behind, k, l, count, length-take-le left (drop start now) (omega (arith, behind)))) in
    let accepted : enc ++ drop n room ≡ enc = ap (λ z. enc ++ z) filled ∙ append-nil enc in
    let wrote : out ≡ enc = o ∙ rw q accepted in
    rw (front, wrote, past) (ap (λ z. old ++ z) (append-nil enc))

-- one message more
pub messages_push : (ns o enc : List ℕ) (n : ℕ) → sum ns ≡ length o → length enc ≡ n → messages (ns ++ n ∷ []) (o ++ enc) ≡ messages ns o ++ enc ∷ []
messages_push ns o enc n e l =
    messages_append ns (n ∷ []) o enc e ∙ ap (λ z. messages ns o ++ z ∷ []) (take_all n enc (omega (arith, l)))

-- one message among them, and that it lies within the octets
pub messages_at : (ns o : List ℕ) (n : ℕ) → n < length ns → get_or (messages ns o) n [] ≡ take (get_or ns n 0) (drop (sum (take n ns)) o)
messages_at [] o n l = absurd (omega (arith, l))
messages_at (k ∷ ns) o zero l = refl
messages_at (k ∷ ns) o (suc n) l =
    let all : sum (k ∷ take n ns) ≡ k + sum (take n ns) = sum_by-cons (λ x. x) k (take n ns) in
    messages_at ns (drop k o) n (omega (arith, l))
    ∙ ap (take (get_or ns n 0)) (drop-drop (sum (take n ns)) k o ∙ ap (λ z. drop z o) (sym all))

pub within : (ns o : List ℕ) (n : ℕ) → sum ns ≡ length o → n < length ns → sum (take n ns) + get_or ns n 0 ≤ length o
within ns o n e l =
    let a : sum (take (n + 1) ns) ≡ sum (take n ns) + get_or ns n 0 = ap sum (take_more ns n 0 l) ∙ sum_by_push (λ x. x) (take n ns) (get_or ns n 0) in
    let b : sum (take (n + 1) ns) ≤ sum ns = sum_by-take-le (λ x. x) ns (n + 1) in
    omega (arith, a, b, e)
