-- The measure is at least the messages on the lines and at most the bound, and receiving empties the lines.
use Rattle.std.proofs.Common.{◌≡◌, ℕ, zero, suc, ◌+◌, ◌*◌, ◌<◌, ◌≤◌, Bool, true, false, cond, not, ◌⊎◌, inl, inr, List, [], ◌∷◌, length, is_ok, replicate, Some, None, Ok, Err, Option, Result, sym, refl, ⊎_elim, subst, arith}
use Rattle.std.proofs.lemmas.Bool.{false≢true}
use Rattle.std.proofs.lemmas.List.{length-replicate, nil_from_length}
use Rattle.status.specs.declared.cic.Cic.{Cic}
use Rattle.message.specs.Decode.{decode}
use Rattle.message.specs.Msg.{Msg, single, grouped}
use Rattle.message.specs.declared.fault.MessageFault.{MessageFault}
use Rattle.message.specs.declared.kinds.Grouped.TheVariants.{Cgb, Cgu, Cgba, Cgua}
use Rattle.message.specs.declared.kinds.Single.TheVariants.{Rsc}
use Rattle.circuit.specs.declared.record.Circuit.{Circuit}
use Rattle.refusal.specs.declared.reasons.Refusal.{Refusal}
use Rattle.supervision.specs.declared.trunk.Config.{Config}
use Rattle.supervision.specs.Moves.{Move}
use Rattle.supervision.specs.Receiving.{receiving}
use Rattle.supervision.specs.Trunks.{placed}
use Rattle.agreement.specs.Agreeing.{AreTaken}
use Rattle.agreement.specs.Runs.{State, Steps, received, Reaches, near, far, after_move, lends, trunk, with_line}
use Rattle.agreement.specs.Settling.{Receives, Later, at_once, near_receives, far_receives, messages, connected, bound, Measure, Settles}
use Rattle.agreement.proofs.Counting.{base, at_most_two}
use Rattle.agreement.proofs.Ends.{swapped}
use Rattle.agreement.proofs.Event.{event}
use Rattle.agreement.proofs.Falling.{weight_of, weight_at, most_weight, calls}
use Rattle.agreement.proofs.Opened.{circuits}
use Rattle.agreement.proofs.Running.{known, agreement}
use Rattle.agreement.proofs.Settling.{octets_remaining, line_remaining, work_of, work_falls}
use Rattle.agreement.proofs.Signals.{Signal, iam}
use Rattle.agreement.proofs.Total.{total, most_bound}
use Rattle.agreement.proofs.Weight.{weight, in_call}

-- ## The least and the most

at_least_one : (m : Msg) → 1 ≤ base m
at_least_one (single c Rsc) = omega arith
at_least_one (grouped c Cgb i r s) = omega arith
at_least_one (grouped c Cgu i r s) = omega arith
at_least_one (grouped c Cgba i r s) = omega arith
at_least_one (grouped c Cgua i r s) = omega arith
at_least_one m = omega arith

weighs_two : (m : Signal) (s r : Circuit) → weight s r m ≤ 2
weighs_two iam s r = grind arith
weighs_two m s r = grind arith

heft_two : (n : ℕ) (E : ℕ → Bool) (first : ℕ) (S R : List Circuit) (m : Msg) → most_weight n E first S R m ≤ 2
heft_two n E first S R m = most_bound n 2 (weight_at E first S R m) (λ k l. go (E k) (event first k m) (placed S k) (placed R k))
  where
    go : (b : Bool) (e : Option Signal) (s r : Circuit) → cond b (weight_of e s r) 0 ≤ 2
    go true None s r = omega arith
    go true (Some x) s r = weighs_two x s r
    go false e s r = omega arith

line_least : (n : ℕ) (E : ℕ → Bool) (first : ℕ) (S R : List Circuit) (l : List (List ℕ)) → length l ≤ line_remaining n E first S R l
line_least n E first S R [] = omega arith
line_least n E first S R (o ∷ l) = let rest = line_least n E first S R l in let here = go (decode o) in omega (arith, rest, here)
  where
    go : (r : Result Msg MessageFault) → 1 ≤ octets_remaining n E first S R r
    go (Err f) = omega arith
    go (Ok m) = let z = at_least_one m in omega (arith, z)

line_most : (n : ℕ) (E : ℕ → Bool) (first : ℕ) (S R : List Circuit) (l : List (List ℕ)) → line_remaining n E first S R l ≤ 6 * length l
line_most n E first S R [] = omega arith
line_most n E first S R (o ∷ l) = let rest = line_most n E first S R l in let here = go (decode o) in omega (arith, rest, here)
  where
    go : (r : Result Msg MessageFault) → octets_remaining n E first S R r ≤ 6
    go (Err f) = omega arith
    go (Ok m) = let z = at_most_two m in let w = heft_two n E first S R m in omega (arith, z, w)

total_front : (n : ℕ) (f : ℕ → ℕ) → total (suc n) f ≡ f 0 + total n (λ k. f (suc k))
total_front zero f = omega arith
total_front (suc n) f = let e = total_front n f in omega (arith, e)

calls_run : (T : List Circuit) → calls (length T) T ≡ connected T
calls_run [] = refl
calls_run (c ∷ T) =
    let a = total_front (length T) (λ k. in_call (placed (c ∷ T) k)) in
    let b = calls_run T in
    omega (arith, a, b)

-- ## A receive is a step

step : (t : Config) (s s' : State) (into l : List (List ℕ)) → Receives t s into s' l → Steps t s into s' l
step t s s' into l r =
    subst (λ (z : List (List ℕ)). Steps t s z s' l) (sym r.stood)
    (subst (λ (z : State). Steps t s (r.front ∷ l) z l) (sym r.moved) (received s l r.words r.octets r.front r.move r.taken))

abbrev work : Cic → List ℕ → State → State → ℕ
work first ws a b = work_of (length ws * 32) (circuits ws) first.0 a b

lowers_near : (first : Cic) (ws : List ℕ) (h : Bool) (a b a' : State) (l : List (List ℕ)) → Reaches first ws h a b → Receives (trunk first ws h) a b.line a' l → work first ws a' (with_line l b) < work first ws a b
lowers_near first ws h a b a' l r s = let k = known first ws h r in work_falls first ws h (not h) (circuits ws) a b a' l k.fit_near k.inv s

lowers_far : (first : Cic) (ws : List ℕ) (h : Bool) (a b b' : State) (l : List (List ℕ)) → Reaches first ws h a b → Receives (trunk first ws (not h)) b a.line b' l → work first ws (with_line l a) b' < work first ws a b
lowers_far first ws h a b b' l r s =
    let k = known first ws h r in
    let z = work_falls first ws (not h) h (circuits ws) b a b' l k.fit_far (swapped first ws h (not h) (circuits ws) a b k.inv) s in
    omega (arith, z)

least : (first : Cic) (ws : List ℕ) (a b : State) → messages a b ≤ work first ws a b
least first ws a b =
    let n = length ws * 32 in
    let p = line_least n (circuits ws) first.0 a.table b.table a.line in
    let q = line_least n (circuits ws) first.0 b.table a.table b.line in
    omega (arith, p, q)

most_of : (first : Cic) (ws : List ℕ) (h : Bool) (a b : State) → Reaches first ws h a b → work first ws a b ≤ bound a b
most_of first ws h a b r =
    let k = known first ws h r in
    let n = length ws * 32 in
    let p = line_most n (circuits ws) first.0 a.table b.table a.line in
    let q = line_most n (circuits ws) first.0 b.table a.table b.line in
    let x : calls n a.table ≡ connected a.table = rw (← k.inv.end_a.standing.size) (calls_run a.table) in
    let y : calls n b.table ≡ connected b.table = rw (← k.inv.end_b.standing.size) (calls_run b.table) in
    omega (arith, p, q, x, y)

measure : (first : Cic) (ws : List ℕ) (h : Bool) → Measure first ws h
measure first ws h = record {
  work = work first ws;
  falls_near = lowers_near first ws h;
  falls_far = lowers_far first ws h;
  at_least = λ a b r. least first ws a b;
  at_most = most_of first ws h;
}

-- ## So many receives

record Along (first : Cic) (ws : List ℕ) (h : Bool) (a b : State) (n : ℕ) (x y : State) : Type 0 where
  reached : Reaches first ws h x y
  spent : n + work first ws x y ≤ work first ws a b

along : (first : Cic) (ws : List ℕ) (h : Bool) (a b : State) → Reaches first ws h a b → {n : ℕ} {x y : State} → Later first ws h a b n x y → Along first ws h a b n x y
along first ws h a b r at_once = record { reached = r; spent = omega arith }
along first ws h a b r (near_receives n x y x' l g s) =
    let i = along first ws h a b r g in
    let z = lowers_near first ws h x y x' l i.reached s in
    let w = i.spent in
    record { reached = near x y x' l i.reached (step (trunk first ws h) x x' y.line l s); spent = omega (arith, z, w) }
along first ws h a b r (far_receives n x y y' l g s) =
    let i = along first ws h a b r g in
    let z = lowers_far first ws h x y y' l i.reached s in
    let w = i.spent in
    record { reached = far x y y' l i.reached (step (trunk first ws (not h)) y y' x.line l s); spent = omega (arith, z, w) }

-- ## Until both lines are empty

split : (l : List (List ℕ)) → (l ≡ []) ⊎ ((front : List ℕ) × (rest : List (List ℕ)) × (l ≡ front ∷ rest))
split [] = inl refl
split (o ∷ l) = inr (o, l, refl)

accepted : (r : Result Move Refusal) → is_ok r ≡ true → (m : Move) × (r ≡ Ok m)
accepted (Err e) h = absurd (false≢true h)
accepted (Ok m) h = (m, refl)

-- the message at the front is taken
take_front : (t : Config) (s : State) (line : List (List ℕ)) (front : List ℕ) (rest : List (List ℕ)) → line ≡ front ∷ rest → AreTaken t s line → (s' : State) × Receives t s line s' rest
take_front t s line front rest e h =
    let words = replicate {A = ℕ} 96 0 in
    let octets = replicate {A = ℕ} 320 0 in
    let w : length words ≡ 96 = length-replicate {A = ℕ} 96 0 in
    let o : length octets ≡ 320 = length-replicate {A = ℕ} 320 0 in
    let here = subst (AreTaken t s) e h in
    let ok = accepted (receiving t (length s.held) front (lends s words octets)) (here.0 words octets (omega (arith, w)) (omega (arith, o))) in
    (after_move t ok.0 s, record { front = front; words = words; octets = octets; move = ok.0; stood = e; taken = ok.1; moved = refl })

abbrev Emptied : Cic → List ℕ → Bool → State → State → Type 0
Emptied first ws h a b = (n : ℕ) × (x : State) × (y : State) × Later first ws h a b n x y × (x.line ≡ []) × (y.line ≡ [])

empty_from : (fuel : ℕ) (first : Cic) (ws : List ℕ) (h : Bool) (a b : State) → Reaches first ws h a b → (n : ℕ) (x y : State) → Later first ws h a b n x y → work first ws x y ≤ fuel → Emptied first ws h a b
empty_from zero first ws h a b r n x y g l =
    let z = least first ws x y in
    (n, x, y, g, nil_from_length x.line (omega (arith, l, z)), nil_from_length y.line (omega (arith, l, z)))
empty_from (suc fuel) first ws h a b r n x y g l =
    let i = along first ws h a b r g in
    let taken = (agreement first ws h x y i.reached).taken in
    ⊎_elim
    (λ (p : x.line ≡ []). ⊎_elim
    (λ (q : y.line ≡ []). (n, x, y, g, p, q))
    (λ (q : (front : List ℕ) × (rest : List (List ℕ)) × (y.line ≡ front ∷ rest)).
    let s = take_front (trunk first ws h) x y.line q.0 q.1 q.2 taken.1 in
    let z = lowers_near first ws h x y s.0 q.1 i.reached s.1 in
    empty_from fuel first ws h a b r (n + 1) s.0 (with_line q.1 y) (near_receives n x y s.0 q.1 g s.1) (omega (arith, z, l)))
    (split y.line))
    (λ (p : (front : List ℕ) × (rest : List (List ℕ)) × (x.line ≡ front ∷ rest)).
    let s = take_front (trunk first ws (not h)) y x.line p.0 p.1 p.2 taken.0 in
    let z = lowers_far first ws h x y s.0 p.1 i.reached s.1 in
    empty_from fuel first ws h a b r (n + 1) (with_line p.1 x) s.0 (far_receives n x y s.0 p.1 g s.1) (omega (arith, z, l)))
    (split x.line)

pub settles : Settles
settles first ws h = record {
  measure = measure first ws h;
  settled = λ a b r. record {
    bounded = λ n x y g.
        let i = along first ws h a b r g in
        let s = i.spent in
        let p = least first ws x y in
        let q = most_of first ws h a b r in
        omega (arith, s, p, q);
    promised = λ n x y g. agreement first ws h x y (along first ws h a b r g).reached;
    empties = empty_from (work first ws a b) first ws h a b r 0 a b at_once (omega arith);
  };
}
