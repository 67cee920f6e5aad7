-- What is left to be received, of two ends and two lines, and that each receive makes it less.
use Rattle.std.proofs.Common.{◌≡◌, ℕ, ◌+◌, ◌*◌, ◌<◌, ◌≤◌, Bool, false, List, [], ◌∷◌, ◌++◌, map, length, Ok, Err, Result, sym, refl, ap, ◌∙◌, subst, arith}
use Rattle.status.specs.declared.cic.Cic.{Cic}
use Rattle.message.specs.Decode.{decode}
use Rattle.message.specs.Encode.{encode, plain}
use Rattle.message.specs.Msg.{Msg, grouped}
use Rattle.message.specs.declared.fault.MessageFault.{MessageFault}
use Rattle.message.specs.declared.kinds.Grouped.TheVariants.{Cgb}
use Rattle.message.proofs.RoundTrip.{written_back}
use Rattle.circuit.specs.declared.record.Circuit.{Circuit}
use Rattle.refusal.specs.Refusals.{and_then, raised}
use Rattle.supervision.specs.declared.trunk.Config.{Config}
use Rattle.supervision.specs.Moves.{table_of}
use Rattle.supervision.specs.Orders.{admitted}
use Rattle.supervision.specs.Receiving.{heard}
use Rattle.supervision.specs.Trunks.{placed}
use Rattle.supervision.proofs.Allowing.{and_ok}
use Rattle.supervision.proofs.Hearing.{heard_allowed}
use Rattle.agreement.specs.Runs.{State, after_move, lends, trunk, with_line}
use Rattle.agreement.specs.Settling.{Receives}
use Rattle.agreement.proofs.Counting.{base}
use Rattle.agreement.proofs.Ends.{Inv}
use Rattle.agreement.proofs.Falling.{weight_at, remaining, all_remaining, calls, Same, remaining_up, same_after, falls}
use Rattle.agreement.proofs.Keeping.{standing_after}
use Rattle.agreement.proofs.Octets.{AllOnLine, plain_event}
use Rattle.agreement.proofs.Passing.{Passes, Each, own_passes}
use Rattle.agreement.proofs.Running.{message_at}
use Rattle.agreement.proofs.Sending.{heard_sent}
use Rattle.agreement.proofs.Shifting.{heard_shift}
use Rattle.agreement.proofs.Standing.{Fitting}
use Rattle.agreement.proofs.Total.{most_le}

-- ## A line

abbrev pub octets_remaining : ℕ → (ℕ → Bool) → ℕ → List Circuit → List Circuit → Result Msg MessageFault → ℕ
octets_remaining n E first S R (Err f) = 1
octets_remaining n E first S R (Ok m) = remaining n E first S R m

abbrev pub line_remaining : ℕ → (ℕ → Bool) → ℕ → List Circuit → List Circuit → List (List ℕ) → ℕ
line_remaining n E first S R [] = 0
line_remaining n E first S R (o ∷ l) = octets_remaining n E first S R (decode o) + line_remaining n E first S R l

remaining_append : (n : ℕ) (E : ℕ → Bool) (first : ℕ) (S R : List Circuit) (l o : List (List ℕ)) → line_remaining n E first S R (l ++ o) ≡ line_remaining n E first S R l + line_remaining n E first S R o
remaining_append n E first S R [] o = omega arith
remaining_append n E first S R (x ∷ l) o = let e = remaining_append n E first S R l o in omega (arith, e)

line_up : (n : ℕ) (E : ℕ → Bool) (first : ℕ) (S S' R R' : List Circuit) (l : List (List ℕ)) → Same E S S' → Same E R R' → line_remaining n E first S' R' l ≤ line_remaining n E first S R l
line_up n E first S S' R R' [] p q = omega arith
line_up n E first S S' R R' (o ∷ l) p q =
    let rest = line_up n E first S S' R R' l p q in
    let here = go (decode o) in
    omega (arith, rest, here)
  where
    go : (r : Result Msg MessageFault) → octets_remaining n E first S' R' r ≤ octets_remaining n E first S R r
    go (Err f) = omega arith
    go (Ok m) = remaining_up n E first S S' R R' m p q

base_plain : (m : Msg) → base (plain m) ≡ base m
base_plain (grouped c Cgb i r s) = refl
base_plain m = refl

remaining_plain : (n : ℕ) (E : ℕ → Bool) (first : ℕ) (S R : List Circuit) (m : Msg) → remaining n E first S R (plain m) ≤ remaining n E first S R m
remaining_plain n E first S R m =
    let b = base_plain m in
    let z = most_le n (weight_at E first S R (plain m)) (weight_at E first S R m) (λ k l. rw (plain_event first k m) (omega arith)) in
    omega (arith, b, z)

remaining_sent : (t : Config) (E : ℕ → Bool) (n : ℕ) (first : ℕ) (S R : List Circuit) (ms : List Msg) → Each (Passes t E) ms → line_remaining n E first S R (map encode ms) ≤ all_remaining n E first S R ms
remaining_sent t E n first S R [] p = omega arith
remaining_sent t E n first S R (m ∷ ms) p =
    let rest = remaining_sent t E n first S R ms p.1 in
    let here = remaining_plain n E first S R m in
    let z = ap (octets_remaining n E first S R) (written_back m p.0.allowed) in
    omega (arith, rest, here, z)

-- ## Two ends

abbrev pub work_of : ℕ → (ℕ → Bool) → ℕ → State → State → ℕ
work_of n E first a b =
    (line_remaining n E first a.table b.table a.line + line_remaining n E first b.table a.table b.line) + 2 * (calls n a.table + calls n b.table)

pub work_falls : (first : Cic) (ws : List ℕ) (x y : Bool) (E : ℕ → Bool) (a b a' : State) (l : List (List ℕ)) → Fitting (trunk first ws x) E
    → Inv first ws x y E a b → Receives (trunk first ws x) a b.line a' l
    → work_of (length ws * 32) E first.0 a' (with_line l b) < work_of (length ws * 32) E first.0 a b
work_falls first ws x y E a b a' l f i r =
    let t = trunk first ws x in
    let n = length ws * 32 in
    let T = a.table in
    let U = b.table in
    let m = r.move in
    let st = i.end_a.standing in
    let on = subst (AllOnLine t E) r.stood i.into in
    let msg = on.0.message in
    let p = on.0.passes in
    let given = lends a r.words r.octets in
    let ok = and_ok (admitted t (length a.held) given) _ m r.taken in
    let heard_it : heard t msg T ≡ Ok m = subst (λ d. and_then (raised d) (λ z. heard t z T) ≡ Ok m) on.0.read ok.2 in
    let sent = own_passes t E m.sent (heard_sent t E msg T m f st p heard_it) in
    let at = message_at t E T msg m f st p heard_it in
    let then = standing_after t E T m st (heard_allowed t msg T m heard_it) (heard_shift t E msg T m f at) in
    let off : (k : ℕ) → E k ≡ false → placed (table_of m T) k ≡ placed T k = λ k e. then.empty k e ∙ sym (st.empty k e) in
    let lower = falls t E msg T U m f st p.addressed heard_it (at, off) in
    let same = same_after t E msg T m at in
    let kept : Same E U U = λ k e why. refl in
    let out = line_up n E first.0 T (table_of m T) U U a.line same kept in
    let back = line_up n E first.0 U U T (table_of m T) l kept same in
    let new = remaining_sent t E n first.0 (table_of m T) U m.sent sent in
    let sum = remaining_append n E first.0 (table_of m T) U a.line (map encode m.sent) in
    let front = ap (line_remaining n E first.0 U T) r.stood in
    let read = ap (octets_remaining n E first.0 U T) on.0.read in
    let goal : work_of n E first.0 (after_move t m a) (with_line l b) < work_of n E first.0 a b = omega (arith, lower, out, back, new, sum, front, read) in
    subst (λ (s : State). work_of n E first.0 s (with_line l b) < work_of n E first.0 a b) (sym r.moved) goal
