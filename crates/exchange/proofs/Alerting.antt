-- The alert of an accepted operation is of a CIC that fits its word.
use Rattle.std.proofs.Common.{◌≡◌, ℕ, ◌+◌, ◌-◌, ◌*◌, ◌%◌, ◌<◌, ◌≤◌, Bool, true, false, cond, not, ◌&&◌, ◌||◌, eqb, leb, ltb, List, [], ◌∷◌, length, Some, None, Ok, Option, Result, subst, arith}
use Rattle.std.proofs.lemmas.Bool.{eqb-true, not-false, or_parts}
use Rattle.std.proofs.lemmas.Bool.Decides.{nat_tests}
use Rattle.status.specs.declared.cic.Cic.{Cic}
use Rattle.message.specs.Decode.{decode}
use Rattle.message.specs.Msg.{Msg, single, release_complete, release, call, grouped, group_reset, group_reset_ack}
use Rattle.message.specs.declared.kinds.CallKind.TheVariants.{Iam, Acm, Con, Anm, Cpg}
use Rattle.message.specs.declared.kinds.BlockType.{BlockType}
use Rattle.message.specs.declared.kinds.BlockType.TheVariants.{Maintenance}
use Rattle.message.specs.declared.kinds.Grouped.{Grouped}
use Rattle.message.specs.declared.kinds.Grouped.TheVariants.{Cgb, Cgu, Cgba, Cgua}
use Rattle.message.specs.declared.kinds.Single.TheVariants.{Rsc, Blo, Ubl, Bla, Uba}
use Rattle.circuit.specs.Circuits.{is_group, is_releasing, is_single}
use Rattle.circuit.specs.Laws.{allows}
use Rattle.circuit.specs.declared.record.Circuit.{Circuit}
use Rattle.circuit.specs.declared.record.Reset.TheVariants as waits
use Rattle.circuit.specs.declared.rules.Rule.TheVariants as rule
use Rattle.circuit.specs.declared.rules.Change.{Change}
use Rattle.circuit.specs.declared.rules.Rule.{Rule}
use Rattle.refusal.specs.declared.reasons.Refusal.{Refusal}
use Rattle.refusal.specs.declared.reasons.Refusal.TheVariants.{Address, Argument, Buffers, Places, State}
use Rattle.refusal.specs.Refusals.{raised, unless, and_then}
use Rattle.words.specs.declared.kinds.Timer.{Timer}
use Rattle.words.specs.declared.kinds.Timer.TheVariants.{T1, T5, T12, T13, T14, T15, T16, T17, T18, T19, T20, T21, T22, T23}
use Rattle.words.specs.Words.{timer_of}
use Rattle.supervision.specs.Answering.{Order, answer, seize, release as release_order, block, unblock, reset, group_block, group_unblock, group_reset as group_reset_order}
use Rattle.supervision.specs.declared.trunk.Config.{Config}
use Rattle.supervision.specs.Expiring.{alert_at, alerting, asked_for, expired, expiring, gives_up, lifting_for, repeating, repeats_group, repeats_one, repeats_reset, timed}
use Rattle.supervision.specs.Groups.{group_for, mask_by}
use Rattle.supervision.specs.Lending.{Lent}
use Rattle.supervision.specs.Moves.{Move, some_from}
use Rattle.supervision.specs.Orders.{admitted, cause_of, circuit_of, every_slot, group_message, groupwise, only, ordered, release_message, reset_message, singly, slots, type_of, why_of}
use Rattle.supervision.specs.Seizing.{may_ask, seizable}
use Rattle.supervision.specs.Receiving.{as_cic, heard, is_counted, is_range, marked, moving, nothing, receiving, to_range}
use Rattle.supervision.specs.Trunks.{first_of}
use Rattle.supervision.proofs.Accepted.{found_at, equipped_inside}
use Rattle.supervision.proofs.Allowing.{past, and_ok, same_move}

abbrev pub IsOfCic : Option (Timer × Cic) → Type 0
IsOfCic None = Unit {0}
IsOfCic (Some (timer, cic)) = cic.0 < 4096

-- whatever is accepted
pub record Fits (r : Result Move Refusal) : Type 0 where
  pub fits : (m : Move) → r ≡ Ok m → IsOfCic m.alert

unless_fits : (b : Bool) (e : Refusal) (x : Result Move Refusal) → (b ≡ false → Fits x) → Fits (unless b e x)
unless_fits b e x f = record { fits = λ m h. let p = past b e x m h in (f p.0).fits m p.1 }

-- an operation is accepted only on a table of the trunk's size, which it tests first
pub admitted_size : (t : Config) (room : ℕ) (l : Lent) (u : Unit {0}) → admitted t room l ≡ Ok u → length l.table ≡ t.systems * 32
admitted_size t room l u h =
    let p = past (ltb room (length l.table)) Places _ u h in
    let q = past (not (eqb (length l.table) (t.systems * 32)) || (ltb (length l.words) 96 || ltb (length l.octets) 320)) Buffers _ u p.1 in
    let r = or_parts (not (eqb (length l.table) (t.systems * 32))) (ltb (length l.words) 96 || ltb (length l.octets) 320) q.0 in
    eqb-true (length l.table) (t.systems * 32) (not-false _ r.0)

after_size : (t : Config) (room : ℕ) (l : Lent) (x : Result Move Refusal) → (length l.table ≡ t.systems * 32 → Fits x) → Fits (and_then (admitted t room l) (λ _. x))
after_size t room l x f = record { fits = λ m k. let p = and_ok (admitted t room l) (λ _. x) m k in (f (admitted_size t room l p.0 p.1)).fits m p.2 }

then_fits : {X : Type 0} (r : Result X Refusal) (f : X → Result Move Refusal) → ((x : X) → Fits (f x)) → Fits (and_then r f)
then_fits r f h = record { fits = λ m k. let p = and_ok r f m k in (h p.0).fits m p.2 }

ok_fits : (m : Move) → IsOfCic m.alert → Fits (Ok m)
ok_fits m f = record { fits = λ n h. subst (λ (x : Move). IsOfCic x.alert) (same_move m n h) f }

silent_fits : (named : ℕ → Bool) (rule : ℕ → Circuit → Change) (sent : List Msg) → Fits (Ok (moving named rule sent))
silent_fits named rule sent = ok_fits (moving named rule sent) (tt {0})

ordered_fits : (named : ℕ → Bool) (rule : Rule) (msg : Msg) → Fits (Ok (ordered named rule msg))
ordered_fits named rule msg = ok_fits (ordered named rule msg) (tt {0})

-- orders alert nobody
singly_fits : (t : Config) (cic : Cic) (r : Rule) (msg : Msg) (T : List Circuit) → Fits (singly t cic r msg T)
singly_fits t cic r msg T =
    unless_fits (not (circuit_of t cic T).equipped) Address _ (λ e. unless_fits (not (allows r (circuit_of t cic T))) State _ (λ e. ordered_fits (only t cic) r msg))

groupwise_fits : (t : Config) (system mask : ℕ) (r : Rule) (msg : Msg) (T : List Circuit) → Fits (groupwise t system mask r msg T)
groupwise_fits t system mask r msg T =
    unless_fits (leb t.systems system) Address _ (λ e. unless_fits (eqb (mask % 2) 1) Address _ (λ e.
    unless_fits (some_from (λ k c. slots system mask k && not c.equipped) 0 T) Address _ (λ e.
    unless_fits (some_from (λ k c. slots system mask k && not (allows r c)) 0 T) State _ (λ e. ordered_fits (slots system mask) r msg))))

pub order_fits : (t : Config) (room : ℕ) (o : Order) (l : Lent) → Fits (answer t room o l)
order_fits t room (seize body choice) l =
    then_fits (may_ask t room body l) _ (λ u. then_fits (seizable choice l.table) _ (λ place. ordered_fits (λ k. eqb k place.0) rule.Seize (call (t.first.0 + place.0) Iam body)))
order_fits t room (release_order cic location value) l =
    then_fits (admitted t room l) _ (λ u. then_fits (cause_of location value) _ (λ cause. singly_fits t cic (rule.Release cause) (release_message cic.0 cause) l.table))
order_fits t room (block cic) l = then_fits (admitted t room l) _ (λ u. singly_fits t cic (rule.Block Maintenance) (single cic.0 Blo) l.table)
order_fits t room (unblock cic) l = then_fits (admitted t room l) _ (λ u. singly_fits t cic (rule.Unblock Maintenance) (single cic.0 Ubl) l.table)
order_fits t room (reset cic) l = then_fits (admitted t room l) _ (λ u. singly_fits t cic (rule.Reset waits.Single) (single cic.0 Rsc) l.table)
order_fits t room (group_block kind system mask) l =
    then_fits (admitted t room l) _ (λ u. then_fits (type_of kind mask) _ (λ why. groupwise_fits t system mask (rule.Block why) (group_message t system Cgb why mask) l.table))
order_fits t room (group_unblock kind system mask) l =
    then_fits (admitted t room l) _ (λ u. then_fits (type_of kind mask) _ (λ why. groupwise_fits t system mask (rule.Unblock why) (group_message t system Cgu why mask) l.table))
order_fits t room (group_reset_order system) l =
    then_fits (admitted t room l) _ (λ u. unless_fits (leb t.systems system) Address _ (λ e. ordered_fits (slots system every_slot) (rule.Reset waits.Group) (reset_message t system)))

-- nor do messages
one_fits : (t : Config) (c : ℕ) (T : List Circuit) (named : ℕ → Bool) (rule : ℕ → Circuit → Change) (sent : List Msg) → Fits (unless (not (circuit_of t (as_cic c) T).equipped) Address (Ok (moving named rule sent)))
one_fits t c T named rule sent = unless_fits (not (circuit_of t (as_cic c) T).equipped) Address _ (λ e. silent_fits named rule sent)

range_fits : (t : Config) (c r : ℕ) (s : List ℕ) (T : List Circuit) (x : Move) → Fits (Ok x) → Fits (to_range t c r s x T)
range_fits t c r s T x f =
    unless_fits (not (is_range t c r)) Address _ (λ e. unless_fits (some_from (λ k y. marked t c r s k && not y.equipped) 0 T) Address _ (λ e. f))

counted_fits : (b : Bool) (named : ℕ → Bool) (rule : ℕ → Circuit → Change) (sent : List Msg) → Fits (Ok (cond b (moving named rule sent) nothing))
counted_fits true named rule sent = silent_fits named rule sent
counted_fits false named rule sent = ok_fits nothing (tt {0})

heard_fits : (t : Config) (msg : Msg) (T : List Circuit) → Fits (heard t msg T)
heard_fits t (single c Blo) T = one_fits t c T _ _ _
heard_fits t (single c Ubl) T = one_fits t c T _ _ _
heard_fits t (single c Bla) T = one_fits t c T _ _ _
heard_fits t (single c Uba) T = one_fits t c T _ _ _
heard_fits t (single c Rsc) T = one_fits t c T _ _ _
heard_fits t (release_complete c) T = one_fits t c T _ _ _
heard_fits t (release c cause) T = one_fits t c T _ _ _
heard_fits t (call c Iam body) T = one_fits t c T _ _ _
heard_fits t (call c Acm body) T = one_fits t c T _ _ _
heard_fits t (call c Con body) T = one_fits t c T _ _ _
heard_fits t (call c Anm body) T = one_fits t c T _ _ _
heard_fits t (call c Cpg body) T = one_fits t c T _ _ _
heard_fits t (grouped c Cgb i r s) T = range_fits t c r s T _ (silent_fits _ _ _)
heard_fits t (grouped c Cgu i r s) T = range_fits t c r s T _ (silent_fits _ _ _)
heard_fits t (grouped c Cgba i r s) T = range_fits t c r s T _ (silent_fits _ _ _)
heard_fits t (grouped c Cgua i r s) T = range_fits t c r s T _ (silent_fits _ _ _)
heard_fits t (group_reset c r) T = range_fits t c r [] T _ (silent_fits _ _ _)
heard_fits t (group_reset_ack c r s) T = range_fits t c r s T _ (counted_fits (is_counted t c r) _ _ _)

pub receipt_fits : (t : Config) (room : ℕ) (octets : List ℕ) (l : Lent) → Fits (receiving t room octets l)
receipt_fits t room octets l = then_fits (admitted t room l) _ (λ u. then_fits (raised (decode octets)) _ (λ m. heard_fits t m l.table))

-- the numbers and the table of an open trunk
pub record Bounded (t : Config) (T : List Circuit) : Type 0 where
  pub table : length T ≡ t.systems * 32
  pub cics : t.first.0 + t.systems * 32 ≤ 4096

-- a circuit that is found is of the trunk
found : (t : Config) (c : ℕ) (T : List Circuit) → Bounded t T → not (circuit_of t (as_cic c) T).equipped ≡ false → c < 4096
found t c T b e =
    let f = found_at t (as_cic c) T (not-false (circuit_of t (as_cic c) T).equipped e) in
    let q = not-false (circuit_of t (as_cic c) T).equipped e in
    let i = equipped_inside T (c - t.first.0) (rw f.1 at q) in
    omega (arith, f.0, i, b.table, b.cics)

system_fits : (t : Config) (system : ℕ) (T : List Circuit) → Bounded t T → leb t.systems system ≡ false → first_of t system < 4096
system_fits t system T b e = let l = small t.systems system e in omega (arith, l, b.cics)
  where
    small : (n k : ℕ) → leb n k ≡ false → k < n
    small n k e = grind (arith, nat_tests)

repeats : (b : Bool) (sent : List Msg) (alert : Option (Timer × Cic)) → IsOfCic alert → Fits (Ok (cond b (repeating sent alert) nothing))
repeats true sent alert a = ok_fits (repeating sent alert) a
repeats false sent alert a = ok_fits nothing (tt {0})

repeats_not : (b : Bool) (sent : List Msg) (alert : Option (Timer × Cic)) → IsOfCic alert → Fits (Ok (cond b nothing (repeating sent alert)))
repeats_not true sent alert a = ok_fits nothing (tt {0})
repeats_not false sent alert a = ok_fits (repeating sent alert) a

-- T5 alerts, where its reset is done
gives_up_fits : (b : Bool) (x : Result Move Refusal) (alert : Option (Timer × Cic)) → IsOfCic alert → Fits (cond b (and_then x (λ m. Ok (alerting alert m))) (Ok nothing))
gives_up_fits true x alert a = then_fits x _ (λ m. ok_fits (alerting alert m) a)
gives_up_fits false x alert a = ok_fits nothing (tt {0})

one_again : (t : Config) (c : ℕ) (waits : Circuit → Bool) (message : Circuit → Msg) (alert : Option (Timer × Cic)) (T : List Circuit) → (not (circuit_of t (as_cic c) T).equipped ≡ false → IsOfCic alert)
    → Fits (repeats_one t c waits message alert T)
one_again t c waits message alert T a =
    let x = circuit_of t (as_cic c) T in
    unless_fits (not x.equipped) Address _ (λ e. repeats (waits x) (message x ∷ []) alert (a e))

group_again : (t : Config) (system kind : ℕ) (what : Grouped) (waits : BlockType → Circuit → Bool) (alert : Option (Timer × Cic)) (T : List Circuit) → (leb t.systems system ≡ false → IsOfCic alert)
    → Fits (repeats_group t system kind what waits alert T)
group_again t system kind what waits alert T a =
    let p = λ (k : ℕ) (x : Circuit). x.equipped && waits (why_of kind) x in
    unless_fits (ltb 1 kind) Argument _ (λ e. unless_fits (leb t.systems system) Address _ (λ e.
    repeats_not (eqb (mask_by p system T) 0) (group_for t what (why_of kind) p system T) alert (a e)))

reset_again : (t : Config) (system : ℕ) (alert : Option (Timer × Cic)) (T : List Circuit) → (leb t.systems system ≡ false → IsOfCic alert) → Fits (repeats_reset t system alert T)
reset_again t system alert T a =
    unless_fits (leb t.systems system) Address _ (λ e.
    repeats_not (eqb (mask_by (λ _ x. x.equipped && is_group x.reset) system T) 0) (reset_message t system ∷ []) alert (a e))

give_up_fits : (t : Config) (c : ℕ) (T : List Circuit) → Bounded t T → Fits (gives_up t c T)
give_up_fits t c T b =
    let x = circuit_of t (as_cic c) T in
    unless_fits (not x.equipped) Address _ (λ e. gives_up_fits (is_releasing x.call) (singly t (as_cic c) (rule.Reset waits.Single) (single c Rsc) T) (alert_at T5 c) (found t c T b e))

timer_fits : (t : Config) (timer : Timer) (at kind : ℕ) (T : List Circuit) → Bounded t T → Fits (expired t timer at kind T)
timer_fits t T1 at kind T b = one_again t at (λ x. is_releasing x.call) (λ x. release_message at x.cause) None T (λ e. tt {0})
timer_fits t T5 at kind T b = give_up_fits t at T b
timer_fits t T12 at kind T b = one_again t at (asked_for Maintenance) (λ _. single at Blo) None T (λ e. tt {0})
timer_fits t T13 at kind T b = one_again t at (asked_for Maintenance) (λ _. single at Blo) (alert_at T13 at) T (found t at T b)
timer_fits t T14 at kind T b = one_again t at (lifting_for Maintenance) (λ _. single at Ubl) None T (λ e. tt {0})
timer_fits t T15 at kind T b = one_again t at (lifting_for Maintenance) (λ _. single at Ubl) (alert_at T15 at) T (found t at T b)
timer_fits t T16 at kind T b = one_again t at (λ x. is_single x.reset) (λ _. single at Rsc) None T (λ e. tt {0})
timer_fits t T17 at kind T b = one_again t at (λ x. is_single x.reset) (λ _. single at Rsc) (alert_at T17 at) T (found t at T b)
timer_fits t T18 at kind T b = group_again t at kind Cgb asked_for None T (λ e. tt {0})
timer_fits t T19 at kind T b = group_again t at kind Cgb asked_for (alert_at T19 (first_of t at)) T (system_fits t at T b)
timer_fits t T20 at kind T b = group_again t at kind Cgu lifting_for None T (λ e. tt {0})
timer_fits t T21 at kind T b = group_again t at kind Cgu lifting_for (alert_at T21 (first_of t at)) T (system_fits t at T b)
timer_fits t T22 at kind T b = reset_again t at None T (λ e. tt {0})
timer_fits t T23 at kind T b = reset_again t at (alert_at T23 (first_of t at)) T (system_fits t at T b)

pub expiry_fits : (t : Config) (room timer at kind : ℕ) (l : Lent) → (length l.table ≡ t.systems * 32 → Bounded t l.table) → Fits (expiring t room timer at kind l)
expiry_fits t room timer at kind l b =
    after_size t room l _ (λ n. then_fits (timed (timer_of timer)) _ (λ x. timer_fits t x at kind l.table (b n)))
