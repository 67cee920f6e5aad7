-- At each circuit, an accepted operation does what its event there does.
use Rattle.std.proofs.Common.{◌≡◌, ℕ, ◌+◌, ◌-◌, ◌<◌, ◌≤◌, Bool, true, false, cond, not, ◌&&◌, ◌||◌, eqb, ltb, leb, List, [], ◌∷◌, ◌++◌, length, Some, None, Ok, Err, Option, Result, sym, refl, ap, ◌∙◌, subst, ⊎_elim, arith}
use Rattle.std.proofs.lemmas.Bool.{eqb-true, not-false, false≢true, cases_lt}
use Rattle.std.proofs.lemmas.List.{get_or_past}
use Rattle.status.specs.Bits.{is_named}
use Rattle.status.specs.declared.cic.Cic.{Cic}
use Rattle.message.specs.Decode.{decode}
use Rattle.message.specs.Msg.{Msg, single, release_complete, group_reset, group_reset_ack, grouped, release, call}
use Rattle.message.specs.declared.fault.MessageFault.{MessageFault}
use Rattle.message.specs.declared.kinds.BlockType.{BlockType}
use Rattle.message.specs.declared.kinds.BlockType.TheVariants.{Maintenance, Hardware}
use Rattle.message.specs.declared.kinds.CallKind.TheVariants.{Iam, Acm, Con, Anm, Cpg}
use Rattle.message.specs.declared.kinds.Grouped.{Grouped}
use Rattle.message.specs.declared.kinds.Grouped.TheVariants.{Cgb, Cgu, Cgba, Cgua}
use Rattle.message.specs.declared.kinds.Single.TheVariants.{Rsc, Blo, Ubl, Bla, Uba}
use Rattle.policy.specs.declared.interface.Place.{Place}
use Rattle.circuit.specs.Changes.{quiet}
use Rattle.circuit.specs.Circuits.{block_of, is_group, is_none, is_open, is_releasing, is_standing, vacant}
use Rattle.circuit.specs.Laws.{allows}
use Rattle.circuit.specs.Orders.{applied}
use Rattle.circuit.specs.Signals.{on_iam, on_progress, on_rel, on_rlc, on_far_block, on_far_unblock, on_block_ack, on_unblock_ack, on_rsc, on_grs, on_gra}
use Rattle.circuit.specs.declared.record.Circuit.{Circuit}
use Rattle.circuit.specs.declared.record.CauseOctets.{CauseOctets}
use Rattle.circuit.specs.declared.record.Reset.TheVariants as reset
use Rattle.circuit.specs.declared.rules.Change.{Change}
use Rattle.circuit.specs.declared.rules.Rule.{Rule}
use Rattle.circuit.specs.declared.rules.Rule.TheVariants as rule
use Rattle.words.specs.Words.{timer_of}
use Rattle.words.specs.declared.kinds.Timer.{Timer}
use Rattle.words.specs.declared.kinds.Timer.TheVariants.{T1, T5, T12, T13, T14, T15, T16, T17, T18, T19, T20, T21, T22, T23}
use Rattle.refusal.specs.declared.reasons.Refusal.{Refusal}
use Rattle.refusal.specs.declared.reasons.Refusal.TheVariants.{Address, State, Argument, Choice}
use Rattle.refusal.specs.Refusals.{raised, unless, and_then}
use Rattle.supervision.specs.Answering.{Order, answer, seize, release as order_release, block, unblock, reset as order_reset, group_block, group_unblock, group_reset as order_group_reset}
use Rattle.supervision.specs.Expiring.{repeating, repeats_group, repeats_reset, asked_for, lifting_for, alert_at, alerting, gives_up, expired, timed}
use Rattle.supervision.specs.Groups.{mask_by, group_for, groups, status_by}
use Rattle.supervision.specs.Lending.{Lent}
use Rattle.supervision.specs.Moves.{Move, some_from, step_of}
use Rattle.supervision.specs.Orders.{admitted, circuit_of, ordered, only, singly, cause_of, release_message, slots, every_slot, group_message, reset_message, groupwise, why_of, type_of, clearing}
use Rattle.supervision.specs.Receiving.{as_cic, moving, nothing, is_range, in_range, marked, to_range, is_counted, shows, heard}
use Rattle.supervision.specs.Seizing.{may_ask, seizable, seizing}
use Rattle.supervision.specs.Trunks.{controls, first_of, placed}
use Rattle.supervision.specs.declared.trunk.Config.{Config}
use Rattle.supervision.proofs.Allowing.{past, same_move, and_ok, at_place, accepted}
use Rattle.laws.specs.Calls.{is_ours}
use Rattle.laws.specs.Events as on
use Rattle.laws.specs.Events.{Event, when, Operation, order, receive, expire, answered, event, type_told, names, within, in_mask, in_system, counts, heard_as, expired_as}
use Rattle.laws.proofs.Effect.{effect, may}
use Rattle.laws.proofs.Places.{not_below, one_named, range_from, range_named, offset, status_named, system_named, type_named, control_named}

-- what is done to c is what the event does, and the circuit allows it
pub record Meets (ours : Bool) (e : Event) (c : Circuit) (d : Change) : Type 0 where
  pub did : d ≡ effect ours e c
  pub fit : may e c ≡ true

-- the same of a move, at the place k
abbrev pub MeetsAt : Config → List Circuit → Move → ℕ → Event → Type 0
MeetsAt t T m k e = Meets (is_ours t.higher (t.first.0 + k)) e (placed T k) (step_of m k (placed T k))

still : (ours : Bool) (c : Circuit) → Meets ours on.nothing c (quiet c)
still ours c = record { did = refl; fit = refl }

-- named or not
named : (ours : Bool) (e : Event) (c : Circuit) (n : Bool) (d : Change) → c.equipped ≡ true → (n ≡ true → Meets ours e c d)
    → Meets ours (when n e) c (cond (c.equipped && n) d (quiet c))
named ours e c n d q h = go c.equipped n q h
  where
    go : (a b : Bool) → a ≡ true → (b ≡ true → Meets ours e c d) → Meets ours (when b e) c (cond (a && b) d (quiet c))
    go true true q g = g refl
    go true false q g = still ours c
    go false b q g = absurd (false≢true q)

-- a move whose names are those of the law
at_named : (t : Config) (T : List Circuit) (m : Move) (k : ℕ) (e : Event) (b : Bool) → (placed T k).equipped ≡ true → m.named k ≡ b
    → (m.named k ≡ true → Meets (is_ours t.higher (t.first.0 + k)) e (placed T k) (m.rule k (placed T k))) → MeetsAt t T m k (when b e)
at_named t T m k e b q n h = subst (λ (x : Bool). MeetsAt t T m k (when x e)) n (named (is_ours t.higher (t.first.0 + k)) e (placed T k) (m.named k) (m.rule k (placed T k)) q h)

at_none : (t : Config) (T : List Circuit) (m : Move) (k : ℕ) → (placed T k).equipped ≡ true → m.named k ≡ false → MeetsAt t T m k on.nothing
at_none t T m k q n = at_named t T m k on.nothing false q n (λ h. absurd (false≢true (sym n ∙ h)))

-- ## Orders

-- what an order does is what its event does
record Orders (r : Rule) (e : Event) : Type 0 where
  does : (ours : Bool) (c : Circuit) → applied r c ≡ effect ours e c
  asks : (c : Circuit) → allows r c ≡ true → may e c ≡ true

one_ordered : (t : Config) (cic : Cic) (r : Rule) (e : Event) (msg : Msg) (T : List Circuit) (m : Move) (k : ℕ) → Orders r e
    → singly t cic r msg T ≡ Ok m → (placed T k).equipped ≡ true → MeetsAt t T m k (when (eqb cic.0 (t.first.0 + k)) e)
one_ordered t cic r e msg T m k o h q =
    let x = circuit_of t cic T in
    let found = past (not x.equipped) Address _ m h in
    let fit = past (not (allows r x)) State _ m found.1 in
    let has : x.equipped ≡ true = not-false x.equipped found.0 in
    let l = not_below t cic T has in
    let at = at_place t cic T has in
    subst (λ (y : Move). MeetsAt t T y k (when (eqb cic.0 (t.first.0 + k)) e)) (same_move (ordered (only t cic) r msg) m fit.1)
    (at_named t T (ordered (only t cic) r msg) k e (eqb cic.0 (t.first.0 + k)) q (one_named t.first.0 cic.0 k l)
    (λ n. let z : k ≡ cic.0 - t.first.0 = eqb-true k (cic.0 - t.first.0) n in
    let here : x ≡ placed T k = at ∙ ap (placed T) (sym z) in
    record { did = o.does (is_ours t.higher (t.first.0 + k)) (placed T k); fit = o.asks (placed T k) (rw here at (not-false (allows r x) fit.0)) }))

group_ordered : (t : Config) (system mask : ℕ) (r : Rule) (e : Event) (msg : Msg) (T : List Circuit) (m : Move) (k : ℕ) → Orders r e
    → groupwise t system mask r msg T ≡ Ok m → k < length T → (placed T k).equipped ≡ true → MeetsAt t T m k (when (in_mask system mask k) e)
group_ordered t system mask r e msg T m k o h l q =
    let w = accepted t system mask r msg T m h in
    subst (λ (y : Move). MeetsAt t T y k (when (in_mask system mask k) e)) (sym w.0)
    (at_named t T (ordered (slots system mask) r msg) k e (in_mask system mask k) q refl
    (λ n. record { did = o.does (is_ours t.higher (t.first.0 + k)) (placed T k); fit = o.asks (placed T k) (w.2 k n l).1 }))

type_ordered : (f : BlockType → Rule) (g : BlockType → Event) (what : Grouped) (t : Config) (kind system mask : ℕ) (T : List Circuit) (m : Move) (k : ℕ)
    → ((why : BlockType) → Orders (f why) (g why))
    → and_then (type_of kind mask) (λ why. groupwise t system mask (f why) (group_message t system what why mask) T) ≡ Ok m
    → k < length T → (placed T k).equipped ≡ true → MeetsAt t T m k (when (in_mask system mask k) (g (type_told kind)))
type_ordered f g what t kind system mask T m k o h l q =
    let a = and_ok (type_of kind mask) (λ why. groupwise t system mask (f why) (group_message t system what why mask) T) m h in
    let b = past (ltb 1 kind || eqb mask 0) Argument (Ok (why_of kind)) a.0 a.1 in
    let z : type_told kind ≡ a.0 = sym (type_named kind) ∙ same_type (why_of kind) a.0 b.1 in
    rw z (group_ordered t system mask (f a.0) (g a.0) (group_message t system what a.0 mask) T m k (o a.0) a.2 l q)
  where
    same_type : (x y : BlockType) → ◌≡◌ {A = Result BlockType Refusal} (Ok x) (Ok y) → x ≡ y
    same_type x y e = cc

block_orders : (why : BlockType) → Orders (rule.Block why) (on.blocked why)
block_orders why = record { does = λ ours c. refl; asks = λ c h. h }

unblock_orders : (why : BlockType) → Orders (rule.Unblock why) (on.unblocked why)
unblock_orders why = record { does = λ ours c. refl; asks = λ c h. h }

reset_orders : Orders (rule.Reset reset.Single) on.circuit_reset
reset_orders = record { does = λ ours c. refl; asks = λ c h. h }

release_orders : (cause : CauseOctets) → Orders (rule.Release cause) (on.released cause)
release_orders cause = record { does = λ ours c. refl; asks = λ c h. h }

clear_ordered : (t : Config) (system : ℕ) (T : List Circuit) (m : Move) (k : ℕ) → clearing t system ≡ Ok m → (placed T k).equipped ≡ true
    → MeetsAt t T m k (when (in_system system k) on.system_reset)
clear_ordered t system T m k h q =
    let x = ordered (slots system every_slot) (rule.Reset reset.Group) (reset_message t system) in
    subst (λ (y : Move). MeetsAt t T y k (when (in_system system k) on.system_reset)) (same_move x m (past (leb t.systems system) Address _ m h).1)
    (at_named t T x k on.system_reset (in_system system k) q (system_named system k) (λ n. record { did = refl; fit = refl }))

seize_ordered : (t : Config) (body : List ℕ) (choice : Option Place) (T : List Circuit) (m : Move) (k : ℕ) → seizing t body choice T ≡ Ok m → (placed T k).equipped ≡ true
    → MeetsAt t T m k (on.ordered t.first.0 (seize body choice) k)
seize_ordered t body None T m k h q = let z : ◌≡◌ {A = ℕ} 0 1 = cc in absurd (omega arith)
seize_ordered t body (Some place) T m k h q =
    let x = λ (p : Place). ordered (λ j. eqb j p.0) rule.Seize (call (t.first.0 + p.0) Iam body) in
    let a = and_ok (seizable (Some place) T) (λ (p : Place). Ok (x p)) m h in
    let b = past (not (is_open (placed T place.0))) Choice (Ok place) a.0 a.1 in
    let z : place ≡ a.0 = same_place place a.0 b.1 in
    let may_be : is_open (placed T place.0) ≡ true = not-false (is_open (placed T place.0)) b.0 in
    subst (λ (y : Move). MeetsAt t T y k (when (eqb place.0 k) on.seized)) (ap x z ∙ same_move (x a.0) m a.2)
    (at_named t T (x place) k on.seized (eqb place.0 k) q (turned k place.0)
    (λ n. let e : k ≡ place.0 = eqb-true k place.0 n in record { did = refl; fit = rw e may_be }))
  where
    same_place : (p r : Place) → ◌≡◌ {A = Result Place Refusal} (Ok p) (Ok r) → p ≡ r
    same_place p r e = cc

    turned : (a b : ℕ) → eqb a b ≡ eqb b a
    turned a b = grind arith

-- any order
pub order_met : (t : Config) (room : ℕ) (o : Order) (l : Lent) (m : Move) (k : ℕ) → answer t room o l ≡ Ok m → k < length l.table → (placed l.table k).equipped ≡ true
    → MeetsAt t l.table m k (on.ordered t.first.0 o k)
order_met t room (seize body choice) l m k h b q =
    seize_ordered t body choice l.table m k (and_ok (may_ask t room body l) (λ _. seizing t body choice l.table) m h).2 q
order_met t room (order_release cic location value) l m k h b q =
    let a = (and_ok (admitted t room l)
    (λ _. and_then (cause_of location value) (λ cause. singly t cic (rule.Release cause) (release_message cic.0 cause) l.table)) m h).2 in
    let c = and_ok (cause_of location value) (λ cause. singly t cic (rule.Release cause) (release_message cic.0 cause) l.table) m a in
    let d = past (ltb 15 location || ltb 127 value) Argument _ c.0 c.1 in
    let z = same_cause _ c.0 d.1 in
    rw z (one_ordered t cic (rule.Release c.0) (on.released c.0) (release_message cic.0 c.0) l.table m k (release_orders c.0) c.2 q)
  where
    same_cause : (x y : CauseOctets) → ◌≡◌ {A = Result CauseOctets Refusal} (Ok x) (Ok y) → x ≡ y
    same_cause x y e = cc
order_met t room (block cic) l m k h b q =
    one_ordered t cic (rule.Block Maintenance) (on.blocked Maintenance) (single cic.0 Blo) l.table m k (block_orders Maintenance)
    (and_ok (admitted t room l) (λ _. singly t cic (rule.Block Maintenance) (single cic.0 Blo) l.table) m h).2 q
order_met t room (unblock cic) l m k h b q =
    one_ordered t cic (rule.Unblock Maintenance) (on.unblocked Maintenance) (single cic.0 Ubl) l.table m k (unblock_orders Maintenance)
    (and_ok (admitted t room l) (λ _. singly t cic (rule.Unblock Maintenance) (single cic.0 Ubl) l.table) m h).2 q
order_met t room (order_reset cic) l m k h b q =
    one_ordered t cic (rule.Reset reset.Single) on.circuit_reset (single cic.0 Rsc) l.table m k reset_orders
    (and_ok (admitted t room l) (λ _. singly t cic (rule.Reset reset.Single) (single cic.0 Rsc) l.table) m h).2 q
order_met t room (group_block kind system mask) l m k h b q =
    type_ordered rule.Block on.blocked Cgb t kind system mask l.table m k block_orders (and_ok (admitted t room l) _ m h).2 b q
order_met t room (group_unblock kind system mask) l m k h b q =
    type_ordered rule.Unblock on.unblocked Cgu t kind system mask l.table m k unblock_orders (and_ok (admitted t room l) _ m h).2 b q
order_met t room (order_group_reset system) l m k h b q = clear_ordered t system l.table m k (and_ok (admitted t room l) (λ _. clearing t system) m h).2 q

-- ## Messages

one_heard : (t : Config) (c : ℕ) (f : Circuit → Change) (sent : List Msg) (e : Event) (T : List Circuit) (m : Move) (k : ℕ)
    → unless (not (circuit_of t (as_cic c) T).equipped) Address (Ok (moving (only t (as_cic c)) (λ _. f) sent)) ≡ Ok m → (placed T k).equipped ≡ true
    → (c ≡ t.first.0 + k → Meets (is_ours t.higher (t.first.0 + k)) e (placed T k) (f (placed T k)))
    → MeetsAt t T m k (when (eqb c (t.first.0 + k)) e)
one_heard t c f sent e T m k h q a =
    let x = circuit_of t (as_cic c) T in
    let found = past (not x.equipped) Address _ m h in
    let l = not_below t (as_cic c) T (not-false x.equipped found.0) in
    let n = one_named t.first.0 c k l in
    subst (λ (y : Move). MeetsAt t T y k (when (eqb c (t.first.0 + k)) e)) (same_move (moving (only t (as_cic c)) (λ _. f) sent) m found.1)
    (at_named t T (moving (only t (as_cic c)) (λ _. f) sent) k e (eqb c (t.first.0 + k)) q n
    (λ b. a (eqb-true c (t.first.0 + k) (sym n ∙ b))))

range_heard : (t : Config) (c r : ℕ) (s : List ℕ) (x : Move) (T : List Circuit) (m : Move) (k : ℕ) (e : Event)
    → to_range t c r s x T ≡ Ok m → (t.first.0 ≤ c → MeetsAt t T x k e) → MeetsAt t T m k e
range_heard t c r s x T m k e h a =
    let inside = past (not (is_range t c r)) Address _ m h in
    let found = past (some_from (λ j y. marked t c r s j && not y.equipped) 0 T) Address _ m inside.1 in
    subst (λ (y : Move). MeetsAt t T y k e) (same_move x m found.1) (a (range_from t c r (not-false (is_range t c r) inside.0)))

status_heard : (t : Config) (c r : ℕ) (s : List ℕ) (f : BlockType → Circuit → Change) (g : BlockType → Event) (i : ℕ) (sent : List Msg) (T : List Circuit) (m : Move) (k : ℕ)
    → to_range t c r s (moving (marked t c r s) (λ _. f (why_of i)) sent) T ≡ Ok m → (placed T k).equipped ≡ true
    → ((why : BlockType) (ours : Bool) → Meets ours (g why) (placed T k) (f why (placed T k)))
    → MeetsAt t T m k (when (names c r s (t.first.0 + k)) (g (type_told i)))
status_heard t c r s f g i sent T m k h q a =
    range_heard t c r s (moving (marked t c r s) (λ _. f (why_of i)) sent) T m k (when (names c r s (t.first.0 + k)) (g (type_told i))) h
    (λ l. rw (← type_named i)
    (at_named t T (moving (marked t c r s) (λ _. f (why_of i)) sent) k (g (why_of i)) (names c r s (t.first.0 + k)) q (status_named t c r s k l)
    (λ n. a (why_of i) (is_ours t.higher (t.first.0 + k)))))

choose_heard : (t : Config) (T : List Circuit) (k : ℕ) (b w : Bool) (x : Move) (e : Event) → (placed T k).equipped ≡ true
    → MeetsAt t T x k (when w e) → MeetsAt t T (cond b x nothing) k (when (b && w) e)
choose_heard t T k true w x e q h = h
choose_heard t T k false w x e q h = at_none t T nothing k q refl

pub heard_met : (t : Config) (msg : Msg) (T : List Circuit) (m : Move) (k : ℕ) → heard t msg T ≡ Ok m → (placed T k).equipped ≡ true
    → MeetsAt t T m k (heard_as t.first.0 msg (t.first.0 + k))
heard_met t (single c Blo) T m k h q = one_heard t c (on_far_block Maintenance) _ (on.blo Maintenance) T m k h q (λ e. record { did = refl; fit = refl })
heard_met t (single c Ubl) T m k h q = one_heard t c (on_far_unblock Maintenance) _ (on.ubl Maintenance) T m k h q (λ e. record { did = refl; fit = refl })
heard_met t (single c Bla) T m k h q = one_heard t c (on_block_ack Maintenance) _ (on.bla Maintenance) T m k h q (λ e. record { did = refl; fit = refl })
heard_met t (single c Uba) T m k h q = one_heard t c (on_unblock_ack Maintenance) _ (on.uba Maintenance) T m k h q (λ e. record { did = refl; fit = refl })
heard_met t (single c Rsc) T m k h q = one_heard t c on_rsc _ on.rsc T m k h q (λ e. record { did = refl; fit = refl })
heard_met t (release_complete c) T m k h q = one_heard t c on_rlc _ on.rlc T m k h q (λ e. record { did = refl; fit = refl })
heard_met t (release c cause) T m k h q = one_heard t c on_rel _ on.rel T m k h q (λ e. record { did = refl; fit = refl })
heard_met t (call c Iam body) T m k h q =
    one_heard t c (on_iam (controls t (as_cic c))) _ on.iam T m k h q
    (λ e. record { did = ap (λ b. on_iam b (placed T k)) (control_named t (as_cic c) ∙ ap (is_ours t.higher) e); fit = refl })
heard_met t (call c Acm body) T m k h q = one_heard t c on_progress _ on.progress T m k h q (λ e. record { did = refl; fit = refl })
heard_met t (call c Con body) T m k h q = one_heard t c on_progress _ on.progress T m k h q (λ e. record { did = refl; fit = refl })
heard_met t (call c Anm body) T m k h q = one_heard t c on_progress _ on.progress T m k h q (λ e. record { did = refl; fit = refl })
heard_met t (call c Cpg body) T m k h q = one_heard t c on_progress _ on.progress T m k h q (λ e. record { did = refl; fit = refl })
heard_met t (grouped c Cgb i r s) T m k h q = status_heard t c r s on_far_block on.blo i
    (grouped c Cgba i r s ∷ []) T m k h q
    (λ why ours. record { did = refl; fit = refl })
heard_met t (grouped c Cgu i r s) T m k h q = status_heard t c r s on_far_unblock on.ubl i
    (grouped c Cgua i r s ∷ []) T m k h q
    (λ why ours. record { did = refl; fit = refl })
heard_met t (grouped c Cgba i r s) T m k h q = status_heard t c r s on_block_ack on.bla i
    (groups t Cgu (why_of i) (λ j x. marked t c r s j && is_none (block_of (why_of i) x.local)) T) T m k h q
    (λ why ours. record { did = refl; fit = refl })
heard_met t (grouped c Cgua i r s) T m k h q = status_heard t c r s on_unblock_ack on.uba i
    (groups t Cgb (why_of i) (λ j x. marked t c r s j && is_standing (block_of (why_of i) x.local)) T) T m k h q
    (λ why ours. record { did = refl; fit = refl })
heard_met t (group_reset c r) T m k h q =
    let x = moving (in_range t c r) (λ _. on_grs)
    (groups t Cgb Hardware (λ j y. y.equipped && (in_range t c r j && is_standing y.local.hardware)) T
    ++ (group_reset_ack c r (status_by (λ n. shows (circuit_of t (as_cic (c + n)) T)) r) ∷ [])) in
    range_heard t c r [] x T m k (when (within c r (t.first.0 + k)) on.grs) h
    (λ l. at_named t T x k on.grs (within c r (t.first.0 + k)) q (range_named t c r k l) (λ n. record { did = refl; fit = refl }))
heard_met t (group_reset_ack c r s) T m k h q =
    let x = moving (in_range t c r) (λ j. on_gra (is_named r s (j - (c - t.first.0)))) [] in
    let e = on.gra (is_named r s (t.first.0 + k - c)) in
    range_heard t c r s (cond (is_counted t c r) x nothing) T m k (when (counts t.first.0 c r && within c r (t.first.0 + k)) e) h
    (λ l. choose_heard t T k (is_counted t c r) (within c r (t.first.0 + k)) x e q
    (at_named t T x k e (within c r (t.first.0 + k)) q (range_named t c r k l)
    (λ n. record { did = ap (λ (j : ℕ). on_gra (is_named r s j) (placed T k)) (offset t.first.0 c k l); fit = refl })))

-- ## Expiries

-- no circuit is changed by a message that is repeated, or not
choose_none : (t : Config) (T : List Circuit) (k : ℕ) (b : Bool) (x y : Move) → (placed T k).equipped ≡ true → ((j : ℕ) → x.named j ≡ false) → ((j : ℕ) → y.named j ≡ false)
    → MeetsAt t T (cond b x y) k on.nothing
choose_none t T k true x y q f g = at_none t T x k q (f k)
choose_none t T k false x y q f g = at_none t T y k q (g k)

one_repeated : (t : Config) (c : ℕ) (waits : Bool) (sent : List Msg) (alert : Option (Timer × Cic)) (T : List Circuit) (m : Move) (k : ℕ)
    → unless (not (circuit_of t (as_cic c) T).equipped) Address (Ok (cond waits (repeating sent alert) nothing)) ≡ Ok m → (placed T k).equipped ≡ true
    → MeetsAt t T m k on.nothing
one_repeated t c waits sent alert T m k h q =
    subst (λ (y : Move). MeetsAt t T y k on.nothing)
    (same_move (cond waits (repeating sent alert) nothing) m (past (not (circuit_of t (as_cic c) T).equipped) Address _ m h).1)
    (choose_none t T k waits (repeating sent alert) nothing q (λ j. refl) (λ j. refl))

group_repeated : (t : Config) (system kind : ℕ) (what : Grouped) (waits : BlockType → Circuit → Bool) (alert : Option (Timer × Cic)) (T : List Circuit) (m : Move) (k : ℕ)
    → repeats_group t system kind what waits alert T ≡ Ok m → (placed T k).equipped ≡ true → MeetsAt t T m k on.nothing
group_repeated t system kind what waits alert T m k h q =
    let p = λ (j : ℕ) (x : Circuit). x.equipped && waits (why_of kind) x in
    let x = repeating (group_for t what (why_of kind) p system T) alert in
    let fit = past (ltb 1 kind) Argument _ m h in
    subst (λ (y : Move). MeetsAt t T y k on.nothing)
    (same_move (cond (eqb (mask_by p system T) 0) nothing x) m (past (leb t.systems system) Address _ m fit.1).1)
    (choose_none t T k (eqb (mask_by p system T) 0) nothing x q (λ j. refl) (λ j. refl))

reset_repeated : (t : Config) (system : ℕ) (alert : Option (Timer × Cic)) (T : List Circuit) (m : Move) (k : ℕ)
    → repeats_reset t system alert T ≡ Ok m → (placed T k).equipped ≡ true → MeetsAt t T m k on.nothing
reset_repeated t system alert T m k h q =
    let p = λ (j : ℕ) (x : Circuit). x.equipped && is_group x.reset in
    let x = repeating (reset_message t system ∷ []) alert in
    subst (λ (y : Move). MeetsAt t T y k on.nothing)
    (same_move (cond (eqb (mask_by p system T) 0) nothing x) m (past (leb t.systems system) Address _ m h).1)
    (choose_none t T k (eqb (mask_by p system T) 0) nothing x q (λ j. refl) (λ j. refl))

-- a T5 that finds no releasing circuit
no_t5 : (t : Config) (T : List Circuit) (k : ℕ) (b : Bool) → (placed T k).equipped ≡ true → (b ≡ true → is_releasing (placed T k).call ≡ false) → MeetsAt t T nothing k (when b on.t5)
no_t5 t T k false q h = at_none t T nothing k q refl
no_t5 t T k true q h =
    let c = placed T k in
    record { did = (at_none t T nothing k q refl).did ∙ rw (h refl) refl; fit = rw (h refl) refl }

-- and one that finds one
as_t5 : (ours : Bool) (c : Circuit) (d : Change) (b : Bool) → (b ≡ true → is_releasing c.call ≡ true) → Meets ours (when b on.circuit_reset) c d → Meets ours (when b on.t5) c d
as_t5 ours c d false h x = x
as_t5 ours c d true h x = record { did = x.did ∙ rw (h refl) refl; fit = rw (h refl) x.fit }

given_up : (t : Config) (c : ℕ) (T : List Circuit) (m : Move) (k : ℕ) → gives_up t c T ≡ Ok m → (placed T k).equipped ≡ true
    → MeetsAt t T m k (when (eqb c (t.first.0 + k)) on.t5)
given_up t c T m k h q =
    let x = circuit_of t (as_cic c) T in
    let found = past (not x.equipped) Address _ m h in
    let has : x.equipped ≡ true = not-false x.equipped found.0 in
    let l = not_below t (as_cic c) T has in
    let at : (eqb c (t.first.0 + k) ≡ true) → x ≡ placed T k =
    λ n. at_place t (as_cic c) T has ∙ ap (placed T) (sym (eqb-true k (c - t.first.0) (one_named t.first.0 c k l ∙ n))) in
    go x at found.1
  where
    b : Bool
    b = eqb c (t.first.0 + k)

    go : (x : Circuit) → (b ≡ true → x ≡ placed T k)
        → cond (is_releasing x.call) (and_then (singly t (as_cic c) (rule.Reset reset.Single) (single c Rsc) T) (λ y. Ok (alerting (alert_at T5 c) y))) (Ok nothing) ≡ Ok m
        → MeetsAt t T m k (when b on.t5)
    go x at = by (is_releasing x.call) (λ n. ap (λ (y : Circuit). is_releasing y.call) (sym (at n)))
      where
        by : (r : Bool) → (b ≡ true → is_releasing (placed T k).call ≡ r)
            → cond r (and_then (singly t (as_cic c) (rule.Reset reset.Single) (single c Rsc) T) (λ y. Ok (alerting (alert_at T5 c) y))) (Ok nothing) ≡ Ok m
            → MeetsAt t T m k (when b on.t5)
        by false e g = subst (λ (y : Move). MeetsAt t T y k (when b on.t5)) (same_move nothing m g) (no_t5 t T k b q e)
        by true e g =
            let a = and_ok (singly t (as_cic c) (rule.Reset reset.Single) (single c Rsc) T) (λ y. Ok (alerting (alert_at T5 c) y)) m g in
            let o = one_ordered t (as_cic c) (rule.Reset reset.Single) on.circuit_reset (single c Rsc) T a.0 k reset_orders a.1 q in
            subst (λ (y : Move). MeetsAt t T y k (when b on.t5)) (same_move (alerting (alert_at T5 c) a.0) m a.2)
            (as_t5 (is_ours t.higher (t.first.0 + k)) (placed T k) (step_of a.0 k (placed T k)) b e o)

pub expired_met : (t : Config) (timer : Timer) (at kind : ℕ) (T : List Circuit) (m : Move) (k : ℕ) → expired t timer at kind T ≡ Ok m → (placed T k).equipped ≡ true
    → MeetsAt t T m k (expired_as (Some timer) at (t.first.0 + k))
expired_met t T1 at kind T m k h q = one_repeated t at _ _ None T m k h q
expired_met t T5 at kind T m k h q = given_up t at T m k h q
expired_met t T12 at kind T m k h q = one_repeated t at _ _ None T m k h q
expired_met t T13 at kind T m k h q = one_repeated t at _ _ (alert_at T13 at) T m k h q
expired_met t T14 at kind T m k h q = one_repeated t at _ _ None T m k h q
expired_met t T15 at kind T m k h q = one_repeated t at _ _ (alert_at T15 at) T m k h q
expired_met t T16 at kind T m k h q = one_repeated t at _ _ None T m k h q
expired_met t T17 at kind T m k h q = one_repeated t at _ _ (alert_at T17 at) T m k h q
expired_met t T18 at kind T m k h q = group_repeated t at kind Cgb asked_for None T m k h q
expired_met t T19 at kind T m k h q = group_repeated t at kind Cgb asked_for (alert_at T19 (first_of t at)) T m k h q
expired_met t T20 at kind T m k h q = group_repeated t at kind Cgu lifting_for None T m k h q
expired_met t T21 at kind T m k h q = group_repeated t at kind Cgu lifting_for (alert_at T21 (first_of t at)) T m k h q
expired_met t T22 at kind T m k h q = reset_repeated t at None T m k h q
expired_met t T23 at kind T m k h q = reset_repeated t at (alert_at T23 (first_of t at)) T m k h q

-- ## Any operation

-- a circuit is at a place of the table
pub inside : (T : List Circuit) (k : ℕ) → (placed T k).equipped ≡ true → k < length T
inside T k e = ⊎_elim
    (λ (l : k < length T). l)
    (λ (l : length T ≤ k). absurd (false≢true (sym (ap (λ c. c.equipped) (get_or_past T k vacant l)) ∙ e)))
    (cases_lt k (length T))

pub met : (t : Config) (room : ℕ) (o : Operation) (l : Lent) (m : Move) → answered t room o l ≡ Ok m
    → (k : ℕ) → (placed l.table k).equipped ≡ true → MeetsAt t l.table m k (event t.first.0 o k)
met t room (order o) l m h k q = order_met t room o l m k h (inside l.table k q) q
met t room (receive octets) l m h k q = go (decode octets) (and_ok (admitted t room l) (λ _. and_then (raised (decode octets)) (λ x. heard t x l.table)) m h).2
  where
    go : (d : Result Msg MessageFault) → and_then (raised d) (λ x. heard t x l.table) ≡ Ok m → MeetsAt t l.table m k (on.read_as t.first.0 d (t.first.0 + k))
    go (Err f) g = let z : ◌≡◌ {A = ℕ} 0 1 = cc in absurd (omega arith)
    go (Ok x) g = heard_met t x l.table m k g q
met t room (expire timer at kind) l m h k q =
    go (timer_of timer) (and_ok (admitted t room l) (λ _. and_then (timed (timer_of timer)) (λ x. expired t x at kind l.table)) m h).2
  where
    go : (d : Option Timer) → and_then (timed d) (λ x. expired t x at kind l.table) ≡ Ok m → MeetsAt t l.table m k (expired_as d at (t.first.0 + k))
    go None g = let z : ◌≡◌ {A = ℕ} 0 1 = cc in absurd (omega arith)
    go (Some x) g = expired_met t x at kind l.table m k g q
