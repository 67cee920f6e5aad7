-- Orders and expiries are accepted exactly if they are acceptable.
use Rattle.std.proofs.Common.{◌↔◌, ◌≡◌, ◌≢◌, ℕ, ◌+◌, ◌-◌, ◌%◌, ◌<◌, ◌≤◌, Bool, true, false, cond, not, ◌&&◌, ◌||◌, eqb, ltb, leb, List, length, is_ok, Some, None, Ok, Err, Option, Result, sym, refl, ap, ◌∙◌, arith}
use Rattle.std.proofs.lemmas.Bool.{eq-eqb, false≢true, ne_eqb}
use Rattle.std.proofs.lemmas.Bool.Decides.{nat_tests}
use Rattle.status.specs.declared.cic.Cic.{Cic}
use Rattle.message.specs.Msg.{Msg, single, call}
use Rattle.message.specs.declared.kinds.BlockType.{BlockType}
use Rattle.message.specs.declared.kinds.BlockType.TheVariants.{Maintenance}
use Rattle.message.specs.declared.kinds.CallKind.TheVariants.{Iam}
use Rattle.message.specs.declared.kinds.Grouped.{Grouped}
use Rattle.message.specs.declared.kinds.Grouped.TheVariants.{Cgb, Cgu}
use Rattle.message.specs.declared.kinds.Single.TheVariants.{Rsc, Blo, Ubl}
use Rattle.policy.specs.declared.interface.Place.{Place}
use Rattle.circuit.specs.Circuits.{is_group, is_open, is_releasing, is_waiting}
use Rattle.circuit.specs.Laws.{allows}
use Rattle.circuit.specs.declared.record.CauseOctets.{CauseOctets}
use Rattle.circuit.specs.declared.record.Call.TheVariants.{Releasing}
use Rattle.circuit.specs.declared.record.Circuit.{Circuit}
use Rattle.circuit.specs.declared.record.Reset.{Reset}
use Rattle.circuit.specs.declared.record.Reset.TheVariants as reset
use Rattle.circuit.specs.declared.rules.Rule.{Rule}
use Rattle.circuit.specs.declared.rules.Rule.TheVariants as rule
use Rattle.words.specs.Words.{timer_of}
use Rattle.words.specs.declared.kinds.Timer.{Timer}
use Rattle.words.specs.declared.kinds.Timer.TheVariants.{T1, T5, T12, T13, T14, T15, T16, T17, T18, T19, T20, T21, T22, T23}
use Rattle.refusal.specs.declared.reasons.Refusal.{Refusal}
use Rattle.refusal.specs.declared.reasons.Refusal.TheVariants.{Address, State, Argument, Choice}
use Rattle.refusal.specs.Refusals.{unless, and_then}
use Rattle.supervision.specs.Answering.{seize, release, block, unblock, reset as order_reset, group_block, group_unblock, group_reset}
use Rattle.supervision.specs.Expiring.{alert_at, alerting, expired, gives_up, timed}
use Rattle.supervision.specs.Moves.{Move, some_from}
use Rattle.supervision.specs.Orders.{cause_of, circuit_of, ordered, singly, slots, groupwise, group_message, release_message, why_of}
use Rattle.supervision.specs.Receiving.{as_cic, nothing}
use Rattle.supervision.specs.Seizing.{seizing}
use Rattle.supervision.specs.Trunks.{placed}
use Rattle.supervision.specs.declared.trunk.Config.{Config}
use Rattle.supervision.proofs.Allowing.{at_place}
use Rattle.supervision.proofs.Some.{none, none_at}
use Rattle.laws.specs.Addressing.{IsCircuit, IsMask, Acceptable, OrdersAccepted, Expirable, ExpiriesAccepted}
use Rattle.laws.specs.Calls.{Connected, Open}
use Rattle.laws.specs.Events.{in_mask}
use Rattle.laws.proofs.Address.{admits, one_is}
use Rattle.laws.proofs.Send.{connected_said, releasing_said}

-- a test that refuses, and what follows it
unless_said : {X P Q : Type 0} (b : Bool) (e : Refusal) (x : Result X Refusal) → ((b ≡ false) ↔ P) → ((is_ok x ≡ true) ↔ Q) → ((is_ok (unless b e x) ≡ true) ↔ (P × Q))
unless_said true e x p q = (λ h. absurd (false≢true h), λ w. absurd (false≢true (sym (p.1 w.0))))
unless_said false e x p q = (λ h. (p.0 refl, q.0 h), λ w. q.1 w.1)

last_said : {X P : Type 0} (b : Bool) (e : Refusal) (x : X) → ((b ≡ false) ↔ P) → ((is_ok (unless b e (Ok x)) ≡ true) ↔ P)
last_said true e x p = (λ h. absurd (false≢true h), λ w. absurd (false≢true (sym (p.1 w))))
last_said false e x p = (λ h. p.0 refl, λ w. refl)

not_said : {P : Type 0} (b : Bool) → ((b ≡ true) ↔ P) → ((not b ≡ false) ↔ P)
not_said true p = (λ h. p.0 refl, λ w. refl)
not_said false p = (λ h. absurd (false≢true (sym h)), λ w. absurd (false≢true (p.1 w)))

or_said : {P Q : Type 0} (a b : Bool) → ((a ≡ false) ↔ P) → ((b ≡ false) ↔ Q) → (((a || b) ≡ false) ↔ (P × Q))
or_said true b p q = (λ h. absurd (false≢true (sym h)), λ w. absurd (false≢true (sym (p.1 w.0))))
or_said false b p q = (λ h. (p.0 refl, q.0 h), λ w. q.1 w.1)

not_less : (a b : ℕ) → ((ltb a b ≡ false) ↔ (b ≤ a))
not_less a b = (λ h. grind (arith, nat_tests), λ l. grind (arith, nat_tests))

not_most : (a b : ℕ) → ((leb a b ≡ false) ↔ (b < a))
not_most a b = (λ h. grind (arith, nat_tests), λ l. grind (arith, nat_tests))

not_equal : (a b : ℕ) → ((eqb a b ≡ false) ↔ (a ≢ b))
not_equal a b = (λ h e. false≢true (sym h ∙ eq-eqb a b e), λ n. ne_eqb a b n)

none_waits : (r : Reset) → ((not (is_waiting r) ≡ true) ↔ (r ≡ reset.None))
none_waits r = (λ h. grind arith, λ e. rw e refl)

no_group : (r : Reset) → ((not (is_group r) ≡ true) ↔ (r ≢ reset.Group))
no_group reset.None = (λ h e. grind arith, λ n. refl)
no_group reset.Single = (λ h e. grind arith, λ n. refl)
no_group reset.Group = (λ h. absurd (false≢true h), λ n. absurd (n refl))

-- an order for one circuit, by what the rule asks of it
singly_accepted : (t : Config) (cic : Cic) (r : Rule) (msg : Msg) (P : Circuit → Type 0) (T : List Circuit) → ((x : Circuit) → ((allows r x ≡ true) ↔ (P x)))
    → ((is_ok (singly t cic r msg T) ≡ true) ↔ (IsCircuit t T cic.0 × P (placed T (cic.0 - t.first.0))))
singly_accepted t cic r msg P T a =
    let x = circuit_of t cic T in
    let i = one_is t cic.0 T in
    let w = unless_said (not x.equipped) Address (unless (not (allows r x)) State (Ok _)) (not_said x.equipped i) (last_said (not (allows r x)) State _ (not_said (allows r x) (a x))) in
    (λ h. let v = w.0 h in (v.0, let at = at_place t cic T (i.1 v.0) in rw at at v.1), λ v. w.1 (v.0, let at = at_place t cic T (i.1 v.0) in rw at v.1))

-- no place of the table is so
some_said : (p : ℕ → Circuit → Bool) (T : List Circuit) → ((some_from p 0 T ≡ false) ↔ ((k : ℕ) → k < length T → p k (placed T k) ≡ false))
some_said p T = (λ h k l. none_at p T k l h, λ f. none p T f)

and_not : (a b : Bool) → (((a && not b) ≡ false) ↔ (a ≡ true → b ≡ true))
and_not true true = (λ h e. refl, λ f. refl)
and_not true false = (λ h e. absurd (false≢true (sym h)), λ f. absurd (false≢true (f refl)))
and_not false b = (λ h e. absurd (false≢true e), λ f. refl)

-- each circuit of the mask is as the test says
each_said : (system mask : ℕ) (p : Circuit → Bool) (P : Circuit → Type 0) (T : List Circuit) → ((x : Circuit) → ((p x ≡ true) ↔ (P x)))
    → ((some_from (λ k c. slots system mask k && not (p c)) 0 T ≡ false) ↔ ((k : ℕ) → k < length T → in_mask system mask k ≡ true → P (placed T k)))
each_said system mask p P T e =
    let w = some_said (λ k c. slots system mask k && not (p c)) T in (
      λ h k l n. (e (placed T k)).0 ((and_not (slots system mask k) (p (placed T k))).0 (w.0 h k l) n),
      λ f. w.1 (λ k l. (and_not (slots system mask k) (p (placed T k))).1 (λ n. (e (placed T k)).1 (f k l n))),
    )

groupwise_accepted : (t : Config) (system mask : ℕ) (r : Rule) (msg : Msg) (T : List Circuit) → ((x : Circuit) → ((allows r x ≡ true) ↔ (x.reset ≡ reset.None)))
    → ((is_ok (groupwise t system mask r msg T) ≡ true) ↔ (IsMask t T system mask))
groupwise_accepted t system mask r msg T a =
    let last = last_said (some_from (λ k c. slots system mask k && not (allows r c)) 0 T) State _ (each_said system mask (allows r) (λ x. x.reset ≡ reset.None) T a) in
    let there = unless_said (some_from (λ k c. slots system mask k && not c.equipped) 0 T) Address _
    (each_said system mask (λ x. x.equipped) (λ x. x.equipped ≡ true) T (λ x. (λ h. h, λ h. h))) last in
    let even = unless_said (eqb (mask % 2) 1) Address _ (not_equal (mask % 2) 1) there in
    let w = unless_said (leb t.systems system) Address _ (not_most t.systems system) even in (
      λ h. let v = w.0 h in record { inside = v.0; even = v.1.0; circuits = v.1.1.0; no_resets = v.1.1.1 },
      λ m. w.1 (m.inside, (m.even, (m.circuits, m.no_resets))),
    )

typed_accepted : (f : BlockType → Rule) (what : Grouped) (t : Config) (kind system mask : ℕ) (T : List Circuit)
    → ((why : BlockType) (x : Circuit) → ((allows (f why) x ≡ true) ↔ (x.reset ≡ reset.None)))
    → ((is_ok (and_then (unless (ltb 1 kind || eqb mask 0) Argument (Ok (why_of kind))) (λ why. groupwise t system mask (f why) (group_message t system what why mask) T)) ≡ true) ↔ (((kind ≤ 1) × (mask ≢ 0)) × IsMask t T system mask))
typed_accepted f what t kind system mask T a =
    go (ltb 1 kind || eqb mask 0) (or_said (ltb 1 kind) (eqb mask 0) (not_less 1 kind) (not_equal mask 0))
    (groupwise_accepted t system mask (f (why_of kind)) (group_message t system what (why_of kind) mask) T (a (why_of kind)))
  where
    go : {P Q : Type 0} (b : Bool) → ((b ≡ false) ↔ P)
        → ((is_ok (groupwise t system mask (f (why_of kind)) (group_message t system what (why_of kind) mask) T) ≡ true) ↔ Q)
        → ((is_ok (and_then (unless b Argument (Ok (why_of kind))) (λ why. groupwise t system mask (f why) (group_message t system what why mask) T)) ≡ true) ↔ (P × Q))
    go true p q = (λ h. absurd (false≢true h), λ w. absurd (false≢true (sym (p.1 w.0))))
    go false p q = (λ h. (p.0 refl, q.0 h), λ w. q.1 w.1)

release_accepted : (t : Config) (cic : Cic) (location value : ℕ) (T : List Circuit)
    → ((is_ok (and_then (cause_of location value) (λ cause. singly t cic (rule.Release cause) (release_message cic.0 cause) T)) ≡ true) ↔ (((location ≤ 15) × (value ≤ 127)) × (IsCircuit t T cic.0 × Connected (placed T (cic.0 - t.first.0)).call)))
release_accepted t cic location value T =
    go (ltb 15 location || ltb 127 value) (or_said (ltb 15 location) (ltb 127 value) (not_less 15 location) (not_less 127 value))
    (singly_accepted t cic (rule.Release cause) (release_message cic.0 cause) (λ x. Connected x.call) T (λ x. connected_said x.call))
  where
    cause : CauseOctets
    cause = record { location_octet = 0x80 + location; value_octet = 0x80 + value }

    go : {P Q : Type 0} (b : Bool) → ((b ≡ false) ↔ P) → ((is_ok (singly t cic (rule.Release cause) (release_message cic.0 cause) T) ≡ true) ↔ Q)
        → ((is_ok (and_then (unless b Argument (Ok cause)) (λ c. singly t cic (rule.Release c) (release_message cic.0 c) T)) ≡ true) ↔ (P × Q))
    go true p q = (λ h. absurd (false≢true h), λ w. absurd (false≢true (sym (p.1 w.0))))
    go false p q = (λ h. (p.0 refl, q.0 h), λ w. q.1 w.1)

open_said : (x : Circuit) → ((is_open x ≡ true) ↔ (Open x))
open_said x = (
  λ h. record { equipped = grind arith; idle = grind arith; no_reset = grind arith; no_local = (grind arith, grind arith); no_far = (grind arith, grind arith) },
  λ o. rw (o.equipped, o.idle, o.no_reset, o.no_local.0, o.no_local.1, o.no_far.0, o.no_far.1) refl,
)

seize_accepted : (t : Config) (body : List ℕ) (choice : Option Place) (T : List Circuit)
    → ((is_ok (and_then {X = Unit {0}} (unless (ltb (length body) 1 || ltb 256 (length body)) Argument (Ok tt)) (λ _. seizing t body choice T)) ≡ true) ↔ (Acceptable t T (seize body choice)))
seize_accepted t body choice T =
    go (ltb (length body) 1 || ltb 256 (length body)) choice
    (or_said (ltb (length body) 1) (ltb 256 (length body)) (not_less (length body) 1) (not_less 256 (length body)))
  where
    placing : (b : Bool) (p : Place) → ((b ≡ true) ↔ (Open (placed T p.0)))
        → ((is_ok (and_then (unless (not b) Choice (Ok p)) (λ place. Ok (ordered (λ k. eqb k place.0) rule.Seize (call (t.first.0 + place.0) Iam body)))) ≡ true) ↔ (Open (placed T p.0)))
    placing true p e = (λ h. e.0 refl, λ w. refl)
    placing false p e = (λ h. absurd (false≢true h), λ w. absurd (false≢true (e.1 w)))

    go : (b : Bool) (c : Option Place) → ((b ≡ false) ↔ ((1 ≤ length body) × (length body ≤ 256)))
        → ((is_ok (and_then {X = Unit {0}} (unless b Argument (Ok tt)) (λ _. seizing t body c T)) ≡ true) ↔ (Acceptable t T (seize body c)))
    go true None p = (λ h. absurd (false≢true h), λ w. absurd w)
    go true (Some place) p = (λ h. absurd (false≢true h), λ w. absurd (false≢true (sym (p.1 w.0))))
    go false None p = (λ h. absurd (false≢true h), λ w. absurd w)
    go false (Some place) p =
        let e = placing (is_open (placed T place.0)) place (open_said (placed T place.0)) in
        (λ h. (p.0 refl, e.0 h), λ w. e.1 w.1)

block_asks : (why : BlockType) (x : Circuit) → ((allows (rule.Block why) x ≡ true) ↔ (x.reset ≡ reset.None))
block_asks why x = none_waits x.reset

unblock_asks : (why : BlockType) (x : Circuit) → ((allows (rule.Unblock why) x ≡ true) ↔ (x.reset ≡ reset.None))
unblock_asks why x = none_waits x.reset

pub orders_accepted : OrdersAccepted
orders_accepted t room (seize body choice) l s = rw (admits t room l s) (seize_accepted t body choice l.table)
orders_accepted t room (release cic location value) l s = rw (admits t room l s) (release_accepted t cic location value l.table)
orders_accepted t room (block cic) l s =
    rw (admits t room l s) (singly_accepted t cic (rule.Block Maintenance) (single cic.0 Blo) (λ x. x.reset ≡ reset.None) l.table (block_asks Maintenance))
orders_accepted t room (unblock cic) l s =
    rw (admits t room l s) (singly_accepted t cic (rule.Unblock Maintenance) (single cic.0 Ubl) (λ x. x.reset ≡ reset.None) l.table (unblock_asks Maintenance))
orders_accepted t room (order_reset cic) l s =
    rw (admits t room l s) (singly_accepted t cic (rule.Reset reset.Single) (single cic.0 Rsc) (λ x. x.reset ≢ reset.Group) l.table (λ x. no_group x.reset))
orders_accepted t room (group_block kind system mask) l s = rw (admits t room l s) (typed_accepted rule.Block Cgb t kind system mask l.table block_asks)
orders_accepted t room (group_unblock kind system mask) l s = rw (admits t room l s) (typed_accepted rule.Unblock Cgu t kind system mask l.table unblock_asks)
orders_accepted t room (group_reset system) l s = rw (admits t room l s) (last_said (leb t.systems system) Address _ (not_most t.systems system))

-- ## Expiries

one_expires : (t : Config) (c : ℕ) (T : List Circuit) (x : Move)
    → ((is_ok (unless (not (circuit_of t (as_cic c) T).equipped) Address (Ok x)) ≡ true) ↔ (IsCircuit t T c))
one_expires t c T x = last_said (not (circuit_of t (as_cic c) T).equipped) Address x (not_said (circuit_of t (as_cic c) T).equipped (one_is t c T))

system_expires : (t : Config) (system : ℕ) (x : Move) → ((is_ok (unless (leb t.systems system) Address (Ok x)) ≡ true) ↔ (system < t.systems))
system_expires t system x = last_said (leb t.systems system) Address x (not_most t.systems system)

typed_expires : (t : Config) (system kind : ℕ) (x : Move)
    → ((is_ok (unless (ltb 1 kind) Argument (unless (leb t.systems system) Address (Ok x))) ≡ true) ↔ ((kind ≤ 1) × (system < t.systems)))
typed_expires t system kind x = unless_said (ltb 1 kind) Argument _ (not_less 1 kind) (system_expires t system x)

-- T5, whose reset is refused where a group reset waits
t5_accepted : (t : Config) (c : ℕ) (T : List Circuit)
    → ((is_ok (gives_up t c T) ≡ true) ↔ (IsCircuit t T c × ((placed T (c - t.first.0)).call ≡ Releasing → (placed T (c - t.first.0)).reset ≢ reset.Group)))
t5_accepted t c T =
    let x = circuit_of t (as_cic c) T in
    let i = one_is t c T in
    let s = singly_accepted t (as_cic c) (rule.Reset reset.Single) (single c Rsc) (λ y. y.reset ≢ reset.Group) T (λ y. no_group y.reset) in
    let w = unless_said (not x.equipped) Address _ (not_said x.equipped i) (by (singly t (as_cic c) (rule.Reset reset.Single) (single c Rsc) T) (is_releasing x.call) (releasing_said x.call)) in (
      λ h.
          let v = w.0 h in
          let at = at_place t (as_cic c) T (i.1 v.0) in
          (v.0, λ r. (s.0 (v.1 (ap (λ (y : Circuit). y.call) at ∙ r))).1),
      λ v.
          let at = at_place t (as_cic c) T (i.1 v.0) in
          w.1 (v.0, λ r. s.1 (v.0, v.1 (sym (ap (λ (y : Circuit). y.call) at) ∙ r))),
    )
  where
    by : {P : Type 0} (r : Result Move Refusal) (b : Bool) → ((b ≡ true) ↔ P)
        → ((is_ok (cond b (and_then r (λ m. Ok (alerting (alert_at T5 c) m))) (Ok nothing)) ≡ true) ↔ (P → is_ok r ≡ true))
    by (Ok m) true e = (λ h p. refl, λ f. refl)
    by (Err x) true e = (λ h. absurd (false≢true h), λ f. absurd (false≢true (f (e.0 refl))))
    by r false e = (λ h p. absurd (false≢true (e.1 p)), λ f. refl)

expired_accepted : (t : Config) (timer : Timer) (at kind : ℕ) (T : List Circuit) → ((is_ok (expired t timer at kind T) ≡ true) ↔ (Expirable t T (Some timer) at kind))
expired_accepted t T1 at kind T = one_expires t at T _
expired_accepted t T5 at kind T = t5_accepted t at T
expired_accepted t T12 at kind T = one_expires t at T _
expired_accepted t T13 at kind T = one_expires t at T _
expired_accepted t T14 at kind T = one_expires t at T _
expired_accepted t T15 at kind T = one_expires t at T _
expired_accepted t T16 at kind T = one_expires t at T _
expired_accepted t T17 at kind T = one_expires t at T _
expired_accepted t T18 at kind T = typed_expires t at kind _
expired_accepted t T19 at kind T = typed_expires t at kind _
expired_accepted t T20 at kind T = typed_expires t at kind _
expired_accepted t T21 at kind T = typed_expires t at kind _
expired_accepted t T22 at kind T = system_expires t at _
expired_accepted t T23 at kind T = system_expires t at _

timer_accepted : (t : Config) (timer : Option Timer) (at kind : ℕ) (T : List Circuit)
    → ((is_ok (and_then (timed timer) (λ x. expired t x at kind T)) ≡ true) ↔ (Expirable t T timer at kind))
timer_accepted t None at kind T = (λ h. absurd (false≢true h), λ w. absurd w)
timer_accepted t (Some x) at kind T = expired_accepted t x at kind T

pub expiries_accepted : ExpiriesAccepted
expiries_accepted t room timer at kind l s = rw (admits t room l s) (timer_accepted t (timer_of timer) at kind l.table)
