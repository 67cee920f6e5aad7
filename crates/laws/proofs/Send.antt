-- What accepted operations send.
use Rattle.std.proofs.Common.{◌↔◌, ◌≡◌, ◌≢◌, ℕ, ◌+◌, ◌-◌, ◌*◌, ◌/◌, ◌%◌, ◌^◌, ◌<◌, ◌≤◌, Bool, true, false, cond, not, ◌&&◌, ◌||◌, eqb, ltb, leb, List, [], ◌∷◌, ◌++◌, Some, None, Ok, Err, Option, Result, sym, refl, ap, ◌∙◌, subst, inl, inr, ⊎_elim, arith}
use Rattle.std.proofs.lemmas.Bool.{eqb-true, eq-eqb, not-false, and_parts, false≢true, le-leb}
use Rattle.status.specs.Bits.{is_named}
use Rattle.status.specs.declared.cic.Cic.{Cic}
use Rattle.message.specs.Decode.{decode}
use Rattle.message.specs.Msg.{Msg, single, release_complete, group_reset, group_reset_ack, grouped, release, call}
use Rattle.message.specs.declared.fault.MessageFault.{MessageFault}
use Rattle.message.specs.declared.kinds.BlockType.{BlockType}
use Rattle.message.specs.declared.kinds.BlockType.TheVariants.{Maintenance, Hardware}
use Rattle.message.specs.declared.kinds.CallKind.TheVariants.{Iam, Acm, Con, Anm, Cpg}
use Rattle.message.specs.declared.kinds.Grouped.{Grouped}
use Rattle.message.specs.declared.kinds.Grouped.TheVariants.{Cgb, Cgu, Cgba, Cgua}
use Rattle.message.specs.declared.kinds.Single.TheVariants.{Rsc, Blo, Ubl, Bla, Uba}
use Rattle.policy.specs.declared.interface.Place.{Place}
use Rattle.circuit.specs.Circuits.{block_of, is_asked, is_connected, is_group, is_lifting, is_none, is_open, is_releasing, is_single, is_standing}
use Rattle.circuit.specs.Laws.{allows}
use Rattle.circuit.specs.Signals.{on_far_block, on_far_unblock, on_block_ack, on_unblock_ack, on_grs, on_gra, on_rsc, on_rlc, unexpected}
use Rattle.circuit.specs.declared.record.Blocks.{Blocks}
use Rattle.circuit.specs.declared.record.Call.{Call}
use Rattle.circuit.specs.declared.record.Call.TheVariants.{Idle, Calling, Talking, Releasing}
use Rattle.circuit.specs.declared.record.CauseOctets.{CauseOctets}
use Rattle.circuit.specs.declared.record.Circuit.{Circuit}
use Rattle.circuit.specs.declared.record.LocalBlock.{LocalBlock}
use Rattle.circuit.specs.declared.record.LocalBlock.TheVariants as local
use Rattle.circuit.specs.declared.record.Reset.{Reset}
use Rattle.circuit.specs.declared.record.Reset.TheVariants as reset
use Rattle.circuit.specs.declared.rules.Change.{Change}
use Rattle.circuit.specs.declared.rules.Rule.{Rule}
use Rattle.circuit.specs.declared.rules.Rule.TheVariants as rule
use Rattle.refusal.specs.declared.reasons.Refusal.{Refusal}
use Rattle.refusal.specs.declared.reasons.Refusal.TheVariants.{Address, State, Argument, Choice}
use Rattle.refusal.specs.Refusals.{raised, and_then}
use Rattle.supervision.specs.Answering.{seize, release as order_release, block, unblock, reset as order_reset, group_block, group_unblock, group_reset as order_group_reset}
use Rattle.supervision.specs.Groups.{groups, status_by}
use Rattle.supervision.specs.Moves.{Move, some_from}
use Rattle.supervision.specs.Orders.{admitted, circuit_of, ordered, only, singly, cause_of, release_message, slots, every_slot, status_of, group_message, reset_message, groupwise, why_of, type_of, clearing}
use Rattle.supervision.specs.Receiving.{as_cic, moving, nothing, if_so, to_one, is_range, in_range, marked, to_range, ask_again, shows, is_unexpected, is_counted, heard}
use Rattle.supervision.specs.Seizing.{may_ask, seizable, seizing}
use Rattle.supervision.specs.Trunks.{placed}
use Rattle.supervision.specs.declared.trunk.Config.{Config}
use Rattle.supervision.proofs.Allowing.{past, same_move, and_ok, at_place, accepted}
use Rattle.laws.specs.Blocks.{of_type, Standing}
use Rattle.laws.specs.Calls.{Connected}
use Rattle.laws.specs.Events.{in_mask, names, type_told, within}
use Rattle.laws.specs.Naming.{Tells, Names, EachNames}
use Rattle.laws.specs.Sending.{at_cic, slot_1, OneIf, ByMask, OrderSends, Unexpected, ResetAnswer, GroupResetAnswer, Answers, OrdersSend, MessagesAnswered}
use Rattle.laws.proofs.Name.{mask_tells, group_if, each_named, statuses_tell}
use Rattle.laws.proofs.Places.{not_below, one_named, range_from, range_named, status_named, type_named}

-- ## Orders

-- a move sends this, and alerts nobody
pub record Sends (m : Move) (sent : List Msg) : Type 0 where
  pub sends : m.sent ≡ sent
  pub silent : m.alert ≡ None

pub singly_sends : (t : Config) (cic : Cic) (r : Rule) (msg : Msg) (T : List Circuit) (m : Move) → singly t cic r msg T ≡ Ok m → Sends m (msg ∷ [])
singly_sends t cic r msg T m h =
    let x = circuit_of t cic T in
    let fit = past (not (allows r x)) State _ m (past (not x.equipped) Address _ m h).1 in
    subst (λ (y : Move). Sends y (msg ∷ [])) (same_move (ordered (only t cic) r msg) m fit.1) (record { sends = refl; silent = refl })

groupwise_sends : (t : Config) (system mask : ℕ) (r : Rule) (msg : Msg) (T : List Circuit) (m : Move) → groupwise t system mask r msg T ≡ Ok m → Sends m (msg ∷ [])
groupwise_sends t system mask r msg T m h =
    let w = accepted t system mask r msg T m h in
    subst (λ (y : Move). Sends y (msg ∷ [])) (sym w.0) (record { sends = refl; silent = refl })

-- the message of an order by group names the circuits of its mask
order_names : (t : Config) (what : Grouped) (why : BlockType) (system mask : ℕ) (T : List Circuit) → mask < 0x1_0000_0000
    → Names t what why (λ k x. in_mask system mask k ≡ true) T system (group_message t system what why mask)
order_names t what why system mask T small = record {
  status = status_of mask;
  is = refl;
  tells = mask_tells mask (λ n. in_mask system mask (system * 32 + 1 + n) ≡ true) small
      (λ n l.
      let k = system * 32 + 1 + n in
      let a : k / 32 ≡ system = omega (arith, l) in
      let b : k % 32 ≡ n + 1 = omega (arith, l) in
      let s = eq-eqb (k / 32) system a in (
        λ e. rw (s, b, eq-eqb (mask / 2 ^ (n + 1) % 2) 1 e) refl,
        λ e. rw b at (eqb-true (mask / 2 ^ (k % 32) % 2) 1 (and_parts (eqb (k / 32) system) (eqb (mask / 2 ^ (k % 32) % 2) 1) e).1),
      ));
}

typed_sends : (f : BlockType → Rule) (what : Grouped) (t : Config) (kind system mask : ℕ) (T : List Circuit) (m : Move)
    → and_then (type_of kind mask) (λ why. groupwise t system mask (f why) (group_message t system what why mask) T) ≡ Ok m
    → ByMask t what kind system mask T m.sent × (m.alert ≡ None)
typed_sends f what t kind system mask T m h =
    let a = and_ok (type_of kind mask) (λ why. groupwise t system mask (f why) (group_message t system what why mask) T) m h in
    let b = past (ltb 1 kind || eqb mask 0) Argument (Ok (why_of kind)) a.0 a.1 in
    let z : type_told kind ≡ a.0 = sym (type_named kind) ∙ same_type (why_of kind) a.0 b.1 in
    let s = groupwise_sends t system mask (f a.0) (group_message t system what a.0 mask) T m a.2 in
    (λ l. (group_message t system what a.0 mask, rw z (order_names t what a.0 system mask T l), s.sends), s.silent)
  where
    same_type : (x y : BlockType) → ◌≡◌ {A = Result BlockType Refusal} (Ok x) (Ok y) → x ≡ y
    same_type x y e = cc

both : {m : Move} {sent : List Msg} → Sends m sent → (m.sent ≡ sent) × (m.alert ≡ None)
both s = (s.sends, s.silent)

seize_sends : (t : Config) (body : List ℕ) (choice : Option Place) (T : List Circuit) (m : Move) → seizing t body choice T ≡ Ok m
    → OrderSends t T (seize body choice) m.sent × (m.alert ≡ None)
seize_sends t body None T m h = let z : ◌≡◌ {A = ℕ} 0 1 = cc in absurd (omega arith)
seize_sends t body (Some place) T m h =
    let x = λ (p : Place). ordered (λ j. eqb j p.0) rule.Seize (call (t.first.0 + p.0) Iam body) in
    let a = and_ok (seizable (Some place) T) (λ (p : Place). Ok (x p)) m h in
    let b = past (not (is_open (placed T place.0))) Choice (Ok place) a.0 a.1 in
    subst (λ (y : Move). OrderSends t T (seize body (Some place)) y.sent × (y.alert ≡ None)) (ap x (same_place place a.0 b.1) ∙ same_move (x a.0) m a.2)
    ((place, refl, refl), refl)
  where
    same_place : (p r : Place) → ◌≡◌ {A = Result Place Refusal} (Ok p) (Ok r) → p ≡ r
    same_place p r e = cc

pub orders_send : OrdersSend
orders_send t room (seize body choice) l m h = seize_sends t body choice l.table m (and_ok (may_ask t room body l) (λ _. seizing t body choice l.table) m h).2
orders_send t room (order_release cic location value) l m h =
    let a = (and_ok (admitted t room l)
    (λ _. and_then (cause_of location value) (λ cause. singly t cic (rule.Release cause) (release_message cic.0 cause) l.table)) m h).2 in
    let c = and_ok (cause_of location value) (λ cause. singly t cic (rule.Release cause) (release_message cic.0 cause) l.table) m a in
    let d = past (ltb 15 location || ltb 127 value) Argument _ c.0 c.1 in
    let s = singly_sends t cic (rule.Release c.0) (release_message cic.0 c.0) l.table m c.2 in
    (s.sends ∙ ap (λ x. release_message cic.0 x ∷ []) (sym (same_cause _ c.0 d.1)), s.silent)
  where
    same_cause : (x y : CauseOctets) → ◌≡◌ {A = Result CauseOctets Refusal} (Ok x) (Ok y) → x ≡ y
    same_cause x y e = cc
orders_send t room (block cic) l m h =
    both (singly_sends t cic (rule.Block Maintenance) (single cic.0 Blo) l.table m
    (and_ok (admitted t room l) (λ _. singly t cic (rule.Block Maintenance) (single cic.0 Blo) l.table) m h).2)
orders_send t room (unblock cic) l m h =
    both (singly_sends t cic (rule.Unblock Maintenance) (single cic.0 Ubl) l.table m
    (and_ok (admitted t room l) (λ _. singly t cic (rule.Unblock Maintenance) (single cic.0 Ubl) l.table) m h).2)
orders_send t room (order_reset cic) l m h =
    both (singly_sends t cic (rule.Reset reset.Single) (single cic.0 Rsc) l.table m
    (and_ok (admitted t room l) (λ _. singly t cic (rule.Reset reset.Single) (single cic.0 Rsc) l.table) m h).2)
orders_send t room (group_block kind system mask) l m h = typed_sends rule.Block Cgb t kind system mask l.table m (and_ok (admitted t room l) _ m h).2
orders_send t room (group_unblock kind system mask) l m h = typed_sends rule.Unblock Cgu t kind system mask l.table m (and_ok (admitted t room l) _ m h).2
orders_send t room (order_group_reset system) l m h =
    let c = (and_ok (admitted t room l) (λ _. clearing t system) m h).2 in
    subst (λ (y : Move). (y.sent ≡ group_reset (slot_1 t system) 30 ∷ []) × (y.alert ≡ None))
    (same_move (ordered (slots system every_slot) (rule.Reset reset.Group) (reset_message t system)) m (past (leb t.systems system) Address _ m c).1)
    (refl, refl)

-- ## Tests and what they say

standing_said : (b : LocalBlock) → ((is_standing b ≡ true) ↔ (Standing b))
standing_said local.None = (λ h. absurd (false≢true h), ⊎_elim (λ e. absurd (grind arith)) (λ e. absurd (grind arith)))
standing_said local.Asked = (λ h. inl refl, λ s. refl)
standing_said local.Set = (λ h. inr refl, λ s. refl)
standing_said local.Lifting = (λ h. absurd (false≢true h), ⊎_elim (λ e. absurd (grind arith)) (λ e. absurd (grind arith)))

none_said : (b : LocalBlock) → ((is_none b ≡ true) ↔ (b ≡ local.None))
none_said b = (λ h. grind arith, λ e. rw e refl)

pub asked_said : (b : LocalBlock) → ((is_asked b ≡ true) ↔ (b ≡ local.Asked))
asked_said b = (λ h. grind arith, λ e. rw e refl)

pub lifting_said : (b : LocalBlock) → ((is_lifting b ≡ true) ↔ (b ≡ local.Lifting))
lifting_said b = (λ h. grind arith, λ e. rw e refl)

pub releasing_said : (x : Call) → ((is_releasing x ≡ true) ↔ (x ≡ Releasing))
releasing_said x = (λ h. grind arith, λ e. rw e refl)

pub single_said : (r : Reset) → ((is_single r ≡ true) ↔ (r ≡ reset.Single))
single_said r = (λ h. grind arith, λ e. rw e refl)

pub group_said : (r : Reset) → ((is_group r ≡ true) ↔ (r ≡ reset.Group))
group_said r = (λ h. grind arith, λ e. rw e refl)

pub type_said : (why : BlockType) (b : Blocks LocalBlock) → block_of why b ≡ of_type why b
type_said Maintenance b = refl
type_said Hardware b = refl

-- both tests
pub both_said : {P Q : Type 0} (a b : Bool) → ((a ≡ true) ↔ P) → ((b ≡ true) ↔ Q) → (((a && b) ≡ true) ↔ (P × Q))
both_said true true x y = (λ h. (x.0 refl, y.0 refl), λ w. refl)
both_said true false x y = (λ h. absurd (false≢true h), λ w. absurd (false≢true (y.1 w.1)))
both_said false b x y = (λ h. absurd (false≢true h), λ w. absurd (false≢true (x.1 w.0)))

pub itself : (b : Bool) → ((b ≡ true) ↔ (b ≡ true))
itself b = (λ h. h, λ h. h)

pub connected_said : (x : Call) → ((is_connected x ≡ true) ↔ (Connected x))
connected_said Idle = (λ h. absurd (false≢true h), ⊎_elim (λ e. absurd (grind arith)) (λ e. absurd (grind arith)))
connected_said Calling = (λ h. inl refl, λ s. refl)
connected_said Talking = (λ h. inr refl, λ s. refl)
connected_said Releasing = (λ h. absurd (false≢true h), ⊎_elim (λ e. absurd (grind arith)) (λ e. absurd (grind arith)))

unexpected_said : (x : Circuit) → ((is_unexpected x ≡ true) ↔ (Unexpected x))
unexpected_said x = (
  λ h. let p = and_parts (not (is_single x.reset)) (is_connected x.call) h in ((connected_said x.call).0 p.1, λ e. not_single x.reset p.0 e),
  λ w. rw (other x.reset w.1, (connected_said x.call).1 w.0) refl,
)
  where
    not_single : (r : Reset) → not (is_single r) ≡ true → r ≡ reset.Single → ⊥
    not_single r h e = false≢true (rw e at h)

    other : (r : Reset) → r ≢ reset.Single → is_single r ≡ false
    other reset.None n = refl
    other reset.Single n = absurd (n refl)
    other reset.Group n = refl

one_if : {P : Type 0} (b : Bool) (msg : Msg) → ((b ≡ true) ↔ P) → OneIf P msg (if_so b msg)
one_if true msg e = (λ p. refl, λ n. absurd (n (e.0 refl)))
one_if false msg e = (λ p. absurd (false≢true (e.1 p)), λ n. refl)

-- ## Answers

-- what is answered from the record of the circuit
one_sends : (t : Config) (c : ℕ) (f : Circuit → Change) (answers : Circuit → List Msg) (T : List Circuit) (m : Move) → to_one t c f answers T ≡ Ok m
    → (t.first.0 ≤ c) × Sends m (answers (at_cic t T c))
one_sends t c f answers T m h =
    let x = circuit_of t (as_cic c) T in
    let found = past (not x.equipped) Address _ m h in
    let has : x.equipped ≡ true = not-false x.equipped found.0 in
    let at = at_place t (as_cic c) T has in (
      not_below t (as_cic c) T has,
      subst (λ (y : Move). Sends y (answers (at_cic t T c))) (same_move (moving (only t (as_cic c)) (λ _. f) (answers x)) m found.1)
          (record { sends = ap answers at; silent = refl }),
    )

-- what is answered to a message for a range
range_sends : (t : Config) (c r : ℕ) (s : List ℕ) (x : Move) (T : List Circuit) (m : Move) → to_range t c r s x T ≡ Ok m → (t.first.0 ≤ c) × (x ≡ m)
range_sends t c r s x T m h =
    let inside = past (not (is_range t c r)) Address _ m h in
    (range_from t c r (not-false (is_range t c r) inside.0), same_move x m (past (some_from (λ k y. marked t c r s k && not y.equipped) 0 T) Address _ m inside.1).1)

-- the answer to a message for one circuit, as the laws say it
as_said : (P : List Msg → Type 0) (m : Move) (sent : List Msg) → Sends m sent → P sent → P m.sent × (m.alert ≡ None)
as_said P m sent s p = (subst P (sym s.sends) p, s.silent)

no_move : (named : ℕ → Bool) (rule : ℕ → Circuit → Change) (sent : List Msg) (m : Move) → moving named rule sent ≡ m → Sends m sent
no_move named rule sent m e = subst (λ (y : Move). Sends y sent) e (record { sends = refl; silent = refl })

-- the CIC c is that of the place
place_said : (t : Config) (c k : ℕ) → t.first.0 ≤ c → ((eqb k (c - t.first.0) ≡ true) ↔ (t.first.0 + k ≡ c))
place_said t c k l =
    let n = one_named t.first.0 c k l in
    (λ h. sym (eqb-true c (t.first.0 + k) (sym n ∙ h)), λ e. n ∙ eq-eqb c (t.first.0 + k) (sym e))

rsc_sends : (t : Config) (c : ℕ) (T : List Circuit) → t.first.0 ≤ c
    → ResetAnswer t T c (if_so (is_standing (at_cic t T c).local.maintenance) (single c Blo) ++ (ask_again t c T ++ (release_complete c ∷ [])))
rsc_sends t c T l = (
  if_so (is_standing (at_cic t T c).local.maintenance) (single c Blo),
  ask_again t c T,
  one_if (is_standing (at_cic t T c).local.maintenance) (single c Blo) (standing_said (at_cic t T c).local.maintenance),
  group_if t Cgb Hardware (λ k x. only t (as_cic c) k && is_standing x.local.hardware) (λ k x. (t.first.0 + k ≡ c) × Standing x.local.hardware) T ((c - t.first.0) / 32)
      (λ k x. both_said (eqb k (c - t.first.0)) (is_standing x.local.hardware) (place_said t c k l) (standing_said x.local.hardware)),
  refl,
)

-- acknowledgements: one message for each PCM system with a circuit that is named and whose block is as the test says
acks_send : (t : Config) (what : Grouped) (c r i : ℕ) (s : List ℕ) (f : BlockType → Circuit → Change) (p : LocalBlock → Bool) (P : LocalBlock → Type 0) (T : List Circuit) (m : Move)
    → ((b : LocalBlock) → ((p b ≡ true) ↔ (P b)))
    → to_range t c r s (moving (marked t c r s) (λ _. f (why_of i)) (groups t what (why_of i) (λ k x. marked t c r s k && p (block_of (why_of i) x.local)) T)) T ≡ Ok m
    → EachNames t what (type_told i) (λ k x. (names c r s (t.first.0 + k) ≡ true) × P (of_type (type_told i) x.local)) T t.systems m.sent × (m.alert ≡ None)
acks_send t what c r i s f p P T m e h =
    let q = λ (k : ℕ) (x : Circuit). marked t c r s k && p (block_of (why_of i) x.local) in
    let w = range_sends t c r s (moving (marked t c r s) (λ _. f (why_of i)) (groups t what (why_of i) q T)) T m h in
    as_said (EachNames t what (type_told i) (λ k x. (names c r s (t.first.0 + k) ≡ true) × P (of_type (type_told i) x.local)) T t.systems) m
    (groups t what (why_of i) q T) (no_move (marked t c r s) (λ _. f (why_of i)) (groups t what (why_of i) q T) m w.1)
    (rw (← type_named i)
    (each_named t what (why_of i) q (λ k x. (names c r s (t.first.0 + k) ≡ true) × P (of_type (why_of i) x.local)) T t.systems
    (λ k x. both_said (marked t c r s k) (p (block_of (why_of i) x.local)) (rw (status_named t c r s k w.0) (itself (names c r s (t.first.0 + k))))
    (rw (type_said (why_of i) x.local) (e (of_type (why_of i) x.local))))))

-- a status that tells P tells what P says
tells_as : (P Q : ℕ → Type 0) (r : ℕ) (s : List ℕ) → ((n : ℕ) → ((P n) ↔ (Q n))) → Tells P r s → Tells Q r s
tells_as P Q r s e w = record {
  size = w.size;
  bits = λ n l. (λ h. (e n).0 ((w.bits n l).0 h), λ h. (w.bits n l).1 ((e n).1 h));
  spare = w.spare;
}

-- the circuit of a CIC that is not below the first
found : (t : Config) (T : List Circuit) (c : ℕ) → t.first.0 ≤ c → circuit_of t (as_cic c) T ≡ at_cic t T c
found t T c l = rw (le-leb t.first.0 c l) refl

grs_sends : (t : Config) (c r : ℕ) (T : List Circuit) → t.first.0 ≤ c
    → GroupResetAnswer t T c r
    (groups t Cgb Hardware (λ k x. x.equipped && (in_range t c r k && is_standing x.local.hardware)) T
    ++ (group_reset_ack c r (status_by (λ n. shows (circuit_of t (as_cic (c + n)) T)) r) ∷ []))
grs_sends t c r T l = (
  groups t Cgb Hardware (λ k x. x.equipped && (in_range t c r k && is_standing x.local.hardware)) T,
  status_by (λ n. shows (circuit_of t (as_cic (c + n)) T)) r,
  each_named t Cgb Hardware (λ k x. x.equipped && (in_range t c r k && is_standing x.local.hardware))
      (λ k x. (x.equipped ≡ true) × ((within c r (t.first.0 + k) ≡ true) × Standing x.local.hardware)) T t.systems
      (λ k x. both_said x.equipped (in_range t c r k && is_standing x.local.hardware) (itself x.equipped)
      (both_said (in_range t c r k) (is_standing x.local.hardware) (rw (range_named t c r k l) (itself (within c r (t.first.0 + k)))) (standing_said x.local.hardware))),
  tells_as (λ n. shows (circuit_of t (as_cic (c + n)) T) ≡ true)
      (λ n. ((at_cic t T (c + n)).equipped ≡ true) × Standing (at_cic t T (c + n)).local.maintenance) r (status_by (λ n. shows (circuit_of t (as_cic (c + n)) T)) r)
      (λ n. rw (found t T (c + n) (omega (arith, l)))
      (both_said (at_cic t T (c + n)).equipped (is_standing (at_cic t T (c + n)).local.maintenance) (itself (at_cic t T (c + n)).equipped)
      (standing_said (at_cic t T (c + n)).local.maintenance)))
      (statuses_tell (λ n. shows (circuit_of t (as_cic (c + n)) T)) r),
  refl,
)

-- what is heard is answered
pub heard_sends : (t : Config) (msg : Msg) (T : List Circuit) (m : Move) → heard t msg T ≡ Ok m → Answers t T msg m.sent × (m.alert ≡ None)
heard_sends t (single c Blo) T m h = both (one_sends t c (on_far_block Maintenance) (λ _. single c Bla ∷ []) T m h).1
heard_sends t (single c Ubl) T m h = both (one_sends t c (on_far_unblock Maintenance) (λ _. single c Uba ∷ []) T m h).1
heard_sends t (single c Bla) T m h =
    let b = (at_cic t T c).local.maintenance in
    as_said (OneIf (b ≡ local.None) (single c Ubl)) m (if_so (is_none b) (single c Ubl))
    (one_sends t c (on_block_ack Maintenance) (λ x. if_so (is_none x.local.maintenance) (single c Ubl)) T m h).1
    (one_if (is_none b) (single c Ubl) (none_said b))
heard_sends t (single c Uba) T m h =
    let b = (at_cic t T c).local.maintenance in
    as_said (OneIf (Standing b) (single c Blo)) m (if_so (is_standing b) (single c Blo))
    (one_sends t c (on_unblock_ack Maintenance) (λ x. if_so (is_standing x.local.maintenance) (single c Blo)) T m h).1
    (one_if (is_standing b) (single c Blo) (standing_said b))
heard_sends t (single c Rsc) T m h =
    let answers = λ (x : Circuit). if_so (is_standing x.local.maintenance) (single c Blo) ++ (ask_again t c T ++ (release_complete c ∷ [])) in
    let w = one_sends t c on_rsc answers T m h in
    as_said (ResetAnswer t T c) m (answers (at_cic t T c)) w.1 (rsc_sends t c T w.0)
heard_sends t (release_complete c) T m h =
    let x = at_cic t T c in
    as_said (OneIf (Unexpected x) (release c (0x87 ∷ 0x9f ∷ []))) m (if_so (is_unexpected x) (release_message c unexpected))
    (one_sends t c on_rlc (λ y. if_so (is_unexpected y) (release_message c unexpected)) T m h).1
    (one_if (is_unexpected x) (release_message c unexpected) (unexpected_said x))
heard_sends t (release c cause) T m h = both (one_sends t c _ (λ _. release_complete c ∷ []) T m h).1
heard_sends t (call c Iam body) T m h = both (one_sends t c _ (λ _. []) T m h).1
heard_sends t (call c Acm body) T m h = both (one_sends t c _ (λ _. []) T m h).1
heard_sends t (call c Con body) T m h = both (one_sends t c _ (λ _. []) T m h).1
heard_sends t (call c Anm body) T m h = both (one_sends t c _ (λ _. []) T m h).1
heard_sends t (call c Cpg body) T m h = both (one_sends t c _ (λ _. []) T m h).1
heard_sends t (grouped c Cgb i r s) T m h =
    let x = moving (marked t c r s) (λ _. on_far_block (why_of i)) (grouped c Cgba i r s ∷ []) in
    both (no_move (marked t c r s) (λ _. on_far_block (why_of i)) (grouped c Cgba i r s ∷ []) m (range_sends t c r s x T m h).1)
heard_sends t (grouped c Cgu i r s) T m h =
    let x = moving (marked t c r s) (λ _. on_far_unblock (why_of i)) (grouped c Cgua i r s ∷ []) in
    both (no_move (marked t c r s) (λ _. on_far_unblock (why_of i)) (grouped c Cgua i r s ∷ []) m (range_sends t c r s x T m h).1)
heard_sends t (grouped c Cgba i r s) T m h = acks_send t Cgu c r i s on_block_ack is_none (λ b. b ≡ local.None) T m none_said h
heard_sends t (grouped c Cgua i r s) T m h = acks_send t Cgb c r i s on_unblock_ack is_standing Standing T m standing_said h
heard_sends t (group_reset c r) T m h =
    let sent = groups t Cgb Hardware (λ k x. x.equipped && (in_range t c r k && is_standing x.local.hardware)) T
    ++ (group_reset_ack c r (status_by (λ n. shows (circuit_of t (as_cic (c + n)) T)) r) ∷ []) in
    let w = range_sends t c r [] (moving (in_range t c r) (λ _. on_grs) sent) T m h in
    as_said (GroupResetAnswer t T c r) m sent (no_move (in_range t c r) (λ _. on_grs) sent m w.1) (grs_sends t c r T w.0)
heard_sends t (group_reset_ack c r s) T m h =
    let x = moving (in_range t c r) (λ k. on_gra (is_named r s (k - (c - t.first.0)))) [] in
    both (silently (is_counted t c r) x nothing m (record { sends = refl; silent = refl }) (record { sends = refl; silent = refl })
    (range_sends t c r s (cond (is_counted t c r) x nothing) T m h).1)
  where
    silently : (b : Bool) (x y m : Move) → Sends x [] → Sends y [] → cond b x y ≡ m → Sends m []
    silently true x y m p q e = subst (λ (z : Move). Sends z []) e p
    silently false x y m p q e = subst (λ (z : Move). Sends z []) e q

pub messages_answered : MessagesAnswered
messages_answered t room octets l m h = go (decode octets) refl (and_ok (admitted t room l) (λ _. and_then (raised (decode octets)) (λ x. heard t x l.table)) m h).2
  where
    go : (d : Result Msg MessageFault) → decode octets ≡ d → and_then (raised d) (λ x. heard t x l.table) ≡ Ok m
        → (message : Msg) × (decode octets ≡ Ok message) × Answers t l.table message m.sent × (m.alert ≡ None)
    go (Err f) e g = let z : ◌≡◌ {A = ℕ} 0 1 = cc in absurd (omega arith)
    go (Ok x) e g = let w = heard_sends t x l.table m g in (x, e, w.0, w.1)
