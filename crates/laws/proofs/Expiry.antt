-- What accepted expiries repeat.
use Rattle.std.proofs.Common.{◌↔◌, ◌≡◌, ◌≢◌, ℕ, ◌+◌, Bool, true, false, cond, not, ◌&&◌, eqb, ltb, leb, List, [], ◌∷◌, Some, None, Ok, Option, refl, ap, ◌∙◌, subst, ⊎_elim, arith}
use Rattle.std.proofs.lemmas.Bool.{cases_Bool, not-false, false≢true}
use Rattle.status.specs.declared.cic.Cic.{Cic}
use Rattle.message.specs.Msg.{Msg, single, group_reset}
use Rattle.message.specs.declared.kinds.BlockType.{BlockType}
use Rattle.message.specs.declared.kinds.BlockType.TheVariants.{Maintenance}
use Rattle.message.specs.declared.kinds.Grouped.{Grouped}
use Rattle.message.specs.declared.kinds.Grouped.TheVariants.{Cgb, Cgu}
use Rattle.message.specs.declared.kinds.Single.TheVariants.{Rsc, Blo, Ubl}
use Rattle.circuit.specs.Circuits.{is_group, is_releasing, is_single}
use Rattle.circuit.specs.declared.record.Call.TheVariants.{Releasing}
use Rattle.circuit.specs.declared.record.Circuit.{Circuit}
use Rattle.circuit.specs.declared.record.LocalBlock.{LocalBlock}
use Rattle.circuit.specs.declared.record.LocalBlock.TheVariants as local
use Rattle.circuit.specs.declared.record.Reset.TheVariants as reset
use Rattle.circuit.specs.declared.rules.Change.{Change}
use Rattle.circuit.specs.declared.rules.Rule.TheVariants as rule
use Rattle.words.specs.Words.{timer_of}
use Rattle.words.specs.declared.kinds.Timer.{Timer}
use Rattle.words.specs.declared.kinds.Timer.TheVariants.{T1, T5, T12, T13, T14, T15, T16, T17, T18, T19, T20, T21, T22, T23}
use Rattle.refusal.specs.declared.reasons.Refusal.TheVariants.{Address, Argument}
use Rattle.refusal.specs.Refusals.{and_then}
use Rattle.supervision.specs.Expiring.{repeating, repeats_one, repeats_group, repeats_reset, asked_for, lifting_for, alert_at, alerting, gives_up, expired, timed}
use Rattle.supervision.specs.Groups.{mask_by, group_for}
use Rattle.supervision.specs.Moves.{Move, table_of}
use Rattle.supervision.specs.Orders.{admitted, circuit_of, singly, why_of, release_message, reset_message}
use Rattle.supervision.specs.Receiving.{as_cic, nothing}
use Rattle.supervision.specs.Trunks.{first_of, placed}
use Rattle.supervision.specs.declared.trunk.Config.{Config}
use Rattle.supervision.proofs.Allowing.{past, same_move, and_ok, at_place}
use Rattle.supervision.proofs.Keeping.{table_at}
use Rattle.supervision.proofs.Naming.{unequipped}
use Rattle.laws.specs.Blocks.{of_type}
use Rattle.laws.specs.Calls.{is_ours}
use Rattle.laws.specs.Events as on
use Rattle.laws.specs.Events.{Event, expired_as, type_told}
use Rattle.laws.specs.Sending.{at_cic, slot_1, GroupIf, Repeats, RepeatsGroup, told_at, GroupWaits, Expires, ExpiriesRepeat}
use Rattle.laws.proofs.Effect.{effect}
use Rattle.laws.proofs.Meeting.{expired_met}
use Rattle.laws.proofs.Name.{Reflects, some_concerned, none_concerned, group_if}
use Rattle.laws.proofs.Places.{type_named}
use Rattle.laws.proofs.Send.{singly_sends, both_said, itself, asked_said, lifting_said, releasing_said, single_said, group_said, type_said}

-- repeated where the test holds, else nothing
repeats_if : {P : Type 0} (b : Bool) (msg : Msg) (alert : Option (Timer × Cic)) → ((b ≡ true) ↔ P) → Repeats P msg alert (cond b (repeating (msg ∷ []) alert) nothing)
repeats_if true msg alert e = record { waits = λ p. (refl, refl); does_not = λ n. absurd (n (e.0 refl)) }
repeats_if false msg alert e = record { waits = λ p. absurd (false≢true (e.1 p)); does_not = λ n. (refl, refl) }

one_repeats : (t : Config) (c : ℕ) (waits : Circuit → Bool) (P : Circuit → Type 0) (message : Circuit → Msg) (alert : Option (Timer × Cic)) (T : List Circuit) (m : Move)
    → ((x : Circuit) → ((waits x ≡ true) ↔ (P x))) → repeats_one t c waits message alert T ≡ Ok m
    → Repeats (P (at_cic t T c)) (message (at_cic t T c)) alert m
one_repeats t c waits P message alert T m e h =
    let x = circuit_of t (as_cic c) T in
    let found = past (not x.equipped) Address _ m h in
    let at = at_place t (as_cic c) T (not-false x.equipped found.0) in
    subst (λ (y : Circuit). Repeats (P y) (message y) alert m) at
    (subst (λ (y : Move). Repeats (P x) (message x) alert y) (same_move (cond (waits x) (repeating (message x ∷ []) alert) nothing) m found.1)
    (repeats_if (waits x) (message x) alert (e x)))

-- T5 resets a releasing circuit
t5_repeats : (t : Config) (c : ℕ) (T : List Circuit) (m : Move) → gives_up t c T ≡ Ok m → Repeats ((at_cic t T c).call ≡ Releasing) (single c Rsc) (told_at T5 c) m
t5_repeats t c T m h =
    let x = circuit_of t (as_cic c) T in
    let found = past (not x.equipped) Address _ m h in
    let at = at_place t (as_cic c) T (not-false x.equipped found.0) in
    subst (λ (y : Circuit). Repeats (y.call ≡ Releasing) (single c Rsc) (told_at T5 c) m) at
    (go (is_releasing x.call) (releasing_said x.call) found.1)
  where
    go : {P : Type 0} (b : Bool) → ((b ≡ true) ↔ P)
        → cond b (and_then (singly t (as_cic c) (rule.Reset reset.Single) (single c Rsc) T) (λ y. Ok (alerting (alert_at T5 c) y))) (Ok nothing) ≡ Ok m
        → Repeats P (single c Rsc) (told_at T5 c) m
    go {P} false e g = subst (λ (y : Move). Repeats P (single c Rsc) (told_at T5 c) y) (same_move nothing m g) (repeats_if false (single c Rsc) (told_at T5 c) e)
    go {P} true e g =
        let a = and_ok (singly t (as_cic c) (rule.Reset reset.Single) (single c Rsc) T) (λ y. Ok (alerting (alert_at T5 c) y)) m g in
        let s = singly_sends t (as_cic c) (rule.Reset reset.Single) (single c Rsc) T a.0 a.1 in
        subst (λ (y : Move). Repeats P (single c Rsc) (told_at T5 c) y) (same_move (alerting (alert_at T5 c) a.0) m a.2)
        (record { waits = λ p. (s.sends, refl); does_not = λ n. absurd (n (e.0 refl)) })

-- a group message, by the blocks that wait
group_repeats : (t : Config) (system kind : ℕ) (what : Grouped) (waits : BlockType → Circuit → Bool) (state : LocalBlock) (alert : Option (Timer × Cic)) (T : List Circuit) (m : Move)
    → ((why : BlockType) (x : Circuit) → ((waits why x ≡ true) ↔ (of_type why x.local ≡ state))) → repeats_group t system kind what waits alert T ≡ Ok m
    → RepeatsGroup t T what (type_told kind) state system alert m
group_repeats t system kind what waits state alert T m e h =
    subst (λ (y : Move). RepeatsGroup t T what (type_told kind) state system alert y)
    (same_move (cond (eqb (mask_by p system T) 0) nothing x) m (past (leb t.systems system) Address _ m (past (ltb 1 kind) Argument _ m h).1).1)
    (rw (← type_named kind) (go (eqb (mask_by p system T) 0) refl (group_if t what why p P T system r)))
  where
    why : BlockType
    why = why_of kind

    p : ℕ → Circuit → Bool
    p k x = x.equipped && waits why x

    P : ℕ → Circuit → Type 0
    P k x = (x.equipped ≡ true) × (of_type why x.local ≡ state)

    x : Move
    x = repeating (group_for t what why p system T) alert

    r : Reflects p P
    r k y = both_said y.equipped (waits why y) (itself y.equipped) (e why y)

    go : (b : Bool) → eqb (mask_by p system T) 0 ≡ b → GroupIf t what why P T system (group_for t what why p system T)
        → RepeatsGroup t T what why state system alert (cond b nothing x)
    go true q g =
        let no = none_concerned p P T system r q in
        record { sends = (λ c. absurd (no c), λ n. refl); waits = λ c. absurd (no c); does_not = λ n. refl }
    go false q g = record { sends = g; waits = λ c. refl; does_not = λ n. absurd (n (some_concerned p P T system r q)) }

reset_repeats : (t : Config) (system : ℕ) (alert : Option (Timer × Cic)) (T : List Circuit) (m : Move) → repeats_reset t system alert T ≡ Ok m
    → Repeats (GroupWaits T system) (group_reset (slot_1 t system) 30) alert m
reset_repeats t system alert T m h =
    subst (λ (y : Move). Repeats (GroupWaits T system) (group_reset (slot_1 t system) 30) alert y)
    (same_move (cond (eqb (mask_by p system T) 0) nothing x) m (past (leb t.systems system) Address _ m h).1)
    (go (eqb (mask_by p system T) 0) refl)
  where
    p : ℕ → Circuit → Bool
    p k y = y.equipped && is_group y.reset

    P : ℕ → Circuit → Type 0
    P k y = (y.equipped ≡ true) × (y.reset ≡ reset.Group)

    x : Move
    x = repeating (reset_message t system ∷ []) alert

    r : Reflects p P
    r k y = both_said y.equipped (is_group y.reset) (itself y.equipped) (group_said y.reset)

    go : (b : Bool) → eqb (mask_by p system T) 0 ≡ b → Repeats (GroupWaits T system) (group_reset (slot_1 t system) 30) alert (cond b nothing x)
    go true q = record { waits = λ c. absurd (none_concerned p P T system r q c); does_not = λ n. (refl, refl) }
    go false q = record { waits = λ c. (refl, refl); does_not = λ n. absurd (n (some_concerned p P T system r q)) }

asked_waits : (why : BlockType) (x : Circuit) → ((asked_for why x ≡ true) ↔ (of_type why x.local ≡ local.Asked))
asked_waits why x = rw (type_said why x.local) (asked_said (of_type why x.local))

lifting_waits : (why : BlockType) (x : Circuit) → ((lifting_for why x ≡ true) ↔ (of_type why x.local ≡ local.Lifting))
lifting_waits why x = rw (type_said why x.local) (lifting_said (of_type why x.local))

expires : (t : Config) (timer : Timer) (at kind : ℕ) (T : List Circuit) (m : Move) → expired t timer at kind T ≡ Ok m → Expires t T timer at kind m
expires t T1 at kind T m h =
    one_repeats t at (λ x. is_releasing x.call) (λ x. x.call ≡ Releasing) (λ x. release_message at x.cause) None T m (λ x. releasing_said x.call) h
expires t T5 at kind T m h = t5_repeats t at T m h
expires t T12 at kind T m h =
    one_repeats t at (asked_for Maintenance) (λ x. x.local.maintenance ≡ local.Asked) (λ _. single at Blo) None T m (λ x. asked_said x.local.maintenance) h
expires t T13 at kind T m h =
    one_repeats t at (asked_for Maintenance) (λ x. x.local.maintenance ≡ local.Asked) (λ _. single at Blo) (alert_at T13 at) T m (λ x. asked_said x.local.maintenance) h
expires t T14 at kind T m h =
    one_repeats t at (lifting_for Maintenance) (λ x. x.local.maintenance ≡ local.Lifting) (λ _. single at Ubl) None T m (λ x. lifting_said x.local.maintenance) h
expires t T15 at kind T m h =
    one_repeats t at (lifting_for Maintenance) (λ x. x.local.maintenance ≡ local.Lifting) (λ _. single at Ubl) (alert_at T15 at) T m (λ x. lifting_said x.local.maintenance) h
expires t T16 at kind T m h =
    one_repeats t at (λ x. is_single x.reset) (λ x. x.reset ≡ reset.Single) (λ _. single at Rsc) None T m (λ x. single_said x.reset) h
expires t T17 at kind T m h =
    one_repeats t at (λ x. is_single x.reset) (λ x. x.reset ≡ reset.Single) (λ _. single at Rsc) (alert_at T17 at) T m (λ x. single_said x.reset) h
expires t T18 at kind T m h = group_repeats t at kind Cgb asked_for local.Asked None T m asked_waits h
expires t T19 at kind T m h = group_repeats t at kind Cgb asked_for local.Asked (alert_at T19 (first_of t at)) T m asked_waits h
expires t T20 at kind T m h = group_repeats t at kind Cgu lifting_for local.Lifting None T m lifting_waits h
expires t T21 at kind T m h = group_repeats t at kind Cgu lifting_for local.Lifting (alert_at T21 (first_of t at)) T m lifting_waits h
expires t T22 at kind T m h = reset_repeats t at None T m h
expires t T23 at kind T m h = reset_repeats t at (alert_at T23 (first_of t at)) T m h

-- of the timers only T5 is an event to a circuit
no_event : (x : Timer) (at cic : ℕ) → x ≢ T5 → expired_as (Some x) at cic ≡ on.nothing
no_event T1 at cic n = refl
no_event T5 at cic n = absurd (n refl)
no_event T12 at cic n = refl
no_event T13 at cic n = refl
no_event T14 at cic n = refl
no_event T15 at cic n = refl
no_event T16 at cic n = refl
no_event T17 at cic n = refl
no_event T18 at cic n = refl
no_event T19 at cic n = refl
no_event T20 at cic n = refl
no_event T21 at cic n = refl
no_event T22 at cic n = refl
no_event T23 at cic n = refl

unchanged : (t : Config) (x : Timer) (at kind : ℕ) (T : List Circuit) (m : Move) → expired t x at kind T ≡ Ok m → x ≢ T5 → (k : ℕ) → placed (table_of m T) k ≡ placed T k
unchanged t x at kind T m h n k = table_at m T k ∙ ⊎_elim
    (λ (q : (placed T k).equipped ≡ true).
    let w = (expired_met t x at kind T m k h q).did in
    ap (λ (d : Change). d.circuit) (w ∙ ap (λ (e : Event). effect (is_ours t.higher (t.first.0 + k)) e (placed T k)) (no_event x at (t.first.0 + k) n)))
    (λ (q : (placed T k).equipped ≡ false). ap (λ (d : Change). d.circuit) (unequipped m.named m.rule k (placed T k) q))
    (cases_Bool (placed T k).equipped)

pub expiries_repeat : ExpiriesRepeat
expiries_repeat t room timer at kind l m h =
    go (timer_of timer) refl (and_ok (admitted t room l) (λ _. and_then (timed (timer_of timer)) (λ x. expired t x at kind l.table)) m h).2
  where
    go : (d : Option Timer) → timer_of timer ≡ d → and_then (timed d) (λ x. expired t x at kind l.table) ≡ Ok m
        → (x : Timer) × (timer_of timer ≡ Some x) × Expires t l.table x at kind m
        × (x ≢ T5 → (k : ℕ) → placed (table_of m l.table) k ≡ placed l.table k)
    go None e g = let z : ◌≡◌ {A = ℕ} 0 1 = cc in absurd (omega arith)
    go (Some x) e g = (x, e, expires t x at kind l.table m g, unchanged t x at kind l.table m g)
