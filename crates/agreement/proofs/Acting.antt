-- Every accepted order and every accepted expiry keeps the laws of an end.
use Rattle.std.proofs.Common.{◌≤◌, ◌≡◌, ℕ, ◌+◌, ◌-◌, ◌/◌, ◌%◌, ◌<◌, Bool, true, false, cond, not, ◌&&◌, ◌||◌, eqb, ltb, leb, List, [], ◌∷◌, length, None, Ok, Option, Result, sym, refl, ap, ◌∙◌, ⊎_elim, subst, arith, ◌*◌, Some}
use Rattle.std.proofs.lemmas.Bool.{cases_Bool, eqb-true, not-false, and_parts, eqb-false, leb-false, ltb-false, false≢true}
use Rattle.status.specs.declared.cic.Cic.{Cic}
use Rattle.message.specs.Msg.{Msg, single, call}
use Rattle.message.specs.declared.kinds.BlockType.{BlockType}
use Rattle.message.specs.declared.kinds.BlockType.TheVariants.{Maintenance, Hardware}
use Rattle.message.specs.declared.kinds.CallKind.TheVariants.{Iam}
use Rattle.message.specs.declared.kinds.Grouped.{Grouped}
use Rattle.message.specs.declared.kinds.Grouped.TheVariants.{Cgb, Cgu}
use Rattle.message.specs.declared.kinds.Single.{Single}
use Rattle.message.specs.declared.kinds.Single.TheVariants.{Rsc, Blo, Ubl}
use Rattle.policy.specs.declared.interface.Place.{Place}
use Rattle.circuit.specs.declared.record.Reset.TheVariants as reset
use Rattle.circuit.specs.declared.rules.Rule.TheVariants as rule
use Rattle.circuit.specs.Circuits.{is_group, is_releasing, is_single, is_open}
use Rattle.circuit.specs.Laws.{allows}
use Rattle.circuit.specs.Orders.{applied}
use Rattle.circuit.specs.declared.record.Circuit.{Circuit}
use Rattle.circuit.specs.declared.rules.Rule.{Rule}
use Rattle.circuit.proofs.Keeping.{order_keeps}
use Rattle.words.specs.Words.{timer_of}
use Rattle.words.specs.declared.kinds.Timer.{Timer}
use Rattle.words.specs.declared.kinds.Timer.TheVariants.{T1, T5, T12, T13, T14, T15, T16, T17, T18, T19, T20, T21, T22, T23}
use Rattle.refusal.specs.declared.reasons.Refusal.{Refusal}
use Rattle.refusal.specs.declared.reasons.Refusal.TheVariants.{Address, State, Argument, Choice}
use Rattle.refusal.specs.Refusals.{unless, and_then}
use Rattle.supervision.specs.declared.trunk.Config.{Config}
use Rattle.supervision.specs.Expiring.{repeating, repeats_one, repeats_group, repeats_reset, asked_for, lifting_for, alert_at, gives_up, expired, timed, expiring}
use Rattle.supervision.specs.Groups.{mask_by, group_for}
use Rattle.supervision.specs.Lending.{Lent}
use Rattle.supervision.specs.Moves.{Move}
use Rattle.supervision.specs.Orders.{admitted, circuit_of, ordered, only, singly, cause_of, release_message, slots, every_slot, group_message, reset_message, why_of, type_of, typed, clearing}
use Rattle.supervision.specs.Receiving.{as_cic, nothing}
use Rattle.supervision.specs.Seizing.{may_ask, seizable, seizing}
use Rattle.supervision.specs.Trunks.{first_of, placed}
use Rattle.supervision.proofs.Allowing.{past, same_move, accepted, and_ok}
use Rattle.supervision.specs.Answering.{Order, seize, release as release_order, block, unblock, reset as reset_order, group_block, group_unblock, group_reset as group_reset_order, answer}
use Rattle.supervision.proofs.Concerned.{every_slot_names}
use Rattle.supervision.proofs.Bits.{some_below}
use Rattle.supervision.proofs.Accepted.{found_at, after_unnamed, after_named, gave_up, equipped_inside}
use Rattle.agreement.proofs.EndLaws.{Shift, shift_of, Acted}
use Rattle.agreement.proofs.Event.{when, of_kind, event, push, shown, push_when, group_event, group_for_shown, reset_event}
use Rattle.agreement.proofs.Laws.{OwnLaws}
use Rattle.agreement.proofs.Passing.{Sends, Each, found_addressed, single_passes, release_passes, call_passes, group_passes, reset_passes, group_for_passes}
use Rattle.agreement.proofs.Rules.{Own, stays, seizes, releases, blocks_one, unblocks_one, blocks, unblocks, resets, resets_group, repeats_rel, repeats_blo, repeats_ubl, repeats_rsc, repeats_cgb, repeats_cgu, repeats_grs, own_laws}
use Rattle.agreement.proofs.Signals.{Signal, iam, rel, blo, ubl, rsc, grs, if_so}
use Rattle.agreement.proofs.Standing.{Fitting, Standing}

acted_same : (t : Config) (E : ℕ → Bool) (T : List Circuit) (x m : Move) → ◌≡◌ {A = Result Move Refusal} (Ok x) (Ok m) → Acted t E T x → Acted t E T m
acted_same t E T x m e h = subst (Acted t E T) (same_move x m e) h

-- of two moves
acted_if : (t : Config) (E : ℕ → Bool) (T : List Circuit) (b : Bool) (x y : Move) → (b ≡ true → Acted t E T x) → (b ≡ false → Acted t E T y) → Acted t E T (cond b x y)
acted_if t E T true x y h g = h refl
acted_if t E T false x y h g = g refl

-- one message, which is a signal where the place is named
one_shown : (t : Config) (k : ℕ) (msg : Msg) (b : Bool) (sig : Signal) → event t.first.0 k msg ≡ when b sig → shown t.first.0 k (msg ∷ []) ≡ if_so b sig
one_shown t k msg b sig e = ap (λ (o : Option Signal). push o []) e ∙ push_when b sig

-- ## A move that changes no circuit

still_acted : (t : Config) (E : ℕ → Bool) (T : List Circuit) (sent : List Msg) (alert : Option (Timer × Cic)) → Standing t E T → Each (Sends t E) sent
    → ((k : ℕ) → E k ≡ true → Own (placed T k) (placed T k) (shown t.first.0 k sent)) → Acted t E T (repeating sent alert)
still_acted t E T sent alert st passes own =
    let m = repeating sent alert in
    record {
      kept = record {
        allowed = λ k n e. absurd (false≢true n);
        shift = shift_of E T m (λ k e. ap (λ c. is_group c.reset) (after_unnamed m T k refl));
        sent = passes;
      };
      own = λ k e.
          subst (λ x. OwnLaws (placed T k) x (shown t.first.0 k sent)) (sym (after_unnamed m T k refl))
          (own_laws (placed T k) (placed T k) (shown t.first.0 k sent) (own k e) (st.sound k));
    }

nothing_acted : (t : Config) (E : ℕ → Bool) (T : List Circuit) → Standing t E T → Acted t E T nothing
nothing_acted t E T st = still_acted t E T [] None st tt (λ k e. stays (placed T k))

-- ## Orders

-- the move of an order whose rule may be applied where it names, and whose message names just that
ordered_acted : (t : Config) (E : ℕ → Bool) (named : ℕ → Bool) (r : Rule) (msg : Msg) (T : List Circuit) (sig : Signal) → Standing t E T
    → ((k : ℕ) → E k ≡ true → event t.first.0 k msg ≡ when (named k) sig)
    → ((k : ℕ) → named k ≡ true → (placed T k).equipped ≡ true → allows r (placed T k) ≡ true)
    → ((c : Circuit) → allows r c ≡ true → Own c (applied r c).circuit (sig ∷ []))
    → Shift E T (ordered named r msg) → Sends t E msg → Acted t E T (ordered named r msg)
ordered_acted t E named r msg T sig st ev may own shift passes =
    let m = ordered named r msg in
    let at : ℕ → List Signal = λ k. shown t.first.0 k (msg ∷ []) in
    record {
      kept = record { allowed = λ k n e. order_keeps r (placed T k) (may k n e); shift = shift; sent = (passes, tt) };
      own = λ k e. ⊎_elim
          (λ (n : named k ≡ true).
          let q : (placed T k).equipped ≡ true = st.equipment k ∙ e in
          let s : at k ≡ sig ∷ [] = one_shown t k msg (named k) sig (ev k e) ∙ rw n refl in
          rw (after_named m T k n q, s) (own_laws (placed T k) (applied r (placed T k)).circuit (sig ∷ []) (own (placed T k) (may k n q)) (st.sound k)))
          (λ (n : named k ≡ false).
          let s : at k ≡ [] = one_shown t k msg (named k) sig (ev k e) ∙ rw n refl in
          rw (after_unnamed m T k n, s) (own_laws (placed T k) (placed T k) [] (stays (placed T k)) (st.sound k)))
          (cases_Bool (named k));
    }

-- a rule that begins and ends no wait for a group reset
abbrev IsSteady : Rule → Type 0
IsSteady r = (c : Circuit) → allows r c ≡ true → is_group (applied r c).circuit.reset ≡ is_group c.reset

steady : (t : Config) (E : ℕ → Bool) (named : ℕ → Bool) (r : Rule) (msg : Msg) (T : List Circuit) → Standing t E T
    → ((k : ℕ) → named k ≡ true → (placed T k).equipped ≡ true → allows r (placed T k) ≡ true)
    → IsSteady r → Shift E T (ordered named r msg)
steady t E named r msg T st may s =
    let m = ordered named r msg in
    shift_of E T m
    (λ k e.
    let q : (placed T k).equipped ≡ true = st.equipment k ∙ e in
    ⊎_elim
    (λ (n : named k ≡ true). ap (λ c. is_group c.reset) (after_named m T k n q) ∙ s (placed T k) (may k n q))
    (λ (n : named k ≡ false). ap (λ c. is_group c.reset) (after_unnamed m T k n))
    (cases_Bool (named k)))

single_acted : (t : Config) (E : ℕ → Bool) (cic : Cic) (r : Rule) (msg : Msg) (T : List Circuit) (m : Move) (sig : Signal) → Standing t E T
    → singly t cic r msg T ≡ Ok m
    → ((k : ℕ) → event t.first.0 k msg ≡ when (only t cic k) sig)
    → ((c : Circuit) → allows r c ≡ true → Own c (applied r c).circuit (sig ∷ []))
    → IsSteady r → ((t.first.0 ≤ cic.0) × (E (cic.0 - t.first.0) ≡ true) → Sends t E msg) → Acted t E T m
single_acted t E cic r msg T m sig st h ev own s passes =
    let c = circuit_of t cic T in
    let found = past (not c.equipped) Address _ m h in
    let fit = past (not (allows r c)) State _ m found.1 in
    let here = not-false c.equipped found.0 in
    let at = (found_at t cic T here).1 in
    let may : (k : ℕ) → only t cic k ≡ true → (placed T k).equipped ≡ true → allows r (placed T k) ≡ true =
    λ k n q.
    let z : k ≡ cic.0 - t.first.0 = eqb-true k (cic.0 - t.first.0) n in
    let a : allows r (placed T (cic.0 - t.first.0)) ≡ true = rw (← at) (not-false (allows r c) fit.0) in
    rw z a in
    acted_same t E T (ordered (only t cic) r msg) m fit.1
    (ordered_acted t E (only t cic) r msg T sig st (λ k e. ev k) may own (steady t E (only t cic) r msg T st may s)
    (passes (found_addressed t E cic T st here)))

-- an order of a type for the circuits of a mask
typed_acted : (t : Config) (E : ℕ → Bool) (room kind system mask : ℕ) (r : BlockType → Rule) (what : Grouped) (l : Lent) (m : Move) → Fitting t E → Standing t E l.table
    → typed r what t room kind system mask l ≡ Ok m
    → ((why : BlockType) (c : Circuit) → allows (r why) c ≡ true → Own c (applied (r why) c).circuit (of_kind what why ∷ []))
    → ((why : BlockType) → IsSteady (r why)) → Acted t E l.table m
typed_acted t E room kind system mask r what l m f st h own s =
    let b = and_ok (type_of kind mask) _ m (and_ok (admitted t room l) _ m h).2 in
    let why = b.0 in
    let T = l.table in
    let msg = group_message t system what why mask in
    let named = slots system mask in
    let w = accepted t system mask (r why) msg T m b.2 in
    let low : system < t.systems = leb-false t.systems system (past (leb t.systems system) Address _ m b.2).0 in
    let even : mask % 2 ≡ 0 = even_of mask (eqb-false (mask % 2) 1 w.1) in
    let may : (k : ℕ) → named k ≡ true → (placed T k).equipped ≡ true → allows (r why) (placed T k) ≡ true = λ k n q. (w.2 k n (equipped_inside T k q)).1 in
    subst (Acted t E T) (sym w.0)
    (ordered_acted t E named (r why) msg T (of_kind what why) st (λ k e. group_event t system what why mask k even) may (own why)
    (steady t E named (r why) msg T st may (s why))
    (group_passes t E system what why mask f low even
    (λ j q.
    let d : j / 32 ≡ system = eqb-true (j / 32) system (and_parts (eqb (j / 32) system) _ q).0 in
    let z = st.size in
    let n = t.systems in
    sym (st.equipment j) ∙ (w.2 j q (omega (arith, d, low, z))).0)))
  where
    even_of : (n : ℕ) → (n % 2 ≡ 1 → ⊥) → n % 2 ≡ 0
    even_of n h = grind arith

-- a group reset is waited for by all of the PCM system
clear_shift : (t : Config) (E : ℕ → Bool) (system : ℕ) (T : List Circuit) → Fitting t E → Standing t E T → Shift E T (ordered (slots system every_slot) (rule.Reset reset.Group) (reset_message t system))
clear_shift t E system T f st =
    let named = slots system every_slot in
    let move = ordered named (rule.Reset reset.Group) (reset_message t system) in (
      (λ s b. eqb s system || b),
      λ k e. ⊎_elim
          (λ (n : named k ≡ true).
          let z : eqb (k / 32) system ≡ true = sym (every_slot_names system k (f.slots k e)) ∙ n in
          ap (λ y. is_group y.reset) (after_named move T k n (st.equipment k ∙ e)) ∙ rw z refl)
          (λ (n : named k ≡ false).
          let z : eqb (k / 32) system ≡ false = sym (every_slot_names system k (f.slots k e)) ∙ n in
          ap (λ y. is_group y.reset) (after_unnamed move T k n) ∙ rw z refl)
          (cases_Bool (named k)),
    )

clear_acted : (t : Config) (E : ℕ → Bool) (system : ℕ) (T : List Circuit) (m : Move) → Fitting t E → Standing t E T → clearing t system ≡ Ok m → Acted t E T m
clear_acted t E system T m f st h =
    let inside = past (leb t.systems system) Address _ m h in
    let named = slots system every_slot in
    let r = rule.Reset reset.Group in
    let msg = reset_message t system in
    acted_same t E T (ordered named r msg) m inside.1
    (ordered_acted t E named r msg T grs st
    (λ k e. let s = f.slots k e in reset_event t system k s ∙ ap (λ b. when b grs) (sym (every_slot_names system k s)))
    (λ k n q. refl) (λ c a. resets_group c) (clear_shift t E system T f st)
    (reset_passes t E system f (leb-false t.systems system inside.0)))

pub seizable_open : (choice : Option Place) (T : List Circuit) (place : Place) → seizable choice T ≡ Ok place → is_open (placed T place.0) ≡ true
seizable_open None T place h = let z : ◌≡◌ {A = ℕ} 0 1 = cc in absurd (omega arith)
seizable_open (Some p) T place h = go (is_open (placed T p.0)) refl h
  where
    go : (b : Bool) → is_open (placed T p.0) ≡ b → unless (not b) Choice (Ok p) ≡ Ok place → is_open (placed T place.0) ≡ true
    go true e q = let z : p ≡ place = cc in subst (λ (y : Place). is_open (placed T y.0) ≡ true) z e
    go false e q = let z : ◌≡◌ {A = ℕ} 0 1 = cc in absurd (omega arith)

seize_acted : (t : Config) (E : ℕ → Bool) (room : ℕ) (body : List ℕ) (choice : Option Place) (l : Lent) (m : Move) → Fitting t E → Standing t E l.table
    → and_then (may_ask t room body l) (λ _. seizing t body choice l.table) ≡ Ok m → Acted t E l.table m
seize_acted t E room body choice l m f st h =
    let T = l.table in
    let a = and_ok (may_ask t room body l) _ m h in
    let long = body_long (ltb (length body) 1) (ltb 256 (length body)) a.0 (and_ok (admitted t room l) _ a.0 a.1).2 in
    let w = and_ok (seizable choice T) _ m a.2 in
    let p = w.0 in
    let is_it = seizable_open choice T p w.1 in
    let q : (placed T p.0).equipped ≡ true = (and_parts (placed T p.0).equipped _ is_it).0 in
    let g = t.first.0 in
    let z : g + p.0 - g ≡ p.0 = omega arith in
    let named = λ (k : ℕ). eqb k p.0 in
    let msg = call (g + p.0) Iam body in
    let may : (k : ℕ) → named k ≡ true → (placed T k).equipped ≡ true → allows rule.Seize (placed T k) ≡ true =
    λ k n _. let e : k ≡ p.0 = eqb-true k p.0 n in rw e is_it in
    acted_same t E T (ordered named rule.Seize msg) m w.2
    (ordered_acted t E named rule.Seize msg T iam st (λ k e. rw z refl) may (λ c o. seizes c o) (steady t E named rule.Seize msg T st may (λ c o. refl))
    (record {
      passes = call_passes t E (g + p.0) Iam body f (let y = ltb-false (length body) 1 long.0 in omega (arith, y)) (omega arith, rw z (sym (st.equipment p.0) ∙ q));
      body = let y = ltb-false 256 (length body) long.1 in omega (arith, y);
    }))
  where
    body_long : (x y : Bool) (u : Unit {0}) → unless (x || y) Argument (Ok tt) ≡ Ok u → (x ≡ false) × (y ≡ false)
    body_long true y u e = let z : ◌≡◌ {A = ℕ} 0 1 = cc in absurd (omega arith)
    body_long false true u e = let z : ◌≡◌ {A = ℕ} 0 1 = cc in absurd (omega arith)
    body_long false false u e = (refl, refl)

single_reset_steady : (c : Circuit) → allows (rule.Reset reset.Single) c ≡ true → is_group (applied (rule.Reset reset.Single) c).circuit.reset ≡ is_group c.reset
single_reset_steady c a = grind arith

block_steady : (why : BlockType) (c : Circuit) → is_group (applied (rule.Block why) c).circuit.reset ≡ is_group c.reset
block_steady Maintenance c = refl
block_steady Hardware c = refl

pub order_acted : (t : Config) (E : ℕ → Bool) (room : ℕ) (o : Order) (l : Lent) (m : Move) → Fitting t E → Standing t E l.table → answer t room o l ≡ Ok m → Acted t E l.table m
order_acted t E room (seize body choice) l m f st h = seize_acted t E room body choice l m f st h
order_acted t E room (release_order cic location value) l m f st h =
    let b = and_ok (cause_of location value) _ m (and_ok (admitted t room l) _ m h).2 in
    single_acted t E cic (rule.Release b.0) (release_message cic.0 b.0) l.table m rel st b.2 (λ k. refl) (λ c. releases c b.0) (λ c a. refl)
    (release_passes t E cic.0 b.0.location_octet b.0.value_octet f)
order_acted t E room (block cic) l m f st h =
    single_acted t E cic (rule.Block Maintenance) (single cic.0 Blo) l.table m blo st (and_ok (admitted t room l) _ m h).2 (λ k. refl)
    (λ c a. blocks_one c) (λ c a. refl) (single_passes t E cic.0 Blo f)
order_acted t E room (unblock cic) l m f st h =
    single_acted t E cic (rule.Unblock Maintenance) (single cic.0 Ubl) l.table m ubl st (and_ok (admitted t room l) _ m h).2 (λ k. refl)
    (λ c a. unblocks_one c) (λ c a. refl) (single_passes t E cic.0 Ubl f)
order_acted t E room (reset_order cic) l m f st h =
    single_acted t E cic (rule.Reset reset.Single) (single cic.0 Rsc) l.table m rsc st (and_ok (admitted t room l) _ m h).2 (λ k. refl)
    (λ c a. resets c) single_reset_steady (single_passes t E cic.0 Rsc f)
order_acted t E room (group_block kind system mask) l m f st h =
    typed_acted t E room kind system mask rule.Block Cgb l m f st h (λ why c a. blocks c why) (λ why c a. block_steady why c)
order_acted t E room (group_unblock kind system mask) l m f st h =
    typed_acted t E room kind system mask rule.Unblock Cgu l m f st h (λ why c a. unblocks c why) (λ why c a. refl)
order_acted t E room (group_reset_order system) l m f st h = clear_acted t E system l.table m f st (and_ok (admitted t room l) _ m h).2

-- ## Expiries

-- a message of one circuit, repeated while it is waited for
repeats_acted : (t : Config) (E : ℕ → Bool) (c : ℕ) (waits : Circuit → Bool) (message : Circuit → Msg) (alert : Option (Timer × Cic)) (T : List Circuit) (m : Move) (sig : Signal) → Standing t E T
    → repeats_one t c waits message alert T ≡ Ok m
    → ((k : ℕ) (x : Circuit) → event t.first.0 k (message x) ≡ when (only t (as_cic c) k) sig)
    → ((x : Circuit) → waits x ≡ true → Own x x (sig ∷ []))
    → ((x : Circuit) → (t.first.0 ≤ c) × (E (c - t.first.0) ≡ true) → Sends t E (message x)) → Acted t E T m
repeats_acted t E c waits message alert T m sig st h ev own passes =
    let x = circuit_of t (as_cic c) T in
    let found = past (not x.equipped) Address _ m h in
    let here = not-false x.equipped found.0 in
    let at = (found_at t (as_cic c) T here).1 in
    acted_same t E T (cond (waits x) (repeating (message x ∷ []) alert) nothing) m found.1
    (acted_if t E T (waits x) (repeating (message x ∷ []) alert) nothing
    (λ w. still_acted t E T (message x ∷ []) alert st (passes x (found_addressed t E (as_cic c) T st here), tt)
    (λ k e. ⊎_elim
    (λ (n : eqb k (c - t.first.0) ≡ true).
    let z : k ≡ c - t.first.0 = eqb-true k (c - t.first.0) n in
    let a : waits (placed T (c - t.first.0)) ≡ true = rw (← at) w in
    rw (one_shown t k (message x) (eqb k (c - t.first.0)) sig (ev k x), n) (own (placed T k) (rw z a)))
    (λ (n : eqb k (c - t.first.0) ≡ false).
    rw (one_shown t k (message x) (eqb k (c - t.first.0)) sig (ev k x), n) (stays (placed T k)))
    (cases_Bool (eqb k (c - t.first.0)))))
    (λ _. nothing_acted t E T st))

gives_up_acted : (t : Config) (E : ℕ → Bool) (c : ℕ) (T : List Circuit) (m : Move) → Fitting t E → Standing t E T → gives_up t c T ≡ Ok m → Acted t E T m
gives_up_acted t E c T m f st h =
    gave_up (Acted t E T) t c T m h (nothing_acted t E T st)
    (λ x e.
    let w = single_acted t E (as_cic c) (rule.Reset reset.Single) (single c Rsc) T x rsc st e (λ k. refl) (λ d a. resets d) single_reset_steady (single_passes t E c Rsc f) in
    record { kept = record { allowed = w.kept.allowed; shift = w.kept.shift; sent = w.kept.sent }; own = w.own })

and_all : (a b c : Bool) → (a && (b && c)) ≡ true → c ≡ true
and_all a b c e = (and_parts b c (and_parts a (b && c) e).1).1

repeats_group_acted : (t : Config) (E : ℕ → Bool) (system kind : ℕ) (what : Grouped) (waits : BlockType → Circuit → Bool) (alert : Option (Timer × Cic)) (T : List Circuit) (m : Move) → Fitting t E → Standing t E T
    → repeats_group t system kind what waits alert T ≡ Ok m
    → ((why : BlockType) (x : Circuit) → waits why x ≡ true → Own x x (of_kind what why ∷ [])) → Acted t E T m
repeats_group_acted t E system kind what waits alert T m f st h own =
    let inside = past (leb t.systems system) Address _ m (past (ltb 1 kind) Argument _ m h).1 in
    let why = why_of kind in
    let p = λ (_ : ℕ) (x : Circuit). x.equipped && waits why x in
    let sent = group_for t what why p system T in
    acted_same t E T (cond (eqb (mask_by p system T) 0) nothing (repeating sent alert)) m inside.1
    (acted_if t E T (eqb (mask_by p system T) 0) nothing (repeating sent alert)
    (λ _. nothing_acted t E T st)
    (λ _. still_acted t E T sent alert st
    (group_for_passes t E what why p system T f (leb-false t.systems system inside.0) (λ j q. sym (st.equipment j) ∙ (and_parts (placed T j).equipped _ q).0))
    (λ k e.
    let c = placed T k in
    let s = group_for_shown t what why p system T k (f.slots k e) in
    ⊎_elim
    (λ (n : (eqb (k / 32) system && p k c) ≡ true). rw (s, n) (own why c (and_all (eqb (k / 32) system) c.equipped (waits why c) n)))
    (λ (n : (eqb (k / 32) system && p k c) ≡ false). rw (s, n) (stays c))
    (cases_Bool (eqb (k / 32) system && p k c)))))

-- a group reset waits for all circuits of a PCM system or for none, so it is repeated for circuits that wait
repeats_reset_acted : (t : Config) (E : ℕ → Bool) (system : ℕ) (alert : Option (Timer × Cic)) (T : List Circuit) (m : Move) → Fitting t E → Standing t E T
    → repeats_reset t system alert T ≡ Ok m → Acted t E T m
repeats_reset_acted t E system alert T m f st h =
    let inside = past (leb t.systems system) Address _ m h in
    let p = λ (_ : ℕ) (x : Circuit). x.equipped && is_group x.reset in
    let msg = reset_message t system in
    acted_same t E T (cond (eqb (mask_by p system T) 0) nothing (repeating (msg ∷ []) alert)) m inside.1
    (acted_if t E T (eqb (mask_by p system T) 0) nothing (repeating (msg ∷ []) alert)
    (λ _. nothing_acted t E T st)
    (λ w.
    let some = some_below (λ slot. ltb 0 slot && p (system * 32 + slot) (placed T (system * 32 + slot))) 32 w in
    let j = system * 32 + some.0 in
    let parts = and_parts (placed T j).equipped (is_group (placed T j).reset) (and_parts (ltb 0 some.0) _ some.2).1 in
    let d : j / 32 ≡ system = omega (arith, some.1) in
    let g = st.whole.0 in
    let on : g system ≡ true = ap g (sym d) ∙ (sym (st.whole.1 j (sym (st.equipment j) ∙ parts.0)) ∙ parts.1) in
    still_acted t E T (msg ∷ []) alert st (reset_passes t E system f (leb-false t.systems system inside.0), tt)
    (λ k e.
    let s = one_shown t k msg (eqb (k / 32) system) grs (reset_event t system k (f.slots k e)) in
    ⊎_elim
    (λ (n : eqb (k / 32) system ≡ true).
    let z : k / 32 ≡ system = eqb-true (k / 32) system n in
    rw (s, n) (repeats_grs (placed T k) (st.whole.1 k e ∙ (ap g z ∙ on))))
    (λ (n : eqb (k / 32) system ≡ false). rw (s, n) (stays (placed T k)))
    (cases_Bool (eqb (k / 32) system)))))

-- BLO or UBL, with an alert or without
one_acted : (t : Config) (E : ℕ → Bool) (at : ℕ) (waits : Circuit → Bool) (kind : Single) (alert : Option (Timer × Cic)) (T : List Circuit) (m : Move) (sig : Signal) → Fitting t E → Standing t E T
    → repeats_one t at waits (λ _. single at kind) alert T ≡ Ok m → ((k : ℕ) → event t.first.0 k (single at kind) ≡ when (only t (as_cic at) k) sig)
    → ((x : Circuit) → waits x ≡ true → Own x x (sig ∷ [])) → Acted t E T m
one_acted t E at waits kind alert T m sig f st h ev own = repeats_acted t E at waits (λ _. single at kind) alert T m sig st h (λ k x. ev k) own (λ x a. single_passes t E at kind f a)

expired_acted : (t : Config) (E : ℕ → Bool) (x : Timer) (at kind : ℕ) (T : List Circuit) (m : Move) → Fitting t E → Standing t E T → expired t x at kind T ≡ Ok m → Acted t E T m
expired_acted t E T1 at kind T m f st h =
    repeats_acted t E at (λ x. is_releasing x.call) (λ x. release_message at x.cause) None T m rel st h (λ k x. refl) repeats_rel
    (λ x a. release_passes t E at x.cause.location_octet x.cause.value_octet f a)
expired_acted t E T5 at kind T m f st h = gives_up_acted t E at T m f st h
expired_acted t E T12 at kind T m f st h = one_acted t E at (asked_for Maintenance) Blo None T m blo f st h (λ k. refl) repeats_blo
expired_acted t E T13 at kind T m f st h = one_acted t E at (asked_for Maintenance) Blo (alert_at T13 at) T m blo f st h (λ k. refl) repeats_blo
expired_acted t E T14 at kind T m f st h = one_acted t E at (lifting_for Maintenance) Ubl None T m ubl f st h (λ k. refl) repeats_ubl
expired_acted t E T15 at kind T m f st h = one_acted t E at (lifting_for Maintenance) Ubl (alert_at T15 at) T m ubl f st h (λ k. refl) repeats_ubl
expired_acted t E T16 at kind T m f st h = one_acted t E at (λ x. is_single x.reset) Rsc None T m rsc f st h (λ k. refl) repeats_rsc
expired_acted t E T17 at kind T m f st h = one_acted t E at (λ x. is_single x.reset) Rsc (alert_at T17 at) T m rsc f st h (λ k. refl) repeats_rsc
expired_acted t E T18 at kind T m f st h = repeats_group_acted t E at kind Cgb asked_for None T m f st h (λ why x. repeats_cgb x why)
expired_acted t E T19 at kind T m f st h = repeats_group_acted t E at kind Cgb asked_for (alert_at T19 (first_of t at)) T m f st h (λ why x. repeats_cgb x why)
expired_acted t E T20 at kind T m f st h = repeats_group_acted t E at kind Cgu lifting_for None T m f st h (λ why x. repeats_cgu x why)
expired_acted t E T21 at kind T m f st h = repeats_group_acted t E at kind Cgu lifting_for (alert_at T21 (first_of t at)) T m f st h (λ why x. repeats_cgu x why)
expired_acted t E T22 at kind T m f st h = repeats_reset_acted t E at None T m f st h
expired_acted t E T23 at kind T m f st h = repeats_reset_acted t E at (alert_at T23 (first_of t at)) T m f st h

pub expiry_acted : (t : Config) (E : ℕ → Bool) (room timer at kind : ℕ) (l : Lent) (m : Move) → Fitting t E → Standing t E l.table → expiring t room timer at kind l ≡ Ok m → Acted t E l.table m
expiry_acted t E room timer at kind l m f st h =
    let b = and_ok (timed (timer_of timer)) _ m (and_ok (admitted t room l) _ m h).2 in
    expired_acted t E b.0 at kind l.table m f st b.2
