-- What a message is to one circuit, and what our group messages are to each.
use Rattle.std.proofs.Common.{◌≡◌, ℕ, zero, suc, ◌+◌, ◌-◌, ◌*◌, ◌/◌, ◌%◌, ◌<◌, ◌≤◌, Bool, true, false, ◌&&◌, eqb, ltb, leb, List, [], ◌∷◌, ◌++◌, Some, None, Option, sym, refl, ap, ◌∙◌, ⊎_elim, arith}
use Rattle.std.proofs.lemmas.List.{append-nil}
use Rattle.std.proofs.lemmas.Bool.{cases_lt, cases_eq, cases_Bool, eq-eqb, ne_eqb, le-leb, lt-leb, lt-ltb, le-ltb, and_left, and_right}
use Rattle.status.specs.Bits.{is_named}
use Rattle.message.specs.Msg.{Msg, single, release_complete, group_reset, group_reset_ack, grouped, release, call}
use Rattle.message.specs.declared.kinds.BlockType.{BlockType}
use Rattle.message.specs.declared.kinds.BlockType.TheVariants.{Maintenance, Hardware}
use Rattle.message.specs.declared.kinds.CallKind.TheVariants.{Iam, Acm, Con, Anm, Cpg}
use Rattle.message.specs.declared.kinds.Grouped.{Grouped}
use Rattle.message.specs.declared.kinds.Grouped.TheVariants.{Cgb, Cgu, Cgba, Cgua}
use Rattle.message.specs.declared.kinds.Single.TheVariants.{Rsc, Blo, Ubl, Bla, Uba}
use Rattle.circuit.specs.declared.record.Circuit.{Circuit}
use Rattle.supervision.specs.declared.trunk.Config.{Config}
use Rattle.supervision.specs.Groups.{mask_by, group_for, groups_below, groups}
use Rattle.supervision.specs.Orders.{slots, group_message, reset_message, why_of}
use Rattle.supervision.specs.Trunks.{covers, placed}
use Rattle.supervision.proofs.Masks.{named-slots}
use Rattle.supervision.proofs.Concerned.{start_of, mask_even, mask_names, mask_none}
use Rattle.agreement.proofs.Signals.{Signal, iam, progress, rel, rlc, blo, bla, ubl, uba, rsc, grs, cgb, cgu, cgba, cgua, gra, if_so}

abbrev pub when : {A : Type 0} → Bool → A → Option A
when true a = Some a
when false a = None

-- the places c - first to c - first + r
abbrev pub within : ℕ → ℕ → ℕ → ℕ → Bool
within first c r k = leb (c - first) k && leb k (c - first + r)

-- the range of our own group resets
abbrev pub is_whole : ℕ → ℕ → ℕ → Bool
is_whole first c r = eqb ((c - first) % 32) 1 && eqb r 30

abbrev pub of_kind : Grouped → BlockType → Signal
of_kind Cgb why = cgb why
of_kind Cgu why = cgu why
of_kind Cgba why = cgba why
of_kind Cgua why = cgua why

-- what a message is to the circuit at the place k of a trunk with this first CIC; none where it does not name it
abbrev pub event : ℕ → ℕ → Msg → Option Signal
event first k (single c Rsc) = when (eqb k (c - first)) rsc
event first k (single c Blo) = when (eqb k (c - first)) blo
event first k (single c Ubl) = when (eqb k (c - first)) ubl
event first k (single c Bla) = when (eqb k (c - first)) bla
event first k (single c Uba) = when (eqb k (c - first)) uba
event first k (release_complete c) = when (eqb k (c - first)) rlc
event first k (release c cause) = when (eqb k (c - first)) rel
event first k (call c Iam body) = when (eqb k (c - first)) iam
event first k (call c Acm body) = when (eqb k (c - first)) progress
event first k (call c Con body) = when (eqb k (c - first)) progress
event first k (call c Anm body) = when (eqb k (c - first)) progress
event first k (call c Cpg body) = when (eqb k (c - first)) progress
event first k (grouped c what i r s) = when (covers (c - first) r s k) (of_kind what (why_of i))
event first k (group_reset c r) = when (within first c r k) grs
event first k (group_reset_ack c r s) = when (is_whole first c r && within first c r k) (gra (is_named r s (k - (c - first))))

abbrev pub push : Option Signal → List Signal → List Signal
push None l = l
push (Some m) l = m ∷ l

-- messages as one circuit sees them
abbrev pub shown : ℕ → ℕ → List Msg → List Signal
shown first k [] = []
shown first k (m ∷ ms) = push (event first k m) (shown first k ms)

pub push_append : (e : Option Signal) (x y : List Signal) → push e (x ++ y) ≡ push e x ++ y
push_append None x y = refl
push_append (Some m) x y = refl

pub shown_append : (first k : ℕ) (xs ys : List Msg) → shown first k (xs ++ ys) ≡ shown first k xs ++ shown first k ys
shown_append first k [] ys = refl
shown_append first k (m ∷ xs) ys = ap (push (event first k m)) (shown_append first k xs ys) ∙ push_append (event first k m) (shown first k xs) (shown first k ys)

pub push_when : (b : Bool) (m : Signal) → push (when b m) [] ≡ if_so b m
push_when true m = refl
push_when false m = refl

-- ## Our group messages

-- a message with an even mask names the time slots of the mask
pub group_event : (t : Config) (system : ℕ) (what : Grouped) (why : BlockType) (mask k : ℕ) → mask % 2 ≡ 0
    → event t.first.0 k (group_message t system what why mask) ≡ when (slots system mask k) (of_kind what why)
group_event t system what Maintenance mask k even =
    rw (start_of t system) (ap (λ (f : ℕ → Bool). when (f k) (of_kind what Maintenance)) (named-slots system mask even))
group_event t system what Hardware mask k even =
    rw (start_of t system) (ap (λ (f : ℕ → Bool). when (f k) (of_kind what Hardware)) (named-slots system mask even))

pub group_for_shown : (t : Config) (what : Grouped) (why : BlockType) (p : ℕ → Circuit → Bool) (system : ℕ) (T : List Circuit) (k : ℕ) → 0 < k % 32
    → shown t.first.0 k (group_for t what why p system T) ≡ if_so (eqb (k / 32) system && p k (placed T k)) (of_kind what why)
group_for_shown t what why p system T k h = ⊎_elim
    (λ (e : eqb (mask_by p system T) 0 ≡ true). rw (e, mask_none p system T k h e) refl)
    (λ (e : eqb (mask_by p system T) 0 ≡ false).
    rw e
    (ap (λ (o : Option Signal). push o []) (group_event t system what why (mask_by p system T) k (mask_even p system T) ∙ ap (λ b. when b (of_kind what why)) (mask_names p system T k h))
    ∙ push_when (eqb (k / 32) system && p k (placed T k)) (of_kind what why)))
    (cases_Bool (eqb (mask_by p system T) 0))

below_more : (a n : ℕ) (x : Bool) (m : Signal) → if_so (ltb a n && x) m ++ if_so (eqb a n && x) m ≡ if_so (ltb a (suc n) && x) m
below_more a n x m = ⊎_elim
    (λ (l : a < n). rw (lt-ltb a n l, lt-ltb a (suc n) (omega arith), ne_eqb a n (λ e. omega (arith, e))) (append-nil (if_so x m)))
    (λ (l : n ≤ a). ⊎_elim
    (λ (e : a ≡ n). rw (le-ltb a n l, lt-ltb a (suc n) (omega arith), eq-eqb a n e) refl)
    (λ (e : a ≡ n → ⊥).
    let g : suc n ≤ a = ⊎_elim (λ (y : n < a). omega arith) (λ (y : a ≤ n). absurd (e (omega arith))) (cases_lt n a) in
    rw (le-ltb a n l, le-ltb a (suc n) g, ne_eqb a n e) refl)
    (cases_eq a n))
    (cases_lt a n)

groups_below_shown : (t : Config) (what : Grouped) (why : BlockType) (p : ℕ → Circuit → Bool) (n : ℕ) (T : List Circuit) (k : ℕ) → 0 < k % 32
    → shown t.first.0 k (groups_below t what why p n T) ≡ if_so (ltb (k / 32) n && p k (placed T k)) (of_kind what why)
groups_below_shown t what why p zero T k h = rw (le-ltb (k / 32) 0 (omega arith)) refl
groups_below_shown t what why p (suc n) T k h =
    shown_append t.first.0 k (groups_below t what why p n T) (group_for t what why p n T)
    ∙ rw (groups_below_shown t what why p n T k h, group_for_shown t what why p n T k h) (below_more (k / 32) n (p k (placed T k)) (of_kind what why))

pub groups_shown : (t : Config) (what : Grouped) (why : BlockType) (p : ℕ → Circuit → Bool) (T : List Circuit) (k : ℕ) → 0 < k % 32 → k / 32 < t.systems
    → shown t.first.0 k (groups t what why p T) ≡ if_so (p k (placed T k)) (of_kind what why)
groups_shown t what why p T k h l = groups_below_shown t what why p t.systems T k h ∙ rw (lt-ltb (k / 32) t.systems l) refl

-- ## A PCM system as a range

-- a range of 30 from time slot 1 is the PCM system
pub whole_range : (start k : ℕ) → start % 32 ≡ 1 → 0 < k % 32 → (leb start k && leb k (start + 30)) ≡ eqb (k / 32) (start / 32)
whole_range start k s h = ⊎_elim
    (λ (e : k / 32 ≡ start / 32). rw (le-leb start k (omega arith), le-leb k (start + 30) (omega arith), eq-eqb (k / 32) (start / 32) e) refl)
    (λ (e : k / 32 ≡ start / 32 → ⊥).
    ⊎_elim
    (λ (l : k < start). and_left (leb start k) (leb k (start + 30)) (lt-leb start k l))
    (λ (l : start ≤ k).
    let g : start + 30 < k = ⊎_elim (λ (y : start + 30 < k). y) (λ (y : k ≤ start + 30). absurd (e (omega arith))) (cases_lt (start + 30) k) in
    and_right (leb start k) (leb k (start + 30)) (lt-leb k (start + 30) g))
    (cases_lt k start)
    ∙ sym (ne_eqb (k / 32) (start / 32) e))
    (cases_eq (k / 32) (start / 32))

pub reset_event : (t : Config) (system k : ℕ) → 0 < k % 32 → event t.first.0 k (reset_message t system) ≡ when (eqb (k / 32) system) grs
reset_event t system k h =
    let s : (system * 32 + 1) % 32 ≡ 1 = omega arith in
    let d : (system * 32 + 1) / 32 ≡ system = omega arith in
    rw (start_of t system, whole_range (system * 32 + 1) k s h, d) refl
