-- Messages for a range: what is answered, what is due after their effect, and their whole outcome.
use Rattle.std.proofs.Common.{◌≡◌, ℕ, ◌+◌, ◌-◌, ◌*◌, ◌<◌, ◌≤◌, Bool, true, false, cond, not, ◌&&◌, leb, ltb, List, [], ◌∷◌, length, Some, None, Ok, Err, Option, Result, refl, ap, ◌∙◌, subst, ◌⊎◌, ⊎_elim, arith}
use Rattle.std.proofs.lemmas.Bool.{cases_Bool, leb-true, le-leb, lt-ltb, and_parts}
use Rattle.status.specs.declared.cic.Cic.{Cic}
use Rattle.policy.specs.declared.interface.Place.{Place}
use Rattle.message.specs.Meaning.{indicator_of}
use Rattle.message.specs.Msg.{Msg, call, grouped}
use Rattle.message.specs.declared.kinds.BlockType.{BlockType}
use Rattle.message.specs.declared.kinds.BlockType.TheVariants.{Maintenance, Hardware}
use Rattle.message.specs.declared.kinds.CallKind.{CallKind}
use Rattle.message.specs.declared.kinds.CallKind.TheVariants.{Acm, Con, Anm, Cpg}
use Rattle.message.specs.declared.kinds.Grouped.{Grouped}
use Rattle.message.specs.declared.kinds.Grouped.TheVariants.{Cgb, Cgu, Cgba, Cgua}
use Rattle.circuit.specs.Circuits.{block_of, is_none, is_standing}
use Rattle.circuit.specs.declared.record.Circuit.{Circuit}
use Rattle.circuit.specs.declared.signals.Signal.{Signal as Signals}
use Rattle.circuit.specs.Signals.{on_signal, on_block_ack, on_progress, on_unblock_ack, on_rsc, on_grs}
use Rattle.circuit.proofs.Keeping.{signal_keeps}
use Rattle.status.specs.declared.group.Group.{Group}
use Rattle.refusal.specs.declared.reasons.Refusal.{Refusal}
use Rattle.refusal.specs.declared.reasons.Refusal.TheVariants.{Address}
use Rattle.refusal.specs.Refusals.{unless}
use Rattle.supervision.specs.declared.due.Condition.{Condition}
use Rattle.supervision.specs.declared.due.Condition.TheVariants.{Unblocked, Standing}
use Rattle.supervision.specs.declared.due.Due.{Due}
use Rattle.supervision.specs.declared.slots.Effect.TheVariants.{Heard}
use Rattle.supervision.specs.declared.slots.Slots.{Slots}
use Rattle.supervision.specs.declared.trunk.Config.{Config}
use Rattle.supervision.specs.Due.{holds, is_due}
use Rattle.supervision.specs.Groups.{groups}
use Rattle.supervision.specs.Laws.{Outcome}
use Rattle.supervision.specs.Lending.{Lent, Performed}
use Rattle.supervision.specs.Moves.{Move, some_from, table_of}
use Rattle.supervision.specs.Receiving.{moving, to_one, is_range, marked, to_range, heard}
use Rattle.supervision.specs.Replies.{signal_of}
use Rattle.supervision.specs.Steps.{touched, sending}
use Rattle.supervision.specs.Trunks.{places, place_of, placed}
use Rattle.supervision.proofs.Hearing.{heard_allowed}
use Rattle.supervision.proofs.Keeping.{outcome_of, table_at}
use Rattle.supervision.proofs.Allowing.{past_both}
use Rattle.supervision.proofs.Some.{none_at}
use Rattle.supervision.proofs.Systems.{groups_same}

-- a CIC of the trunk and its place
pub in_place : (t : Config) (cic : Cic) (p : Place) → Some p ≡ place_of t cic → (t.first.0 ≤ cic.0) × (p.0 ≡ cic.0 - t.first.0)
in_place t cic p e = go (leb t.first.0 cic.0) (ltb cic.0 (t.first.0 + places t)) refl e
  where
    go : (a b : Bool) → leb t.first.0 cic.0 ≡ a → ◌≡◌ {A = Option Place} (Some p) (cond (a && b) (Some (record { 0 = cic.0 - t.first.0 })) None) → (t.first.0 ≤ cic.0) × (p.0 ≡ cic.0 - t.first.0)
    go true true q h = (leb-true t.first.0 cic.0 q, let z : p ≡ record { 0 = cic.0 - t.first.0 } = cc in ap (λ x. x.0) z)
    go true false q h = let z : ◌≡◌ {A = ℕ} 0 1 = cc in absurd (omega arith)
    go false b q h = let z : ◌≡◌ {A = ℕ} 0 1 = cc in absurd (omega arith)

-- a range within the table
pub is_spanned : (t : Config) (c r : ℕ) → t.first.0 ≤ c → c - t.first.0 + r < t.systems * 32 → is_range t c r ≡ true
is_spanned t c r l h = rw (le-leb t.first.0 c l, lt-ltb (c + r) (t.first.0 + t.systems * 32) (let f = t.first.0 in let n = t.systems in omega (arith, l, h))) refl

-- what was found: the range is of the table, and no circuit is named that is not equipped
pub spans : (a b : Bool) (s x : Slots) → Ok s ≡ unless (not a) Address (unless b Address (Ok x)) → (a ≡ true) × (b ≡ false) × (s ≡ x)
spans true false s x e = (refl, refl, cc)
spans true true s x e = let z : ◌≡◌ {A = ℕ} 0 1 = cc in absurd (omega arith)
spans false b s x e = let z : ◌≡◌ {A = ℕ} 0 1 = cc in absurd (omega arith)

-- a message for a range whose move was done
pub range_outcome : (t : Config) (msg : Msg) (c r : ℕ) (s : List ℕ) (m : Move) (n : ℕ × ℕ) (before after : Lent)
    → heard t msg before.table ≡ to_range t c r s m before.table
    → is_range t c r ≡ true
    → some_from (λ k x. marked t c r s k && not x.equipped) 0 before.table ≡ false
    → length before.table ≤ length before.held
    → Performed t m n before after
    → Outcome t (λ (b : Lent). heard t msg b.table) (Ok n) before after
range_outcome t msg c r s m n before after e a b l p =
    let accepted : heard t msg before.table ≡ Ok m = e ∙ rw (a, b) refl in
    outcome_of t (λ (x : Lent). heard t msg x.table) m n before after l (heard_allowed t msg before.table m accepted) accepted p

-- what a group message of a type is answered by
abbrev pub group_answer : Config → ℕ → Grouped → BlockType → ℕ → List ℕ → List Circuit → List Msg
group_answer t c Cgb why r s T = grouped c Cgba (indicator_of why) r s ∷ []
group_answer t c Cgu why r s T = grouped c Cgua (indicator_of why) r s ∷ []
group_answer t c Cgba why r s T = groups t Cgu why (λ k x. marked t c r s k && is_none (block_of why x.local)) T
group_answer t c Cgua why r s T = groups t Cgb why (λ k x. marked t c r s k && is_standing (block_of why x.local)) T

abbrev pub group_move : Config → ℕ → Grouped → BlockType → ℕ → List ℕ → List Circuit → Move
group_move t c what why r s T = moving (marked t c r s) (λ _. on_signal (signal_of what why)) (group_answer t c what why r s T)

pub group_heard : (t : Config) (c : ℕ) (what : Grouped) (why : BlockType) (r : ℕ) (s : List ℕ) (T : List Circuit)
    → heard t (grouped c what (indicator_of why) r s) T ≡ to_range t c r s (group_move t c what why r s T) T
group_heard t c Cgb Maintenance r s T = refl
group_heard t c Cgb Hardware r s T = refl
group_heard t c Cgu Maintenance r s T = refl
group_heard t c Cgu Hardware r s T = refl
group_heard t c Cgba Maintenance r s T = refl
group_heard t c Cgba Hardware r s T = refl
group_heard t c Cgua Maintenance r s T = refl
group_heard t c Cgua Hardware r s T = refl

-- ## What is due after an effect is what was due before

pub due_after : (m : Move) (due : Due) (T : List Circuit)
    → ((k : ℕ) (x : Circuit) → (m.rule k x).circuit.equipped ≡ x.equipped)
    → ((k : ℕ) (x : Circuit) → holds due.condition (m.rule k x).circuit ≡ holds due.condition x)
    → (k : ℕ) → is_due due k (placed (table_of m T) k) ≡ is_due due k (placed T k)
due_after m due T e h k =
    let x = placed T k in
    rw (table_at m T k) (go (x.equipped && m.named k))
  where
    go : (b : Bool) → let d = cond b (m.rule k (placed T k)) (record { circuit = placed T k; ended = None; begun = None }) in
        is_due due k d.circuit ≡ is_due due k (placed T k)
    go true =
        ap (λ (b : Bool). touched due.effect due.slots k && (b && holds due.condition (m.rule k (placed T k)).circuit)) (e k (placed T k))
        ∙ ap (λ (b : Bool). touched due.effect due.slots k && ((placed T k).equipped && b)) (h k (placed T k))
    go false = refl

-- a marked circuit is equipped, so that it need not be asked
pub marked_due : (t : Config) (c r : ℕ) (s : List ℕ) (T : List Circuit) (k : ℕ) (b : Bool)
    → some_from (λ j x. marked t c r s j && not x.equipped) 0 T ≡ false
    → c - t.first.0 + r < length T
    → (marked t c r s k && ((placed T k).equipped && b)) ≡ (marked t c r s k && b)
marked_due t c r s T k b none l = ⊎_elim
    (λ (m : marked t c r s k ≡ true).
    let low = leb-true (c - t.first.0) k (and_parts (leb (c - t.first.0) k) _ m).0 in
    let high = leb-true (k - (c - t.first.0)) r (and_parts (leb (k - (c - t.first.0)) r) _ (and_parts (leb (c - t.first.0) k) _ m).1).0 in
    let e : (placed T k).equipped ≡ true = past_both (marked t c r s k) (placed T k).equipped (none_at (λ j x. marked t c r s j && not x.equipped) T k (omega (arith, low, high, l)) none) m in
    rw e refl)
    (λ (m : marked t c r s k ≡ false). rw m refl)
    (cases_Bool (marked t c r s k))

-- what the circuits of a group message are asked for after its effect is what they were asked for before
pub due_group : (t : Config) (c : ℕ) (g : Group) (s : Signals) (cond : Condition) (ask : Grouped) (why : BlockType) (T U : List Circuit)
    → U ≡ table_of (moving (marked t c g.range.0 g.status.now) (λ _. on_signal s) []) T
    → ((x : Circuit) → (on_signal s x).circuit.equipped ≡ x.equipped)
    → ((x : Circuit) → holds cond (on_signal s x).circuit ≡ holds cond x)
    → some_from (λ j x. marked t c g.range.0 g.status.now j && not x.equipped) 0 T ≡ false
    → c - t.first.0 + g.range.0 < length T
    → groups t ask why (is_due (record { slots = record { first = record { 0 = c - t.first.0 }; group = g }; effect = Heard s; condition = cond })) U
    ≡ groups t ask why (λ k x. marked t c g.range.0 g.status.now k && holds cond x) T
due_group t c g s cond ask why T U u e h none l =
    let due : Due = record { slots = record { first = record { 0 = c - t.first.0 }; group = g }; effect = Heard s; condition = cond } in
    let m = moving (marked t c g.range.0 g.status.now) (λ _. on_signal s) [] in
    groups_same t ask why (is_due due) (λ k x. marked t c g.range.0 g.status.now k && holds cond x) U T
    (λ k. ap (λ (V : List Circuit). is_due due k (placed V k)) u ∙ due_after m due T (λ _. e) (λ _. h) k
    ∙ marked_due t c g.range.0 g.status.now T k (holds cond (placed T k)) none l)

-- the whole outcome of a group message
pub group_outcome : (t : Config) (c : ℕ) (what : Grouped) (why : BlockType) (r : ℕ) (s : List ℕ) (ms : List Msg) (n : ℕ × ℕ) (before after : Lent)
    → is_range t c r ≡ true
    → some_from (λ k x. marked t c r s k && not x.equipped) 0 before.table ≡ false
    → length before.table ≤ length before.held
    → ms ≡ group_answer t c what why r s before.table
    → Performed t (sending ms (moving (marked t c r s) (λ _. on_signal (signal_of what why)) [])) n before after
    → Outcome t (λ (b : Lent). heard t (grouped c what (indicator_of why) r s) b.table) (Ok n) before after
group_outcome t c what why r s ms n before after a b l e p =
    range_outcome t (grouped c what (indicator_of why) r s) c r s (group_move t c what why r s before.table) n before after (group_heard t c what why r s before.table) a b l
    (subst (λ (x : List Msg). Performed t (sending x (moving (marked t c r s) (λ _. on_signal (signal_of what why)) [])) n before after) e p)

pub signal_equips : (s : Signals) (x : Circuit) → (on_signal s x).circuit.equipped ≡ x.equipped
signal_equips s x = (signal_keeps s x).equipped

pub ack_unblocked : (why : BlockType) (x : Circuit) → holds (Unblocked why) (on_block_ack why x).circuit ≡ holds (Unblocked why) x
ack_unblocked why x = search arith

pub unlock_stands : (why : BlockType) (x : Circuit) → holds (Standing why) (on_unblock_ack why x).circuit ≡ holds (Standing why) x
unlock_stands why x = search arith

-- RSC and GRS keep whether a block stands
pub reset_stands : (why : BlockType) (x : Circuit) → holds (Standing why) (on_rsc x).circuit ≡ holds (Standing why) x
reset_stands why x = search arith

pub group_reset_stands : (why : BlockType) (x : Circuit) → holds (Standing why) (on_grs x).circuit ≡ holds (Standing why) x
group_reset_stands why x = search arith

-- a call message that shows progress is one for one circuit
pub progress_outcome : (t : Config) (c : ℕ) (kind : CallKind) (body : List ℕ) (r : Result (ℕ × ℕ) Refusal) (before after : Lent)
    → (kind ≡ Acm) ⊎ ((kind ≡ Con) ⊎ ((kind ≡ Anm) ⊎ (kind ≡ Cpg)))
    → Outcome t (λ (b : Lent). to_one t c on_progress (λ _. []) b.table) r before after
    → Outcome t (λ (b : Lent). heard t (call c kind body) b.table) r before after
progress_outcome t c kind body r before after is h =
    ⊎_elim (λ e. rw e h) (⊎_elim (λ e. rw e h) (⊎_elim (λ e. rw e h) (λ e. rw e h))) is

-- a range that is not found is refused
pub not_spanned : (a b : Bool) (e : Refusal) (x : Slots) (m : Move) → ◌≡◌ {A = Result Slots Refusal} (Err e) (unless a Address (unless b Address (Ok x))) → unless a Address (unless b Address (Ok m)) ≡ Err e
not_spanned true b e x m h = let z : e ≡ Address = cc in rw z refl
not_spanned false true e x m h = let z : e ≡ Address = cc in rw z refl
not_spanned false false e x m h = let z : ◌≡◌ {A = ℕ} 0 1 = cc in absurd (omega arith)
