-- What is sent in reply to a message, counted: an answer, and as many requests as the circuits have cause for, or fewer.
use Rattle.std.proofs.Common.{◌≡◌, ℕ, zero, suc, ◌+◌, ◌-◌, ◌*◌, ◌/◌, ◌%◌, ◌<◌, ◌≤◌, Bool, true, false, cond, ◌&&◌, eqb, ltb, leb, List, [], ◌∷◌, ◌++◌, Some, None, Ok, Option, sym, refl, ap, ◌∙◌, ⊎_elim, arith}
use Rattle.std.proofs.lemmas.Bool.{cases_Bool, cases_lt, cases_eq, lt-ltb, le-ltb, le-leb, leb-true, eqb-true, eq-eqb, and_parts}
use Rattle.status.specs.Bits.{is_named}
use Rattle.message.specs.Msg.{Msg, single, release_complete, group_reset, group_reset_ack, grouped, release, call}
use Rattle.message.specs.declared.kinds.BlockType.{BlockType}
use Rattle.message.specs.declared.kinds.BlockType.TheVariants.{Hardware}
use Rattle.message.specs.declared.kinds.CallKind.TheVariants.{Iam, Acm, Con, Anm, Cpg}
use Rattle.message.specs.declared.kinds.Grouped.{Grouped}
use Rattle.message.specs.declared.kinds.Grouped.TheVariants.{Cgb, Cgu, Cgba, Cgua}
use Rattle.message.specs.declared.kinds.Single.TheVariants.{Rsc, Blo, Ubl, Bla, Uba}
use Rattle.circuit.specs.Circuits.{block_of, is_none, is_standing}
use Rattle.circuit.specs.Signals.{on_grs, on_gra, unexpected}
use Rattle.circuit.specs.declared.record.Circuit.{Circuit}
use Rattle.circuit.specs.declared.rules.Change.{Change}
use Rattle.supervision.specs.declared.trunk.Config.{Config}
use Rattle.supervision.specs.Groups.{mask_by, group_for, groups_below, groups, status_by}
use Rattle.supervision.specs.Moves.{Move}
use Rattle.supervision.specs.Orders.{circuit_of, only, why_of, group_message, release_message}
use Rattle.supervision.specs.Receiving.{as_cic, moving, nothing, if_so as msg_if, to_one, in_range, marked, ask_again, shows, is_unexpected, is_counted, heard}
use Rattle.supervision.specs.Trunks.{covers, placed}
use Rattle.supervision.proofs.Bits.{bit_of, some_below}
use Rattle.supervision.proofs.Accepted.{one_reply, range_reply}
use Rattle.agreement.proofs.Event.{when, within, is_whole, event}
use Rattle.agreement.proofs.Passing.{Addressed}
use Rattle.agreement.proofs.Signals.{Signal, iam, progress, rel, rlc, blo, bla, ubl, uba, rsc}
use Rattle.agreement.proofs.Standing.{Fitting, Standing}
use Rattle.agreement.proofs.Total.{most, most_at}
use Rattle.agreement.proofs.Weight.{further}

-- a request and its answer are two messages
abbrev pub base : Msg → ℕ
base (single c Rsc) = 2
base (single c Blo) = 2
base (single c Ubl) = 2
base (single c Bla) = 1
base (single c Uba) = 1
base (release_complete c) = 1
base (group_reset c r) = 2
base (group_reset_ack c r s) = 1
base (grouped c Cgb i r s) = 2
base (grouped c Cgu i r s) = 2
base (grouped c Cgba i r s) = 1
base (grouped c Cgua i r s) = 1
base (release c x) = 2
base (call c kind x) = 1

abbrev pub bases : List Msg → ℕ
bases [] = 0
bases (m ∷ ms) = base m + bases ms

pub bases_append : (xs ys : List Msg) → bases (xs ++ ys) ≡ bases xs + bases ys
bases_append [] ys = omega arith
bases_append (m ∷ xs) ys = let e = bases_append xs ys in omega (arith, e)

-- the further requests that are sent at once, for a message or for none
abbrev pub further_of : Option Signal → Circuit → ℕ
further_of None c = 0
further_of (Some m) c = further m c

abbrev pub further_at : (ℕ → Bool) → ℕ → Msg → List Circuit → ℕ → ℕ
further_at E first msg T k = cond (E k) (further_of (event first k msg) (placed T k)) 0

-- ## Group messages of our own

pub at_most_two : (m : Msg) → base m ≤ 2
at_most_two (single c Rsc) = omega arith
at_most_two (grouped c Cgb i r s) = omega arith
at_most_two (grouped c Cgu i r s) = omega arith
at_most_two (grouped c Cgba i r s) = omega arith
at_most_two (grouped c Cgua i r s) = omega arith
at_most_two m = omega arith

-- a message of ours for a PCM system stands for one of its circuits at least
group_for_few : (t : Config) (what : Grouped) (why : BlockType) (p : ℕ → Circuit → Bool) (system : ℕ) (T : List Circuit) (n : ℕ)
    → ((k : ℕ) → system * 32 ≤ k → k < system * 32 + 32 → p k (placed T k) ≡ true → 1 ≤ n) → bases (group_for t what why p system T) ≤ 2 * n
group_for_few t what why p system T n h = ⊎_elim
    (λ (e : eqb (mask_by p system T) 0 ≡ true). rw e (omega arith))
    (λ (e : eqb (mask_by p system T) 0 ≡ false).
    let w = some_below (λ slot. ltb 0 slot && p (system * 32 + slot) (placed T (system * 32 + slot))) 32 e in
    let l = w.1 in
    let one : 1 ≤ n = h (system * 32 + w.0) (omega arith) (omega (arith, l)) (and_parts (ltb 0 w.0) _ w.2).1 in
    let two = at_most_two (group_message t system what why (mask_by p system T)) in
    rw e (omega (arith, one, two)))
    (cases_Bool (eqb (mask_by p system T) 0))

-- where all of its circuits are of one PCM system, one message at most
groups_below_few : (t : Config) (what : Grouped) (why : BlockType) (p : ℕ → Circuit → Bool) (system n : ℕ) (T : List Circuit) (b : ℕ)
    → ((k : ℕ) → k < n * 32 → p k (placed T k) ≡ true → (k / 32 ≡ system) × (1 ≤ b)) → bases (groups_below t what why p n T) ≤ 2 * cond (ltb system n) b 0
groups_below_few t what why p system zero T b h = omega arith
groups_below_few t what why p system (suc n) T b h =
    let before = groups_below_few t what why p system n T b (λ k l q. h k (omega (arith, l)) q) in
    rw (bases_append (groups_below t what why p n T) (group_for t what why p n T))
    (⊎_elim
    (λ (e : system ≡ n).
    let last = group_for_few t what why p n T b (λ k l g q. (h k (omega (arith, g)) q).1) in
    let off : ltb system n ≡ false = le-ltb system n (omega arith) in
    let on : ltb system (suc n) ≡ true = lt-ltb system (suc n) (omega arith) in
    let none = rw off at before in
    rw on (omega (arith, none, last)))
    (λ (e : system ≡ n → ⊥).
    let last = group_for_few t what why p n T 0 (λ k l g q. absurd (e (let z = (h k (omega (arith, g)) q).0 in omega (arith, z, l, g)))) in
    rw (← same e) (omega (arith, before, last)))
    (cases_eq system n))
  where
    same : (system ≡ n → ⊥) → ltb system n ≡ ltb system (suc n)
    same e = ⊎_elim
        (λ (l : system < n). lt-ltb system n l ∙ sym (lt-ltb system (suc n) (omega arith)))
        (λ (l : n ≤ system). le-ltb system n l ∙ sym (le-ltb system (suc n) (above l e)))
        (cases_lt system n)
      where
        above : n ≤ system → (system ≡ n → ⊥) → suc n ≤ system
        above l e = ⊎_elim (λ (y : n < system). omega arith) (λ (y : system ≤ n). absurd (e (omega arith))) (cases_lt n system)

groups_few : (t : Config) (what : Grouped) (why : BlockType) (p : ℕ → Circuit → Bool) (system : ℕ) (T : List Circuit) (b : ℕ)
    → ((k : ℕ) → k < t.systems * 32 → p k (placed T k) ≡ true → (k / 32 ≡ system) × (1 ≤ b)) → bases (groups t what why p T) ≤ 2 * b
groups_few t what why p system T b h = go (ltb system t.systems) (groups_below_few t what why p system t.systems T b h)
  where
    go : (x : Bool) → bases (groups t what why p T) ≤ 2 * cond x b 0 → bases (groups t what why p T) ≤ 2 * b
    go true l = l
    go false l = omega (arith, l)

-- a range of 30 from time slot 1 is within a PCM system
in_system : (first c r k : ℕ) → is_whole first c r ≡ true → within first c r k ≡ true → k / 32 ≡ (c - first) / 32
in_system first c r k w i =
    let v = and_parts (eqb ((c - first) % 32) 1) (eqb r 30) w in
    let a : (c - first) % 32 ≡ 1 = eqb-true ((c - first) % 32) 1 v.0 in
    let b : r ≡ 30 = eqb-true r 30 v.1 in
    let u = and_parts (leb (c - first) k) (leb k (c - first + r)) i in
    let low : c - first ≤ k = leb-true (c - first) k u.0 in
    let high : k ≤ c - first + r = leb-true k (c - first + r) u.1 in
    inside (c - first) r k a b low high
  where
    inside : (d r k : ℕ) → d % 32 ≡ 1 → r ≡ 30 → d ≤ k → k ≤ d + r → k / 32 ≡ d / 32
    inside d r k a b low high = omega arith

covers_within : (first c r : ℕ) (s : List ℕ) (k : ℕ) → covers (c - first) r s k ≡ true → within first c r k ≡ true
covers_within first c r s k h =
    let u = and_parts (leb (c - first) k) (is_named r s (k - (c - first))) h in
    let low : c - first ≤ k = leb-true (c - first) k u.0 in
    let v = and_parts (leb (k - (c - first)) r) _ u.1 in
    let high : k - (c - first) ≤ r = leb-true (k - (c - first)) r v.0 in
    let z : leb k (c - first + r) ≡ true = le-leb k (c - first + r) (omega (arith, low, high)) in
    rw (u.0, z) refl

-- ## A message for one circuit

-- its further messages are the most
one_further : (first : ℕ) (E : ℕ → Bool) (n c : ℕ) (msg : Msg) (sig : Signal) (T : List Circuit) → E (c - first) ≡ true → c - first < n
    → ((k : ℕ) → event first k msg ≡ when (eqb k (c - first)) sig) → further sig (placed T (c - first)) ≤ most n (further_at E first msg T)
one_further first E n c msg sig T e l q =
    let k = c - first in
    let here : event first k msg ≡ Some sig = q k ∙ rw (eq-eqb k k refl) refl in
    let same : further_at E first msg T k ≡ further sig (placed T k) = rw (e, here) refl in
    let b = most_at k n (further_at E first msg T) l in
    rw same at b

one_counted : (t : Config) (E : ℕ → Bool) (n c : ℕ) (msg : Msg) (sig : Signal) (rule : Circuit → Change) (ans : Circuit → List Msg) (T : List Circuit) (m : Move)
    → to_one t c rule ans T ≡ Ok m → E (c - t.first.0) ≡ true → c - t.first.0 < n
    → ((k : ℕ) → event t.first.0 k msg ≡ when (eqb k (c - t.first.0)) sig)
    → bases (ans (placed T (c - t.first.0))) + 1 ≤ base msg + 2 * further sig (placed T (c - t.first.0))
    → bases m.sent + 1 ≤ base msg + 2 * most n (further_at E t.first.0 msg T)
one_counted t E n c msg sig rule ans T m h e l q w =
    let a = one_further t.first.0 E n c msg sig T e l q in
    rw (one_reply t c rule ans T m h) (omega (arith, a, w))

-- the hardware block asked again, of one circuit
ask_few : (t : Config) (c : ℕ) (T : List Circuit) → bases (ask_again t c T) ≤ 2 * bit_of (is_standing (placed T (c - t.first.0)).local.hardware)
ask_few t c T =
    let first = t.first.0 in
    let p = λ (k : ℕ) (x : Circuit). only t (as_cic c) k && is_standing x.local.hardware in
    group_for_few t Cgb Hardware p ((c - first) / 32) T (bit_of (is_standing (placed T (c - first)).local.hardware))
    (λ k l g q.
    let w = and_parts (only t (as_cic c) k) (is_standing (placed T k).local.hardware) q in
    let e : k ≡ c - first = eqb-true k (c - first) w.0 in
    let z : is_standing (placed T (c - first)).local.hardware ≡ true = ap (λ j. is_standing (placed T j).local.hardware) (sym e) ∙ w.1 in
    rw z (omega arith))

-- ## All messages

-- one message fewer, but for those that the circuits had cause for
pub counted : (t : Config) (E : ℕ → Bool) (msg : Msg) (T : List Circuit) (m : Move) → Fitting t E → Standing t E T → Addressed t.first.0 (t.systems * 32) E msg
    → heard t msg T ≡ Ok m → bases m.sent + 1 ≤ base msg + 2 * most (t.systems * 32) (further_at E t.first.0 msg T)
counted t E (single c Blo) T m f st a h = one_counted t E _ c (single c Blo) blo _ (λ _. single c Bla ∷ []) T m h a.1 (f.inside _ a.1) (λ k. refl) (omega arith)
counted t E (single c Ubl) T m f st a h = one_counted t E _ c (single c Ubl) ubl _ (λ _. single c Uba ∷ []) T m h a.1 (f.inside _ a.1) (λ k. refl) (omega arith)
counted t E (single c Bla) T m f st a h = one_counted t E _ c (single c Bla) bla _ (λ x. msg_if (is_none x.local.maintenance) (single c Ubl)) T m h a.1 (f.inside _ a.1) (λ k. refl) (go (is_none (placed T (c - t.first.0)).local.maintenance))
  where
    go : (b : Bool) → bases (msg_if b (single c Ubl)) + 1 ≤ 1 + 2 * bit_of b
    go true = omega arith
    go false = omega arith
counted t E (single c Uba) T m f st a h = one_counted t E _ c (single c Uba) uba _ (λ x. msg_if (is_standing x.local.maintenance) (single c Blo)) T m h a.1 (f.inside _ a.1) (λ k. refl) (go (is_standing (placed T (c - t.first.0)).local.maintenance))
  where
    go : (b : Bool) → bases (msg_if b (single c Blo)) + 1 ≤ 1 + 2 * bit_of b
    go true = omega arith
    go false = omega arith
counted t E (single c Rsc) T m f st a h =
    let d = placed T (c - t.first.0) in
    let ans = λ (x : Circuit). msg_if (is_standing x.local.maintenance) (single c Blo) ++ (ask_again t c T ++ (release_complete c ∷ [])) in
    let few = ask_few t c T in
    one_counted t E _ c (single c Rsc) rsc _ ans T m h a.1 (f.inside _ a.1) (λ k. refl) (go (is_standing d.local.maintenance) (is_standing d.local.hardware) (ask_again t c T) few)
  where
    go : (x y : Bool) (again : List Msg) → bases again ≤ 2 * bit_of y → bases (msg_if x (single c Blo) ++ (again ++ (release_complete c ∷ []))) + 1 ≤ 2 + 2 * (bit_of x + bit_of y)
    go true y again l = let e = bases_append again (release_complete c ∷ []) in omega (arith, e, l)
    go false y again l = let e = bases_append again (release_complete c ∷ []) in omega (arith, e, l)
counted t E (release_complete c) T m f st a h = one_counted t E _ c (release_complete c) rlc _ (λ x. msg_if (is_unexpected x) (release_message c unexpected)) T m h a.1 (f.inside _ a.1) (λ k. refl) (go (is_unexpected (placed T (c - t.first.0))))
  where
    go : (b : Bool) → bases (msg_if b (release_message c unexpected)) + 1 ≤ 1 + 2 * bit_of b
    go true = omega arith
    go false = omega arith
counted t E (release c x) T m f st a h = one_counted t E _ c (release c x) rel _ (λ _. release_complete c ∷ []) T m h a.1 (f.inside _ a.1) (λ k. refl) (omega arith)
counted t E (call c Iam x) T m f st a h = one_counted t E _ c (call c Iam x) iam _ (λ _. []) T m h a.1 (f.inside _ a.1) (λ k. refl) (omega arith)
counted t E (call c Acm x) T m f st a h = one_counted t E _ c (call c Acm x) progress _ (λ _. []) T m h a.1 (f.inside _ a.1) (λ k. refl) (omega arith)
counted t E (call c Con x) T m f st a h = one_counted t E _ c (call c Con x) progress _ (λ _. []) T m h a.1 (f.inside _ a.1) (λ k. refl) (omega arith)
counted t E (call c Anm x) T m f st a h = one_counted t E _ c (call c Anm x) progress _ (λ _. []) T m h a.1 (f.inside _ a.1) (λ k. refl) (omega arith)
counted t E (call c Cpg x) T m f st a h = one_counted t E _ c (call c Cpg x) progress _ (λ _. []) T m h a.1 (f.inside _ a.1) (λ k. refl) (omega arith)
counted t E (grouped c Cgb i r s) T m f st a h = rw (range_reply t c r s _ T m h) (omega arith)
counted t E (grouped c Cgu i r s) T m f st a h = rw (range_reply t c r s _ T m h) (omega arith)
counted t E (grouped c Cgba i r s) T m f st a h =
    let p = λ (k : ℕ) (x : Circuit). marked t c r s k && is_none (block_of (why_of i) x.local) in
    let e = further_at E t.first.0 (grouped c Cgba i r s) T in
    let few = groups_few t Cgu (why_of i) p ((c - t.first.0) / 32) T (most (t.systems * 32) e)
    (λ k l q.
    let w = and_parts (marked t c r s k) (is_none (block_of (why_of i) (placed T k).local)) q in
    let one : e k ≡ 1 = rw (a.2 k w.0, w.0, w.1) refl in
    let b = most_at k (t.systems * 32) e l in
    (in_system t.first.0 c r k a.3 (covers_within t.first.0 c r s k w.0), omega (arith, one, b))) in
    rw (range_reply t c r s _ T m h) (omega (arith, few))
counted t E (grouped c Cgua i r s) T m f st a h =
    let p = λ (k : ℕ) (x : Circuit). marked t c r s k && is_standing (block_of (why_of i) x.local) in
    let e = further_at E t.first.0 (grouped c Cgua i r s) T in
    let few = groups_few t Cgb (why_of i) p ((c - t.first.0) / 32) T (most (t.systems * 32) e)
    (λ k l q.
    let w = and_parts (marked t c r s k) (is_standing (block_of (why_of i) (placed T k).local)) q in
    let one : e k ≡ 1 = rw (a.2 k w.0, w.0, w.1) refl in
    let b = most_at k (t.systems * 32) e l in
    (in_system t.first.0 c r k a.3 (covers_within t.first.0 c r s k w.0), omega (arith, one, b))) in
    rw (range_reply t c r s _ T m h) (omega (arith, few))
counted t E (group_reset c r) T m f st a h =
    let p = λ (k : ℕ) (x : Circuit). x.equipped && (in_range t c r k && is_standing x.local.hardware) in
    let again = groups t Cgb Hardware p T in
    let status = status_by (λ n. shows (circuit_of t (as_cic (c + n)) T)) r in
    let e = further_at E t.first.0 (group_reset c r) T in
    let few = groups_few t Cgb Hardware p ((c - t.first.0) / 32) T (most (t.systems * 32) e)
    (λ k l q.
    let v = and_parts (placed T k).equipped (in_range t c r k && is_standing (placed T k).local.hardware) q in
    let w = and_parts (in_range t c r k) (is_standing (placed T k).local.hardware) v.1 in
    let here : E k ≡ true = sym (st.equipment k) ∙ v.0 in
    let one : e k ≡ 1 = rw (here, w.0, w.1) refl in
    let b = most_at k (t.systems * 32) e l in
    (in_system t.first.0 c r k a.2 w.0, omega (arith, one, b))) in
    let sum = bases_append again (group_reset_ack c r status ∷ []) in
    rw (range_reply t c r [] (moving (in_range t c r) (λ _. on_grs) (again ++ (group_reset_ack c r status ∷ []))) T m h) (omega (arith, few, sum))
counted t E (group_reset_ack c r s) T m f st a h = rw (range_reply t c r s _ T m h) (go (is_counted t c r))
  where
    go : (b : Bool) → bases (cond b (moving (in_range t c r) (λ k. on_gra (is_named r s (k - (c - t.first.0)))) []) nothing).sent + 1 ≤ 1 + 2 * most (t.systems * 32) (further_at E t.first.0 (group_reset_ack c r s) T)
    go true = omega arith
    go false = omega arith
