-- What an accepted message is to each circuit.
use Rattle.std.proofs.Common.{◌≡◌, ℕ, ◌+◌, ◌-◌, ◌/◌, ◌%◌, ◌<◌, ◌≤◌, Bool, true, false, cond, not, ◌&&◌, eqb, ltb, leb, List, [], ◌∷◌, ◌++◌, Ok, Option, sym, refl, ap, ◌∙◌, ⊎_elim, subst, arith}
use Rattle.std.proofs.lemmas.Bool.{cases_Bool, eqb-true, leb-true, le-leb, not-false, and_parts}
use Rattle.status.specs.Bits.{is_named}
use Rattle.message.specs.Msg.{Msg, single, release_complete, group_reset, group_reset_ack, grouped, release, call}
use Rattle.message.specs.declared.kinds.BlockType.{BlockType}
use Rattle.message.specs.declared.kinds.BlockType.TheVariants.{Hardware}
use Rattle.message.specs.declared.kinds.CallKind.TheVariants.{Iam, Acm, Con, Anm, Cpg}
use Rattle.message.specs.declared.kinds.Grouped.{Grouped}
use Rattle.message.specs.declared.kinds.Grouped.TheVariants.{Cgb, Cgu, Cgba, Cgua}
use Rattle.message.specs.declared.kinds.Single.TheVariants.{Rsc, Blo, Ubl, Bla, Uba}
use Rattle.circuit.specs.Circuits.{block_of, is_none, is_standing}
use Rattle.circuit.specs.Signals.{on_iam, on_grs, on_gra, unexpected}
use Rattle.circuit.specs.declared.record.Circuit.{Circuit}
use Rattle.circuit.specs.declared.rules.Change.{Change}
use Rattle.refusal.specs.declared.reasons.Refusal.TheVariants.{Address}
use Rattle.supervision.specs.declared.trunk.Config.{Config}
use Rattle.supervision.specs.Groups.{groups, status_by}
use Rattle.supervision.specs.Moves.{Move, table_of, some_from}
use Rattle.supervision.specs.Orders.{circuit_of, only, why_of, release_message}
use Rattle.supervision.specs.Receiving.{as_cic, moving, nothing, if_so as msg_if, to_one, is_range, in_range, marked, to_range, ask_again, shows, is_unexpected, is_counted, heard}
use Rattle.supervision.specs.Trunks.{controls, cic_at, places, placed}
use Rattle.supervision.proofs.Allowing.{past, same_move}
use Rattle.supervision.proofs.Bits.{named_by_test}
use Rattle.supervision.proofs.Accepted.{found_at, after_unnamed, after_named}
use Rattle.agreement.proofs.Event.{when, within, is_whole, of_kind, event, push, shown, shown_append, push_when, group_for_shown, groups_shown}
use Rattle.agreement.proofs.Rules.{hear, answers, hears, replies}
use Rattle.agreement.proofs.Signals.{Signal, iam, progress, rel, rlc, blo, bla, ubl, uba, rsc, grs, cgb, cgu, cgba, cgua, gra, if_so}

pub record HeardAt (t : Config) (T : List Circuit) (m : Move) (k : ℕ) (e : Option Signal) : Type 0 where
  pub now : placed (table_of m T) k ≡ (hears (controls t (cic_at t k)) e (placed T k)).circuit
  pub sent : shown t.first.0 k m.sent ≡ replies e (placed T k)

-- a move of a message at a place that it names, or not
moving_heard : (t : Config) (named : ℕ → Bool) (rule : ℕ → Circuit → Change) (sent : List Msg) (T : List Circuit) (k : ℕ) (sig : Signal)
    → (placed T k).equipped ≡ true
    → (named k ≡ true → (rule k (placed T k)).circuit ≡ (hear (controls t (cic_at t k)) sig (placed T k)).circuit)
    → (named k ≡ true → shown t.first.0 k sent ≡ answers sig (placed T k))
    → (named k ≡ false → shown t.first.0 k sent ≡ [])
    → HeardAt t T (moving named rule sent) k (when (named k) sig)
moving_heard t named rule sent T k sig q r a z = ⊎_elim
    (λ (n : named k ≡ true). subst (λ b. HeardAt t T (moving named rule sent) k (when b sig)) (sym n)
    (record { now = after_named (moving named rule sent) T k n q ∙ r n; sent = a n }))
    (λ (n : named k ≡ false). subst (λ b. HeardAt t T (moving named rule sent) k (when b sig)) (sym n)
    (record { now = after_unnamed (moving named rule sent) T k n; sent = z n }))
    (cases_Bool (named k))

one_heard : (t : Config) (c : ℕ) (rule : Circuit → Change) (ans : Circuit → List Msg) (T : List Circuit) (m : Move) (k : ℕ) (sig : Signal)
    → to_one t c rule ans T ≡ Ok m
    → (placed T k).equipped ≡ true
    → (c ≡ t.first.0 + k → (rule (placed T k)).circuit ≡ (hear (controls t (cic_at t k)) sig (placed T k)).circuit)
    → (eqb k (c - t.first.0) ≡ true → shown t.first.0 k (ans (placed T k)) ≡ answers sig (placed T k))
    → ((x : Circuit) → eqb k (c - t.first.0) ≡ false → shown t.first.0 k (ans x) ≡ [])
    → HeardAt t T m k (when (eqb k (c - t.first.0)) sig)
one_heard t c rule ans T m k sig h q r a z =
    let x = circuit_of t (as_cic c) T in
    let found = past (not x.equipped) Address _ m h in
    let at = found_at t (as_cic c) T (not-false x.equipped found.0) in
    subst (λ (y : Move). HeardAt t T y k (when (eqb k (c - t.first.0)) sig)) (same_move (moving (only t (as_cic c)) (λ _. rule) (ans x)) m found.1)
    (moving_heard t (only t (as_cic c)) (λ _. rule) (ans x) T k sig q
    (λ n. r (let f = t.first.0 in let g = at.0 in let e : k ≡ c - f = eqb-true k (c - f) n in omega (arith, g, e)))
    (λ n. let e : k ≡ c - t.first.0 = eqb-true k (c - t.first.0) n in
    let same : x ≡ placed T k = at.1 ∙ ap (placed T) (sym e) in
    ap (λ y. shown t.first.0 k (ans y)) same ∙ a n)
    (z x))

-- one message that stands, or one that stands where a test holds
one_named : (first k : ℕ) (msg : Msg) (b : Bool) (sig : Signal) → event first k msg ≡ when b sig → b ≡ true → shown first k (msg ∷ []) ≡ sig ∷ []
one_named first k msg b sig e n = ap (λ o. push o []) e ∙ (push_when b sig ∙ rw n refl)

one_unnamed : (first k : ℕ) (msg : Msg) (b : Bool) (sig : Signal) → event first k msg ≡ when b sig → b ≡ false → shown first k (msg ∷ []) ≡ []
one_unnamed first k msg b sig e n = ap (λ o. push o []) e ∙ (push_when b sig ∙ rw n refl)

if_named : (first k : ℕ) (x : Bool) (msg : Msg) (b : Bool) (sig : Signal) → event first k msg ≡ when b sig → b ≡ true → shown first k (msg_if x msg) ≡ if_so x sig
if_named first k true msg b sig e n = one_named first k msg b sig e n
if_named first k false msg b sig e n = refl

if_unnamed : (first k : ℕ) (x : Bool) (msg : Msg) (b : Bool) (sig : Signal) → event first k msg ≡ when b sig → b ≡ false → shown first k (msg_if x msg) ≡ []
if_unnamed first k true msg b sig e n = one_unnamed first k msg b sig e n
if_unnamed first k false msg b sig e n = refl

-- the hardware block asked again, of one circuit
ask_named : (t : Config) (c : ℕ) (T : List Circuit) (k : ℕ) → 0 < k % 32 → eqb k (c - t.first.0) ≡ true
    → shown t.first.0 k (ask_again t c T) ≡ if_so (is_standing (placed T k).local.hardware) (cgb Hardware)
ask_named t c T k s n =
    let e : k ≡ c - t.first.0 = eqb-true k (c - t.first.0) n in
    let g : eqb (k / 32) ((c - t.first.0) / 32) ≡ true = rw (← e) (same (k / 32)) in
    group_for_shown t Cgb Hardware (λ j x. only t (as_cic c) j && is_standing x.local.hardware) ((c - t.first.0) / 32) T k s ∙ rw (g, n) refl
  where
    same : (j : ℕ) → eqb j j ≡ true
    same j = grind arith

and_none : (x y : Bool) → (x && (false && y)) ≡ false
and_none true y = refl
and_none false y = refl

ask_unnamed : (t : Config) (c : ℕ) (T : List Circuit) (k : ℕ) → 0 < k % 32 → eqb k (c - t.first.0) ≡ false → shown t.first.0 k (ask_again t c T) ≡ []
ask_unnamed t c T k s n =
    group_for_shown t Cgb Hardware (λ j x. only t (as_cic c) j && is_standing x.local.hardware) ((c - t.first.0) / 32) T k s
    ∙ rw (n, and_none (eqb (k / 32) ((c - t.first.0) / 32)) (is_standing (placed T k).local.hardware)) refl

range_heard : (t : Config) (c r : ℕ) (s : List ℕ) (x : Move) (T : List Circuit) (m : Move) (k : ℕ) (e : Option Signal)
    → to_range t c r s x T ≡ Ok m → (is_range t c r ≡ true → HeardAt t T x k e) → HeardAt t T m k e
range_heard t c r s x T m k e h a =
    let inside = past (not (is_range t c r)) Address _ m h in
    let found = past (some_from (λ j y. marked t c r s j && not y.equipped) 0 T) Address _ m inside.1 in
    subst (λ (y : Move). HeardAt t T y k e) (same_move x m found.1) (a (not-false (is_range t c r) inside.0))

-- a group acknowledgement is answered by what a test of each circuit says
groups_named : (t : Config) (what : Grouped) (why : BlockType) (b : ℕ → Bool) (p : Circuit → Bool) (T : List Circuit) (k : ℕ) → 0 < k % 32 → k / 32 < t.systems → (v : Bool) → b k ≡ v
    → shown t.first.0 k (groups t what why (λ j x. b j && p x) T) ≡ if_so (v && p (placed T k)) (of_kind what why)
groups_named t what why b p T k s l v n = groups_shown t what why (λ j x. b j && p x) T k s l ∙ rw n refl

-- ## A group reset

range_from : (t : Config) (c r : ℕ) → is_range t c r ≡ true → t.first.0 ≤ c
range_from t c r e = leb-true t.first.0 c (and_parts (leb t.first.0 c) (ltb (c + r) (t.first.0 + places t)) e).0

-- the status of the answer, at a place in range
status_shows : (t : Config) (c r : ℕ) (T : List Circuit) (k : ℕ) → t.first.0 ≤ c → within t.first.0 c r k ≡ true → (placed T k).equipped ≡ true
    → is_named r (status_by (λ n. shows (circuit_of t (as_cic (c + n)) T)) r) (k - (c - t.first.0)) ≡ is_standing (placed T k).local.maintenance
status_shows t c r T k l w q =
    let f = t.first.0 in
    let p = and_parts (leb (c - f) k) (leb k (c - f + r)) w in
    let low : c - f ≤ k = leb-true (c - f) k p.0 in
    let high : k ≤ c - f + r = leb-true k (c - f + r) p.1 in
    let n = k - (c - f) in
    let z : c + n ≡ f + k = omega (arith, l, low) in
    let i : leb n r ≡ true = le-leb n r (omega (arith, high)) in
    let g : leb f (f + k) ≡ true = le-leb f (f + k) (omega arith) in
    let d : f + k - f ≡ k = omega arith in
    let here : circuit_of t (as_cic (f + k)) T ≡ placed T k = rw (g, d) refl in
    named_by_test (λ j. shows (circuit_of t (as_cic (c + j)) T)) r n
    ∙ rw (i, z, here, q) refl

reset_heard : (t : Config) (c r : ℕ) (T : List Circuit) (m : Move) (k : ℕ) → heard t (group_reset c r) T ≡ Ok m → is_whole t.first.0 c r ≡ true
    → (placed T k).equipped ≡ true → 0 < k % 32 → k / 32 < t.systems → HeardAt t T m k (event t.first.0 k (group_reset c r))
reset_heard t c r T m k h whole q s l =
    let blocked = λ (j : ℕ) (x : Circuit). x.equipped && (in_range t c r j && is_standing x.local.hardware) in
    let first = groups t Cgb Hardware blocked T in
    let status = status_by (λ n. shows (circuit_of t (as_cic (c + n)) T)) r in
    let last = group_reset_ack c r status in
    let b = within t.first.0 c r k in
    let bit = is_named r status (k - (c - t.first.0)) in
    let hw = is_standing (placed T k).local.hardware in
    let shown_first : (v : Bool) → b ≡ v → shown t.first.0 k first ≡ if_so (v && hw) (cgb Hardware) =
    λ v n. groups_shown t Cgb Hardware blocked T k s l ∙ rw (q, n) refl in
    let last_is : event t.first.0 k last ≡ when b (gra bit) = rw whole refl in
    range_heard t c r [] (moving (in_range t c r) (λ _. on_grs) (first ++ (last ∷ []))) T m k (when b grs) h
    (λ i. moving_heard t (in_range t c r) (λ _. on_grs) (first ++ (last ∷ [])) T k grs q
    (λ n. refl)
    (λ n. shown_append t.first.0 k first (last ∷ [])
    ∙ (ap (λ y. y ++ shown t.first.0 k (last ∷ [])) (shown_first true n)
    ∙ ap (λ y. if_so hw (cgb Hardware) ++ y)
    (one_named t.first.0 k last b (gra bit) last_is n ∙ ap (λ y. gra y ∷ []) (status_shows t c r T k (range_from t c r i) n q))))
    (λ n. shown_append t.first.0 k first (last ∷ [])
    ∙ (ap (λ y. y ++ shown t.first.0 k (last ∷ [])) (shown_first false n)
    ∙ one_unnamed t.first.0 k last b (gra bit) last_is n)))

ack_heard : (t : Config) (c r : ℕ) (s : List ℕ) (T : List Circuit) (m : Move) (k : ℕ) → heard t (group_reset_ack c r s) T ≡ Ok m
    → (placed T k).equipped ≡ true → HeardAt t T m k (event t.first.0 k (group_reset_ack c r s))
ack_heard t c r s T m k h q =
    let bit = λ (j : ℕ). is_named r s (j - (c - t.first.0)) in
    let move = moving (in_range t c r) (λ j. on_gra (bit j)) [] in
    range_heard t c r s (cond (is_counted t c r) move nothing) T m k (when (is_whole t.first.0 c r && within t.first.0 c r k) (gra (bit k))) h
    (λ i. go (is_counted t c r))
  where
    go : (b : Bool) → HeardAt t T (cond b (moving (in_range t c r) (λ j. on_gra (is_named r s (j - (c - t.first.0)))) []) nothing) k (when (b && within t.first.0 c r k) (gra (is_named r s (k - (c - t.first.0)))))
    go true = moving_heard t (in_range t c r) (λ j. on_gra (is_named r s (j - (c - t.first.0)))) [] T k (gra (is_named r s (k - (c - t.first.0)))) q (λ n. refl) (λ n. refl) (λ n. refl)
    go false = record { now = after_unnamed nothing T k refl; sent = refl }

-- ## All messages

-- a group reset is of a whole PCM system, as ours are
abbrev pub IsWhole : ℕ → Msg → Type 0
IsWhole first (single c k) = Unit {0}
IsWhole first (release_complete c) = Unit {0}
IsWhole first (group_reset c r) = is_whole first c r ≡ true
IsWhole first (group_reset_ack c r s) = Unit {0}
IsWhole first (grouped c what i r s) = Unit {0}
IsWhole first (release c x) = Unit {0}
IsWhole first (call c kind x) = Unit {0}

-- a group message at a circuit, with the rule for its type
grouped_heard : (t : Config) (c i r : ℕ) (s : List ℕ) (rule : Circuit → Change) (sent : List Msg) (T : List Circuit) (m : Move) (k : ℕ) (sig : Signal)
    → to_range t c r s (moving (marked t c r s) (λ _. rule) sent) T ≡ Ok m
    → (placed T k).equipped ≡ true
    → ((x : Circuit) → (rule x).circuit ≡ (hear (controls t (cic_at t k)) sig x).circuit)
    → (marked t c r s k ≡ true → shown t.first.0 k sent ≡ answers sig (placed T k))
    → (marked t c r s k ≡ false → shown t.first.0 k sent ≡ [])
    → HeardAt t T m k (when (marked t c r s k) sig)
grouped_heard t c i r s rule sent T m k sig h q e a z =
    range_heard t c r s (moving (marked t c r s) (λ _. rule) sent) T m k (when (marked t c r s k) sig) h
    (λ _. moving_heard t (marked t c r s) (λ _. rule) sent T k sig q (λ n. e (placed T k)) a z)

pub heard_at : (t : Config) (msg : Msg) (T : List Circuit) (m : Move) (k : ℕ) → heard t msg T ≡ Ok m → IsWhole t.first.0 msg
    → (placed T k).equipped ≡ true → 0 < k % 32 → k / 32 < t.systems → HeardAt t T m k (event t.first.0 k msg)
heard_at t (single c Blo) T m k h w q s l =
    one_heard t c _ (λ _. single c Bla ∷ []) T m k blo h q (λ e. refl)
    (one_named t.first.0 k (single c Bla) _ bla refl) (λ x. one_unnamed t.first.0 k (single c Bla) _ bla refl)
heard_at t (single c Ubl) T m k h w q s l =
    one_heard t c _ (λ _. single c Uba ∷ []) T m k ubl h q (λ e. refl)
    (one_named t.first.0 k (single c Uba) _ uba refl) (λ x. one_unnamed t.first.0 k (single c Uba) _ uba refl)
heard_at t (single c Bla) T m k h w q s l =
    one_heard t c _ (λ x. msg_if (is_none x.local.maintenance) (single c Ubl)) T m k bla h q (λ e. refl)
    (if_named t.first.0 k (is_none (placed T k).local.maintenance) (single c Ubl) _ ubl refl)
    (λ x. if_unnamed t.first.0 k (is_none x.local.maintenance) (single c Ubl) _ ubl refl)
heard_at t (single c Uba) T m k h w q s l =
    one_heard t c _ (λ x. msg_if (is_standing x.local.maintenance) (single c Blo)) T m k uba h q (λ e. refl)
    (if_named t.first.0 k (is_standing (placed T k).local.maintenance) (single c Blo) _ blo refl)
    (λ x. if_unnamed t.first.0 k (is_standing x.local.maintenance) (single c Blo) _ blo refl)
heard_at t (single c Rsc) T m k h w q s l =
    let f = t.first.0 in
    let b = eqb k (c - f) in
    one_heard t c _ (λ x. msg_if (is_standing x.local.maintenance) (single c Blo) ++ (ask_again t c T ++ (release_complete c ∷ []))) T m k rsc h q (λ e. refl)
    (λ n. shown_append f k (msg_if (is_standing (placed T k).local.maintenance) (single c Blo)) (ask_again t c T ++ (release_complete c ∷ []))
    ∙ rw (
      if_named f k (is_standing (placed T k).local.maintenance) (single c Blo) b blo refl n,
      shown_append f k (ask_again t c T) (release_complete c ∷ []),
      ask_named t c T k s n,
      one_named f k (release_complete c) b rlc refl n,
    ) refl)
    (λ x n. shown_append f k (msg_if (is_standing x.local.maintenance) (single c Blo)) (ask_again t c T ++ (release_complete c ∷ []))
    ∙ rw (
      if_unnamed f k (is_standing x.local.maintenance) (single c Blo) b blo refl n,
      shown_append f k (ask_again t c T) (release_complete c ∷ []),
      ask_unnamed t c T k s n,
      one_unnamed f k (release_complete c) b rlc refl n,
    ) refl)
heard_at t (release_complete c) T m k h w q s l =
    one_heard t c _ (λ x. msg_if (is_unexpected x) (release_message c unexpected)) T m k rlc h q (λ e. refl)
    (if_named t.first.0 k (is_unexpected (placed T k)) (release_message c unexpected) _ rel refl)
    (λ x. if_unnamed t.first.0 k (is_unexpected x) (release_message c unexpected) _ rel refl)
heard_at t (release c cause) T m k h w q s l =
    one_heard t c _ (λ _. release_complete c ∷ []) T m k rel h q (λ e. refl)
    (one_named t.first.0 k (release_complete c) _ rlc refl) (λ x. one_unnamed t.first.0 k (release_complete c) _ rlc refl)
heard_at t (call c Iam body) T m k h w q s l =
    one_heard t c _ (λ _. []) T m k iam h q (λ e. ap (λ j. (on_iam (controls t (as_cic j)) (placed T k)).circuit) e) (λ n. refl) (λ x n. refl)
heard_at t (call c Acm body) T m k h w q s l = one_heard t c _ (λ _. []) T m k progress h q (λ e. refl) (λ n. refl) (λ x n. refl)
heard_at t (call c Con body) T m k h w q s l = one_heard t c _ (λ _. []) T m k progress h q (λ e. refl) (λ n. refl) (λ x n. refl)
heard_at t (call c Anm body) T m k h w q s l = one_heard t c _ (λ _. []) T m k progress h q (λ e. refl) (λ n. refl) (λ x n. refl)
heard_at t (call c Cpg body) T m k h w q s l = one_heard t c _ (λ _. []) T m k progress h q (λ e. refl) (λ n. refl) (λ x n. refl)
heard_at t (grouped c Cgb i r s) T m k h w q z l =
    grouped_heard t c i r s _ (grouped c Cgba i r s ∷ []) T m k (cgb (why_of i)) h q (λ x. refl)
    (one_named t.first.0 k (grouped c Cgba i r s) _ (cgba (why_of i)) refl) (one_unnamed t.first.0 k (grouped c Cgba i r s) _ (cgba (why_of i)) refl)
heard_at t (grouped c Cgu i r s) T m k h w q z l =
    grouped_heard t c i r s _ (grouped c Cgua i r s ∷ []) T m k (cgu (why_of i)) h q (λ x. refl)
    (one_named t.first.0 k (grouped c Cgua i r s) _ (cgua (why_of i)) refl) (one_unnamed t.first.0 k (grouped c Cgua i r s) _ (cgua (why_of i)) refl)
heard_at t (grouped c Cgba i r s) T m k h w q z l =
    grouped_heard t c i r s _ _ T m k (cgba (why_of i)) h q (λ x. refl)
    (λ n. groups_named t Cgu (why_of i) (marked t c r s) (λ x. is_none (block_of (why_of i) x.local)) T k z l true n)
    (λ n. groups_named t Cgu (why_of i) (marked t c r s) (λ x. is_none (block_of (why_of i) x.local)) T k z l false n)
heard_at t (grouped c Cgua i r s) T m k h w q z l =
    grouped_heard t c i r s _ _ T m k (cgua (why_of i)) h q (λ x. refl)
    (λ n. groups_named t Cgb (why_of i) (marked t c r s) (λ x. is_standing (block_of (why_of i) x.local)) T k z l true n)
    (λ n. groups_named t Cgb (why_of i) (marked t c r s) (λ x. is_standing (block_of (why_of i) x.local)) T k z l false n)
heard_at t (group_reset c r) T m k h w q s l = reset_heard t c r T m k h w q s l
heard_at t (group_reset_ack c r s) T m k h w q z l = ack_heard t c r s T m k h q
