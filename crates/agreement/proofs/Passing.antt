-- Every message that is sent names circuits of the other end, keeps its limits, and so is accepted there.
use Rattle.std.proofs.Common.{◌≡◌, ℕ, zero, suc, ◌+◌, ◌-◌, ◌*◌, ◌/◌, ◌%◌, ◌^◌, ◌<◌, ◌≤◌, Bool, true, false, cond, not, ◌&&◌, eqb, ltb, leb, List, [], ◌∷◌, ◌++◌, length, None, Ok, sym, refl, ap, ◌∙◌, ⊎_elim, length-set, arith}
use Rattle.std.proofs.lemmas.Bool.{leb-true, cases_Bool, false≢true, eqb-true, le-leb, lt-ltb, and_parts, and_right}
use Rattle.status.specs.Bits.{cleared, octets_for}
use Rattle.status.specs.declared.cic.Cic.{Cic}
use Rattle.message.specs.Encode.{encode, refusal_of}
use Rattle.message.proofs.RoundTrip.{may_write}
use Rattle.message.specs.Msg.{Msg, single, release_complete, group_reset, group_reset_ack, grouped, release, call}
use Rattle.message.specs.declared.kinds.BlockType.{BlockType}
use Rattle.message.specs.declared.kinds.CallKind.TheVariants.{Iam, Acm, Con, Anm, Cpg}
use Rattle.message.specs.declared.kinds.Grouped.{Grouped}
use Rattle.message.specs.declared.kinds.Grouped.TheVariants.{Cgb, Cgu, Cgba, Cgua}
use Rattle.message.specs.declared.kinds.Single.{Single}
use Rattle.message.specs.declared.kinds.Single.TheVariants.{Rsc, Blo, Ubl, Bla, Uba}
use Rattle.circuit.specs.Circuits.{is_standing, is_none}
use Rattle.circuit.specs.declared.record.Circuit.{Circuit}
use Rattle.circuit.specs.Signals.{unexpected}
use Rattle.supervision.specs.declared.trunk.Config.{Config}
use Rattle.supervision.specs.Groups.{mask_by, group_for, groups_below, groups}
use Rattle.supervision.specs.Moves.{Move, some_from}
use Rattle.supervision.specs.Orders.{circuit_of, only, slots, status_of, group_message, reset_message, release_message}
use Rattle.supervision.specs.Receiving.{as_cic, moving, if_so as msg_if, to_one, marked, to_range, ask_again, is_unexpected, heard}
use Rattle.supervision.specs.Trunks.{covers, first_of, placed}
use Rattle.supervision.proofs.Masks.{named-slots}
use Rattle.supervision.proofs.Some.{none}
use Rattle.supervision.proofs.Concerned.{slot_positive, start_of, mask_names, mask_even}
use Rattle.supervision.proofs.Writable.{may_be_sent, own_group}
use Rattle.supervision.proofs.Accepted.{found_at}
use Rattle.agreement.proofs.Event.{is_whole}
use Rattle.agreement.proofs.Standing.{Fitting, Standing}

-- the circuits that a message names are there, from the first CIC on, E of the places
abbrev pub Addressed : ℕ → ℕ → (ℕ → Bool) → Msg → Type 0
Addressed first n E (single c k) = (first ≤ c) × (E (c - first) ≡ true)
Addressed first n E (release_complete c) = (first ≤ c) × (E (c - first) ≡ true)
Addressed first n E (release c x) = (first ≤ c) × (E (c - first) ≡ true)
Addressed first n E (call c kind x) = (first ≤ c) × (E (c - first) ≡ true)
Addressed first n E (group_reset c r) = (first ≤ c) × (c + r < first + n) × (is_whole first c r ≡ true)
Addressed first n E (group_reset_ack c r s) = (first ≤ c) × (c + r < first + n) × ((j : ℕ) → covers (c - first) r s j ≡ true → E j ≡ true)
Addressed first n E (grouped c what i r s) = (first ≤ c) × (c + r < first + n) × ((j : ℕ) → covers (c - first) r s j ≡ true → E j ≡ true) × (is_whole first c r ≡ true)

-- a message that the other end accepts: it names circuits, and keeps the limits of its type
pub record Passes (t : Config) (E : ℕ → Bool) (m : Msg) : Type 0 where
  pub addressed : Addressed t.first.0 (t.systems * 32) E m
  pub allowed : refusal_of m ≡ None

-- an IAM of our own has a body of at most 256 octets
abbrev pub ShortBody : Msg → Type 0
ShortBody (single c k) = Unit {0}
ShortBody (release_complete c) = Unit {0}
ShortBody (release c x) = Unit {0}
ShortBody (call c kind x) = length x ≤ 256
ShortBody (group_reset c r) = Unit {0}
ShortBody (group_reset_ack c r s) = Unit {0}
ShortBody (grouped c what i r s) = Unit {0}

-- a message that an end sends by itself
pub record Sends (t : Config) (E : ℕ → Bool) (m : Msg) : Type 0 where
  pub passes : Passes t E m
  pub body : ShortBody m

abbrev pub Each : (Msg → Type 0) → List Msg → Type 0
Each P [] = Unit {0}
Each P (m ∷ ms) = P m × Each P ms

pub each_append : (P : Msg → Type 0) (xs ys : List Msg) → Each P xs → Each P ys → Each P (xs ++ ys)
each_append P [] ys h g = g
each_append P (m ∷ xs) ys h g = (h.0, each_append P xs ys h.1 g)

pub own_passes : (t : Config) (E : ℕ → Bool) (ms : List Msg) → Each (Sends t E) ms → Each (Passes t E) ms
own_passes t E [] h = tt
own_passes t E (m ∷ ms) h = (h.0.passes, own_passes t E ms h.1)

-- ## What is sent about one circuit

-- the CIC of a circuit fits
pub cic_fits : (t : Config) (E : ℕ → Bool) (c : ℕ) → Fitting t E → t.first.0 ≤ c → E (c - t.first.0) ≡ true → c ≤ 4095
cic_fits t E c f l e = let i = f.inside (c - t.first.0) e in let z = f.last in let a = t.first.0 in let n = t.systems in omega (arith, l, i, z)

pub found_addressed : (t : Config) (E : ℕ → Bool) (cic : Cic) (T : List Circuit) → Standing t E T → (circuit_of t cic T).equipped ≡ true
    → (t.first.0 ≤ cic.0) × (E (cic.0 - t.first.0) ≡ true)
found_addressed t E cic T st q =
    let w = found_at t cic T q in
    (w.0, sym (st.equipment (cic.0 - t.first.0)) ∙ (ap (λ x. x.equipped) (sym w.1) ∙ q))

pub single_passes : (t : Config) (E : ℕ → Bool) (c : ℕ) (k : Single) → Fitting t E → (t.first.0 ≤ c) × (E (c - t.first.0) ≡ true) → Sends t E (single c k)
single_passes t E c k f a = record { passes = record { addressed = a; allowed = may_be_sent (single c k) (cic_fits t E c f a.0 a.1) refl refl }; body = tt }

pub complete_passes : (t : Config) (E : ℕ → Bool) (c : ℕ) → Fitting t E → (t.first.0 ≤ c) × (E (c - t.first.0) ≡ true) → Sends t E (release_complete c)
complete_passes t E c f a = record { passes = record { addressed = a; allowed = may_be_sent (release_complete c) (cic_fits t E c f a.0 a.1) refl refl }; body = tt }

pub release_passes : (t : Config) (E : ℕ → Bool) (c x y : ℕ) → Fitting t E → (t.first.0 ≤ c) × (E (c - t.first.0) ≡ true) → Sends t E (release c (x ∷ y ∷ []))
release_passes t E c x y f a = record { passes = record { addressed = a; allowed = may_be_sent (release c (x ∷ y ∷ [])) (cic_fits t E c f a.0 a.1) refl refl }; body = tt }

pub call_passes : (t : Config) (E : ℕ → Bool) (c : ℕ) (kind : _) (body : List ℕ) → Fitting t E → 1 ≤ length body → (t.first.0 ≤ c) × (E (c - t.first.0) ≡ true) → Passes t E (call c kind body)
call_passes t E c kind body f l a = record { addressed = a; allowed = may_be_sent (call c kind body) (cic_fits t E c f a.0 a.1) refl (le-leb 1 (length body) l) }

-- ## Our group messages

pub group_passes : (t : Config) (E : ℕ → Bool) (system : ℕ) (what : Grouped) (why : BlockType) (mask : ℕ) → Fitting t E → system < t.systems → mask % 2 ≡ 0
    → ((j : ℕ) → slots system mask j ≡ true → E j ≡ true) → Sends t E (group_message t system what why mask)
group_passes t E system what why mask f l even e =
    let a = t.first.0 in
    let n = t.systems in
    let z = f.last in
    let d : (system * 32 + 1) % 32 ≡ 1 = omega arith in
    record {
      passes = record {
        addressed = (
          omega arith,
          omega (arith, l),
          λ j q. e j (sym (ap (λ (g : ℕ → Bool). g j) (named-slots system mask even)) ∙ (ap (λ x. covers x 30 (status_of mask) j) (sym (start_of t system)) ∙ q)),
          rw (start_of t system, d) refl,
        );
        allowed = own_group (first_of t system) what why (status_of mask) (omega (arith, l, z)) refl;
      };
      body = tt;
    }

pub reset_passes : (t : Config) (E : ℕ → Bool) (system : ℕ) → Fitting t E → system < t.systems → Sends t E (reset_message t system)
reset_passes t E system f l =
    let a = t.first.0 in
    let n = t.systems in
    let z = f.last in
    let d : (system * 32 + 1) % 32 ≡ 1 = omega arith in
    record {
      passes = record {
        addressed = (omega arith, omega (arith, l), rw (start_of t system, d) refl);
        allowed = may_be_sent (reset_message t system) (omega (arith, l, z)) refl refl;
      };
      body = tt;
    }

pub group_for_passes : (t : Config) (E : ℕ → Bool) (what : Grouped) (why : BlockType) (p : ℕ → Circuit → Bool) (system : ℕ) (T : List Circuit) → Fitting t E → system < t.systems
    → ((j : ℕ) → p j (placed T j) ≡ true → E j ≡ true) → Each (Sends t E) (group_for t what why p system T)
group_for_passes t E what why p system T f l e = go (eqb (mask_by p system T) 0)
  where
    one : Sends t E (group_message t system what why (mask_by p system T))
    one =
        let even = mask_even p system T in
        group_passes t E system what why (mask_by p system T) f l even
        (λ j q. e j (and_parts (eqb (j / 32) system) (p j (placed T j)) (sym (mask_names p system T j (slot_positive system (mask_by p system T) j even q)) ∙ q)).1)

    go : (b : Bool) → Each (Sends t E) (cond b [] (group_message t system what why (mask_by p system T) ∷ []))
    go true = tt
    go false = (one, tt)

groups_below_pass : (t : Config) (E : ℕ → Bool) (what : Grouped) (why : BlockType) (p : ℕ → Circuit → Bool) (n : ℕ) (T : List Circuit) → Fitting t E → n ≤ t.systems
    → ((j : ℕ) → p j (placed T j) ≡ true → E j ≡ true) → Each (Sends t E) (groups_below t what why p n T)
groups_below_pass t E what why p zero T f l e = tt
groups_below_pass t E what why p (suc n) T f l e =
    each_append (Sends t E) (groups_below t what why p n T) (group_for t what why p n T)
    (groups_below_pass t E what why p n T f (let s = t.systems in omega (arith, l)) e) (group_for_passes t E what why p n T f (let s = t.systems in omega (arith, l)) e)

pub groups_pass : (t : Config) (E : ℕ → Bool) (what : Grouped) (why : BlockType) (p : ℕ → Circuit → Bool) (T : List Circuit) → Fitting t E
    → ((j : ℕ) → p j (placed T j) ≡ true → E j ≡ true) → Each (Sends t E) (groups t what why p T)
groups_pass t E what why p T f e = groups_below_pass t E what why p t.systems T f (let s = t.systems in omega arith) e

-- ## A message that passes is accepted

one_accepted : (t : Config) (E : ℕ → Bool) (c : ℕ) (rule : Circuit → _) (ans : Circuit → List Msg) (T : List Circuit) → Standing t E T
    → (t.first.0 ≤ c) × (E (c - t.first.0) ≡ true) → (m : Move) × (to_one t c rule ans T ≡ Ok m)
one_accepted t E c rule ans T st a =
    let g : leb t.first.0 c ≡ true = le-leb t.first.0 c a.0 in
    let q : (circuit_of t (as_cic c) T).equipped ≡ true = rw g (st.equipment (c - t.first.0) ∙ a.1) in
    (moving (only t (as_cic c)) (λ _. rule) (ans (circuit_of t (as_cic c) T)), rw q refl)

range_accepted : (t : Config) (E : ℕ → Bool) (c r : ℕ) (s : List ℕ) (x : Move) (T : List Circuit) → Standing t E T
    → t.first.0 ≤ c → c + r < t.first.0 + t.systems * 32 → ((j : ℕ) → covers (c - t.first.0) r s j ≡ true → E j ≡ true) → to_range t c r s x T ≡ Ok x
range_accepted t E c r s x T st l h e =
    let a : leb t.first.0 c ≡ true = le-leb t.first.0 c l in
    let b : ltb (c + r) (t.first.0 + t.systems * 32) ≡ true = lt-ltb (c + r) (t.first.0 + t.systems * 32) h in
    let n : some_from (λ k y. marked t c r s k && not y.equipped) 0 T ≡ false =
    none (λ k y. marked t c r s k && not y.equipped) T
    (λ j i. ⊎_elim
    (λ (q : marked t c r s j ≡ true). rw (q, st.equipment j, e j q) refl)
    (λ (q : marked t c r s j ≡ false). rw q refl)
    (cases_Bool (marked t c r s j))) in
    rw (a, b, n) refl

no_bits : (first r j : ℕ) → covers first r [] j ≡ false
no_bits first r j = and_right (leb first j) _ (and_right (leb (j - first) r) _ (zero_bit ((j - first) % 8)))
  where
    zero_bit : (n : ℕ) → eqb (0 / 2 ^ n % 2) 1 ≡ false
    zero_bit n = grind arith

pub is_accepted : (t : Config) (E : ℕ → Bool) (msg : Msg) (T : List Circuit) → Standing t E T → Addressed t.first.0 (t.systems * 32) E msg → (m : Move) × (heard t msg T ≡ Ok m)
is_accepted t E (single c Blo) T st a = one_accepted t E c _ (λ _. single c Bla ∷ []) T st a
is_accepted t E (single c Ubl) T st a = one_accepted t E c _ (λ _. single c Uba ∷ []) T st a
is_accepted t E (single c Bla) T st a = one_accepted t E c _ (λ x. msg_if (is_none x.local.maintenance) (single c Ubl)) T st a
is_accepted t E (single c Uba) T st a = one_accepted t E c _ (λ x. msg_if (is_standing x.local.maintenance) (single c Blo)) T st a
is_accepted t E (single c Rsc) T st a = one_accepted t E c _ (λ x. msg_if (is_standing x.local.maintenance) (single c Blo) ++ (ask_again t c T ++ (release_complete c ∷ []))) T st a
is_accepted t E (release_complete c) T st a = one_accepted t E c _ (λ x. msg_if (is_unexpected x) (release_message c unexpected)) T st a
is_accepted t E (release c x) T st a = one_accepted t E c _ (λ _. release_complete c ∷ []) T st a
is_accepted t E (call c Iam x) T st a = one_accepted t E c _ (λ _. []) T st a
is_accepted t E (call c Acm x) T st a = one_accepted t E c _ (λ _. []) T st a
is_accepted t E (call c Con x) T st a = one_accepted t E c _ (λ _. []) T st a
is_accepted t E (call c Anm x) T st a = one_accepted t E c _ (λ _. []) T st a
is_accepted t E (call c Cpg x) T st a = one_accepted t E c _ (λ _. []) T st a
is_accepted t E (group_reset c r) T st a = (_, range_accepted t E c r [] _ T st a.0 a.1 (λ j q. absurd (false≢true (sym (no_bits (c - t.first.0) r j) ∙ q))))
is_accepted t E (group_reset_ack c r s) T st a = (_, range_accepted t E c r s _ T st a.0 a.1 a.2)
is_accepted t E (grouped c Cgb i r s) T st a = (_, range_accepted t E c r s _ T st a.0 a.1 a.2)
is_accepted t E (grouped c Cgu i r s) T st a = (_, range_accepted t E c r s _ T st a.0 a.1 a.2)
is_accepted t E (grouped c Cgba i r s) T st a = (_, range_accepted t E c r s _ T st a.0 a.1 a.2)
is_accepted t E (grouped c Cgua i r s) T st a = (_, range_accepted t E c r s _ T st a.0 a.1 a.2)

-- ## A message that passes is short

cleared_length : (r : ℕ) (s : List ℕ) → length (cleared r s) ≡ length s
cleared_length r s = rw length-set refl

pub is_short : (m : Msg) → refusal_of m ≡ None → ShortBody m → length (encode m) ≤ 320
is_short (single c k) e b = omega arith
is_short (release_complete c) e b = omega arith
is_short (group_reset c r) e b = omega arith
is_short (group_reset_ack c r s) e b =
    let w = may_write (group_reset_ack c r s) e in
    let z : length s ≡ octets_for r = eqb-true (length s) (octets_for r) w.2 in
    let h : r ≤ 31 = leb-true r 31 (and_parts (leb r 31) _ (and_parts (leb 1 r) _ w.1).1).0 in
    let c : length (cleared r s) ≡ length s = cleared_length r s in
    rw c (omega (arith, z, h))
is_short (grouped c what i r s) e b =
    let w = may_write (grouped c what i r s) e in
    let z : length s ≡ octets_for r = eqb-true (length s) (octets_for r) w.2 in
    let h : r ≤ 255 = leb-true r 255 (and_parts (leb r 255) _ (and_parts (leb 1 r) _ (and_parts (leb i 1) _ w.1).1).1).0 in
    let c : length (cleared r s) ≡ length s = cleared_length r s in
    rw c (omega (arith, z, h))
is_short (release c x) e b =
    let w = may_write (release c x) e in
    let z : length x ≡ 2 = eqb-true (length x) 2 w.2 in
    omega (arith, z)
is_short (call c kind x) e b = omega (arith, b)
