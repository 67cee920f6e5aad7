-- Resets of the far exchange: which places a range is, what is asked again, and the status that GRA shows.
use Rattle.std.proofs.Common.{◌≡◌, ℕ, zero, suc, ◌+◌, ◌-◌, ◌*◌, ◌/◌, ◌%◌, ◌^◌, ◌<◌, ◌≤◌, Bool, true, false, cond, ◌&&◌, leb, ltb, List, [], ◌∷◌, take, None, sym, refl, ap, ◌∙◌, ⊎_elim, add-zero, arith}
use mathlib.Core.Path.{fun_ext}
use Rattle.std.proofs.Math.Nat.{add_comm}
use Rattle.std.proofs.lemmas.Nat.{pow-add, shr_high, mod_low}
use Rattle.message.proofs.RoundTrip.{may_write}
use Rattle.std.proofs.lemmas.Bool.{and_left, and_parts, and_right, cases_lt, eq-eqb, le-leb, leb-true, lt-leb, ne_eqb}
use Rattle.status.specs.Bits.{octets_for}
use Rattle.message.specs.Encode.{refusal_of}
use Rattle.message.specs.Msg.{group_reset}
use Rattle.message.specs.declared.kinds.BlockType.{BlockType}
use Rattle.message.specs.declared.kinds.BlockType.TheVariants.{Maintenance, Hardware}
use Rattle.message.specs.declared.kinds.Grouped.TheVariants.{Cgb}
use Rattle.circuit.proofs.Keeping.{grs_keeps}
use Rattle.circuit.specs.Circuits.{block_of, is_standing}
use Rattle.circuit.specs.Signals.{on_grs}
use Rattle.circuit.specs.declared.signals.Signal.TheVariants as signal
use Rattle.circuit.specs.declared.record.Circuit.{Circuit}
use Rattle.supervision.specs.declared.due.Condition.TheVariants.{Standing}
use Rattle.supervision.specs.declared.due.Due.{Due}
use Rattle.supervision.specs.declared.slots.Effect.TheVariants.{Every}
use Rattle.supervision.specs.declared.slots.Slots.{Slots}
use Rattle.supervision.specs.declared.trunk.Config.{Config}
use Rattle.supervision.specs.Due.{is_due, due_bits}
use Rattle.supervision.specs.Groups.{mask_by, bits_below, groups, status_from, status_by}
use Rattle.supervision.specs.Moves.{table_of}
use Rattle.supervision.specs.Orders.{circuit_of, only}
use Rattle.supervision.specs.Receiving.{as_cic, moving, in_range, shows}
use Rattle.supervision.specs.Steps.{spanned}
use Rattle.supervision.specs.Trunks.{placed}
use Rattle.supervision.proofs.Bits.{bits_one, bits_fit, bits_same}
use Rattle.supervision.proofs.Ranges.{due_after, group_reset_stands}
use Rattle.supervision.proofs.Systems.{groups_same}

-- the places of slots are those of the range
spans_at : (f r k : ℕ) → (leb f k && leb (k - f) r) ≡ (leb f k && leb k (f + r))
spans_at f r k = ⊎_elim
    (λ (l : k < f). rw (lt-leb f k l) refl)
    (λ (l : f ≤ k). ⊎_elim
    (λ (h : f + r < k). rw (lt-leb (k - f) r (omega (arith, l, h)), lt-leb k (f + r) h) refl)
    (λ (h : k ≤ f + r). rw (le-leb (k - f) r (omega (arith, l, h)), le-leb k (f + r) h) refl)
    (cases_lt (f + r) k))
    (cases_lt k f)

pub spans_range : (t : Config) (c r : ℕ) (s : Slots) → s.first.0 ≡ c - t.first.0 → s.group.range.0 ≡ r → spanned s ≡ in_range t c r
spans_range t c r s f e = fun_ext (λ k. rw (f, e) (spans_at (c - t.first.0) r k))

pub swapped : (a b c : Bool) → (a && (b && c)) ≡ (b && (a && c))
swapped true b c = refl
swapped false true c = refl
swapped false false c = refl

-- ## Octets of a number that is made of tests

bits_split : (p : ℕ → Bool) (a m : ℕ) → bits_below p (a + m) ≡ bits_below (λ b. p (a + b)) m * 2 ^ a + bits_below p a
bits_split p a zero = rw (add-zero a) (omega arith)
bits_split p a (suc m) =
    let e : a + suc m ≡ suc (a + m) = omega arith in
    rw (e, bits_split p a m) (go (p (a + m)))
  where
    go : (b : Bool) → bits_below (λ b. p (a + b)) m * 2 ^ a + bits_below p a + cond b (2 ^ (a + m)) 0 ≡ (bits_below (λ b. p (a + b)) m + cond b (2 ^ m) 0) * 2 ^ a + bits_below p a
    go true = rw (ap (λ (j : ℕ). 2 ^ j) (add_comm a m) ∙ pow-add 2 m a) (grind arith)
    go false = rw (add-zero (bits_below (λ b. p (a + b)) m), add-zero (bits_below (λ b. p (a + b)) m * 2 ^ a + bits_below p a)) refl

-- eight bits from the bit a on
byte_at : (p : ℕ → Bool) (a k : ℕ) → bits_below p (a + (8 + k)) / 2 ^ a % 2 ^ 8 ≡ bits_below (λ b. p (a + b)) 8
byte_at p a k =
    let q = λ (b : ℕ). p (a + b) in
    rw (bits_split p a (8 + k), shr_high (bits_below q (8 + k)) a (bits_below p a) (bits_fit p a), bits_split q 8 k)
    (mod_low (bits_below (λ b. q (8 + b)) k) 8 (bits_below q 8) (bits_fit q 8))

-- the octets of 32 tests are those of a status
pub bytes_are : (p : ℕ → Bool) (x : ℕ) → x ≡ bits_below p 32
    → (x % 256 ∷ x / 256 % 256 ∷ x / 65536 % 256 ∷ x / 16777216 % 256 ∷ []) ≡ status_from p 0 4
bytes_are p x e = rw e
    (let a : bits_below p 32 % 256 ≡ bits_below (λ b. p (8 * 0 + b)) 8 = first in
    let b : bits_below p 32 / 256 % 256 ≡ bits_below (λ b. p (8 * 1 + b)) 8 = same 8 (byte_at p 8 16) in
    let c : bits_below p 32 / 65536 % 256 ≡ bits_below (λ b. p (8 * 2 + b)) 8 = same 16 (byte_at p 16 8) in
    let d : bits_below p 32 / 16777216 % 256 ≡ bits_below (λ b. p (8 * 3 + b)) 8 = same 24 (byte_at p 24 0) in
    rw (a, b, c, d) refl)
  where
    first : bits_below p (8 + 24) % 2 ^ 8 ≡ bits_below p 8
    first = rw (bits_split p 8 24) (mod_low (bits_below (λ b. p (8 + b)) 24) 8 (bits_below p 8) (bits_fit p 8))

    same : (i : ℕ) {x : ℕ} → x ≡ bits_below (λ b. p (i + b)) 8 → x ≡ bits_below (λ b. p (i + b)) 8
    same i h = h

status_front : (p : ℕ → Bool) (i n m : ℕ) → n ≤ m → take n (status_from p i m) ≡ status_from p i n
status_front p i zero m l = refl
status_front p i (suc n) zero l = absurd (omega arith)
status_front p i (suc n) (suc m) l = ap (λ s. bits_below (λ b. p (8 * i + b)) 8 ∷ s) (status_front p (suc i) n m (omega arith))

status_same : (p q : ℕ → Bool) (i n : ℕ) → ((j : ℕ) → p j ≡ q j) → status_from p i n ≡ status_from q i n
status_same p q i zero h = refl
status_same p q i (suc n) h = rw (bits_same (λ b. p (8 * i + b)) (λ b. q (8 * i + b)) 8 (λ b l. h (8 * i + b)), status_same p q (suc i) n h) refl

-- as many as a range asks for
pub status_is : (p q : ℕ → Bool) (r x : ℕ) → r ≤ 31 → x ≡ bits_below p 32 → ((n : ℕ) → p n ≡ (leb n r && q n))
    → take (octets_for r) (x % 256 ∷ x / 256 % 256 ∷ x / 65536 % 256 ∷ x / 16777216 % 256 ∷ []) ≡ status_by q r
status_is p q r x l e h =
    ap (take (octets_for r)) (bytes_are p x e) ∙ status_front p 0 (octets_for r) 4 (omega arith) ∙ status_same p (λ n. leb n r && q n) 0 (octets_for r) h

-- the circuit of a CIC of the range
pub circuit_in : (t : Config) (c n : ℕ) (T : List Circuit) → t.first.0 ≤ c → circuit_of t (as_cic (c + n)) T ≡ placed T (c - t.first.0 + n)
circuit_in t c n T l =
    let f = t.first.0 in
    let e : c + n - f ≡ c - f + n = omega (arith, l) in
    rw (le-leb f (c + n) (omega (arith, l)), e) refl

-- the limits of GRS
pub reset_limits : (c r : ℕ) → refusal_of (group_reset c r) ≡ None → (c ≤ 4095) × (1 ≤ r) × (r ≤ 31)
reset_limits c r e =
    let w = may_write (group_reset c r) e in
    let lim = and_parts (leb 1 r) (leb r 31) w.1 in
    (w.0, leb-true 1 r lim.0, leb-true r 31 lim.1)

-- the mask of the hardware block that is asked again after an RSC
pub asked_again : (t : Config) (c : ℕ) (T : List Circuit) (p : ℕ) → p ≡ c - t.first.0
    → mask_by (λ k x. only t (as_cic c) k && is_standing x.local.hardware) ((c - t.first.0) / 32) T
    ≡ cond (ltb 0 (p % 32) && is_standing (placed T p).local.hardware) (2 ^ (p % 32)) 0
asked_again t c T p q =
    let system = (c - t.first.0) / 32 in
    let test = λ (s : ℕ). ltb 0 s && (only t (as_cic c) (system * 32 + s) && is_standing (placed T (system * 32 + s)).local.hardware) in
    let here : system * 32 + p % 32 ≡ p = omega (arith, q) in
    bits_one test 32 (p % 32) (omega arith)
    (λ i l n. and_right (ltb 0 i) _ (and_left (only t (as_cic c) (system * 32 + i)) _ (ne_eqb (system * 32 + i) (c - t.first.0) (λ e. n (omega (arith, e, q, l))))))
    ∙ rw (here, eq-eqb p (c - t.first.0) q) refl

-- ## A group reset

-- what is due after a group reset is what the rules say of the table before
grs_due : (t : Config) (c r : ℕ) (s : Slots) (why : BlockType) (T U : List Circuit)
    → s.first.0 ≡ c - t.first.0
    → s.group.range.0 ≡ r
    → U ≡ table_of (moving (in_range t c r) (λ _. on_grs) []) T
    → (k : ℕ) → is_due (record { slots = s; effect = Every signal.Grs; condition = Standing why }) k (placed U k)
    ≡ (in_range t c r k && ((placed T k).equipped && is_standing (block_of why (placed T k).local)))
grs_due t c r s why T U f e u k =
    let due : Due = record { slots = s; effect = Every signal.Grs; condition = Standing why } in
    ap (λ (V : List Circuit). is_due due k (placed V k)) u
    ∙ due_after (moving (in_range t c r) (λ _. on_grs) []) due T (λ _ x. (grs_keeps x).equipped) (λ _ x. group_reset_stands why x) k
    ∙ rw (f, e) (ap (λ (b : Bool). b && ((placed T k).equipped && is_standing (block_of why (placed T k).local))) (spans_at (c - t.first.0) r k))

pub grs_groups : (t : Config) (c r : ℕ) (s : Slots) (T U : List Circuit)
    → s.first.0 ≡ c - t.first.0
    → s.group.range.0 ≡ r
    → U ≡ table_of (moving (in_range t c r) (λ _. on_grs) []) T
    → groups t Cgb Hardware (is_due (record { slots = s; effect = Every signal.Grs; condition = Standing Hardware })) U
    ≡ groups t Cgb Hardware (λ k x. x.equipped && (in_range t c r k && is_standing x.local.hardware)) T
grs_groups t c r s T U f e u =
    groups_same t Cgb Hardware (is_due (record { slots = s; effect = Every signal.Grs; condition = Standing Hardware }))
    (λ k x. x.equipped && (in_range t c r k && is_standing x.local.hardware)) U T
    (λ k. grs_due t c r s Hardware T U f e u k ∙ swapped (in_range t c r k) (placed T k).equipped (is_standing (placed T k).local.hardware))

-- the status of the answer
pub grs_status : (t : Config) (c r : ℕ) (s : Slots) (T U : List Circuit) (x : ℕ)
    → s.first.0 ≡ c - t.first.0
    → s.group.range.0 ≡ r
    → U ≡ table_of (moving (in_range t c r) (λ _. on_grs) []) T
    → t.first.0 ≤ c
    → r ≤ 31
    → x ≡ due_bits (record { slots = s; effect = Every signal.Grs; condition = Standing Maintenance }) s.first.0 0 U
    → take (octets_for r) (x % 256 ∷ x / 256 % 256 ∷ x / 65536 % 256 ∷ x / 16777216 % 256 ∷ []) ≡ status_by (λ n. shows (circuit_of t (as_cic (c + n)) T)) r
grs_status t c r s T U x f e u l high is =
    let due : Due = record { slots = s; effect = Every signal.Grs; condition = Standing Maintenance } in
    status_is (λ n. leb 0 n && is_due due (s.first.0 + n) (placed U (s.first.0 + n))) (λ n. shows (circuit_of t (as_cic (c + n)) T)) r x high is
    (λ n.
    let at = c - t.first.0 in
    let in_it : in_range t c r (s.first.0 + n) ≡ leb n r = rw f (sym (spans_at at r (at + n)) ∙ rw (le-leb at (at + n) (omega arith), minus at n) refl) in
    let here : circuit_of t (as_cic (c + n)) T ≡ placed T (s.first.0 + n) = rw f (circuit_in t c n T l) in
    rw (le-leb 0 n (omega arith), here) (grs_due t c r s Maintenance T U f e u (s.first.0 + n) ∙ rw in_it refl))
  where
    minus : (a b : ℕ) → a + b - a ≡ b
    minus a b = omega arith
