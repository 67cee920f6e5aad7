-- A message is accepted exactly where it is addressed to circuits of the table.
use Rattle.std.proofs.Common.{◌↔◌, ◌≡◌, ℕ, ◌+◌, ◌-◌, ◌*◌, ◌%◌, ◌^◌, ◌<◌, ◌≤◌, Bool, true, false, not, ◌&&◌, eqb, ltb, leb, List, [], length, is_ok, Ok, sym, refl, ap, ◌∙◌, arith}
use native.Mathlib.Nat.{zero-div}
use Rattle.std.proofs.lemmas.Bool.{and_parts, and_right, eq-eqb, false≢true, le-leb, leb-true, lt-ltb}
use Rattle.std.proofs.lemmas.Bool.Decides.{nat_tests}
use Rattle.status.specs.Bits.{is_named, bit_at}
use Rattle.message.specs.Msg.{Msg, single, release_complete, group_reset, group_reset_ack, grouped, release, call}
use Rattle.message.specs.declared.kinds.CallKind.TheVariants.{Iam, Acm, Con, Anm, Cpg}
use Rattle.message.specs.declared.kinds.Grouped.TheVariants.{Cgb, Cgu, Cgba, Cgua}
use Rattle.message.specs.declared.kinds.Single.TheVariants.{Rsc, Blo, Ubl, Bla, Uba}
use Rattle.circuit.specs.declared.record.Circuit.{Circuit}
use Rattle.refusal.specs.declared.reasons.Refusal.TheVariants.{Address}
use Rattle.refusal.specs.Refusals.{unless}
use Rattle.supervision.specs.Lending.{Lent, Suffices}
use Rattle.supervision.specs.Moves.{Move, some_from}
use Rattle.supervision.specs.Orders.{admitted, circuit_of}
use Rattle.supervision.specs.Receiving.{as_cic, is_range, marked, to_range, heard}
use Rattle.supervision.specs.Trunks.{places, placed}
use Rattle.supervision.specs.declared.trunk.Config.{Config}
use Rattle.supervision.proofs.Allowing.{at_place}
use Rattle.supervision.proofs.Naming.{covers_in}
use Rattle.supervision.proofs.Some.{none, none_at}
use Rattle.laws.specs.Addressing.{IsCircuit, IsRange, IsNamed, Addressed, MessagesAccepted}
use Rattle.laws.proofs.Places.{not_below}

-- a test that does not refuse
passing : (b : Bool) (m : Move) → ((is_ok (unless (not b) Address (Ok m)) ≡ true) ↔ (b ≡ true))
passing true m = (λ h. refl, λ h. refl)
passing false m = (λ h. absurd (false≢true h), λ h. absurd (false≢true h))

-- the circuit of a CIC is there
pub one_is : (t : Config) (c : ℕ) (T : List Circuit) → (((circuit_of t (as_cic c) T).equipped ≡ true) ↔ (IsCircuit t T c))
one_is t c T =
    let x = circuit_of t (as_cic c) T in (
      λ h. (not_below t (as_cic c) T h, sym (ap (λ (y : Circuit). y.equipped) (at_place t (as_cic c) T h)) ∙ h),
      λ w. let b : leb t.first.0 c ≡ true = le-leb t.first.0 c w.0 in rw b w.1,
    )

one_accepted : (t : Config) (c : ℕ) (T : List Circuit) (m : Move)
    → ((is_ok (unless (not (circuit_of t (as_cic c) T).equipped) Address (Ok m)) ≡ true) ↔ (IsCircuit t T c))
one_accepted t c T m =
    let i = one_is t c T in
    let p = passing (circuit_of t (as_cic c) T).equipped m in
    (λ h. i.0 (p.0 h), λ w. p.1 (i.1 w))

is_in : (t : Config) (c r : ℕ) → ((is_range t c r ≡ true) ↔ (IsRange t c r))
is_in t c r = (
  λ h.
      let w = and_parts (leb t.first.0 c) (ltb (c + r) (t.first.0 + places t)) h in
      (leb-true t.first.0 c w.0, lower (c + r) (t.first.0 + places t) w.1),
  λ w. let a : leb t.first.0 c ≡ true = le-leb t.first.0 c w.0 in
      let b : ltb (c + r) (t.first.0 + places t) ≡ true = lt-ltb (c + r) (t.first.0 + places t) w.1 in
      rw (a, b) refl,
)
  where
    lower : (a b : ℕ) → ltb a b ≡ true → a < b
    lower a b h = grind (arith, nat_tests)

-- both tests of a message for a range
both_pass : (a b : Bool) (m : Move) → ((is_ok (unless (not a) Address (unless b Address (Ok m))) ≡ true) ↔ ((a ≡ true) × (b ≡ false)))
both_pass true false m = (λ h. (refl, refl), λ w. refl)
both_pass true true m = (λ h. absurd (false≢true h), λ w. absurd (false≢true (sym w.1)))
both_pass false b m = (λ h. absurd (false≢true h), λ w. absurd (false≢true w.0))

range_accepted : (t : Config) (c r : ℕ) (s : List ℕ) (m : Move) (T : List Circuit) → length T ≡ t.systems * 32
    → ((is_ok (to_range t c r s m T) ≡ true) ↔ (IsNamed t T c r s))
range_accepted t c r s m T size =
    let first = c - t.first.0 in
    let p = λ (k : ℕ) (y : Circuit). marked t c r s k && not y.equipped in
    let w = both_pass (is_range t c r) (some_from p 0 T) m in
    let i = is_in t c r in (
      λ h.
          let at = i.0 (w.0 h).0 in (
            at,
            λ n q.
                let l = leb-true n r (and_parts (leb n r) (eqb (bit_at s n) 1) q).0 in
                let k : first + n < length T = inside c t.first.0 r n (t.systems * 32) (length T) at.0 at.1 l size in
                equipped (marked t c r s (first + n)) (placed T (first + n)).equipped (none_at p T (first + n) k (w.0 h).1) (covers_in first r s n ∙ q),
          ),
      λ x. w.1 (
        i.1 x.0,
        none p T (λ j l. names (marked t c r s j) (placed T j).equipped
            (λ e.
            let parts = and_parts (leb first j) (is_named r s (j - first)) e in
            let b = leb-true first j parts.0 in
            let z : first + (j - first) ≡ j = omega (arith, b) in
            rw z at (x.1 (j - first) parts.1))),
      ),
    )
  where
    inside : (c f r n size len : ℕ) → f ≤ c → c + r < f + size → n ≤ r → len ≡ size → c - f + n < len
    inside c f r n size len a b d e = omega (arith, a, b, d, e)

    equipped : (a b : Bool) → (a && not b) ≡ false → a ≡ true → b ≡ true
    equipped true true e h = refl
    equipped true false e h = absurd (false≢true (sym e))
    equipped false b e h = absurd (false≢true h)

    names : (a b : Bool) → (a ≡ true → b ≡ true) → (a && not b) ≡ false
    names true true h = refl
    names true false h = absurd (false≢true (h refl))
    names false b h = refl

-- an empty status names nothing
nothing_named : (r n : ℕ) → is_named r [] n ≡ false
nothing_named r n = and_right (leb n r) (eqb (bit_at [] n) 1) (rw (zero-div (2 ^ (n % 8))) refl)

reset_accepted : (t : Config) (c r : ℕ) (m : Move) (T : List Circuit) → length T ≡ t.systems * 32 → ((is_ok (to_range t c r [] m T) ≡ true) ↔ (IsRange t c r))
reset_accepted t c r m T size =
    let w = range_accepted t c r [] m T size in
    (λ h. (w.0 h).0, λ i. w.1 (i, λ n e. absurd (false≢true (sym (nothing_named r n) ∙ e))))

heard_accepted : (t : Config) (msg : Msg) (T : List Circuit) → length T ≡ t.systems * 32 → ((is_ok (heard t msg T) ≡ true) ↔ (Addressed t T msg))
heard_accepted t (single c Rsc) T size = one_accepted t c T _
heard_accepted t (single c Blo) T size = one_accepted t c T _
heard_accepted t (single c Ubl) T size = one_accepted t c T _
heard_accepted t (single c Bla) T size = one_accepted t c T _
heard_accepted t (single c Uba) T size = one_accepted t c T _
heard_accepted t (release_complete c) T size = one_accepted t c T _
heard_accepted t (release c cause) T size = one_accepted t c T _
heard_accepted t (call c Iam body) T size = one_accepted t c T _
heard_accepted t (call c Acm body) T size = one_accepted t c T _
heard_accepted t (call c Con body) T size = one_accepted t c T _
heard_accepted t (call c Anm body) T size = one_accepted t c T _
heard_accepted t (call c Cpg body) T size = one_accepted t c T _
heard_accepted t (grouped c Cgb i r s) T size = range_accepted t c r s _ T size
heard_accepted t (grouped c Cgu i r s) T size = range_accepted t c r s _ T size
heard_accepted t (grouped c Cgba i r s) T size = range_accepted t c r s _ T size
heard_accepted t (grouped c Cgua i r s) T size = range_accepted t c r s _ T size
heard_accepted t (group_reset c r) T size = reset_accepted t c r _ T size
heard_accepted t (group_reset_ack c r s) T size = range_accepted t c r s _ T size

-- where enough is lent nothing is refused before the message is read
pub admits : (t : Config) (room : ℕ) (l : Lent) → Suffices t room l → admitted t room l ≡ Ok tt
admits t room l s =
    let a : ltb room (length l.table) ≡ false = high room (length l.table) s.places in
    let b : eqb (length l.table) (places t) ≡ true = eq-eqb (length l.table) (places t) s.table in
    let c : ltb (length l.words) 96 ≡ false = high (length l.words) 96 s.words in
    let d : ltb (length l.octets) 320 ≡ false = high (length l.octets) 320 s.octets in
    rw (a, b, c, d) refl
  where
    high : (a b : ℕ) → b ≤ a → ltb a b ≡ false
    high a b h = grind (arith, nat_tests)

pub messages_accepted : MessagesAccepted
messages_accepted t room octets l message s e = rw (admits t room l s, e) (heard_accepted t message l.table s.table)
