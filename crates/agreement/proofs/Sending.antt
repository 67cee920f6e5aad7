-- All that is sent in reply to a message is accepted by the other end.
use Rattle.std.proofs.Common.{◌≤◌, ◌≡◌, ℕ, ◌+◌, ◌-◌, ◌/◌, Bool, true, false, cond, ◌&&◌, eqb, leb, List, [], ◌∷◌, ◌++◌, Ok, sym, refl, ap, ◌∙◌, arith}
use Rattle.std.proofs.lemmas.Bool.{eqb-true, and_parts, leb-true, le-leb}
use Rattle.status.specs.Bits.{is_named, octets_for, set_bits}
use Rattle.status.proofs.Bits.{set_few}
use Rattle.message.specs.Msg.{Msg, single, release_complete, group_reset, group_reset_ack, grouped, release, call}
use Rattle.message.specs.declared.kinds.BlockType.TheVariants.{Hardware}
use Rattle.message.specs.declared.kinds.CallKind.TheVariants.{Iam, Acm, Con, Anm, Cpg}
use Rattle.message.specs.declared.kinds.Grouped.{Grouped}
use Rattle.message.specs.declared.kinds.Grouped.TheVariants.{Cgb, Cgu, Cgba, Cgua}
use Rattle.message.specs.declared.kinds.Single.TheVariants.{Rsc, Blo, Ubl, Bla, Uba}
use Rattle.message.proofs.RoundTrip.{may_write}
use Rattle.circuit.specs.Circuits.{is_standing, is_none, block_of}
use Rattle.circuit.specs.declared.record.Circuit.{Circuit}
use Rattle.circuit.specs.Signals.{unexpected, on_gra}
use Rattle.supervision.specs.declared.trunk.Config.{Config}
use Rattle.supervision.specs.Groups.{groups, status_by}
use Rattle.supervision.specs.Moves.{Move}
use Rattle.supervision.specs.Orders.{circuit_of, only, release_message, why_of}
use Rattle.supervision.specs.Receiving.{as_cic, nothing, heard, moving, if_so as msg_if, to_one, in_range, marked, to_range, ask_again, shows, is_counted, is_unexpected}
use Rattle.supervision.specs.Trunks.{placed}
use Rattle.supervision.specs.Answering.{answer}
use Rattle.supervision.proofs.Bits.{named_by_test, status_length}
use Rattle.supervision.proofs.Writable.{may_be_sent}
use Rattle.supervision.proofs.Accepted.{one_reply, range_reply}
use Rattle.agreement.proofs.Passing.{Passes, Sends, Each, each_append, found_addressed, single_passes, complete_passes, release_passes, group_for_passes, groups_pass}
use Rattle.agreement.proofs.Standing.{Fitting, Standing}

if_passes : (t : Config) (E : ℕ → Bool) (b : Bool) (msg : Msg) → Sends t E msg → Each (Sends t E) (msg_if b msg)
if_passes t E true msg p = (p, tt)
if_passes t E false msg p = tt

one_sent : (t : Config) (E : ℕ → Bool) (c : ℕ) (r : Circuit → _) (ans : Circuit → List Msg) (T : List Circuit) (m : Move)
    → to_one t c r ans T ≡ Ok m → ((x : Circuit) → Each (Sends t E) (ans x)) → Each (Sends t E) m.sent
one_sent t E c r ans T m h p = rw (one_reply t c r ans T m h) (p (placed T (c - t.first.0)))

range_sent : (t : Config) (E : ℕ → Bool) (c r : ℕ) (s : List ℕ) (x : Move) (T : List Circuit) (m : Move)
    → to_range t c r s x T ≡ Ok m → Each (Sends t E) x.sent → Each (Sends t E) m.sent
range_sent t E c r s x T m h p = rw (range_reply t c r s x T m h) p

-- the hardware block asked again names the circuit of the message
ask_passes : (t : Config) (E : ℕ → Bool) (c : ℕ) (T : List Circuit) → Fitting t E → (t.first.0 ≤ c) × (E (c - t.first.0) ≡ true) → Each (Sends t E) (ask_again t c T)
ask_passes t E c T f a =
    let at = c - t.first.0 in
    let i = f.inside at a.1 in
    let n = t.systems in
    group_for_passes t E Cgb Hardware (λ k x. only t (as_cic c) k && is_standing x.local.hardware) (at / 32) T f (omega (arith, i))
    (λ j q. ap E (eqb-true j at (and_parts (eqb j at) _ q).0) ∙ a.1)

-- the answer to a group message has its range and status
echo_passes : (t : Config) (E : ℕ → Bool) (c i r : ℕ) (s : List ℕ) (what answer : Grouped) → Passes t E (grouped c what i r s) → Sends t E (grouped c answer i r s)
echo_passes t E c i r s what answer p =
    let w = may_write (grouped c what i r s) p.allowed in
    record { passes = record { addressed = p.addressed; allowed = may_be_sent (grouped c answer i r s) w.0 w.1 w.2 }; body = tt }

reset_ack_passes : (t : Config) (E : ℕ → Bool) (c r : ℕ) (T : List Circuit) → Fitting t E → Standing t E T → Passes t E (group_reset c r)
    → Sends t E (group_reset_ack c r (status_by (λ n. shows (circuit_of t (as_cic (c + n)) T)) r))
reset_ack_passes t E c r T f st p =
    let w = may_write (group_reset c r) p.allowed in
    let q = λ (n : ℕ). shows (circuit_of t (as_cic (c + n)) T) in
    let lim = and_parts (leb 1 r) (leb r 31) w.1 in
    let high : r ≤ 31 = leb-true r 31 lim.1 in
    let few : leb (set_bits (status_by q r) (r + 1)) 32 ≡ true =
    let h = set_few (status_by q r) (r + 1) in le-leb (set_bits (status_by q r) (r + 1)) 32 (omega (arith, h, high)) in
    let g = t.first.0 in
    let low = p.addressed.0 in
    record {
      passes = record {
        addressed = (
          low,
          p.addressed.1,
          λ j e.
              let a = and_parts (leb (c - g) j) (is_named r (status_by q r) (j - (c - g))) e in
              let b = and_parts (leb (j - (c - g)) r) (q (j - (c - g))) (sym (named_by_test q r (j - (c - g))) ∙ a.1) in
              let l : c - g ≤ j = leb-true (c - g) j a.0 in
              let d = found_addressed t E (as_cic (c + (j - (c - g)))) T st (and_parts (circuit_of t (as_cic (c + (j - (c - g)))) T).equipped _ b.1).0 in
              let z : c + (j - (c - g)) - g ≡ j = omega (arith, l, low) in
              ap E (sym z) ∙ d.1,
        );
        allowed = may_be_sent (group_reset_ack c r (status_by q r)) w.0 (rw (lim.0, lim.1, few) refl)
            (rw (status_length (λ n. leb n r && q n) 0 (octets_for r)) (same (octets_for r)));
      };
      body = tt;
    }
  where
    same : (j : ℕ) → eqb j j ≡ true
    same j = grind arith

pub heard_sent : (t : Config) (E : ℕ → Bool) (msg : Msg) (T : List Circuit) (m : Move) → Fitting t E → Standing t E T → Passes t E msg → heard t msg T ≡ Ok m → Each (Sends t E) m.sent
heard_sent t E (single c Blo) T m f st p h = one_sent t E c _ (λ _. single c Bla ∷ []) T m h (λ x. (single_passes t E c Bla f p.addressed, tt))
heard_sent t E (single c Ubl) T m f st p h = one_sent t E c _ (λ _. single c Uba ∷ []) T m h (λ x. (single_passes t E c Uba f p.addressed, tt))
heard_sent t E (single c Bla) T m f st p h =
    one_sent t E c _ (λ x. msg_if (is_none x.local.maintenance) (single c Ubl)) T m h
    (λ x. if_passes t E (is_none x.local.maintenance) (single c Ubl) (single_passes t E c Ubl f p.addressed))
heard_sent t E (single c Uba) T m f st p h =
    one_sent t E c _ (λ x. msg_if (is_standing x.local.maintenance) (single c Blo)) T m h
    (λ x. if_passes t E (is_standing x.local.maintenance) (single c Blo) (single_passes t E c Blo f p.addressed))
heard_sent t E (single c Rsc) T m f st p h =
    one_sent t E c _ (λ x. msg_if (is_standing x.local.maintenance) (single c Blo) ++ (ask_again t c T ++ (release_complete c ∷ []))) T m h
    (λ x. each_append (Sends t E) (msg_if (is_standing x.local.maintenance) (single c Blo)) (ask_again t c T ++ (release_complete c ∷ []))
    (if_passes t E (is_standing x.local.maintenance) (single c Blo) (single_passes t E c Blo f p.addressed))
    (each_append (Sends t E) (ask_again t c T) (release_complete c ∷ []) (ask_passes t E c T f p.addressed) (complete_passes t E c f p.addressed, tt)))
heard_sent t E (release_complete c) T m f st p h =
    one_sent t E c _ (λ x. msg_if (is_unexpected x) (release_message c unexpected)) T m h
    (λ x. if_passes t E (is_unexpected x) (release_message c unexpected) (release_passes t E c unexpected.location_octet unexpected.value_octet f p.addressed))
heard_sent t E (release c cause) T m f st p h = one_sent t E c _ (λ _. release_complete c ∷ []) T m h (λ x. (complete_passes t E c f p.addressed, tt))
heard_sent t E (call c Iam body) T m f st p h = one_sent t E c _ (λ _. []) T m h (λ x. tt)
heard_sent t E (call c Acm body) T m f st p h = one_sent t E c _ (λ _. []) T m h (λ x. tt)
heard_sent t E (call c Con body) T m f st p h = one_sent t E c _ (λ _. []) T m h (λ x. tt)
heard_sent t E (call c Anm body) T m f st p h = one_sent t E c _ (λ _. []) T m h (λ x. tt)
heard_sent t E (call c Cpg body) T m f st p h = one_sent t E c _ (λ _. []) T m h (λ x. tt)
heard_sent t E (grouped c Cgb i r s) T m f st p h = range_sent t E c r s _ T m h (echo_passes t E c i r s Cgb Cgba p, tt)
heard_sent t E (grouped c Cgu i r s) T m f st p h = range_sent t E c r s _ T m h (echo_passes t E c i r s Cgu Cgua p, tt)
heard_sent t E (grouped c Cgba i r s) T m f st p h =
    let test = λ (k : ℕ) (x : Circuit). marked t c r s k && is_none (block_of (why_of i) x.local) in
    range_sent t E c r s _ T m h (groups_pass t E Cgu (why_of i) test T f (λ j q. p.addressed.2 j (and_parts (marked t c r s j) _ q).0))
heard_sent t E (grouped c Cgua i r s) T m f st p h =
    let test = λ (k : ℕ) (x : Circuit). marked t c r s k && is_standing (block_of (why_of i) x.local) in
    range_sent t E c r s _ T m h (groups_pass t E Cgb (why_of i) test T f (λ j q. p.addressed.2 j (and_parts (marked t c r s j) _ q).0))
heard_sent t E (group_reset c r) T m f st p h =
    let test = λ (k : ℕ) (x : Circuit). x.equipped && (in_range t c r k && is_standing x.local.hardware) in
    let last = group_reset_ack c r (status_by (λ n. shows (circuit_of t (as_cic (c + n)) T)) r) in
    range_sent t E c r [] _ T m h
    (each_append (Sends t E) (groups t Cgb Hardware test T) (last ∷ [])
    (groups_pass t E Cgb Hardware test T f (λ j q. sym (st.equipment j) ∙ (and_parts (placed T j).equipped _ q).0))
    (reset_ack_passes t E c r T f st p, tt))
heard_sent t E (group_reset_ack c r s) T m f st p h = range_sent t E c r s _ T m h (either (is_counted t c r))
  where
    either : (b : Bool) → Each (Sends t E) (cond b (moving (in_range t c r) (λ k. on_gra (is_named r s (k - (c - t.first.0)))) []) nothing).sent
    either true = tt
    either false = tt
