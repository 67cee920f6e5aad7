-- A line of octets, and what it is to one circuit.
use Rattle.std.proofs.Common.{◌≡◌, ℕ, ◌-◌, ◌*◌, ◌<◌, ◌≤◌, Bool, ◌&&◌, eqb, leb, List, [], ◌∷◌, ◌++◌, map, None, Ok, Err, Option, Result, sym, refl, ap, ◌∙◌, ⊎_elim, length-set}
use Rattle.std.proofs.lemmas.Bool.{cases_lt, lt-leb}
use Rattle.status.specs.Bits.{is_named, cleared}
use Rattle.status.proofs.Cleared.{cleared_same}
use Rattle.message.specs.Decode.{decode}
use Rattle.message.specs.Encode.{encode, plain, sized}
use Rattle.message.specs.Msg.{Msg, single, release_complete, group_reset, group_reset_ack, grouped, release, call, cic_in}
use Rattle.message.specs.declared.fault.MessageFault.{MessageFault}
use Rattle.message.proofs.RoundTrip.{may_write, within-plain, written_back}
use Rattle.message.specs.declared.kinds.CallKind.TheVariants.{Iam, Acm, Con, Anm, Cpg}
use Rattle.message.specs.declared.kinds.Single.TheVariants.{Rsc, Blo, Ubl, Bla, Uba}
use Rattle.supervision.specs.declared.trunk.Config.{Config}
use Rattle.supervision.specs.Orders.{why_of}
use Rattle.supervision.specs.Trunks.{covers}
use Rattle.supervision.proofs.Writable.{may_be_sent}
use Rattle.agreement.proofs.Event.{when, within as in_reach, is_whole, of_kind, event, push, push_append, shown}
use Rattle.agreement.proofs.Hearing.{IsWhole}
use Rattle.agreement.proofs.Passing.{Addressed, Passes, Each}
use Rattle.agreement.proofs.Signals.{Signal, gra}

-- ## Spare bits are nothing to a circuit

named_plain : (r : ℕ) (s : List ℕ) (n : ℕ) → is_named r (cleared r s) n ≡ is_named r s n
named_plain r s n = ⊎_elim
    (λ (l : r < n). rw (lt-leb n r l) refl)
    (λ (l : n ≤ r). ap (λ b. leb n r && eqb b 1) (sym (cleared_same r s n l)))
    (cases_lt r n)

covers_plain : (first r : ℕ) (s : List ℕ) (k : ℕ) → covers first r (cleared r s) k ≡ covers first r s k
covers_plain first r s k = ap (λ b. leb first k && b) (named_plain r s (k - first))

pub plain_event : (first k : ℕ) (m : Msg) → event first k (plain m) ≡ event first k m
plain_event first k (single c Rsc) = refl
plain_event first k (single c Blo) = refl
plain_event first k (single c Ubl) = refl
plain_event first k (single c Bla) = refl
plain_event first k (single c Uba) = refl
plain_event first k (release_complete c) = refl
plain_event first k (group_reset c r) = refl
plain_event first k (group_reset_ack c r s) = ap (λ b. when (is_whole first c r && in_reach first c r k) (gra b)) (named_plain r s (k - (c - first)))
plain_event first k (grouped c what i r s) = ap (λ b. when b (of_kind what (why_of i))) (covers_plain (c - first) r s k)
plain_event first k (release c x) = refl
plain_event first k (call c Iam x) = refl
plain_event first k (call c Acm x) = refl
plain_event first k (call c Con x) = refl
plain_event first k (call c Anm x) = refl
plain_event first k (call c Cpg x) = refl

plain_addressed : (first n : ℕ) (E : ℕ → Bool) (m : Msg) → Addressed first n E m → Addressed first n E (plain m)
plain_addressed first n E (single c k) a = a
plain_addressed first n E (release_complete c) a = a
plain_addressed first n E (group_reset c r) a = a
plain_addressed first n E (group_reset_ack c r s) a = (a.0, a.1, λ j e. a.2 j (sym (covers_plain (c - first) r s j) ∙ e))
plain_addressed first n E (grouped c what i r s) a = (a.0, a.1, λ j e. a.2 j (sym (covers_plain (c - first) r s j) ∙ e), a.3)
plain_addressed first n E (release c x) a = a
plain_addressed first n E (call c kind x) a = a

cic_plain : (m : Msg) → cic_in (plain m) ≡ cic_in m
cic_plain (single c k) = refl
cic_plain (release_complete c) = refl
cic_plain (group_reset c r) = refl
cic_plain (group_reset_ack c r s) = refl
cic_plain (grouped c what i r s) = refl
cic_plain (release c x) = refl
cic_plain (call c kind x) = refl

sized_plain : (m : Msg) → sized (plain m) ≡ sized m
sized_plain (single c k) = refl
sized_plain (release_complete c) = refl
sized_plain (group_reset c r) = refl
sized_plain (group_reset_ack c r s) = rw length-set refl
sized_plain (grouped c what i r s) = rw length-set refl
sized_plain (release c x) = refl
sized_plain (call c kind x) = refl

plain_passes : (t : Config) (E : ℕ → Bool) (m : Msg) → Passes t E m → Passes t E (plain m)
plain_passes t E m p =
    let w = may_write m p.allowed in
    record {
      addressed = plain_addressed t.first.0 (t.systems * 32) E m p.addressed;
      allowed = may_be_sent (plain m) (rw (cic_plain m) w.0) (within-plain m ∙ w.1) (sized_plain m ∙ w.2);
    }

-- ## Octets on a line

-- octets that are a message that passes
pub record OnLine (t : Config) (E : ℕ → Bool) (o : List ℕ) : Type 0 where
  pub message : Msg
  pub read : decode o ≡ Ok message
  pub passes : Passes t E message

abbrev pub AllOnLine : Config → (ℕ → Bool) → List (List ℕ) → Type 0
AllOnLine t E [] = Unit {0}
AllOnLine t E (o ∷ l) = OnLine t E o × AllOnLine t E l

pub sent_on_line : (t : Config) (E : ℕ → Bool) (l : List (List ℕ)) (ms : List Msg) → AllOnLine t E l → Each (Passes t E) ms → AllOnLine t E (l ++ map encode ms)
sent_on_line t E (o ∷ l) ms h p = (h.0, sent_on_line t E l ms h.1 p)
sent_on_line t E [] [] h p = tt
sent_on_line t E [] (m ∷ ms) h p =
    (record { message = plain m; read = written_back m p.0.allowed; passes = plain_passes t E m p.0 }, sent_on_line t E [] ms tt p.1)

-- what octets are to one circuit
abbrev pub seen : ℕ → ℕ → Result Msg MessageFault → Option Signal
seen first k (Err f) = None
seen first k (Ok m) = event first k m

-- a line as one circuit sees it
abbrev pub line_of : ℕ → ℕ → List (List ℕ) → List Signal
line_of first k [] = []
line_of first k (o ∷ l) = push (seen first k (decode o)) (line_of first k l)

pub line_append : (first k : ℕ) (l o : List (List ℕ)) → line_of first k (l ++ o) ≡ line_of first k l ++ line_of first k o
line_append first k [] o = refl
line_append first k (x ∷ l) o = ap (push (seen first k (decode x))) (line_append first k l o) ∙ push_append (seen first k (decode x)) (line_of first k l) (line_of first k o)

pub line_sent : (t : Config) (E : ℕ → Bool) (first k : ℕ) (ms : List Msg) → Each (Passes t E) ms → line_of first k (map encode ms) ≡ shown first k ms
line_sent t E first k [] p = refl
line_sent t E first k (m ∷ ms) p =
    ap (λ x. push (seen first k x) (line_of first k (map encode ms))) (written_back m p.0.allowed)
    ∙ (ap (λ e. push e (line_of first k (map encode ms))) (plain_event first k m)
    ∙ ap (push (event first k m)) (line_sent t E first k ms p.1))

-- a group reset that passes is of a whole PCM system
pub passes_whole : (first n : ℕ) (E : ℕ → Bool) (m : Msg) → Addressed first n E m → IsWhole first m
passes_whole first n E (single c k) a = tt
passes_whole first n E (release_complete c) a = tt
passes_whole first n E (group_reset c r) a = a.2
passes_whole first n E (group_reset_ack c r s) a = tt
passes_whole first n E (grouped c what i r s) a = tt
passes_whole first n E (release c x) a = tt
passes_whole first n E (call c kind x) a = tt
