-- A lawful seizure is accepted exactly if some circuit is open, and takes an open one.
use Rattle.std.proofs.Common.{◌≡◌, ℕ, ◌+◌, ◌*◌, ◌<◌, ◌≤◌, Bool, true, false, cond, not, ◌||◌, eqb, ltb, List, [], ◌∷◌, length, is_ok, Some, None, Ok, Err, Option, Result, sym, refl, ap, ◌∙◌, ⊎_elim, subst, arith}
use Rattle.std.proofs.lemmas.Bool.{cases_Bool, eqb-true, eq-eqb, le-ltb, and_parts}
use Rattle.message.specs.Msg.{call}
use Rattle.message.specs.declared.kinds.CallKind.TheVariants.{Iam}
use Rattle.policy.specs.Sets.{Chosen}
use Rattle.policy.specs.declared.interface.Place.{Place}
use Rattle.circuit.specs.Circuits.{is_open}
use Rattle.circuit.specs.Laws.{told_of}
use Rattle.circuit.specs.declared.record.Circuit.{Circuit}
use Rattle.circuit.specs.declared.rules.Rule.TheVariants as rule
use Rattle.words.specs.declared.kinds.Direction.TheVariants.{Outgoing}
use Rattle.words.specs.declared.kinds.Word.TheVariants.{Begun}
use Rattle.refusal.specs.Refusals.{unless, and_then}
use Rattle.refusal.specs.declared.reasons.Refusal.{Refusal}
use Rattle.refusal.specs.declared.reasons.Refusal.TheVariants.{Places, Buffers, Argument, Choice}
use Rattle.supervision.specs.declared.trunk.Config.{Config}
use Rattle.supervision.specs.Answering.{answer, seize}
use Rattle.supervision.specs.Laws.{SetIsOpen, about}
use Rattle.supervision.specs.Lending.{Lent}
use Rattle.supervision.specs.Moves.{Move, some_from, words_of}
use Rattle.supervision.specs.Orders.{ordered}
use Rattle.supervision.specs.Seizing.{may_ask, seizable, seizing}
use Rattle.supervision.specs.Trunks.{cic_at, placed}
use Rattle.supervision.proofs.Allowing.{same_move, and_ok}
use Rattle.supervision.proofs.Some.{none, some}
use Rattle.supervision.proofs.Keeping.{about-words}
use Rattle.supervision.proofs.Naming.{unnamed, acts}
use Rattle.supervision.proofs.Accepted.{equipped_inside}
use Rattle.agreement.specs.Agreeing.{Asks, Seizes}
use Rattle.agreement.specs.Runs.{State, lends}
use Rattle.agreement.proofs.Acting.{seizable_open}

-- the policy is asked
may : (t : Config) (s : State) (body : List ℕ) (choice : Option Place) (words octets : List ℕ) → length s.table ≡ t.systems * 32 → length s.table ≤ length s.held
    → Asks s body choice words octets → may_ask t (length s.held) body (lends s words octets) ≡ Ok tt
may t s body choice words octets z l a =
    let b1 : ltb (length s.held) (length s.table) ≡ false = le-ltb (length s.held) (length s.table) l in
    let b2 : eqb (length s.table) (t.systems * 32) ≡ true = eq-eqb (length s.table) (t.systems * 32) z in
    let b3 : ltb (length words) 96 ≡ false = le-ltb (length words) 96 a.room_of_words in
    let b4 : ltb (length octets) 320 ≡ false = le-ltb (length octets) 320 a.room_of_octets in
    let b5 : ltb (length body) 1 ≡ false = le-ltb (length body) 1 a.long in
    let b6 : ltb 256 (length body) ≡ false = le-ltb 256 (length body) a.short in
    rw (b1, b2, b3, b4, b5, b6) refl

by_choice : (t : Config) (body : List ℕ) (choice : Option Place) (T : List Circuit) (H : List Bool) → Chosen H choice → SetIsOpen T H
    → is_ok (seizing t body choice T) ≡ some_from (λ _. is_open) 0 T
by_choice t body None T H chosen set = sym (none (λ _. is_open) T (λ j l. sym (set j) ∙ chosen j))
by_choice t body (Some p) T H chosen set =
    let here : is_open (placed T p.0) ≡ true = sym (set p.0) ∙ chosen in
    rw here (sym (some (λ _. is_open) T p.0 (equipped_inside T p.0 (and_parts (placed T p.0).equipped _ here).0) here))

begun_at : (t : Config) (named : ℕ → Bool) (k : ℕ) (msg : _) (T : List Circuit) (j : ℕ) → is_open (placed T k) ≡ true → j < length T
    → about (t.first.0 + j) (words_of t (ordered (λ i. eqb i k) rule.Seize msg) T) ≡ cond (eqb j k) (Begun Outgoing (cic_at t k) ∷ []) []
begun_at t named k msg T j o l =
    let m = ordered (λ i. eqb i k) rule.Seize msg in
    about-words t m T j l
    ∙ ⊎_elim
    (λ (n : eqb j k ≡ true).
    let e : j ≡ k = eqb-true j k n in
    let q : (placed T j).equipped ≡ true = rw e (and_parts (placed T k).equipped _ o).0 in
    ap (told_of (cic_at t j)) (acts m.named m.rule j (placed T j) n q) ∙ (rw n (ap (λ i. Begun Outgoing (cic_at t i) ∷ []) e)))
    (λ (n : eqb j k ≡ false). ap (told_of (cic_at t j)) (unnamed m.named m.rule j (placed T j) n) ∙ rw n refl)
    (cases_Bool (eqb j k))

-- a place that may be seized is the one chosen
seizable_place : (p : Place) (T : List Circuit) (q : Place) → seizable (Some p) T ≡ Ok q → q.0 ≡ p.0
seizable_place p T q h = go (is_open (placed T p.0)) h
  where
    go : (b : Bool) → unless (not b) Choice (Ok p) ≡ Ok q → q.0 ≡ p.0
    go true e = let z : p ≡ q = cc in ap (λ (x : Place). x.0) (sym z)
    go false e = let z : ◌≡◌ {A = ℕ} 0 1 = cc in absurd (omega arith)

-- what follows the tests that come before the policy is asked
past_asking : (a b c : Bool) (r : Result Move Refusal)
    → and_then (and_then {X = Unit {0}} (unless a Places (unless b Buffers (Ok tt))) (λ _. unless {X = Unit {0}} c Argument (Ok tt))) (λ _. r) ≡ Err Choice → r ≡ Err Choice
past_asking true b c r e = let z : ◌≡◌ {A = ℕ} 0 1 = cc in absurd (omega arith)
past_asking false true c r e = let z : ◌≡◌ {A = ℕ} 0 1 = cc in absurd (omega arith)
past_asking false false true r e = let z : ◌≡◌ {A = ℕ} 0 1 = cc in absurd (omega arith)
past_asking false false false r e = e

-- what the policy chose is open, where its set is the open circuits
fits_choice : (t : Config) (room : ℕ) (body : List ℕ) (choice : Option Place) (l : Lent) (H : List Bool) → SetIsOpen l.table H → Chosen H choice
    → answer t room (seize body choice) l ≡ Err Choice → ⊥
fits_choice t room body choice l H set chosen e =
    go choice chosen
    (past_asking (ltb room (length l.table)) (not (eqb (length l.table) (t.systems * 32)) || (ltb (length l.words) 96 || ltb (length l.octets) 320))
    (ltb (length body) 1 || ltb 256 (length body)) (seizing t body choice l.table) e)
  where
    go : (c : Option Place) → Chosen H c → seizing t body c l.table ≡ Err Choice → ⊥
    go None n h = let z : ◌≡◌ {A = ℕ} 0 1 = cc in omega arith
    go (Some p) n h =
        let here : is_open (placed l.table p.0) ≡ true = sym (set p.0) ∙ n in
        let h2 = rw here at h in
        let z : ◌≡◌ {A = ℕ} 0 1 = cc in omega arith

pub seizes_fairly : (t : Config) (s : State) → length s.table ≡ t.systems * 32 → length s.table ≤ length s.held → SetIsOpen s.table s.held → Seizes t s
seizes_fairly t s z l set = record {
  set = set;
  exactly = λ body choice words octets a. rw (may t s body choice words octets z l a) (by_choice t body choice s.table s.held a.chosen set);
  fits = λ body choice words octets chosen. fits_choice t (length s.held) body choice (lends s words octets) s.held set chosen;
  takes = λ body place words octets m h.
      let choice = Some place in
      let w = and_ok (seizable choice s.table) _ m (and_ok (may_ask t (length s.held) body (lends s words octets)) _ m h).2 in
      let q = w.0 in
      let same : q.0 ≡ place.0 = seizable_place place s.table q w.1 in
      let o = seizable_open choice s.table q w.1 in
      let msg = call (t.first.0 + q.0) Iam body in (
        subst (λ n. is_open (placed s.table n) ≡ true) same o,
        λ j i.
            subst (λ n. about (t.first.0 + j) (words_of t m s.table) ≡ cond (eqb j n) (Begun Outgoing (cic_at t n) ∷ []) []) same
            (subst (λ (x : Move). about (t.first.0 + j) (words_of t x s.table) ≡ cond (eqb j q.0) (Begun Outgoing (cic_at t q.0) ∷ []) []) (same_move (ordered (λ i. eqb i q.0) rule.Seize msg) m w.2)
            (begun_at t (λ i. eqb i q.0) q.0 msg s.table j o i)),
      );
}
