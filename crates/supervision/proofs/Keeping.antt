-- Every move whose rules may be applied keeps the laws.
use Rattle.std.proofs.Common.{◌≡◌, ℕ, zero, suc, ◌+◌, ◌<◌, ◌≤◌, Bool, true, false, cond, eqb, ◌≢◌, List, [], ◌∷◌, ◌++◌, length, get_or, Some, None, Ok, Err, Option, Result, sym, refl, ap, ◌∙◌, ⊎_elim, add-zero, zero-add, arith}
use Rattle.std.proofs.lemmas.List.{append-nil, get_or_past}
use Rattle.std.proofs.lemmas.Bool.{cases_lt, cases_Bool, ne_eqb, eq-eqb}
use Rattle.status.specs.declared.cic.Cic.{Cic}
use Rattle.message.specs.Encode.{encode}
use Rattle.message.specs.Msg.{Msg}
use Rattle.circuit.specs.Changes.{quiet}
use Rattle.circuit.specs.Circuits.{vacant, is_open, is_sound}
use Rattle.circuit.specs.Laws.{Keeps, told_of, end_word, begin_word}
use Rattle.circuit.specs.declared.record.Circuit.{Circuit}
use Rattle.circuit.specs.declared.rules.Change.{Change}
use Rattle.words.specs.declared.kinds.Direction.{Direction}
use Rattle.words.specs.declared.kinds.EndCause.{EndCause}
use Rattle.words.specs.declared.kinds.Timer.{Timer}
use Rattle.words.specs.declared.kinds.Word.{Word}
use Rattle.words.specs.declared.kinds.Word.TheVariants.{Send, Begun, Ended, Alert}
use Rattle.refusal.specs.declared.reasons.Refusal.{Refusal}
use Rattle.supervision.specs.declared.trunk.Config.{Config}
use Rattle.supervision.specs.Laws.{SetIsOpen, about, Lawful, Outcome}
use Rattle.supervision.specs.Lending.{Lent, Performed, kept, settled, carried}
use Rattle.supervision.specs.Moves.{Move, each_from, told_from, sends_from, step_of, table_of, call_words, alert_word, words_of}
use Rattle.supervision.specs.Trunks.{cic_at, placed}
use Rattle.supervision.proofs.Naming.{unnamed, unequipped, acts}
use Rattle.supervision.proofs.Settling.{settled_at_lem, length-settled}
use Rattle.supervision.proofs.Stepping.{Step, length_each}

-- ## The table, place by place

each_at : (f : Step) (k : ℕ) (T : List Circuit) (j : ℕ) → j < length T → placed (each_from f k T) j ≡ (f (k + j) (placed T j)).circuit
each_at f k [] j l = absurd (omega arith)
each_at f k (c ∷ cs) zero l = rw (add-zero k) refl
each_at f k (c ∷ cs) (suc j) l = each_at f (suc k) cs j (omega arith) ∙ let q : suc k + j ≡ k + suc j = omega arith in rw q refl

pub table_at : (m : Move) (T : List Circuit) (k : ℕ) → placed (table_of m T) k ≡ (step_of m k (placed T k)).circuit
table_at m T k = ⊎_elim
    (λ (l : k < length T). each_at (step_of m) 0 T k l ∙ rw (zero-add k) refl)
    (λ (l : length T ≤ k).
    let a : placed T k ≡ vacant = get_or_past T k vacant l in
    let b : placed (table_of m T) k ≡ vacant = get_or_past (table_of m T) k vacant (rw (length_each (step_of m) 0 T) l) in
    rw a b)
    (cases_lt k (length T))

pub quiet_keeps : (c : Circuit) → Keeps c (quiet c)
quiet_keeps c = search arith

-- the rules of a move keep what every rule keeps, where they are applied
abbrev pub Allowed : Move → List Circuit → Type 0
Allowed m T = (k : ℕ) → m.named k ≡ true → (placed T k).equipped ≡ true → Keeps (placed T k) (m.rule k (placed T k))

step_keeps : (m : Move) (T : List Circuit) → Allowed m T → (k : ℕ) → Keeps (placed T k) (step_of m k (placed T k))
step_keeps m T h k = ⊎_elim
    (λ (e : (placed T k).equipped ≡ true). ⊎_elim
    (λ (n : m.named k ≡ true). rw (acts m.named m.rule k (placed T k) n e) (h k n e))
    (λ (n : m.named k ≡ false). rw (unnamed m.named m.rule k (placed T k) n) (quiet_keeps (placed T k)))
    (cases_Bool (m.named k)))
    (λ (e : (placed T k).equipped ≡ false). rw (unequipped m.named m.rule k (placed T k) e) (quiet_keeps (placed T k)))
    (cases_Bool (placed T k).equipped)

-- ## The words of one circuit

-- one word more, if it is about the circuit
about_more : (b : Bool) (w : Word) (ws us vs : List Word) → ws ≡ us ++ vs → cond b (w ∷ ws) ws ≡ cond b (w ∷ us) us ++ vs
about_more true w ws us vs e = rw e refl
about_more false w ws us vs e = e

pub about-append : (n : ℕ) (xs ys : List Word) → about n (xs ++ ys) ≡ about n xs ++ about n ys
about-append n [] ys = refl
about-append n (Send p l ∷ xs) ys = about-append n xs ys
about-append n (Begun w c ∷ xs) ys = about_more (eqb c.0 n) (Begun w c) (about n (xs ++ ys)) (about n xs) (about n ys) (about-append n xs ys)
about-append n (Ended w c ∷ xs) ys = about_more (eqb c.0 n) (Ended w c) (about n (xs ++ ys)) (about n xs) (about n ys) (about-append n xs ys)
about-append n (Alert t c ∷ xs) ys = about-append n xs ys

about_own : (c : Cic) (n : ℕ) (d : Change) → c.0 ≡ n → about n (told_of c d) ≡ told_of c d
about_own c n d e = go d.ended d.begun
  where
    own : eqb c.0 n ≡ true
    own = eq-eqb c.0 n e

    go : (x : Option EndCause) (y : Option Direction) → about n (end_word c x ++ begin_word c y) ≡ end_word c x ++ begin_word c y
    go None None = refl
    go None (Some y) = rw own refl
    go (Some x) None = rw own refl
    go (Some x) (Some y) = rw own refl

about_other : (c : Cic) (n : ℕ) (d : Change) → c.0 ≢ n → about n (told_of c d) ≡ []
about_other c n d e = go d.ended d.begun
  where
    other : eqb c.0 n ≡ false
    other = ne_eqb c.0 n e

    go : (x : Option EndCause) (y : Option Direction) → about n (end_word c x ++ begin_word c y) ≡ []
    go None None = refl
    go None (Some y) = rw other refl
    go (Some x) None = rw other refl
    go (Some x) (Some y) = rw other refl

about_past : (t : Config) (f : Step) (n k : ℕ) (T : List Circuit) → n < t.first.0 + k → about n (told_from t f k T) ≡ []
about_past t f n k [] l = refl
about_past t f n k (c ∷ cs) l =
    about-append n (told_of (cic_at t k) (f k c)) (told_from t f (suc k) cs)
    ∙ rw (about_other (cic_at t k) n (f k c) (λ e. omega (arith, e)), about_past t f n (suc k) cs (omega arith)) refl

about_at : (t : Config) (f : Step) (k : ℕ) (T : List Circuit) (j : ℕ) → j < length T
    → about (t.first.0 + (k + j)) (told_from t f k T) ≡ told_of (cic_at t (k + j)) (f (k + j) (placed T j))
about_at t f k [] j l = absurd (omega arith)
about_at t f k (c ∷ cs) zero l =
    rw (add-zero k)
    (about-append (t.first.0 + k) (told_of (cic_at t k) (f k c)) (told_from t f (suc k) cs)
    ∙ rw (about_own (cic_at t k) (t.first.0 + k) (f k c) refl, about_past t f (t.first.0 + k) (suc k) cs (omega arith), append-nil (told_of (cic_at t k) (f k c))) refl)
about_at t f k (c ∷ cs) (suc j) l =
    let q : k + suc j ≡ suc k + j = omega arith in
    rw q
    (about-append (t.first.0 + (suc k + j)) (told_of (cic_at t k) (f k c)) (told_from t f (suc k) cs)
    ∙ rw (about_other (cic_at t k) (t.first.0 + (suc k + j)) (f k c) (λ e. omega (arith, e))) (about_at t f (suc k) cs j (omega arith)))

about_sends : (n at : ℕ) (ms : List Msg) → about n (sends_from at ms) ≡ []
about_sends n at [] = refl
about_sends n at (m ∷ ms) = about_sends n (at + length (encode m)) ms

about-alert : (n : ℕ) (a : Option (Timer × Cic)) → about n (alert_word a) ≡ []
about-alert n None = refl
about-alert n (Some x) = refl

pub about-words : (t : Config) (m : Move) (T : List Circuit) (k : ℕ) → k < length T
    → about (t.first.0 + k) (words_of t m T) ≡ told_of (cic_at t k) (step_of m k (placed T k))
about-words t m T k l =
    let n = t.first.0 + k in
    let z : 0 + k ≡ k = zero-add k in
    about-append n (call_words t m T) (sends_from 0 m.sent ++ alert_word m.alert)
    ∙ rw (about-append n (sends_from 0 m.sent) (alert_word m.alert), about_sends n 0 m.sent, about-alert n m.alert, append-nil (about n (call_words t m T)))
    (rw z at (about_at t (step_of m) 0 T k l))

-- ## The laws

kept-opens : (b c : Bool) → kept b b c ≡ c
kept-opens true true = refl
kept-opens true false = refl
kept-opens false true = refl
kept-opens false false = refl

set_at : (m : Move) (T : List Circuit) (H : List Bool) (k : ℕ) → k < length H
    → get_or (settled H T (table_of m T)) k false ≡ kept (get_or H k false) (is_open (placed T k)) (is_open (placed (table_of m T) k))
set_at m T H k l = settled_at_lem H T (table_of m T) k l (sym (length_each (step_of m) 0 T))

set-opens : (m : Move) (T : List Circuit) (H : List Bool) → length T ≤ length H → SetIsOpen T H → SetIsOpen (table_of m T) (settled H T (table_of m T))
set-opens m T H l h k = ⊎_elim
    (λ (b : k < length H). set_at m T H k b ∙ rw (h k) (kept-opens (is_open (placed T k)) (is_open (placed (table_of m T) k))))
    (λ (b : length H ≤ k).
    let a : placed (table_of m T) k ≡ vacant = get_or_past (table_of m T) k vacant (rw (length_each (step_of m) 0 T) (omega arith)) in
    get_or_past (settled H T (table_of m T)) k false (rw (length-settled H T (table_of m T)) b) ∙ rw a refl)
    (cases_lt k (length H))

pub lawful : (t : Config) (m : Move) (before : Lent)
    → length before.table ≤ length before.held
    → Allowed m before.table
    → Lawful t m before (carried t m before)
lawful t m before l h =
    let T = before.table in
    let keeps = step_keeps m T h in
    record {
      size = length_each (step_of m) 0 T;
      others = λ k n. table_at m T k ∙ ap (λ d. d.circuit) (unnamed m.named m.rule k (placed T k) n);
      unequipped = λ k e. table_at m T k ∙ ap (λ d. d.circuit) (unequipped m.named m.rule k (placed T k) e);
      named = λ k n e. table_at m T k ∙ ap (λ d. d.circuit) (acts m.named m.rule k (placed T k) n e);
      equipment = λ k. ap (λ c. c.equipped) (table_at m T k) ∙ (keeps k).equipped;
      sound = λ s k. ap is_sound (table_at m T k) ∙ (keeps k).sound (s k);
      set = set_at m T before.held;
      opens = set-opens m T before.held l;
      turns = λ k b. rw (about-words t m T k b, table_at m T k) ((keeps k).turns (cic_at t k));
    }

-- accepted, and the move was done
pub outcome_of : (t : Config) (answer : Lent → Result Move Refusal) (m : Move) (n : ℕ × ℕ) (before after : Lent)
    → length before.table ≤ length before.held
    → Allowed m before.table
    → answer before ≡ Ok m
    → Performed t m n before after
    → Outcome t answer (Ok n) before after
outcome_of t answer m n before after l h a p = record {
  done = rw a (ap Ok p.counts, p.carries);
  laws = rw (a, p.carries) (lawful t m before l h);
  within = p.within;
  few = p.few;
  read = rw a p.read;
}

-- refused, and all is as it was
pub outcome_refused : (t : Config) (answer : Lent → Result Move Refusal) (e : Refusal) (r : Result (ℕ × ℕ) Refusal) (before : Lent)
    → answer before ≡ Err e
    → r ≡ Err e
    → Outcome t answer r before before
outcome_refused t answer e r before a q = rw q (record { done = rw a (refl, refl); laws = rw a refl; within = tt; few = tt; read = rw a tt })

-- an answer that is another's at what is lent
pub outcome_as : (t : Config) (f g : Lent → Result Move Refusal) (r : Result (ℕ × ℕ) Refusal) (l l' : Lent) → f l ≡ g l → Outcome t g r l l' → Outcome t f r l l'
outcome_as t f g r l l' e o = record { done = rw e o.done; laws = rw e o.laws; within = o.within; few = o.few; read = rw e o.read }
