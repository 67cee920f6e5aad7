-- A step that is taken is a step of a run.
use Rattle.std.proofs.Common.{◌≡◌, ℕ, ◌+◌, ◌*◌, ◌<◌, ◌≤◌, Bool, true, not, ◌||◌, eqb, ltb, List, [], ◌∷◌, ◌++◌, map, length, replicate, take, get_or, Ok, Err, Result, ◌⊎◌, inl, inr, sym, refl, ap, ◌∙◌, subst, arith}
use Rattle.std.proofs.lemmas.Bool.{not-false}
use Rattle.std.proofs.lemmas.Bool.Decides.{nat_tests}
use Rattle.std.proofs.lemmas.List.{map-append, take_more}
use Rattle.std.proofs.Math.Logic.{∥∥₁_map}
use Rattle.status.specs.declared.cic.Cic.{Cic}
use Rattle.message.specs.declared.kinds.CallKind.{CallKind}
use Rattle.circuit.specs.declared.record.Circuit.{Circuit}
use Rattle.words.specs.Words.{number_of}
use Rattle.words.specs.declared.kinds.Word.{Word}
use Rattle.refusal.specs.declared.reasons.Refusal.{Refusal}
use Rattle.refusal.specs.declared.reasons.Refusal.TheVariants.{Argument, Address, Opening, Places}
use Rattle.supervision.specs.declared.trunk.Config.{Config}
use Rattle.supervision.specs.Answering.{answer}
use Rattle.supervision.specs.Expiring.{expiring}
use Rattle.supervision.specs.Lending.{Lent}
use Rattle.supervision.specs.Moves.{Move, words_of}
use Rattle.supervision.specs.Opening.{fits_trunk, opening}
use Rattle.supervision.specs.Ordering.{meant}
use Rattle.supervision.specs.Orders.{circuit_of}
use Rattle.supervision.specs.Receiving.{receiving}
use Rattle.supervision.proofs.Allowing.{past}
use Rattle.agreement.specs.Runs as runs
use Rattle.agreement.specs.Runs.{State, Reaches, trunk}
use Rattle.interworking.specs.Exchanges.{Exchange, Moved, lends, with_line}
use Rattle.agreement.proofs.Stated.{promised}
use Rattle.interworking.specs.Opening.{Fresh}
use Rattle.interworking.specs.Runs.{Reached, Agrees, state}
use Rattle.interworking.specs.Stepping.{Comes, Received, Called, Steps, Stepped, Ran, calling}
use Rattle.interworking.specs.declared.fault.Fault.{Fault}
use Rattle.interworking.specs.declared.fault.Fault.TheVariants.{Refused, Empty, Memory}
use Rattle.interworking.specs.declared.step.Side.{Side}
use Rattle.interworking.specs.declared.step.Side.TheVariants.{Near, Far}
use Rattle.interworking.specs.declared.step.Step.{Step}
use Rattle.interworking.specs.declared.step.Step.TheVariants.{Order, Expire, Receive, Call}

-- one exchange went a step, and the other's line may be another
record Went (x other : Exchange) (ws : List Word) (after other' : Exchange) : Type 0 where
  words : List Word
  told : after.told ≡ map number_of words
  config : after.config ≡ x.config
  other_is : other' ≡ with_line other'.line other
  step : runs.Steps x.config (state x ws) other.line (state after words) other'.line

-- by a move of the rules
by_move : (rules : Lent → Result Move Refusal) (n : ℕ) (x other : Exchange) (ws : List Word) (after other' : Exchange) → x.told ≡ map number_of ws → Moved rules n x after
    → other' ≡ with_line other'.line other
    → ((m : Move) → rules (lends x) ≡ Ok m → runs.Steps x.config (state x ws) other.line (runs.after_move x.config m (state x ws)) other'.line)
    → Went x other ws after other'
by_move rules n x other ws after other' told d o f =
    let more = words_of x.config d.move x.table in
    record {
      words = ws ++ more;
      told = ap (λ (y : Exchange). y.told) d.moved ∙ (ap (λ z. z ++ map number_of more) told ∙ sym (map-append number_of ws more));
      config = ap (λ (y : Exchange). y.config) d.moved;
      other_is = o;
      step = subst (λ (y : Exchange). runs.Steps x.config (state x ws) other.line (state y (ws ++ more)) other'.line) (sym d.moved) (f d.move d.answered);
    }

-- nothing is taken off
as_it_was : (x y : Exchange) → y ≡ x → y ≡ with_line y.line x
as_it_was x y e = rw e refl

-- an operation that leaves the other exchange as it was
goes : (rules : Lent → Result Move Refusal) (r : Result ℕ Fault) (x other : Exchange) (ws : List Word) (after other' : Exchange) → x.told ≡ map number_of ws → Comes rules r x after → other' ≡ other
    → ((m : Move) → rules (lends x) ≡ Ok m → runs.Steps x.config (state x ws) other.line (runs.after_move x.config m (state x ws)) other.line)
    → ((after ≡ x) × (other' ≡ other)) ⊎ Went x other ws after other'
goes rules (Ok n) x other ws after other' told h o f =
    inr (by_move rules n x other ws after other' told h (as_it_was other other' o)
    (λ m a. subst (λ (y : Exchange). runs.Steps x.config (state x ws) other.line (runs.after_move x.config m (state x ws)) y.line) (sym o) (f m a)))
goes rules (Err (Refused e)) x other ws after other' told h o f = inl (h.1, o)
goes rules (Err Empty) x other ws after other' told h o f = absurd h
goes rules (Err Memory) x other ws after other' told h o f = inl (h, o)

-- nothing is taken off where nothing is accepted
pub untaken : (other other' : Exchange) → other' ≡ with_line other'.line other → other'.line ≡ other.line → other' ≡ other
untaken other other' o l = o ∙ rw l refl

hears : (r : Result ℕ Fault) (x other : Exchange) (ws : List Word) (after other' : Exchange) → x.told ≡ map number_of ws → Received r x other.line after other'.line → other' ≡ with_line other'.line other
    → ((after ≡ x) × (other' ≡ other)) ⊎ Went x other ws after other'
hears (Ok n) x other ws after other' told h o =
    inr (by_move (receiving x.config (length x.held) h.0) n x other ws after other' told h.2 o
    (λ m a. subst (λ (l : List (List ℕ)). runs.Steps x.config (state x ws) l (runs.after_move x.config m (state x ws)) other'.line) (sym h.1)
    (runs.received (state x ws) other'.line (replicate 96 0) (replicate 320 0) h.0 m a)))
hears (Err (Refused e)) x other ws after other' told h o = inl (h.1, untaken other other' o h.2)
hears (Err Empty) x other ws after other' told h o = inl (h.1, untaken other other' o h.2)
hears (Err Memory) x other ws after other' told h o = inl (h.0, untaken other other' o h.1)

-- what a host needs to send a call message
may_call : (t : Config) (cic : Cic) (kind : CallKind) (body : List ℕ) (T : List Circuit) → calling t cic kind body T ≡ Ok tt
    → (runs.of_host kind ≡ true) × (1 ≤ length body) × ((circuit_of t cic T).equipped ≡ true)
may_call t cic kind body T e =
    let lawful = past (not (runs.of_host kind) || eqb (length body) 0) Argument _ tt e in
    let there = past (not (circuit_of t cic T).equipped) Address _ tt lawful.1 in
    (grind (arith, nat_tests, lawful.0), grind (arith, nat_tests, lawful.0), not-false (circuit_of t cic T).equipped there.0)

calls : (cic : Cic) (kind : CallKind) (body : List ℕ) (r : Result ℕ Fault) (x other : Exchange) (ws : List Word) (after other' : Exchange) → x.told ≡ map number_of ws → Called cic kind body r x after → other' ≡ other
    → ((after ≡ x) × (other' ≡ other)) ⊎ Went x other ws after other'
calls cic kind body (Ok n) x other ws after other' told h o =
    let may = may_call x.config cic kind body x.table h.0 in
    inr (record {
      words = ws;
      told = ap (λ (y : Exchange). y.told) h.2 ∙ told;
      config = ap (λ (y : Exchange). y.config) h.2;
      other_is = as_it_was other other' o;
      step = subst (λ (y : Exchange). runs.Steps x.config (state x ws) other.line (state after ws) y.line) (sym o)
          (subst (λ (y : Exchange). runs.Steps x.config (state x ws) other.line (state y ws) other.line) (sym h.2)
          (runs.called (state x ws) other.line cic.0 kind body may.0 may.1 may.2));
    })
calls cic kind body (Err (Refused e)) x other ws after other' told h o = inl (h.1, o)
calls cic kind body (Err Empty) x other ws after other' told h o = absurd h
calls cic kind body (Err Memory) x other ws after other' told h o = inl (h, o)

-- any step
takes : (step : Step) (r : Result ℕ Fault) (x other : Exchange) (ws : List Word) (after other' : Exchange) → x.told ≡ map number_of ws → Steps step r x other after other'
    → ((after ≡ x) × (other' ≡ other)) ⊎ Went x other ws after other'
takes (Order o) r x other ws after other' told h =
    goes (answer x.config (length x.held) (meant h.0.choice o)) r x other ws after other' told h.0.comes h.1
    (λ m a. runs.ordered (state x ws) other.line (replicate 96 0) (replicate 320 0) (meant h.0.choice o) m h.0.by_policy a)
takes (Expire timer at kind) r x other ws after other' told h =
    goes (expiring x.config (length x.held) timer at kind) r x other ws after other' told h.0 h.1
    (λ m a. runs.expired (state x ws) other.line (replicate 96 0) (replicate 320 0) timer at kind m a)
takes Receive r x other ws after other' told h = hears r x other ws after other' told h.0 h.1
takes (Call cic kind body) r x other ws after other' told h = calls cic kind body.now r x other ws after other' told h.0 h.1

-- a run goes on by it
near_went : (a b a' b' : Exchange) (n : Reached a b) → Went a b n.near_words a' b' → Reached a' b'
near_went a b a' b' n w =
    let far : Reaches a.config.first n.equipment a.config.higher (state a' w.words) (runs.with_line b'.line (state b n.far_words)) =
    runs.near (state a n.near_words) (state b n.far_words) (state a' w.words) b'.line n.run
    (subst (λ (c : Config). runs.Steps c (state a n.near_words) b.line (state a' w.words) b'.line) n.near_numbers w.step) in
    record {
      equipment = n.equipment;
      near_numbers = rw w.config n.near_numbers;
      far_numbers = rw w.config (ap (λ (y : Exchange). y.config) w.other_is ∙ n.far_numbers);
      near_words = w.words;
      far_words = n.far_words;
      near_told = w.told;
      far_told = ap (λ (y : Exchange). y.told) w.other_is ∙ n.far_told;
      run = rw w.config (subst (λ (y : Exchange). Reaches a.config.first n.equipment a.config.higher (state a' w.words) (state y n.far_words)) (sym w.other_is) far);
    }

far_went : (a b a' b' : Exchange) (n : Reached a b) → Went b a n.far_words b' a' → Reached a' b'
far_went a b a' b' n w =
    let here : a'.config ≡ a.config = ap (λ (y : Exchange). y.config) w.other_is in
    let far : Reaches a.config.first n.equipment a.config.higher (runs.with_line a'.line (state a n.near_words)) (state b' w.words) =
    runs.far (state a n.near_words) (state b n.far_words) (state b' w.words) a'.line n.run
    (subst (λ (c : Config). runs.Steps c (state b n.far_words) a.line (state b' w.words) a'.line) n.far_numbers w.step) in
    record {
      equipment = n.equipment;
      near_numbers = rw here n.near_numbers;
      far_numbers = rw here (w.config ∙ n.far_numbers);
      near_words = n.near_words;
      far_words = w.words;
      near_told = ap (λ (y : Exchange). y.told) w.other_is ∙ n.near_told;
      far_told = w.told;
      run = rw here (subst (λ (y : Exchange). Reaches a.config.first n.equipment a.config.higher (state y n.near_words) (state b' w.words)) (sym w.other_is) far);
    }

-- no step was taken
same_ends : (a b a' b' : Exchange) → a' ≡ a → b' ≡ b → Reached a b → Reached a' b'
same_ends a b a' b' p q n = subst (λ (y : Exchange). Reached y b') (sym p) (subst (λ (y : Exchange). Reached a y) (sym q) n)

pub reached : (side : Side) (step : Step) (r : Result ℕ Fault) (a b a' b' : Exchange) → Stepped side step r a b a' b' → Reached a b → Reached a' b'
reached Near step r a b a' b' h n = go (takes step r a b n.near_words a' b' n.near_told h)
  where
    go : ((a' ≡ a) × (b' ≡ b)) ⊎ Went a b n.near_words a' b' → Reached a' b'
    go (inl e) = same_ends a b a' b' e.0 e.1 n
    go (inr w) = near_went a b a' b' n w
reached Far step r a b a' b' h n = go (takes step r b a n.far_words b' a' n.far_told h)
  where
    go : ((b' ≡ b) × (a' ≡ a)) ⊎ Went b a n.far_words b' a' → Reached a' b'
    go (inl e) = same_ends a b a' b' e.1 e.0 n
    go (inr w) = far_went a b a' b' n w

-- where it is only known that some run led here
pub led : (side : Side) (step : Step) (r : Result ℕ Fault) (a b a' b' : Exchange) → Stepped side step r a b a' b' → ∥ Reached a b ∥₁ → ∥ Reached a' b' ∥₁
led side step r a b a' b' h n = ∥∥₁_map n (λ (x : Reached a b). reached side step r a b a' b' h x)

pub agrees : (a b : Exchange) → ∥ Reached a b ∥₁ → Agrees a b
agrees a b n =
    promised a.config b.config (state a []) (state b []) a.told b.told
    (∥∥₁_map n (λ (x : Reached a b). (x.equipment, x.near_numbers, x.far_numbers, x.near_words, x.far_words, x.near_told, x.far_told, x.run)))

-- ## Newly opened

as_fresh : (room : ℕ) (first : Cic) (ws : List ℕ) (h : Bool) (x : Exchange) → Fresh room first ws h x → state x [] ≡ runs.fresh_state room ws
as_fresh room first ws h x f = rw (f.table, f.held, f.line) refl

same_config : (t u : Config) → ◌≡◌ {A = Result Config Refusal} (Ok t) (Ok u) → t ≡ u
same_config t u e = cc

-- the numbers of what was opened
numbers_of : (room : ℕ) (first : Cic) (ws : List ℕ) (h : Bool) (t : Config) → opening room first ws h (length ws * 32) ≡ Ok t → t ≡ trunk first ws h
numbers_of room first ws h t e =
    let a = past (not (fits_trunk first.0 ws (length ws * 32))) Opening _ t e in
    let b = past (ltb room (length ws * 32)) Places (Ok (trunk first ws h)) t a.1 in
    sym (same_config (trunk first ws h) t b.1)

pub from_opening : (room room' : ℕ) (first : Cic) (ws : List ℕ) (h : Bool) (a b : Exchange) → Fresh room first ws h a → Fresh room' first ws (not h) b → Reached a b
from_opening room room' first ws h a b f g =
    let p = numbers_of room first ws h a.config f.accepted in
    let q = numbers_of room' first ws (not h) b.config g.accepted in
    let one : opening room first ws h (length ws * 32) ≡ Ok (trunk first ws h) = f.accepted ∙ ap Ok p in
    let two : opening room' first ws (not h) (length ws * 32) ≡ Ok (trunk first ws (not h)) = g.accepted ∙ ap Ok q in
    let start : Reaches first ws h (state a []) (state b []) =
    subst (λ x. Reaches first ws h x (state b [])) (sym (as_fresh room first ws h a f))
    (subst (λ x. Reaches first ws h (runs.fresh_state room ws) x) (sym (as_fresh room' first ws (not h) b g)) (runs.opened room room' one two)) in
    record {
      equipment = ws;
      near_numbers = rw p refl;
      far_numbers = rw (p, q) refl;
      near_words = [];
      far_words = [];
      near_told = f.told;
      far_told = g.told;
      run = rw p start;
    }

-- steps in a row, and one more
ran_more : (ss : List (Side × Step)) (s : Side × Step) (r : Result ℕ Fault) (a b x y x' y' : Exchange) → Ran ss a b x y → Stepped s.0 s.1 r x y x' y' → Ran (ss ++ s ∷ []) a b x' y'
ran_more [] s r a b x y x' y' e h = (r, x', y', subst (λ (z : Exchange). Stepped s.0 s.1 r z b x' y') e.0 (subst (λ (z : Exchange). Stepped s.0 s.1 r x z x' y') e.1 h), (refl, refl))
ran_more (z ∷ ss) s r a b x y x' y' e h = (e.0, e.1, e.2, e.3, ran_more ss s r e.1 e.2 x y x' y' e.4 h)

pub ran_on : (ss : List (Side × Step)) (i : ℕ) (d : Side × Step) (r : Result ℕ Fault) (a b x y x' y' : Exchange) → i < length ss → Ran (take i ss) a b x y
    → Stepped (get_or ss i d).0 (get_or ss i d).1 r x y x' y' → Ran (take (i + 1) ss) a b x' y'
ran_on ss i d r a b x y x' y' l e h =
    subst (λ (z : List (Side × Step)). Ran z a b x' y') (sym (take_more ss i d l)) (ran_more (take i ss) (get_or ss i d) r a b x y x' y' e h)
