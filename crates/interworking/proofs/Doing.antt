-- What an operation leaves of an exchange, from what it wrote on what was lent.
use Rattle.std.proofs.Common.{◌≡◌, ℕ, ◌≤◌, Bool, List, ◌++◌, map, length, replicate, take, drop, None, Ok, Err, Option, Result, sym, refl, ap, ◌∙◌, subst, take_at, arith}
use Rattle.std.proofs.lemmas.List.{length-map, length-replicate}
use Rattle.std.specs.List.{sum}
use Rattle.circuit.specs.declared.record.Circuit.{Circuit}
use Rattle.words.specs.Words.{number_of}
use Rattle.refusal.specs.declared.reasons.Refusal.{Refusal}
use Rattle.policy.specs.declared.interface.Place.{Place}
use Rattle.supervision.proofs.Asking.{some_choice}
use Rattle.supervision.specs.declared.ordering.Order.TheVariants.{Seize, Release, Block, Unblock, Reset, GroupBlock, GroupUnblock, GroupReset}
use Rattle.supervision.specs.declared.trunk.Config.{Config}
use Rattle.supervision.specs.Laws.{Outcome, Laws}
use Rattle.supervision.specs.Lending.{Lent, Done, counts_of, lent, settled}
use Rattle.supervision.specs.Moves.{Move, table_of, words_of, octets_of}
use Rattle.interworking.specs.Acting.{Acted, Allowed, Performed, rules_of}
use Rattle.interworking.specs.declared.fault.Fault.TheVariants.{Memory, Refused}
use Rattle.interworking.specs.declared.step.Task.{Task}
use Rattle.interworking.specs.declared.step.Task.TheVariants.{Order, Expire, Receive}
use Rattle.interworking.specs.Exchanges.{Exchange, Moved, lends, after_move}
use Rattle.interworking.specs.Lines.{messages, sizes_in}
use Rattle.interworking.proofs.Sizes.{is_cut, is_whole}

-- what was written, of an accepted operation
record Wrote (t : Config) (answer : Result Move Refusal) (before after : Lent) (n : ℕ × ℕ) : Type 0 where
  move : Move
  answered : answer ≡ Ok move
  count : n.0 ≡ length (words_of t move before.table)
  words : take n.0 after.words ≡ map number_of (words_of t move before.table)
  octets : take n.1 after.octets ≡ octets_of move
  short : length (octets_of move) ≤ length before.octets
  table : after.table ≡ table_of move before.table
  held : after.held ≡ settled before.held before.table (table_of move before.table)
  size : length after.table ≡ length before.table

wrote : (t : Config) (rules : Lent → Result Move Refusal) (r : Result (ℕ × ℕ) Refusal) (before after : Lent) (n : ℕ × ℕ)
    → Outcome t rules r before after → r ≡ Ok n → Wrote t (rules before) before after n
wrote t rules r before after n o e = go (rules before) refl o.done o.laws
  where
    go : (a : Result Move Refusal) → rules before ≡ a → Done t a r before after → Laws t a before after → Wrote t (rules before) before after n
    go (Err f) q d l = let z : ◌≡◌ {A = ℕ} 0 1 = cc in absurd (omega arith)
    go (Ok m) q d l =
        let c : n ≡ counts_of t m before = cc in
        let ws = words_of t m before.table in
        let short : n.1 ≤ length before.octets = inside.1 in
        record {
          move = m;
          answered = q;
          count = ap (λ (p : ℕ × ℕ). p.0) c;
          words = ap (λ (y : Lent). take n.0 y.words) d.1 ∙ take_at (map number_of ws) (drop (length (map number_of ws)) before.words) n.0 (length-map ws number_of ∙ sym (ap (λ (p : ℕ × ℕ). p.0) c));
          octets = ap (λ (y : Lent). take n.1 y.octets) d.1 ∙ take_at (octets_of m) (drop (length (octets_of m)) before.octets) n.1 (sym (ap (λ (p : ℕ × ℕ). p.1) c));
          short = subst (λ k. k ≤ length before.octets) (ap (λ (p : ℕ × ℕ). p.1) c) short;
          table = ap (λ (y : Lent). y.table) d.1;
          held = ap (λ (y : Lent). y.held) d.1;
          size = l.size;
        }
      where
        inside : (n.0 ≤ length before.words) × (n.1 ≤ length before.octets)
        inside = rw e at o.within

same_exchange : (t t' : Config) (T T' : List Circuit) (h h' : List Bool) (w w' : List ℕ) (l l' : List (List ℕ)) → t ≡ t' → T ≡ T' → h ≡ h' → w ≡ w' → l ≡ l'
    → ◌≡◌ {A = Exchange} (record { config = t; table = T; held = h; told = w; line = l }) (record { config = t'; table = T'; held = h'; told = w'; line = l' })
same_exchange t t' T T' h h' w w' l l' p q r s u = rw (p, q, r, s, u) refl

-- an exchange after an operation: its table and its set are as the operation left them, and its words and its line grew by this
pub record Left (x : Exchange) (after : Lent) (words : List ℕ) (sent : List (List ℕ)) (y : Exchange) : Type 0 where
  pub config : y.config ≡ x.config
  pub table : y.table ≡ after.table
  pub held : y.held ≡ after.held
  pub told : y.told ≡ x.told ++ words
  pub line : y.line ≡ x.line ++ sent

short_of : (t : Config) (answered : Result Move Refusal) (x : Exchange) (after : Lent) (n : ℕ × ℕ) (w : Wrote t answered (lends x) after n) → length (octets_of w.move) ≤ 320
short_of t answered x after n w = let e : length {A = ℕ} (replicate 320 0) ≡ 320 = length-replicate {A = ℕ} 320 0 in let h = w.short in omega (arith, e, h)

-- accepted
moved : (rules : Lent → Result Move Refusal) (x : Exchange) (after : Lent) (n : ℕ × ℕ) (r : Result (ℕ × ℕ) Refusal) (y : Exchange)
    → Outcome x.config rules r (lends x) after → r ≡ Ok n
    → Left x after (take n.0 after.words) (messages (sizes_in (take n.0 after.words)) (take n.1 after.octets)) y
    → Moved rules n.0 x y
moved rules x after n r y o z l =
    let w = wrote x.config rules r (lends x) after n o z in
    let m = w.move in
    record {
      move = m;
      answered = w.answered;
      count = w.count;
      moved = same_exchange y.config x.config y.table (table_of m x.table) y.held (settled x.held x.table (table_of m x.table)) y.told (x.told ++ map number_of (words_of x.config m x.table)) y.line (after_move m x).line
          l.config (l.table ∙ w.table) (l.held ∙ w.held) (l.told ∙ ap (λ z. x.told ++ z) w.words)
          (l.line ∙ ap (λ z. x.line ++ z) (rw (w.words, w.octets) (is_cut x.config m x.table (short_of x.config (rules (lends x)) x after n w))));
    }

-- what was sent makes up the octets that were written
made_up : (rules : Lent → Result Move Refusal) (x : Exchange) (after : Lent) (n : ℕ × ℕ) (r : Result (ℕ × ℕ) Refusal)
    → Outcome x.config rules r (lends x) after → r ≡ Ok n → sum (sizes_in (take n.0 after.words)) ≡ length (take n.1 after.octets)
made_up rules x after n r o z =
    let w = wrote x.config rules r (lends x) after n o z in
    rw (w.words, w.octets) (is_whole x.config w.move x.table (short_of x.config (rules (lends x)) x after n w))

-- the table has as many places, whatever the operation came to
size_kept : (rules : Lent → Result Move Refusal) (x : Exchange) (after : Lent) (r : Result (ℕ × ℕ) Refusal) → Outcome x.config rules r (lends x) after → length after.table ≡ length x.table
size_kept rules x after r o = go (rules (lends x)) o.laws
  where
    go : (a : Result Move Refusal) → Laws x.config a (lends x) after → length after.table ≡ length x.table
    go (Err e) l = ap (λ (y : Lent). length y.table) l
    go (Ok m) l = l.size

-- refused
refused : (rules : Lent → Result Move Refusal) (x : Exchange) (after : Lent) (e : Refusal) (r : Result (ℕ × ℕ) Refusal) → Outcome x.config rules r (lends x) after → r ≡ Err e
    → (rules (lends x) ≡ Err e) × (after.table ≡ x.table) × (after.held ≡ x.held)
refused rules x after e r o q = go (rules (lends x)) refl o.done
  where
    go : (a : Result Move Refusal) → rules (lends x) ≡ a → Done x.config a r (lends x) after → (rules (lends x) ≡ Err e) × (after.table ≡ x.table) × (after.held ≡ x.held)
    go (Err f) p y = let z : f ≡ e = cc in (p ∙ ap Err z, ap (λ (l : Lent). l.table) y.1, ap (λ (l : Lent). l.held) y.1)
    go (Ok m) p y = let z : ◌≡◌ {A = ℕ} 0 1 = cc in absurd (omega arith)

-- some choice is always allowed
pub some_allowed : (held : List Bool) (task : Task) → (choice : Option Place) × Allowed held choice task
some_allowed held (Order (Seize body)) = some_choice held
some_allowed held (Order (Release cic location value)) = (None, tt)
some_allowed held (Order (Block cic)) = (None, tt)
some_allowed held (Order (Unblock cic)) = (None, tt)
some_allowed held (Order (Reset cic)) = (None, tt)
some_allowed held (Order (GroupBlock kind system mask)) = (None, tt)
some_allowed held (Order (GroupUnblock kind system mask)) = (None, tt)
some_allowed held (Order (GroupReset system)) = (None, tt)
some_allowed held (Expire timer at kind) = (None, tt)
some_allowed held (Receive octets) = (None, tt)

-- without memory nothing changes
pub wanting : (task : Task) (x : Exchange) → Acted task (Err Memory) x x
wanting task x = let c = some_allowed x.held task in record { choice = c.0; by_policy = c.1; comes = refl }

-- ## What was done on outputs of full size

-- on what an exchange lends: its table may come as another list of the same circuits
lent_is : (room : ℕ) (task : Task) (x : Exchange) (T : List Circuit) (r : Result (ℕ × ℕ) Refusal) (after : Lent) → T ≡ x.table → length x.held ≡ room
    → Performed x.config room task r (lent T x.held (replicate 96 0) (replicate 320 0)) after → Performed x.config (length x.held) task r (lends x) after
lent_is room task x T r after e s p =
    subst (λ k. Performed x.config k task r (lends x) after) (sym s)
    (subst (λ (z : List Circuit). Performed x.config room task r (lent z x.held (replicate 96 0) (replicate 320 0)) after) e p)

pub fills : (room : ℕ) (task : Task) (x : Exchange) (T : List Circuit) (r : Result (ℕ × ℕ) Refusal) (after : Lent) (n : ℕ × ℕ) → T ≡ x.table → length x.held ≡ room
    → Performed x.config room task r (lent T x.held (replicate 96 0) (replicate 320 0)) after → r ≡ Ok n
    → sum (sizes_in (take n.0 after.words)) ≡ length (take n.1 after.octets)
fills room task x T r after n e s p q =
    let o = (lent_is room task x T r after e s p) in
    made_up (rules_of x.config (length x.held) o.choice task) x after n r o.outcome q

pub same_size : (room : ℕ) (task : Task) (x : Exchange) (T : List Circuit) (r : Result (ℕ × ℕ) Refusal) (after : Lent) → T ≡ x.table → length x.held ≡ room
    → Performed x.config room task r (lent T x.held (replicate 96 0) (replicate 320 0)) after → length after.table ≡ length x.table
same_size room task x T r after e s p =
    let o = (lent_is room task x T r after e s p) in
    size_kept (rules_of x.config (length x.held) o.choice task) x after r o.outcome

pub accepts : (room : ℕ) (task : Task) (x y : Exchange) (T : List Circuit) (r : Result (ℕ × ℕ) Refusal) (after : Lent) (n : ℕ × ℕ) → T ≡ x.table → length x.held ≡ room
    → Performed x.config room task r (lent T x.held (replicate 96 0) (replicate 320 0)) after → r ≡ Ok n
    → Left x after (take n.0 after.words) (messages (sizes_in (take n.0 after.words)) (take n.1 after.octets)) y
    → Acted task (Ok n.0) x y
accepts room task x y T r after n e s p q l =
    let o = (lent_is room task x T r after e s p) in
    record { choice = o.choice; by_policy = o.by_policy; comes = moved (rules_of x.config (length x.held) o.choice task) x after n r y o.outcome q l }

pub refuses : (room : ℕ) (task : Task) (x y : Exchange) (T : List Circuit) (r : Result (ℕ × ℕ) Refusal) (after : Lent) (f : Refusal) → T ≡ x.table → length x.held ≡ room
    → Performed x.config room task r (lent T x.held (replicate 96 0) (replicate 320 0)) after → r ≡ Err f
    → y.config ≡ x.config → y.table ≡ after.table → y.held ≡ after.held → y.told ≡ x.told → y.line ≡ x.line
    → Acted task (Err (Refused f)) x y
refuses room task x y T r after f e s p q c t h w l =
    let o = (lent_is room task x T r after e s p) in
    let z = refused (rules_of x.config (length x.held) o.choice task) x after f r o.outcome q in
    record {
      choice = o.choice;
      by_policy = o.by_policy;
      comes = (z.0, same_exchange y.config x.config y.table x.table y.held x.held y.told x.told y.line x.line c (t ∙ z.1) (h ∙ z.2) w l);
    }
