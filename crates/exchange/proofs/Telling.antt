-- What an accepted operation tells, from what it promises of its outputs.
use Rattle.std.proofs.Common.{◌≡◌, ℕ, ◌+◌, ◌*◌, ◌≤◌, Bool, List, ◌++◌, map, take, length, Ok, Err, Result, refl, ap, arith}
use Rattle.std.proofs.Math.Seq.{take-append_seam}
use Rattle.std.proofs.lemmas.List.{length-map}
use Rattle.refusal.specs.declared.reasons.Refusal.{Refusal}
use Rattle.refusal.specs.Refusals.{and_then}
use Rattle.words.specs.Words.{number_of}
use Rattle.supervision.specs.Answering.{Order, answer, seize, release, block, unblock, reset, group_block, group_unblock, group_reset}
use Rattle.supervision.specs.declared.trunk.Config.{Config}
use Rattle.supervision.specs.Lending.{Lent, Done, counts_of}
use Rattle.supervision.specs.Moves.{Move, words_of, octets_of}
use Rattle.supervision.specs.Orders.{admitted}
use Rattle.supervision.specs.Seizing.{may_ask}
use Rattle.supervision.proofs.Allowing.{and_ok}
use Rattle.exchange.specs.declared.exchange.Exchange.{Exchange}
use Rattle.exchange.specs.Does.{IsTold}
use Rattle.exchange.specs.Exchange.{lends}
use Rattle.exchange.proofs.Alerting.{Fits, admitted_size}
use Rattle.exchange.proofs.Saying.{move_read}

-- of an accepted operation the table has its size
pub tested_size : (t : Config) (room : ℕ) (l : Lent) (f : Unit {0} → Result Move Refusal) (m : Move) → and_then (admitted t room l) f ≡ Ok m → length l.table ≡ t.systems * 32
tested_size t room l f m h = let a = and_ok (admitted t room l) f m h in admitted_size t room l a.0 a.1

pub order_size : (t : Config) (room : ℕ) (o : Order) (l : Lent) (m : Move) → answer t room o l ≡ Ok m → length l.table ≡ t.systems * 32
order_size t room (seize body choice) l m h =
    let p = and_ok (may_ask t room body l) _ m h in
    let a = and_ok (admitted t room l) _ p.0 p.1 in
    admitted_size t room l a.0 a.1
order_size t room (release cic location value) l m h = tested_size t room l _ m h
order_size t room (block cic) l m h = tested_size t room l _ m h
order_size t room (unblock cic) l m h = tested_size t room l _ m h
order_size t room (reset cic) l m h = tested_size t room l _ m h
order_size t room (group_block kind system mask) l m h = tested_size t room l _ m h
order_size t room (group_unblock kind system mask) l m h = tested_size t room l _ m h
order_size t room (group_reset system) l m h = tested_size t room l _ m h

front : {A : Type 0} (n : ℕ) (xs ys : List A) → length xs ≡ n → take n (xs ++ ys) ≡ xs
front n xs ys e = rw (← e) (take-append_seam xs ys)

abbrev count : Result (ℕ × ℕ) Refusal → ℕ × ℕ
count (Ok n) = n
count (Err e) = (0, 0)

pub is_told : {P : Type 0} (held : P → List Bool) (a : Result Move Refusal) (old new : Exchange P)
    → Done old.trunk.config a (Ok (new.told, new.sent)) (lends held old) (lends held new)
    → new.sent ≤ 320
    → old.trunk.config.first.0 + old.trunk.config.systems * 32 ≤ 4096
    → ((m : Move) → a ≡ Ok m → length old.table.now ≡ old.trunk.config.systems * 32)
    → Fits a
    → IsTold a old new
is_told held (Err e) old new d small cics size fits = grind (arith, d.0)
is_told held (Ok m) old new d small cics size fits =
    let t = old.trunk.config in
    let T = old.table.now in
    let e : ◌≡◌ {A = ℕ × ℕ} (new.told, new.sent) (counts_of t m (lends held old)) = ap count d.0 in
    let told : new.told ≡ length (words_of t m T) = ap (λ (n : ℕ × ℕ). n.0) e in
    let sent : new.sent ≡ length (octets_of m) = ap (λ (n : ℕ × ℕ). n.1) e in
    let words : new.words.now ≡ _ = ap (λ (l : Lent). l.words) d.1 in
    let octets : new.octets.now ≡ _ = ap (λ (l : Lent). l.octets) d.1 in
    let w : take new.told new.words.now ≡ map number_of (words_of t m T) = rw (told, words) (front _ _ _ (length-map (words_of t m T) number_of)) in
    let o : take new.sent new.octets.now ≡ octets_of m = rw (sent, octets) (front _ _ _ refl) in
    let sized = size m refl in
    record {
      words = w;
      octets = o;
      events = rw (w, o) (move_read t m T (omega (arith, small, sent)) (fits.fits m refl) (omega (arith, sized, cics)));
    }

-- refused, it tells nothing new
pub not_told : {P : Type 0} (held : P → List Bool) (a : Result Move Refusal) (e : Refusal) (old new : Exchange P)
    → Done old.trunk.config a (Err e) (lends held old) (lends held new) → new.told ≡ old.told → new.sent ≡ old.sent → IsTold a old new
not_told held (Ok m) e old new d told sent = grind (arith, d.0)
not_told held (Err f) e old new d told sent =
    let words : new.words.now ≡ old.words.now = ap (λ (l : Lent). l.words) d.1 in
    let octets : new.octets.now ≡ old.octets.now = ap (λ (l : Lent). l.octets) d.1 in
    (rw (told, words) refl, rw (sent, octets) refl)
