-- A group order, by the status of its message.
use Rattle.std.proofs.Common.{◌≡◌, ℕ, ◌+◌, ◌*◌, ◌%◌, ◌<◌, Bool, true, false, not, ◌&&◌, eqb, leb, List, Ok, Result, sym, refl, subst, arith}
use Rattle.std.proofs.lemmas.Bool.{lt-leb, ne_eqb}
use Rattle.message.specs.Msg.{Msg}
use Rattle.circuit.specs.Laws.{allows}
use Rattle.circuit.specs.declared.record.Circuit.{Circuit}
use Rattle.circuit.specs.declared.rules.Rule.{Rule}
use Rattle.refusal.specs.declared.reasons.Refusal.{Refusal}
use Rattle.refusal.specs.declared.reasons.Refusal.TheVariants.{Address, State}
use Rattle.supervision.specs.declared.trunk.Config.{Config}
use Rattle.supervision.specs.Moves.{Move, some_from}
use Rattle.supervision.specs.Orders.{ordered, slots, status_of, groupwise}
use Rattle.refusal.specs.Refusals.{unless, and_then}
use Rattle.supervision.specs.Trunks.{covers}
use Rattle.supervision.proofs.Masks.{named-slots}

-- what the judge of named circuits answers
abbrev pub judged : (ℕ → Bool) → Rule → List Circuit → Result (Unit {0}) Refusal
judged named rule T =
    unless (some_from (λ k c. named k && not c.equipped) 0 T) Address
    (unless (some_from (λ k c. named k && not (allows rule c)) 0 T) State (Ok tt))

then_ordered : (a b : Bool) (m : Move) → unless a Address (unless b State (Ok m)) ≡ and_then {X = Unit {0}} (unless a Address (unless b State (Ok tt))) (λ _. Ok m)
then_ordered true b m = refl
then_ordered false true m = refl
then_ordered false false m = refl

pub group_answer : (t : Config) (system mask : ℕ) (rule : Rule) (msg : Msg) (T : List Circuit) (status : List ℕ) (a : Result (Unit {0}) Refusal)
    → system < t.systems
    → mask % 2 ≡ 0
    → status ≡ status_of mask
    → a ≡ judged (covers (system * 32 + 1) 30 status) rule T
    → groupwise t system mask rule msg T ≡ and_then a (λ _. Ok (ordered (covers (system * 32 + 1) 30 status) rule msg))
group_answer t system mask rule msg T status a l even s j =
    let here : leb t.systems system ≡ false = lt-leb t.systems system l in
    let zero : eqb (mask % 2) 1 ≡ false = ne_eqb (mask % 2) 1 (λ e. omega (arith, e)) in
    let names : covers (system * 32 + 1) 30 status ≡ slots system mask = rw s (named-slots system mask even) in
    rw (j, here, zero)
    (subst (λ (f : ℕ → Bool). unless (some_from (λ k c. slots system mask k && not c.equipped) 0 T) Address (unless (some_from (λ k c. slots system mask k && not (allows rule c)) 0 T) State (Ok (ordered (slots system mask) rule msg))) ≡ and_then {X = Unit {0}} (judged f rule T) (λ _. Ok (ordered f rule msg))) (sym names)
    (then_ordered (some_from (λ k c. slots system mask k && not c.equipped) 0 T) (some_from (λ k c. slots system mask k && not (allows rule c)) 0 T) (ordered (slots system mask) rule msg)))
