-- What an expiry promises: nothing is done where nothing is waited for, else the message is sent once more.
use Rattle.std.proofs.Common.{◌≡◌, ℕ, ◌≤◌, Bool, true, false, List, [], ◌∷◌, length, Some, Ok, Option, Result, refl}
use Rattle.status.specs.declared.cic.Cic.{Cic}
use Rattle.message.specs.Msg.{Msg}
use Rattle.circuit.specs.declared.record.Circuit.{Circuit}
use Rattle.words.specs.Words.{timer_of}
use Rattle.words.specs.declared.kinds.Timer.{Timer}
use Rattle.refusal.specs.declared.reasons.Refusal.{Refusal}
use Rattle.supervision.specs.declared.trunk.Config.{Config}
use Rattle.supervision.specs.Expiring.{expired, expiring, repeating, repeats_one}
use Rattle.supervision.specs.Laws.{Outcome}
use Rattle.supervision.specs.Lending.{Lent, Performed}
use Rattle.supervision.specs.Moves.{Move}
use Rattle.supervision.specs.Orders.{admitted, circuit_of}
use Rattle.supervision.specs.Receiving.{as_cic, nothing}
use Rattle.supervision.proofs.Extending.{nothing_done}
use Rattle.supervision.proofs.Hearing.{still, nothing_allowed}
use Rattle.supervision.proofs.Keeping.{outcome_of}

-- nothing is waited for
pub outcome_nothing : (t : Config) (answer : Lent → Result Move Refusal) (l : Lent) → length l.table ≤ length l.held → answer l ≡ Ok nothing → Outcome t answer (Ok (0, 0)) l l
outcome_nothing t answer l h e = outcome_of t answer nothing (0, 0) l l h (nothing_allowed l.table) e (nothing_done t l)

-- messages were sent once more
pub outcome_repeated : (t : Config) (answer : Lent → Result Move Refusal) (sent : List Msg) (alert : Option (Timer × Cic)) (n : ℕ × ℕ) (l l' : Lent)
    → length l.table ≤ length l.held → answer l ≡ Ok (repeating sent alert) → Performed t (repeating sent alert) n l l' → Outcome t answer (Ok n) l l'
outcome_repeated t answer sent alert n l l' h e p = outcome_of t answer (repeating sent alert) n l l' h (still sent alert l.table) e p

-- of one circuit
pub one_nothing : (t : Config) (c : ℕ) (waits : Circuit → Bool) (message : Circuit → Msg) (alert : Option (Timer × Cic)) (l : Lent)
    → length l.table ≤ length l.held
    → (circuit_of t (as_cic c) l.table).equipped ≡ true
    → waits (circuit_of t (as_cic c) l.table) ≡ false
    → Outcome t (λ (b : Lent). repeats_one t c waits message alert b.table) (Ok (0, 0)) l l
one_nothing t c waits message alert l h q w = outcome_nothing t (λ (b : Lent). repeats_one t c waits message alert b.table) l h (rw (q, w) refl)

pub one_repeated : (t : Config) (c : ℕ) (waits : Circuit → Bool) (message : Circuit → Msg) (alert : Option (Timer × Cic)) (n : ℕ × ℕ) (l l' : Lent)
    → length l.table ≤ length l.held
    → (circuit_of t (as_cic c) l.table).equipped ≡ true
    → waits (circuit_of t (as_cic c) l.table) ≡ true
    → Performed t (repeating (message (circuit_of t (as_cic c) l.table) ∷ []) alert) n l l'
    → Outcome t (λ (b : Lent). repeats_one t c waits message alert b.table) (Ok n) l l'
one_repeated t c waits message alert n l l' h q w p =
    outcome_repeated t (λ (b : Lent). repeats_one t c waits message alert b.table) (message (circuit_of t (as_cic c) l.table) ∷ []) alert n l l' h (rw (q, w) refl) p

-- an expiry after the tests that every operation makes
pub expiring_at : (t : Config) (room timer : ℕ) (x : Timer) (at kind : ℕ) (l : Lent) → Ok tt ≡ admitted t room l → Some x ≡ timer_of timer
    → expiring t room timer at kind l ≡ expired t x at kind l.table
expiring_at t room timer x at kind l a e = rw (← a, ← e) refl
