-- What every message, and T5, may do to the circuits that it names.
use Rattle.std.proofs.Common.{◌≡◌, ℕ, ◌-◌, Bool, true, false, cond, not, ◌&&◌, List, [], Ok, Option, Result, subst}
use Rattle.status.specs.Bits.{is_named}
use Rattle.status.specs.declared.cic.Cic.{Cic}
use Rattle.message.specs.Msg.{Msg, single, release_complete, group_reset, group_reset_ack, grouped, release, call}
use Rattle.message.specs.declared.kinds.BlockType.TheVariants.{Maintenance}
use Rattle.message.specs.declared.kinds.CallKind.TheVariants.{Iam, Acm, Con, Anm, Cpg}
use Rattle.message.specs.declared.kinds.Grouped.TheVariants.{Cgb, Cgu, Cgba, Cgua}
use Rattle.message.specs.declared.kinds.Single.TheVariants.{Rsc, Blo, Ubl, Bla, Uba}
use Rattle.circuit.proofs.Keeping.{iam_keeps, progress_keeps, rel_keeps, rlc_keeps, far_block_keeps, far_unblock_keeps, block_ack_keeps, unblock_ack_keeps, rsc_keeps, grs_keeps, gra_keeps}
use Rattle.circuit.specs.Circuits.{is_releasing}
use Rattle.circuit.specs.Laws.{Keeps}
use Rattle.circuit.specs.Signals.{on_gra}
use Rattle.circuit.specs.declared.record.Circuit.{Circuit}
use Rattle.circuit.specs.declared.record.Reset.TheVariants as reset
use Rattle.circuit.specs.declared.rules.Change.{Change}
use Rattle.circuit.specs.declared.rules.Rule.TheVariants.{Reset}
use Rattle.words.specs.declared.kinds.Timer.{Timer}
use Rattle.words.specs.declared.kinds.Timer.TheVariants.{T5}
use Rattle.refusal.specs.declared.reasons.Refusal.{Refusal}
use Rattle.refusal.specs.declared.reasons.Refusal.TheVariants.{Address}
use Rattle.supervision.specs.declared.trunk.Config.{Config}
use Rattle.supervision.specs.Expiring.{repeating, alert_at, alerting, gives_up}
use Rattle.supervision.specs.Moves.{Move, some_from}
use Rattle.supervision.specs.Orders.{circuit_of, only, singly, why_of}
use Rattle.supervision.specs.Receiving.{as_cic, moving, nothing, to_one, is_range, in_range, marked, to_range, is_counted, heard}
use Rattle.refusal.specs.Refusals.{and_then}
use Rattle.supervision.specs.Trunks.{controls, placed}
use Rattle.supervision.proofs.Allowing.{past, same_move, and_ok, singly_allowed}
use Rattle.supervision.proofs.Keeping.{Allowed, quiet_keeps}

-- a move that changes nothing
pub nothing_allowed : (T : List Circuit) → Allowed nothing T
nothing_allowed T k n e = quiet_keeps (placed T k)

same_allowed : (x m : Move) (T : List Circuit) → ◌≡◌ {A = Result Move Refusal} (Ok x) (Ok m) → Allowed x T → Allowed m T
same_allowed x m T e h = subst (λ (y : Move). Allowed y T) (same_move x m e) h

one_allowed : (t : Config) (c : ℕ) (rule : Circuit → Change) (sent : List Msg) (T : List Circuit) (m : Move)
    → ((x : Circuit) → Keeps x (rule x)) → to_one t c rule (λ _. sent) T ≡ Ok m → Allowed m T
one_allowed t c rule sent T m h e =
    same_allowed (moving (only t (as_cic c)) (λ _. rule) sent) m T
    (past (not (circuit_of t (as_cic c) T).equipped) Address _ m e).1
    (λ k n q. h (placed T k))

range_allowed : (t : Config) (c r : ℕ) (s : List ℕ) (x : Move) (T : List Circuit) (m : Move) → Allowed x T → to_range t c r s x T ≡ Ok m → Allowed m T
range_allowed t c r s x T m h e =
    let inside = past (not (is_range t c r)) Address _ m e in
    same_allowed x m T (past (some_from (λ k y. marked t c r s k && not y.equipped) 0 T) Address _ m inside.1).1 h

choose_allowed : (b : Bool) (x y : Move) (T : List Circuit) → Allowed x T → Allowed y T → Allowed (cond b x y) T
choose_allowed true x y T h g = h
choose_allowed false x y T h g = g

pub heard_allowed : (t : Config) (msg : Msg) (T : List Circuit) (m : Move) → heard t msg T ≡ Ok m → Allowed m T
heard_allowed t (single c Blo) T m e = one_allowed t c _ _ T m (far_block_keeps Maintenance) e
heard_allowed t (single c Ubl) T m e = one_allowed t c _ _ T m (far_unblock_keeps Maintenance) e
heard_allowed t (single c Bla) T m e = one_allowed t c _ _ T m (block_ack_keeps Maintenance) e
heard_allowed t (single c Uba) T m e = one_allowed t c _ _ T m (unblock_ack_keeps Maintenance) e
heard_allowed t (single c Rsc) T m e = one_allowed t c _ _ T m rsc_keeps e
heard_allowed t (release_complete c) T m e = one_allowed t c _ _ T m rlc_keeps e
heard_allowed t (release c cause) T m e = one_allowed t c _ _ T m rel_keeps e
heard_allowed t (call c Iam body) T m e = one_allowed t c _ _ T m (iam_keeps (controls t (as_cic c))) e
heard_allowed t (call c Acm body) T m e = one_allowed t c _ _ T m progress_keeps e
heard_allowed t (call c Con body) T m e = one_allowed t c _ _ T m progress_keeps e
heard_allowed t (call c Anm body) T m e = one_allowed t c _ _ T m progress_keeps e
heard_allowed t (call c Cpg body) T m e = one_allowed t c _ _ T m progress_keeps e
heard_allowed t (grouped c Cgb i r s) T m e = range_allowed t c r s _ T m (λ k n q. far_block_keeps (why_of i) (placed T k)) e
heard_allowed t (grouped c Cgu i r s) T m e = range_allowed t c r s _ T m (λ k n q. far_unblock_keeps (why_of i) (placed T k)) e
heard_allowed t (grouped c Cgba i r s) T m e = range_allowed t c r s _ T m (λ k n q. block_ack_keeps (why_of i) (placed T k)) e
heard_allowed t (grouped c Cgua i r s) T m e = range_allowed t c r s _ T m (λ k n q. unblock_ack_keeps (why_of i) (placed T k)) e
heard_allowed t (group_reset c r) T m e = range_allowed t c r [] _ T m (λ k n q. grs_keeps (placed T k)) e
heard_allowed t (group_reset_ack c r s) T m e =
    range_allowed t c r s _ T m
    (choose_allowed (is_counted t c r) (moving (in_range t c r) (λ k. on_gra (is_named r s (k - (c - t.first.0)))) []) nothing T
    (λ k n q. gra_keeps (is_named r s (k - (c - t.first.0))) (placed T k)) (nothing_allowed T))
    e

-- messages repeated change no circuit
pub still : (sent : List Msg) (alert : Option (Timer × Cic)) (T : List Circuit) → Allowed (repeating sent alert) T
still sent alert T k n e = quiet_keeps (placed T k)

-- T5 resets a releasing circuit
pub given_up : (t : Config) (c : ℕ) (T : List Circuit) (m : Move) → gives_up t c T ≡ Ok m → Allowed m T
given_up t c T m e =
    go (is_releasing (circuit_of t (as_cic c) T).call)
    (past (not (circuit_of t (as_cic c) T).equipped) Address _ m e).1
  where
    go : (b : Bool) → cond b (and_then (singly t (as_cic c) (Reset reset.Single) (single c Rsc) T) (λ x. Ok (alerting (alert_at T5 c) x))) (Ok nothing) ≡ Ok m → Allowed m T
    go false h = same_allowed nothing m T h (nothing_allowed T)
    go true h =
        let x = and_ok (singly t (as_cic c) (Reset reset.Single) (single c Rsc) T) (λ x. Ok (alerting (alert_at T5 c) x)) m h in
        same_allowed (alerting (alert_at T5 c) x.0) m T x.2
        (singly_allowed t (as_cic c) (Reset reset.Single) (single c Rsc) T x.0 x.1)
