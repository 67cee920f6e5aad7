-- The laws of one circuit, shown of every accepted operation.
use Rattle.std.proofs.Common.{◌≡◌, ℕ, ◌+◌, true, Ok, sym, ap, ◌∙◌, subst}
use Rattle.circuit.specs.Laws.{told_of}
use Rattle.circuit.specs.declared.record.Circuit.{Circuit}
use Rattle.circuit.specs.declared.rules.Change.{Change}
use Rattle.supervision.specs.Lending.{Lent}
use Rattle.supervision.specs.Moves.{Move, table_of}
use Rattle.supervision.specs.Trunks.{cic_at, placed}
use Rattle.supervision.specs.declared.trunk.Config.{Config}
use Rattle.supervision.proofs.Naming.{unequipped}
use Rattle.supervision.proofs.Keeping.{table_at, about-words}
use Rattle.laws.specs.Blocks.{BlocksMove, AllBlocksMove}
use Rattle.laws.specs.Calls.{CallsLive, CausesKept, UnequippedStay, is_ours}
use Rattle.laws.specs.Events.{Operation, answered, event}
use Rattle.laws.specs.Octets.{SendsCut}
use Rattle.supervision.proofs.Cutting.{cuts_back, is_gapless}
use Rattle.message.proofs.RoundTrip.{written_back}
use Rattle.laws.proofs.Block.{blocks}
use Rattle.laws.proofs.Call.{lives}
use Rattle.laws.proofs.Effect.{effect}
use Rattle.laws.proofs.Kept.{keeps}
use Rattle.laws.proofs.Meeting.{met, inside}

-- the circuit at a place afterwards is what the event makes of it
pub after : (t : Config) (room : ℕ) (o : Operation) (l : Lent) (m : Move) → answered t room o l ≡ Ok m → (k : ℕ) → (placed l.table k).equipped ≡ true
    → placed (table_of m l.table) k ≡ (effect (is_ours t.higher (t.first.0 + k)) (event t.first.0 o k) (placed l.table k)).circuit
after t room o l m h k q = table_at m l.table k ∙ ap (λ (d : Change). d.circuit) (met t room o l m h k q).did

pub calls_live : CallsLive
calls_live t room o l m h k q =
    let w = met t room o l m h k q in
    let ours = is_ours t.higher (t.first.0 + k) in
    let told = about-words t m l.table k (inside l.table k q) ∙ ap (told_of (cic_at t k)) w.did in
    rw (told, after t room o l m h k q) (lives ours (cic_at t k) (event t.first.0 o k) (placed l.table k) w.fit)

pub causes_kept : CausesKept
causes_kept t room o l m h k q = rw (after t room o l m h k q) (keeps (is_ours t.higher (t.first.0 + k)) (event t.first.0 o k) (placed l.table k))

pub blocks_move : AllBlocksMove
blocks_move t room o l m h k q =
    let ours = is_ours t.higher (t.first.0 + k) in
    subst (λ (d : Circuit). BlocksMove ours (event t.first.0 o k) (placed l.table k) d) (sym (after t room o l m h k q))
    (blocks ours (event t.first.0 o k) (placed l.table k) (met t room o l m h k q).fit)

pub sends_cut : SendsCut
sends_cut t m table l = record { cuts = cuts_back t m table l; gapless = is_gapless t m table l; read = written_back }

pub unequipped_stay : UnequippedStay
unequipped_stay t m table k q =
    let still = unequipped m.named m.rule k (placed table k) q in (
      table_at m table k ∙ ap (λ (d : Change). d.circuit) still,
      λ l. about-words t m table k l ∙ ap (told_of (cic_at t k)) still,
    )
