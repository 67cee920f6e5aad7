use Rattle.std.proofs.Common.{◌≡◌, ℕ, ◌+◌, List, [], ◌∷◌, ◌++◌, not, ◌&&◌, take, sym, refl, ap, ◌∙◌, subst, Bool, arith, rules}
use Rattle.std.proofs.lemmas.List.{length-take-le}
use Rattle.status.specs.declared.group.Group.{Group}
use Rattle.message.specs.Msg.{Msg, group_reset, group_reset_ack}
use Rattle.message.specs.declared.kinds.BlockType.TheVariants.{Hardware}
use Rattle.message.specs.declared.kinds.Grouped.TheVariants.{Cgb}
use Rattle.circuit.specs.Circuits.{is_standing}
use Rattle.circuit.specs.Signals.{on_grs}
use Rattle.circuit.specs.declared.record.Circuit.{Circuit}
use Rattle.circuit.specs.declared.signals.Signal.TheVariants as signal
use Rattle.supervision.specs.declared.slots.Effect.TheVariants.{Every}
use Rattle.supervision.specs.declared.due.Condition.TheVariants.{Standing}
use Rattle.supervision.specs.Due.{is_due}
use Rattle.supervision.specs.Groups.{groups, status_by}
use Rattle.supervision.specs.Lending.{Lent, Performed, lent}
use Rattle.supervision.specs.Moves.{some_from, table_of}
use Rattle.supervision.specs.Orders.{circuit_of}
use Rattle.supervision.specs.Receiving.{as_cic, moving, is_range, in_range, marked, shows}
use Rattle.supervision.specs.Steps.{sending}
use Rattle.supervision.proofs.Ranges.{spans, range_outcome}
use Rattle.supervision.proofs.Resets.{reset_limits, spans_range, grs_groups, grs_status}
use Rattle.supervision.proofs.Writable.{own_reset_ack}
use Rattle.supervision.proofs.trunk.Trunk.hear_group_reset.Goals as goal

pub slice_bounds-bits-end : goal.slice_bounds-bits-end
slice_bounds-bits-end g c =
    let l = reset_limits c.args.cic.0 c.args.range.0 c.requires.allowed in
    omega (arith, l.2, c.status_octets.ensures)

pub slice_bounds-status-end : goal.slice_bounds-status-end
slice_bounds-status-end g c =
    let l = reset_limits c.args.cic.0 c.args.range.0 c.requires.allowed in
    sym (length-take-le c.status_octets.result c.to_le_bytes-bits.result (rw c.to_le_bytes-bits.ensures (omega (arith, l.2, c.status_octets.ensures))))

pub send-requires-clause-writable : goal.send-requires-clause-writable
send-requires-clause-writable g c =
    let l = reset_limits c.args.cic.0 c.args.range.0 c.requires.allowed in
    own_reset_ack c.args.cic.0 c.args.range.0 (take c.status_octets.result c.to_le_bytes-bits.result) l.0 l.1 l.2
    (length-take-le c.status_octets.result c.to_le_bytes-bits.result (rw c.to_le_bytes-bits.ensures (omega (arith, l.2, c.status_octets.ensures))) ∙ c.status_octets.ensures)

pub send-requires-clause-word : goal.send-requires-clause-word
send-requires-clause-word g c =
    let l = reset_limits c.args.cic.0 c.args.range.0 c.requires.allowed in
    let r : c.in_ok-slots.slots.group.range.0 ≡ c.args.range.0 = ap (λ (x : Group). x.range.0) c.in_ok-slots.ensures.group in
    omega (arith, l.2, r, c.sweep-told.ensures.few, c.send_groups-written.ensures.told, c.send_groups-written.ensures.words)

pub returns-clause-outcome : goal.returns-clause-outcome
returns-clause-outcome g c =
    let t = c.args.self.config in
    let n = c.args.cic.0 in
    let r = c.args.range.0 in
    let T = c.args.table.now in
    let U = c.sweep-told.new.table in
    let H = g.P.Policy.held c.sweep-told.new.policy in
    let s = c.in_ok-slots.slots in
    let before = lent T (g.P.Policy.held c.args.policy.now) c.args.words.now c.args.octets.now in
    let after = lent U H c.send.new.words c.send.new.octets in
    let limits = reset_limits n r c.requires.allowed in
    let at = c.in_ok-slots.ensures.first in
    let e : s.group.range.0 ≡ r = ap (λ (x : Group). x.range.0) c.in_ok-slots.ensures.group in
    let v = spans (is_range t n r) (some_from (λ k x. marked t n r [] k && not x.equipped) 0 T) s _ c.in_ok-slots.ensures.value in
    let act = λ (_ : ℕ). on_grs in
    let first = moving (in_range t n r) act [] in
    let swept = subst (λ (f : ℕ → Bool). Performed t (moving f act []) (c.sweep-told.result, 0) before (lent U H c.sweep-told.new.words c.args.octets.now)) (spans_range t n r s at e)
    (c.sweep-told.ensures.done (Every signal.Grs) (λ x p. search rules) c.args.octets.now) in
    let table : U ≡ table_of first T = ap (λ (l : Lent). l.table) swept.carries in
    let asked = groups t Cgb Hardware (is_due (record { slots = s; effect = Every signal.Grs; condition = Standing Hardware })) U in
    let status = take c.status_octets.result c.to_le_bytes-bits.result in
    let q = λ (j : ℕ). shows (circuit_of t (as_cic (n + j)) T) in
    let shown : status ≡ status_by q r =
    rw (c.status_octets.ensures, c.to_le_bytes-bits.ensures) (grs_status t n r s T U c.bits.result at e table c.in_ok-slots.ensures.inside.0 limits.2 c.bits.ensures) in
    let again = λ (k : ℕ) (x : Circuit). x.equipped && (in_range t n r k && is_standing x.local.hardware) in
    let done = c.send.ensures.sends t (sending asked first) before U H refl (c.send_groups-written.ensures.sends t first before U H refl swept) in
    range_outcome t (group_reset n r) n r [] (moving (in_range t n r) act (groups t Cgb Hardware again T ++ (group_reset_ack n r (status_by q r) ∷ []))) c.send.result before after refl v.0 v.1
    (rw (g.met.P.Policy.sized c.args.policy.now) c.requires.enough.places)
    (subst (λ (ms : List Msg). Performed t (moving (in_range t n r) act ms) c.send.result before after)
    (ap (λ (x : List Msg). x ++ group_reset_ack n r status ∷ []) (grs_groups t n r s T U at e table)
    ∙ ap (λ (x : List ℕ). groups t Cgb Hardware again T ++ group_reset_ack n r x ∷ []) shown) done)
