use Rattle.std.proofs.Common.{◌≡◌, ℕ, ◌-◌, ◌/◌, List, [], ◌∷◌, ◌++◌, refl, ap, ◌∙◌, subst, append_assoc}
use Rattle.message.specs.Msg.{Msg, single, release_complete}
use Rattle.message.specs.declared.kinds.BlockType.TheVariants.{Hardware}
use Rattle.message.specs.declared.kinds.Grouped.TheVariants.{Cgb}
use Rattle.message.specs.declared.kinds.Single.TheVariants.{Rsc}
use Rattle.circuit.specs.Signals.{on_rsc}
use Rattle.circuit.specs.declared.signals.Signal.TheVariants as signal
use Rattle.circuit.proofs.Keeping.{rsc_keeps}
use Rattle.supervision.specs.Groups.{asking}
use Rattle.supervision.specs.Lending.{Lent, Performed, lent}
use Rattle.supervision.specs.Orders.{circuit_of, only}
use Rattle.supervision.specs.Receiving.{moving, ask_again, heard}
use Rattle.supervision.specs.Replies.{reply_to}
use Rattle.supervision.specs.Steps.{sending}
use Rattle.supervision.specs.Trunks.{placed}
use Rattle.supervision.proofs.Allowing.{at_place}
use Rattle.supervision.proofs.Finishing.{found}
use Rattle.supervision.proofs.Keeping.{outcome_of}
use Rattle.supervision.proofs.Resets.{asked_again}
use Rattle.supervision.proofs.trunk.Trunk.hear_reset.Goals as goal

pub returns-clause-outcome : goal.returns-clause-outcome
returns-clause-outcome g c =
    let t = c.args.self.config in
    let n = c.args.cic.0 in
    let T = c.args.table.now in
    let U = c.change_at-told.new.table in
    let H = g.P.Policy.held c.change_at-told.new.policy in
    let before = lent T (g.P.Policy.held c.args.policy.now) c.args.words.now c.args.octets.now in
    let after = lent U H c.send.new.words c.send.new.octets in
    let here = circuit_of t c.args.cic T in
    let v = found here.equipped c.in_ok-place.place (record { 0 = n - t.first.0 }) c.in_ok-place.ensures.value in
    let at : here ≡ placed T (n - t.first.0) = at_place t c.args.cic T v.0 in
    let act = λ (_ : ℕ). on_rsc in
    let first = moving (only t c.args.cic) act [] in
    let told = rw v.1 at (c.change_at-told.ensures.done on_rsc c.apply.ensures.value c.args.octets.now) in
    let replies = reply_to n signal.Rsc here in
    let answered : Performed t (sending replies first) c.reply-written.result before (lent U H c.reply-written.new.words c.reply-written.new.octets) =
    rw at (rw v.1 at (c.reply-written.ensures.sends t first before U H refl told)) in
    let mask = c.standing_mask-mask.result in
    let again = asking t Cgb Hardware (c.in_ok-place.place.0 / 32) mask in
    let done = c.send.ensures.sends t (sending again (sending replies first)) before U H refl
    (c.send_mask-written.ensures.sends t (sending replies first) before U H refl answered) in
    let same : again ≡ ask_again t n T = rw (v.1, c.standing_mask-mask.ensures, ← asked_again t n T c.in_ok-place.place.0 v.1) refl in
    let m = moving (only t c.args.cic) act (replies ++ (ask_again t n T ++ (release_complete n ∷ []))) in
    outcome_of t (λ (b : Lent). heard t (single n Rsc) b.table) m c.send.result before after
    (rw (g.met.P.Policy.sized c.args.policy.now) c.requires.enough.places)
    (λ k _ _. rsc_keeps (placed T k))
    (rw v.0 refl)
    (subst (λ (ms : List Msg). Performed t (moving (only t c.args.cic) act ms) c.send.result before after)
    (append_assoc replies again (release_complete n ∷ []) ∙ ap (λ (x : List Msg). replies ++ (x ++ release_complete n ∷ [])) same) done)
