use Rattle.std.proofs.Common.{◌≡◌, ℕ, false, ◌||◌, ltb, List, length, Ok, sym, refl, ◌∙◌, arith}
use Rattle.std.proofs.lemmas.Bool.Decides.{nat_tests}
use Rattle.std.proofs.lemmas.Result.{err_from_is_err_and}
use Rattle.circuit.specs.declared.rules.Rule.TheVariants.{Seize}
use Rattle.supervision.specs.declared.trunk.Config.{Config}
use Rattle.supervision.specs.Lending.{Lent, lent}
use Rattle.supervision.specs.Orders.{admitted}
use Rattle.supervision.specs.Seizing.{may_ask}
use Rattle.supervision.proofs.Choosing.{seizure_accepted, seizure_refused}
use Rattle.supervision.proofs.trunk.Trunk.seize.Goals as goal

may_seize : (t : Config) (room : ℕ) (body : List ℕ) (before : Lent) → Ok tt ≡ admitted t room before → (ltb (length body) 1 || ltb 256 (length body)) ≡ false → may_ask t room body before ≡ Ok tt
may_seize t room body before a size = rw (← a, size) refl

pub returns-in_err-place : goal.returns-in_err-place
returns-in_err-place g c =
    let t = c.args.self.config in
    let body = c.args.body.now in
    let T = c.args.table.now in
    let before = lent T (g.P.Policy.held c.args.policy.now) c.args.words.now c.args.octets.now in
    let may = may_seize t g.P.Policy.PLACES body before c.in_ok-admit.ensures.value (grind (arith, nat_tests, c.contains.ensures, c.if-not-contains.false)) in
    let v = c.pick.ensures.value in
    let p = err_from_is_err_and c.from_residual-in_err-place.result c.from_residual-in_err-place.ensures.1 in
    rw (may, c.pick.ensures.same)
    (seizure_refused g.P.Policy.picks g.P.Policy.obeys t body v.0 p.0 c.from_residual-in_err-place.result before c.args.policy.now c.pick.new.policy v.1 v.2
    (rw p.2 (sym c.in_err-place.was ∙ v.3)) p.1)

pub returns : goal.returns
returns g c =
    let t = c.args.self.config in
    let body = c.args.body.now in
    let before = lent c.args.table.now (g.P.Policy.held c.args.policy.now) c.args.words.now c.args.octets.now in
    let after = lent c.perform_at.new.table (g.P.Policy.held c.perform_at.new.policy) c.perform_at.new.words c.perform_at.new.octets in
    let may = may_seize t g.P.Policy.PLACES body before c.in_ok-admit.ensures.value (grind (arith, nat_tests, c.contains.ensures, c.if-not-contains.false)) in
    let v = c.in_ok-place.ensures.value in
    rw may
    (seizure_accepted g.P.Policy.picks g.P.Policy.obeys t body v.0 c.in_ok-place.place c.perform_at.result before after c.args.policy.now c.pick.new.policy c.perform_at.new.policy v.1 v.2 c.perform_at.ensures.policy v.3
    (rw (g.met.P.Policy.sized c.args.policy.now) c.in_ok-admit.ensures.enough.places)
    c.in_ok-place.ensures.found.1
    (rw (c.in_ok-place.ensures.same, c.cic_at-cic.ensures) at (c.perform_at.ensures.done Seize c.apply-change.ensures.value)))
