use Rattle.std.proofs.Common.{◌≡◌, ◌<◌, ◌≤◌, true, false, length, sym, refl, rules, ◌∙◌, ⊎_elim, arith}
use Rattle.std.proofs.lemmas.List.FromFn.{fill_by_all}
use Rattle.std.proofs.lemmas.List.{get_or_past}
use Rattle.std.proofs.lemmas.Bool.{cases_lt, lt-ltb, le-ltb}
use Rattle.circuit.specs.Circuits.{is_open, vacant}
use Rattle.supervision.specs.Trunks.{placed}
use Rattle.supervision.specs.Telling.{unopened}
use Rattle.std.proofs.lemmas.Grind.{common_steps}
use Rattle.supervision.proofs.Turning.{tells_same, offers_more, offers_all}
use Rattle.supervision.proofs.opening.offer_open.Goals as goal
use Rattle.supervision.proofs.opening.offer_open.Goals.{then-is_open, else-is_open}

pub returns-clause-set : goal.returns-clause-set
returns-clause-set g c =
    let T = c.args.table.now in
    let held = g.P.Policy.held c.loop-place.policy in
    let n = c.loop-place.place in
    fill_by_all (λ k. is_open (placed T k)) held g.P.Policy.PLACES false (g.met.P.Policy.sized c.loop-place.policy)
    (λ k h. c.loop-place.invariant.0 k ∙ ⊎_elim
    (λ (l : k < n). rw (lt-ltb k n l) refl)
    (λ (l : n ≤ k). rw (le-ltb k n l, get_or_past T k vacant (omega arith)) refl)
    (cases_lt k n))

pub loop-place-preserved : goal.loop-place-preserved
loop-place-preserved g c =
    let T = c.args.table.now in
    let n = c.loop-place.place in
    let size : length (g.P.Policy.held c.loop-place.policy) ≡ g.P.Policy.PLACES = g.met.P.Policy.sized c.loop-place.policy in
    let inside : n < length (g.P.Policy.held c.loop-place.policy) = omega (arith, size) in
    let more = offers_more g.P.Policy.obeys T n c.args.policy.now c.loop-place.policy c.if-is_open.policy c.loop-place-test.true c.loop-place.invariant.1 in
    elim c.if-is_open.branch [
      | then-is_open w ↦ (
        λ k. grind (arith, common_steps),
        let e : is_open (placed T n) ≡ true = sym c.is_open.ensures ∙ w.if-is_open.true in
            more (rw (e, w.policy-is) (w.offer.new.self, w.offer.ensures.obeys, refl)),
      )
      | else-is_open w ↦ (
        λ k. search rules,
        let e : is_open (placed T n) ≡ false = sym c.is_open.ensures ∙ w.if-is_open.false in
            more (rw (e, w.policy-is) refl),
      )
    ]

pub returns-clause-policy : goal.returns-clause-policy
returns-clause-policy g c = offers_all g.P.Policy.obeys c.args.table.now c.loop-place.place c.args.policy.now c.loop-place.policy c.loop-place-test.false c.loop-place.invariant.1

pub loop-place-init : goal.loop-place-init
loop-place-init g c = (λ k. search rules, tells_same g.P.Policy.obeys (unopened c.args.table.now) c.args.policy.now)
