use Rattle.std.proofs.Common.{◌≡◌, Bool, false, List, length, get_or, take, ap, ◌∙◌, subst, arith}
use Rattle.std.proofs.lemmas.List.{take_all}
use Rattle.policy.specs.Sets.{Follows, after, updated}
use Rattle.policy.specs.declared.interface.Update.{Update}
use Rattle.policy.specs.declared.interface.Update.TheVariants.{Offer, Withdraw}
use Rattle.policy.proofs.Updates.{updated_next, follows_next, last_decides}
use Rattle.policy.proofs.interface.follow.Goals as goal
use Rattle.policy.proofs.interface.follow.Goals.{in-Offer, in-Withdraw}

pub loop-update-preserved : goal.loop-update-preserved
loop-update-preserved g c =
    let h = g.P.Policy.held c.args.policy.now in
    let obeys = g.P.Policy.obeys in
    let us = c.args.updates.now in
    let i = c.loop-update.update-index in
    let p = c.args.policy.now in
    let m = c.loop-update.policy in
    let first = Offer (record { 0 = 0 }) in
    elim c.match-update.branch [
      | in-Offer w ↦
          let update = Offer w.in-Offer.place in (
            ap g.P.Policy.held w.policy-is ∙ w.offer.ensures.set ∙ ap (updated update) c.loop-update.invariant.0
                ∙ updated_next us i first update h c.loop-update-test.true w.in-Offer.is,
            rw w.policy-is (follows_next obeys us i first update p m w.offer.new.self c.loop-update-test.true w.in-Offer.is c.loop-update.invariant.1 w.offer.ensures.obeys),
          )
      | in-Withdraw w ↦
          let update = Withdraw w.in-Withdraw.place in (
            ap g.P.Policy.held w.policy-is ∙ w.withdraw.ensures.set ∙ ap (updated update) c.loop-update.invariant.0
                ∙ updated_next us i first update h c.loop-update-test.true w.in-Withdraw.is,
            rw w.policy-is (follows_next obeys us i first update p m w.withdraw.new.self c.loop-update-test.true w.in-Withdraw.is c.loop-update.invariant.1 w.withdraw.ensures.obeys),
          )
    ]

pub returns : goal.returns
returns g c =
    let h = g.P.Policy.held c.args.policy.now in
    let e : take c.loop-update.update-index c.args.updates.now ≡ c.args.updates.now = take_all _ _ c.loop-update-test.false in
    let a : g.P.Policy.held c.loop-update.policy ≡ after c.args.updates.now h = c.loop-update.invariant.0 ∙ ap (λ (us : List Update). after us h) e in
    let z : length h ≡ g.P.Policy.PLACES = g.met.P.Policy.sized c.args.policy.now in
    record {
      all = a;
      obeys = subst (λ (us : List Update). Follows g.P.Policy.obeys us c.args.policy.now c.loop-update.policy) e c.loop-update.invariant.1;
      last = λ k l. ap (λ (m : List Bool). get_or m k false) a ∙ last_decides c.args.updates.now h k (omega (arith, z));
    }
