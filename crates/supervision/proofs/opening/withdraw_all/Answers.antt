use Rattle.std.proofs.Common.{◌≡◌, ℕ, [], ◌∷◌, refl, zero-add, arith, subst}
use Rattle.std.proofs.lemmas.Grind.{common_steps}
use Rattle.std.proofs.lemmas.List.FromFn.{map-range_with_len_more}
use Rattle.policy.proofs.Updates.{follows_append}
use Rattle.policy.specs.Sets.{Follows}
use Rattle.policy.specs.declared.interface.Update.TheVariants.{Withdraw}
use Rattle.supervision.specs.Telling.{withdrawals}
use Rattle.supervision.proofs.opening.withdraw_all.Goals as goal

pub loop-place-preserved : goal.loop-place-preserved
loop-place-preserved g c =
    let n = c.loop-place.place in
    let word = λ (k : ℕ). Withdraw (record { 0 = k }) in (
      λ k l. grind (arith, common_steps),
      rw (map-range_with_len_more word 0 n n (zero-add n))
          (follows_append g.P.Policy.obeys (withdrawals n) (word n ∷ []) c.args.policy.now c.loop-place.policy c.withdraw.new.self
          c.loop-place.invariant.1 (c.withdraw.new.self, c.withdraw.ensures.obeys, refl)),
    )

pub returns-clause-policy : goal.returns-clause-policy
returns-clause-policy g c =
    let e : c.loop-place.place ≡ g.P.Policy.PLACES = omega (arith, c.PLACES-place-end.ensures) in
    subst (λ n. Follows g.P.Policy.obeys (withdrawals n) c.args.policy.now c.loop-place.policy) e c.loop-place.invariant.1
