use Rattle.std.proofs.Common.{refl, sym, ◌∙◌, rules, arith}
use Rattle.std.proofs.lemmas.Bool.{not-false, not-true}
use Rattle.supervision.proofs.Ranges.{in_place, is_spanned}
use Rattle.supervision.proofs.trunk.Trunk.span.Goals as goal

pub returns-then-not-all-clause-value : goal.returns-then-not-all-clause-value
returns-then-not-all-clause-value c =
    let t = c.args.self.config in
    let at = in_place t c.args.cic c.in-Some.first (c.in-Some.ensures) in
    let inside = is_spanned t c.args.cic.0 c.args.group.range.0 at.0 (omega (arith, at.1, c.places.ensures)) in
    let e = c.all.ensures (λ x. x.equipped) (λ x r q. search rules) in
    rw (inside, ← at.1, not-false _ (sym e ∙ c.if-not-all.true)) refl

pub returns-clause-value : goal.returns-clause-value
returns-clause-value c =
    let t = c.args.self.config in
    let at = in_place t c.args.cic c.in-Some.first (c.in-Some.ensures) in
    let inside = is_spanned t c.args.cic.0 c.args.group.range.0 at.0 (omega (arith, at.1, c.places.ensures)) in
    let e = c.all.ensures (λ x. x.equipped) (λ x r q. search rules) in
    rw (inside, ← at.1, not-true _ (sym e ∙ c.if-not-all.false)) refl
