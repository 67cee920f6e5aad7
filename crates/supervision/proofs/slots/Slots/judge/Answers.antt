use Rattle.std.proofs.Common.{◌≡◌, Bool, true, false, not, ◌&&◌, ◌||◌, sym, refl, ◌∙◌, rules}
use Rattle.std.proofs.lemmas.Bool.{not-false, not-true, or_parts}
use Rattle.circuit.specs.Laws.{allows}
use Rattle.supervision.specs.Moves.{some_from}
use Rattle.supervision.specs.Steps.{named_by}
use Rattle.supervision.proofs.Some.{fails_one}
use Rattle.supervision.proofs.slots.Slots.judge.Goals as goal

pub returns-then-all : goal.returns-then-all
returns-then-all c =
    let T = c.args.table.now in
    let b = c.all.ensures (λ x. x.equipped && allows c.args.rule x) (λ x r q. search rules) in
    let none = sym (fails_one (named_by c.args.self) (λ x. x.equipped) (allows c.args.rule) T) ∙ not-true _ (sym b ∙ c.if-all.true) in
    let h = or_parts (some_from (λ k x. named_by c.args.self k && not x.equipped) 0 T) (some_from (λ k x. named_by c.args.self k && not (allows c.args.rule x)) 0 T) none in
    rw (h.0, h.1) refl

pub returns-then-not-all : goal.returns-then-not-all
returns-then-not-all c =
    let e = c.all-2.ensures (λ x. x.equipped) (λ x r q. search rules) in
    rw (not-false _ (sym e ∙ c.if-not-all.true)) refl

pub returns : goal.returns
returns c =
    let T = c.args.table.now in
    let b = c.all.ensures (λ x. x.equipped && allows c.args.rule x) (λ x r q. search rules) in
    let e = c.all-2.ensures (λ x. x.equipped) (λ x r q. search rules) in
    let some = sym (fails_one (named_by c.args.self) (λ x. x.equipped) (allows c.args.rule) T) ∙ not-false _ (sym b ∙ c.if-all.false) in
    let none = not-true _ (sym e ∙ c.if-not-all.false) in
    rw (none, other (some_from (λ k x. named_by c.args.self k && not x.equipped) 0 T) (some_from (λ k x. named_by c.args.self k && not (allows c.args.rule x)) 0 T) some none) refl
  where
    other : (a b : Bool) → (a || b) ≡ true → a ≡ false → b ≡ true
    other false b e n = e
    other true b e n = search rules
