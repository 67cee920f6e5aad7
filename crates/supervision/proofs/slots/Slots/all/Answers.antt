use Rattle.std.proofs.Common.{◌≡◌, ◌+◌, sym, refl, ◌∙◌, arith}
use mir.Syntax.{w32}
use Rattle.std.specs.Int.{trailing_zeros}
use Rattle.std.proofs.lemmas.Bool.{and_right}
use Rattle.supervision.specs.Steps.{named_by}
use Rattle.supervision.specs.Trunks.{placed}
use Rattle.supervision.proofs.Passing.{pass_more, pass_quiet, pass_all, pass_not}
use Rattle.supervision.proofs.Touching.{named_inside}
use Rattle.supervision.proofs.Walking.{next_place, no_place, bits_left}
use Rattle.supervision.proofs.slots.Slots.all.Goals as goal

pub bounds-table-self : goal.bounds-table-self
bounds-table-self g c =
    let s = c.args.self in
    let i = c.loop-rest.invariant in
    let w = next_place (λ k. named_by s (s.first.0 + k)) c.named-bits.result c.loop-past.past c.loop-rest.n c.loop-rest.rest (omega arith) i.1 i.4 c.loop-rest-test.true c.named-bits.ensures in
    let inside = named_inside s (c.loop-rest.n + trailing_zeros w32 c.loop-rest.rest) w.1 in
    let size = c.requires.inside in
    omega (arith, inside, size)

pub returns-then-not-passes : goal.returns-then-not-passes
returns-then-not-passes g c = λ p h.
    let s = c.args.self in
    let T = c.args.table.now in
    let k = c.loop-rest.n + trailing_zeros w32 c.loop-rest.rest in
    let i = c.loop-rest.invariant in
    let w = next_place (λ k. named_by s (s.first.0 + k)) c.named-bits.result c.loop-past.past c.loop-rest.n c.loop-rest.rest (omega arith) i.1 i.4 c.loop-rest-test.true c.named-bits.ensures in
    let inside = named_inside s k w.1 in
    let size = c.requires.inside in
    let fails = sym (h (placed T (s.first.0 + k)) c.passes.result c.passes.ensures) ∙ c.if-not-passes.true in
    rw (pass_not s p T k (omega (arith, inside, size)) w.1 fails) refl

pub loop-rest-preserved : goal.loop-rest-preserved
loop-rest-preserved g c =
    let s = c.args.self in
    let T = c.args.table.now in
    let n = c.loop-rest.n in
    let k = n + trailing_zeros w32 c.loop-rest.rest in
    let i = c.loop-rest.invariant in
    let w = next_place (λ k. named_by s (s.first.0 + k)) c.named-bits.result c.loop-past.past n c.loop-rest.rest (omega arith) i.1 i.4 c.loop-rest-test.true c.named-bits.ensures in
    let inside = named_inside s k w.1 in (
      λ p h.
          pass_more s p T k (pass_quiet s p T n k (i.0 p h) w.2)
          (and_right (named_by s (s.first.0 + k)) _ (rw (sym (h (placed T (s.first.0 + k)) c.passes.result c.passes.ensures) ∙ c.if-not-passes.false) refl)),
      omega (arith, i.1),
      omega (arith, w.0),
      omega (arith, inside),
      bits_left c.named-bits.result c.loop-past.past n c.loop-rest.rest i.1 i.4,
    )

pub loop-past-preserved : goal.loop-past-preserved
loop-past-preserved g c =
    let s = c.args.self in
    let past = c.loop-past.past in
    let start = c.loop-past.invariant.1 (omega arith) in
    let i = c.loop-rest.invariant in
    let none = no_place (λ k. named_by s (s.first.0 + k)) c.named-bits.result past c.loop-rest.n i.1 (sym i.4 ∙ c.loop-rest-test.false) c.named-bits.ensures in (
      λ p h. pass_quiet s p c.args.table.now c.loop-rest.n c.min-past.result (i.0 p h) (λ j a b. none j a (omega (arith, b))),
      λ l. omega (arith, start, l),
      omega arith,
    )

pub returns : goal.returns
returns g c = λ p h.
    let s = c.args.self in
    let e : c.loop-past.past ≡ s.group.range.0 + 1 = omega arith in
    rw (pass_all s p c.args.table.now (rw e at (c.loop-past.invariant.0 p h))) refl
