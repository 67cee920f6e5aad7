use Rattle.std.proofs.Common.{◌≡◌, subst, arith}
use Rattle.std.proofs.lemmas.List.{nil_from_length}
use Rattle.std.proofs.lemmas.Result.{err_from_is_err_and}
use Rattle.interworking.specs.Settling.{Receives, none, one_more}
use Rattle.interworking.specs.Stepping.{Stepped}
use Rattle.interworking.specs.declared.step.Step.TheVariants.{Receive}
use Rattle.interworking.proofs.Emptying.{bounded, only_memory}
use Rattle.interworking.proofs.Going.{agrees}
use Rattle.interworking.proofs.bench.Bench.settle.Goals as goal

pub loop-count-init : goal.loop-count-init
loop-count-init g c = record { received = none }

pub returns-in_default-clause-promised : goal.returns-in_default-clause-promised
returns-in_default-clause-promised g c = let b = c.loop-count.self in agrees b.near b.far b.run

pub returns-in_err-step-clause-settled : goal.returns-in_err-step-clause-settled
returns-in_err-step-clause-settled g c =
    let me = c.args.self.now in
    let was = c.loop-count.self in
    let is = c.step.new.self in
    let f = c.in_err-step.field-0.0 in
    let p = err_from_is_err_and c.from_residual.result c.from_residual.ensures.1 in
    let long = c.in-Some.ensures in
    let w = only_memory c.in-Some.side f was.near was.far is.near is.far (agrees was.near was.far was.run) long c.in_err-step.ensures.done in
    rw (p.1, p.2, w.1, w.2) (w.0, (c.loop-count.count, c.loop-count.invariant.received))

pub loop-count-preserved : goal.loop-count-preserved
loop-count-preserved g c =
    let me = c.args.self.now in
    let was = c.loop-count.self in
    let is = c.step.new.self in
    let done = subst (λ r. Stepped c.in-Some.side Receive r was.near was.far is.near is.far) c.in_ok-step.was c.step.ensures.done in
    record { received = one_more c.loop-count.count c.in_ok-step.field-0 c.in-Some.side was.near was.far is.near is.far c.loop-count.invariant.received done }

pub returns-clause-settled : goal.returns-clause-settled
returns-clause-settled g c =
    let me = c.args.self.now in
    let b = c.loop-count.self in
    let most = c.most_receives-most.ensures in
    let all : c.loop-count.count ≡ c.most_receives-most.result = omega (arith, c.loop-count-test.false, c.loop-count.auto.count-end) in
    let few = bounded me.near me.far b.near b.far c.loop-count.count me.run c.loop-count.invariant.received in (
      subst (λ n. Receives me.near me.far n b.near b.far) all c.loop-count.invariant.received,
      omega (arith, most),
      nil_from_length b.near.line (omega (arith, few, most, all)),
      nil_from_length b.far.line (omega (arith, few, most, all)),
    )

pub returns-clause-promised : goal.returns-clause-promised
returns-clause-promised g c = let b = c.loop-count.self in agrees b.near b.far b.run
