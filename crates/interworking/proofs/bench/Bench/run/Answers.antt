use Rattle.interworking.proofs.Going.{agrees, ran_on}
use Rattle.interworking.proofs.bench.Bench.run.Goals as goal

pub loop-side-preserved : goal.loop-side-preserved
loop-side-preserved g c =
    let was = c.loop-side.self in
    let is = c.step.new.self in
    let me = c.args.self.now in
    record { done = ran_on c.args.steps.now c.loop-side.side-index _ c.step.result me.near me.far was.near was.far is.near is.far c.loop-side-test.true c.loop-side.invariant.done c.step.ensures.done }

pub returns-clause-promised : goal.returns-clause-promised
returns-clause-promised g c =
    let b = c.loop-side.self in
    agrees b.near b.far b.run
