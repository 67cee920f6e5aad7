use Rattle.interworking.specs.declared.step.Side.TheVariants.{Near, Far}
use Rattle.interworking.proofs.Going.{led, agrees}
use Rattle.interworking.proofs.bench.Bench.step.Goals as goal

pub invariant_of-self : goal.invariant_of-self
invariant_of-self g c =
    let me = c.args.self.now in
    record { run = led Near c.args.step c.step.result me.near me.far c.step.new.self c.step.new.other c.step.ensures me.run }

pub invariant_of-self-in-Far : goal.invariant_of-self-in-Far
invariant_of-self-in-Far g c =
    let me = c.args.self.now in
    let s = c.step-in-Far in
    record { run = led Far c.args.step s.result me.near me.far s.new.other s.new.self s.ensures me.run }

pub returns-in-Near-clause-promised : goal.returns-in-Near-clause-promised
returns-in-Near-clause-promised g c =
    let me = c.args.self.now in
    agrees c.step.new.self c.step.new.other (led Near c.args.step c.step.result me.near me.far c.step.new.self c.step.new.other c.step.ensures me.run)

pub returns-in-Far-clause-promised : goal.returns-in-Far-clause-promised
returns-in-Far-clause-promised g c =
    let me = c.args.self.now in
    let s = c.step-in-Far in
    agrees s.new.other s.new.self (led Far c.args.step s.result me.near me.far s.new.other s.new.self s.ensures me.run)
