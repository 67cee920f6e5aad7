use Rattle.std.proofs.Common.{None, rules}
use Rattle.message.specs.declared.kinds.BlockType.TheVariants.{Maintenance}
use Rattle.circuit.specs.declared.record.Reset.TheVariants as reset
use Rattle.circuit.specs.declared.rules.Rule.TheVariants.{Block, Unblock, Reset}
use Rattle.supervision.specs.Lending.{lent}
use Rattle.supervision.proofs.Asking.{seized}
use Rattle.supervision.proofs.trunk.Trunk.order.Goals as goal

pub returns-in-Seize : goal.returns-in-Seize
returns-in-Seize g c =
    let before = lent c.args.table.now (g.P.Policy.held c.args.policy.now) c.args.words.now c.args.octets.now in
    let after = lent c.seize.new.table (g.P.Policy.held c.seize.new.policy) c.seize.new.words c.seize.new.octets in
    let w = seized g.P.Policy.picks g.P.Policy.obeys c.args.self.config g.P.Policy.PLACES c.in-Seize.body.now c.seize.result before after c.args.policy.now c.seize.new.policy c.seize.ensures in
    rw c.in-Seize.is (record { choice = w.0; by_policy = w.1; outcome = w.2; told = w.3; fair = w.4; alone = tt })

pub returns-in-Block : goal.returns-in-Block
returns-in-Block g c =
    let h = c.order_single.ensures.outcome (Block Maintenance) (λ x p. search rules) in
    search (rules, h)

pub returns-in-Unblock : goal.returns-in-Unblock
returns-in-Unblock g c =
    let h = c.order_single-in-Unblock.ensures.outcome (Unblock Maintenance) (λ x p. search rules) in
    search (rules, h)

pub returns-in-Reset : goal.returns-in-Reset
returns-in-Reset g c =
    let h = c.order_single-in-Reset.ensures.outcome (Reset reset.Single) (λ x p. search rules) in
    search (rules, h)

pub returns-in-GroupBlock : goal.returns-in-GroupBlock
returns-in-GroupBlock g c =
    rw c.in-GroupBlock.is (record {
      choice = None;
      by_policy = tt;
      outcome = c.order_typed.ensures.outcome Block (λ why r p. search rules);
      told = c.order_typed.ensures.policy;
      fair = tt;
      alone = c.order_typed.ensures.group Block (λ why r p. search rules);
    })

pub returns-in-GroupUnblock : goal.returns-in-GroupUnblock
returns-in-GroupUnblock g c =
    rw c.in-GroupUnblock.is (record {
      choice = None;
      by_policy = tt;
      outcome = c.order_typed-in-GroupUnblock.ensures.outcome Unblock (λ why r p. search rules);
      told = c.order_typed-in-GroupUnblock.ensures.policy;
      fair = tt;
      alone = c.order_typed-in-GroupUnblock.ensures.group Unblock (λ why r p. search rules);
    })
