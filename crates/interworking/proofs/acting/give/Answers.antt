use Rattle.std.proofs.Common.{None}
use Rattle.interworking.proofs.acting.give.Goals as goal
use Rattle.interworking.proofs.acting.give.Goals.{in-Order+in_ok-order-in-Order, in-Expire+in_ok-expire-in-Expire, in-Receive+in_ok-receive-in-Receive}

pub returns : goal.returns
returns g c =
    elim c.match-task.branch [
      | in-Order+in_ok-order-in-Order w ↦
          let o = w.in_ok-order-in-Order.ensures in
          rw (c.counts.ensures, w.exchange-is, w.in-Order.is) (record {
            performed = record { choice = o.ordered.choice; by_policy = o.ordered.by_policy; outcome = o.ordered.outcome };
            same = o.same;
          })
      | in-Expire+in_ok-expire-in-Expire w ↦
          let o = w.in_ok-expire-in-Expire.ensures in
          rw (c.counts.ensures, w.exchange-is, w.in-Expire.is) (record {
            performed = record { choice = None; by_policy = tt; outcome = o.outcome };
            same = o.same;
          })
      | in-Receive+in_ok-receive-in-Receive w ↦
          let o = w.in_ok-receive-in-Receive.ensures in
          rw (c.counts.ensures, w.exchange-is, w.in-Receive.is) (record {
            performed = record { choice = None; by_policy = tt; outcome = o.outcome };
            same = o.same;
          })
    ]
