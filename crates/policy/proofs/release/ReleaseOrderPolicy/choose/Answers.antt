use Rattle.std.proofs.Common.{refl}
use Rattle.policy.proofs.Keeping.{member_of}
use Rattle.policy.proofs.release.ReleaseOrderPolicy.choose.Goals as goal

pub returns : goal.returns
returns c =
    let me = c.args.self.now in
    record {
      member = member_of me.even me.links.links c.choose.result me.ok.1 (c.choose.ensures me.even);
      picks = record { turn = c.choose.ensures me.even; kept = refl };
    }
