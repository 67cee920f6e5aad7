use Rattle.std.proofs.Common.{◌<◌, get_or, arith}
use lib.Count.{ones-le}
use Rattle.status.proofs.Bits.{octet_whole}
use Rattle.status.proofs.group.ones_in.Goals as goal

pub loop-octet-preserved : goal.loop-octet-preserved
loop-octet-preserved c =
    let xs = c.args.octets.now in
    let i = c.loop-octet.octet-index in
    let h : get_or xs i 0 < 256 = omega (arith, c.type_inv.octets i) in
    (omega (arith, octet_whole xs i h), omega (arith, ones-le 8 (get_or xs i 0) h))
