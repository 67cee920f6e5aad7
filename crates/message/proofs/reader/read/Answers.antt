use Rattle.std.proofs.Common.{◌≡◌, ◌<◌, get_or, arith}
use Rattle.std.proofs.lemmas.Grind.{common_steps}
use Rattle.message.specs.Decode.{decode}
use Rattle.message.specs.Meaning.{seen}
use Rattle.message.proofs.Promises.{reads_law}
use Rattle.message.proofs.reader.read.Goals as goal

pub returns-clause-format : goal.returns-clause-format
returns-clause-format c =
    let v : seen c.read_rest.result ≡ decode c.args.octets.now = grind (arith, common_steps) in
    let o : get_or c.args.octets.now 0 0 < 256 = omega (arith, c.type_inv.octets 0) in
    reads_law _ _ o v
