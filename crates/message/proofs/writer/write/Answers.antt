use Rattle.message.proofs.Promises.{writes_law, meant}
use Rattle.message.proofs.writer.write.Goals as goal

pub returns-clause-format : goal.returns-clause-format
returns-clause-format c =
    let p = c.lay_out.ensures in
    writes_law _ _ _ _ (meant c.args.message) p.value p.after
