use Rattle.std.proofs.Common.{◌≡◌, ℕ, ◌+◌, ◌-◌, length, take, drop, set, refl, ap, ◌∙◌, arith}
use Rattle.message.specs.Encode.{encode}
use Rattle.message.specs.Meaning.{meaning}
use Rattle.words.specs.Words.{number_of}
use Rattle.words.specs.declared.kinds.Word.TheVariants.{Send}
use Rattle.supervision.proofs.Extending.{one_sent, written_ok}
use Rattle.supervision.proofs.Writing.{part_at}
use Rattle.supervision.proofs.effects.send.Goals as goal

pub returns-clause-sends : goal.returns-clause-sends
returns-clause-sends c = λ t m before table held e p.
    let msg = meaning c.args.message in
    let sent = c.args.written.1 in
    let O = c.args.octets.now in
    let part = take (length O - sent) (drop sent O) in
    let len : c.in-Ok.length ≡ length (encode msg) = written_ok msg (length part) c.in-Ok.length c.requires.writable (c.in-Ok.ensures.value) in
    one_sent t m msg before table held c.args.written (c.args.written.0 + 1, sent + c.in-Ok.length)
    c.args.words.now O (set c.args.words.now c.args.written.0 c.from.result) _ e p c.requires.writable (c.requires.word, c.requires.room) (c.requires.words, c.requires.octets)
    (ap (set c.args.words.now c.args.written.0) (c.from.ensures.0 ∙ ap (λ (n : ℕ). number_of (Send sent n)) len))
    (part_at sent (encode msg) O c.write.new.out (omega (arith, c.requires.room, c.requires.octets)) (c.in-Ok.ensures.after ∙ rw len refl))
    (rw len refl)
