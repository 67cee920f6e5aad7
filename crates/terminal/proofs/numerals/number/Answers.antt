use Rattle.terminal.proofs.Written.{digits_are_text}
use Rattle.terminal.proofs.numerals.number.Goals as goal

pub returns-in_default : goal.returns-in_default
returns-in_default c = λ h. c.in_default.ensures.cases.0 (digits_are_text c.args.radix c.requires.high c.args.word.now h.0.1)
