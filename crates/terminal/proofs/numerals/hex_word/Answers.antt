use Rattle.std.proofs.Common.{rules}
use Rattle.terminal.proofs.Written.{hex_below}
use Rattle.terminal.proofs.numerals.hex_word.Goals as goal

pub returns-in_err-number : goal.returns-in_err-number
returns-in_err-number c = search (rules, hex_below 8 c.args.word.now)

pub returns : goal.returns
returns c = search (rules, hex_below 8 c.args.word.now)
