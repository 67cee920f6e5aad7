-- What an order to open leaves.
use Rattle.std.specs.Prelude.{◌≡◌, true, is_some}
use Rattle.console.specs.declared.console.Console.{Console}
use Rattle.console.specs.declared.wording.Answer.{Answer}
use Rattle.console.specs.declared.wording.Answer.TheVariants.{Done, Shown, Refused, NotUnderstood}

-- done, a trunk is open and nothing is told; refused, the console is as it was
abbrev pub Opened : Answer → Console → Console → Type 0
Opened (Done words octets) before after = (words ≡ 0) × (octets ≡ 0) × (is_some after.open ≡ true)
Opened (Shown cic c) before after = ⊥
Opened (Refused e) before after = after ≡ before
Opened NotUnderstood before after = ⊥
