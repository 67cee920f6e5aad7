-- Circuits for which a message is due.
use Rattle.std.specs.Prelude.{ℕ, ◌+◌, Bool, ◌&&◌, List, Some, None, Option, nat_le}
use Rattle.status.specs.declared.cic.Cic.{Cic}
use Rattle.message.specs.declared.kinds.BlockType.{BlockType}
use Rattle.message.specs.declared.kinds.Grouped.{Grouped}
use Rattle.message.specs.declared.kinds.Grouped.TheVariants.{Cgb, Cgu, Cgba, Cgua}
use Rattle.words.specs.declared.kinds.Timer.{Timer}
use Rattle.circuit.specs.Circuits.{block_of, is_asked, is_group, is_lifting, is_none, is_releasing, is_single, is_standing}
use Rattle.circuit.specs.declared.record.Circuit.{Circuit}
use Rattle.supervision.specs.declared.due.Condition.{Condition}
use Rattle.supervision.specs.declared.due.Condition.TheVariants.{Unblocked, Standing, Asked, Lifting, Releasing, Single, Group}
use Rattle.supervision.specs.declared.due.Due.{Due}
use Rattle.supervision.specs.Expiring.{asked_for, lifting_for, alert_at}
use Rattle.supervision.specs.Groups.{bits_below}
use Rattle.supervision.specs.Steps.{touched}
use Rattle.supervision.specs.Trunks.{placed}

abbrev pub holds : Condition → Circuit → Bool
holds (Unblocked why) c = is_none (block_of why c.local)
holds (Standing why) c = is_standing (block_of why c.local)
holds (Asked why) c = is_asked (block_of why c.local)
holds (Lifting why) c = is_lifting (block_of why c.local)
holds Releasing c = is_releasing c.call
holds Single c = is_single c.reset
holds Group c = is_group c.reset

abbrev pub is_due : Due → ℕ → Circuit → Bool
is_due due k c = touched due.effect due.slots k && (c.equipped && holds due.condition c)

-- a bit for each of 32 places from one on, and none below bit `start`
abbrev pub due_bits : Due → ℕ → ℕ → List Circuit → ℕ
due_bits due from start table = bits_below (λ n. nat_le start n && is_due due (from + n) (placed table (from + n))) 32

-- what a block of ours waits for, by the group message that is repeated
abbrev pub waits_for : Grouped → BlockType → Circuit → Bool
waits_for Cgb = asked_for
waits_for Cgu = lifting_for
waits_for Cgba = asked_for
waits_for Cgua = lifting_for

-- the alert of the second timer of a pair
abbrev pub alert_for : Option Timer → ℕ → Option (Timer × Cic)
alert_for None c = None
alert_for (Some timer) c = alert_at timer c
