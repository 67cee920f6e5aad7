-- What every rule keeps.
use Rattle.std.specs.Prelude.{◌≡◌, Bool, true, false, not, List, [], ◌∷◌, ◌++◌, Some, None, Option}
use Rattle.status.specs.declared.cic.Cic.{Cic}
use Rattle.circuit.specs.declared.record.Reset.{Reset}
use Rattle.circuit.specs.declared.record.Reset.TheVariants as reset
use Rattle.circuit.specs.declared.record.Circuit.{Circuit}
use Rattle.circuit.specs.declared.rules.Change.{Change}
use Rattle.circuit.specs.declared.rules.Rule.{Rule}
use Rattle.circuit.specs.declared.rules.Rule.TheVariants as rule
use Rattle.words.specs.declared.kinds.Direction.{Direction}
use Rattle.words.specs.declared.kinds.EndCause.{EndCause}
use Rattle.words.specs.declared.kinds.Word.{Word}
use Rattle.words.specs.declared.kinds.Word.TheVariants.{Send, Begun, Ended, Alert}
use Rattle.circuit.specs.Circuits.{is_open, is_sound, is_engaged, is_connected, is_waiting, is_group}

abbrev pub end_word : Cic → Option EndCause → List Word
end_word cic None = []
end_word cic (Some cause) = Ended cause cic ∷ []

abbrev pub begin_word : Cic → Option Direction → List Word
begin_word cic None = []
begin_word cic (Some way) = Begun way cic ∷ []

-- what is told of a circuit that a rule changed: the end before the beginning
abbrev pub told_of : Cic → Change → List Word
told_of cic d = end_word cic d.ended ++ begin_word cic d.begun

-- the words take turns: an end only of an engaged circuit, a beginning only of an idle one,
-- from engaged or not before to engaged or not after
abbrev pub Turns : Bool → List Word → Bool → Type 0
Turns before [] after = before ≡ after
Turns before (Send place length ∷ ws) after = Turns before ws after
Turns before (Begun way cic ∷ ws) after = (before ≡ false) × Turns true ws after
Turns before (Ended cause cic ∷ ws) after = (before ≡ true) × Turns false ws after
Turns before (Alert timer cic ∷ ws) after = Turns before ws after

pub record Keeps (c : Circuit) (d : Change) : Type 0 where
  -- equipment does not change
  pub equipped : d.circuit.equipped ≡ c.equipped
  -- a sound record stays sound
  pub sound : is_sound c ≡ true → is_sound d.circuit ≡ true
  -- the words told fit the call before and after
  pub turns : (cic : Cic) → Turns (is_engaged c) (told_of cic d) (is_engaged d.circuit)

-- a circuit reset finds no group reset; no order makes a circuit wait for nothing
abbrev pub allows_reset : Reset → Reset → Bool
allows_reset reset.None now = false
allows_reset reset.Single now = not (is_group now)
allows_reset reset.Group now = true

-- which circuits an order may name
abbrev pub allows : Rule → Circuit → Bool
allows rule.Seize c = is_open c
allows (rule.Release cause) c = is_connected c.call
allows (rule.Block why) c = not (is_waiting c.reset)
allows (rule.Unblock why) c = not (is_waiting c.reset)
allows (rule.Reset how) c = allows_reset how c.reset
