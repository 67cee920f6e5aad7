-- The messages of a line as one circuit sees them.
use Rattle.std.proofs.Common.{Bool, cond, List, [], ◌∷◌}
use Rattle.message.specs.declared.kinds.BlockType.{BlockType}

-- a message that names the circuit: those of call progress are one, a group message is one of its type, and GRA has the circuit's bit
pub data Signal : Type 0 where
  iam progress rel rlc blo bla ubl uba rsc grs : Signal
  cgb cgu cgba cgua : BlockType → Signal
  gra : Bool → Signal

abbrev pub if_so : Bool → Signal → List Signal
if_so b m = cond b (m ∷ []) []
