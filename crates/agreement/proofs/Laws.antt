-- The laws of an end, on one circuit: all that an exchange has to keep there for two exchanges to agree.
-- They look only at what an exchange does: other rules may stand at either end, if they keep them.
use Rattle.std.proofs.Common.{◌≡◌, Bool, true, false, not, ◌⊎◌, List, [], map, Some, None, Option}
use Rattle.message.specs.declared.kinds.BlockType.{BlockType}
use Rattle.message.specs.declared.kinds.BlockType.TheVariants.{Maintenance, Hardware}
use Rattle.circuit.specs.Circuits.{block_of, is_asked, is_group, is_lifting, is_releasing, is_single, is_standing}
use Rattle.circuit.specs.declared.record.Circuit.{Circuit}
use Rattle.agreement.proofs.Channel.{Word, tell, answer as in_answer, may_clear, noise, CallBack, again, ask, quiet, Ends, Replies, Takes, Acts}
use Rattle.agreement.proofs.Owing.{has}
use Rattle.agreement.proofs.Signals.{Signal, iam, progress, rel, rlc, blo, bla, ubl, uba, rsc, grs, cgb, cgu, cgba, cgua, gra}

-- ## Blocks: the flag that an end tells of its own block of each type

-- what a message says of it
abbrev pub word : BlockType → Signal → Word
word why iam = may_clear
word why progress = noise
word why rel = noise
word why rlc = noise
word Maintenance blo = tell true
word Hardware blo = noise
word why bla = noise
word Maintenance ubl = tell false
word Hardware ubl = noise
word why uba = noise
word why rsc = tell false
word why grs = tell false
word Maintenance (cgb Maintenance) = tell true
word Maintenance (cgb Hardware) = noise
word Hardware (cgb Maintenance) = noise
word Hardware (cgb Hardware) = tell true
word Maintenance (cgu Maintenance) = tell false
word Maintenance (cgu Hardware) = noise
word Hardware (cgu Maintenance) = noise
word Hardware (cgu Hardware) = tell false
word why (cgba x) = noise
word why (cgua x) = noise
word Maintenance (gra b) = in_answer b
word Hardware (gra b) = noise

-- and what it asks the far end to say
abbrev pub call_back : BlockType → Signal → CallBack
call_back why iam = quiet
call_back why progress = quiet
call_back why rel = quiet
call_back why rlc = quiet
call_back why blo = quiet
call_back why bla = quiet
call_back why ubl = quiet
call_back why uba = quiet
call_back why rsc = again
call_back Maintenance grs = ask
call_back Hardware grs = again
call_back why (cgb x) = quiet
call_back why (cgu x) = quiet
call_back why (cgba x) = quiet
call_back why (cgua x) = quiet
call_back why (gra b) = quiet

-- what the far end is to know of it
abbrev pub value : BlockType → Circuit → Bool
value why c = is_standing (block_of why c.local)

-- what is known of the far block
abbrev pub copy : BlockType → Circuit → Bool
copy why c = block_of why c.far

-- GRA is waited for, which says what the far block is
abbrev pub waits : BlockType → Circuit → Bool
waits Maintenance c = is_group c.reset
waits Hardware c = false

-- ## Answers that are waited for

pub data Wait : Type 0 where
  for_block for_lift : BlockType → Wait
  for_release for_single for_group : Wait

abbrev pub waiting : Wait → Circuit → Bool
waiting (for_block why) c = is_asked (block_of why c.local)
waiting (for_lift why) c = is_lifting (block_of why c.local)
waiting for_release c = is_releasing c.call
waiting for_single c = is_single c.reset
waiting for_group c = is_group c.reset

abbrev is_maintenance : BlockType → Bool
is_maintenance Maintenance = true
is_maintenance Hardware = false

abbrev same_type : BlockType → BlockType → Bool
same_type Maintenance y = is_maintenance y
same_type Hardware y = not (is_maintenance y)

-- the request that asks for it
abbrev pub asks_for : Wait → Signal → Bool
asks_for (for_block why) blo = is_maintenance why
asks_for (for_block why) (cgb y) = same_type why y
asks_for (for_lift why) ubl = is_maintenance why
asks_for (for_lift why) (cgu y) = same_type why y
asks_for for_release rel = true
asks_for for_single rsc = true
asks_for for_group grs = true
asks_for x m = false

-- and the answer that ends the wait
abbrev pub ends_wait : Wait → Signal → Bool
ends_wait (for_block why) bla = is_maintenance why
ends_wait (for_block why) (cgba y) = same_type why y
ends_wait (for_lift why) uba = is_maintenance why
ends_wait (for_lift why) (cgua y) = same_type why y
ends_wait for_release rlc = true
ends_wait for_single rlc = true
ends_wait for_group (gra b) = true
ends_wait x m = false

-- ## What an end does by itself, from the circuit c to the circuit d

-- of a type of block
pub record OwnBlock (why : BlockType) (c d : Circuit) (sent : List Signal) : Type 0 where
  -- all that it says of its own block is in order, and ends with what that is now
  pub says : Ends (value why c) (map (word why) sent) (value why d)
  -- what it knows of the far block stays, or is cleared and asked for
  pub acts : Acts (copy why c) (waits why c) (copy why d) (waits why d) (map (call_back why) sent)

pub record OwnLaws (c d : Circuit) (sent : List Signal) : Type 0 where
  pub block : (why : BlockType) → OwnBlock why c d sent
  -- it waited before, or asks now
  pub wait : (x : Wait) → waiting x d ≡ true → (waiting x c ≡ true) ⊎ (has (map (asks_for x) sent) ≡ true)

-- ## What it does with a message m of the far end

-- of a type of block
pub record HeardBlock (why : BlockType) (m : Signal) (c d : Circuit) (sent : List Signal) : Type 0 where
  pub says : Ends (value why c) (map (word why) sent) (value why d)
  -- what it is asked to say it says
  pub replies : Replies (call_back why m) (value why c) (map (word why) sent)
  -- what it is told of the far block it takes
  pub takes : Takes (word why m) (copy why c) (waits why c) (copy why d) (waits why d)

pub record HeardLaws (m : Signal) (c d : Circuit) (sent : List Signal) : Type 0 where
  pub block : (why : BlockType) → HeardBlock why m c d sent
  -- the answer ends the wait, or the request is sent again
  pub wait : (x : Wait) → waiting x d ≡ true → ((waiting x c ≡ true) × (ends_wait x m ≡ false)) ⊎ (has (map (asks_for x) sent) ≡ true)
  -- a request is answered
  pub answers : (x : Wait) → asks_for x m ≡ true → has (map (ends_wait x) sent) ≡ true

-- and with a message that does not name the circuit: nothing
abbrev pub HeardBy : Option Signal → Circuit → Circuit → List Signal → Type 0
HeardBy None c d sent = (d ≡ c) × (sent ≡ [])
HeardBy (Some m) c d sent = HeardLaws m c d sent
