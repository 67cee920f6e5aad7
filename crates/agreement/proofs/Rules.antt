-- Our rules on one circuit, and that they keep the laws of an end.
use Rattle.std.proofs.Common.{◌≡◌, Bool, true, false, ◌⊎◌, inl, List, [], ◌∷◌, ◌++◌, map, Some, None, Option, refl, arith}
use Rattle.message.specs.declared.kinds.BlockType.{BlockType}
use Rattle.message.specs.declared.kinds.BlockType.TheVariants.{Maintenance, Hardware}
use Rattle.circuit.specs.Changes.{quiet}
use Rattle.circuit.specs.Circuits.{block_of, is_asked, is_connected, is_group, is_lifting, is_none, is_open, is_releasing, is_single, is_sound, is_standing}
use Rattle.circuit.specs.Orders.{on_seize, on_release, on_block, on_unblock, on_reset}
use Rattle.circuit.specs.Signals.{on_iam, on_progress, on_rel, on_rlc, on_far_block, on_far_unblock, on_block_ack, on_unblock_ack, on_rsc, on_grs, on_gra}
use Rattle.circuit.specs.declared.record.CauseOctets.{CauseOctets}
use Rattle.circuit.specs.declared.record.Circuit.{Circuit}
use Rattle.circuit.specs.declared.record.Reset.TheVariants as reset
use Rattle.circuit.specs.declared.rules.Change.{Change}
use Rattle.supervision.specs.Receiving.{is_unexpected}
use Rattle.agreement.proofs.Laws.{Wait, waiting, asks_for, ends_wait, OwnBlock, OwnLaws, HeardBlock, HeardBy}
use Rattle.agreement.proofs.Owing.{has}
use Rattle.agreement.proofs.Signals.{Signal, iam, progress, rel, rlc, blo, bla, ubl, uba, rsc, grs, cgb, cgu, cgba, cgua, gra, if_so}

-- what a message does to the circuit, controlled by us or not
abbrev pub hear : Bool → Signal → Circuit → Change
hear control iam c = on_iam control c
hear control progress c = on_progress c
hear control rel c = on_rel c
hear control rlc c = on_rlc c
hear control blo c = on_far_block Maintenance c
hear control bla c = on_block_ack Maintenance c
hear control ubl c = on_far_unblock Maintenance c
hear control uba c = on_unblock_ack Maintenance c
hear control rsc c = on_rsc c
hear control grs c = on_grs c
hear control (cgb why) c = on_far_block why c
hear control (cgu why) c = on_far_unblock why c
hear control (cgba why) c = on_block_ack why c
hear control (cgua why) c = on_unblock_ack why c
hear control (gra b) c = on_gra b c

-- and what is answered about it
abbrev pub answers : Signal → Circuit → List Signal
answers iam c = []
answers progress c = []
answers rel c = rlc ∷ []
answers rlc c = if_so (is_unexpected c) rel
answers blo c = bla ∷ []
answers bla c = if_so (is_none c.local.maintenance) ubl
answers ubl c = uba ∷ []
answers uba c = if_so (is_standing c.local.maintenance) blo
answers rsc c = if_so (is_standing c.local.maintenance) blo ++ (if_so (is_standing c.local.hardware) (cgb Hardware) ++ (rlc ∷ []))
answers grs c = if_so (is_standing c.local.hardware) (cgb Hardware) ++ (gra (is_standing c.local.maintenance) ∷ [])
answers (cgb why) c = cgba why ∷ []
answers (cgu why) c = cgua why ∷ []
answers (cgba why) c = if_so (is_none (block_of why c.local)) (cgu why)
answers (cgua why) c = if_so (is_standing (block_of why c.local)) (cgb why)
answers (gra b) c = []

-- what an end does by itself: the circuit before and after, and what is sent about it
pub data Own : Circuit → Circuit → List Signal → Type 0 where
  stays : (c : Circuit) → Own c c []
  seizes : (c : Circuit) → is_open c ≡ true → Own c (on_seize c).circuit (iam ∷ [])
  releases : (c : Circuit) (cause : CauseOctets) → is_connected c.call ≡ true → Own c (on_release cause c).circuit (rel ∷ [])
  blocks_one : (c : Circuit) → Own c (on_block Maintenance c).circuit (blo ∷ [])
  unblocks_one : (c : Circuit) → Own c (on_unblock Maintenance c).circuit (ubl ∷ [])
  blocks : (c : Circuit) (why : BlockType) → Own c (on_block why c).circuit (cgb why ∷ [])
  unblocks : (c : Circuit) (why : BlockType) → Own c (on_unblock why c).circuit (cgu why ∷ [])
  resets : (c : Circuit) → Own c (on_reset reset.Single c).circuit (rsc ∷ [])
  resets_group : (c : Circuit) → Own c (on_reset reset.Group c).circuit (grs ∷ [])
  repeats_rel : (c : Circuit) → is_releasing c.call ≡ true → Own c c (rel ∷ [])
  repeats_blo : (c : Circuit) → is_asked c.local.maintenance ≡ true → Own c c (blo ∷ [])
  repeats_ubl : (c : Circuit) → is_lifting c.local.maintenance ≡ true → Own c c (ubl ∷ [])
  repeats_rsc : (c : Circuit) → is_single c.reset ≡ true → Own c c (rsc ∷ [])
  repeats_cgb : (c : Circuit) (why : BlockType) → is_asked (block_of why c.local) ≡ true → Own c c (cgb why ∷ [])
  repeats_cgu : (c : Circuit) (why : BlockType) → is_lifting (block_of why c.local) ≡ true → Own c c (cgu why ∷ [])
  repeats_grs : (c : Circuit) → is_group c.reset ≡ true → Own c c (grs ∷ [])
  progresses : (c : Circuit) → Own c c (progress ∷ [])

-- what a message does, or none
abbrev pub hears : Bool → Option Signal → Circuit → Change
hears control None c = quiet c
hears control (Some m) c = hear control m c

abbrev pub replies : Option Signal → Circuit → List Signal
replies None c = []
replies (Some m) c = answers m c

-- ## They keep the laws

does : (why : BlockType) (c d : Circuit) (sent : List Signal) → Own c d sent → is_sound c ≡ true → OwnBlock why c d sent
does why _ _ _ (stays c) h = search arith
does why _ _ _ (seizes c o) h = search arith
does why _ _ _ (releases c cause o) h = search arith
does why _ _ _ (blocks_one c) h = search arith
does why _ _ _ (unblocks_one c) h = search arith
does why _ _ _ (blocks c x) h = search arith
does why _ _ _ (unblocks c x) h = search arith
does why _ _ _ (resets c) h = search arith
does why _ _ _ (resets_group c) h = search arith
does why _ _ _ (repeats_rel c o) h = search arith
does why _ _ _ (repeats_blo c o) h = search arith
does why _ _ _ (repeats_ubl c o) h = search arith
does why _ _ _ (repeats_rsc c o) h = search arith
does why _ _ _ (repeats_cgb c x o) h = search arith
does why _ _ _ (repeats_cgu c x o) h = search arith
does why _ _ _ (repeats_grs c o) h = search arith
does why _ _ _ (progresses c) h = search arith

waits_own : (x : Wait) (c d : Circuit) (sent : List Signal) → Own c d sent → waiting x d ≡ true → (waiting x c ≡ true) ⊎ (has (map (asks_for x) sent) ≡ true)
waits_own x _ _ _ (stays c) e = inl e
waits_own x _ _ _ (seizes c o) e = grind arith
waits_own x _ _ _ (releases c cause o) e = grind arith
waits_own x _ _ _ (blocks_one c) e = grind arith
waits_own x _ _ _ (unblocks_one c) e = grind arith
waits_own x _ _ _ (blocks c y) e = grind arith
waits_own x _ _ _ (unblocks c y) e = grind arith
waits_own x _ _ _ (resets c) e = grind arith
waits_own x _ _ _ (resets_group c) e = grind arith
waits_own x _ _ _ (repeats_rel c o) e = inl e
waits_own x _ _ _ (repeats_blo c o) e = inl e
waits_own x _ _ _ (repeats_ubl c o) e = inl e
waits_own x _ _ _ (repeats_rsc c o) e = inl e
waits_own x _ _ _ (repeats_cgb c y o) e = inl e
waits_own x _ _ _ (repeats_cgu c y o) e = inl e
waits_own x _ _ _ (repeats_grs c o) e = inl e
waits_own x _ _ _ (progresses c) e = inl e

pub own_laws : (c d : Circuit) (sent : List Signal) → Own c d sent → is_sound c ≡ true → OwnLaws c d sent
own_laws c d sent w s = record { block = λ why. does why c d sent w s; wait = λ x. waits_own x c d sent w }

heeds : (why : BlockType) (b : Bool) (m : Signal) (c : Circuit) → HeardBlock why m c (hear b m c).circuit (answers m c)
heeds why b iam c = search arith
heeds why b progress c = search arith
heeds why b rel c = search arith
heeds why b rlc c = search arith
heeds why b blo c = search arith
heeds why b bla c = search arith
heeds why b ubl c = search arith
heeds why b uba c = search arith
heeds why b rsc c = search arith
heeds why b grs c = search arith
heeds why b (cgb x) c = search arith
heeds why b (cgu x) c = search arith
heeds why b (cgba x) c = search arith
heeds why b (cgua x) c = search arith
heeds why b (gra x) c = search arith

-- the answer ends the wait, or the request is sent again
waits_heard : (x : Wait) (b : Bool) (m : Signal) (c : Circuit) → is_sound c ≡ true → waiting x (hear b m c).circuit ≡ true →
    ((waiting x c ≡ true) × (ends_wait x m ≡ false)) ⊎ (has (map (asks_for x) (answers m c)) ≡ true)
waits_heard x b iam c i h = grind arith
waits_heard x b progress c i h = grind arith
waits_heard x b rel c i h = grind arith
waits_heard x b rlc c i h = grind arith
waits_heard x b blo c i h = grind arith
waits_heard x b bla c i h = grind arith
waits_heard x b ubl c i h = grind arith
waits_heard x b uba c i h = grind arith
waits_heard x b rsc c i h = grind arith
waits_heard x b grs c i h = grind arith
waits_heard x b (cgb j) c i h = grind arith
waits_heard x b (cgu j) c i h = grind arith
waits_heard x b (cgba j) c i h = grind arith
waits_heard x b (cgua j) c i h = grind arith
waits_heard x b (gra y) c i h = grind arith

-- a request is answered
is_answered : (x : Wait) (m : Signal) (c : Circuit) → asks_for x m ≡ true → has (map (ends_wait x) (answers m c)) ≡ true
is_answered x m c h = grind arith

pub heard_laws : (control : Bool) (e : Option Signal) (c : Circuit) → is_sound c ≡ true → HeardBy e c (hears control e c).circuit (replies e c)
heard_laws b None c s = (refl, refl)
heard_laws b (Some m) c s = record { block = λ why. heeds why b m c; wait = λ x. waits_heard x b m c s; answers = λ x. is_answered x m c }
