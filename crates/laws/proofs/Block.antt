-- The rules move blocks and waiting resets as the laws say.
use Rattle.std.proofs.Common.{◌≡◌, ◌≢◌, Bool, true, false, cond, not, ◌&&◌, Some, None, sym, refl, ◌∙◌, inl, inr, arith}
use Rattle.std.proofs.lemmas.Bool.{false≢true, and_right}
use Rattle.message.specs.declared.kinds.BlockType.{BlockType}
use Rattle.message.specs.declared.kinds.BlockType.TheVariants.{Maintenance, Hardware}
use Rattle.circuit.specs.Changes.{change, quiet, with_call, with_fars, with_reset}
use Rattle.circuit.specs.Orders.{lifted}
use Rattle.circuit.specs.Circuits.{is_asked, is_calling, is_group, is_none, is_releasing, is_single, is_standing, is_waiting, no_far, no_local}
use Rattle.circuit.specs.Signals.{acknowledged, asked_again, passes_iam, unlocked}
use Rattle.circuit.specs.declared.record.Call.{Call}
use Rattle.circuit.specs.declared.record.Call.TheVariants.{Idle, Calling, Talking, Releasing}
use Rattle.circuit.specs.declared.record.Circuit.{Circuit}
use Rattle.circuit.specs.declared.record.LocalBlock.{LocalBlock}
use Rattle.circuit.specs.declared.record.LocalBlock.TheVariants as local
use Rattle.circuit.specs.declared.record.Reset.{Reset}
use Rattle.circuit.specs.declared.record.Reset.TheVariants as reset
use Rattle.laws.specs.Blocks.{of_type, Standing, Clears, LocalMoves, FarMoves, ResetMoves, Becomes, BlocksMove}
use Rattle.laws.specs.Blocks as says
use Rattle.laws.specs.Events as on
use Rattle.laws.specs.Events.{Event}
use Rattle.words.specs.declared.kinds.Direction.TheVariants.{Incoming}
use Rattle.words.specs.declared.kinds.EndCause.TheVariants as end
use Rattle.laws.proofs.Call.{barred, unbarred}
use Rattle.laws.proofs.Effect.{effect, may}

-- whether two types are one
abbrev alike : BlockType → BlockType → Bool
alike Maintenance Maintenance = true
alike Maintenance Hardware = false
alike Hardware Maintenance = false
alike Hardware Hardware = true

own : (why : BlockType) → alike why why ≡ true
own Maintenance = refl
own Hardware = refl

abbrev is_hardware : BlockType → Bool
is_hardware Maintenance = false
is_hardware Hardware = true

-- whether an event moves a local block
abbrev moves_local : BlockType → Circuit → Event → LocalBlock → Bool
moves_local why c (on.blocked x) b = alike why x
moves_local why c (on.unblocked x) b = alike why x && not (is_none b)
moves_local why c (on.bla x) b = alike why x && is_asked b
moves_local why c (on.uba x) b = alike why x && not (is_none b)
moves_local why c on.circuit_reset b = true
moves_local why c on.system_reset b = true
moves_local why c on.t5 b = is_releasing c.call
moves_local why c on.rsc b = is_standing b
moves_local why c on.grs b = is_hardware why && is_standing b
moves_local why c e b = false

-- it does so only where the test holds
local_test : (why : BlockType) (c : Circuit) (e : Event) (b x : LocalBlock) → LocalMoves why c e b x → moves_local why c e b ≡ true
local_test why c _ _ _ (says.is_asked r b) = own why
local_test why c _ _ _ says.is_set = rw (own why) refl
local_test why c _ _ _ (says.is_lifted r b n) = rw (own why) (go b n)
  where
    go : (b : LocalBlock) → b ≢ local.None → not (is_none b) ≡ true
    go local.None n = absurd (n refl)
    go local.Asked n = refl
    go local.Set n = refl
    go local.Lifting n = refl
local_test why c _ _ _ says.is_gone = rw (own why) refl
local_test why c _ _ _ (says.is_cleared _ b says.by_circuit) = refl
local_test why c _ _ _ (says.is_cleared _ b says.by_system) = refl
local_test why c _ _ _ (says.is_cleared _ b (says.by_timer r)) = rw r refl
local_test why c _ _ _ (says.by_uba b (inl s)) = rw (own why, s) refl
local_test why c _ _ _ (says.by_uba b (inr s)) = rw (own why, s) refl
local_test why c _ _ _ (says.by_rsc b (inl s)) = rw s refl
local_test why c _ _ _ (says.by_rsc b (inr s)) = rw s refl
local_test why c _ _ _ (says.by_grs b (inl s) h) = rw (h, s) refl
local_test why c _ _ _ (says.by_grs b (inr s) h) = rw (h, s) refl

-- ## A local block

abbrev LocalBecomes : BlockType → Circuit → Event → LocalBlock → LocalBlock → Type 0
LocalBecomes why c e b d = Becomes (LocalMoves why c e b) b d

stays : (why : BlockType) (c : Circuit) (e : Event) (b d : LocalBlock) → moves_local why c e b ≡ false → d ≡ b → LocalBecomes why c e b d
stays why c e b d h q = inr (λ x w. false≢true (sym h ∙ local_test why c e b x w), q)

set_on : (why : BlockType) (c : Circuit) (b : LocalBlock) → LocalBecomes why c (on.bla why) b (acknowledged b)
set_on why c local.None = stays why c (on.bla why) local.None local.None (and_right (alike why why) false refl) refl
set_on why c local.Asked = inl says.is_set
set_on why c local.Set = stays why c (on.bla why) local.Set local.Set (and_right (alike why why) false refl) refl
set_on why c local.Lifting = stays why c (on.bla why) local.Lifting local.Lifting (and_right (alike why why) false refl) refl

lifted_on : (why : BlockType) (c : Circuit) → c.reset ≡ reset.None → (b : LocalBlock) → LocalBecomes why c (on.unblocked why) b (lifted b)
lifted_on why c r local.None = stays why c (on.unblocked why) local.None local.None (and_right (alike why why) false refl) refl
lifted_on why c r local.Asked = inl (says.is_lifted r local.Asked (λ e. grind arith))
lifted_on why c r local.Set = inl (says.is_lifted r local.Set (λ e. grind arith))
lifted_on why c r local.Lifting = inl (says.is_lifted r local.Lifting (λ e. grind arith))

gone_on : (why : BlockType) (c : Circuit) (b : LocalBlock) → LocalBecomes why c (on.uba why) b (unlocked b)
gone_on why c local.None = stays why c (on.uba why) local.None local.None (and_right (alike why why) false refl) refl
gone_on why c local.Asked = inl (says.by_uba local.Asked (inl refl))
gone_on why c local.Set = inl (says.by_uba local.Set (inr refl))
gone_on why c local.Lifting = inl says.is_gone

again_on : (why : BlockType) (c : Circuit) (b : LocalBlock) → LocalBecomes why c on.rsc b (asked_again b)
again_on why c local.None = stays why c on.rsc local.None local.None refl refl
again_on why c local.Asked = inl (says.by_rsc local.Asked (inl refl))
again_on why c local.Set = inl (says.by_rsc local.Set (inr refl))
again_on why c local.Lifting = stays why c on.rsc local.Lifting local.Lifting refl refl

grs_on : (c : Circuit) (b : LocalBlock) → LocalBecomes Hardware c on.grs b (asked_again b)
grs_on c local.None = stays Hardware c on.grs local.None local.None refl refl
grs_on c local.Asked = inl (says.by_grs local.Asked (inl refl) refl)
grs_on c local.Set = inl (says.by_grs local.Set (inr refl) refl)
grs_on c local.Lifting = stays Hardware c on.grs local.Lifting local.Lifting refl refl

-- an event that moves no local block
unmoved : (ours : Bool) (why : BlockType) (e : Event) (c : Circuit) → moves_local why c e (of_type why c.local) ≡ false
    → of_type why (effect ours e c).circuit.local ≡ of_type why c.local
    → LocalBecomes why c e (of_type why c.local) (of_type why (effect ours e c).circuit.local)
unmoved ours why e c h q = stays why c e (of_type why c.local) (of_type why (effect ours e c).circuit.local) h q

cleared_on : (why : BlockType) (e : Event) (c : Circuit) → Clears c e → LocalBecomes why c e (of_type why c.local) (of_type why no_local)
cleared_on Maintenance e c w = inl (says.is_cleared e c.local.maintenance w)
cleared_on Hardware e c w = inl (says.is_cleared e c.local.hardware w)

t5_on : (ours : Bool) (why : BlockType) (c : Circuit) → LocalBecomes why c on.t5 (of_type why c.local) (of_type why (effect ours on.t5 c).circuit.local)
t5_on ours why c = go c.call
  where
    go : (x : Call) → LocalBecomes why (with_call x c) on.t5 (of_type why c.local) (of_type why (effect ours on.t5 (with_call x c)).circuit.local)
    go Idle = stays why (with_call Idle c) on.t5 (of_type why c.local) (of_type why c.local) refl refl
    go Calling = stays why (with_call Calling c) on.t5 (of_type why c.local) (of_type why c.local) refl refl
    go Talking = stays why (with_call Talking c) on.t5 (of_type why c.local) (of_type why c.local) refl refl
    go Releasing = cleared_on why on.t5 (with_call Releasing c) (says.by_timer refl)

none_waits : (r : Reset) → not (is_waiting r) ≡ true → r ≡ reset.None
none_waits r h = grind arith

not_group : (r : Reset) → not (is_group r) ≡ true → r ≢ reset.Group
not_group r h e = grind arith

locals : (ours : Bool) (why : BlockType) (e : Event) (c : Circuit) → may e c ≡ true → LocalBecomes why c e (of_type why c.local) (of_type why (effect ours e c).circuit.local)
locals ours why on.seized c h = unmoved ours why on.seized c refl refl
locals ours why (on.released cause) c h = unmoved ours why (on.released cause) c refl refl
locals ours Maintenance (on.blocked Maintenance) c h = inl (says.is_asked (none_waits c.reset h) c.local.maintenance)
locals ours Maintenance (on.blocked Hardware) c h = unmoved ours Maintenance (on.blocked Hardware) c refl refl
locals ours Hardware (on.blocked Maintenance) c h = unmoved ours Hardware (on.blocked Maintenance) c refl refl
locals ours Hardware (on.blocked Hardware) c h = inl (says.is_asked (none_waits c.reset h) c.local.hardware)
locals ours Maintenance (on.unblocked Maintenance) c h = lifted_on Maintenance c (none_waits c.reset h) c.local.maintenance
locals ours Maintenance (on.unblocked Hardware) c h = unmoved ours Maintenance (on.unblocked Hardware) c refl refl
locals ours Hardware (on.unblocked Maintenance) c h = unmoved ours Hardware (on.unblocked Maintenance) c refl refl
locals ours Hardware (on.unblocked Hardware) c h = lifted_on Hardware c (none_waits c.reset h) c.local.hardware
locals ours why on.circuit_reset c h = cleared_on why on.circuit_reset c says.by_circuit
locals ours why on.system_reset c h = cleared_on why on.system_reset c says.by_system
locals ours why on.iam c h = unmoved ours why on.iam c refl (grind arith)
locals ours why on.progress c h = unmoved ours why on.progress c refl (grind arith)
locals ours why on.rel c h = unmoved ours why on.rel c refl (grind arith)
locals ours why on.rlc c h = unmoved ours why on.rlc c refl (grind arith)
locals ours Maintenance on.rsc c h = again_on Maintenance c c.local.maintenance
locals ours Hardware on.rsc c h = again_on Hardware c c.local.hardware
locals ours Maintenance on.grs c h = unmoved ours Maintenance on.grs c refl refl
locals ours Hardware on.grs c h = grs_on c c.local.hardware
locals ours why (on.blo Maintenance) c h = unmoved ours why (on.blo Maintenance) c refl refl
locals ours why (on.blo Hardware) c h = unmoved ours why (on.blo Hardware) c refl refl
locals ours why (on.ubl x) c h = unmoved ours why (on.ubl x) c refl refl
locals ours Maintenance (on.bla Maintenance) c h = set_on Maintenance c c.local.maintenance
locals ours Maintenance (on.bla Hardware) c h = unmoved ours Maintenance (on.bla Hardware) c refl refl
locals ours Hardware (on.bla Maintenance) c h = unmoved ours Hardware (on.bla Maintenance) c refl refl
locals ours Hardware (on.bla Hardware) c h = set_on Hardware c c.local.hardware
locals ours Maintenance (on.uba Maintenance) c h = gone_on Maintenance c c.local.maintenance
locals ours Maintenance (on.uba Hardware) c h = unmoved ours Maintenance (on.uba Hardware) c refl refl
locals ours Hardware (on.uba Maintenance) c h = unmoved ours Hardware (on.uba Maintenance) c refl refl
locals ours Hardware (on.uba Hardware) c h = gone_on Hardware c c.local.hardware
locals ours why (on.gra bit) c h = unmoved ours why (on.gra bit) c refl (grind arith)
locals ours why on.t5 c h = t5_on ours why c
locals ours why on.nothing c h = unmoved ours why on.nothing c refl refl

-- ## A far block

-- whether an event moves it
abbrev moves_far : BlockType → Bool → Circuit → Event → Bool
moves_far why ours c (on.blo x) = alike why x
moves_far why ours c (on.ubl x) = alike why x
moves_far why ours c on.rsc = true
moves_far why ours c on.grs = true
moves_far why ours c on.circuit_reset = true
moves_far why ours c on.system_reset = true
moves_far why ours c on.t5 = is_releasing c.call
moves_far why ours c on.iam = not (passes_iam ours c)
moves_far why ours c (on.gra bit) = is_group c.reset && not (is_hardware why)
moves_far why ours c e = false

far_test : (why : BlockType) (ours : Bool) (c : Circuit) (e : Event) (x : Bool) → FarMoves why ours c e x → moves_far why ours c e ≡ true
far_test why ours c _ _ says.sets = own why
far_test why ours c _ _ says.removes = own why
far_test why ours c _ _ says.rsc_removes = refl
far_test why ours c _ _ says.grs_removes = refl
far_test why ours c _ _ (says.reset_removes _ says.by_circuit) = refl
far_test why ours c _ _ (says.reset_removes _ says.by_system) = refl
far_test why ours c _ _ (says.reset_removes _ (says.by_timer r)) = rw r refl
far_test why ours c _ _ (says.iam_removes n) = go (passes_iam ours c) refl
  where
    go : (b : Bool) → passes_iam ours c ≡ b → not b ≡ true
    go true e = absurd (n (barred ours c e))
    go false e = refl
far_test why ours c _ _ (says.gra_shows g bit m) = rw (g, m) refl

abbrev FarBecomes : Bool → BlockType → Event → Circuit → Type 0
FarBecomes ours why e c = Becomes (FarMoves why ours c e) (of_type why c.far) (of_type why (effect ours e c).circuit.far)

far_stays : (ours : Bool) (why : BlockType) (e : Event) (c : Circuit) → moves_far why ours c e ≡ false
    → of_type why (effect ours e c).circuit.far ≡ of_type why c.far → FarBecomes ours why e c
far_stays ours why e c h q = inr (λ x w. false≢true (sym h ∙ far_test why ours c e x w), q)

far_cleared : (why : BlockType) (ours : Bool) (e : Event) (c : Circuit) → FarMoves why ours c e false → Becomes (FarMoves why ours c e) (of_type why c.far) (of_type why no_far)
far_cleared Maintenance ours e c w = inl w
far_cleared Hardware ours e c w = inl w

far_t5 : (ours : Bool) (why : BlockType) (c : Circuit) → FarBecomes ours why on.t5 c
far_t5 ours why c = go c.call
  where
    go : (x : Call) → FarBecomes ours why on.t5 (with_call x c)
    go Idle = far_stays ours why on.t5 (with_call Idle c) refl refl
    go Calling = far_stays ours why on.t5 (with_call Calling c) refl refl
    go Talking = far_stays ours why on.t5 (with_call Talking c) refl refl
    go Releasing = far_cleared why ours on.t5 (with_call Releasing c) (says.reset_removes on.t5 (says.by_timer refl))

far_gra : (ours : Bool) (why : BlockType) (bit : Bool) (c : Circuit) → FarBecomes ours why (on.gra bit) c
far_gra ours why bit c = go why c.reset
  where
    go : (y : BlockType) (r : Reset) → FarBecomes ours y (on.gra bit) (with_reset r c)
    go y reset.None = far_stays ours y (on.gra bit) (with_reset reset.None c) refl refl
    go y reset.Single = far_stays ours y (on.gra bit) (with_reset reset.Single c) refl refl
    go Maintenance reset.Group = inl (says.gra_shows refl bit refl)
    go Hardware reset.Group = far_stays ours Hardware (on.gra bit) (with_reset reset.Group c) refl refl

far_iam : (ours : Bool) (why : BlockType) (c : Circuit) → FarBecomes ours why on.iam c
far_iam ours why c = go (passes_iam ours c) refl
  where
    go : (b : Bool) → passes_iam ours c ≡ b
        → Becomes (FarMoves why ours c on.iam) (of_type why c.far)
        (of_type why (cond b (quiet c) (change (with_fars no_far (with_call Talking c)) (cond (is_calling c.call) (Some end.DualSeizure) None) (Some Incoming))).circuit.far)
    go true e = inr (λ x w. false≢true (sym (rw e refl) ∙ far_test why ours c on.iam x w), refl)
    go false e = far_cleared why ours on.iam c (says.iam_removes (unbarred ours c e))

fars : (ours : Bool) (why : BlockType) (e : Event) (c : Circuit) → FarBecomes ours why e c
fars ours why on.seized c = far_stays ours why on.seized c refl refl
fars ours why (on.released cause) c = far_stays ours why (on.released cause) c refl refl
fars ours why (on.blocked Maintenance) c = far_stays ours why (on.blocked Maintenance) c refl refl
fars ours why (on.blocked Hardware) c = far_stays ours why (on.blocked Hardware) c refl refl
fars ours why (on.unblocked x) c = far_stays ours why (on.unblocked x) c refl refl
fars ours why on.circuit_reset c = far_cleared why ours on.circuit_reset c (says.reset_removes on.circuit_reset says.by_circuit)
fars ours why on.system_reset c = far_cleared why ours on.system_reset c (says.reset_removes on.system_reset says.by_system)
fars ours why on.iam c = far_iam ours why c
fars ours why on.progress c = far_stays ours why on.progress c refl (grind arith)
fars ours why on.rel c = far_stays ours why on.rel c refl (grind arith)
fars ours why on.rlc c = far_stays ours why on.rlc c refl (grind arith)
fars ours why on.rsc c = far_cleared why ours on.rsc c says.rsc_removes
fars ours why on.grs c = far_cleared why ours on.grs c says.grs_removes
fars ours Maintenance (on.blo Maintenance) c = inl says.sets
fars ours Maintenance (on.blo Hardware) c = far_stays ours Maintenance (on.blo Hardware) c refl refl
fars ours Hardware (on.blo Maintenance) c = far_stays ours Hardware (on.blo Maintenance) c refl refl
fars ours Hardware (on.blo Hardware) c = inl says.sets
fars ours Maintenance (on.ubl Maintenance) c = inl says.removes
fars ours Maintenance (on.ubl Hardware) c = far_stays ours Maintenance (on.ubl Hardware) c refl refl
fars ours Hardware (on.ubl Maintenance) c = far_stays ours Hardware (on.ubl Maintenance) c refl refl
fars ours Hardware (on.ubl Hardware) c = inl says.removes
fars ours why (on.bla x) c = far_stays ours why (on.bla x) c refl refl
fars ours why (on.uba x) c = far_stays ours why (on.uba x) c refl refl
fars ours why (on.gra bit) c = far_gra ours why bit c
fars ours why on.t5 c = far_t5 ours why c
fars ours why on.nothing c = far_stays ours why on.nothing c refl refl

-- ## The reset that waits

abbrev moves_reset : Circuit → Event → Bool
moves_reset c on.circuit_reset = true
moves_reset c on.system_reset = true
moves_reset c on.t5 = is_releasing c.call
moves_reset c on.rlc = is_single c.reset
moves_reset c (on.gra bit) = is_group c.reset
moves_reset c e = false

reset_test : (c : Circuit) (e : Event) (x : Reset) → ResetMoves c e x → moves_reset c e ≡ true
reset_test c _ _ (says.waits_for_rlc n) = refl
reset_test c _ _ says.waits_for_gra = refl
reset_test c _ _ (says.waits_after_t5 r) = rw r refl
reset_test c _ _ (says.rlc_comes r) = rw r refl
reset_test c _ _ (says.gra_comes r bit) = rw r refl

abbrev ResetBecomes : Bool → Event → Circuit → Type 0
ResetBecomes ours e c = Becomes (ResetMoves c e) c.reset (effect ours e c).circuit.reset

reset_stays : (ours : Bool) (e : Event) (c : Circuit) → moves_reset c e ≡ false → (effect ours e c).circuit.reset ≡ c.reset → ResetBecomes ours e c
reset_stays ours e c h q = inr (λ x w. false≢true (sym h ∙ reset_test c e x w), q)

reset_t5 : (ours : Bool) (c : Circuit) → ResetBecomes ours on.t5 c
reset_t5 ours c = go c.call
  where
    go : (x : Call) → ResetBecomes ours on.t5 (with_call x c)
    go Idle = reset_stays ours on.t5 (with_call Idle c) refl refl
    go Calling = reset_stays ours on.t5 (with_call Calling c) refl refl
    go Talking = reset_stays ours on.t5 (with_call Talking c) refl refl
    go Releasing = inl (says.waits_after_t5 refl)

reset_rlc : (ours : Bool) (c : Circuit) → ResetBecomes ours on.rlc c
reset_rlc ours c = go c.reset c.call
  where
    go : (r : Reset) (x : Call) → ResetBecomes ours on.rlc (with_reset r (with_call x c))
    go reset.Single x = inl (says.rlc_comes refl)
    go reset.None Idle = reset_stays ours on.rlc (with_reset reset.None (with_call Idle c)) refl refl
    go reset.None Calling = reset_stays ours on.rlc (with_reset reset.None (with_call Calling c)) refl refl
    go reset.None Talking = reset_stays ours on.rlc (with_reset reset.None (with_call Talking c)) refl refl
    go reset.None Releasing = reset_stays ours on.rlc (with_reset reset.None (with_call Releasing c)) refl refl
    go reset.Group Idle = reset_stays ours on.rlc (with_reset reset.Group (with_call Idle c)) refl refl
    go reset.Group Calling = reset_stays ours on.rlc (with_reset reset.Group (with_call Calling c)) refl refl
    go reset.Group Talking = reset_stays ours on.rlc (with_reset reset.Group (with_call Talking c)) refl refl
    go reset.Group Releasing = reset_stays ours on.rlc (with_reset reset.Group (with_call Releasing c)) refl refl

reset_gra : (ours : Bool) (bit : Bool) (c : Circuit) → ResetBecomes ours (on.gra bit) c
reset_gra ours bit c = go c.reset
  where
    go : (r : Reset) → ResetBecomes ours (on.gra bit) (with_reset r c)
    go reset.None = reset_stays ours (on.gra bit) (with_reset reset.None c) refl refl
    go reset.Single = reset_stays ours (on.gra bit) (with_reset reset.Single c) refl refl
    go reset.Group = inl (says.gra_comes refl bit)

resets : (ours : Bool) (e : Event) (c : Circuit) → may e c ≡ true → ResetBecomes ours e c
resets ours on.circuit_reset c h = inl (says.waits_for_rlc (not_group c.reset h))
resets ours on.system_reset c h = inl says.waits_for_gra
resets ours on.t5 c h = reset_t5 ours c
resets ours on.rlc c h = reset_rlc ours c
resets ours (on.gra bit) c h = reset_gra ours bit c
resets ours on.seized c h = reset_stays ours on.seized c refl refl
resets ours (on.released cause) c h = reset_stays ours (on.released cause) c refl refl
resets ours (on.blocked Maintenance) c h = reset_stays ours (on.blocked Maintenance) c refl refl
resets ours (on.blocked Hardware) c h = reset_stays ours (on.blocked Hardware) c refl refl
resets ours (on.unblocked why) c h = reset_stays ours (on.unblocked why) c refl refl
resets ours on.iam c h = reset_stays ours on.iam c refl (grind arith)
resets ours on.progress c h = reset_stays ours on.progress c refl (grind arith)
resets ours on.rel c h = reset_stays ours on.rel c refl (grind arith)
resets ours on.rsc c h = reset_stays ours on.rsc c refl refl
resets ours on.grs c h = reset_stays ours on.grs c refl refl
resets ours (on.blo Maintenance) c h = reset_stays ours (on.blo Maintenance) c refl refl
resets ours (on.blo Hardware) c h = reset_stays ours (on.blo Hardware) c refl refl
resets ours (on.ubl why) c h = reset_stays ours (on.ubl why) c refl refl
resets ours (on.bla why) c h = reset_stays ours (on.bla why) c refl refl
resets ours (on.uba why) c h = reset_stays ours (on.uba why) c refl refl
resets ours on.nothing c h = reset_stays ours on.nothing c refl refl

pub blocks : (ours : Bool) (e : Event) (c : Circuit) → may e c ≡ true → BlocksMove ours e c (effect ours e c).circuit
blocks ours e c h = record { locals = λ why. locals ours why e c h; fars = λ why. fars ours why e c; resets = resets ours e c h }
