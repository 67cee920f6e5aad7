-- The rules keep the life of a call.
use Rattle.std.proofs.Common.{◌≡◌, ◌≢◌, Bool, true, false, cond, Some, None, [], ◌∷◌, ◌++◌, refl, inl, inr, arith}
use Rattle.status.specs.declared.cic.Cic.{Cic}
use Rattle.message.specs.declared.kinds.BlockType.{BlockType}
use Rattle.message.specs.declared.kinds.BlockType.TheVariants.{Maintenance, Hardware}
use Rattle.circuit.specs.Changes.{change, ended_if, quiet, with_call, with_fars, with_reset}
use Rattle.circuit.specs.Circuits.{is_calling, no_far}
use Rattle.circuit.specs.Laws.{told_of, end_word}
use Rattle.circuit.specs.Signals.{passes_iam}
use Rattle.circuit.specs.declared.record.Call.{Call}
use Rattle.circuit.specs.declared.record.Call.TheVariants.{Idle, Calling, Talking, Releasing}
use Rattle.circuit.specs.declared.record.LocalBlock.{LocalBlock}
use Rattle.circuit.specs.declared.record.LocalBlock.TheVariants as local
use Rattle.circuit.specs.declared.record.Reset.{Reset}
use Rattle.circuit.specs.declared.record.Reset.TheVariants as reset
use Rattle.circuit.specs.declared.record.Circuit.{Circuit}
use Rattle.circuit.specs.declared.record.CauseOctets.{CauseOctets}
use Rattle.circuit.specs.declared.rules.Change.{Change}
use Rattle.words.specs.declared.kinds.Direction.TheVariants.{Incoming}
use Rattle.words.specs.declared.kinds.EndCause.{EndCause}
use Rattle.words.specs.declared.kinds.EndCause.TheVariants as end
use Rattle.words.specs.declared.kinds.Word.TheVariants.{Ended}
use Rattle.laws.specs.Events as on
use Rattle.laws.specs.Events.{Event}
use Rattle.laws.specs.Calls.{Connected, Barred, by_reset, by_hardware_block, by_maintenance_block, by_talking, by_releasing, by_control, Resets, HardwareBlocks, Lives, Untouched}
use Rattle.laws.specs.Calls as says
use Rattle.laws.proofs.Effect.{effect, may}

abbrev LivesOn : Bool → Cic → Event → Circuit → Type 0
LivesOn ours cic e c = may e c ≡ true → Lives ours cic c e (told_of cic (effect ours e c)) (effect ours e c).circuit.call

seizing : (ours : Bool) (cic : Cic) (c : Circuit) → LivesOn ours cic on.seized c
seizing ours cic c h = says.seizes (record {
  equipped = grind arith;
  idle = grind arith;
  no_reset = grind arith;
  no_local = (grind arith, grind arith);
  no_far = (grind arith, grind arith);
})

releasing : (ours : Bool) (cic : Cic) (cause : CauseOctets) (c : Circuit) → LivesOn ours cic (on.released cause) c
releasing ours cic cause c = go c.call
  where
    go : (x : Call) → LivesOn ours cic (on.released cause) (with_call x c)
    go Idle h = absurd (grind arith)
    go Calling h = says.releases (inl refl) cause
    go Talking h = says.releases (inr refl) cause
    go Releasing h = absurd (grind arith)

progressing : (ours : Bool) (cic : Cic) (c : Circuit) → LivesOn ours cic on.progress c
progressing ours cic c = go c.call
  where
    go : (x : Call) → LivesOn ours cic on.progress (with_call x c)
    go Idle h = says.goes_on on.progress (says.not_calling (λ e. grind arith))
    go Calling h = says.progresses refl
    go Talking h = says.goes_on on.progress (says.not_calling (λ e. grind arith))
    go Releasing h = says.goes_on on.progress (says.not_calling (λ e. grind arith))

released : (ours : Bool) (cic : Cic) (c : Circuit) → LivesOn ours cic on.rel c
released ours cic c = go c.call
  where
    go : (x : Call) → LivesOn ours cic on.rel (with_call x c)
    go Idle h = says.goes_on on.rel (says.not_connected (λ e. grind arith))
    go Calling h = says.is_released (inl refl)
    go Talking h = says.is_released (inr refl)
    go Releasing h = says.goes_on on.rel (says.not_connected (λ e. grind arith))

completing : (ours : Bool) (cic : Cic) (c : Circuit) → LivesOn ours cic on.rlc c
completing ours cic c = go c.reset c.call
  where
    go : (r : Reset) (x : Call) → LivesOn ours cic on.rlc (with_reset r (with_call x c))
    go reset.Single x h = says.goes_on on.rlc (says.of_reset refl)
    go reset.None Idle h = says.goes_on on.rlc (says.of_idle refl)
    go reset.None Calling h = says.is_unexpected (inl refl) (λ e. grind arith)
    go reset.None Talking h = says.is_unexpected (inr refl) (λ e. grind arith)
    go reset.None Releasing h = says.completes refl (λ e. grind arith)
    go reset.Group Idle h = says.goes_on on.rlc (says.of_idle refl)
    go reset.Group Calling h = says.is_unexpected (inl refl) (λ e. grind arith)
    go reset.Group Talking h = says.is_unexpected (inr refl) (λ e. grind arith)
    go reset.Group Releasing h = says.completes refl (λ e. grind arith)

giving_up : (ours : Bool) (cic : Cic) (c : Circuit) → LivesOn ours cic on.t5 c
giving_up ours cic c = go c.call
  where
    go : (x : Call) → LivesOn ours cic on.t5 (with_call x c)
    go Idle h = says.goes_on on.t5 (says.not_given_up (λ e. grind arith))
    go Calling h = says.goes_on on.t5 (says.not_given_up (λ e. grind arith))
    go Talking h = says.goes_on on.t5 (says.not_given_up (λ e. grind arith))
    go Releasing h = says.is_given_up refl

-- an event that ends the call, if there is one
ended_by : (ours : Bool) (cic : Cic) (e : Event) (cause : EndCause) (c : Circuit)
    → (c.call ≢ Idle → Lives ours cic c e (Ended cause cic ∷ []) Idle) → (c.call ≡ Idle → Lives ours cic c e [] c.call)
    → Lives ours cic c e (end_word cic (ended_if cause c.call) ++ []) Idle
ended_by ours cic e cause c = go c.call
  where
    go : (x : Call) → (x ≢ Idle → Lives ours cic (with_call x c) e (Ended cause cic ∷ []) Idle) → (x ≡ Idle → Lives ours cic (with_call x c) e [] x)
        → Lives ours cic (with_call x c) e (end_word cic (ended_if cause x) ++ []) Idle
    go Idle ends stays = stays refl
    go Calling ends stays = ends (λ e. grind arith)
    go Talking ends stays = ends (λ e. grind arith)
    go Releasing ends stays = ends (λ e. grind arith)

reset_by : (ours : Bool) (cic : Cic) (e : Event) (c : Circuit) → Resets e → Lives ours cic c e (end_word cic (ended_if end.Reset c.call) ++ []) Idle
reset_by ours cic e c w = ended_by ours cic e end.Reset c (λ n. says.is_reset n e w) (λ i. says.goes_on e (says.not_reset i e w))

blocked_by : (ours : Bool) (cic : Cic) (e : Event) (c : Circuit) → HardwareBlocks e → Lives ours cic c e (end_word cic (ended_if end.HardwareBlock c.call) ++ []) Idle
blocked_by ours cic e c w = ended_by ours cic e end.HardwareBlock c (λ n. says.is_blocked n e w) (λ i. says.goes_on e (says.not_blocked i e w))

blocking : (ours : Bool) (cic : Cic) (why : BlockType) (c : Circuit) → LivesOn ours cic (on.blocked why) c
blocking ours cic Maintenance c h = says.goes_on (on.blocked Maintenance) says.blocked
blocking ours cic Hardware c h = blocked_by ours cic (on.blocked Hardware) c says.hardware_blocked

far_blocking : (ours : Bool) (cic : Cic) (why : BlockType) (c : Circuit) → LivesOn ours cic (on.blo why) c
far_blocking ours cic Maintenance c h = says.goes_on (on.blo Maintenance) says.blo
far_blocking ours cic Hardware c h = blocked_by ours cic (on.blo Hardware) c says.hardware_blo

noting : (ours : Bool) (cic : Cic) (bit : Bool) (c : Circuit) → LivesOn ours cic (on.gra bit) c
noting ours cic bit c = go c.reset
  where
    go : (r : Reset) → LivesOn ours cic (on.gra bit) (with_reset r c)
    go reset.None h = says.goes_on (on.gra bit) (says.gra bit)
    go reset.Single h = says.goes_on (on.gra bit) (says.gra bit)
    go reset.Group h = says.goes_on (on.gra bit) (says.gra bit)

-- ## An IAM

abbrev standing : Reset → LocalBlock → LocalBlock → Circuit → Circuit
standing r w m c = record c { reset = r; local = record { maintenance = m; hardware = w } }

pub unbarred : (ours : Bool) (c : Circuit) → passes_iam ours c ≡ false → Barred ours c → ⊥
unbarred ours c h (by_reset n) = search arith
unbarred ours c h (by_hardware_block n) = search arith
unbarred ours c h (by_maintenance_block e) = search arith
unbarred ours c h (by_talking e) = search arith
unbarred ours c h (by_releasing e) = search arith
unbarred ours c h (by_control e o) = search arith

pub barred : (ours : Bool) (c : Circuit) → passes_iam ours c ≡ true → Barred ours c
barred ours c h = go c.reset c.local.hardware c.local.maintenance c.call ours h
  where
    go : (r : Reset) (w m : LocalBlock) (x : Call) (o : Bool) → passes_iam o (with_call x (standing r w m c)) ≡ true → Barred o (with_call x (standing r w m c))
    go reset.Single w m x o h = by_reset (λ e. grind arith)
    go reset.Group w m x o h = by_reset (λ e. grind arith)
    go reset.None local.Asked m x o h = by_hardware_block (λ e. grind arith)
    go reset.None local.Set m x o h = by_hardware_block (λ e. grind arith)
    go reset.None local.Lifting m x o h = by_hardware_block (λ e. grind arith)
    go reset.None local.None local.Set x o h = by_maintenance_block refl
    go reset.None local.None m Talking o h = by_talking refl
    go reset.None local.None m Releasing o h = by_releasing refl
    go reset.None local.None m Calling true h = by_control refl refl
    go reset.None local.None local.None Calling false h = absurd (grind arith)
    go reset.None local.None local.Asked Calling false h = absurd (grind arith)
    go reset.None local.None local.Lifting Calling false h = absurd (grind arith)
    go reset.None local.None local.None Idle o h = absurd (grind arith)
    go reset.None local.None local.Asked Idle o h = absurd (grind arith)
    go reset.None local.None local.Lifting Idle o h = absurd (grind arith)

arriving : (ours : Bool) (cic : Cic) (c : Circuit) → LivesOn ours cic on.iam c
arriving ours cic c h = go (passes_iam ours c) refl
  where
    begins : Call → Change
    begins x = change (with_fars no_far (with_call Talking c)) (cond (is_calling x) (Some end.DualSeizure) None) (Some Incoming)

    free : passes_iam ours c ≡ false → (x : Call) → c.call ≡ x → Lives ours cic c on.iam (told_of cic (begins x)) Talking
    free e Idle q = says.arrives (unbarred ours c e) q
    free e Calling q = says.gives_way (unbarred ours c e) q
    free e Talking q = absurd (unbarred ours c e (by_talking q))
    free e Releasing q = absurd (unbarred ours c e (by_releasing q))

    go : (b : Bool) → passes_iam ours c ≡ b → Lives ours cic c on.iam (told_of cic (cond b (quiet c) (begins c.call))) (cond b (quiet c) (begins c.call)).circuit.call
    go true e = says.goes_on on.iam (says.barred (barred ours c e))
    go false e = free e c.call refl

-- ## Every event

pub lives : (ours : Bool) (cic : Cic) (e : Event) (c : Circuit) → LivesOn ours cic e c
lives ours cic on.seized c h = seizing ours cic c h
lives ours cic (on.released cause) c h = releasing ours cic cause c h
lives ours cic (on.blocked why) c h = blocking ours cic why c h
lives ours cic (on.unblocked why) c h = says.goes_on (on.unblocked why) (says.unblocked why)
lives ours cic on.circuit_reset c h = reset_by ours cic on.circuit_reset c says.circuit_reset
lives ours cic on.system_reset c h = reset_by ours cic on.system_reset c says.system_reset
lives ours cic on.iam c h = arriving ours cic c h
lives ours cic on.progress c h = progressing ours cic c h
lives ours cic on.rel c h = released ours cic c h
lives ours cic on.rlc c h = completing ours cic c h
lives ours cic on.rsc c h = reset_by ours cic on.rsc c says.rsc
lives ours cic on.grs c h = reset_by ours cic on.grs c says.grs
lives ours cic (on.blo why) c h = far_blocking ours cic why c h
lives ours cic (on.ubl why) c h = says.goes_on (on.ubl why) (says.ubl why)
lives ours cic (on.bla why) c h = says.goes_on (on.bla why) (says.bla why)
lives ours cic (on.uba why) c h = says.goes_on (on.uba why) (says.uba why)
lives ours cic (on.gra bit) c h = noting ours cic bit c h
lives ours cic on.t5 c h = giving_up ours cic c h
lives ours cic on.nothing c h = says.goes_on on.nothing says.nothing
