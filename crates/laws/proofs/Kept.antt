-- The rules keep the cause of our last release.
use Rattle.std.proofs.Common.{◌≡◌, Bool, refl, inl, inr, ⊎_elim, arith}
use Rattle.message.specs.declared.kinds.BlockType.TheVariants.{Maintenance, Hardware}
use Rattle.circuit.specs.Changes.{with_call, with_reset}
use Rattle.circuit.specs.declared.record.Call.{Call}
use Rattle.circuit.specs.declared.record.Call.TheVariants.{Idle, Calling, Talking, Releasing}
use Rattle.circuit.specs.declared.record.Circuit.{Circuit}
use Rattle.circuit.specs.declared.record.Reset.{Reset}
use Rattle.circuit.specs.declared.record.Reset.TheVariants as reset
use Rattle.laws.specs.Calls.{Keeps, of_release, of_unexpected, of_rlc, of_others}
use Rattle.laws.specs.Events as on
use Rattle.laws.specs.Events.{Event}
use Rattle.laws.proofs.Effect.{effect}

abbrev KeepsOn : Bool → Event → Circuit → Type 0
KeepsOn ours e c = Keeps c e (effect ours e c).circuit.cause

-- an event that changes no cause
same : (ours : Bool) (e : Event) (c : Circuit) → (effect ours e c).circuit.cause ≡ c.cause → Keeps c e c.cause → KeepsOn ours e c
same ours e c q k = rw q k

completing : (ours : Bool) (c : Circuit) → KeepsOn ours on.rlc c
completing ours c = go c.reset c.call
  where
    go : (r : Reset) (x : Call) → KeepsOn ours on.rlc (with_reset r (with_call x c))
    go reset.Single x = of_rlc (λ w. refl)
    go reset.None Idle = of_rlc (⊎_elim (λ e. absurd (grind arith)) (λ e. absurd (grind arith)))
    go reset.None Calling = of_unexpected (inl refl) (λ e. grind arith)
    go reset.None Talking = of_unexpected (inr refl) (λ e. grind arith)
    go reset.None Releasing = of_rlc (⊎_elim (λ e. absurd (grind arith)) (λ e. absurd (grind arith)))
    go reset.Group Idle = of_rlc (⊎_elim (λ e. absurd (grind arith)) (λ e. absurd (grind arith)))
    go reset.Group Calling = of_unexpected (inl refl) (λ e. grind arith)
    go reset.Group Talking = of_unexpected (inr refl) (λ e. grind arith)
    go reset.Group Releasing = of_rlc (⊎_elim (λ e. absurd (grind arith)) (λ e. absurd (grind arith)))

pub keeps : (ours : Bool) (e : Event) (c : Circuit) → KeepsOn ours e c
keeps ours on.seized c = of_others on.seized (λ q. grind arith) (λ cause q. grind arith)
keeps ours (on.released cause) c = of_release cause
keeps ours (on.blocked Maintenance) c = of_others (on.blocked Maintenance) (λ q. grind arith) (λ cause q. grind arith)
keeps ours (on.blocked Hardware) c = of_others (on.blocked Hardware) (λ q. grind arith) (λ cause q. grind arith)
keeps ours (on.unblocked why) c = of_others (on.unblocked why) (λ q. grind arith) (λ cause q. grind arith)
keeps ours on.circuit_reset c = of_others on.circuit_reset (λ q. grind arith) (λ cause q. grind arith)
keeps ours on.system_reset c = of_others on.system_reset (λ q. grind arith) (λ cause q. grind arith)
keeps ours on.iam c = same ours on.iam c (grind arith) (of_others on.iam (λ q. grind arith) (λ cause q. grind arith))
keeps ours on.progress c = same ours on.progress c (grind arith) (of_others on.progress (λ q. grind arith) (λ cause q. grind arith))
keeps ours on.rel c = same ours on.rel c (grind arith) (of_others on.rel (λ q. grind arith) (λ cause q. grind arith))
keeps ours on.rlc c = completing ours c
keeps ours on.rsc c = of_others on.rsc (λ q. grind arith) (λ cause q. grind arith)
keeps ours on.grs c = of_others on.grs (λ q. grind arith) (λ cause q. grind arith)
keeps ours (on.blo Maintenance) c = of_others (on.blo Maintenance) (λ q. grind arith) (λ cause q. grind arith)
keeps ours (on.blo Hardware) c = of_others (on.blo Hardware) (λ q. grind arith) (λ cause q. grind arith)
keeps ours (on.ubl why) c = of_others (on.ubl why) (λ q. grind arith) (λ cause q. grind arith)
keeps ours (on.bla why) c = of_others (on.bla why) (λ q. grind arith) (λ cause q. grind arith)
keeps ours (on.uba why) c = of_others (on.uba why) (λ q. grind arith) (λ cause q. grind arith)
keeps ours (on.gra bit) c = same ours (on.gra bit) c (grind arith) (of_others (on.gra bit) (λ q. grind arith) (λ cause q. grind arith))
keeps ours on.t5 c = same ours on.t5 c (grind arith) (of_others on.t5 (λ q. grind arith) (λ cause q. grind arith))
keeps ours on.nothing c = of_others on.nothing (λ q. grind arith) (λ cause q. grind arith)
