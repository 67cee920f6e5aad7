-- The life of a call decides what becomes of it.
use Rattle.std.proofs.Common.{◌≡◌, Bool, true, false, List, [], refl, sym, ◌∙◌, inl, inr, arith}
use Rattle.status.specs.declared.cic.Cic.{Cic}
use Rattle.circuit.specs.Changes.{with_call}
use Rattle.circuit.specs.Laws.{told_of}
use Rattle.circuit.specs.Signals.{passes_iam}
use Rattle.circuit.specs.declared.record.Call.{Call}
use Rattle.circuit.specs.declared.record.Call.TheVariants.{Idle, Calling, Talking, Releasing}
use Rattle.circuit.specs.declared.record.Circuit.{Circuit}
use Rattle.words.specs.declared.kinds.Word.{Word}
use Rattle.laws.specs.Events as on
use Rattle.laws.specs.Events.{Event}
use Rattle.laws.specs.Calls.{Barred, Connected, Lives, Untouched, CallsDecided}
use Rattle.laws.specs.Calls as says
use Rattle.laws.proofs.Call.{barred, unbarred}
use Rattle.laws.proofs.Effect.{effect}

-- what is told, and the call afterwards, are those of the event
record Is (ours : Bool) (cic : Cic) (c : Circuit) (e : Event) (told : List Word) (call : Call) : Type 0 where
  tells : told ≡ told_of cic (effect ours e c)
  leaves : call ≡ (effect ours e c).circuit.call

passes : (ours : Bool) (c : Circuit) → Barred ours c → passes_iam ours c ≡ true
passes ours c b = go (passes_iam ours c) refl
  where
    go : (x : Bool) → passes_iam ours c ≡ x → x ≡ true
    go true e = refl
    go false e = absurd (unbarred ours c e b)

untouched : (ours : Bool) (cic : Cic) (c : Circuit) (e : Event) → Untouched ours c e → Is ours cic c e [] c.call
untouched ours cic c _ (says.barred b) = let p = passes ours c b in record { tells = rw p refl; leaves = rw p refl }
untouched ours cic c _ (says.not_calling n) = record { tells = grind arith; leaves = grind arith }
untouched ours cic c _ (says.not_connected n) = go c.call n
  where
    go : (x : Call) → (Connected x → ⊥) → Is ours cic (with_call x c) on.rel [] x
    go Idle n = record { tells = refl; leaves = refl }
    go Calling n = absurd (n (inl refl))
    go Talking n = absurd (n (inr refl))
    go Releasing n = record { tells = refl; leaves = refl }
untouched ours cic c _ (says.of_reset r) = record { tells = grind arith; leaves = grind arith }
untouched ours cic c _ (says.of_idle i) = record { tells = grind arith; leaves = grind arith }
untouched ours cic c _ (says.not_reset i _ says.circuit_reset) = record { tells = grind arith; leaves = grind arith }
untouched ours cic c _ (says.not_reset i _ says.system_reset) = record { tells = grind arith; leaves = grind arith }
untouched ours cic c _ (says.not_reset i _ says.rsc) = record { tells = grind arith; leaves = grind arith }
untouched ours cic c _ (says.not_reset i _ says.grs) = record { tells = grind arith; leaves = grind arith }
untouched ours cic c _ (says.not_blocked i _ says.hardware_blocked) = record { tells = grind arith; leaves = grind arith }
untouched ours cic c _ (says.not_blocked i _ says.hardware_blo) = record { tells = grind arith; leaves = grind arith }
untouched ours cic c _ (says.not_given_up n) = record { tells = grind arith; leaves = grind arith }
untouched ours cic c _ says.blocked = record { tells = refl; leaves = refl }
untouched ours cic c _ (says.unblocked why) = record { tells = refl; leaves = refl }
untouched ours cic c _ says.blo = record { tells = refl; leaves = refl }
untouched ours cic c _ (says.ubl why) = record { tells = refl; leaves = refl }
untouched ours cic c _ (says.bla why) = record { tells = refl; leaves = refl }
untouched ours cic c _ (says.uba why) = record { tells = refl; leaves = refl }
untouched ours cic c _ (says.gra bit) = record { tells = grind arith; leaves = grind arith }
untouched ours cic c _ says.nothing = record { tells = refl; leaves = refl }

-- an IAM that is not barred
arrives : (ours : Bool) (c : Circuit) → (Barred ours c → ⊥) → passes_iam ours c ≡ false
arrives ours c n = go (passes_iam ours c) refl
  where
    go : (x : Bool) → passes_iam ours c ≡ x → x ≡ false
    go true e = absurd (n (barred ours c e))
    go false e = refl

is : (ours : Bool) (cic : Cic) (c : Circuit) (e : Event) (told : List Word) (call : Call) → Lives ours cic c e told call → Is ours cic c e told call
is ours cic c _ _ _ (says.seizes o) = record { tells = refl; leaves = refl }
is ours cic c _ _ _ (says.arrives n i) = let p = arrives ours c n in record { tells = rw (p, i) refl; leaves = rw p refl }
is ours cic c _ _ _ (says.gives_way n i) = let p = arrives ours c n in record { tells = rw (p, i) refl; leaves = rw p refl }
is ours cic c _ _ _ (says.progresses i) = record { tells = rw i refl; leaves = rw i refl }
is ours cic c _ _ _ (says.releases w cause) = record { tells = refl; leaves = refl }
is ours cic c _ _ _ (says.is_unexpected (inl i) n) = record { tells = grind arith; leaves = grind arith }
is ours cic c _ _ _ (says.is_unexpected (inr i) n) = record { tells = grind arith; leaves = grind arith }
is ours cic c _ _ _ (says.is_released (inl i)) = record { tells = rw i refl; leaves = rw i refl }
is ours cic c _ _ _ (says.is_released (inr i)) = record { tells = rw i refl; leaves = rw i refl }
is ours cic c _ _ _ (says.completes i n) = record { tells = grind arith; leaves = grind arith }
is ours cic c _ _ _ (says.is_reset n _ says.circuit_reset) = record { tells = grind arith; leaves = refl }
is ours cic c _ _ _ (says.is_reset n _ says.system_reset) = record { tells = grind arith; leaves = refl }
is ours cic c _ _ _ (says.is_reset n _ says.rsc) = record { tells = grind arith; leaves = refl }
is ours cic c _ _ _ (says.is_reset n _ says.grs) = record { tells = grind arith; leaves = refl }
is ours cic c _ _ _ (says.is_given_up i) = record { tells = rw i refl; leaves = rw i refl }
is ours cic c _ _ _ (says.is_blocked n _ says.hardware_blocked) = record { tells = grind arith; leaves = refl }
is ours cic c _ _ _ (says.is_blocked n _ says.hardware_blo) = record { tells = grind arith; leaves = refl }
is ours cic c _ _ _ (says.goes_on e u) = untouched ours cic c e u

pub calls_decided : CallsDecided
calls_decided ours cic c e told told' call call' x y =
    let a = is ours cic c e told call x in
    let b = is ours cic c e told' call' y in
    (a.tells ∙ sym b.tells, a.leaves ∙ sym b.leaves)
