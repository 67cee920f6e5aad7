-- What the rules answer to an expiry: a message still waited for is repeated.
use Rattle.std.specs.Prelude.{ℕ, Bool, false, cond, not, ◌&&◌, List, [], ◌∷◌, Some, None, Ok, Err, Option, Result, ◌==◌, nat_le, nat_lt}
use Rattle.status.specs.declared.cic.Cic.{Cic}
use Rattle.message.specs.Msg.{Msg, single}
use Rattle.message.specs.declared.kinds.BlockType.{BlockType}
use Rattle.message.specs.declared.kinds.BlockType.TheVariants.{Maintenance}
use Rattle.message.specs.declared.kinds.Grouped.{Grouped}
use Rattle.message.specs.declared.kinds.Grouped.TheVariants.{Cgb, Cgu}
use Rattle.message.specs.declared.kinds.Single.TheVariants.{Rsc, Blo, Ubl}
use Rattle.circuit.specs.Changes.{quiet}
use Rattle.circuit.specs.Circuits.{block_of, is_asked, is_group, is_lifting, is_releasing, is_single}
use Rattle.words.specs.Words.{timer_of}
use Rattle.circuit.specs.declared.record.Circuit.{Circuit}
use Rattle.circuit.specs.declared.record.Reset.TheVariants as reset
use Rattle.circuit.specs.declared.rules.Rule.TheVariants.{Reset}
use Rattle.words.specs.declared.kinds.Timer.{Timer}
use Rattle.words.specs.declared.kinds.Timer.TheVariants.{T1, T5, T12, T13, T14, T15, T16, T17, T18, T19, T20, T21, T22, T23}
use Rattle.refusal.specs.declared.reasons.Refusal.{Refusal}
use Rattle.refusal.specs.declared.reasons.Refusal.TheVariants.{Argument, Address}
use Rattle.supervision.specs.declared.trunk.Config.{Config}
use Rattle.supervision.specs.Groups.{mask_by, group_for}
use Rattle.supervision.specs.Lending.{Lent}
use Rattle.supervision.specs.Moves.{Move}
use Rattle.supervision.specs.Orders.{admitted, circuit_of, singly, why_of, release_message, reset_message}
use Rattle.supervision.specs.Receiving.{as_cic, nothing}
use Rattle.refusal.specs.Refusals.{unless, and_then}
use Rattle.supervision.specs.Trunks.{first_of}

-- messages sent once more, and no circuit changed
abbrev pub repeating : List Msg → Option (Timer × Cic) → Move
repeating sent alert = record { named = λ _. false; rule = λ _. quiet; sent = sent; alert = alert }

-- its message, where it is still waited for
abbrev pub repeats_one : Config → ℕ → (Circuit → Bool) → (Circuit → Msg) → Option (Timer × Cic) → List Circuit → Result Move Refusal
repeats_one t c waits message alert table =
    unless (not (circuit_of t (as_cic c) table).equipped) Address
    (Ok (cond (waits (circuit_of t (as_cic c) table)) (repeating (message (circuit_of t (as_cic c) table) ∷ []) alert) nothing))

-- the alert of the second timer of a pair: for a circuit, and for a PCM system by the CIC of its time slot 1
abbrev pub alert_at : Timer → ℕ → Option (Timer × Cic)
alert_at timer c = Some (timer, as_cic c)

-- the alert is told beside what a move does
abbrev pub alerting : Option (Timer × Cic) → Move → Move
alerting alert m = record m { alert = alert }

-- T5 on a releasing circuit does a circuit reset, where that may be ordered, and alerts
abbrev pub gives_up : Config → ℕ → List Circuit → Result Move Refusal
gives_up t c table =
    unless (not (circuit_of t (as_cic c) table).equipped) Address
    (cond (is_releasing (circuit_of t (as_cic c) table).call)
    (and_then (singly t (as_cic c) (Reset reset.Single) (single c Rsc) table) (λ m. Ok (alerting (alert_at T5 c) m)))
    (Ok nothing))

-- a group message, naming the circuits of the PCM system that wait
abbrev pub repeats_group : Config → ℕ → ℕ → Grouped → (BlockType → Circuit → Bool) → Option (Timer × Cic) → List Circuit → Result Move Refusal
repeats_group t system kind what waits alert table =
    unless (nat_lt 1 kind) Argument
    (unless (nat_le t.systems system) Address
    (Ok (cond (mask_by (λ _ x. x.equipped && waits (why_of kind) x) system table == 0) nothing
    (repeating (group_for t what (why_of kind) (λ _ x. x.equipped && waits (why_of kind) x) system table) alert))))

-- a group reset, while some circuit of the PCM system waits for its answer
abbrev pub repeats_reset : Config → ℕ → Option (Timer × Cic) → List Circuit → Result Move Refusal
repeats_reset t system alert table =
    unless (nat_le t.systems system) Address
    (Ok (cond (mask_by (λ _ x. x.equipped && is_group x.reset) system table == 0) nothing
    (repeating (reset_message t system ∷ []) alert)))

abbrev pub asked_for : BlockType → Circuit → Bool
asked_for why x = is_asked (block_of why x.local)

abbrev pub lifting_for : BlockType → Circuit → Bool
lifting_for why x = is_lifting (block_of why x.local)

abbrev pub expired : Config → Timer → ℕ → ℕ → List Circuit → Result Move Refusal
expired t T1 at kind table = repeats_one t at (λ x. is_releasing x.call) (λ x. release_message at x.cause) None table
expired t T5 at kind table = gives_up t at table
expired t T12 at kind table = repeats_one t at (asked_for Maintenance) (λ _. single at Blo) None table
expired t T13 at kind table = repeats_one t at (asked_for Maintenance) (λ _. single at Blo) (alert_at T13 at) table
expired t T14 at kind table = repeats_one t at (lifting_for Maintenance) (λ _. single at Ubl) None table
expired t T15 at kind table = repeats_one t at (lifting_for Maintenance) (λ _. single at Ubl) (alert_at T15 at) table
expired t T16 at kind table = repeats_one t at (λ x. is_single x.reset) (λ _. single at Rsc) None table
expired t T17 at kind table = repeats_one t at (λ x. is_single x.reset) (λ _. single at Rsc) (alert_at T17 at) table
expired t T18 at kind table = repeats_group t at kind Cgb asked_for None table
expired t T19 at kind table = repeats_group t at kind Cgb asked_for (alert_at T19 (first_of t at)) table
expired t T20 at kind table = repeats_group t at kind Cgu lifting_for None table
expired t T21 at kind table = repeats_group t at kind Cgu lifting_for (alert_at T21 (first_of t at)) table
expired t T22 at kind table = repeats_reset t at None table
expired t T23 at kind table = repeats_reset t at (alert_at T23 (first_of t at)) table

-- a timer that is not listed is refused
abbrev pub timed : Option Timer → Result Timer Refusal
timed None = Err Argument
timed (Some timer) = Ok timer

-- `at` is a CIC or a PCM system, as the timer asks; the type is looked at only where a timer has one
abbrev pub expiring : Config → ℕ → ℕ → ℕ → ℕ → Lent → Result Move Refusal
expiring t room timer at kind lent =
    and_then (admitted t room lent) (λ _. and_then (timed (timer_of timer)) (λ x. expired t x at kind lent.table))
