-- What the rules answer to a message from the far exchange: a refusal, or a move.
use Rattle.std.specs.Prelude.{ℕ, ◌+◌, ◌-◌, ◌/◌, ◌%◌, Bool, false, cond, not, ◌&&◌, List, [], ◌∷◌, ◌++◌, None, Ok, Result, ◌==◌, nat_le, nat_lt}
use Rattle.status.specs.Bits.{is_named}
use Rattle.status.specs.declared.cic.Cic.{Cic}
use Rattle.message.specs.Decode.{decode}
use Rattle.message.specs.Msg.{Msg, single, release_complete, group_reset, group_reset_ack, grouped, release, call}
use Rattle.message.specs.declared.kinds.BlockType.TheVariants.{Maintenance, Hardware}
use Rattle.message.specs.declared.kinds.CallKind.TheVariants.{Iam, Acm, Con, Anm, Cpg}
use Rattle.message.specs.declared.kinds.Grouped.TheVariants.{Cgb, Cgu, Cgba, Cgua}
use Rattle.message.specs.declared.kinds.Single.TheVariants.{Rsc, Blo, Ubl, Bla, Uba}
use Rattle.circuit.specs.Changes.{quiet}
use Rattle.circuit.specs.Circuits.{block_of, is_connected, is_none, is_single, is_standing}
use Rattle.circuit.specs.Signals.{on_iam, on_progress, on_rel, on_rlc, on_far_block, on_far_unblock, on_block_ack, on_unblock_ack, on_rsc, on_grs, on_gra, unexpected}
use Rattle.circuit.specs.declared.record.Circuit.{Circuit}
use Rattle.circuit.specs.declared.rules.Change.{Change}
use Rattle.refusal.specs.declared.reasons.Refusal.{Refusal}
use Rattle.refusal.specs.declared.reasons.Refusal.TheVariants.{Address}
use Rattle.supervision.specs.declared.trunk.Config.{Config}
use Rattle.supervision.specs.Groups.{groups, group_for, status_by}
use Rattle.supervision.specs.Lending.{Lent}
use Rattle.supervision.specs.Moves.{Move, some_from}
use Rattle.supervision.specs.Orders.{admitted, circuit_of, only, why_of, release_message}
use Rattle.refusal.specs.Refusals.{raised, unless, and_then}
use Rattle.supervision.specs.Trunks.{places, controls, covers}
use Rattle.supervision.specs.declared.limits.TheConstants.{SLOTS}

abbrev pub as_cic : ℕ → Cic
as_cic c = record { 0 = c }

-- a move without an alert
abbrev pub moving : (ℕ → Bool) → (ℕ → Circuit → Change) → List Msg → Move
moving named rule sent = record { named = named; rule = rule; sent = sent; alert = None }

-- nothing is named and nothing is sent
abbrev pub nothing : Move
nothing = moving (λ _. false) (λ _. quiet) []

-- a message where the test holds
abbrev pub if_so : Bool → Msg → List Msg
if_so b m = cond b (m ∷ []) []

-- a message for one circuit: what is done to it, and what is answered from its record
abbrev pub to_one : Config → ℕ → (Circuit → Change) → (Circuit → List Msg) → List Circuit → Result Move Refusal
to_one t c rule answers table =
    unless (not (circuit_of t (as_cic c) table).equipped) Address
    (Ok (moving (only t (as_cic c)) (λ _. rule) (answers (circuit_of t (as_cic c) table))))

-- the CICs c to c + r are all of the table
abbrev pub is_range : Config → ℕ → ℕ → Bool
is_range t c r = nat_le t.first.0 c && nat_lt (c + r) (t.first.0 + places t)

-- the places of that range
abbrev pub in_range : Config → ℕ → ℕ → ℕ → Bool
in_range t c r k = nat_le (c - t.first.0) k && nat_le k (c - t.first.0 + r)

-- those whose status bits are set
abbrev pub marked : Config → ℕ → ℕ → List ℕ → ℕ → Bool
marked t c r s = covers (c - t.first.0) r s

-- a message for a range: refused where the range leaves the table, or a set bit names a circuit that is not equipped
abbrev pub to_range : Config → ℕ → ℕ → List ℕ → Move → List Circuit → Result Move Refusal
to_range t c r s m table =
    unless (not (is_range t c r)) Address
    (unless (some_from (λ k x. marked t c r s k && not x.equipped) 0 table) Address
    (Ok m))

-- the hardware block of one circuit, asked again
abbrev pub ask_again : Config → ℕ → List Circuit → List Msg
ask_again t c table = group_for t Cgb Hardware (λ k x. only t (as_cic c) k && is_standing x.local.hardware) ((c - t.first.0) / SLOTS) table

-- our maintenance block shows in the answer to a group reset where it is asked or set
abbrev pub shows : Circuit → Bool
shows x = x.equipped && is_standing x.local.maintenance

-- an RLC that no reset and no release of ours waits for
abbrev pub is_unexpected : Circuit → Bool
is_unexpected x = not (is_single x.reset) && is_connected x.call

-- a group acknowledgement counts only from time slot 1 with range 30
abbrev pub is_counted : Config → ℕ → ℕ → Bool
is_counted t c r = (c - t.first.0) % SLOTS == 1 && r == 30

abbrev pub heard : Config → Msg → List Circuit → Result Move Refusal
heard t (single c Blo) table = to_one t c (on_far_block Maintenance) (λ _. single c Bla ∷ []) table
heard t (single c Ubl) table = to_one t c (on_far_unblock Maintenance) (λ _. single c Uba ∷ []) table
heard t (single c Bla) table = to_one t c (on_block_ack Maintenance) (λ x. if_so (is_none x.local.maintenance) (single c Ubl)) table
heard t (single c Uba) table = to_one t c (on_unblock_ack Maintenance) (λ x. if_so (is_standing x.local.maintenance) (single c Blo)) table
heard t (single c Rsc) table =
    to_one t c on_rsc (λ x. if_so (is_standing x.local.maintenance) (single c Blo) ++ (ask_again t c table ++ (release_complete c ∷ []))) table
heard t (release_complete c) table =
    to_one t c on_rlc (λ x. if_so (is_unexpected x) (release_message c unexpected)) table
heard t (release c cause) table = to_one t c on_rel (λ _. release_complete c ∷ []) table
heard t (call c Iam body) table = to_one t c (on_iam (controls t (as_cic c))) (λ _. []) table
heard t (call c Acm body) table = to_one t c on_progress (λ _. []) table
heard t (call c Con body) table = to_one t c on_progress (λ _. []) table
heard t (call c Anm body) table = to_one t c on_progress (λ _. []) table
heard t (call c Cpg body) table = to_one t c on_progress (λ _. []) table
heard t (grouped c Cgb i r s) table = to_range t c r s (moving (marked t c r s) (λ _. on_far_block (why_of i)) (grouped c Cgba i r s ∷ [])) table
heard t (grouped c Cgu i r s) table = to_range t c r s (moving (marked t c r s) (λ _. on_far_unblock (why_of i)) (grouped c Cgua i r s ∷ [])) table
heard t (grouped c Cgba i r s) table =
    to_range t c r s
    (moving (marked t c r s) (λ _. on_block_ack (why_of i)) (groups t Cgu (why_of i) (λ k x. marked t c r s k && is_none (block_of (why_of i) x.local)) table))
    table
heard t (grouped c Cgua i r s) table =
    to_range t c r s
    (moving (marked t c r s) (λ _. on_unblock_ack (why_of i)) (groups t Cgb (why_of i) (λ k x. marked t c r s k && is_standing (block_of (why_of i) x.local)) table))
    table
heard t (group_reset c r) table =
    to_range t c r []
    (moving (in_range t c r) (λ _. on_grs)
    (groups t Cgb Hardware (λ k x. x.equipped && (in_range t c r k && is_standing x.local.hardware)) table
    ++ (group_reset_ack c r (status_by (λ n. shows (circuit_of t (as_cic (c + n)) table)) r) ∷ [])))
    table
heard t (group_reset_ack c r s) table =
    to_range t c r s
    (cond (is_counted t c r) (moving (in_range t c r) (λ k. on_gra (is_named r s (k - (c - t.first.0)))) []) nothing)
    table

abbrev pub receiving : Config → ℕ → List ℕ → Lent → Result Move Refusal
receiving t room octets lent =
    and_then (admitted t room lent) (λ _. and_then (raised (decode octets)) (λ m. heard t m lent.table))
