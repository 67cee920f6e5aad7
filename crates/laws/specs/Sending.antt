-- What is sent: for each order, in answer to each message, and at each expiry.
use Rattle.std.specs.Prelude.{◌≡◌, ◌≢◌, ℕ, ◌+◌, ◌-◌, ◌*◌, ◌/◌, ◌<◌, true, List, [], ◌∷◌, ◌++◌, Some, None, Ok, Option}
use Rattle.status.specs.declared.cic.Cic.{Cic}
use Rattle.message.specs.Decode.{decode}
use Rattle.message.specs.Msg.{Msg, single, release_complete, group_reset, group_reset_ack, grouped, release, call}
use Rattle.message.specs.declared.kinds.BlockType.{BlockType}
use Rattle.message.specs.declared.kinds.BlockType.TheVariants.{Hardware}
use Rattle.message.specs.declared.kinds.CallKind.TheVariants.{Iam}
use Rattle.message.specs.declared.kinds.Grouped.{Grouped}
use Rattle.message.specs.declared.kinds.Grouped.TheVariants.{Cgb, Cgu, Cgba, Cgua}
use Rattle.message.specs.declared.kinds.Single.TheVariants.{Rsc, Blo, Ubl, Bla, Uba}
use Rattle.policy.specs.declared.interface.Place.{Place}
use Rattle.circuit.specs.declared.record.Call.TheVariants.{Releasing}
use Rattle.circuit.specs.declared.record.Circuit.{Circuit}
use Rattle.circuit.specs.declared.record.LocalBlock.{LocalBlock}
use Rattle.circuit.specs.declared.record.LocalBlock.TheVariants as local
use Rattle.circuit.specs.declared.record.Reset.TheVariants as reset
use Rattle.words.specs.Words.{timer_of}
use Rattle.words.specs.declared.kinds.Timer.{Timer}
use Rattle.words.specs.declared.kinds.Timer.TheVariants.{T1, T5, T12, T13, T14, T15, T16, T17, T18, T19, T20, T21, T22, T23}
use Rattle.supervision.specs.Answering.{Order, answer}
use Rattle.supervision.specs.Answering as of
use Rattle.supervision.specs.Expiring.{expiring}
use Rattle.supervision.specs.Lending.{Lent}
use Rattle.supervision.specs.Moves.{Move, table_of}
use Rattle.supervision.specs.Receiving.{receiving}
use Rattle.supervision.specs.Trunks.{placed}
use Rattle.supervision.specs.declared.trunk.Config.{Config}
use Rattle.laws.specs.Blocks.{of_type, Standing}
use Rattle.laws.specs.Calls.{Connected}
use Rattle.laws.specs.Events.{in_mask, names, type_told, within}
use Rattle.laws.specs.Naming.{Tells, Names, Concerned, EachNames}
use Rattle.supervision.specs.declared.limits.TheConstants.{SLOTS}

-- the circuit of a CIC
abbrev pub at_cic : Config → List Circuit → ℕ → Circuit
at_cic t T c = placed T (c - t.first.0)

-- the CIC of time slot 1 of a PCM system
abbrev pub slot_1 : Config → ℕ → ℕ
slot_1 t system = t.first.0 + system * SLOTS + 1

-- one message where P holds, else none
abbrev pub OneIf : Type 0 → Msg → List Msg → Type 0
OneIf P message sent = (P → sent ≡ message ∷ []) × ((P → ⊥) → sent ≡ [])

-- one group message for the PCM system where it has such a circuit, else none
abbrev pub GroupIf : Config → Grouped → BlockType → (ℕ → Circuit → Type 0) → List Circuit → ℕ → List Msg → Type 0
GroupIf t what why P T system sent =
    (Concerned P T system → (message : Msg) × Names t what why P T system message × (sent ≡ message ∷ [])) × ((Concerned P T system → ⊥) → sent ≡ [])

-- ## Orders

-- one group message, which names the circuits of the mask of 32 bits
abbrev pub ByMask : Config → Grouped → ℕ → ℕ → ℕ → List Circuit → List Msg → Type 0
ByMask t what kind system mask T sent =
    mask < 0x1_0000_0000 → (message : Msg) × Names t what (type_told kind) (λ k x. in_mask system mask k ≡ true) T system message × (sent ≡ message ∷ [])

abbrev pub OrderSends : Config → List Circuit → Order → List Msg → Type 0
OrderSends t T (of.seize body choice) sent = (place : Place) × (choice ≡ Some place) × (sent ≡ call (t.first.0 + place.0) Iam body ∷ [])
OrderSends t T (of.release cic location value) sent = sent ≡ release cic.0 ((0x80 + location) ∷ (0x80 + value) ∷ []) ∷ []
OrderSends t T (of.block cic) sent = sent ≡ single cic.0 Blo ∷ []
OrderSends t T (of.unblock cic) sent = sent ≡ single cic.0 Ubl ∷ []
OrderSends t T (of.reset cic) sent = sent ≡ single cic.0 Rsc ∷ []
OrderSends t T (of.group_block kind system mask) sent = ByMask t Cgb kind system mask T sent
OrderSends t T (of.group_unblock kind system mask) sent = ByMask t Cgu kind system mask T sent
OrderSends t T (of.group_reset system) sent = sent ≡ group_reset (slot_1 t system) 30 ∷ []

-- ## Answers

-- an RLC that neither a reset nor a release of ours waits for
abbrev pub Unexpected : Circuit → Type 0
Unexpected c = Connected c.call × (c.reset ≢ reset.Single)

-- RSC: what stands is asked again, and then RLC says that the circuit is reset
abbrev pub ResetAnswer : Config → List Circuit → ℕ → List Msg → Type 0
ResetAnswer t T c sent =
    (one group : List Msg) × OneIf (Standing (at_cic t T c).local.maintenance) (single c Blo) one
    × GroupIf t Cgb Hardware (λ k x. (t.first.0 + k ≡ c) × Standing x.local.hardware) T ((c - t.first.0) / SLOTS) group
    × (sent ≡ one ++ (group ++ release_complete c ∷ []))

-- GRS: hardware blocks that stand are asked again, and then GRA shows the maintenance blocks that stand
abbrev pub GroupResetAnswer : Config → List Circuit → ℕ → ℕ → List Msg → Type 0
GroupResetAnswer t T c r sent =
    (all : List Msg) × (status : List ℕ)
    × EachNames t Cgb Hardware (λ k x. (x.equipped ≡ true) × ((within c r (t.first.0 + k) ≡ true) × Standing x.local.hardware)) T t.systems all
    × Tells (λ n. ((at_cic t T (c + n)).equipped ≡ true) × Standing (at_cic t T (c + n)).local.maintenance) r status
    × (sent ≡ all ++ group_reset_ack c r status ∷ [])

abbrev pub Answers : Config → List Circuit → Msg → List Msg → Type 0
Answers t T (call c kind body) sent = sent ≡ []
Answers t T (release c cause) sent = sent ≡ release_complete c ∷ []
Answers t T (release_complete c) sent = OneIf (Unexpected (at_cic t T c)) (release c (0x87 ∷ 0x9f ∷ [])) sent
Answers t T (single c Blo) sent = sent ≡ single c Bla ∷ []
Answers t T (single c Ubl) sent = sent ≡ single c Uba ∷ []
Answers t T (single c Bla) sent = OneIf ((at_cic t T c).local.maintenance ≡ local.None) (single c Ubl) sent
Answers t T (single c Uba) sent = OneIf (Standing (at_cic t T c).local.maintenance) (single c Blo) sent
Answers t T (single c Rsc) sent = ResetAnswer t T c sent
Answers t T (grouped c Cgb i r s) sent = sent ≡ grouped c Cgba i r s ∷ []
Answers t T (grouped c Cgu i r s) sent = sent ≡ grouped c Cgua i r s ∷ []
Answers t T (grouped c Cgba i r s) sent =
    EachNames t Cgu (type_told i) (λ k x. (names c r s (t.first.0 + k) ≡ true) × (of_type (type_told i) x.local ≡ local.None)) T t.systems sent
Answers t T (grouped c Cgua i r s) sent =
    EachNames t Cgb (type_told i) (λ k x. (names c r s (t.first.0 + k) ≡ true) × Standing (of_type (type_told i) x.local)) T t.systems sent
Answers t T (group_reset c r) sent = GroupResetAnswer t T c r sent
Answers t T (group_reset_ack c r s) sent = sent ≡ []

-- ## Expiries

-- repeated, with the alert, where P holds; else nothing is sent and nobody is alerted
pub record Repeats (P : Type 0) (message : Msg) (alert : Option (Timer × Cic)) (m : Move) : Type 0 where
  pub waits : P → (m.sent ≡ message ∷ []) × (m.alert ≡ alert)
  pub does_not : (P → ⊥) → (m.sent ≡ []) × (m.alert ≡ None)

-- the same of a group message, by the blocks of a type that are in a state
pub record RepeatsGroup (t : Config) (T : List Circuit) (what : Grouped) (why : BlockType) (state : LocalBlock) (system : ℕ) (alert : Option (Timer × Cic)) (m : Move) : Type 0 where
  pub sends : GroupIf t what why (λ k x. (x.equipped ≡ true) × (of_type why x.local ≡ state)) T system m.sent
  pub waits : Concerned (λ k x. (x.equipped ≡ true) × (of_type why x.local ≡ state)) T system → m.alert ≡ alert
  pub does_not : (Concerned (λ k x. (x.equipped ≡ true) × (of_type why x.local ≡ state)) T system → ⊥) → m.alert ≡ None

abbrev pub told_at : Timer → ℕ → Option (Timer × Cic)
told_at timer c = Some (timer, record { 0 = c })

-- some circuit of the PCM system waits for the answer to a group reset
abbrev pub GroupWaits : List Circuit → ℕ → Type 0
GroupWaits T system = Concerned (λ k x. (x.equipped ≡ true) × (x.reset ≡ reset.Group)) T system

abbrev pub last_release : ℕ → Circuit → Msg
last_release c x = release c (x.cause.location_octet ∷ x.cause.value_octet ∷ [])

abbrev pub Expires : Config → List Circuit → Timer → ℕ → ℕ → Move → Type 0
Expires t T T1 c kind m = Repeats ((at_cic t T c).call ≡ Releasing) (last_release c (at_cic t T c)) None m
Expires t T T5 c kind m = Repeats ((at_cic t T c).call ≡ Releasing) (single c Rsc) (told_at T5 c) m
Expires t T T12 c kind m = Repeats ((at_cic t T c).local.maintenance ≡ local.Asked) (single c Blo) None m
Expires t T T13 c kind m = Repeats ((at_cic t T c).local.maintenance ≡ local.Asked) (single c Blo) (told_at T13 c) m
Expires t T T14 c kind m = Repeats ((at_cic t T c).local.maintenance ≡ local.Lifting) (single c Ubl) None m
Expires t T T15 c kind m = Repeats ((at_cic t T c).local.maintenance ≡ local.Lifting) (single c Ubl) (told_at T15 c) m
Expires t T T16 c kind m = Repeats ((at_cic t T c).reset ≡ reset.Single) (single c Rsc) None m
Expires t T T17 c kind m = Repeats ((at_cic t T c).reset ≡ reset.Single) (single c Rsc) (told_at T17 c) m
Expires t T T18 system kind m = RepeatsGroup t T Cgb (type_told kind) local.Asked system None m
Expires t T T19 system kind m = RepeatsGroup t T Cgb (type_told kind) local.Asked system (told_at T19 (slot_1 t system)) m
Expires t T T20 system kind m = RepeatsGroup t T Cgu (type_told kind) local.Lifting system None m
Expires t T T21 system kind m = RepeatsGroup t T Cgu (type_told kind) local.Lifting system (told_at T21 (slot_1 t system)) m
Expires t T T22 system kind m = Repeats (GroupWaits T system) (group_reset (slot_1 t system) 30) None m
Expires t T T23 system kind m = Repeats (GroupWaits T system) (group_reset (slot_1 t system) 30) (told_at T23 (slot_1 t system)) m

-- ## Every accepted operation

abbrev pub OrdersSend : Type 0
OrdersSend = (t : Config) (room : ℕ) (o : Order) (lent : Lent) (m : Move) → answer t room o lent ≡ Ok m → OrderSends t lent.table o m.sent × (m.alert ≡ None)

abbrev pub MessagesAnswered : Type 0
MessagesAnswered = (t : Config) (room : ℕ) (octets : List ℕ) (lent : Lent) (m : Move) → receiving t room octets lent ≡ Ok m
    → (message : Msg) × (decode octets ≡ Ok message) × Answers t lent.table message m.sent × (m.alert ≡ None)

-- but for T5 no circuit changes
abbrev pub ExpiriesRepeat : Type 0
ExpiriesRepeat = (t : Config) (room timer at kind : ℕ) (lent : Lent) (m : Move) → expiring t room timer at kind lent ≡ Ok m
    → (x : Timer) × (timer_of timer ≡ Some x) × Expires t lent.table x at kind m
    × (x ≢ T5 → (k : ℕ) → placed (table_of m lent.table) k ≡ placed lent.table k)
