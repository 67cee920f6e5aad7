-- Worked sessions: a trunk of one PCM system from CIC 0 on, all time slots but 0 equipped, and we have the higher point code.
use Rattle.std.specs.Prelude.{◌≡◌, ℕ, true, List, [], ◌∷◌, map, replicate, Ok, Err, Result, slice_set}
use Rattle.policy.specs.declared.interface.TheConstants.{MOST_PLACES}
use Rattle.message.specs.declared.kinds.BlockType.TheVariants.{Maintenance}
use Rattle.circuit.specs.Changes.{with_call, with_locals}
use Rattle.circuit.specs.Circuits.{fresh, with_block}
use Rattle.words.specs.Words.{number_of}
use Rattle.circuit.specs.declared.record.Call.TheVariants.{Calling}
use Rattle.circuit.specs.declared.record.Circuit.{Circuit}
use Rattle.circuit.specs.declared.record.LocalBlock.{LocalBlock}
use Rattle.circuit.specs.declared.record.LocalBlock.TheVariants as local
use Rattle.refusal.specs.declared.reasons.Refusal.{Refusal}
use Rattle.refusal.specs.declared.reasons.Refusal.TheVariants.{Limit, Argument, Address}
use Rattle.supervision.specs.declared.trunk.Config.{Config}
use Rattle.supervision.specs.Expiring.{expiring}
use Rattle.supervision.specs.Lending.{Lent, lent, carried}
use Rattle.supervision.specs.Moves.{Move, words_of, octets_of}
use Rattle.supervision.specs.Opening.{opening, open_table, open_set}
use Rattle.supervision.specs.Orders.{group_blocking}
use Rattle.supervision.specs.Receiving.{receiving}
use Rattle.supervision.specs.Seizing.{may_ask}
use Rattle.supervision.specs.declared.limits.TheConstants.{OCTETS, WORDS}

abbrev pub equipment : List ℕ
equipment = 0xffff_fffe ∷ []

abbrev pub trunk : Config
trunk = record { first = record { 0 = 0 }; systems = 1; higher = true }

-- the places that the policy takes
abbrev pub room : ℕ
room = MOST_PLACES

-- a table with outputs of full size
abbrev pub with_table : List Circuit → Lent
with_table table = lent table (open_set room table) (replicate WORDS 0) (replicate OCTETS 0)

-- newly opened
abbrev pub table : List Circuit
table = open_table equipment

abbrev pub opened : Lent
opened = with_table table

-- but for the call of one circuit
abbrev pub calling : ℕ → Lent
calling k = with_table (slice_set table k (with_call Calling (fresh true)))

-- but for the local maintenance block of one circuit
abbrev pub blocked : ℕ → LocalBlock → Lent
blocked k b = with_table (slice_set table k (with_locals (with_block Maintenance b (fresh true).local) (fresh true)))

-- what is lent after an answer
abbrev pub left : Result Move Refusal → Lent → Lent
left (Err e) before = before
left (Ok m) before = carried trunk m before

-- accepted, with these words and octets
abbrev pub Gives : Result Move Refusal → Lent → List ℕ → List ℕ → Type 0
Gives (Err e) before words octets = ⊥
Gives (Ok m) before words octets = (map number_of (words_of trunk m before.table) ≡ words) × (octets_of m ≡ octets)

abbrev pub received : List ℕ → Lent → Result Move Refusal
received octets before = receiving trunk room octets before

abbrev pub iam : List ℕ
iam = 0x06 ∷ 0x00 ∷ 0x01 ∷ 0x0a ∷ []

pub record Sessions : Type 0 where
  -- the numbers of this trunk open it
  pub opens : opening room (record { 0 = 0 }) equipment true 32 ≡ Ok trunk
  -- BLO 05 00 13 is answered by BLA
  pub blo : Gives (received (0x05 ∷ 0x00 ∷ 0x13 ∷ []) opened) opened (0x10000003 ∷ []) (0x05 ∷ 0x00 ∷ 0x15 ∷ [])
  -- IAM begins a call, and a REL then ends it and is answered by RLC
  pub begins : Gives (received iam opened) opened (0x20001006 ∷ []) []
  pub ends : Gives (received (0x06 ∷ 0x00 ∷ 0x0c ∷ 0x02 ∷ 0x00 ∷ 0x02 ∷ 0x84 ∷ 0x90 ∷ []) (left (received iam opened) opened)) (left (received iam opened) opened)
      (0x30001006 ∷ 0x10000004 ∷ []) (0x06 ∷ 0x00 ∷ 0x10 ∷ 0x00 ∷ [])
  -- dual seizure: of circuit 6, which we control, the IAM is passed over; of circuit 7 our call gives way
  pub controlled : Gives (received iam (calling 6)) (calling 6) [] []
  pub uncontrolled : Gives (received (0x07 ∷ 0x00 ∷ 0x01 ∷ 0x0a ∷ []) (calling 7)) (calling 7) (0x30005007 ∷ 0x20001007 ∷ []) []
  -- hardware blocking of circuits 3 and 17
  pub hardware : Gives (group_blocking trunk room 1 0 0x00020008 opened) opened (0x1000000b ∷ [])
      (0x01 ∷ 0x00 ∷ 0x18 ∷ 0x01 ∷ 0x01 ∷ 0x05 ∷ 0x1e ∷ 0x04 ∷ 0x00 ∷ 0x01 ∷ 0x00 ∷ [])
  -- a group reset finds circuit 3 blocked by us, and is told so
  pub resets : Gives (received (0x01 ∷ 0x00 ∷ 0x17 ∷ 0x01 ∷ 0x01 ∷ 0x1e ∷ []) (blocked 3 local.Set)) (blocked 3 local.Set) (0x1000000a ∷ [])
      (0x01 ∷ 0x00 ∷ 0x29 ∷ 0x01 ∷ 0x05 ∷ 0x1e ∷ 0x04 ∷ 0x00 ∷ 0x00 ∷ 0x00 ∷ [])
  -- T13 repeats BLO and alerts
  pub expires : Gives (expiring trunk room 13 5 0 (blocked 5 local.Asked)) (blocked 5 local.Asked) (0x10000003 ∷ 0x4000d005 ∷ []) (0x05 ∷ 0x00 ∷ 0x13 ∷ [])
  -- a group reset of range 31 from circuit 1 leaves the table; ranges 0 and 32 are none
  pub leaves : received (0x01 ∷ 0x00 ∷ 0x17 ∷ 0x01 ∷ 0x01 ∷ 0x1f ∷ []) opened ≡ Err Address
  pub short_range : received (0x01 ∷ 0x00 ∷ 0x17 ∷ 0x01 ∷ 0x01 ∷ 0x00 ∷ []) opened ≡ Err (Limit 0x17)
  pub long_range : received (0x01 ∷ 0x00 ∷ 0x17 ∷ 0x01 ∷ 0x01 ∷ 0x20 ∷ []) opened ≡ Err (Limit 0x17)
  -- a body of 256 octets passes, one of 257 does not
  pub full_body : may_ask trunk room (replicate 256 0) opened ≡ Ok tt
  pub long_body : may_ask trunk room (replicate 257 0) opened ≡ Err Argument
