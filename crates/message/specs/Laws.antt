-- What reading and writing keep, in the words of the format.
use Rattle.std.specs.Prelude.{◌↔◌, ◌≡◌, ℕ, ◌<◌, ◌≤◌, List, length, take, drop, None, Ok, Err, Result, slice_index}
use Rattle.status.specs.Bits.{bit_at}
use Rattle.message.specs.Decode.{decode}
use Rattle.message.specs.Encode.{encode, plain, refusal_of, type_in}
use Rattle.message.specs.Format.{LaidOut, Limits, Represents}
use Rattle.message.specs.Msg.{Msg, single, release_complete, group_reset, group_reset_ack, grouped, release, call, cic_in}
use Rattle.message.specs.declared.kinds.Kind.{Kind}
use Rattle.message.specs.Types.{type_of}
use Rattle.message.specs.declared.fault.MessageFault.{MessageFault}
use Rattle.message.specs.declared.fault.MessageFault.TheVariants.{NoRoom, Short, Unknown, Layout, Limit}

-- octet 3 is the type t
abbrev pub Typed : List ℕ → ℕ → Type 0
Typed xs t = (3 ≤ length xs) × (slice_index xs 2 ≡ t)

abbrev pub Listed : ℕ → Type 0
Listed t = (k : Kind) × (type_of k ≡ t)

-- why octets are read as a message, or refused
abbrev pub Because : List ℕ → Result Msg MessageFault → Type 0
Because xs (Ok m) = Represents xs m
Because xs (Err NoRoom) = ⊥
Because xs (Err Short) = length xs < 3
Because xs (Err (Unknown t)) = Typed xs t × (Listed t → ⊥)
Because xs (Err (Layout t)) = Typed xs t × Listed t × ((m : Msg) → LaidOut xs m → ⊥)
Because xs (Err (Limit t)) = (m : Msg) × (type_in m ≡ t) × LaidOut xs m × (Limits m → ⊥)

-- r is what the octets xs are read as
pub record Reads (xs : List ℕ) (r : Result Msg MessageFault) : Type 0 where
  -- what represents a message, and nothing else, is read as that message; and each refusal means what it says
  pub because : (o : Result Msg MessageFault) → ((r ≡ o) ↔ (Because xs o))
  -- no octets represent two messages
  pub single : (m n : Msg) → Represents xs m → Represents xs n → m ≡ n
  -- what is read may be written, and is then read as the same message
  pub again : (m : Msg) → r ≡ Ok m → (refusal_of m ≡ None) × (decode (encode m) ≡ Ok (plain m))

-- the spare bits in the octets of a message are 0
abbrev pub SpareStatus : Msg → List ℕ → Type 0
SpareStatus (single c k) xs = Unit {0}
SpareStatus (release_complete c) xs = Unit {0}
SpareStatus (group_reset c r) xs = Unit {0}
SpareStatus (group_reset_ack c r s) xs = (k : ℕ) → r < k → bit_at (drop 6 xs) k ≡ 0
SpareStatus (grouped c j i r s) xs = (slice_index xs 3 < 4) × ((k : ℕ) → r < k → bit_at (drop 7 xs) k ≡ 0)
SpareStatus (release c x) xs = Unit {0}
SpareStatus (call c k x) xs = Unit {0}

abbrev pub SpareZero : Msg → List ℕ → Type 0
SpareZero m xs = (slice_index xs 1 < 16) × SpareStatus m xs

-- m was to be written over `before`: r is the answer, and `after` is what is there then
pub record Writes (m : Msg) (before : List ℕ) (r : Result ℕ MessageFault) (after : List ℕ) : Type 0 where
  -- what is written is read as the same message, its spare bits 0
  pub back : (n : ℕ) → r ≡ Ok n → (decode (take n after) ≡ Ok (plain m)) × SpareZero m (take n after)
  -- with room, what reading would refuse is refused, and nothing else
  pub refuses : cic_in m ≤ 4095 → length (encode m) ≤ length before → (f : MessageFault) → ((r ≡ Err f) ↔ (decode (encode m) ≡ Err f))
  -- no other message is written alike
  pub alike : (n : ℕ) → r ≡ Ok n → (o : Msg) → refusal_of o ≡ None → encode o ≡ take n after → plain o ≡ plain m
