-- The octets of a message as they are written, and when they are.
use Rattle.std.specs.Prelude.{ℕ, ◌+◌, ◌/◌, ◌%◌, Bool, true, cond, ◌&&◌, List, [], ◌∷◌, ◌++◌, length, drop, Some, None, Ok, Err, Option, Result, ◌==◌, nat_le, nat_lt}
use Rattle.status.specs.Bits.{octets_for, cleared}
use Rattle.message.specs.Msg.{Msg, single, release_complete, group_reset, group_reset_ack, grouped, release, call, cic_in, kind_in}
use Rattle.message.specs.Types.{type_of}
use Rattle.message.specs.Decode.{within}
use Rattle.message.specs.declared.fault.MessageFault.{MessageFault}
use Rattle.message.specs.declared.fault.MessageFault.TheVariants.{NoRoom, Layout, Limit}

-- the type octet of a message
abbrev pub type_in : Msg → ℕ
type_in m = type_of (kind_in m)

-- what is written after the type
abbrev pub encode_rest : Msg → List ℕ
encode_rest (single c k) = []
encode_rest (release_complete c) = 0 ∷ []
encode_rest (group_reset c r) = 1 ∷ 1 ∷ r ∷ []
encode_rest (group_reset_ack c r s) = 1 ∷ (1 + octets_for r) ∷ r ∷ cleared r s
encode_rest (grouped c k i r s) = i ∷ 1 ∷ (1 + octets_for r) ∷ r ∷ cleared r s
encode_rest (release c x) = 2 ∷ 0 ∷ 2 ∷ x
encode_rest (call c k x) = x

abbrev pub encode : Msg → List ℕ
encode m = (cic_in m % 256) ∷ (cic_in m / 256) ∷ type_in m ∷ encode_rest m

-- the same message with its spare status bits 0
abbrev pub plain : Msg → Msg
plain (single c k) = single c k
plain (release_complete c) = release_complete c
plain (group_reset c r) = group_reset c r
plain (group_reset_ack c r s) = group_reset_ack c r (cleared r s)
plain (grouped c k i r s) = grouped c k i r (cleared r s)
plain (release c x) = release c x
plain (call c k x) = call c k x

-- body, cause and status have the sizes that the layout asks for
abbrev pub sized : Msg → Bool
sized (single c k) = true
sized (release_complete c) = true
sized (group_reset c r) = true
sized (group_reset_ack c r s) = length s == octets_for r
sized (grouped c k i r s) = length s == octets_for r
sized (release c x) = length x == 2
sized (call c k x) = nat_le 1 (length x)

-- why a message is not written, if it is not
abbrev pub refusal_of : Msg → Option MessageFault
refusal_of m = cond (sized m) (cond (nat_le (cic_in m) 4095 && within m) None (Some (Limit (type_in m)))) (Some (Layout (type_in m)))

-- the octets w are written whole, unless there is a refusal
abbrev pub unless_refused : List ℕ → Option MessageFault → Result ℕ MessageFault
unless_refused w None = Ok (length w)
unless_refused w (Some f) = Err f

-- what a writer of the octets w answers, with n octets lent
abbrev pub written : List ℕ → Option MessageFault → ℕ → Result ℕ MessageFault
written w f n = cond (nat_lt n (length w)) (Err NoRoom) (unless_refused w f)

-- what it leaves there
abbrev pub leaves : List ℕ → List ℕ → Result ℕ MessageFault → List ℕ
leaves w before (Ok n) = w ++ drop n before
leaves w before (Err f) = before
