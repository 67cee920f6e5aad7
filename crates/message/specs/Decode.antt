-- What the octets of a message say.
use Rattle.std.specs.Prelude.{ℕ, ◌%◌, Bool, true, cond, ◌&&◌, ◌||◌, List, length, take, drop, Some, None, Ok, Err, Option, Result, ◌==◌, nat_le, nat_lt, slice_index}
use Rattle.status.specs.Circuits.{cic_of}
use Rattle.status.specs.Parameter as group
use Rattle.status.specs.declared.range.TheConstants.{MAX_RESET_RANGE, MAX_BLOCKING_RANGE}
use Rattle.message.specs.Msg.{Msg, single, release_complete, group_reset, group_reset_ack, grouped, release, call}
use Rattle.message.specs.declared.kinds.Kind.{Kind}
use Rattle.message.specs.Types.{kind_of}
use Rattle.message.specs.declared.kinds.Kind.TheVariants as kind
use Rattle.message.specs.declared.fault.MessageFault.{MessageFault}
use Rattle.message.specs.declared.fault.MessageFault.TheVariants.{Short, Unknown, Layout, Limit}
use Rattle.message.specs.declared.kinds.Single.{Single}
use Rattle.message.specs.declared.kinds.Grouped.{Grouped}
use Rattle.message.specs.declared.kinds.CallKind.{CallKind}

-- RSC, BLO, UBL, BLA, UBA: nothing
abbrev pub as_single : ℕ → Single → List ℕ → Option Msg
as_single c k xs = cond (length xs == 0) (Some (single c k)) None

-- RLC: 00 or nothing
abbrev pub as_release_complete : ℕ → List ℕ → Option Msg
as_release_complete c xs = cond (length xs == 0 || (length xs == 1 && slice_index xs 0 == 0)) (Some (release_complete c)) None

-- GRS: 01, length 01, range
abbrev pub as_group_reset : ℕ → List ℕ → Option Msg
as_group_reset c xs = cond (length xs == 3 && (slice_index xs 0 == 1 && slice_index xs 1 == 1)) (Some (group_reset c (slice_index xs 2))) None

-- GRA: 01, length, range, status
abbrev pub as_group_reset_ack : ℕ → List ℕ → Option Msg
as_group_reset_ack c xs = cond (nat_le 1 (length xs) && (slice_index xs 0 == 1 && group.laid_out (drop 1 xs)))
    (Some (group_reset_ack c (slice_index xs 2) (drop 3 xs))) None

-- CGB, CGU, CGBA, CGUA: indicator in two bits, 01, length, range, status
abbrev pub as_grouped : ℕ → Grouped → List ℕ → Option Msg
as_grouped c k xs = cond (nat_le 2 (length xs) && (slice_index xs 1 == 1 && group.laid_out (drop 2 xs)))
    (Some (grouped c k (slice_index xs 0 % 4) (slice_index xs 3) (drop 4 xs))) None

-- 02, a pointer, 02 and two cause octets; the pointer is 00 with nothing after them, or 04 with something
abbrev pub release_laid_out : List ℕ → Bool
release_laid_out xs = nat_le 5 (length xs) && (slice_index xs 0 == 2 && (slice_index xs 2 == 2 &&
    ((slice_index xs 1 == 0 && length xs == 5) || (slice_index xs 1 == 4 && nat_le 6 (length xs)))))

-- REL: the cause
abbrev pub as_release : ℕ → List ℕ → Option Msg
as_release c xs = cond (release_laid_out xs) (Some (release c (take 2 (drop 3 xs)))) None

-- IAM, ACM, CON, ANM, CPG: a body of one octet or more
abbrev pub as_call : ℕ → CallKind → List ℕ → Option Msg
as_call c k xs = cond (nat_le 1 (length xs)) (Some (call c k xs)) None

-- what follows the type, where it has the layout of its kind
abbrev pub laid_out_as : Kind → ℕ → List ℕ → Option Msg
laid_out_as (kind.Single k) c xs = as_single c k xs
laid_out_as kind.ReleaseComplete c xs = as_release_complete c xs
laid_out_as kind.GroupReset c xs = as_group_reset c xs
laid_out_as kind.GroupResetAck c xs = as_group_reset_ack c xs
laid_out_as (kind.Grouped k) c xs = as_grouped c k xs
laid_out_as kind.Release c xs = as_release c xs
laid_out_as (kind.Call k) c xs = as_call c k xs

-- indicator, range and number of set bits
abbrev pub within : Msg → Bool
within (single c k) = true
within (release_complete c) = true
within (group_reset c r) = nat_le 1 r && nat_le r MAX_RESET_RANGE
within (group_reset_ack c r s) = group.within MAX_RESET_RANGE r s
within (grouped c k i r s) = nat_le i 1 && group.within MAX_BLOCKING_RANGE r s
within (release c x) = true
within (call c k x) = true

-- a message of type t, as far as it has the layout and keeps the limits
abbrev pub limited : ℕ → Option Msg → Result Msg MessageFault
limited t None = Err (Layout t)
limited t (Some m) = cond (within m) (Ok m) (Err (Limit t))

-- what a listed type says
abbrev pub decode_as : ℕ → ℕ → List ℕ → Option Kind → Result Msg MessageFault
decode_as t c xs None = Err (Unknown t)
decode_as t c xs (Some k) = limited t (laid_out_as k c xs)

-- what follows the type t in a message of the circuit c
abbrev pub decode_rest : ℕ → ℕ → List ℕ → Result Msg MessageFault
decode_rest t c xs = decode_as t c xs (kind_of t)

abbrev pub decode : List ℕ → Result Msg MessageFault
decode xs = cond (nat_lt (length xs) 3) (Err Short) (decode_rest (slice_index xs 2) (cic_of (slice_index xs 0) (slice_index xs 1)) (drop 3 xs))
