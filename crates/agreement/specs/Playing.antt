-- A run played from a script, and one such run in which messages cross.
use Rattle.std.specs.Prelude.{◌≡◌, ℕ, Bool, true, false, cond, not, ◌&&◌, nat_le, List, [], ◌∷◌, ◌++◌, length, replicate, slice_index_or, Some, None, Ok, Err, Result}
use Rattle.status.specs.declared.cic.Cic.{Cic}
use Rattle.message.specs.Encode.{encode}
use Rattle.message.specs.Msg.{call}
use Rattle.message.specs.declared.kinds.CallKind.{CallKind}
use Rattle.message.specs.declared.kinds.CallKind.TheVariants.{Acm}
use Rattle.circuit.specs.Circuits.{is_set}
use Rattle.circuit.specs.declared.record.Call.TheVariants.{Talking}
use Rattle.words.specs.declared.kinds.Direction.TheVariants.{Outgoing, Incoming}
use Rattle.words.specs.declared.kinds.EndCause.TheVariants.{ReleaseReceived, ReleaseComplete, DualSeizure}
use Rattle.words.specs.declared.kinds.Word.TheVariants.{Send, Begun, Ended}
use Rattle.refusal.specs.declared.reasons.Refusal.{Refusal}
use Rattle.supervision.specs.declared.trunk.Config.{Config}
use Rattle.supervision.specs.Answering.{Order, answer, seize, release as release_order, block, group_block, group_reset}
use Rattle.supervision.specs.Expiring.{expiring}
use Rattle.supervision.specs.Moves.{Move}
use Rattle.supervision.specs.Orders.{circuit_of}
use Rattle.supervision.specs.Receiving.{as_cic, receiving}
use Rattle.agreement.specs.Agreeing.{at}
use Rattle.agreement.specs.Runs.{State, Reaches, after_move, fresh_state, lends, of_host, trunk, with_line}
use Rattle.supervision.specs.declared.limits.TheConstants.{OCTETS, WORDS}

-- what one exchange is asked to do
pub data Act : Type 0 where
  orders : Order → Act
  -- a timer, a CIC or PCM system, and a type
  expires : ℕ → ℕ → ℕ → Act
  receives : Act
  -- a call message of the host: the CIC, the type and the body
  calls : ℕ → CallKind → List ℕ → Act

pub data Turn : Type 0 where
  near_does far_does : Act → Turn

-- an exchange afterwards, and the line into it: as they were, where the act is refused
abbrev pub moved_by : Config → Result Move Refusal → State → List (List ℕ) → List (List ℕ) → State × List (List ℕ)
moved_by t (Err e) s into left = (s, into)
moved_by t (Ok m) s into left = (after_move t m s, left)

-- a seizure takes a member of the policy's set
abbrev pub in_set : List Bool → Order → Bool
in_set held (seize body None) = false
in_set held (seize body (Some place)) = slice_index_or held place.0 false
in_set held o = true

abbrev pub does : Config → Act → State → List (List ℕ) → State × List (List ℕ)
does t (orders o) s into =
    cond (in_set s.held o) (moved_by t (answer t (length s.held) o (lends s (replicate WORDS 0) (replicate OCTETS 0))) s into into) (s, into)
does t (expires timer n kind) s into =
    moved_by t (expiring t (length s.held) timer n kind (lends s (replicate WORDS 0) (replicate OCTETS 0))) s into into
does t receives s [] = (s, [])
does t receives s (front ∷ into) =
    moved_by t (receiving t (length s.held) front (lends s (replicate WORDS 0) (replicate OCTETS 0))) s (front ∷ into) into
does t (calls c kind body) s into =
    cond (of_host kind && (nat_le 1 (length body) && (circuit_of t (as_cic c) s.table).equipped))
    (record s { line = s.line ++ (encode (call c kind body) ∷ []) }, into) (s, into)

-- two exchanges after a script
abbrev pub play : Cic → List ℕ → Bool → List Turn → State → State → State × State
play first ws higher [] a b = (a, b)
play first ws higher (near_does x ∷ l) a b =
    let r = does (trunk first ws higher) x a b.line in play first ws higher l r.0 (with_line r.1 b)
play first ws higher (far_does x ∷ l) a b =
    let r = does (trunk first ws (not higher)) x b a.line in play first ws higher l (with_line r.1 a) r.0

-- ## A run

abbrev pub first_cic : Cic
first_cic = record { 0 = 0 }

-- one PCM system, all time slots but 0 equipped
abbrev pub equipment : List ℕ
equipment = 0xffff_fffe ∷ []

abbrev pub five : Cic
five = record { 0 = 5 }

abbrev pub six : Cic
six = record { 0 = 6 }

-- a hardware block of circuits 3 and 17 crosses a group reset; then a block crosses a call on circuit 5, and is repeated meanwhile; both
-- seize circuit 6, which the near end controls; the far end answers there, and the near end releases the call on circuit 5
abbrev pub script : List Turn
script =
    near_does (orders (group_block 1 0 0x0002_0008))
    ∷ far_does (orders (group_reset 0))
    ∷ far_does receives
    ∷ near_does receives
    ∷ near_does receives
    ∷ far_does receives
    ∷ far_does receives
    ∷ near_does receives
    ∷ near_does (orders (block five))
    ∷ far_does (orders (seize (0x0a ∷ []) (Some (record { 0 = 5 }))))
    ∷ near_does (orders (seize (0x0a ∷ []) (Some (record { 0 = 6 }))))
    ∷ far_does (orders (seize (0x0a ∷ []) (Some (record { 0 = 6 }))))
    ∷ near_does (expires 12 5 0)
    ∷ far_does receives
    ∷ near_does receives
    ∷ far_does receives
    ∷ near_does receives
    ∷ near_does receives
    ∷ far_does (calls 6 Acm (0x01 ∷ []))
    ∷ near_does receives
    ∷ near_does (orders (release_order five 0 16))
    ∷ far_does receives
    ∷ near_does receives
    ∷ far_does receives
    ∷ near_does receives
    ∷ []

abbrev pub near_last : State
near_last = (play first_cic equipment true script (fresh_state 32 equipment) (fresh_state 32 equipment)).0

abbrev pub far_last : State
far_last = (play first_cic equipment true script (fresh_state 32 equipment) (fresh_state 32 equipment)).1

pub record Played : Type 0 where
  pub reached : Reaches first_cic equipment true near_last far_last
  pub lines : (near_last.line ≡ []) × (far_last.line ≡ [])
  -- no step was refused: what each told
  pub near_told : near_last.told
      ≡ Send 0 11 ∷ Send 0 11 ∷ Send 11 10 ∷ Send 0 3 ∷ Begun Outgoing six ∷ Send 0 4 ∷ Send 0 3 ∷ Begun Incoming five ∷ Send 0 8 ∷ Ended ReleaseComplete five ∷ []
  pub far_told : far_last.told
      ≡ Send 0 6 ∷ Send 0 11 ∷ Send 0 11 ∷ Begun Outgoing five ∷ Send 0 4 ∷ Begun Outgoing six ∷ Send 0 4 ∷ Send 0 3 ∷ Ended DualSeizure six ∷ Begun Incoming six ∷ Send 0 3
      ∷ Ended ReleaseReceived five ∷ Send 0 4 ∷ []
  -- the blocks are set and known, and circuit 6 has the call of the near end
  pub hardware : (is_set (at near_last 17).local.hardware ≡ true) × ((at far_last 17).far.hardware ≡ true)
  pub maintenance : (is_set (at near_last 5).local.maintenance ≡ true) × ((at far_last 5).far.maintenance ≡ true)
  pub talking : ((at near_last 6).call ≡ Talking) × ((at far_last 6).call ≡ Talking)
