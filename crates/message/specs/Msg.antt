-- A message as numbers and lists.
use Rattle.std.specs.Prelude.{ℕ, List}
use Rattle.message.specs.declared.kinds.Single.{Single}
use Rattle.message.specs.declared.kinds.Grouped.{Grouped}
use Rattle.message.specs.declared.kinds.CallKind.{CallKind}
use Rattle.message.specs.declared.kinds.Kind.{Kind}
use Rattle.message.specs.declared.kinds.Kind.TheVariants as kind

-- the first number is the CIC
pub data Msg : Type 0 where
  single : ℕ → Single → Msg
  release_complete : ℕ → Msg
  -- the range
  group_reset : ℕ → ℕ → Msg
  -- the range and the status
  group_reset_ack : ℕ → ℕ → List ℕ → Msg
  -- the indicator, the range and the status
  grouped : ℕ → Grouped → ℕ → ℕ → List ℕ → Msg
  -- the cause
  release : ℕ → List ℕ → Msg
  -- the body
  call : ℕ → CallKind → List ℕ → Msg

abbrev pub cic_in : Msg → ℕ
cic_in (single c k) = c
cic_in (release_complete c) = c
cic_in (group_reset c r) = c
cic_in (group_reset_ack c r s) = c
cic_in (grouped c k i r s) = c
cic_in (release c x) = c
cic_in (call c k x) = c

abbrev pub kind_in : Msg → Kind
kind_in (single c k) = kind.Single k
kind_in (release_complete c) = kind.ReleaseComplete
kind_in (group_reset c r) = kind.GroupReset
kind_in (group_reset_ack c r s) = kind.GroupResetAck
kind_in (grouped c k i r s) = kind.Grouped k
kind_in (release c x) = kind.Release
kind_in (call c k x) = kind.Call k
