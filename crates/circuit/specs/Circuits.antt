-- What is said of a circuit's record.
use Rattle.std.specs.Prelude.{Bool, true, false, not, ◌&&◌, ◌||◌}
use Rattle.message.specs.declared.kinds.BlockType.{BlockType}
use Rattle.message.specs.declared.kinds.BlockType.TheVariants.{Maintenance, Hardware}
use Rattle.circuit.specs.declared.record.Call.{Call}
use Rattle.circuit.specs.declared.record.Call.TheVariants.{Idle, Calling, Talking, Releasing}
use Rattle.circuit.specs.declared.record.LocalBlock.{LocalBlock}
use Rattle.circuit.specs.declared.record.LocalBlock.TheVariants as local
use Rattle.circuit.specs.declared.record.Blocks.{Blocks}
use Rattle.circuit.specs.declared.record.Reset.{Reset}
use Rattle.circuit.specs.declared.record.Reset.TheVariants as reset
use Rattle.circuit.specs.declared.record.Circuit.{Circuit}

abbrev pub is_idle : Call → Bool
is_idle Idle = true
is_idle Calling = false
is_idle Talking = false
is_idle Releasing = false

-- calling
abbrev pub is_calling : Call → Bool
is_calling Idle = false
is_calling Calling = true
is_calling Talking = false
is_calling Releasing = false

-- calling or talking
abbrev pub is_connected : Call → Bool
is_connected Idle = false
is_connected Calling = true
is_connected Talking = true
is_connected Releasing = false

abbrev pub is_releasing : Call → Bool
is_releasing Idle = false
is_releasing Calling = false
is_releasing Talking = false
is_releasing Releasing = true

abbrev pub is_none : LocalBlock → Bool
is_none local.None = true
is_none local.Asked = false
is_none local.Set = false
is_none local.Lifting = false

abbrev pub is_set : LocalBlock → Bool
is_set local.None = false
is_set local.Asked = false
is_set local.Set = true
is_set local.Lifting = false

abbrev pub is_asked : LocalBlock → Bool
is_asked local.None = false
is_asked local.Asked = true
is_asked local.Set = false
is_asked local.Lifting = false

abbrev pub is_lifting : LocalBlock → Bool
is_lifting local.None = false
is_lifting local.Asked = false
is_lifting local.Set = false
is_lifting local.Lifting = true

-- asked or set
abbrev pub is_standing : LocalBlock → Bool
is_standing local.None = false
is_standing local.Asked = true
is_standing local.Set = true
is_standing local.Lifting = false

abbrev pub is_waiting : Reset → Bool
is_waiting reset.None = false
is_waiting reset.Single = true
is_waiting reset.Group = true

abbrev pub is_single : Reset → Bool
is_single reset.None = false
is_single reset.Single = true
is_single reset.Group = false

abbrev pub is_group : Reset → Bool
is_group reset.None = false
is_group reset.Single = false
is_group reset.Group = true

-- what is kept for one type of block
abbrev pub block_of : {X : Type 0} → BlockType → Blocks X → X
block_of Maintenance b = b.maintenance
block_of Hardware b = b.hardware

-- another value for one type
abbrev pub with_block : {X : Type 0} → BlockType → X → Blocks X → Blocks X
with_block Maintenance x b = record b { maintenance = x }
with_block Hardware x b = record b { hardware = x }

-- the call is not idle
abbrev pub is_engaged : Circuit → Bool
is_engaged c = not (is_idle c.call)

-- equipped, idle, without a waiting reset and without any block
abbrev pub is_open : Circuit → Bool
is_open c = c.equipped && (is_idle c.call && (not (is_waiting c.reset) && (is_none c.local.maintenance && (is_none c.local.hardware && (not c.far.maintenance && not c.far.hardware)))))

-- a waiting reset or a hardware block of either side means an idle call, and a waiting reset means no local block
abbrev pub is_sound : Circuit → Bool
is_sound c =
    (is_idle c.call || (not (is_waiting c.reset) && (is_none c.local.hardware && not c.far.hardware)))
    && (not (is_waiting c.reset) || (is_none c.local.maintenance && is_none c.local.hardware))

-- no block of either type
abbrev pub no_local : Blocks LocalBlock
no_local = record { maintenance = local.None; hardware = local.None }

abbrev pub no_far : Blocks Bool
no_far = record { maintenance = false; hardware = false }

-- newly opened: idle, no blocks, no reset, cause octets 0
abbrev pub fresh : Bool → Circuit
fresh e = record {
  equipped = e;
  call = Idle;
  local = no_local;
  far = no_far;
  reset = reset.None;
  cause = record { location_octet = 0; value_octet = 0 };
}

-- what a place past the table reads as
abbrev pub vacant : Circuit
vacant = fresh false
