-- What a reading says, as eight words.
use Rattle.std.specs.Prelude.{ℕ, ◌-◌, cond, List, [], ◌∷◌, ◌++◌, length, drop, Ok, Err, Result, nat_lt, slice_index}
use Rattle.message.specs.Encode.{type_in}
use Rattle.message.specs.Faults.{number_of}
use Rattle.message.specs.Msg.{Msg, single, release_complete, group_reset, group_reset_ack, grouped, release, call, cic_in}
use Rattle.message.specs.declared.fault.MessageFault.{MessageFault}
use Rattle.message.specs.declared.fault.MessageFault.TheVariants.{NoRoom, Short, Unknown, Layout, Limit}

-- the indicator, 0 where there is none
abbrev pub indicator_in : Msg → ℕ
indicator_in (single c k) = 0
indicator_in (release_complete c) = 0
indicator_in (group_reset c r) = 0
indicator_in (group_reset_ack c r s) = 0
indicator_in (grouped c k i r s) = i
indicator_in (release c x) = 0
indicator_in (call c k x) = 0

-- the range, 0 where there is none
abbrev pub range_in : Msg → ℕ
range_in (single c k) = 0
range_in (release_complete c) = 0
range_in (group_reset c r) = r
range_in (group_reset_ack c r s) = r
range_in (grouped c k i r s) = r
range_in (release c x) = 0
range_in (call c k x) = 0

-- the status, the cause or the body
abbrev pub part_in : Msg → List ℕ
part_in (single c k) = []
part_in (release_complete c) = []
part_in (group_reset c r) = []
part_in (group_reset_ack c r s) = s
part_in (grouped c k i r s) = s
part_in (release c x) = x
part_in (call c k x) = x

-- the type octet that a refusal carries, 0 where it has none
abbrev pub type_refused : MessageFault → ℕ
type_refused NoRoom = 0
type_refused Short = 0
type_refused (Unknown t) = t
type_refused (Layout t) = t
type_refused (Limit t) = t

-- a number, a type, a circuit, an indicator, a range, and of a part its length, its first octet and its last
abbrev pub row : ℕ → ℕ → ℕ → ℕ → ℕ → List ℕ → List ℕ
row n t c i r p = n ∷ t ∷ c ∷ i ∷ r ∷ length p ∷ slice_index p 0 ∷ slice_index p (length p - 1) ∷ []

-- the number of a refusal, and 0 where there is none
abbrev pub outcome : Result Msg MessageFault → ℕ
outcome (Ok m) = 0
outcome (Err f) = number_of f

-- the words of an accepted message
abbrev pub accepted : Msg → List ℕ
accepted m = row 0 (type_in m) (cic_in m) (indicator_in m) (range_in m) (part_in m)

-- the words of a refusal
abbrev pub refused : MessageFault → List ℕ
refused f = row (number_of f) (type_refused f) 0 0 0 []

abbrev pub report : Result Msg MessageFault → List ℕ
report (Ok m) = accepted m
report (Err f) = refused f

-- what is answered for a reading, with n words lent
abbrev pub answer : Result Msg MessageFault → ℕ → ℕ
answer x n = cond (nat_lt n 8) 3 (outcome x)

-- what is left in the words that were lent
abbrev pub reported : Result Msg MessageFault → List ℕ → List ℕ
reported x before = cond (nat_lt (length before) 8) before (report x ++ drop 8 before)
