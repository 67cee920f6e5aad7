-- What a length octet, a range and its status are read as.
use Rattle.std.specs.Prelude.{ℕ, ◌+◌, Bool, cond, ◌&&◌, List, length, drop, Ok, Err, Result, ◌==◌, nat_le, slice_index}
use Rattle.status.specs.Bits.{octets_for, set_bits}
use Rattle.status.specs.declared.fault.ParamFault.{ParamFault}
use Rattle.status.specs.declared.fault.ParamFault.TheVariants.{Layout, Limit}
use Rattle.status.specs.declared.group.Group.{Group}
use Rattle.status.specs.declared.group.TheConstants.{MAX_SET_BITS}

-- the length octet counts the range and its status, and nothing follows them
abbrev pub laid_out : List ℕ → Bool
laid_out xs = nat_le 2 (length xs) && (slice_index xs 0 == 1 + octets_for (slice_index xs 1) && length xs == 2 + octets_for (slice_index xs 1))

-- a range is from 1 to most, and no more of its bits are set than may be
abbrev pub within : ℕ → ℕ → List ℕ → Bool
within most r s = nat_le 1 r && (nat_le r most && nat_le (set_bits s (r + 1)) MAX_SET_BITS)

-- a range and its status in a message of type t
abbrev pub read_group : ℕ → ℕ → List ℕ → Result (ℕ × List ℕ) ParamFault
read_group t most xs = cond (laid_out xs) (cond (within most (slice_index xs 1) (drop 2 xs)) (Ok (slice_index xs 1, drop 2 xs)) (Err (Limit t))) (Err (Layout t))

-- what the code read, with the octets that its reference points to
abbrev pub seen_group : Result Group ParamFault → Result (ℕ × List ℕ) ParamFault
seen_group (Ok g) = Ok (g.range.0, g.status.now)
seen_group (Err f) = Err f
