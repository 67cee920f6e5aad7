-- Messages that may be written: their CICs fit, and they keep sizes and limits.
use Rattle.std.proofs.Common.{◌≡◌, ℕ, ◌+◌, ◌≤◌, true, leb, List, length, None, refl, arith}
use Rattle.std.proofs.lemmas.Bool.{eq-eqb, le-leb}
use Rattle.status.specs.Bits.{octets_for, set_bits}
use Rattle.status.proofs.Bits.{set_few}
use Rattle.message.specs.Decode.{within}
use Rattle.message.specs.Encode.{sized, refusal_of}
use Rattle.message.specs.Meaning.{indicator_of}
use Rattle.message.specs.Msg.{Msg, grouped, group_reset_ack, cic_in}
use Rattle.message.specs.declared.kinds.BlockType.{BlockType}
use Rattle.message.specs.declared.kinds.BlockType.TheVariants.{Maintenance, Hardware}
use Rattle.message.specs.declared.kinds.Grouped.{Grouped}

pub may_be_sent : (m : Msg) → cic_in m ≤ 4095 → within m ≡ true → sized m ≡ true → refusal_of m ≡ None
may_be_sent m l w z = let b : leb (cic_in m) 4095 ≡ true = le-leb (cic_in m) 4095 l in rw (z, b, w) refl

-- our own group messages
pub own_group : (c : ℕ) (what : Grouped) (why : BlockType) (s : List ℕ) → c ≤ 4095 → length s ≡ 4 → refusal_of (grouped c what (indicator_of why) 30 s) ≡ None
own_group c what why s l z = may_be_sent (grouped c what (indicator_of why) 30 s) l (limits why) (eq-eqb (length s) 4 z)
  where
    few : leb (set_bits s 31) 32 ≡ true
    few = let h = set_few s 31 in le-leb (set_bits s 31) 32 (omega (arith, h))

    limits : (w : BlockType) → within (grouped c what (indicator_of w) 30 s) ≡ true
    limits Maintenance = few
    limits Hardware = few

-- the answer to a group reset
pub own_reset_ack : (c r : ℕ) (s : List ℕ) → c ≤ 4095 → 1 ≤ r → r ≤ 31 → length s ≡ octets_for r → refusal_of (group_reset_ack c r s) ≡ None
own_reset_ack c r s l low high z =
    let few = set_few s (r + 1) in
    let f : leb (set_bits s (r + 1)) 32 ≡ true = le-leb (set_bits s (r + 1)) 32 (omega (arith, few, high)) in
    may_be_sent (group_reset_ack c r s) l (rw (le-leb 1 r low, le-leb r 31 high, f) refl) (eq-eqb (length s) (octets_for r) z)
