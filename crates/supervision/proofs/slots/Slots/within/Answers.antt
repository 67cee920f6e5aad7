use Rattle.std.proofs.Common.{◌-◌, ◌^◌, ◌<◌, refl, arith}
use Rattle.std.proofs.Math.Pow.{pow-lt}
use Rattle.std.proofs.lemmas.Nat.{pow_pos}
use Rattle.supervision.proofs.Walking.{cut_bit, whole_bit}
use Rattle.supervision.proofs.slots.Slots.within.Goals as goal

pub nonzero_rem-result : goal.nonzero_rem-result
nonzero_rem-result c =
    let last = c.args.self.group.range.0 - c.args.n in
    let below : last < 31 = omega arith in
    let small : 2 ^ last < 2 ^ 31 = pow-lt below in
    let some = pow_pos last in
    omega (arith, small, some)

pub returns-then-last-lt31 : goal.returns-then-last-lt31
returns-then-last-lt31 c = λ j l. cut_bit c.args.bits (c.args.self.group.range.0 - c.args.n) c.args.n c.args.self.group.range.0 j refl c.requires (omega arith) l

pub returns : goal.returns
returns c = λ j l. whole_bit c.args.bits c.args.n c.args.self.group.range.0 j c.requires (omega arith) l
