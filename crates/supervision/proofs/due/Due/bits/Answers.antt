use Rattle.std.proofs.Common.{◌≡◌, ℕ, suc, ◌+◌, ◌-◌, Bool, true, false, ◌&&◌, leb, sym, refl, ◌∙◌, arith}
use Rattle.std.proofs.lemmas.Bool.{and_left, and_right}
use mir.Val.{bool_byte}
use Rattle.supervision.specs.Due.{is_due}
use Rattle.supervision.specs.Steps.{touched}
use Rattle.supervision.specs.Trunks.{placed}
use Rattle.supervision.proofs.Bits.{bit_of, bits_more, bits_rest}
use Rattle.supervision.proofs.Touching.{touched_past}
use Rattle.supervision.proofs.due.Due.bits.Goals as goal

byte_is : (b : Bool) → bool_byte b ≡ bit_of b
byte_is true = refl
byte_is false = refl

pub overflow_add-bits : goal.overflow_add-bits
overflow_add-bits c =
    let n = c.loop-n.n in
    let p = λ (j : ℕ). leb c.args.start j && is_due c.args.self (c.args.from.0 + j) (placed c.args.table.now (c.args.from.0 + j)) in
    let more = bits_more p n (omega arith) in
    rw (c.loop-n.invariant, c.from.ensures, c.is_at.ensures, byte_is (p n), more.0) (omega (arith, more.1))

pub loop-n-preserved : goal.loop-n-preserved
loop-n-preserved c =
    let n = c.loop-n.n in
    let p = λ (j : ℕ). leb c.args.start j && is_due c.args.self (c.args.from.0 + j) (placed c.args.table.now (c.args.from.0 + j)) in
    let e : n + 1 ≡ suc n = omega arith in
    rw (e, c.loop-n.invariant, c.from.ensures, c.is_at.ensures, byte_is (p n)) (bits_more p n (omega arith)).0

pub returns : goal.returns
returns c =
    let n = c.loop-n.n in
    let T = c.args.table.now in
    let p = λ (j : ℕ). leb c.args.start j && is_due c.args.self (c.args.from.0 + j) (placed T (c.args.from.0 + j)) in
    let all : n + (32 - n) ≡ 32 = omega arith in
    let rest = bits_rest p n (32 - n)
    (λ j a b.
    let past = touched_past c.args.self.effect c.args.self.slots (c.args.from.0 + j) (omega (arith, a, b)) in
    and_right (leb c.args.start j) _ (and_left (touched c.args.self.effect c.args.self.slots (c.args.from.0 + j)) _ past)) in
    c.loop-n.invariant ∙ sym (rw all at rest)
