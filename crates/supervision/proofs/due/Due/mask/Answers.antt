use Rattle.std.proofs.Common.{◌≡◌, ℕ, ◌+◌, ◌*◌, ◌&&◌, leb, ltb, ap, ◌∙◌, arith}
use Rattle.supervision.specs.Due.{is_due}
use Rattle.supervision.specs.Trunks.{placed}
use Rattle.supervision.proofs.Bits.{bits_same}
use Rattle.supervision.proofs.due.Due.mask.Goals as goal

pub returns : goal.returns
returns c =
    let T = c.args.table.now in
    let at = c.args.system * 32 in
    c.bits.ensures
    ∙ bits_same (λ n. leb 1 n && is_due c.args.self (at + n) (placed T (at + n))) (λ n. ltb 0 n && is_due c.args.self (at + n) (placed T (at + n))) 32
    (λ n l. ap (λ b. b && is_due c.args.self (at + n) (placed T (at + n))) (positive n))
  where
    positive : (n : ℕ) → leb 1 n ≡ ltb 0 n
    positive n = grind arith
