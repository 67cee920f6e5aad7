use Rattle.std.proofs.Common.{◌≡◌, ℕ, ◌+◌, ◌*◌, ◌<◌, ◌≤◌, ◌&&◌, ltb, sym, refl, ◌∙◌, ⊎_elim, arith}
use Rattle.std.proofs.lemmas.Bool.{and_right, cases_lt, cases_eq, lt-ltb}
use Rattle.supervision.specs.Due.{holds}
use Rattle.supervision.specs.Trunks.{placed}
use Rattle.supervision.proofs.Bits.{no_bits, some_bits}
use Rattle.supervision.proofs.due.Condition.is_in.Goals as goal

pub loop-slot-init : goal.loop-slot-init
loop-slot-init c = λ j l. let e : j ≡ 0 = omega (arith, l) in rw e refl

pub loop-slot-preserved : goal.loop-slot-preserved
loop-slot-preserved c = λ j l. ⊎_elim
    (λ (e : j ≡ c.loop-slot.slot). rw e (and_right (ltb 0 c.loop-slot.slot) _ (sym c.is_at.ensures ∙ c.if-is_at.false)))
    (λ (e : j ≡ c.loop-slot.slot → ⊥).
    c.loop-slot.invariant j (⊎_elim (λ (y : j < c.loop-slot.slot). y) (λ (y : c.loop-slot.slot ≤ j). absurd (e (omega (arith, l, y)))) (cases_lt j c.loop-slot.slot)))
    (cases_eq j c.loop-slot.slot)

pub returns-then-is_at : goal.returns-then-is_at
returns-then-is_at c =
    let T = c.args.table.now in
    let test = λ (j : ℕ). ltb 0 j && ((placed T (c.args.system * 32 + j)).equipped && holds c.args.self (placed T (c.args.system * 32 + j))) in
    rw (some_bits test 32 c.loop-slot.slot (omega arith) (rw (lt-ltb 0 c.loop-slot.slot (omega arith)) (sym c.is_at.ensures ∙ c.if-is_at.true))) refl

pub returns : goal.returns
returns c =
    let T = c.args.table.now in
    let e : c.loop-slot.slot ≡ 32 = omega arith in
    rw (no_bits (λ (j : ℕ). ltb 0 j && ((placed T (c.args.system * 32 + j)).equipped && holds c.args.self (placed T (c.args.system * 32 + j)))) 32 (rw e at c.loop-slot.invariant)) refl
