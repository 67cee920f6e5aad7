use Rattle.std.proofs.Common.{◌≡◌, true, false, Some, None, rules, tests}
use Rattle.std.proofs.lemmas.Iterator.{first_from_Range}
use Rattle.status.specs.Bits.{is_named}
use Rattle.status.proofs.Names.{first_set}
use Rattle.status.proofs.group.Group.next_set.Goals as goal

pub returns-in_err-n : goal.returns-in_err-n
returns-in_err-n c =
    let r = c.args.self.range.0 in
    let xs = c.args.self.status.now in
    let f = first_from_Range _ _ _ _ (λ k. is_named r xs k ≡ true) (λ k. is_named r xs k ≡ false) c.find.ensures.ran
    (λ x q k. search (rules, tests)) (λ x q k. search (rules, tests)) in
    rw c.from_residual.ensures (first_set r xs c.args.from None (rw c.in_err-n.was at f))

pub returns : goal.returns
returns c =
    let r = c.args.self.range.0 in
    let xs = c.args.self.status.now in
    let f = first_from_Range _ _ _ _ (λ k. is_named r xs k ≡ true) (λ k. is_named r xs k ≡ false) c.find.ensures.ran
    (λ x q k. search (rules, tests)) (λ x q k. search (rules, tests)) in
    first_set r xs c.args.from (Some c.in_ok-n.n) (rw c.in_ok-n.was at f)
