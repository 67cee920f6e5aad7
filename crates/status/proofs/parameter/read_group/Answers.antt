use Rattle.std.proofs.Common.{◌≡◌, ◌+◌, ◌-◌, length, get_or, take, drop, arith, length-drop}
use Rattle.std.proofs.lemmas.Bool.Decides.{nat_tests}
use Rattle.std.proofs.lemmas.List.{take_all}
use Rattle.status.proofs.Bits.{set_few}
use Rattle.status.proofs.parameter.read_group.Goals as goal

pub returns : goal.returns
returns c =
    let xs = c.args.part.now in
    let e : take (length xs - 2) (drop 2 xs) ≡ drop 2 xs = take_all (length xs - 2) (drop 2 xs) (simp length-drop (omega arith)) in
    let few = set_few (drop 2 xs) (get_or xs 1 0 + 1) in
    rw e (grind (arith, nat_tests))
