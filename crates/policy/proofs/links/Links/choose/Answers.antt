use Rattle.std.proofs.Common.{rules, ◌≡◌, ◌<◌, ◌≤◌, None, Some, ⊎_elim, get_or, slice_index, arith}
use Rattle.std.proofs.lemmas.Bool.{cases_lt}
use Rattle.std.proofs.lemmas.Bool.Decides.{nat_tests}
use Rattle.policy.specs.Fields.{blank}
use Rattle.policy.proofs.Fields.{field_at}
use Rattle.policy.proofs.Keeping.{chosen_first, chosen_last, chosen_none}
use Rattle.policy.specs.Orders.{newers, olders}
use Rattle.policy.specs.declared.links.Link.{Link}
use Rattle.policy.proofs.links.Links.choose.Goals as goal

pub returns : goal.returns
returns c e zs o =
    let ls = c.args.self.now.links in
    let x = (get_or ls 512 blank).newer in
    let y = (get_or ls 513 blank).older in
    let p : slice_index (newers ls) 512 ≡ x = field_at (λ (l : Link). l.newer) ls 512 blank in
    let q : slice_index (olders ls) 513 ≡ y = field_at (λ (l : Link). l.older) ls 513 blank in
    ⊎_elim
    (λ (h : x < 512).
    let r = chosen_first e ls x c.requires p h zs o in
    let n : c.place_at-first.result ≡ Some (record { 0 = x }) = grind (arith, nat_tests, c.place_at-first.ensures) in
    let g = rw n at c.or_else.ensures in
    grind (arith, nat_tests, r, g))
    (λ (h : 512 ≤ x).
    let n : c.place_at-first.result ≡ None = grind (arith, nat_tests, c.place_at-first.ensures) in
    let g = rw n at c.or_else.ensures in
    ⊎_elim
    (λ (j : y < 512). let r = chosen_last e ls x y c.requires p h q j zs o in grind (arith, nat_tests, r, g))
    (λ (j : 512 ≤ y). let r = chosen_none e ls x y c.requires p h q j zs o in search (rules, r, g))
    (cases_lt y 512))
    (cases_lt x 512)
