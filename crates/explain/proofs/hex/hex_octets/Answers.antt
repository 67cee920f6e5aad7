use Rattle.std.proofs.Common.{◌≡◌, ◌-◌, length, take, drop, vec_items, sym, ◌∙◌, arith, length-drop}
use Rattle.std.proofs.lemmas.List.{take_all}
use Rattle.explain.proofs.Hexes.{past_octet}
use Rattle.explain.proofs.hex.hex_octets.Goals as goal

pub loop-rest-preserved : goal.loop-rest-preserved
loop-rest-preserved c =
    let xs = c.loop-rest.rest.now in
    let ys = vec_items c.loop-rest.octets in
    let e : take (length xs - 2) (drop 2 xs) ≡ drop 2 xs = take_all (length xs - 2) (drop 2 xs) (simp length-drop (omega arith)) in
    rw (c.in_ok-push.ensures.items, e) (past_octet xs ys c.in-Some.octet (omega arith) c.if-first-eq32.false (sym c.in-Some.ensures)
    ∙ c.loop-rest.invariant)
