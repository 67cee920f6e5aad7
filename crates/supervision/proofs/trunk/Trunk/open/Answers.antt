use Rattle.std.proofs.Common.{◌≡◌, ◌*◌, ◌≤◌, length, ap, ◌∙◌, arith}
use Rattle.std.proofs.lemmas.List.FromFn.{length-map-range_with_len}
use Rattle.circuit.specs.Circuits.{fresh}
use Rattle.supervision.specs.Opening.{open_table, open_set, equipped_at}
use Rattle.supervision.proofs.Fresh.{open_sound, open_fresh, open_set_lem}
use Rattle.supervision.proofs.trunk.Trunk.open.Goals as goal

pub returns-clause-laws : goal.returns-clause-laws
returns-clause-laws g c =
    let ws = c.args.equipment.now in
    let room = g.P.Policy.PLACES in
    let enough : length c.args.table.now ≤ room = omega (arith, c.PLACES.ensures) in
    let size : length (open_table ws) ≡ length ws * 32 = length-map-range_with_len (λ k. fresh (equipped_at ws k)) 0 (length ws * 32) in
    let held = c.offer_open.ensures.set ∙ ap (open_set room) c.fill.ensures in
    rw (held, c.fill.ensures) (open_sound ws, open_set_lem room (open_table ws) (omega (arith, c.fits_trunk.ensures.fits c.if-not-fits_trunk.false)), open_fresh ws)

pub returns-clause-policy : goal.returns-clause-policy
returns-clause-policy g c =
    let told = c.offer_open.ensures.policy in
    (c.withdraw_all.new.policy, c.withdraw_all.ensures.policy, rw (c.fill.ensures) at told)
