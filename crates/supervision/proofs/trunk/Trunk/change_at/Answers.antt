use Rattle.std.proofs.Common.{◌≡◌, eqb, map, length, set, ap, ◌∙◌, arith}
use Rattle.status.specs.declared.cic.Cic.{Cic}
use Rattle.circuit.specs.Laws.{told_of}
use Rattle.words.specs.Words.{number_of}
use Rattle.supervision.specs.Lending.{over}
use Rattle.supervision.specs.Trunks.{cic_at}
use Rattle.supervision.proofs.Extending.{stood_done}
use Rattle.supervision.proofs.Finishing.{stood_one}
use Rattle.supervision.proofs.Stepping.{told_short}
use Rattle.supervision.proofs.Turning.{tells_one}
use Rattle.supervision.proofs.trunk.Trunk.change_at.Goals as goal

pub returns-clause-done : goal.returns-clause-done
returns-clause-done g c = λ rule is O.
    let t = c.args.self.config in
    let T = c.args.table.now in
    let H = g.P.Policy.held c.args.policy.now in
    let W = c.args.words.now in
    let p = c.args.place.0 in
    let x = c.args.change in
    let short = told_short (cic_at t p) x in
    let count : c.store.result ≡ length (told_of (cic_at t p) x) = c.store.ensures.count ∙ ap (λ (z : Cic). length (told_of z x)) c.cic_at.ensures in
    let words = c.store.ensures.words ∙ ap (λ (z : Cic). over (map number_of (told_of z x)) W) c.cic_at.ensures in
    let stood = stood_one t p rule x T H W (set T p c.store.new.circuit) (g.P.Policy.held c.store.new.policy) c.store.new.words c.store.result
    is c.requires.inside c.requires.room c.requires.equipped (ap (set T p) c.store.ensures.circuit) c.store.ensures.held words count in
    stood_done t (λ k. eqb k p) (λ _. rule) T H W O (set T p c.store.new.circuit) (g.P.Policy.held c.store.new.policy) c.store.new.words c.store.result
    stood (omega (arith, count, short)) (let r = c.requires.room in omega (arith, count, short, r))

pub returns-clause-policy : goal.returns-clause-policy
returns-clause-policy g c =
    let T = c.args.table.now in
    let p = c.args.place.0 in
    rw c.store.ensures.circuit (tells_one g.P.Policy.obeys T c.args.change.circuit p c.args.policy.now c.store.new.policy c.requires.inside c.store.ensures.policy)

pub returns-clause-few : goal.returns-clause-few
returns-clause-few g c =
    let t = c.args.self.config in
    let x = c.args.change in
    let short = told_short (cic_at t c.args.place.0) x in
    let count : c.store.result ≡ length (told_of (cic_at t c.args.place.0) x) = c.store.ensures.count ∙ ap (λ (z : Cic). length (told_of z x)) c.cic_at.ensures in
    omega (arith, count, short)
