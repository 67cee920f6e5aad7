use Rattle.std.proofs.Common.{◌≡◌, ◌+◌, ◌-◌, ◌<◌, get_or, length, take, sym, ap, ◌∙◌, subst, arith}
use Rattle.std.proofs.lemmas.List.{length-take-le}
use Rattle.std.specs.List.{sum}
use Rattle.interworking.proofs.Cuts.{length_messages, messages_at}
use Rattle.interworking.proofs.line.Line.get.Goals as goal

pub returns : goal.returns
returns c =
    let n = c.args.n in
    let ns = c.args.self.now.sizes.items in
    let o = c.args.self.now.octets.items in
    let start = c.loop-before.start in
    let size = c.in_ok-size.field-0.now in
    let inside : n < length ns = subst (λ l. n < length l) c.deref.ensures.value c.in_ok-size.ensures.lookup.3.0 in
    let is : size ≡ get_or ns n 0 = c.in_ok-size.ensures.lookup.3.1 0 ∙ ap (λ l. get_or l n 0) c.deref.ensures.value in
    let gone : length (take n c.deref-2.result.now) ≡ n = ap (λ l. length (take n l)) c.deref-2.ensures.value ∙ length-take-le n ns (omega (arith, inside)) in
    let last : c.loop-before.before-index ≡ n = omega (arith, gone, c.loop-before-test.false, c.loop-before.auto.before-index-end) in
    let begins : start ≡ sum (take n ns) = c.loop-before.invariant.summed ∙ ap (λ k. sum (take k ns)) last in
    let long : start + size - start ≡ get_or ns n 0 = omega (arith, is) in
    let whole = messages_at ns o n inside in
    let count = length_messages ns o in
    (omega (arith, count, inside), rw (long, c.deref-3.ensures.value, begins) (sym whole))
