use Rattle.std.proofs.Common.{◌≡◌, ◌+◌, ◌-◌, ◌++◌, replicate, take, length, sym, ap, ◌∙◌, arith}
use Rattle.std.proofs.lemmas.List.{with_items_is, length-append}
use Rattle.std.specs.Vec.{vec_len}
use borrow.Rule.Slice.PartMut.{post_of}
use Rattle.message.specs.Encode.{encode, refusal_of}
use Rattle.message.specs.Msg.{call}
use Rattle.interworking.proofs.Cuts.{written_behind, messages_push}
use Rattle.interworking.proofs.line.Line.send.Goals as goal

pub returns : goal.returns
returns c =
    let l = c.args.self.now in
    let old = l.octets.items in
    let size = c.in-Some.size in
    let start = c.len-start.result in
    let now = c.deref_mut.result.now in
    let m = call c.args.cic.0 c.args.kind c.args.body.now in
    let long : length (encode m) ≡ size = let s = c.in-Some.ensures.1 in let b : length (encode m) ≡ length c.args.body.now + 3 = omega arith in omega (arith, s, b) in
    let zeros = replicate ((start + size) - vec_len c.reserve-2.new.self) 0 in
    let kept = c.reserve-2.ensures.items in
    let grown : c.resize.new.self.items ≡ take (start + size) c.reserve-2.new.self.items ++ zeros = rw c.in_ok-resize.was at c.resize.ensures.items in
    let longer : vec_len c.resize.new.self ≡ start + size = rw c.in_ok-resize.was at c.resize.ensures.len in
    let begins : start ≡ length old = c.len-start.ensures ∙ (c.reserve-2.new.self.ok.0 ∙ ap length kept) in
    let put = take start now ++ (c.write.new.out ++ post_of start (length now - start) now) in
    let is : put ≡ old ++ encode m =
    written_behind old zeros now c.write.new.out (encode m) start size c.write.result c.in-Ok.field-0 (refusal_of m) _
    (c.deref_mut.ensures.value ∙ (grown ∙ ap (λ x. take (start + size) x ++ zeros) kept)) begins (c.deref_mut.ensures.len ∙ longer) long c.write.ensures.after c.in-Ok.is c.write.ensures.value in
    let fits : length put ≡ c.resize.new.self.len = ap length is ∙ (length-append old (encode m) ∙ (rw (← begins, long) (sym longer))) in
    rw (with_items_is c.resize.new.self put fits, is, c.push_reserved.ensures.items, c.reserve.ensures.items)
    (messages_push l.sizes.items old (encode m) size l.fits long)
