use Rattle.std.proofs.Common.{ℕ, ◌++◌, length, take, Ok, Err, sym, refl, ap, ◌∙◌, subst}
use Rattle.std.proofs.lemmas.List.{with_items_is}
use Rattle.std.proofs.lemmas.Result.{err_from_is_err_and}
use Rattle.std.specs.Vec.{with_items}
use Rattle.supervision.specs.Lending.{lent}
use Rattle.interworking.specs.Acting.{Acted}
use Rattle.interworking.specs.Exchanges.{Exchange}
use Rattle.interworking.specs.Lines.{carried, messages, sizes_in}
use Rattle.interworking.specs.declared.fault.Fault.TheVariants.{Refused}
use Rattle.interworking.proofs.Doing.{fills, same_size, accepts, refuses, wanting}
use Rattle.interworking.proofs.end.End.act.Goals as goal

pub returns-in_err-reserve : goal.returns-in_err-reserve
returns-in_err-reserve g c =
    let p = err_from_is_err_and c.from_residual.result c.from_residual.ensures.1 in
    rw (p.1, p.2, c.reserve.ensures.items, c.self.view_is) (wanting c.args.task c.args.self.now)

pub returns-in_err-reserve-2 : goal.returns-in_err-reserve-2
returns-in_err-reserve-2 g c =
    let p = err_from_is_err_and c.from_residual-in_err-reserve-2.result c.from_residual-in_err-reserve-2.ensures.1 in
    rw (p.1, p.2, c.reserve.ensures.items, c.reserve-2.ensures.same, c.self.view_is) (wanting c.args.task c.args.self.now)

pub post-requires-clause-whole : goal.post-requires-clause-whole
post-requires-clause-whole g c =
    let i = c.self.inside in
    let x : Exchange = record { config = i.trunk.config; table = i.table.items; held = g.P.Policy.held i.policy; told = i.told.items; line = carried i.line } in
    let after = lent c.perform.new.table (g.P.Policy.held c.perform.new.policy) c.perform.new.words c.perform.new.octets in
    fills g.P.Policy.PLACES c.args.task x c.deref_mut.result.now c.perform.result after (c.in_ok-count.count, c.in_ok-count.size) c.deref_mut.ensures.value (g.met.P.Policy.sized i.policy) c.perform.ensures c.in_ok-count.was

pub returns : goal.returns
returns g c =
    let i = c.self.inside in
    let room = g.P.Policy.PLACES in
    let T = c.deref_mut.result.now in
    let e = c.deref_mut.ensures.value in
    let s = g.met.P.Policy.sized i.policy in
    let x : Exchange = record { config = i.trunk.config; table = i.table.items; held = g.P.Policy.held i.policy; told = i.told.items; line = carried i.line } in
    let after = lent c.perform.new.table (g.P.Policy.held c.perform.new.policy) c.perform.new.words c.perform.new.octets in
    let n : ℕ × ℕ = (c.in_ok-count.count, c.in_ok-count.size) in
    let size = same_size room c.args.task x T c.perform.result after e s c.perform.ensures in
    let more = take n.0 after.words in
    let put = messages (sizes_in more) (take n.1 after.octets) in
    let y : Exchange = record { config = i.trunk.config; table = (with_items i.table after.table).items; held = after.held; told = c.append.new.list.items; line = carried c.post.new.self } in
    subst (λ (z : Exchange). Acted c.args.task (Ok n.0) z y) c.self.view_is
    (accepts room c.args.task x y T c.perform.result after n e s c.perform.ensures c.in_ok-count.was
    (record {
      config = refl;
      table = with_items_is i.table after.table (size ∙ (ap length (sym e) ∙ c.deref_mut.ensures.len));
      held = refl;
      told = c.append.ensures.items ∙ ap (λ l. l ++ more) c.reserve.ensures.items;
      line = c.post.ensures ∙ ap (λ l. l ++ put) c.reserve-2.ensures.same;
    }))

pub returns-in_err-count : goal.returns-in_err-count
returns-in_err-count g c =
    let i = c.self.inside in
    let room = g.P.Policy.PLACES in
    let T = c.deref_mut.result.now in
    let e = c.deref_mut.ensures.value in
    let s = g.met.P.Policy.sized i.policy in
    let x : Exchange = record { config = i.trunk.config; table = i.table.items; held = g.P.Policy.held i.policy; told = i.told.items; line = carried i.line } in
    let after = lent c.perform.new.table (g.P.Policy.held c.perform.new.policy) c.perform.new.words c.perform.new.octets in
    let size = same_size room c.args.task x T c.perform.result after e s c.perform.ensures in
    let p = err_from_is_err_and c.from_residual-in_err-count.result c.from_residual-in_err-count.ensures.1 in
    let y : Exchange = record { config = i.trunk.config; table = (with_items i.table after.table).items; held = after.held; told = c.reserve.new.self.items; line = carried c.reserve-2.new.self } in
    let f = c.in_err-count.field-0.0 in
    rw (p.1, p.2)
    (subst (λ (z : Exchange). Acted c.args.task (Err (Refused f)) z y) c.self.view_is
    (refuses room c.args.task x y T c.perform.result after f e s c.perform.ensures c.in_err-count.was refl
    (with_items_is i.table after.table (size ∙ (ap length (sym e) ∙ c.deref_mut.ensures.len))) refl c.reserve.ensures.items c.reserve-2.ensures.same))
