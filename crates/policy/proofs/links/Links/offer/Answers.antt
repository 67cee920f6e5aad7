use Rattle.std.proofs.Common.{◌≡◌, true, get_or, set, sym, refl, subst, ◌∙◌, arith, ◌<◌, ℕ, slice_index}
use Rattle.std.proofs.lemmas.List.{set_past}
use Rattle.policy.specs.Fields.{marks-length}
use Rattle.policy.proofs.Fields.{mark_at}
use Rattle.policy.proofs.Keeping.{end_first, end_leads, offer_member, offer_new, offer_past, same_mark}
use Rattle.policy.specs.Orders.{marks, olders}
use Rattle.policy.proofs.links.Links.offer.Goals as goal
use Rattle.policy.proofs.links.Links.offer.Goals.{else-at-lt-MOST_PLACES-via-then-at-lt-MOST_PLACES+else-not-self-at, else-at-lt-MOST_PLACES-via-else-at-lt-MOST_PLACES}

pub append-requires-clause-newest : goal.append-requires-clause-newest
append-requires-clause-newest c =
    let ls = c.args.self.now.links in
    subst (λ (end : ℕ). slice_index (olders ls) end < 514) (sym c.end_for.ensures) (end_leads c.args.even ls c.args.at c.requires.size c.requires.kept)

pub returns-then-not-self-at-clause-order : goal.returns-then-not-self-at-clause-order
returns-then-not-self-at-clause-order c =
    let ls = c.args.self.now.links in
    let at = c.args.at in
    let end = c.end_for.result in
    let p = c.append.ensures in
    let swap = end_first c.args.even at end (get_or (olders ls) end 0) at (olders ls) c.if-at-lt-MOST_PLACES.true c.end_for.ensures in
    let o : olders c.append.new.self.links ≡ set (set (olders ls) end at) at (get_or (olders ls) end 0) = cc in
    offer_new c.args.even ls _ at end c.requires.size c.if-at-lt-MOST_PLACES.true (mark_at ls at c.if-at-lt-MOST_PLACES.true ∙ c.if-not-self-at.true)
    c.end_for.ensures p.newer o p.marks

pub returns-else-at-lt-MOST_PLACES-clause-set : goal.returns-else-at-lt-MOST_PLACES-clause-set
returns-else-at-lt-MOST_PLACES-clause-set c =
    let ls = c.args.self.now.links in
    elim c.else-at-lt-MOST_PLACES.branch [
      | else-at-lt-MOST_PLACES-via-then-at-lt-MOST_PLACES+else-not-self-at w ↦
          same_mark (marks ls) c.args.at true (mark_at ls c.args.at w.if-at-lt-MOST_PLACES.true ∙ w.if-not-self-at.false)
      | else-at-lt-MOST_PLACES-via-else-at-lt-MOST_PLACES w ↦
          let n = marks-length ls c.requires.size in
          sym (set_past (marks ls) c.args.at true (omega arith))
    ]

pub returns-else-at-lt-MOST_PLACES-clause-order : goal.returns-else-at-lt-MOST_PLACES-clause-order
returns-else-at-lt-MOST_PLACES-clause-order c =
    let ls = c.args.self.now.links in
    elim c.else-at-lt-MOST_PLACES.branch [
      | else-at-lt-MOST_PLACES-via-then-at-lt-MOST_PLACES+else-not-self-at w ↦
          let t = mark_at ls c.args.at w.if-at-lt-MOST_PLACES.true ∙ w.if-not-self-at.false in
          offer_member c.args.even ls ls c.args.at t refl refl (same_mark (marks ls) c.args.at true t)
      | else-at-lt-MOST_PLACES-via-else-at-lt-MOST_PLACES w ↦ offer_past c.args.even ls c.args.at w.if-at-lt-MOST_PLACES.false
    ]
