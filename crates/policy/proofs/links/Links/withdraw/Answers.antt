use Rattle.std.proofs.Common.{◌≡◌, false, get_or, ◌∙◌, arith}
use Rattle.std.proofs.lemmas.List.{get_or_past}
use Rattle.policy.proofs.Fields.{mark_at}
use Rattle.policy.proofs.Keeping.{older_leads, newer_leads, same_mark, withdraw_member, withdraw_other}
use Rattle.policy.specs.Fields.{marks-length}
use Rattle.policy.specs.Orders.{marks}
use Rattle.policy.proofs.links.Links.withdraw.Goals as goal
use Rattle.policy.proofs.links.Links.withdraw.Goals.{else-at-lt-MOST_PLACES-via-then-at-lt-MOST_PLACES+else-self-at, else-at-lt-MOST_PLACES-via-else-at-lt-MOST_PLACES}

pub remove-requires-clause-older : goal.remove-requires-clause-older
remove-requires-clause-older c =
    let ls = c.args.self.now.links in
    older_leads c.requires.kept.0 ls c.args.at c.requires.size (mark_at ls c.args.at c.if-at-lt-MOST_PLACES.true ∙ c.if-self-at.true) c.requires.kept.1

pub remove-requires-clause-newer : goal.remove-requires-clause-newer
remove-requires-clause-newer c =
    let ls = c.args.self.now.links in
    newer_leads c.requires.kept.0 ls c.args.at c.requires.size (mark_at ls c.args.at c.if-at-lt-MOST_PLACES.true ∙ c.if-self-at.true) c.requires.kept.1

pub returns-then-self-at-clause-order : goal.returns-then-self-at-clause-order
returns-then-self-at-clause-order c e =
    let ls = c.args.self.now.links in
    let p = c.remove.ensures in
    withdraw_member e ls _ c.args.at c.requires.size (mark_at ls c.args.at c.if-at-lt-MOST_PLACES.true ∙ c.if-self-at.true) p.newer p.older p.marks

-- the place is out
out : (c : goal.Joined-else-at-lt-MOST_PLACES) → get_or (marks c.args.self.now.links) c.args.at false ≡ false
out c =
    let ls = c.args.self.now.links in
    elim c.else-at-lt-MOST_PLACES.branch [
      | else-at-lt-MOST_PLACES-via-then-at-lt-MOST_PLACES+else-self-at w ↦ mark_at ls c.args.at w.if-at-lt-MOST_PLACES.true ∙ w.if-self-at.false
      | else-at-lt-MOST_PLACES-via-else-at-lt-MOST_PLACES w ↦
          let n = marks-length ls c.requires.size in
          get_or_past (marks ls) c.args.at false (omega arith)
    ]

pub returns-else-at-lt-MOST_PLACES-clause-set : goal.returns-else-at-lt-MOST_PLACES-clause-set
returns-else-at-lt-MOST_PLACES-clause-set c = same_mark (marks c.args.self.now.links) c.args.at false (out c)

pub returns-else-at-lt-MOST_PLACES-clause-order : goal.returns-else-at-lt-MOST_PLACES-clause-order
returns-else-at-lt-MOST_PLACES-clause-order c e = withdraw_other e c.args.self.now.links c.args.at (out c)
