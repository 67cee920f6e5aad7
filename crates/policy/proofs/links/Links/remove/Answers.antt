use Rattle.std.proofs.Common.{Bool, List, take, ap, ◌∙◌, refl}
use Rattle.policy.specs.Fields.{blank}
use Rattle.policy.proofs.Fields.{field_at, field_kept, field_set, take-set}
use Rattle.policy.specs.declared.links.Link.{Link}
use Rattle.policy.proofs.links.Links.remove.Goals as goal

pub returns-clause-newer : goal.returns-clause-newer
returns-clause-newer c =
    let f = field_at (λ (l : Link). l.older) c.args.self.now.links c.args.at blank in
    let h = field_at (λ (l : Link). l.newer) c.args.self.now.links c.args.at blank in
    field_kept (λ (l : Link). l.newer) _ _ _ blank refl ∙ cc

pub returns-clause-older : goal.returns-clause-older
returns-clause-older c =
    let f = field_at (λ (l : Link). l.older) c.args.self.now.links c.args.at blank in
    let h = field_at (λ (l : Link). l.newer) c.args.self.now.links c.args.at blank in
    field_kept (λ (l : Link). l.older) _ _ _ blank refl ∙ cc

pub returns-clause-marks : goal.returns-clause-marks
returns-clause-marks c =
    ap (λ (ms : List Bool). take 512 ms) (field_set (λ (l : Link). l.linked) _ _ _) ∙ take-set 512 _ _ _ ∙ cc
